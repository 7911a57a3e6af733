-- Arm by arm what Next.antt says: the list is off the panel or c puts it off, c is the first cell of it, c follows the last one.
use native.Mathlib.Omega.{arith}
use mathlib.Core.Path.{◌≡◌, refl, sym, ap, ◌∙◌}
use mathlib.Core.Bool.{Bool, false, ◌&&◌, and-false}
use Rattle.std.proofs.lemmas.Bool.{not-false, not-true}
use Rattle.grid.specs.Panel.{on_panel}
use Rattle.grid.proofs.Facts.{on, sides}
use Rattle.list.specs.List.{all_on}
use Rattle.scratch.proofs.Places.{place_in}
use Rattle.judge_walk.proofs.Next.{in_bytes, kept_in_bytes, takes_off, first, later, takes_on}
use Rattle.judge_walk.proofs.take_cell.Goals as goal
use Rattle.judge_walk.proofs.take_cell.Goals.{then-not-k-via-then-not-k, then-not-k-via-else-not-k+then-not-on_panel}

pub returns-then-not-k : goal.returns-then-not-k
returns-then-not-k c =
    let k = c.args.k in
    let p = c.args.o.panel in
    let cell = c.args.c in
    takes_off _ _ _ refl refl
    (λ l z. elim c.then-not-k.branch [
      | then-not-k-via-then-not-k w ↦
          let off = not-true k.on w.if-not-k.true in
          ap (λ (b : Bool). b && on_panel p cell) (sym z.on ∙ off)
      | then-not-k-via-else-not-k+then-not-on_panel w ↦
          let off : on_panel p cell ≡ false = sym w.on_panel.ensures ∙ w.if-not-on_panel.true in
          ap (λ (b : Bool). all_on p l && b) off ∙ and-false (all_on p l)
    ])

pub bounds-scratch-at : goal.bounds-scratch-at
bounds-scratch-at c =
    let here = on c.args.o.panel _ (sym c.on_panel.ensures ∙ c.if-not-on_panel.false) in
    place_in here c.place_of-at.ensures c.requires.stands.stands.room

pub bounds-scratch-at-2 : goal.bounds-scratch-at-2
bounds-scratch-at-2 c =
    let here = on c.args.o.panel c.args.c (sym c.on_panel.ensures ∙ c.if-not-on_panel.false) in
    omega (arith, place_in here c.place_of-at.ensures c.requires.stands.stands.room)

pub returns-in-None : goal.returns-in-None
returns-in-None c =
    let inside = not-false c.args.k.on c.if-not-k.false in
    let here = on c.args.o.panel _ (sym c.on_panel.ensures ∙ c.if-not-on_panel.false) in
    takes_on _ _ _ inside here c.place_of-at.ensures
    (record { on = refl; once = refl; last = refl; bytes = refl })
    (first _ _ _ refl c.eq.ensures c.in-None.is)

pub adjacent-requires : goal.adjacent-requires
adjacent-requires c =
    let g = sides c.args.o.panel c.requires.good in
    let inside = not-false c.args.k.on c.if-not-k.false in
    let here = on c.args.o.panel _ (sym c.on_panel.ensures ∙ c.if-not-on_panel.false) in
    (kept_in_bytes g c.requires.stands.stands inside c.in-Some.is, in_bytes g here)

pub returns-in-Some : goal.returns-in-Some
returns-in-Some c =
    let inside = not-false c.args.k.on c.if-not-k.false in
    let here = on c.args.o.panel _ (sym c.on_panel.ensures ∙ c.if-not-on_panel.false) in
    takes_on _ _ _ inside here c.place_of-at.ensures
    (record { on = refl; once = refl; last = refl; bytes = refl })
    (later _ _ _ (ap (λ (b : Bool). c.args.k.steps && b) c.adjacent.ensures) refl c.in-Some.is)

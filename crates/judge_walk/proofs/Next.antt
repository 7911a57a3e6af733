-- What stands for a list with a cell behind it, in each arm of the step. A cell off the panel is off whatever follows. A cell of the panel is
-- looked up among the marks and marked, and becomes the last; its distance from the last one tells whether they are neighbours.
use Prim.Native.Nat.{ℕ, ◌+◌}
use native.Mathlib.Omega.{arith}
use mathlib.Core.Path.{◌≡◌, refl, sym, ap, subst⁻¹, ◌∙◌}
use mathlib.Core.Bool.{Bool, true, false, not, ◌&&◌, ◌||◌, and-true, true≢false}
use mathlib.Core.List.{List, [], ◌∷◌, ◌++◌}
use lib.Dec.{eqb}
use lib.ListN.{length, get_or, set, length-append, length-set}
use Rattle.std.specs.Prelude.{None, Some}
use Rattle.grid.specs.declared.Panel.{Panel}
use Rattle.grid.specs.declared.Cell.{Cell}
use Rattle.grid.specs.Panel.{GoodSides, on_panel, OnPanel, same_cell, neighbours}
use Rattle.grid.specs.Bytes.{InBytes}
use Rattle.grid.proofs.Facts.{and_parts, on, is_on}
use Rattle.list.specs.List.{all_on, all_steps, among, last_from}
use Rattle.list.proofs.Behind.{all_on_append, last_behind, steps_behind, among_behind, none_twice_behind}
use Rattle.scratch.specs.Scratch.{place, unmarked}
use Rattle.scratch.proofs.Places.{put_rest}
use Rattle.scratch.proofs.Marks.{unmarked_set}
use Rattle.judge_walk.specs.declared.Kept.{Kept}
use Rattle.judge_walk.specs.Walk.{starts, ends, KeptOn, Stands, Takes}

not_or : (a b : Bool) → not (a || b) ≡ (not a && not b)
not_or true b = refl
not_or false b = refl

-- ---- cells of the panel

-- they are in bytes, and so is the last cell that is kept
pub in_bytes : {p : Panel} {c : Cell} → GoodSides p → OnPanel p c → InBytes c
in_bytes g o = record { across = omega arith; down = omega arith }

last_in_bytes : {p : Panel} → GoodSides p → (d : Cell) (l : List Cell) → InBytes d → all_on p l ≡ true → InBytes (last_from d l)
last_in_bytes g d [] b e = b
last_in_bytes {p} g d (c ∷ l) b e =
    let (here, there) = and_parts (on_panel p c) (all_on p l) e in
    last_in_bytes g c l (in_bytes g (on p c here)) there

pub kept_in_bytes : {p : Panel} {s c : Cell} {l : List Cell} {k : Kept} {marks : List ℕ}
    → GoodSides p → Stands p s l k marks → k.on ≡ true → k.last ≡ Some c → InBytes c
kept_in_bytes {p} {c = c} {l} g z f e = of l (sym z.on ∙ f) (sym e ∙ (z.kept (sym z.on ∙ f)).last)
  where
    of : (l : List Cell) → all_on p l ≡ true → Some c ≡ ends l → InBytes c
    of [] a b = absurd (cc)
    of (d ∷ l) a b =
        let (here, there) = and_parts (on_panel p d) (all_on p l) a in
        let same : c ≡ last_from d l = cc in
        subst⁻¹ InBytes same (last_in_bytes g d l (in_bytes g (on p d here)) there)

-- the last cell of a list with c behind it is c
ends_behind : (l : List Cell) (c : Cell) → Some c ≡ ends (l ++ c ∷ [])
ends_behind [] c = refl
ends_behind (d ∷ l) c = ap Some (sym (last_behind d l c))

-- ---- the step

-- r is what is kept behind k of a cell of the panel whose place held mark
pub record Moved (k : Kept) (c : Cell) (mark : ℕ) (r : Kept) : Type 0 where
  pub on : r.on ≡ k.on
  pub once : r.once ≡ (k.once && eqb mark 0)
  pub last : r.last ≡ Some c
  pub bytes : r.bytes ≡ k.bytes + 2

-- what r keeps of the steps and of the first cell, with c behind the list l
pub record Steps (s c : Cell) (l : List Cell) (r : Kept) : Type 0 where
  pub steps : r.steps ≡ all_steps (l ++ c ∷ [])
  pub begins : r.begins ≡ starts s (l ++ c ∷ [])

length_behind : (l : List Cell) (c : Cell) → length (l ++ c ∷ []) ≡ length l + 1
length_behind l c = length-append l (c ∷ [])

behind_on : (p : Panel) (l : List Cell) (c : Cell) → all_on p (l ++ c ∷ []) ≡ (all_on p l && on_panel p c)
behind_on p l c = all_on_append p l (c ∷ []) ∙ ap (λ (b : Bool). all_on p l && b) (and-true (on_panel p c))

module _ (p : Panel) (s c : Cell) {k r : Kept} {marks : List ℕ} where
  -- the list is off the panel, or c puts it off
  pub takes_off : r.on ≡ false → r.bytes ≡ k.bytes + 2 → ((l : List Cell) → Stands p s l k marks → (all_on p l && on_panel p c) ≡ false)
      → Takes p s k c marks r marks
  takes_off o b e = record {
    next = λ l z. record {
      room = z.room;
      bytes = omega (arith, b, z.bytes, length_behind l c);
      on = o ∙ sym (behind_on p l c ∙ e l z);
      kept = λ a. absurd (true≢false (sym a ∙ behind_on p l c ∙ e l z));
    };
    rest = refl;
  }

  -- c is the first cell, or it follows the last one
  pub first : r.steps ≡ k.steps → r.begins ≡ same_cell c s → k.last ≡ None → (l : List Cell) → KeptOn p s l k marks → Steps s c l r
  first j b e [] z = record { steps = j ∙ z.steps; begins = b }
  first j b e (d ∷ l) z = let last = z.last in absurd (cc)

  pub later : {d : Cell} → r.steps ≡ (k.steps && neighbours d c) → r.begins ≡ k.begins → k.last ≡ Some d
      → (l : List Cell) → KeptOn p s l k marks → Steps s c l r
  later j b e [] z = let last = z.last in absurd (cc)
  later {d} j b e (a ∷ l) z =
      let last = z.last in
      let same : d ≡ last_from a l = cc in
      record {
        steps = j ∙ (λ i. z.steps i && neighbours (same i) c) ∙ sym (steps_behind a l c);
        begins = b ∙ z.begins;
      }

  -- a cell of the panel is marked
  module _ {at : ℕ} (f : k.on ≡ true) (o : OnPanel p c) (e : at ≡ place p c) (m : Moved k c (get_or marks at 0) r)
      (steps : (l : List Cell) → KeptOn p s l k marks → Steps s c l r) where
    stands_on : (l : List Cell) → Stands p s l k marks → Stands p s (l ++ c ∷ []) r (set marks at 1)
    stands_on l z = record {
      room = omega (arith, z.room, length-set marks at 1);
      bytes = omega (arith, m.bytes, z.bytes, length_behind l c);
      on = m.on ∙ z.on ∙ sym (behind_on p l c ∙ ap (λ (b : Bool). all_on p l && b) (is_on o) ∙ and-true (all_on p l));
      kept = λ _. record {
        steps = (steps l kept).steps;
        once = m.once ∙ (λ i. kept.once i && met i) ∙ sym (none_twice_behind l c);
        begins = (steps l kept).begins;
        last = m.last ∙ ends_behind l c;
        marked = λ d q. ap (λ (j : ℕ). unmarked p (set marks j 1) d) e ∙ unmarked_set marks o z.room q
            ∙ ap (λ (b : Bool). not (same_cell c d) && b) (kept.marked d q)
            ∙ sym (ap not (among_behind d l c) ∙ not_or (same_cell c d) (among d l));
      };
    }
      where
        kept : KeptOn p s l k marks
        kept = z.kept (sym z.on ∙ f)

        met : eqb (get_or marks at 0) 0 ≡ not (among c l)
        met = ap (λ (j : ℕ). eqb (get_or marks j 0) 0) e ∙ kept.marked c o

    pub takes_on : Takes p s k c marks r (set marks at 1)
    takes_on = record { next = stands_on; rest = put_rest o e marks 1 }

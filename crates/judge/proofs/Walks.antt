-- What is known along the walk, at the start, after each cell and at its end; and that what it keeps decides the check of the whole list,
-- since no later cell changes that one is off the panel.
use Prim.Native.Nat.{ℕ, ◌+◌, ◌≤◌, ◌<◌}
use mathlib.Core.Path.{◌≡◌, refl, sym, ap, subst, ◌∙◌}
use mathlib.Core.Bool.{Bool, true, false, ◌&&◌}
use mathlib.Core.List.{List, [], ◌∷◌, ◌++◌, map, append-nil}
use lib.ListN.{length, take, drop, get_or}
use Rattle.std.specs.Prelude.{Err}
use Rattle.std.proofs.lemmas.List.{map-append, take-append-drop, drop_all, map_more}
use Rattle.grid.specs.declared.Panel.{Panel}
use Rattle.grid.specs.declared.Cell.{Cell}
use Rattle.grid.specs.declared.Refusal.TheVariants.{CellOff}
use Rattle.grid.specs.Check.{Check}
use Rattle.grid.specs.Panel.{area}
use Rattle.grid.specs.Bytes.{cell_of}
use Rattle.grid.proofs.Tests.{after_refused, expect_no}
use Rattle.list.specs.List.{all_on}
use Rattle.list.proofs.Behind.{all_on_append}
use Rattle.scratch.specs.Scratch.{Clean}
use Rattle.judge_walk.specs.declared.Kept.{Kept}
use Rattle.judge_walk.specs.Walk.{Stands, Takes, Begins}
use Rattle.judge.specs.Judge.{cells_check}
use Rattle.judge.specs.Walk.{Decides, Walked}

-- the cells of the first i pairs of bytes are taken: k and marks stand for them. Scratch was old.
pub record Walking (p : Panel) (s : Cell) (b : List (List ℕ)) (old : List ℕ) (k : Kept) (i : ℕ) (marks : List ℕ) : Type 0 where
  pub stands : Stands p s (map cell_of (take i b)) k marks
  pub rest : drop (area p) marks ≡ drop (area p) old

module _ (p : Panel) (s : Cell) (b : List (List ℕ)) {old : List ℕ} where
  pub begin : {k : Kept} → Begins k → Clean p old → Walking p s b old k 0 old
  begin n c = record { stands = n.empty p s old c; rest = refl }

  module _ {k : Kept} {i : ℕ} {marks : List ℕ} (w : Walking p s b old k i marks) where
    pub walked : (k.on ≡ true → length b ≤ i) → Walked p s (map cell_of b) old k marks
    walked e = record {
      taken = map cell_of (take i b);
      ahead = map cell_of (drop i b);
      parts = ap (map cell_of) (sym (take-append-drop i b)) ∙ map-append cell_of (take i b) (drop i b);
      stands = w.stands;
      whole = λ o. ap (map cell_of) (drop_all i b (e o));
      rest = w.rest;
    }

    pub onward : (h : i < length b) {c : Cell} → c ≡ cell_of (get_or b i []) → {r : Kept} {new : List ℕ} → Takes p s k c marks r new
        → Walking p s b old r (i + 1) new
    onward h {c} e {r} {new} t = record {
      stands = subst (λ (l : List Cell). Stands p s l r new)
          (ap (λ (d : Cell). map cell_of (take i b) ++ d ∷ []) e ∙ sym (map_more cell_of b i [] h))
          (t.next (map cell_of (take i b)) w.stands);
      rest = t.rest ∙ w.rest;
    }

-- the check of the cells that a walk took is that of the whole list
pub decided : (p : Panel) (s t : Cell) (l : List Cell) {old : List ℕ} {k : Kept} {new : List ℕ} {r : Check}
    → Walked p s l old k new → Decides t k r → r ≡ cells_check p s t l
decided p s t l {k = k} {new} {r} w d = by_on k.on refl
  where
    taken_check : r ≡ cells_check p s t w.taken
    taken_check = d.told p s w.taken new w.stands

    refused : (m : List Cell) → all_on p m ≡ false → Err CellOff ≡ cells_check p s t m
    refused m f = after_refused _ (sym (expect_no _ _ f))

    by_on : (b : Bool) → k.on ≡ b → r ≡ cells_check p s t l
    by_on true e =
        let all = w.parts ∙ ap (λ (a : List Cell). w.taken ++ a) (w.whole e) ∙ append-nil w.taken in
        taken_check ∙ ap (cells_check p s t) (sym all)
    by_on false e =
        let off : all_on p w.taken ≡ false = sym w.stands.on ∙ e in
        let all = ap (all_on p) w.parts ∙ all_on_append p w.taken w.ahead ∙ ap (λ (b : Bool). b && all_on p w.ahead) off in
        taken_check ∙ sym (refused w.taken off) ∙ refused l all

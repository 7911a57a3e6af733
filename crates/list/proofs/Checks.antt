-- What the checks of a list say where they refuse nothing, and the other way round.
use Rattle.std.specs.Prelude.{Ok}
use Prim.Native.Nat.{ℕ, ◌≤◌}
use native.Mathlib.Omega.{arith}
use mathlib.Core.Path.{◌≡◌, refl, sym, ap, ◌∙◌}
use mathlib.Core.Bool.{true}
use mathlib.Core.List.{List}
use lib.Dec.{leb}
use lib.ListN.{length}
use borrow.Author.Tests.{leb-true, le-leb}
use Rattle.grid.specs.declared.Cell.{Cell}
use Rattle.grid.specs.declared.Panel.{Panel}
use Rattle.grid.specs.declared.Refusal.TheVariants.{StepCount}
use Rattle.grid.specs.Panel.{area, good_panel}
use Rattle.grid.specs.Check.{check_panel}
use Rattle.grid.specs.Bytes.{bytes, cells_in}
use Rattle.grid.proofs.Bytes.{length_bytes, cells_bytes}
use Rattle.grid.proofs.Passed.{expect_passed, expect_rest, after_passed, after_rest, panel_passed, panel_passes}
use Rattle.grid.proofs.Tests.{expect_yes, after_good}
use Rattle.list.specs.List.{whole_cells, all_on, all_steps}
use Rattle.list.specs.Check.{check_walk, check_list}
use Rattle.list.proofs.Cells.{length_cells}
use Rattle.list.proofs.Whole.{whole, is_whole}

pub walk_good : (p : Panel) (l : List Cell) → check_walk p l ≡ Ok tt → (all_on p l ≡ true) × (all_steps l ≡ true)
walk_good p l e = (expect_passed (all_on p l) _ _ e, expect_passed (all_steps l) _ _ (expect_rest (all_on p l) _ _ e))

pub is_walk_good : (p : Panel) (l : List Cell) → all_on p l ≡ true → all_steps l ≡ true → check_walk p l ≡ Ok tt
is_walk_good p l o n = sym (expect_yes _ _ o (expect_yes _ _ n refl))

-- what a list that Write does not refuse says
pub record GoodList (p : Panel) (l : List Cell) : Type 0 where
  pub panel : good_panel p ≡ true
  pub on : all_on p l ≡ true
  pub next : all_steps l ≡ true
  pub some : 1 ≤ length l
  pub few : length l ≤ area p

module _ (p : Panel) (list : List ℕ) (e : check_list p list ≡ Ok tt) where
  pub list_whole : whole_cells (length list) ≡ true
  list_whole = expect_passed (whole_cells (length list)) _ _ (after_rest (check_panel p) _ e)

  pub list_good : GoodList p (cells_in list)
  list_good =
      let l = cells_in list in
      let w = expect_rest (whole_cells (length list)) _ _ (after_rest (check_panel p) _ e) in
      let (o, n) = walk_good p l (after_passed (check_walk p l) _ w) in
      record {
        panel = panel_passed p (after_passed (check_panel p) _ e);
        on = o;
        next = n;
        some = omega (arith, whole (length list) list_whole, length_cells list);
        few = leb-true _ _ (expect_passed (leb (length l) (area p)) _ _ (after_rest (check_walk p l) _ w));
      }

pub is_list_good : (p : Panel) (l : List Cell) → GoodList p l → check_list p (bytes l) ≡ Ok tt
is_list_good p l g =
    let back = cells_bytes l in
    let whole : whole_cells (length (bytes l)) ≡ true = is_whole (length (bytes l)) (omega (arith, g.some, length_bytes l)) (omega (arith, length_bytes l)) in
    let walk = is_walk_good p (cells_in (bytes l)) (ap (all_on p) back ∙ g.on) (ap all_steps back ∙ g.next) in
    sym (after_good _ (panel_passes p g.panel)
    (expect_yes _ _ whole
    (after_good _ walk
    (expect_yes StepCount _ (le-leb (length (cells_in (bytes l))) (area p) (omega (arith, ap length back, g.few))) refl))))

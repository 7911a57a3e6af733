-- R-5, apart from any code: where panel and entry are good, Exit gives a cell exactly if it is the first exit, and 12 exactly if there is none.
use Rattle.std.specs.Prelude.{Ok, Err, Option, Some, None}
use Prim.Native.Nat.{ℕ, ◌<◌}
use mathlib.Core.Path.{◌≡◌, refl, sym, ap, ◌∙◌, subst}
use mathlib.Core.Logic.{inl, inr, ◌↔◌}
use native.Mathlib.Omega.{arith}
use Rattle.grid.specs.declared.Panel.{Panel}
use Rattle.grid.specs.declared.Cell.{Cell}
use Rattle.grid.specs.declared.Cells.{Cells}
use Rattle.grid.specs.declared.Refusal.TheVariants.{NoExit}
use Rattle.grid.specs.Check.{check_entry}
use Rattle.grid.proofs.Facts.{clash, cell_eq}
use Rattle.grid.proofs.Passed.{good_entry}
use Rattle.exit.specs.Exit.{fits, first_fit, exit_of}
use Rattle.exit.specs.First.{Exit, Before, FirstExit}
use Rattle.exit.proofs.Reading.{first_on, none_on}
use Rattle.exit.proofs.Fitting.{fit_exit, no_fit}
use Rattle.exit.proofs.Answers.{searched}

-- of two different cells one is read before the other
in_order : (c d : Cell) → ¬ Before c d → ¬ Before d c → c ≡ d
in_order c d n m =
    let y : c.y ≡ d.y = same c.y d.y (λ h. n (inl h)) (λ h. m (inl h)) in
    cell_eq (same c.x d.x (λ h. n (inr (y, h))) (λ h. m (inr (sym y, h)))) y
  where
    same : (a b : ℕ) → ¬ (a < b) → ¬ (b < a) → a ≡ b
    same a b n m = omega arith

-- so there is only one first exit
one_first : (p : Panel) (s : Cell) (w : Cells) (c d : Cell) → FirstExit p s w c → FirstExit p s w d → c ≡ d
one_first p s w c d x y = in_order c d (λ b. y.none c b x.exit) (λ b. x.none d b y.exit)

module _ (p : Panel) (s : Cell) (w : Cells) (g : check_entry p s ≡ (Ok tt)) where
  found_first : (c : Cell) → Some c ≡ first_fit p s w → FirstExit p s w c
  found_first c e =
      let r = first_on (fits p s w) p c e in
      record {
        exit = fit_exit p s w c (good_entry p s g).1 r.on r.passes;
        none = λ d b x. no_fit p s w d (r.none d x.on b) x;
      }

  found_none : None ≡ first_fit p s w → (d : Cell) → ¬ Exit p s w d
  found_none e d x = no_fit p s w d (none_on (fits p s w) p e d x.on) x

  pub gives_first : (c : Cell) → (exit_of p s w ≡ Ok c) ↔ FirstExit p s w c
  gives_first c = go (first_fit p s w) refl
    where
      go : (r : Option Cell) → r ≡ first_fit p s w → (exit_of p s w ≡ Ok c) ↔ FirstExit p s w c
      go (Some d) e =
          let a = searched p s w (Some d) g e in
          let x = found_first d e in
          ((λ q. let h : d ≡ c = cc in subst (FirstExit p s w) h x), (λ y. sym a ∙ ap Ok (one_first p s w d c x y)))
      go None e = ((λ q. let a = searched p s w None g e in clash (cc)), (λ y. absurd (found_none e c y.exit)))

  pub refuses_none : (exit_of p s w ≡ Err NoExit) ↔ ((d : Cell) → ¬ Exit p s w d)
  refuses_none = go (first_fit p s w) refl
    where
      go : (r : Option Cell) → r ≡ first_fit p s w → (exit_of p s w ≡ Err NoExit) ↔ ((d : Cell) → ¬ Exit p s w d)
      go (Some d) e = ((λ q. let a = searched p s w (Some d) g e in clash (cc)), (λ n. absurd (n d (found_first d e).exit)))
      go None e = ((λ q. found_none e), (λ n. sym (searched p s w None g e)))

-- A cell that fits is an exit, since a track with the count's cells exists; and an exit fits, since no track is longer than the count.
use Prim.Native.Nat.{◌≤◌}
use mathlib.Core.Path.{◌≡◌, sym, ap, ◌∙◌}
use mathlib.Core.Logic.{◌≢◌}
use mathlib.Core.Bool.{true, false, not, true≢false}
use native.Mathlib.Nat.{le_trans, le_of_eq}
use lib.Dec.{leb}
use borrow.Author.Tests.{leb-true, le-leb, not-true}
use Rattle.grid.specs.declared.Panel.{Panel}
use Rattle.grid.specs.declared.Cell.{Cell}
use Rattle.grid.specs.declared.Cells.{Cells}
use Rattle.grid.specs.Panel.{OnPanel, same_cell}
use Rattle.grid.proofs.Facts.{and_parts, and_both, same_ne, ne_same}
use Rattle.count.specs.Count.{count}
use Rattle.count.proofs.AtMost.{no_longer}
use Rattle.plan.proofs.Theorem.{reached}
use Rattle.exit.specs.Exit.{fits}
use Rattle.exit.specs.First.{Exit}

module _ (p : Panel) (s : Cell) (w : Cells) (c : Cell) where
  pub fit_exit : OnPanel p s → OnPanel p c → fits p s w c ≡ true → Exit p s w c
  fit_exit os oc e =
      let (other, enough) = and_parts (not (same_cell s c)) (leb w.0 (count p s c)) e in
      let d = same_ne s c (not-true (same_cell s c) other) in
      let r = reached p s c os oc d in
      record {
        on = oc;
        other = λ q. d (sym q);
        cells = r.0;
        track = r.1.0;
        enough = le_trans (leb-true _ _ enough) (le_of_eq (sym r.1.1));
      }

  -- another cell than s, with count enough
  pub is_fit : s ≢ c → w.0 ≤ count p s c → fits p s w c ≡ true
  is_fit d h = and_both (ap not (ne_same s c d)) (le-leb _ _ h)

  exit_fits : Exit p s w c → fits p s w c ≡ true
  exit_fits x =
      let d : s ≢ c = λ q. x.other (sym q) in
      is_fit d (le_trans x.enough (no_longer p s c d x.cells x.track))

  pub no_fit : fits p s w c ≡ false → ¬ Exit p s w c
  no_fit e x = true≢false (sym (exit_fits x) ∙ e)

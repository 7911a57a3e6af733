-- The laws of the request, of whatever numbers Compare gives: they match the lengths of the logs, and cells seen earlier are in both.
use Rattle.std.specs.Prelude.{Ok, Err}
use Prim.Native.Nat.{ℕ, ◌+◌, ◌*◌, ◌%◌, ◌≤◌}
use native.Mathlib.Omega.{arith}
use mathlib.Core.Path.{◌≡◌, sym, ap, ◌∙◌}
use mathlib.Core.List.{List}
use lib.ListN.{length}
use borrow.Author.Tests.{eqb-true}
use Rattle.grid.specs.declared.Panel.{Panel}
use Rattle.grid.specs.Check.{Check}
use Rattle.grid.specs.Answer.{given}
use Rattle.grid.proofs.Answers.{behind_good}
use Rattle.grid.proofs.Facts.{clash}
use Rattle.grid.proofs.Passed.{after_passed, after_rest}
use Rattle.log_entries.specs.declared.Entry.{Entry}
use Rattle.log_entries.specs.Log.{entries_in, log_check}
use Rattle.log_entries.proofs.EntryBytes.{length_entries}
use Rattle.logs.specs.declared.LogCounts.{LogCounts}
use Rattle.logs.specs.Counts.{in_both, only_in, seen_earlier, counts_of}
use Rattle.logs.specs.Logs.{sizes_check, compare_check, Compares}
use Rattle.logs.specs.Walk.{GoodLog}
use Rattle.logs.proofs.Passed.{sized, good_log}
use Rattle.logs.proofs.Tallies.{burned_total, seen_total, earlier_both}

-- the four numbers beside the lengths of the logs, in bytes
pub record Totals (burned seen : List ℕ) (k : LogCounts) : Type 0 where
  pub burned_entries : 6 * (k.both.0 + k.only_burned.0) ≡ length burned
  pub seen_entries : 6 * (k.both.0 + k.only_seen.0) ≡ length seen
  pub among_both : k.earlier.0 ≤ k.both.0

module _ (p : Panel) (burned seen : List ℕ) {old new : List ℕ} {k : LogCounts} (c : Compares p burned seen old new (Ok k)) where
  abbrev laser : List Entry
  laser = entries_in burned

  abbrev camera : List Entry
  camera = entries_in seen

  abbrev sizes : Check
  sizes = sizes_check p (length burned) (length seen) (length old)

  -- nothing was refused
  fine : compare_check p burned seen (length old) ≡ Ok tt
  fine =
      (behind_good (compare_check p burned seen (length old)) Err (Ok (counts_of laser camera)) (Ok k) (λ r q. clash (cc))
      (sym c.gives.answers)).0

  value : (n : ℕ) → given (compare_check p burned seen (length old)) n ≡ n
  value n = ap (λ (q : Check). given q n) fine

  good_laser : GoodLog p laser
  good_laser = good_log p laser (after_passed (log_check p laser) _ (after_rest sizes _ fine))

  good_camera : GoodLog p camera
  good_camera = good_log p camera (after_rest (log_check p laser) _ (after_rest sizes _ fine))

  whole : (length burned % 6 ≡ 0) × (length seen % 6 ≡ 0)
  whole = let z = sized p (length burned) (length seen) (length old) (after_passed sizes _ fine) in (eqb-true _ _ z.laser, eqb-true _ _ z.camera)

  pub totals_match : Totals burned seen k
  totals_match =
      let both = c.gives.both ∙ value (in_both laser camera) in
      let only_burned = c.gives.only_burned ∙ value (only_in laser camera) in
      let only_seen = c.gives.only_seen ∙ value (only_in camera laser) in
      let earlier = c.gives.earlier ∙ value (seen_earlier laser camera) in
      record {
        burned_entries = omega (arith, both, only_burned, burned_total laser camera, length_entries burned, whole.0);
        seen_entries =
            omega
            (arith, both, only_seen, seen_total laser camera good_laser.once good_camera.once, length_entries seen, whole.1);
        among_both = omega (arith, both, earlier, earlier_both laser camera good_laser.once good_camera.once);
      }

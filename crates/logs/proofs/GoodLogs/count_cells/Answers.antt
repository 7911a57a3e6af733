-- The totals: what a log has beside the cells in both is only there.
use Prim.Native.Nat.{ℕ, ◌+◌, ◌≤◌}
use native.Mathlib.Omega.{arith}
use mathlib.Core.Path.{◌≡◌, sym, ◌∙◌}
use mathlib.Core.List.{List}
use lib.ListN.{length}
use Rattle.grid.specs.declared.Panel.{Panel}
use Rattle.log_entries.specs.Log.{entries_of}
use Rattle.log_entries.proofs.EntryBytes.{length_entries_of}
use Rattle.logs.specs.Counts.{in_both, only_in, seen_earlier}
use Rattle.logs.specs.Walk.{BothGood}
use Rattle.logs.proofs.Tallies.{both_sides, burned_total, seen_total, earlier_both, counts_are}
use Rattle.logs.proofs.Walks.{few}
use Rattle.logs.proofs.GoodLogs.count_cells.Goals as goal

-- what the walk counted is the cells in both logs, and what each log has beside them is only there; those seen earlier are no more
totals : {p : Panel} (burned seen : List (List ℕ)) → BothGood p (entries_of burned) (entries_of seen) → {both earlier : ℕ}
    → both ≡ in_both (entries_of seen) (entries_of burned) → earlier ≡ seen_earlier (entries_of burned) (entries_of seen)
    → (both ≡ in_both (entries_of burned) (entries_of seen))
    × (both + only_in (entries_of burned) (entries_of seen) ≡ length burned)
    × (both + only_in (entries_of seen) (entries_of burned) ≡ length seen)
    × (earlier ≤ both)
totals burned seen m {both} e f =
    let b = entries_of burned in
    let s = entries_of seen in
    let all : both ≡ in_both b s = e ∙ sym (both_sides b s m.laser.once m.camera.once) in (
      all,
      omega (arith, all, burned_total b s, length_entries_of burned),
      omega (arith, all, seen_total b s m.laser.once m.camera.once, length_entries_of seen),
      omega (arith, all, f, earlier_both b s m.laser.once m.camera.once),
    )

pub overflow_cast-burned_entries : goal.overflow_cast-burned_entries
overflow_cast-burned_entries c =
    let a = c.args in
    record { fits = omega (arith, length_entries_of a.self.now.burned.now, few (entries_of a.self.now.burned.now) a.self.now.good.sides a.self.now.good.laser) }

pub overflow_cast-seen_entries : goal.overflow_cast-seen_entries
overflow_cast-seen_entries c =
    let a = c.args in
    record { fits = omega (arith, length_entries_of a.self.now.seen.now, few (entries_of a.self.now.seen.now) a.self.now.good.sides a.self.now.good.camera) }

-- all that bounds them, so that another number in their place is refused where it is wrong and not here
pub overflow_sub-result : goal.overflow_sub-result
overflow_sub-result c =
    let a = c.args in
    omega (arith, totals a.self.now.burned.now a.self.now.seen.now a.self.now.good c.walk-met.ensures.both c.walk-met.ensures.earlier)

pub overflow_sub-result-2 : goal.overflow_sub-result-2
overflow_sub-result-2 c =
    let a = c.args in
    omega (arith, totals a.self.now.burned.now a.self.now.seen.now a.self.now.good c.walk-met.ensures.both c.walk-met.ensures.earlier)

pub returns-clause-told : goal.returns-clause-told
returns-clause-told c =
    let a = c.args in
    let (both, only_burned, only_seen, _) = totals a.self.now.burned.now a.self.now.seen.now a.self.now.good c.walk-met.ensures.both c.walk-met.ensures.earlier in
    counts_are (entries_of a.self.now.burned.now) (entries_of a.self.now.seen.now) (omega (arith, both)) (omega (arith, only_burned)) (omega (arith, only_seen))
    c.walk-met.ensures.earlier

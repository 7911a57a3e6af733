-- The cells of the detour are found, the cells behind the place slide up, and the detour goes into the gap.
use native.Mathlib.Omega.{arith}
use Prim.Native.Nat.{ℕ, ◌+◌, ◌*◌, ◌≤◌}
use mathlib.Core.Path.{◌≡◌, subst⁻¹, ◌∙◌}
use mathlib.Core.List.{List, [], ◌∷◌}
use lib.ListN.{length}
use lib.Seq.{paste}
use Rattle.grid.specs.declared.Cell.{Cell}
use Rattle.grid.specs.Bytes.{bytes, front}
use Rattle.detour.specs.declared.Side.{Side}
use Rattle.detour.specs.Detour.{cell_beside, cell_no}
use Rattle.edit_list.proofs.Made.{Small, step_within, first_small, second_small, bulge_made}
use Rattle.edit_list.proofs.bulge.Goals as goal

pub copy_within-requires-clause-start_le_end : goal.copy_within-requires-clause-start_le_end
copy_within-requires-clause-start_le_end c =
    let a = c.args in
    let can = c.requires.can in
    omega (arith, step_within a.list.now a.cells a.e (omega (arith, c.requires.held)) can.panel can.can c.requires.kind)

pub copy_within-requires-clause-dest_in_bounds : goal.copy_within-requires-clause-dest_in_bounds
copy_within-requires-clause-dest_in_bounds c =
    let a = c.args in
    let can = c.requires.can in
    let within = step_within a.list.now a.cells a.e (omega (arith, c.requires.held)) can.panel can.can c.requires.kind in
    omega (arith, within, c.requires.held)

-- what was found beside the ends of the step is the detour's cell
found : (side : Side) (l : List Cell) (k : ℕ) {s : Side} {a b c d r : Cell} → a ≡ cell_no l k → b ≡ cell_no l (k + 1) → s ≡ side → c ≡ d
    → r ≡ cell_beside s a b c → r ≡ cell_beside side (cell_no l k) (cell_no l (k + 1)) d
found side l k e f g h is = is ∙ (λ i. cell_beside (g i) (e i) (f i) (h i))

pub put_detour-requires : goal.put_detour-requires
put_detour-requires c =
    let a = c.args in
    let can = c.requires.can in
    let l = front a.cells a.list.now in
    let step = c.between-step.ensures in
    let held : 2 * a.cells ≤ length a.list.now = omega (arith, c.requires.held) in
    let first = found a.e.side l a.e.place step.first step.second step.beside step.first c.beside_from.ensures in
    let second = found a.e.side l a.e.place step.first step.second step.beside step.second c.beside_to.ensures in
    let one = subst⁻¹ Small first (first_small a.list.now a.cells a.e held can.panel can.can c.requires.kind can.sides) in
    let two = subst⁻¹ Small second (second_small a.list.now a.cells a.e held can.panel can.can c.requires.kind can.sides) in
    let within = step_within a.list.now a.cells a.e held can.panel can.can c.requires.kind in
    (one.0, one.1, two.0, two.1, omega (arith, within, c.requires.held, c.copy_within.ensures.len))

pub returns : goal.returns
returns c =
    let a = c.args in
    let can = c.requires.can in
    let l = front a.cells a.list.now in
    let step = c.between-step.ensures in
    let held : 2 * a.cells ≤ length a.list.now = omega (arith, c.requires.held) in
    let first = found a.e.side l a.e.place step.first step.second step.beside step.first c.beside_from.ensures in
    let second = found a.e.side l a.e.place step.first step.second step.beside step.second c.beside_to.ensures in
    let cells = c.put_detour.ensures ∙ (λ i. paste c.copy_within.new.self (2 * a.e.place) (bytes (first i ∷ second i ∷ [])) 4) in
    bulge_made a.list.now a.cells a.e held can.panel can.can c.requires.kind c.requires.held c.copy_within.ensures.after cells c.clear_behind.ensures

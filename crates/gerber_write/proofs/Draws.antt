-- How long a layer is at most.
use Prim.Native.Nat.{ℕ, ◌+◌, ◌≤◌}
use mathlib.Core.Path.{◌≡◌, refl, ap}
use mathlib.Core.Bool.{true}
use mathlib.Core.List.{List, [], ◌∷◌}
use native.Mathlib.Omega.{arith}
use lib.ListN.{length, length-append}
use Rattle.grid.specs.declared.Panel.{Panel}
use Rattle.grid.specs.declared.Cell.{Cell}
use Rattle.grid.specs.Panel.{on_panel, GoodPanel}
use Rattle.grid.proofs.Facts.{on, and_parts}
use Rattle.grid.specs.Bytes.{cells_in}
use Rattle.list.specs.List.{all_on}
use Rattle.list.proofs.Cells.{length_cells}
use Rattle.gerber.specs.Layer.{head_of, flash, move, line_to, end_line, turns_from, draw_lines, lines_of}
use Rattle.gerber_write.specs.Write.{layer_bytes, Plottable}
use Rattle.gerber.proofs.Heads.{head_length_lem}
use Rattle.gerber_write.proofs.Lines.{line_and, line_small, draws_small}

-- a line, which has 27 bytes at most, and what follows it
behind_line : (p : Panel) → GoodPanel p → (operation : List ℕ) → length operation ≡ 4 → (c : Cell) → on_panel p c ≡ true → (rest : List ℕ)
    → length (line_to p operation c rest) ≤ 27 + length rest
behind_line p g operation four c o rest =
    omega (
      arith,
      line_small p operation c g (on p c o),
      ap length (line_and p operation c rest),
      length-append (line_to p operation c []) rest,
    )

-- 27 for the first line and for each draw, and 5
lines_small : (p : Panel) → GoodPanel p → (l : List Cell) → all_on p l ≡ true → length l ≤ 16384 → length (lines_of p l) ≤ 442373
lines_small p g [] e few = omega arith
lines_small p g (s ∷ []) e few =
    omega (arith, behind_line p g flash refl s (and_parts (on_panel p s) true e).0 end_line)
lines_small p g (s ∷ b ∷ l) e few =
    let (here, behind) = and_parts (on_panel p s) (all_on p (b ∷ l)) e in
    let draws = draw_lines p (turns_from s b l) in
    omega (arith, behind_line p g move refl s here draws, draws_small p g s b l behind)

-- and 49 for the head
pub layer_small : {p : Panel} {list : List ℕ} → Plottable p list → length (layer_bytes p list) ≤ 442422
layer_small {p} {list} q =
    let l = cells_in list in
    omega (
      arith,
      length-append (head_of p) (lines_of p l),
      head_length_lem p,
      lines_small p q.panel l q.on (omega (arith, q.few, length_cells list)),
    )

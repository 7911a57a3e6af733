-- One cell, then the other.
use Prim.Native.Nat.{ℕ, suc, ◌+◌, ◌≤◌}
use native.Mathlib.Omega.{arith}
use mathlib.Core.Path.{◌≡◌, ap, ◌∙◌}
use mathlib.Core.List.{List, [], ◌∷◌}
use lib.ListN.{length, set}
use lib.Seq.{paste, sets-eq}
use Rattle.grid.specs.declared.Cell.{Cell}
use Rattle.grid.specs.Bytes.{bytes}
use Rattle.edit_list.proofs.put_detour.Goals as goal

put_both : (b : List ℕ) (s : ℕ) (c d : Cell) → s + 4 ≤ length b
    → set (set (set (set b s c.x) (s + 1) c.y) (s + 2) d.x) (s + 2 + 1) d.y ≡ paste b s (bytes (c ∷ d ∷ [])) 4
put_both b s c d h =
    let one : s + 1 ≡ suc s = omega arith in
    let two : s + 2 ≡ suc (suc s) = omega arith in
    let three : s + 2 + 1 ≡ suc (suc (suc s)) = omega arith in
    (λ i. set (set (set (set b s c.x) (one i) c.y) (two i) d.x) (three i) d.y) ∙ sets-eq (bytes (c ∷ d ∷ [])) b s h

pub returns : goal.returns
returns c =
    let a = c.args in
    c.put_cell-2.ensures
    ∙ ap (λ (m : List ℕ). set (set m (a.at + 2) a.d.x) (a.at + 2 + 1) a.d.y) c.put_cell.ensures
    ∙ put_both a.list.now a.at a.c a.d (omega arith)

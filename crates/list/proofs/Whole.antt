-- The test of a number of bytes as a fact, and the other way round.
use Prim.Native.Nat.{ℕ, ◌%◌, ◌≤◌}
use native.Mathlib.Omega.{arith}
use mathlib.Core.Path.{◌≡◌}
use mathlib.Core.Bool.{true}
use lib.Dec.{leb, eqb}
use borrow.Author.Tests.{leb-true, eqb-true, le-leb, eq-eqb}
use Rattle.grid.proofs.Facts.{and_left, and_right, and_both}
use Rattle.list.specs.List.{whole_cells}

pub whole : (k : ℕ) → whole_cells k ≡ true → (2 ≤ k) × (k % 2 ≡ 0)
whole k e =
    let l = leb-true 1 k (and_left (leb 1 k) (eqb (k % 2) 0) e) in
    let f = eqb-true (k % 2) 0 (and_right (leb 1 k) (eqb (k % 2) 0) e) in
    (omega arith, f)

pub is_whole : (k : ℕ) → 1 ≤ k → k % 2 ≡ 0 → whole_cells k ≡ true
is_whole k l e = and_both (le-leb _ _ l) (eq-eqb _ _ e)

-- A test at each number below n, which the checker computes, and what holds at each number if it passes.
use Prim.Native.Nat.{ℕ, zero, suc, ◌<◌}
use mathlib.Core.Path.{◌≡◌}
use mathlib.Core.Bool.{Bool, true, ◌&&◌}
use native.Mathlib.Numerals.{add-one}
use borrow.Author.Count.{below_none, below_more}
use Rattle.grid.proofs.Facts.{and_left, and_right}

abbrev pub each_below : (ℕ → Bool) → ℕ → Bool
each_below f zero = true
each_below f (suc n) = f n && each_below f n

pub below_each : (f : ℕ → Bool) (n : ℕ) → each_below f n ≡ true → (k : ℕ) → k < n → f k ≡ true
below_each f zero e = below_none (λ k. f k ≡ true)
below_each f (suc n) e =
    let before = below_each f n (and_right (f n) (each_below f n) e) in
    rw add-one at (below_more (λ k. f k ≡ true) n before (and_left (f n) (each_below f n) e))

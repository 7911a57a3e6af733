-- The difference is the distance but for its sign, which the square has not; both fit 32 bits, since the coordinates are bytes.
use Prim.Native.Nat.{ℕ, ◌*◌, ◌≤◌, ◌<◌}
use native.Mathlib.Omega.{arith}
use mathlib.Core.Path.{◌≡◌, ap, ◌∙◌}
use lib.IntN.{ℤ, pos, negsuc, nat_abs, ◌-ℤ◌, ◌*ℤ◌}
use mir.Syntax.{w32}
use mir.Val.{SFits, to_z, of_z}
use mir.Facts.{to_z-of_z, to_z_pos}
use Rattle.grid.specs.Panel.{dist}
use Rattle.list.proofs.Apart.{difference_size, square, near, square_small}
use Rattle.list.proofs.square_apart.Goals as goal

-- up to the square of 255
small_fits : (z : ℤ) → nat_abs z ≤ 65025 → SFits w32 z
small_fits (pos n) h = record { sfits = omega arith }
small_fits (negsuc n) h = record { sfits = omega arith }

-- a byte is the number that it is taken for
byte_fits : (n : ℕ) → n < 256 → SFits w32 (pos n)
byte_fits n h = record { sfits = omega arith }

-- the difference of two bytes, read back from its 32 bits, and its square, read back too
module _ (a b : ℕ) (p : a < 256) (q : b < 256) where
  abbrev difference : ℤ
  difference = to_z w32 a -ℤ to_z w32 b

  size : nat_abs difference ≡ dist a b
  size = (λ i. nat_abs (to_z_pos w32 (byte_fits a p).sfits i -ℤ to_z_pos w32 (byte_fits b q).sfits i)) ∙ difference_size _ _

  abbrev d : ℤ
  d = to_z w32 (of_z w32 difference)

  squared : d *ℤ d ≡ pos (dist a b * dist a b)
  squared =
      let fits : SFits w32 difference = small_fits _ (omega (arith, size, near p q)) in
      square d ∙ ap (λ (n : ℕ). pos (n * n)) (ap nat_abs (to_z-of_z fits) ∙ size)

  result : to_z w32 (of_z w32 (d *ℤ d)) ≡ pos (dist a b * dist a b)
  result =
      let fits : SFits w32 (d *ℤ d) = rw squared (small_fits _ (square_small p q)) in
      to_z-of_z fits ∙ squared

pub returns : goal.returns
returns c = ap nat_abs (result c.args.a c.args.b c.requires.0 c.requires.1)

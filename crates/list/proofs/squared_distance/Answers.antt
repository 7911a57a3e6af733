-- The squares in x and in y; each is at most that of 255.
use Prim.Native.Nat.{◌≤◌}
use native.Mathlib.Omega.{arith}
use Rattle.list.proofs.Apart.{square_small}
use Rattle.list.proofs.squared_distance.Goals as goal

pub overflow_add-result : goal.overflow_add-result
overflow_add-result c =
    let a : c.args.a.x ≤ 255 = c.requires.0.across in
    let b : c.args.b.x ≤ 255 = c.requires.1.across in
    let u : c.args.a.y ≤ 255 = c.requires.0.down in
    let v : c.args.b.y ≤ 255 = c.requires.1.down in
    omega (arith, square_small {a = c.args.a.x} {b = c.args.b.x} (omega arith) (omega arith), square_small {a = c.args.a.y} {b = c.args.b.y} (omega arith) (omega arith))

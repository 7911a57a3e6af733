-- The places of a panel's cells in scratch: each lies among the first mn, and no two cells share one.
use Prim.Native.Nat.{ℕ, ◌+◌, ◌-◌, ◌*◌, ◌≤◌, ◌<◌}
use native.Mathlib.Omega.{arith}
use native.Mathlib.Nat.{mul-le-mul_right, suc-mul, mul_comm, le_antisymm}
use native.Mathlib.Decide.{dec_le}
use mathlib.Core.Path.{◌≡◌, sym, ap}
use mathlib.Core.Logic.{by_cases}
use mathlib.Core.List.{List}
use lib.ListN.{drop, set}
use lib.Seq.{drop-set-lt}
use Rattle.grid.specs.declared.Panel.{Panel}
use Rattle.grid.specs.declared.Cell.{Cell}
use Rattle.grid.specs.Panel.{area, OnPanel}
use Rattle.grid.proofs.Facts.{cell_eq}
use Rattle.scratch.specs.Scratch.{place}

-- a row and a column, from 0, as one number
row_below : (m n r q : ℕ) → r < n → q < m → r * m + q < m * n
row_below m n r q h k = omega (arith, mul-le-mul_right m h, suc-mul r m, mul_comm n m)

row_lt : (m r q r' q' : ℕ) → r < r' → q < m → r * m + q < r' * m + q'
row_lt m r q r' q' h k = omega (arith, mul-le-mul_right m h, suc-mul r m)

pub place_below : {p : Panel} {c : Cell} → OnPanel p c → place p c < area p
place_below {p} {c} o = row_below p.width p.height (c.y - 1) (c.x - 1) (omega arith) (omega arith)

-- so a place is one of scratch, and what is put there leaves the bytes behind the panel's places
module _ {p : Panel} {c : Cell} (o : OnPanel p c) {at : ℕ} (e : at ≡ place p c) where
  pub place_in : {k : ℕ} → area p ≤ k → at < k
  place_in h = omega (arith, place_below o)

  pub put_rest : (s : List ℕ) (v : ℕ) → drop (area p) (set s at v) ≡ drop (area p) s
  put_rest s v = drop-set-lt (area p) s at v (place_in (omega arith))

-- of two cells in one place neither is in a row above the other
place_row : {p : Panel} {c d : Cell} → OnPanel p c → OnPanel p d → place p c ≡ place p d → d.y ≤ c.y
place_row {p} {c} {d} o q e =
    by_cases (dec_le d.y c.y) (λ h. h)
    (λ h. absurd (omega (arith, row_lt p.width (c.y - 1) (c.x - 1) (d.y - 1) (d.x - 1) (omega arith) (omega arith))))

pub place_once : {p : Panel} {c d : Cell} → OnPanel p c → OnPanel p d → place p c ≡ place p d → c ≡ d
place_once {p} {c} {d} o q e =
    let r : c.y ≡ d.y = le_antisymm (place_row q o (sym e)) (place_row o q e) in
    let f : (c.y - 1) * p.width ≡ (d.y - 1) * p.width = ap (λ (k : ℕ). (k - 1) * p.width) r in
    cell_eq (omega arith) r

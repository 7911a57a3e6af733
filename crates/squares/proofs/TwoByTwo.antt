-- R-4's example for every list: on the 2 by 2 panel a track of four cells has 312.
use Prim.Native.Nat.{ℕ, ◌+◌, ◌%◌}
use native.Mathlib.Omega.{arith}
use mathlib.Core.Path.{◌≡◌}
use mathlib.Core.Bool.{true, cond}
use mathlib.Core.Logic.{◌≢◌}
use mathlib.Core.List.{List}
use lib.ListN.{length}
use Rattle.grid.specs.declared.Cell.{Cell}
use Rattle.grid.specs.Panel.{panel, dist, apart, OnPanel, Neighbours}
use Rattle.grid.specs.Track.{Walk, All, Once, Track}
use Rattle.grid.proofs.Facts.{cell_eq}
use Rattle.grid.proofs.Track.{some_cell}
use Rattle.squares.specs.Squares.{corner_between, squares}
use Rattle.squares.proofs.Facts.{bent}

-- a step goes from white to black or back
odd_step : (a b : Cell) → Neighbours a b → (a.x + a.y + b.x + b.y) % 2 ≡ 1
unfolding apart dist
odd_step a b n = omega (arith, n.one)

module _ (q : ℕ) where
  -- two different neighbours of a cell lie across from each other
  across : {a b c : Cell} → OnPanel (panel 2 2 q) a → OnPanel (panel 2 2 q) c → Neighbours a b → Neighbours b c → a ≢ c → corner_between a c ≡ true
  across {a} {b} {c} o p n m d =
      let h = odd_step a b n in
      let k = odd_step b c m in
      bent a c (λ e. d (cell_eq e (omega arith))) (λ e. d (cell_eq (omega arith) e))

  four : {s t : Cell} {l : List Cell} → Walk s t l → Once l → All (OnPanel (panel 2 2 q)) l → length l ≡ 4 → squares l ≡ 312
  four (Walk.step n (Walk.step m (Walk.step k Walk.end))) (Once.more (All.more _ (All.more d _)) (Once.more (All.more _ (All.more e _)) _))
      (All.more a (All.more b (All.more c (All.more f _)))) h =
      λ i. 100 + (cond (across a c n m d i) 56 100 + (cond (across b f m k e i) 56 100 + 100))
  four Walk.end o w h = absurd (omega arith)
  four (Walk.step n Walk.end) o w h = absurd (omega arith)
  four (Walk.step n (Walk.step m Walk.end)) o w h = absurd (omega arith)
  four (Walk.step n (Walk.step m (Walk.step k (Walk.step j r)))) o w h = absurd (omega (arith, some_cell r))

  pub two_by_two : {s t : Cell} (l : List Cell) → Track (panel 2 2 q) s t l → length l ≡ 4 → squares l ≡ 312
  two_by_two l t h = four t.walk t.once t.within h

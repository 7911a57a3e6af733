-- For every rectangle, corner and target the cells of the corner track are a track with the count's cells: one line, or the lines that go first and then
-- the track of what remains.
use Prim.Native.Nat.{ℕ, zero, suc, ◌+◌, ◌-◌, ◌≤◌, ◌<◌}
use mathlib.Core.Path.{◌≡◌, refl, sym, ◌∙◌, subst}
use mathlib.Core.List.{List, ◌++◌}
use mathlib.Core.Bool.{true, false}
use native.Mathlib.Omega.{arith}
use lib.ListN.{length, length-append}
use Rattle.grid.specs.declared.Cell.{Cell}
use Rattle.grid.specs.Panel.{dist, Neighbours}
use Rattle.grid.specs.Track.{TrackIn}
use Rattle.grid.proofs.Tests.{both_branches, cond_yes, cond_no}
use Rattle.grid.proofs.Track.{join, widen}
use Rattle.line.specs.Rectangle.{Inside}
use Rattle.line.specs.Sweep.{sweep}
use Rattle.line.proofs.Frame.{first_inside, inside_part}
use Rattle.line.proofs.Sweep.{sweep_track, length_sweep}
use Rattle.corner.specs.declared.Peeled.{Peeled}
use Rattle.corner.specs.Corner.{track_count}
use Rattle.corner.specs.Cells.{one_line, line_way, peeled, corner_from, corner_cells}
use Rattle.corner.proofs.Chosen.{Peel}
use Rattle.corner.proofs.First.{only, peel_right}

-- a track of the rectangle with the count's cells
abbrev Full : Cell → Cell → Cell → List Cell → Type 0
Full a b t l = TrackIn (Inside a b) a t l × (length l ≡ track_count a b t)

-- one line
line_full : (a b t : Cell) → Inside a b t → one_line a b t ≡ true → Full a b t (sweep (line_way a t) a t)
line_full a b t i e =
    let row = line_way a t in
    let o = only a b t i e in (
      subst (λ (z : Cell). TrackIn (Inside a b) a z (sweep row a t)) o.end (widen (λ c k. inside_part (first_inside a b) i k) (sweep_track row a t)),
      length_sweep row a t ∙ sym o.counts,
    )

-- the lines that go first, then what remains
joined : {a b t : Cell} {r : Peeled} {l : List Cell} → Peel a b t r → Full r.corner r.opposite t l → Full a b t (sweep r.along a r.far ++ l)
joined {a} {b} {t} {r} {l} p (w, s) = (
  join p.lines p.rest p.apart (sweep_track r.along a r.far) (subst (λ (z : Cell). Neighbours z r.corner) p.end p.beside) w,
  length-append (sweep r.along a r.far) l ∙ (λ i. (length_sweep r.along a r.far ∙ sym p.size) i + s i) ∙ sym p.counts,
)

-- by the sum of the sides
go : (k : ℕ) (a b t : Cell) → Inside a b t → dist a.x b.x + dist a.y b.y < k → Full a b t (corner_from k a b t)
go zero a b t i h = absurd (omega arith)
go (suc k) a b t i h =
    both_branches (Full a b t) (one_line a b t) _ _ (line_full a b t i)
    (λ n. let p = peel_right a b t i n in joined p (go k _ _ t p.target (omega (arith, p.less))))

module _ (a b t : Cell) (i : Inside a b t) where
  full : Full a b t (corner_cells a b t)
  unfolding corner_cells
  full = go (suc (dist a.x b.x + dist a.y b.y)) a b t i (omega arith)

  pub corner_track : TrackIn (Inside a b) a t (corner_cells a b t)
  corner_track = full.0

  pub length_corner : length (corner_cells a b t) ≡ track_count a b t
  length_corner = full.1

-- ---- a turn of the loop that draws them: one line is left, or the lines that the code takes off

pub one_left : (k : ℕ) (a b t : Cell) → 1 ≤ k → one_line a b t ≡ true → corner_from k a b t ≡ sweep (line_way a t) a t
one_left zero a b t h e = absurd (omega arith)
one_left (suc k) a b t h e = sym (cond_yes _ _ e refl)

module _ (a b t : Cell) {r : Peeled} (n : one_line a b t ≡ false) (e : r ≡ peeled a b t) where
  pub peel_here : Inside a b t → Peel a b t r
  peel_here i = subst (Peel a b t) (sym e) (peel_right a b t i n)

  pub more_left : (k : ℕ) → 1 ≤ k → corner_from k a b t ≡ sweep r.along a r.far ++ corner_from (k - 1) r.corner r.opposite t
  more_left zero h = absurd (omega arith)
  more_left (suc k) h =
      let less : k ≡ suc k - 1 = omega arith in
      sym (cond_no _ _ n refl) ∙ (λ i. sweep (sym e i).along a (sym e i).far ++ corner_from (less i) (sym e i).corner (sym e i).opposite t)

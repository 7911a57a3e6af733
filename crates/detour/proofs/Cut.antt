-- A list cut behind a place, which counts from 1: the cells next to the cut, and a list that goes on with other cells there; cells moved from
-- behind the cut to the front; and the two halves of a walk.
use Prim.Native.Nat.{ℕ, zero, suc, ◌+◌, ◌-◌, ◌≤◌, ◌<◌}
use native.Mathlib.Omega.{arith}
use mathlib.Core.Path.{◌≡◌, sym, ap, subst₂, ◌∙◌}
use mathlib.Core.List.{List, [], ◌∷◌, ◌++◌}
use lib.ListN.{length, take, drop, get_or-append}
use lib.Seq.{length-take-le, take_at, drop-append-add, get_or-append-add, get_or-take, get_or-drop}
use Rattle.grid.specs.declared.Cell.{Cell}
use Rattle.grid.specs.Panel.{cell, Neighbours}
use Rattle.grid.specs.Track.{Walk, All, Once}
use Rattle.grid.proofs.Lists.{drop_next}
use Rattle.grid.proofs.Track.{all_append, all_left, all_right}
use Rattle.list.specs.List.{nth}
use Rattle.detour.specs.Detour.{cell_no}

-- ---- next to the cut

-- the cells behind place k: the first is at place j, which is k + 1
module _ (l : List Cell) (k : ℕ) where
  pub first_behind : (j : ℕ) → j ≡ k + 1 → nth (drop k l) 0 ≡ cell_no l j
  first_behind j e = get_or-drop k l 0 (cell 0 0) ∙ ap (nth l) (omega arith)

  -- the first two, and the others
  pub two_behind : k + 2 ≤ length l → drop k l ≡ cell_no l (k + 1) ∷ cell_no l (k + 2) ∷ drop (k + 2) l
  two_behind h =
      let one : k ≡ k + 1 - 1 = omega arith in
      let two : k + 1 ≡ k + 2 - 1 = omega arith in
      let rest : k + 1 + 1 ≡ k + 2 = omega arith in
      drop_next (cell 0 0) l k (omega arith)
      ∙ ap (λ (r : List Cell). nth l k ∷ r) (drop_next (cell 0 0) l (k + 1) (omega arith))
      ∙ (λ i. nth l (one i) ∷ nth l (two i) ∷ drop (rest i) l)

-- a list that goes on with q behind place k: the cells up to the place are as they were, those behind it are q's
module _ (l : List Cell) (k : ℕ) (h : k ≤ length l) (q : List Cell) where
  pub take_kept : take k (take k l ++ q) ≡ take k l
  take_kept = take_at (take k l) q k (length-take-le k l h)

  pub drop_new : (j i : ℕ) → j ≡ k + i → drop j (take k l ++ q) ≡ drop i q
  drop_new j i e =
      let same : j ≡ length (take k l) + i = omega (arith, length-take-le k l h) in
      ap (λ (n : ℕ). drop n (take k l ++ q)) same ∙ drop-append-add (take k l) q i

  pub place_kept : 1 ≤ k → cell_no (take k l ++ q) k ≡ cell_no l k
  place_kept low =
      get_or-append (take k l) q (cell 0 0) (k - 1) (omega (arith, length-take-le k l h)) ∙ get_or-take k l (k - 1) (cell 0 0) (omega arith)

  pub place_new : (j i : ℕ) → j ≡ k + i + 1 → cell_no (take k l ++ q) j ≡ nth q i
  place_new j i e = ap (nth (take k l ++ q)) (omega (arith, length-take-le k l h)) ∙ get_or-append-add (take k l) q i (cell 0 0)

-- ---- cells d that stand behind g, moved in front of it: back again it is the same law

pub all_swapped : {P : Cell → Type 0} (g d r : List Cell) → All P (g ++ (d ++ r)) → All P (d ++ (g ++ r))
all_swapped g d r a =
    let behind = all_right g (d ++ r) a in
    all_append (all_left d r behind) (all_append (all_left g (d ++ r) a) (all_right d r behind))

-- one cell moved behind others
once_put : {c : Cell} (d r : List Cell) → Once (c ∷ (d ++ r)) → Once (d ++ c ∷ r)
once_put [] r o = o
once_put {c} (b ∷ d) r (Once.more (All.more m n) (Once.more h o)) =
    Once.more (all_swapped (c ∷ []) d r (All.more (λ e. m (sym e)) h)) (once_put d r (Once.more n o))

pub once_swapped : (g d r : List Cell) → Once (g ++ (d ++ r)) → Once (d ++ (g ++ r))
once_swapped [] d r o = o
once_swapped (c ∷ g) d r (Once.more h o) = once_put d (g ++ r) (Once.more (all_swapped g d r h) (once_swapped g d r o))

-- ---- walks

-- a walk from s to t, cut in its step from a to b: it comes to a with the first k cells, and goes on from b
pub record Halves (s t a b : Cell) (k : ℕ) (l : List Cell) : Type 0 where
  pub to : Walk s a (take k l)
  pub step : Neighbours a b
  pub from : Walk b t (drop k l)

-- by the number of a, from 0
halves_nth : {s t : Cell} {l : List Cell} → Walk s t l → (i : ℕ) → i + 1 < length l → Halves s t (nth l i) (nth l (suc i)) (suc i) l
halves_nth Walk.end i h = absurd (omega arith)
halves_nth (Walk.step n Walk.end) zero h = record { to = Walk.end; step = n; from = Walk.end }
halves_nth (Walk.step n (Walk.step m w)) zero h = record { to = Walk.end; step = n; from = Walk.step m w }
halves_nth (Walk.step n w) (suc i) h =
    let r = halves_nth w i (omega arith) in
    record { to = Walk.step n r.to; step = r.step; from = r.from }

-- by the places of a and b
pub halves : {s t : Cell} {l : List Cell} → Walk s t l → (k j : ℕ) → 1 ≤ k → j ≡ k + 1 → j ≤ length l → Halves s t (cell_no l k) (cell_no l j) k l
halves {s} {t} {l} w k j low e high =
    let this : suc (k - 1) ≡ k = omega arith in
    let next : suc (k - 1) ≡ j - 1 = omega arith in
    subst₂ (λ (m n : ℕ). Halves s t (cell_no l k) (nth l m) n l) next this (halves_nth w (k - 1) (omega arith))

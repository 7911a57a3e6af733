-- Walks, lists without repeats and tracks: what holds of a part and of a whole, of two lists joined, of a list reversed.
use Prim.Native.Nat.{◌≤◌}
use mathlib.Core.Path.{◌≡◌, refl, sym, subst}
use mathlib.Core.Logic.{◌≢◌}
use mathlib.Core.List.{List, [], ◌∷◌, ◌++◌, reverse, reverse-cons}
use native.Mathlib.Omega.{arith}
use lib.ListN.{length}
use Rattle.grid.specs.declared.Cell.{Cell}
use Rattle.grid.specs.Panel.{Neighbours}
use Rattle.grid.specs.Track.{Walk, All, Once, TrackIn}
use Rattle.grid.proofs.Facts.{beside_sym}

-- ---- every cell

pub all_map : {P Q : Cell → Type 0} {l : List Cell} → ((c : Cell) → P c → Q c) → All P l → All Q l
all_map f All.none = All.none
all_map f (All.more p a) = All.more (f _ p) (all_map f a)

pub all_append : {P : Cell → Type 0} {l k : List Cell} → All P l → All P k → All P (l ++ k)
all_append All.none b = b
all_append (All.more p a) b = All.more p (all_append a b)

pub all_left : {P : Cell → Type 0} (l k : List Cell) → All P (l ++ k) → All P l
all_left [] k a = All.none
all_left (c ∷ l) k (All.more p a) = All.more p (all_left l k a)

pub all_right : {P : Cell → Type 0} (l k : List Cell) → All P (l ++ k) → All P k
all_right [] k a = a
all_right (c ∷ l) k (All.more p a) = all_right l k a

pub all_both : {P Q : Cell → Type 0} {l : List Cell} → All P l → All Q l → All (λ c. P c × Q c) l
all_both All.none All.none = All.none
all_both (All.more p a) (All.more q b) = All.more (p, q) (all_both a b)

-- ---- no cell twice

pub once_append : {l k : List Cell} → Once l → Once k → All (λ c. All (λ d. c ≢ d) k) l → Once (l ++ k)
once_append Once.none o a = o
once_append (Once.more h r) o (All.more q a) = Once.more (all_append h q) (once_append r o a)

-- lists in regions that have no cell in common
pub apart_regions : {A B : Cell → Type 0} {l k : List Cell} → ((c : Cell) → A c → B c → ⊥)
    → All A l → All B k → All (λ c. All (λ d. c ≢ d) k) l
apart_regions {A} {B} dis a b = all_map (λ c p. all_map (λ d q e. dis c p (subst B (sym e) q)) b) a

-- ---- walks

pub walk_append : {s u v t : Cell} {l k : List Cell} → Walk s u l → Neighbours u v → Walk v t k → Walk s t (l ++ k)
walk_append Walk.end n w = Walk.step n w
walk_append (Walk.step m r) n w = Walk.step m (walk_append r n w)

-- ---- tracks

-- a larger region
pub widen : {A B : Cell → Type 0} {s t : Cell} {l : List Cell} → ((c : Cell) → A c → B c) → TrackIn A s t l → TrackIn B s t l
widen f r = record { walk = r.walk; once = r.once; within = all_map f r.within }

-- join: a track in A, then one in B, each in R and without a cell in common, the end of the first beside the start of the second
pub join : {A B R : Cell → Type 0} {s u v t : Cell} {l k : List Cell}
    → ((c : Cell) → A c → R c) → ((c : Cell) → B c → R c) → ((c : Cell) → A c → B c → ⊥)
    → TrackIn A s u l → Neighbours u v → TrackIn B v t k → TrackIn R s t (l ++ k)
join f g dis a n b = record {
  walk = walk_append a.walk n b.walk;
  once = once_append a.once b.once (apart_regions dis a.within b.within);
  within = all_append (all_map f a.within) (all_map g b.within);
}

-- one cell
pub single : {R : Cell → Type 0} {c : Cell} → R c → TrackIn R c c (c ∷ [])
single r = record { walk = Walk.end; once = Once.more All.none Once.none; within = All.more r All.none }

-- ---- the ends of a walk

-- what holds of every cell holds of the first and of the last
pub first_in : {R : Cell → Type 0} {s t : Cell} {l : List Cell} → Walk s t l → All R l → R s
first_in Walk.end (All.more r a) = r
first_in (Walk.step n w) (All.more r a) = r

pub last_in : {R : Cell → Type 0} {s t : Cell} {l : List Cell} → Walk s t l → All R l → R t
last_in Walk.end (All.more r a) = r
last_in (Walk.step n w) (All.more r a) = last_in w a

-- a walk that comes back to its first cell without a cell twice is that one cell: no list goes on and ends there
alone : {s t : Cell} {l : List Cell} → Walk s t l → Once l → s ≡ t → l ≡ s ∷ []
alone Walk.end o e = refl
alone (Walk.step n w) (Once.more h o) e = absurd (last_in w h e)

-- a track from a cell to itself is that one cell
pub one_cell : {R : Cell → Type 0} {s : Cell} {l : List Cell} → TrackIn R s s l → l ≡ s ∷ []
one_cell r = alone r.walk r.once refl

pub some_cell : {s t : Cell} {l : List Cell} → Walk s t l → 1 ≤ length l
some_cell Walk.end = omega arith
some_cell (Walk.step n w) = omega arith

-- ---- reversal

walk_reverse : {s t : Cell} {l : List Cell} → Walk s t l → Walk t s (reverse l)
walk_reverse Walk.end = Walk.end
walk_reverse {t = t} (Walk.step {a = a} {b = b} {l = l} n w) =
    subst (λ (k : List Cell). Walk t a k) (sym (reverse-cons a l)) (walk_append (walk_reverse w) (beside_sym n) Walk.end)

pub all_reverse : {P : Cell → Type 0} {l : List Cell} → All P l → All P (reverse l)
all_reverse All.none = All.none
all_reverse {P} (All.more {c = c} {l = l} p a) = subst (λ (k : List Cell). All P k) (sym (reverse-cons c l)) (all_append (all_reverse a) (All.more p All.none))

once_reverse : {l : List Cell} → Once l → Once (reverse l)
once_reverse Once.none = Once.none
once_reverse (Once.more {c = c} {l = l} h o) =
    subst (λ (k : List Cell). Once k) (sym (reverse-cons c l))
    (once_append (once_reverse o) (Once.more All.none Once.none) (all_map (λ d q. All.more (λ e. q (sym e)) All.none) (all_reverse h)))

pub backwards : {R : Cell → Type 0} {s t : Cell} {l : List Cell} → TrackIn R s t l → TrackIn R t s (reverse l)
backwards r = record { walk = walk_reverse r.walk; once = once_reverse r.once; within = all_reverse r.within }

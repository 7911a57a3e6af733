-- The counts of plans in blocks. A block of even area loses a cell where the track's ends have one colour, a block of odd area where
-- they have two; what the whole panel loses (`defect`) is put in the same terms, and is the same for the panel turned, mirrored, and exchanged.
use Prim.Native.Nat.{ℕ, ◌+◌, ◌-◌, ◌*◌, ◌≤◌, ◌<◌, ◌%◌}
use mathlib.Core.Path.{◌≡◌, refl, sym, ap, ◌∙◌}
use mathlib.Core.Logic.{dite}
use mathlib.Core.Bool.{Bool, true, false, cond, not, ◌&&◌, beq}
use native.Mathlib.Omega.{arith}
use native.Mathlib.Decide.{dec_lt}
use native.Mathlib.Nat.{mul_comm, mul-le-mul}
use lib.Dec.{eqb}
use borrow.Author.Tests.{eqb-true}
use Rattle.grid.specs.declared.Panel.{Panel}
use Rattle.grid.specs.declared.Cell.{Cell}
use Rattle.grid.specs.Panel.{black, dist, turned, turned_cell}
pub use Rattle.grid.proofs.Moves.{black_turned}
use Rattle.corner.specs.Corner.{corner_count, track_count}
use Rattle.count.specs.Count.{odd, area, f1, f2, f3}
use Rattle.count.proofs.Laws.{not_f1, not_f2}
use Rattle.plan.specs.Leg.{mirror_x, mirror_y}
use Rattle.plan.specs.Plan.{differ}
use Rattle.plan.proofs.Terminals.{Distinct}
use Rattle.plan.proofs.Decided.{decided_count, decided_odd, decided_even}
use Rattle.plan.proofs.Size.{count_block, block_loss}
use Rattle.plan.proofs.Parity.{two, three, four, same, bit, mod_bit, odd_sum, odd_product, odd_rest, odd_dist, colour}

-- ---- a block

-- whether a block of w by h loses a cell, its ends having two colours or not
abbrev pub loss : Bool → Bool → Bool → Bool
loss w h d = differ (w && h) (not d)

loss_odd : (w h d : ℕ) → odd (w * h + d + 1) ≡ loss (odd w) (odd h) (odd d)
loss_odd w h d =
    odd_sum (w * h + d) 1 ∙ ap (λ (z : Bool). differ z true) (odd_sum (w * h) d ∙ ap (λ (z : Bool). differ z (odd d)) (odd_product w h))
    ∙ same _ _ (two (λ a b. beq (differ (differ a b) true) (differ a (not b))) refl (odd w && odd h) (odd d))

pub distance_odd : (a t : Cell) → odd (dist a.x t.x + dist a.y t.y) ≡ differ (black a) (black t)
distance_odd a t =
    odd_sum (dist a.x t.x) (dist a.y t.y)
    ∙ (λ i. differ (odd_dist a.x t.x i) (odd_dist a.y t.y i))
    ∙ same _ _ (four mixed refl (odd a.x) (odd t.x) (odd a.y) (odd t.y))
    ∙ (λ i. differ (sym (colour a) i) (sym (colour t) i))
  where
    mixed : Bool → Bool → Bool → Bool → Bool
    mixed a b c d = beq (differ (differ a b) (differ c d)) (differ (differ a c) (differ b d))

dist_pos : (a b c d : ℕ) → (a ≡ b → c ≡ d → ⊥) → 0 < dist a b + dist c d
unfolding dist
dist_pos a b c d h = dite (dec_lt 0 (dist a b + dist c d)) (λ z. z) (λ z. absurd (h (omega arith) (omega arith)))

area_some : (w h : ℕ) → 2 ≤ w → 2 ≤ h → 4 ≤ w * h
area_some w h p q = mul-le-mul p q

-- a corner track in a block, its target not its corner
pub block_size : (a b t : Cell) (w h : ℕ) → dist a.x b.x + 1 ≡ w → dist a.y b.y + 1 ≡ h → 2 ≤ w → 2 ≤ h → Distinct a t
    → track_count a b t + bit (loss (odd w) (odd h) (differ (black a) (black t))) ≡ w * h
unfolding track_count
block_size a b t w h e f p q r =
    let dx = dist a.x t.x in
    let dy = dist a.y t.y in
    let count = (λ i. corner_count (e i) (f i) dx dy) ∙ count_block w h dx dy p q (dist_pos a.x t.x a.y t.y r) in
    let parity = loss_odd w h (dx + dy) ∙ ap (λ (z : Bool). loss (odd w) (odd h) z) (distance_odd a t) in
    let lost = mod_bit (w * h + (dx + dy) + 1) ∙ ap bit parity in
    (λ i. count i + sym lost i) ∙ block_loss w h (dx + dy) (let z = area_some w h p q in omega arith)

-- ---- the panel

-- how many cells of m by n a longest track between cells of colours s and t leaves out
abbrev pub defect : Bool → Bool → Bool → Bool → ℕ
defect m n s t = cond (m && n) (bit s + bit t) (bit (not (differ s t)))

-- a track of k cells leaves out that many
pub record Fits (p : Panel) (s t : Cell) (k : ℕ) : Type 0 where
  pub fits : k + defect (odd p.width) (odd p.height) (black s) (black t) ≡ p.width * p.height

-- as many left out, in other words
same_defect : (k : ℕ) (a b : ℕ) → eqb a b ≡ true → k + a ≡ k + b
same_defect k a b e = ap (λ (z : ℕ). k + z) (eqb-true a b e)

turned_fits : (m n : ℕ) (s t : Cell) (k : ℕ) → k + defect (odd m) (odd n) (black s) (black t) ≡ m * n
    → k + defect (odd n) (odd m) (black (turned_cell s)) (black (turned_cell t)) ≡ n * m
turned_fits m n s t k h =
    (λ i. k + defect (odd n) (odd m) (black_turned s i) (black_turned t i))
    ∙ same_defect k _ _ (four (λ m n s t. eqb (defect n m s t) (defect m n s t)) refl (odd m) (odd n) (black s) (black t))
    ∙ h ∙ mul_comm m n

module _ {p : Panel} {s t : Cell} {k : ℕ} where
  pub fits_exchanged : Fits p s t k → Fits p t s k
  fits_exchanged h = record {
    fits =
        same_defect k _ _ (four (λ m n s t. eqb (defect m n t s) (defect m n s t)) refl (odd p.width) (odd p.height) (black s) (black t))
        ∙ h.fits;
  }

  pub fits_turned : Fits p s t k → Fits (turned p) (turned_cell s) (turned_cell t) k
  fits_turned h = record { fits = turned_fits p.width p.height s t k h.fits }

  pub fits_back : Fits (turned p) (turned_cell s) (turned_cell t) k → Fits p s t k
  fits_back h = record { fits = turned_fits p.height p.width (turned_cell s) (turned_cell t) k h.fits }

-- a number counted from the other end
odd_flipped : (m a b : ℕ) → a ≤ m → differ (odd (m + 1 - a)) (odd b) ≡ differ (not (odd m)) (differ (odd a) (odd b))
odd_flipped m a b p =
    ap (λ (z : Bool). differ z (odd b)) (odd_rest (m + 1 - a) a (m + 1) (omega arith) ∙ ap (λ (z : Bool). differ z (odd a)) (odd_sum m 1))
    ∙ same _ _ (three (λ m a b. beq (differ (differ (differ m true) a) b) (differ (not m) (differ a b))) refl (odd m) (odd a) (odd b))

pub black_mirrored : (m : ℕ) (c : Cell) → c.x ≤ m → black (mirror_x m c) ≡ differ (not (odd m)) (black c)
black_mirrored m c p = colour (mirror_x m c) ∙ odd_flipped m c.x c.y p ∙ ap (λ (z : Bool). differ (not (odd m)) z) (sym (colour c))

pub black_flipped : (n : ℕ) (c : Cell) → c.y ≤ n → black (mirror_y n c) ≡ differ (not (odd n)) (black c)
black_flipped n c p =
    sym (black_turned (mirror_y n c)) ∙ black_mirrored n (turned_cell c) p ∙ ap (λ (z : Bool). differ (not (odd n)) z) (black_turned c)

module _ {p : Panel} {s t : Cell} {k : ℕ} where
  pub fits_mirrored : s.x ≤ p.width → t.x ≤ p.width → Fits p s t k → Fits p (mirror_x p.width s) (mirror_x p.width t) k
  fits_mirrored a b h = record {
    fits =
        (λ i. k + defect (odd m) (odd p.height) (black_mirrored m s a i) (black_mirrored m t b i))
        ∙ same_defect k _ _ (four mirror refl (odd m) (odd p.height) (black s) (black t))
        ∙ h.fits;
  }
    where
      m : ℕ
      m = p.width

      mirror : Bool → Bool → Bool → Bool → Bool
      mirror m n s t = eqb (defect m n (differ (not m) s) (differ (not m) t)) (defect m n s t)

-- mirroring in y is mirroring in x between two turns
pub fits_flipped : {p : Panel} {s t : Cell} {k : ℕ} → s.y ≤ p.height → t.y ≤ p.height → Fits p s t k
    → Fits p (mirror_y p.height s) (mirror_y p.height t) k
fits_flipped a b h = fits_back (fits_mirrored a b (fits_turned h))

-- ---- document 01's count

-- where the colours are equal
same_colours : (a b : ℕ) → bit (not (differ (odd a) (odd b))) ≡ (a + b + 1) % 2
same_colours a b = sym (mod_bit (a + b + 1) ∙ ap bit parity)
  where
    parity : odd (a + b + 1) ≡ not (differ (odd a) (odd b))
    parity =
        odd_sum (a + b) 1 ∙ ap (λ (z : Bool). differ z true) (odd_sum a b)
        ∙ same _ _ (two (λ a b. beq (differ (differ a b) true) (not (differ a b))) refl (odd a) (odd b))

pub fits_decided : (p : Panel) (s t : Cell) → 3 ≤ p.width → 3 ≤ p.height → f3 p s t ≡ false → Fits p s t (decided_count p s t)
fits_decided p s t wide high no3 = go (odd (area p)) refl
  where
    no1 : f1 p s t ≡ false
    no1 = not_f1 p s t (λ e. omega arith)

    no2 : f2 p s t ≡ false
    no2 = not_f2 p s t (λ e. omega arith)

    big : 4 ≤ area p
    big = area_some p.width p.height (omega arith) (omega arith)

    left_out : Bool → ℕ
    left_out b = cond b (bit (black s) + bit (black t)) (bit (not (differ (black s) (black t))))

    by_area : {b : Bool} → odd (area p) ≡ b → {k : ℕ} → k + left_out b ≡ area p → Fits p s t k
    by_area e {k} h = record { fits = ap (λ (z : Bool). k + left_out z) (sym (odd_product p.width p.height) ∙ e) ∙ h }

    go : (b : Bool) → odd (area p) ≡ b → Fits p s t (decided_count p s t)
    go true e =
        by_area e
        ((λ i. decided_count p s t + (sym (mod_bit (s.x + s.y)) i + sym (mod_bit (t.x + t.y)) i))
        ∙ decided_odd p s t no1 no2 (mod_bit (area p) ∙ ap bit e) no3 (omega (arith, big)))
    go false e =
        by_area e
        (ap (λ (z : ℕ). decided_count p s t + z) (same_colours (s.x + s.y) (t.x + t.y))
        ∙ decided_even p s t no1 no2 (mod_bit (area p) ∙ ap bit e) no3 (omega (arith, big)))

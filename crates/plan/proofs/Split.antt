-- Plans of two blocks joined by an edge in the first or last row: a chain wherever the edge is, of the right size where the two blocks lose together
-- what the panel loses. `inner_plans` chooses the row so that they do; `edge_plans` is a split by rows beside the panel's edge.
use Prim.Native.Nat.{ℕ, ◌+◌, ◌-◌, ◌*◌, ◌≤◌, ◌<◌, min, max}
use mathlib.Core.Path.{◌≡◌, refl, sym, ap, ◌∙◌, subst₂}
use mathlib.Core.Logic.{◌⊎◌, inl, inr, ⊎_elim, dite}
use mathlib.Core.Bool.{Bool, true, false, not, ◌&&◌, true≢false}
use native.Mathlib.Omega.{arith}
use native.Mathlib.Decide.{ℕ_discrete}
use lib.Dec.{eqb}
use borrow.Author.Tests.{eqb-true}
use Rattle.grid.specs.declared.Panel.{Panel}
use Rattle.grid.specs.declared.Cell.{Cell}
use Rattle.grid.specs.Panel.{OnPanel, black, dist, turned}
use Rattle.grid.proofs.Facts.{and_right, cell_eq, beside_x}
use Rattle.grid.proofs.Tests.{both_branches}
use Rattle.corner.specs.Corner.{track_count}
use Rattle.corner.proofs.Count.{count_thin}
use Rattle.count.specs.Count.{odd}
use Rattle.plan.specs.declared.Leg.{Leg}
use Rattle.plan.specs.Leg.{cell, forth, back, leg_count}
use Rattle.plan.specs.Plan.{split, differ, critical, free, starts_other, crossing, inner_split, edge_split}
use Rattle.plan.proofs.Cases.{if_less}
use Rattle.plan.proofs.Terminals.{Distinct, Near, free_yes, free_no}
use Rattle.plan.proofs.Chain.{LegFrom, forth_leg, back_leg, left_of, Plans, two_legs}
use Rattle.plan.proofs.Moved.{plan_turned}
use Rattle.plan.proofs.Parity.{two, three, four, six, implies, apply, bit, odd_sum, odd_rest}
use Rattle.plan.proofs.Defect.{loss, block_size, defect, Fits, fits_turned}

-- ---- lengths

pub span_up : (a b w : ℕ) → a ≤ b → a + w ≡ b + 1 → dist a b + 1 ≡ w
unfolding dist
span_up a b w p e = omega arith

pub span_down : (a b w : ℕ) → b ≤ a → b + w ≡ a + 1 → dist a b + 1 ≡ w
unfolding dist
span_down a b w p e = omega arith

-- the first row, or the last
abbrev pub EndRow : ℕ → ℕ → Type 0
EndRow n j = (j ≡ 1) ⊎ (j ≡ n)

end_span : (n j : ℕ) → 1 ≤ n → EndRow n j → dist j (n + 1 - j) + 1 ≡ n
end_span n j p r = ⊎_elim (λ e. span_up j (n + 1 - j) n (omega arith) (omega arith)) (λ e. span_down j (n + 1 - j) n (omega arith) (omega arith)) r

record Rows (n j : ℕ) : Type 0 where
  low : 1 ≤ j
  high : j ≤ n
  from : (y : ℕ) → 1 ≤ y → min j (n + 1 - j) ≤ y
  upto : (y : ℕ) → y ≤ n → y ≤ max j (n + 1 - j)

end_rows : (n j : ℕ) → 1 ≤ n → EndRow n j → Rows n j
end_rows n j p r =
    ⊎_elim
    (λ e. record { low = omega arith; high = omega arith; from = λ y h. omega arith; upto = λ y h. omega arith })
    (λ e. record { low = omega arith; high = omega arith; from = λ y h. omega arith; upto = λ y h. omega arith })
    r

-- ---- two blocks

module _ (p : Panel) (c j : ℕ) where
  -- columns 1 to c, and the others, joined by the edge from (c, j) to (c + 1, j)
  abbrev first_block : Cell → Leg
  first_block s = back (cell c j) (cell 1 (p.height + 1 - j)) s

  abbrev second_block : Cell → Leg
  second_block t = forth (cell (c + 1) j) (cell p.width (p.height + 1 - j)) t

  -- what they lose, the second having d columns
  abbrev first_loss : Cell → ℕ
  first_loss s = bit (loss (odd c) (odd p.height) (differ (black (cell c j)) (black s)))

  abbrev second_loss : ℕ → Cell → ℕ
  second_loss d t = bit (loss (odd d) (odd p.height) (differ (black (cell (c + 1) j)) (black t)))

-- the same, by the parities of the column, the panel's sides and the row, and by the colours of s and t
abbrev pub split_loss : Bool → Bool → Bool → Bool → Bool → Bool → ℕ
split_loss x m n y s t = bit (loss x n (differ (differ x y) s)) + bit (loss (differ m x) n (differ (differ (differ x true) y) t))

module _ (p : Panel) (s t : Cell) (c j : ℕ) (os : OnPanel p s) (ot : OnPanel p t) where
  module _ (left : s.x ≤ c) (right : c < t.x) (row : EndRow p.height j) where
    high : 1 ≤ p.height
    high = omega arith

    rows : Rows p.height j
    rows = end_rows p.height j high row

    first : LegFrom p (first_block p c j s) s (cell c j)
    first =
        back_leg (omega (arith, rows.low, rows.high)) (omega (arith, rows.low, rows.high))
        (omega (arith, rows.from s.y os.top, rows.upto s.y os.bottom))

    second : LegFrom p (second_block p c j t) (cell (c + 1) j) t
    second =
        forth_leg (omega (arith, rows.low, rows.high)) (omega (arith, rows.low, rows.high))
        (omega (arith, rows.from t.y ot.top, rows.upto t.y ot.bottom))

    split_plans : (d k v w : ℕ) → c + d ≡ p.width
        → leg_count (first_block p c j s) + v ≡ c * p.height → leg_count (second_block p c j t) + w ≡ d * p.height
        → k + (v + w) ≡ p.width * p.height → Plans p s t k (split p.width p.height s t c j)
    unfolding split
    split_plans d k v w e f g h =
        let m = ap (λ (z : ℕ). z * p.height) e in
        two_legs first (beside_x refl refl) second (left_of c (omega arith)) (omega arith)

    first_size : 2 ≤ c → 2 ≤ p.height → Distinct (cell c j) s → leg_count (first_block p c j s) + first_loss p c j s ≡ c * p.height
    first_size a b n =
        block_size (cell c j) (cell 1 (p.height + 1 - j)) s c p.height
        (span_down c 1 c (omega arith) (omega arith)) (end_span p.height j high row) a b n

    second_size : (d : ℕ) → c + d ≡ p.width → 2 ≤ d → 2 ≤ p.height → Distinct (cell (c + 1) j) t
        → leg_count (second_block p c j t) + second_loss p c j d t ≡ d * p.height
    second_size d e a b n =
        block_size (cell (c + 1) j) (cell p.width (p.height + 1 - j)) t d p.height
        (span_up (c + 1) p.width d (omega arith) (omega arith)) (end_span p.height j high row) a b n

  losses_are : (d : ℕ) → c + d ≡ p.width
      → first_loss p c j s + second_loss p c j d t ≡ split_loss (odd c) (odd p.width) (odd p.height) (odd j) (black s) (black t)
  losses_are d e =
      let u = odd_rest d c p.width (let h : d + c ≡ p.width = omega arith in h) in
      let v = odd_sum (c + 1) j ∙ ap (λ (z : Bool). differ z (odd j)) (odd_sum c 1) in
      λ i. bit (loss (odd c) (odd p.height) (differ (odd_sum c j i) (black s))) + bit (loss (u i) (odd p.height) (differ (v i) (black t)))

  -- two blocks that lose what the panel loses
  split_fits : s.x ≤ c → c < t.x → EndRow p.height j → (k : ℕ) → Fits p s t k → 2 ≤ c → c + 2 ≤ p.width → 2 ≤ p.height
      → Distinct (cell c j) s → Distinct (cell (c + 1) j) t
      → split_loss (odd c) (odd p.width) (odd p.height) (odd j) (black s) (black t)
      ≡ defect (odd p.width) (odd p.height) (black s) (black t)
      → Plans p s t k (split p.width p.height s t c j)
  split_fits left right row k f a b h n o e =
      let d = p.width - c in
      let q : c + d ≡ p.width = omega arith in
      let r : 2 ≤ d = omega arith in
      split_plans left right row d k _ _ q (first_size left right row a h n) (second_size left right row d q r h o)
      (ap (λ (z : ℕ). k + z) (losses_are d q ∙ e) ∙ f.fits)

-- ---- which row

pub ne_colour : (a b : Cell) → differ (black a) (black b) ≡ true → Distinct a b
ne_colour a b e f g = true≢false (sym e ∙ (λ i. differ (odd (f i + g i)) (black b)) ∙ never (black b))
  where
    never : (z : Bool) → differ z z ≡ false
    never true = refl
    never false = refl

pub and_false : (a b : Bool) → (a && b) ≡ false → (a ≡ false) ⊎ (b ≡ false)
and_false true b e = inr e
and_false false b e = inl refl

-- the colours choose the row
abbrev pub by_colours : Panel → Cell → Cell → Bool
by_colours p s t = not (odd p.height) && differ (black s) (black t)

-- what a split needs where they do not: the terminals are near, and this is not the case that a split does not serve
pub record SplitServes (p : Panel) (s t : Cell) : Type 0 where
  pub near : Near s t
  pub served : (odd p.height && critical p.width s t) ≡ false

-- the edge in row 1 meets a terminal: then the edge in the last row does not
meets : (n c : ℕ) (s t : Cell) → 4 ≤ n → Near s t → free c 1 s t ≡ false → Distinct (cell c n) s × Distinct (cell (c + 1) n) t
meets n c s t h near f = go (free_no c 1 s t f)
  where
    go : ((c ≡ s.x) × (1 ≡ s.y)) ⊎ ((c + 1 ≡ t.x) × (1 ≡ t.y)) → Distinct (cell c n) s × Distinct (cell (c + 1) n) t
    go (inl e) = (λ a b. omega arith, λ a b. omega arith)
    go (inr e) = (λ a b. omega arith, λ a b. omega arith)

-- tests over the parities of the column x, the sides m and n and the row y, and the colours a and b of s and t.
-- With two colours, an edge that begins with the colour that s has not ends with the one that t has not
abbrev edge_test : Bool → Bool → Bool → Bool → Bool
edge_test x y a b = implies (differ a b) (implies (differ (differ x y) a) (differ (differ (differ x true) y) b))

-- and on an even number of rows it loses what the panel does
abbrev colours_test : Bool → Bool → Bool → Bool → Bool → Bool → Bool
colours_test x m n y a b = implies (not n && differ a b) (implies (differ (differ x y) a) (eqb (split_loss x m n y a b) (defect m n a b)))

-- so does an edge in the first row or in the last of an odd number, where the colours do not choose
abbrev free_test : Bool → Bool → Bool → Bool → Bool → Bool → Bool
free_test x m n y a b =
    implies (implies n y)
    (implies (not (not n && differ a b)) (implies (not (n && (not m && (a && not b)))) (eqb (split_loss x m n y a b) (defect m n a b))))

-- of the first row and the last one begins with the colour that s has not
abbrev row_test : Bool → Bool → Bool → Bool → Bool
row_test x n a b = implies (not n && differ a b) (implies (not (differ (differ x true) a)) (differ (differ x n) a))

module _ (p : Panel) (s t : Cell) (k c : ℕ) (os : OnPanel p s) (ot : OnPanel p t) (fits : Fits p s t k) (high : 4 ≤ p.height) where
  -- crossing in row j gives a plan of k cells
  abbrev At : ℕ → Type 0
  At j = Plans p s t k (split p.width p.height s t c j)

  module _ (two≤ : 2 ≤ c) (wide : c + 2 ≤ p.width) (left : s.x ≤ c) (right : c < t.x) where
    over_colours : (j : ℕ) → EndRow p.height j → by_colours p s t ≡ true → differ (differ (odd c) (odd j)) (black s) ≡ true → At j
    over_colours j row e f =
        split_fits p s t c j os ot left right row k fits two≤ wide (omega arith)
        (ne_colour (cell c j) s (ap (λ (z : Bool). differ z (black s)) (odd_sum c j) ∙ f))
        (ne_colour (cell (c + 1) j) t (ap (λ (z : Bool). differ z (black t)) next ∙ apply (apply ends (and_right (not (odd p.height)) _ e)) f))
        (eqb-true _ _ (apply (apply lost e) f))
      where
        next : black (cell (c + 1) j) ≡ differ (differ (odd c) true) (odd j)
        next = odd_sum (c + 1) j ∙ ap (λ (z : Bool). differ z (odd j)) (odd_sum c 1)

        ends : edge_test (odd c) (odd j) (black s) (black t) ≡ true
        ends = four edge_test refl (odd c) (odd j) (black s) (black t)

        lost : colours_test (odd c) (odd p.width) (odd p.height) (odd j) (black s) (black t) ≡ true
        lost = six colours_test refl (odd c) (odd p.width) (odd p.height) (odd j) (black s) (black t)

    over_free : (j : ℕ) → EndRow p.height j → implies (odd p.height) (odd j) ≡ true → by_colours p s t ≡ false
        → (odd p.height && critical p.width s t) ≡ false → Distinct (cell c j) s × Distinct (cell (c + 1) j) t → At j
    over_free j row o e f n =
        let l = six free_test refl (odd c) (odd p.width) (odd p.height) (odd j) (black s) (black t) in
        split_fits p s t c j os ot left right row k fits two≤ wide (omega arith) n.0 n.1
        (eqb-true _ _ (apply (apply (apply l o) (ap not e)) (ap not f)))

    inner_at : (by_colours p s t ≡ false → SplitServes p s t) → At (crossing p.height s t c)
    unfolding crossing
    inner_at serves =
        both_branches At _ _ _
        (λ e.
        both_branches At (starts_other c s) 1 p.height
        (λ f. over_colours 1 (inl refl) e (sym first ∙ f))
        (λ f. over_colours p.height (inr refl) e (apply (apply last e) (ap not (sym first ∙ f)))))
        (λ e.
        let h = serves e in
        both_branches At (free c 1 s t) 1 p.height
        (λ f. over_free 1 (inl refl) (one_odd (odd p.height)) e h.served (free_yes c 1 s t f))
        (λ f. over_free p.height (inr refl) (self (odd p.height)) e h.served (meets p.height c s t high h.near f)))
      where
        first : starts_other c s ≡ differ (differ (odd c) true) (black s)
        first = ap (λ (z : Bool). differ z (black s)) (odd_sum c 1)

        last : row_test (odd c) (odd p.height) (black s) (black t) ≡ true
        last = four row_test refl (odd c) (odd p.height) (black s) (black t)

        one_odd : (b : Bool) → implies b true ≡ true
        one_odd true = refl
        one_odd false = refl

        self : (b : Bool) → implies b b ≡ true
        self true = refl
        self false = refl

-- the split at the column of s, or at column 2 where s is in the first
pub inner_plans : (p : Panel) (s t : Cell) (k : ℕ) → OnPanel p s → OnPanel p t → Fits p s t k → 4 ≤ p.height → 4 ≤ p.width
    → s.x + 2 ≤ p.width → s.x < t.x → 2 < t.x → (by_colours p s t ≡ false → SplitServes p s t)
    → Plans p s t k (inner_split p.width p.height s t)
unfolding inner_split
inner_plans p s t k os ot f high wide room l r serves =
    if_less (λ (c : ℕ). Plans p s t k (split p.width p.height s t c (crossing p.height s t c))) s.x 2 _ _
    (λ h. inner_at p s t k _ os ot f high (omega arith) (omega arith) (omega arith) (omega arith) serves)
    (λ h. inner_at p s t k _ os ot f high h room (omega arith) l serves)

-- ---- beside the edge: s in column 1, t one to the right and one below; the panel turned, so that the split goes by rows

module _ (y m : ℕ) where
  -- the second block, up to column n of the turned panel
  abbrev below_block : ℕ → Leg
  below_block n = forth (cell (y + 1) m) (cell n (m + 1 - m)) (cell (y + 1) 2)

  abbrev below_loss : ℕ → ℕ
  below_loss d = bit (loss (odd d) (odd m) (differ (black (cell (y + 1) m)) (black (cell (y + 1) 2))))

  -- where it is one column: all of it but the first cell
  one_column : 4 ≤ m → leg_count (below_block (y + 1)) + 1 ≡ 1 * m
  unfolding track_count dist
  one_column h =
      let w = dist (y + 1) (y + 1) in
      ap (λ (z : ℕ). z + 1) (count_thin (w + 1) (dist m (m + 1 - m) + 1) w (dist m 2) (omega arith) (omega arith) (omega arith)) ∙ (omega arith)

  below_size : (n d : ℕ) → 4 ≤ m → 1 ≤ d → y + d ≡ n → leg_count (below_block n) + below_loss d ≡ d * m
  below_size n d h l e = dite (ℕ_discrete d 1) column block
    where
      column : d ≡ 1 → leg_count (below_block n) + below_loss d ≡ d * m
      column q =
          let r : n ≡ y + 1 = omega arith in
          let lost =
          (λ i. loss (odd (q i)) (odd m) (differ (odd_sum (y + 1) m i) (odd_sum (y + 1) 2 i)))
          ∙ two (λ a b. loss true b (differ (differ a b) (differ a false))) refl (odd (y + 1)) (odd m)
          in
          (λ i. leg_count (below_block (r i)) + bit (lost i)) ∙ one_column h ∙ ap (λ (z : ℕ). z * m) (sym q)

      block : (d ≡ 1 → ⊥) → leg_count (below_block n) + below_loss d ≡ d * m
      block q =
          let wide = span_up (y + 1) n d (omega arith) (omega arith) in
          let high = end_span m m (omega arith) (inr refl) in
          block_size (cell (y + 1) m) (cell n (m + 1 - m)) (cell (y + 1) 2) d m wide high (omega arith) (omega arith) (λ a b. omega arith)

-- the two blocks lose what the panel does
abbrev edge_loss : Bool → Bool → Bool → Bool
edge_loss y n m =
    eqb (split_loss y n m m (differ y true) (differ (differ y true) false)) (defect n m (differ y true) (differ (differ y true) false))

edge_at : (p : Panel) (y k : ℕ) → 4 ≤ p.width → 2 ≤ y → y + 1 ≤ p.height → Fits p (cell 1 y) (cell 2 (y + 1)) k
    → Plans p (cell 1 y) (cell 2 (y + 1)) k (edge_split p.width p.height (cell 1 y) (cell 2 (y + 1)))
unfolding edge_split
edge_at p y k w a b f =
    plan_turned {p = p}
    (split_plans q s t y m os ot stays right (inr refl) d k _ _ e
    (first_size q s t y m os ot stays right (inr refl) a (omega arith) (λ u v. omega arith))
    (below_size y m n d w (omega arith) e)
    (ap (λ (z : ℕ). k + z) (losses_are q s t y m os ot d e ∙ lost) ∙ (fits_turned f).fits))
  where
    m : ℕ
    m = p.width

    n : ℕ
    n = p.height

    q : Panel
    q = turned p

    s : Cell
    s = cell y 1

    t : Cell
    t = cell (y + 1) 2

    d : ℕ
    d = n - y

    e : y + d ≡ n
    e = omega arith

    os : OnPanel q s
    os = omega arith

    ot : OnPanel q t
    ot = omega arith

    stays : y ≤ y
    stays = omega arith

    right : y < y + 1
    right = omega arith

    es : black s ≡ differ (odd y) true
    es = odd_sum y 1

    et : black t ≡ differ (differ (odd y) true) false
    et = odd_sum (y + 1) 2 ∙ ap (λ (z : Bool). differ z false) es

    lost : split_loss (odd y) (odd n) (odd m) (odd m) (black s) (black t) ≡ defect (odd n) (odd m) (black s) (black t)
    lost =
        (λ i. split_loss (odd y) (odd n) (odd m) (odd m) (es i) (et i))
        ∙ eqb-true _ _ (three edge_loss refl (odd y) (odd n) (odd m))
        ∙ (λ i. defect (odd n) (odd m) (sym es i) (sym et i))

pub edge_plans : (p : Panel) (s t : Cell) (k : ℕ) → s.x ≡ 1 → t.x ≡ 2 → t.y ≡ s.y + 1 → 4 ≤ p.width → 2 ≤ s.y → t.y ≤ p.height
    → Fits p s t k → Plans p s t k (edge_split p.width p.height s t)
edge_plans p s t k e f g w a b =
    let es : cell 1 s.y ≡ s = cell_eq (sym e) refl in
    let et : cell 2 (s.y + 1) ≡ t = cell_eq (sym f) (sym g) in
    subst₂ (λ (u v : Cell). Fits p u v k → Plans p u v k (edge_split p.width p.height u v)) es et
    (edge_at p s.y k w a (omega arith))

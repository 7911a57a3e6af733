-- Both sides 4 or more, neither terminal in a corner: the plan that is chosen has the count's cells. The theorem goes along the decision list of
-- specs/Plan.antt; a leaf is one of the plans of Split, Wrap and Bridge, and a turn, a mirror or an exchange carries a plan and its count along.
use Prim.Native.Nat.{ℕ, ◌+◌, ◌-◌, ◌%◌, ◌≤◌, ◌<◌}
use mathlib.Core.Path.{◌≡◌, refl, sym, ap, ◌∙◌}
use mathlib.Core.Logic.{⊎_elim, dite}
use mathlib.Core.Bool.{Bool, true, false, cond, not, ◌&&◌, ◌||◌, and_comm, true≢false}
use native.Mathlib.Omega.{arith}
use native.Mathlib.Decide.{dec_lt}
use lib.Dec.{leb, eqb}
use borrow.Author.Tests.{eqb-true, eqb-false, leb-true, leb-false}
use Rattle.grid.specs.declared.Panel.{Panel}
use Rattle.grid.specs.declared.Cell.{Cell}
use Rattle.grid.specs.Panel.{OnPanel, black, turned, turned_cell}
use Rattle.grid.proofs.Facts.{and_parts}
use Rattle.grid.proofs.Moves.{turn_on}
use Rattle.grid.proofs.Tests.{both_branches}
use Rattle.count.specs.Count.{odd}
use Rattle.count.proofs.Laws.{not_f3}
use Rattle.plan.specs.Leg.{mirror_y}
use Rattle.plan.specs.Plan.{moving, left_first, differ, critical, steep, inner_split, wrapped, at_edge, bridged, four_rows}
use Rattle.plan.proofs.Cases.{if_equal, if_less}
use Rattle.plan.proofs.Chain.{Plans, exchanged}
use Rattle.plan.proofs.Moved.{mirror_move, mirror_y_move, plan_turned, plan_mirrored, plan_flipped}
use Rattle.plan.proofs.Terminals.{Distinct, NotCorner, Near, Steep, Critical, steep_yes, steep_no, critical_yes}
use Rattle.plan.proofs.Parity.{odd_yes, odd_no, is_odd, is_even, odd_sum, odd_rest}
use Rattle.plan.proofs.Decided.{decided_count}
use Rattle.plan.proofs.Defect.{Fits, fits_exchanged, fits_turned, fits_mirrored, fits_flipped, black_turned, black_flipped, fits_decided}
use Rattle.plan.proofs.Split.{and_false, by_colours, inner_plans, edge_plans}
use Rattle.plan.proofs.Wrap.{wrap_plans}
use Rattle.plan.proofs.Bridge.{bridge_plans}

-- ---- around t

-- whether a wrap is mirrored in y
abbrev turns : ℕ → ℕ → Bool
turns n y = cond (odd n) (eqb (y + 1) n) (odd y)

module _ (n y : ℕ) (high : 4 ≤ n) (top : 2 ≤ y) (bottom : y + 1 ≤ n) where
  -- the row counted from below: not too near the border, and even where the height is
  turning_row : turns n y ≡ true → (3 ≤ y) × ((odd n || not (odd (n + 1 - y))) ≡ true)
  turning_row = go (odd n) refl
    where
      go : (z : Bool) → odd n ≡ z → cond z (eqb (y + 1) n) (odd y) ≡ true → (3 ≤ y) × ((z || not (odd (n + 1 - y))) ≡ true)
      go true e f = (let g = eqb-true (y + 1) n f in omega arith, refl)
      go false e f =
          let next = odd_sum n 1 ∙ ap (λ (z : Bool). differ z true) e in
          let parity = odd_rest (n + 1 - y) y (n + 1) (omega arith) ∙ (λ i. differ (next i) (f i)) in
          (let g = is_odd y f in omega arith, ap not parity)

  -- the row as it is
  staying_row : turns n y ≡ false → (y + 2 ≤ n) × ((odd n || not (odd y)) ≡ true)
  staying_row = go (odd n) refl
    where
      go : (z : Bool) → odd n ≡ z → cond z (eqb (y + 1) n) (odd y) ≡ false → (y + 2 ≤ n) × ((z || not (odd y)) ≡ true)
      go true e f = (let g = eqb-false (y + 1) n f in omega arith, refl)
      go false e f = (let g = is_even y f in let i = is_even n e in omega arith, ap not f)

module _ (p : Panel) (s t : Cell) (k : ℕ) (os : OnPanel p s) (ot : OnPanel p t) (f : Fits p s t k) where
  wrapped_plans : s.x + 1 ≡ t.x → s.y ≡ t.y → s.x + 3 ≤ p.width → 4 ≤ p.height → 2 ≤ s.y → s.y + 1 ≤ p.height
      → odd s.x ≡ true
      → Plans p s t k (wrapped p.width p.height s t)
  unfolding wrapped
  wrapped_plans e g right high top bottom o =
      both_branches (Plans p s t k) (turns p.height s.y) _ _
      (λ b.
      let r = turning_row p.height s.y high top bottom b in
      let three = r.0 in
      let level = ap (λ (z : ℕ). p.height + 1 - z) g in
      let fits = fits_flipped os.bottom ot.bottom f in
      plan_flipped os ot (wrap_plans p _ _ k e level os.left right (omega arith) (omega arith) o r.1 fits))
      (λ b.
      let r = staying_row p.height s.y high top bottom b in
      wrap_plans p s t k e g os.left right top r.0 o r.1 f)

  -- ---- beside the edge

  edge_choice : 4 ≤ p.width → 4 ≤ p.height → s.x ≡ 1 → t.x ≡ 2 → Near s t → 2 ≤ s.y → s.y + 1 ≤ p.height
      → Plans p s t k (at_edge p.width p.height s t)
  unfolding at_edge
  edge_choice wide high e g near top bottom =
      if_equal (Plans p s t k) s.y t.y _ _
      (λ h. wrapped_plans (omega arith) h (omega arith) high top bottom (ap odd e))
      (λ h.
      if_less (Plans p s t k) t.y s.y _ _
      (λ l.
      let fits = fits_flipped os.bottom ot.bottom f in
      plan_flipped os ot (edge_plans p _ _ k e g (omega arith) wide (omega arith) (omega arith) fits))
      (λ l. edge_plans p s t k e g (omega arith) wide top ot.bottom f))

  -- ---- the width even, the height odd, s black, t white

  -- the split by rows: the colours choose the column
  rows_plans : 4 ≤ p.width → 5 ≤ p.height → odd p.width ≡ false → differ (black s) (black t) ≡ true → s.y ≤ 2 → p.height ≤ t.y + 1
      → Plans p s t k (moving turned_cell (inner_split p.height p.width) s t)
  rows_plans wide high em ec low up =
      plan_turned {p = p}
      (inner_plans (turned p) (turned_cell s) (turned_cell t) k (turn_on os) (turn_on ot) (fits_turned f)
      wide (omega arith) (omega arith) (omega arith) (omega arith) (λ z. absurd (true≢false (sym chosen ∙ z))))
    where
      chosen : by_colours (turned p) (turned_cell s) (turned_cell t) ≡ true
      chosen = (λ i. not (em i) && differ (black_turned s i) (black_turned t i)) ∙ ec

-- neither both low nor both high: one at either end
ends : (a b n : ℕ) → 5 ≤ n → a ≤ b → (leb 3 a && leb 3 b) ≡ false → (leb (a + 2) n && leb (b + 2) n) ≡ false → (a ≤ 2) × (n ≤ b + 1)
ends a b n h l e f =
    ⊎_elim (λ g. go (leb-false 3 a g)) (λ g. go (let z = leb-false 3 b g in omega arith)) (and_false _ _ e)
  where
    go : a < 3 → (a ≤ 2) × (n ≤ b + 1)
    go g = (
      omega arith,
      ⊎_elim (λ i. let z = leb-false (a + 2) n i in omega arith) (λ i. let z = leb-false (b + 2) n i in omega arith) (and_false _ _ f),
    )

both_le : (a b c d : ℕ) → (leb a b && leb c d) ≡ true → (a ≤ b) × (c ≤ d)
both_le a b c d e = let h = and_parts (leb a b) (leb c d) e in (leb-true a b h.0, leb-true c d h.1)

module _ (p : Panel) (s t : Cell) (k : ℕ) (os : OnPanel p s) (ot : OnPanel p t) (f : Fits p s t k) where
  bridged_plans : (c : ℕ) → 2 ≤ c → c + 2 ≤ p.width → 5 ≤ p.height → s.x ≤ c → c < t.x
      → odd c ≡ false → odd p.height ≡ true → Critical p.width s t → Plans p s t k (bridged p.width p.height s t c)
  unfolding bridged
  bridged_plans c two≤ wide high left right ec en r =
      both_branches (Plans p s t k) (leb 3 s.y && leb 3 t.y) _ _
      (λ e.
      let y = both_le 3 s.y 3 t.y e in
      bridge_plans p s t c k two≤ wide (omega arith) os ot left right y.0 y.1 ec em es et f)
      (λ e.
      both_branches (Plans p s t k) (leb (s.y + 2) p.height && leb (t.y + 2) p.height) _ _
      (λ g.
      let y = both_le (s.y + 2) p.height (t.y + 2) p.height g in
      let ys = y.0 in
      let yt = y.1 in
      plan_flipped os ot
      (bridge_plans p _ _ c k two≤ wide (omega arith) ((mirror_y_move p).on s os) ((mirror_y_move p).on t ot) left right (omega arith) (omega arith)
      ec em (keep s os.bottom ∙ es) (keep t ot.bottom ∙ et) (fits_flipped os.bottom ot.bottom f)))
      (λ g.
      if_less (Plans p s t k) s.y t.y _ _
      (λ l.
      let y = ends s.y t.y p.height high (omega arith) e g in
      rows_plans p s t k os ot f (omega arith) high em (λ i. differ (es i) (et i)) y.0 y.1)
      (λ l.
      let y = ends t.y s.y p.height high l (and_comm (leb 3 t.y) _ ∙ e) (and_comm (leb (t.y + 2) p.height) _ ∙ g) in
      exchanged (rows_plans p t s k ot os (fits_exchanged f) (omega arith) high em (λ i. differ (et i) (es i)) y.0 y.1))))
    where
      em : odd p.width ≡ false
      em = odd_no p.width r.even

      es : black s ≡ true
      es = odd_yes (s.x + s.y) r.dark

      et : black t ≡ false
      et = odd_no (t.x + t.y) r.light

      -- the height being odd, a cell keeps its colour
      keep : (c : Cell) → c.y ≤ p.height → black (mirror_y p.height c) ≡ black c
      keep c h = black_flipped p.height c h ∙ ap (λ (z : Bool). differ (not z) (black c)) en

-- ---- the choice

-- side by side, of two colours: in one row
level : (s t : Cell) → s.x + 1 ≡ t.x → Near s t → (s.x + s.y) % 2 ≡ 1 → (t.x + t.y) % 2 ≡ 0 → s.y ≡ t.y
level s t e near f g = omega arith

-- the next even column
round_up : (x t : ℕ) → x < t → (eqb (x + 1) t && odd x) ≡ false → x + x % 2 < t
round_up x t l e = ⊎_elim (λ f. let h = eqb-false (x + 1) t f in omega arith) (λ f. let h = is_even x f in omega arith) (and_false _ _ e)

round_even : (x : ℕ) → (x + x % 2) % 2 ≡ 0
round_even x = omega arith

round_room : (c m t : ℕ) → c % 2 ≡ 0 → m % 2 ≡ 0 → c < t → t ≤ m → c + 2 ≤ m
round_room c m t e f g h = omega arith

module _ (p : Panel) (s t : Cell) (k : ℕ) (os : OnPanel p s) (ot : OnPanel p t) (f : Fits p s t k) where
  critical_plans : 4 ≤ p.height → s.x < t.x → Near s t → (s.x + 1 ≡ p.width → ⊥) → odd p.height ≡ true → Critical p.width s t
      → Plans p s t k
      (cond (eqb (s.x + 1) t.x && odd s.x) (wrapped p.width p.height s t) (bridged p.width p.height s t (s.x + s.x % 2)))
  critical_plans high l near inner odd-height r =
      both_branches (Plans p s t k) (eqb (s.x + 1) t.x && odd s.x) _ _
      (λ e.
      let h = and_parts (eqb (s.x + 1) t.x) (odd s.x) e in
      let next = eqb-true (s.x + 1) t.x h.0 in
      let x = is_odd s.x h.1 in
      wrapped_plans p s t k os ot f next (level s t next near r.dark r.light) (room s.x p.width x r.even (omega arith) inner)
      high (above_one s.x s.y x r.dark os.top) (below_last s.x s.y p.height x r.dark hn os.bottom) h.1)
      (λ e.
      let up = round_up s.x t.x l e in
      let even = round_even s.x in
      let fit = round_room (s.x + s.x % 2) p.width t.x even r.even up ot.right in
      bridged_plans p s t k os ot f (s.x + s.x % 2) (above_zero s.x os.left) fit (five p.height high hn)
      (up_le s.x) up (odd_no _ even) odd-height r)
    where
      hn : p.height % 2 ≡ 1
      hn = is_odd p.height odd-height

      room : (x m : ℕ) → x % 2 ≡ 1 → m % 2 ≡ 0 → x + 1 ≤ m → (x + 1 ≡ m → ⊥) → x + 3 ≤ m
      room x m e f g h = omega arith

      above_one : (x y : ℕ) → x % 2 ≡ 1 → (x + y) % 2 ≡ 1 → 1 ≤ y → 2 ≤ y
      above_one x y e f g = omega arith

      below_last : (x y n : ℕ) → x % 2 ≡ 1 → (x + y) % 2 ≡ 1 → n % 2 ≡ 1 → y ≤ n → y + 1 ≤ n
      below_last x y n e f g h = omega arith

      above_zero : (x : ℕ) → 1 ≤ x → 2 ≤ x + x % 2
      above_zero x h = omega arith

      five : (n : ℕ) → 4 ≤ n → n % 2 ≡ 1 → 5 ≤ n
      five n h e = omega arith

      up_le : (x : ℕ) → x ≤ x + x % 2
      up_le x = omega arith

  -- neither the first row nor the last
  inner_row : (n y : ℕ) → 1 ≤ y → y ≤ n → (y ≡ 1 → ⊥) → (y ≡ n → ⊥) → (2 ≤ y) × (y + 1 ≤ n)
  inner_row n y a b e f = (omega arith, omega arith)

  -- s left of t and no further from it in rows than in columns: the plan has k cells, wherever k fits the panel and the colours
  four_rows_lem : 4 ≤ p.width → 4 ≤ p.height → s.x < t.x → Near s t → NotCorner p s → NotCorner p t
      → Plans p s t k (four_rows p.width p.height s t)
  unfolding four_rows
  four_rows_lem wide high l near ns nt =
      if_equal (Plans p s t k) t.x 2 _ _
      (λ e.
      let one : s.x ≡ 1 = omega arith in
      let r = inner_row p.height s.y os.top os.bottom (ns.upper_left one) (ns.lower_left one) in
      edge_choice p s t k os ot f wide high one e near r.0 r.1)
      (λ e.
      if_equal (Plans p s t k) (s.x + 1) p.width _ _
      (λ g.
      let last : t.x ≡ p.width = omega arith in
      let r = inner_row p.height t.y ot.top ot.bottom (nt.upper_right last) (nt.lower_right last) in
      let fits = fits_mirrored ot.right os.right (fits_exchanged f) in
      plan_mirrored os ot
      (exchanged
      (edge_choice p _ _ k ((mirror_move p).on t ot) ((mirror_move p).on s os) fits wide high
      (omega arith) (omega arith) (record { up = omega arith; down = omega arith }) r.0 r.1)))
      (λ g.
      both_branches (Plans p s t k) (odd p.height && critical p.width s t) _ _
      (λ c.
      let h = and_parts (odd p.height) (critical p.width s t) c in
      critical_plans high l near g h.0 (critical_yes p.width s t h.1))
      (λ c. inner_plans p s t k os ot f high wide (omega arith) l (omega arith) (λ z. record { near = near; served = c }))))

-- ---- m not less than n

not_corner_turned : {p : Panel} {c : Cell} → NotCorner p c → NotCorner (turned p) (turned_cell c)
not_corner_turned h = record {
  upper_left = λ a b. h.upper_left b a;
  upper_right = λ a b. h.lower_left b a;
  lower_left = λ a b. h.upper_right b a;
  lower_right = λ a b. h.lower_right b a;
}

-- on the turned panel the terminals are near, the upper one named first
steep_down : (s t : Cell) → s.x ≤ t.x → s.y ≤ t.y → Steep s t → (s.y < t.y) × Near (turned_cell s) (turned_cell t)
steep_down s t l h e = ⊎_elim (λ q. (omega arith, record { up = omega arith; down = omega arith })) (λ q. absurd (omega arith)) e

steep_up : (s t : Cell) → s.x ≤ t.x → t.y < s.y → Steep s t → Near (turned_cell t) (turned_cell s)
steep_up s t l h e = ⊎_elim (λ q. absurd (omega arith)) (λ q. record { up = omega arith; down = omega arith }) e

module _ (p : Panel) (s t : Cell) (high : 4 ≤ p.height) (os : OnPanel p s) (ot : OnPanel p t) (l : s.x ≤ t.x) (ns : NotCorner p s) (nt : NotCorner p t) where
  -- further apart in rows than in columns: turned, and the terminals named anew
  steep_plans : (k : ℕ) → 4 ≤ p.width → Steep s t → Fits p s t k
      → Plans p s t k (moving turned_cell (left_first (four_rows p.height p.width)) s t)
  steep_plans k wide e f =
      plan_turned {p = p}
      (if_less (Plans (turned p) (turned_cell s) (turned_cell t) k) t.y s.y _ _
      (λ h.
      exchanged
      (four_rows_lem (turned p) (turned_cell t) (turned_cell s) k (turn_on ot) (turn_on os) (fits_turned (fits_exchanged f)) high wide h
      (steep_up s t l h e) (not_corner_turned nt) (not_corner_turned ns)))
      (λ h.
      let d = steep_down s t l h e in
      four_rows_lem (turned p) (turned_cell s) (turned_cell t) k (turn_on os) (turn_on ot) (fits_turned f) high wide d.0 d.1
      (not_corner_turned ns) (not_corner_turned nt)))

  -- m not less than n, s not right of t: the plan has the cells that class and count say
  pub four_wide : p.height ≤ p.width → Distinct s t
      → Plans p s t (decided_count p s t)
      (cond (steep s t) (moving turned_cell (left_first (four_rows p.height p.width)) s t) (four_rows p.width p.height s t))
  four_wide wide n =
      let f = fits_decided p s t (omega arith) (omega arith) (not_f3 p s t (λ (e : p.height ≡ 3). omega arith)) in
      both_branches (Plans p s t (decided_count p s t)) (steep s t) _ _
      (λ e. steep_plans _ (omega arith) (steep_yes s t e) f)
      (λ e.
      let near = steep_no s t e in
      let apart = dite (dec_lt s.x t.x) (λ z. z) (λ z. absurd (n (omega arith) (omega arith))) in
      four_rows_lem p s t _ os ot f (omega arith) high apart near ns nt)

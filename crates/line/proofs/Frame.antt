-- A rectangle coordinate by coordinate, and its lines there and back. Rows and columns are one law: a `Frame` says where the p-th cell of the q-th line lies.
use Rattle.std.proofs.Common.{◌≡◌, ℕ, suc, ◌+◌, ◌*◌, ◌%◌, Bool, cond, ◌≢◌, sym, refl, ap, ◌∙◌, mul_comm, add_comm, arith, eq-eqb, ne_eqb}
use Rattle.grid.specs.declared.Cell.{Cell}
use Rattle.line.specs.declared.Along.{Along}
use Rattle.line.specs.declared.Along.TheVariants.{Rows, Columns}
use Rattle.grid.specs.Panel.{cell, dist, apart, Neighbours}
use Rattle.grid.proofs.Facts.{cell_eq}
use Rattle.line.specs.Rectangle.{Inside, cells_between, ahead, turning, sweep_end}
use Rattle.line.specs.Sweep.{lines, sweep}
use Rattle.line.specs.Drawn.{InBytes}
use Rattle.line.proofs.Between.{by_eq, dist_zero, dist_same, Between, between, least, most, between_sym, start_between, between_part, below}

-- ---- rectangles, coordinate by coordinate

pub inside_x : {a b c : Cell} → Inside a b c → Between a.x b.x c.x
inside_x i = between _ _ _ i.left i.right

pub inside_y : {a b c : Cell} → Inside a b c → Between a.y b.y c.y
inside_y i = between _ _ _ i.top i.bottom

pub inside : {a b c : Cell} → Between a.x b.x c.x → Between a.y b.y c.y → Inside a b c
inside p q = record { left = least p; right = most p; top = least q; bottom = most q }

pub first_inside : (a b : Cell) → Inside a b a
first_inside a b = inside (start_between _ _) (start_between _ _)

pub last_inside : (a b : Cell) → Inside a b b
last_inside a b = inside (between_sym (start_between _ _)) (between_sym (start_between _ _))

-- the smallest rectangle of two cells of a rectangle
pub inside_part : {a b c d e : Cell} → Inside a b c → Inside a b d → Inside c d e → Inside a b e
inside_part i j k = inside (between_part (inside_x i) (inside_x j) (inside_x k)) (between_part (inside_y i) (inside_y j) (inside_y k))

-- the cells of a rectangle whose corners are bytes
pub in_bytes : {a b c : Cell} → InBytes a → InBytes b → Inside a b c → InBytes c
in_bytes s t i = record { across = below (inside_x i) s.across t.across; down = below (inside_y i) s.down t.down }

-- ---- rows and columns

-- E p q is the p-th cell of the q-th line
pub record Frame (way : Along) (E : ℕ → ℕ → Cell) : Type 0 where
  pub along : Cell → ℕ
  pub over : Cell → ℕ
  pub inside : {p q p' q' : ℕ} {c : Cell} → Between p p' (along c) → Between q q' (over c) → Inside (E p q) (E p' q') c
  pub inside_along : {p q p' q' : ℕ} {c : Cell} → Inside (E p q) (E p' q') c → Between p p' (along c)
  pub inside_over : {p q p' q' : ℕ} {c : Cell} → Inside (E p q) (E p' q') c → Between q q' (over c)
  pub beside : (p q s : ℕ) → dist q s ≡ 1 → Neighbours (E p q) (E p s)
  pub sides : (p q p' q' : ℕ) → dist (E p q).x (E p' q').x + dist (E p q).y (E p' q').y ≡ dist p p' + dist q q'
  pub size : (p q p' q' : ℕ) → cells_between (E p q) (E p' q') ≡ (dist p p' + 1) * (dist q q' + 1)
  pub end : (p q p' q' : ℕ) → sweep_end way (E p q) (E p' q') ≡ E (turning (dist q q' + 1) p p') q'
  pub sweeps : (p q p' q' : ℕ) → sweep way (E p q) (E p' q') ≡ lines E p p' (ahead q q') (suc (dist q q'))

unfoldable pub in_rows : Frame Rows (λ p q. cell p q)
unfolding apart cells_between sweep_end sweep
in_rows = record {
  along = λ c. c.x;
  over = λ c. c.y;
  inside = inside;
  inside_along = inside_x;
  inside_over = inside_y;
  beside = λ p q s h. record { one = (λ i. dist_zero p i + h i) };
  sides = λ p q p' q'. refl;
  size = λ p q p' q'. refl;
  end = λ p q p' q'. refl;
  sweeps = λ p q p' q'. refl;
}

unfoldable pub in_columns : Frame Columns (λ p q. cell q p)
unfolding apart cells_between sweep_end sweep
in_columns = record {
  along = λ c. c.y;
  over = λ c. c.x;
  inside = λ i j. inside j i;
  inside_along = inside_y;
  inside_over = inside_x;
  beside = λ p q s h. record { one = (λ i. h i + dist_zero p i) };
  sides = λ p q p' q'. add_comm (dist q q') (dist p p');
  size = λ p q p' q'. mul_comm (dist q q' + 1) (dist p p' + 1);
  end = λ p q p' q'. refl;
  sweeps = λ p q p' q'. refl;
}

-- ---- there and back

pub turning_even : (k p q : ℕ) → k % 2 ≡ 0 → turning k p q ≡ p
unfolding turning
turning_even k p q e = ap (λ (b : Bool). cond b p q) (eq-eqb _ _ e)

pub turning_odd : (k p q : ℕ) → k % 2 ≢ 0 → turning k p q ≡ q
unfolding turning
turning_odd k p q e = ap (λ (b : Bool). cond b p q) (ne_eqb _ _ e)

pub turning_once : (p q : ℕ) → turning 1 p q ≡ q
turning_once p q = turning_odd 1 p q (omega arith)

pub turning_next : (k p q : ℕ) → turning (suc k) p q ≡ turning k q p
turning_next k p q =
    by_eq (k % 2) 0
    (λ e. turning_odd (suc k) p q (omega arith) ∙ sym (turning_even k q p e))
    (λ e. turning_even (suc k) p q (omega arith) ∙ sym (turning_odd k q p e))

-- a single line ends in the target
pub sweep_row : (a t : Cell) → a.y ≡ t.y → sweep_end Rows a t ≡ t
unfolding sweep_end
sweep_row a t e = let z = dist_same e in cell_eq (turning_odd _ _ _ (omega arith)) refl

pub sweep_column : (a t : Cell) → a.x ≡ t.x → sweep_end Columns a t ≡ t
unfolding sweep_end
sweep_column a t e = let z = dist_same e in cell_eq refl (turning_odd _ _ _ (omega arith))

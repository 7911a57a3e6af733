-- All lines of a rectangle, there and back from a corner: the numbers that the code writes are their cells, and these are a track, the first line and
-- then the lines of what remains from the corner beside its end. From where they end they are the same lines, the last cell first.
use Rattle.std.proofs.Common.{◌≡◌, ℕ, zero, suc, ◌+◌, ◌-◌, ◌*◌, ◌%◌, ◌<◌, ◌≤◌, Bool, cond, ◌≢◌, List, ◌++◌, reverse, length, sym, refl, ap, ◌∙◌, subst, subst₂, append_assoc, append-nil, suc-le-suc, zero-le, add_comm, mul-zero, mul-suc, add-one, arith, length-append, le-leb}
use mathlib.Core.List.{reverse-append}
use borrow.Author.Tests.{lt-leb}
use Rattle.grid.specs.declared.Cell.{Cell}
use Rattle.line.specs.declared.Along.{Along}
use Rattle.line.specs.declared.Along.TheVariants.{Rows, Columns}
use Rattle.grid.specs.Panel.{dist}
use Rattle.grid.specs.Track.{TrackIn}
use Rattle.grid.proofs.Facts.{dist_sym}
use Rattle.grid.proofs.Track.{join}
use Rattle.line.specs.Along.{seen, other, unit}
use Rattle.line.specs.Rectangle.{Inside, cells_between, ahead, turning, sweep_end}
use Rattle.line.specs.Line.{line, cell_number, step_to, snake, all_lines}
use Rattle.line.specs.Sweep.{line_from, lines, sweep}
use Rattle.line.specs.Drawn.{Bytes, InBytes, written}
use Rattle.line.proofs.Between.{between_sym, start_between, below, by_le, lt_le, dist_same, dist_eq, dist_small, dist_up, dist_down}
use Rattle.line.proofs.Between.{ahead_up, ahead_down, Cut, cut}
use Rattle.line.proofs.Frame.{Frame, in_rows, in_columns, turning_even, turning_odd, turning_next, turning_once}
use Rattle.line.proofs.Line.{Axis, in_row, in_column, line_track, length_line, line_same, line_back}
use Rattle.line.proofs.Line.{ahead_start, ahead_stop, ahead_next, ahead_back}
use Rattle.line.proofs.Line.{Unit, row_unit, column_unit, line_numbered, stepped}

-- ---- lines there and back, by their cells

module _ (E : ℕ → ℕ → Cell) where
  pub length_lines : (p p' : ℕ) (f : ℕ → ℕ) (k : ℕ) → length (lines E p p' f k) ≡ (dist p p' + 1) * k
  length_lines p p' f zero = sym (mul-zero (dist p p' + 1))
  length_lines p p' f (suc k) =
      length-append (line_from E p p' (f 0)) (lines E p' p (λ j. f (suc j)) k)
      ∙ (λ i. length_line (λ i. E (ahead p p' i) (f 0)) (dist p p' + 1) i + length_lines p' p (λ j. f (suc j)) k i)
      ∙ ap (λ (n : ℕ). dist p p' + 1 + (n + 1) * k) (dist_sym p' p)
      ∙ add_comm (dist p p' + 1) ((dist p p' + 1) * k) ∙ sym (mul-suc (dist p p' + 1) k)

  -- equal line by line
  lines_same : (p p' : ℕ) (f g : ℕ → ℕ) (k : ℕ) → ((j : ℕ) → j < k → f j ≡ g j) → lines E p p' f k ≡ lines E p p' g k
  lines_same p p' f g zero h = refl
  lines_same p p' f g (suc k) h =
      λ i. line_from E p p' (h 0 (suc-le-suc zero-le) i) ++ lines_same p' p (λ j. f (suc j)) (λ j. g (suc j)) k (λ j l. h (suc j) (suc-le-suc l)) i

  -- the first line, and the lines from the next one on
  lines_next : (p p' q q' k : ℕ) → k ≤ dist q q'
      → lines E p p' (ahead q q') (suc k) ≡ line_from E p p' q ++ lines E p' p (ahead (ahead q q' 1) q') k
  lines_next p p' q q' k h =
      λ i. line_from E p p' (ahead_start q q' i)
      ++ lines_same p' p (λ j. ahead q q' (suc j)) (ahead (ahead q q' 1) q') k (λ j l. ahead_next q q' j (omega arith)) i

  -- one line more behind them
  lines_more : (p p' : ℕ) (f : ℕ → ℕ) (k : ℕ)
      → lines E p p' f (suc k) ≡ lines E p p' f k ++ line_from E (turning k p p') (turning k p' p) (f k)
  lines_more p p' f zero = append-nil _ ∙ (λ i. line_from E (sym (turning_even 0 p p' refl) i) (sym (turning_even 0 p' p refl) i) (f 0))
  lines_more p p' f (suc k) =
      ap (λ (l : List Cell). line_from E p p' (f 0) ++ l) (lines_more p' p (λ j. f (suc j)) k)
      ∙ sym (append_assoc (line_from E p p' (f 0)) (lines E p' p (λ j. f (suc j)) k) _)
      ∙ (λ i. lines E p p' f (suc k) ++ line_from E (sym (turning_next k p p') i) (sym (turning_next k p' p) i) (f (suc k)))

  -- a line's last cell first
  from_back : (p p' q : ℕ) → reverse (line_from E p p' q) ≡ line_from E p' p q
  from_back p p' q =
      line_back (λ i. E (ahead p p' i) q) (dist p p' + 1)
      ∙ line_same _ _ (dist p p' + 1) (λ i h. ap (λ (r : ℕ). E r q) (ahead_back p p' (dist p p' + 1 - (i + 1)) i (omega arith)))
      ∙ ap (λ (n : ℕ). line (λ i. E (ahead p' p i) q) (n + 1)) (dist_sym p p')

  -- the last line first, from where they end
  lines_back : (p p' : ℕ) (f : ℕ → ℕ) (k : ℕ)
      → reverse (lines E p p' f k) ≡ lines E (turning k p p') (turning k p' p) (λ j. f (k - (j + 1))) k
  lines_back p p' f zero = refl
  lines_back p p' f (suc k) =
      ap reverse (lines_more p p' f k)
      ∙ reverse-append (lines E p p' f k) (line_from E (turning k p p') (turning k p' p) (f k))
      ∙ (λ i. from_back (turning k p p') (turning k p' p) (f k) i ++ lines_back p p' f k i)
      ∙ (λ i. line_from E (sym (turning_next k p p') i) (sym (turning_next k p' p) i) (f (head i))
      ++ lines E (sym (turning_next k p' p) i) (sym (turning_next k p p') i) (λ j. f (tail j i)) k)
    where
      head : k ≡ suc k - (0 + 1)
      head = omega arith

      tail : (j : ℕ) → k - (j + 1) ≡ suc k - (suc j + 1)
      tail j = omega arith

  -- all lines from q to q', from where they end
  lines_home : (p p' q q' : ℕ) → let k = suc (dist q q') in
      lines E (turning k p p') (turning k p' p) (ahead q' q) k ≡ reverse (lines E p p' (ahead q q') k)
  lines_home p p' q q' =
      let k = suc (dist q q') in
      sym (lines_back p p' (ahead q q') k
      ∙ lines_same _ _ (λ j. ahead q q' (k - (j + 1))) (ahead q' q) k (λ j h. ahead_back q q' (k - (j + 1)) j (omega arith)))

-- the first number, and the others
cut_one : (q q' : ℕ) → 1 ≤ dist q q' → Cut q q' 1 q (ahead q q' 1)
cut_one q q' h = subst (λ (l : ℕ). Cut q q' 1 l (ahead q q' 1)) (ahead_start q q') (cut q q' 1 (omega arith) h)

-- one step on, the way leads where it led
step_next : (v q q' : ℕ) → 1 ≤ dist q q' → 1 ≤ dist (ahead q q' 1) q' → step_to v (ahead q q' 1) q' ≡ step_to v q q'
unfolding step_to
step_next v q q' h l =
    by_le q q'
    (λ e.
    let a = ahead_up {p = q} {q = q'} 1 e in
    let d = dist_up e in
    ap (λ (b : Bool). cond b v (65536 - v)) (le-leb (ahead q q' 1) q' (omega arith) ∙ sym (le-leb q q' e)))
    (λ e.
    let a = ahead_down {p = q} {q = q'} 1 e in
    let d = dist_down (lt_le e) in
    let g : q' ≤ ahead q q' 1 = omega arith in
    let w = dist_down g in
    ap (λ (b : Bool). cond b v (65536 - v)) (lt-leb (ahead q q' 1) q' (omega arith) ∙ sym (lt-leb q q' e)))

pub row_bytes : {a b : Cell} → InBytes a → InBytes b → Bytes a.x a.y b.x b.y
row_bytes s t = record { left = s.across; top = s.down; right = t.across; bottom = t.down }

pub column_bytes : {a b : Cell} → InBytes a → InBytes b → Bytes a.y a.x b.y b.x
column_bytes s t = record { left = s.down; top = s.across; right = t.down; bottom = t.across }

-- a frame whose lines, and the ways across them, go by steps in number
pub record Numbered {way : Along} {E : ℕ → ℕ → Cell} (F : Frame way E) (u v : ℕ) : Type 0 where
  pub axis : (q : ℕ) → Axis (λ p. E p q)
  pub unit : (q : ℕ) → q ≤ 255 → Unit (λ p. E p q) u
  pub unit_over : (p : ℕ) → p ≤ 255 → Unit (λ q. E p q) v

pub numbered_rows : Numbered in_rows 1 256
numbered_rows = record { axis = in_row; unit = row_unit; unit_over = column_unit }

pub numbered_columns : Numbered in_columns 256 1
numbered_columns = record { axis = in_column; unit = column_unit; unit_over = row_unit }

-- a track in the rectangle of a and b that begins in a
abbrev From : Cell → Cell → Cell → List Cell → Type 0
From a b t l = TrackIn (Inside a b) a t l

-- k lines there and back from the number f on
abbrev turns : ℕ → ℕ → ℕ → ℕ → ℕ → ℕ → List Cell
turns f u c p p' k = snake f (step_to u p p') (step_to u p' p) c (dist p p' + 1) k

-- ---- the lines are a track

module _ {way : Along} {E : ℕ → ℕ → Cell} (F : Frame way E) where
  swept : ((q : ℕ) → Axis (λ p. E p q)) → (k p q p' q' : ℕ) → dist q q' ≡ k → From (E p q) (E p' q') (E (turning (k + 1) p p') q') (lines E p p' (ahead q q') (suc k))
  swept axis zero p q p' q' d =
      subst₂ (λ (r : ℕ) (l : List Cell). From (E p q) (E p' r) (E (turning 1 p p') r) l) (dist_eq q q' d)
      (sym (lines_next E p p' q q' 0 (omega arith) ∙ append-nil _))
      (subst (λ (r : ℕ). From (E p q) (E p' q) (E r q) (line_from E p p' q)) (sym (turning_once p p')) (line_track (axis q) p p'))
  swept axis (suc k) p q p' q' d =
      let C = cut_one q q' (omega arith) in
      subst₂ (λ (r : ℕ) (l : List Cell). From (E p q) (E p' q') (E r q') l)
      (sym (turning_next (k + 1) p p') ∙ ap (λ (j : ℕ). turning j p p') (omega arith))
      (sym (lines_next E p p' q q' (suc k) (omega arith)))
      (join
      (λ g i. F.inside (F.inside_along i) (C.before _ (F.inside_over i)))
      (λ g i. F.inside (between_sym (F.inside_along i)) (C.behind _ (F.inside_over i)))
      (λ g i j. C.apart _ (F.inside_over i) (F.inside_over j))
      (line_track (axis q) p p') (F.beside p' q (ahead q q' 1) C.beside)
      (swept axis k p' (ahead q q' 1) p q' (omega (arith, C.left))))

  sweep_in : ((q : ℕ) → Axis (λ p. E p q)) → (p q p' q' : ℕ) → From (E p q) (E p' q') (sweep_end way (E p q) (E p' q')) (sweep way (E p q) (E p' q'))
  sweep_in axis p q p' q' =
      subst₂ (λ (c : Cell) (l : List Cell). From (E p q) (E p' q') c l) (sym (F.end p q p' q')) (sym (F.sweeps p q p' q')) (swept axis (dist q q') p q p' q' refl)

  -- from where the lines end they have the same cells, the last one first
  pub sweep_home : (p q p' q' : ℕ) {x o : ℕ} → x ≡ turning (dist q q' + 1) p p' → o ≡ turning (dist q q' + 1) p' p
      → sweep way (E x q') (E o q) ≡ reverse (sweep way (E p q) (E p' q'))
  sweep_home p q p' q' {x} {o} e f =
      let n = add-one (dist q q') in
      let e' = e ∙ ap (λ (k : ℕ). turning k p p') n in
      let f' = f ∙ ap (λ (k : ℕ). turning k p' p) n in
      F.sweeps x q' o q
      ∙ (λ j. lines E (e' j) (f' j) (ahead q' q) (suc (dist_sym q' q j)))
      ∙ lines_home E p p' q q' ∙ ap reverse (sym (F.sweeps p q p' q'))

  pub line_home : (p q p' q' : ℕ) → q ≡ q' → sweep way (E p' q') (E p q) ≡ reverse (sweep way (E p q) (E p' q'))
  line_home p q p' q' e =
      let z = dist_same e in
      sweep_home p q p' q' (sym (turning_odd _ p p' (omega arith))) (sym (turning_odd _ p' p (omega arith)))

  length_in : (p q p' q' : ℕ) → length (sweep way (E p q) (E p' q')) ≡ cells_between (E p q) (E p' q')
  length_in p q p' q' =
      ap length (F.sweeps p q p' q') ∙ length_lines E p p' (ahead q q') (suc (dist q q'))
      ∙ ap (λ (k : ℕ). (dist p p' + 1) * k) (sym (add-one (dist q q'))) ∙ sym (F.size p q p' q')

pub sweep_track : (way : Along) (a b : Cell) → TrackIn (Inside a b) a (sweep_end way a b) (sweep way a b)
sweep_track Rows a b = sweep_in in_rows in_row a.x a.y b.x b.y
sweep_track Columns a b = sweep_in in_columns in_column a.y a.x b.y b.x

pub length_sweep : (way : Along) (a b : Cell) → length (sweep way a b) ≡ cells_between a b
length_sweep Rows a b = length_in in_rows a.x a.y b.x b.y
length_sweep Columns a b = length_in in_columns a.y a.x b.y b.x

-- ---- the numbers that the code writes are these cells

module _ {way : Along} {E : ℕ → ℕ → Cell} {F : Frame way E} {u v : ℕ} (N : Numbered F u v) where
  -- the number where the next line begins
  next : {p q p' q' c : ℕ} → Bytes p q p' q' → 1 ≤ dist q q' → c ≡ step_to v q q'
      → (cell_number (E p q) + step_to u p p' * (dist p p' + 1 - 1) + c) % 65536 ≡ cell_number (E p' (ahead q q' 1))
  next {p} {q} {p'} {q'} s d e =
      let a : (cell_number (E p q) + step_to u p p' * dist p p') % 65536 ≡ cell_number (E p' q) =
      stepped (N.unit q s.top) p p' s.left s.right (dist p p') (omega arith)
      ∙ ap (λ (k : ℕ). cell_number (E k q)) (ahead_stop p p') in
      let b = stepped (N.unit_over p' s.right) q q' s.top s.bottom 1 d in
      let z : dist p p' + 1 - 1 ≡ dist p p' = omega arith in
      let w = ap (λ (k : ℕ). step_to u p p' * k) z in
      omega (arith, a, b, w, e)

  by_numbers : (k p q p' q' c : ℕ) → Bytes p q p' q' → dist q q' ≡ k → (k ≢ 0 → c ≡ step_to v q q')
      → turns (cell_number (E p q)) u c p p' (suc k) ≡ lines E p p' (ahead q q') (suc k)
  by_numbers zero p q p' q' c s d e =
      append-nil _ ∙ line_numbered (N.unit q s.top) p p' s.left s.right ∙ sym (lines_next E p p' q q' 0 (omega arith) ∙ append-nil _)
  by_numbers (suc k) p q p' q' c s d e =
      let far : 1 ≤ dist q q' = omega arith in
      let a : c ≡ step_to v q q' = e (omega arith) in
      let C = cut_one q q' far in
      let f : dist (ahead q q' 1) q' ≡ k = omega (arith, C.left) in
      let inner = by_numbers k p' (ahead q q' 1) p q' c (turned C) f (λ n. a ∙ sym (step_next v q q' (omega arith) (omega arith))) in
      (λ j. line_numbered (N.unit q s.top) p p' s.left s.right j
      ++ snake (next s far a j) (step_to u p' p) (step_to u p p') c (dist_sym p p' j + 1) (suc k))
      ∙ ap (λ (l : List Cell). line_from E p p' q ++ l) inner
      ∙ sym (lines_next E p p' q q' (suc k) (omega arith))
    where
      turned : Cut q q' 1 q (ahead q q' 1) → Bytes p' (ahead q q' 1) p q'
      turned C =
          let b = C.behind (ahead q q' 1) (start_between _ _) in
          record { left = s.right; top = below b s.top s.bottom; right = s.left; bottom = s.bottom }

  pub all_numbered : {p q p' q' : ℕ} → Bytes p q p' q'
      → turns (cell_number (E p q)) u (step_to v q q') p p' (dist q q' + 1) ≡ sweep way (E p q) (E p' q')
  all_numbered {p} {q} {p'} {q'} s =
      ap (turns (cell_number (E p q)) u (step_to v q q') p p') (add-one (dist q q'))
      ∙ by_numbers (dist q q') p q p' q' (step_to v q q') s refl (λ z. refl) ∙ sym (F.sweeps p q p' q')

  -- what is written by these numbers
  pub sweep_written : {w : Along} {p q p' q' f : ℕ} (old : List ℕ) {new : List ℕ} → w ≡ way → Bytes p q p' q' → f ≡ cell_number (E p q)
      → new ≡ written (all_lines f u v p q p' q') ((dist p p' + 1) * (dist q q' + 1)) old
      → new ≡ written (sweep w (E p q) (E p' q')) (cells_between (E p q) (E p' q')) old
  sweep_written {w} {p} {q} {p'} {q'} {f} old z s e h = h ∙ (λ j. written (cells j) (sym (F.size p q p' q') j) old)
    where
      cells : all_lines f u v p q p' q' ≡ sweep w (E p q) (E p' q')
      cells =
          ap (λ (k : ℕ). all_lines k u v p q p' q') e ∙ all_numbered s
          ∙ ap (λ (k : Along). sweep k (E p q) (E p' q')) (sym z)

-- the numbers that the code computes
pub snake_of : (w : Along) (a b : Cell) → InBytes a → InBytes b
    → snake (cell_number a) (step_to (unit w) (seen w a).x (seen w b).x) (step_to (unit w) (seen w b).x (seen w a).x)
    (step_to (unit (other w)) (seen w a).y (seen w b).y) (dist (seen w a).x (seen w b).x + 1) (dist (seen w a).y (seen w b).y + 1)
    ≡ sweep w a b
snake_of Rows a b s t = all_numbered numbered_rows (row_bytes s t)
snake_of Columns a b s t = all_numbered numbered_columns (column_bytes s t)

pub snake_size : (w : Along) (a b : Cell)
    → (dist (seen w a).x (seen w b).x + 1) * (dist (seen w a).y (seen w b).y + 1) ≡ cells_between a b
snake_size Rows a b = sym (in_rows.size a.x a.y b.x b.y)
snake_size Columns a b = sym (in_columns.size a.y a.x b.y b.x)

-- a line of a rectangle in bytes
pub side_small : (w : Along) {a b : Cell} → InBytes a → InBytes b → dist (seen w a).x (seen w b).x ≤ 255
side_small Rows s t = dist_small _ _ s.across t.across
side_small Columns s t = dist_small _ _ s.down t.down

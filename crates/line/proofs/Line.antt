-- A straight line is a track. Cell i of a line is i steps ahead of its first cell (`Along`), in a row or in a column (`Axis`), and i steps on in number
-- (`Unit`): one law for the four directions.
use Rattle.std.proofs.Common.{◌≡◌, ℕ, zero, suc, ◌+◌, ◌-◌, ◌*◌, ◌%◌, ◌<◌, ◌≤◌, Bool, cond, ◌≢◌, List, [], ◌∷◌, ◌++◌, reverse, length, sym, refl, ap, ◌∙◌, subst, subst₂, suc-le-suc, zero-le, add-mul, add-one, arith, le-leb}
use mathlib.Core.List.{reverse-append}
use borrow.Author.Tests.{lt-leb}
use Rattle.grid.specs.declared.Cell.{Cell}
use Rattle.grid.specs.Panel.{cell, dist, apart, Neighbours}
use Rattle.grid.specs.Track.{Walk, All, Once, TrackIn}
use Rattle.grid.proofs.Facts.{cell_eq}
use Rattle.line.specs.Rectangle.{Inside, ahead}
use Rattle.line.specs.Line.{line, cell_number, cell_of, numbered, step_to}
use Rattle.line.specs.Drawn.{InBytes}
use Rattle.line.proofs.Between.{Between, least, most, start_between, dist_up, dist_down, dist_zero, by_le, lt_le, ahead_up, ahead_down}

-- ---- lists f 0, f 1, ..

pub length_line : (f : ℕ → Cell) (n : ℕ) → length (line f n) ≡ n
length_line f zero = refl
length_line f (suc n) = ap suc (length_line (λ i. f (suc i)) n)

-- one cell more
pub line_more : (f : ℕ → Cell) (n : ℕ) → line f (suc n) ≡ line f n ++ (f n ∷ [])
line_more f zero = refl
line_more f (suc n) = ap (λ (l : List Cell). f 0 ∷ l) (line_more (λ i. f (suc i)) n)

all_line : {P : Cell → Type 0} (f : ℕ → Cell) (n : ℕ) → ((i : ℕ) → i < n → P (f i)) → All P (line f n)
all_line f zero h = All.none
all_line f (suc n) h = All.more (h 0 (suc-le-suc zero-le)) (all_line (λ i. f (suc i)) n (λ i l. h (suc i) (suc-le-suc l)))

walk_line : (f : ℕ → Cell) (n : ℕ) → ((i : ℕ) → i < n → Neighbours (f i) (f (suc i))) → Walk (f 0) (f n) (line f (suc n))
walk_line f zero h = Walk.end
walk_line f (suc n) h = Walk.step (h 0 (suc-le-suc zero-le)) (walk_line (λ i. f (suc i)) n (λ i l. h (suc i) (suc-le-suc l)))

once_line : (f : ℕ → Cell) (n : ℕ) → ((i j : ℕ) → i < j → j < n → f i ≢ f j) → Once (line f n)
once_line f zero h = Once.none
once_line f (suc n) h =
    Once.more
    (all_line (λ i. f (suc i)) n (λ i l. h 0 (suc i) (suc-le-suc zero-le) (suc-le-suc l)))
    (once_line (λ i. f (suc i)) n (λ i j k l. h (suc i) (suc j) (suc-le-suc k) (suc-le-suc l)))

-- equal cell by cell
pub line_same : (f g : ℕ → Cell) (n : ℕ) → ((i : ℕ) → i < n → f i ≡ g i) → line f n ≡ line g n
line_same f g zero h = refl
line_same f g (suc n) h = λ j. h 0 (suc-le-suc zero-le) j ∷ line_same (λ i. f (suc i)) (λ i. g (suc i)) n (λ i l. h (suc i) (suc-le-suc l)) j

-- the last cell first
pub line_back : (f : ℕ → Cell) (n : ℕ) → reverse (line f n) ≡ line (λ i. f (n - (i + 1))) n
line_back f zero = refl
line_back f (suc n) =
    ap reverse (line_more f n) ∙ reverse-append (line f n) (f n ∷ []) ∙ ap (λ (l : List Cell). f n ∷ l) (line_back f n)
    ∙ (λ i. f (head i) ∷ line (λ j. f (tail j i)) n)
  where
    head : n ≡ suc n - (0 + 1)
    head = omega arith

    tail : (j : ℕ) → n - (j + 1) ≡ suc n - (suc j + 1)
    tail j = omega arith

-- ---- ways and axes

-- r is i steps from p on the way to q
pub data Along (p q i r : ℕ) : Type 0 where
  up : p ≤ q → r ≡ p + i → r ≤ q → Along p q i r
  down : q < p → r + i ≡ p → q ≤ r → Along p q i r

pub along : (p q i : ℕ) → i ≤ dist p q → Along p q i (ahead p q i)
along p q i h =
    by_le p q
    (λ e. let a = ahead_up {p = p} {q = q} i e in let d = dist_up e in Along.up e a (omega arith))
    (λ e. let a = ahead_down {p = p} {q = q} i e in let d = dist_down (lt_le e) in Along.down e (omega arith) (omega arith))

along_far : {p q i r : ℕ} → Along p q i r → dist p r ≡ i
along_far {p} {r = r} (Along.up l e h) = let k : p ≤ r = omega arith in omega (arith, dist_up k)
along_far {p} {r = r} (Along.down l e h) = let k : r ≤ p = omega arith in omega (arith, dist_down k)

along_beside : {p q i r s : ℕ} → Along p q i r → Along p q (suc i) s → dist r s ≡ 1
along_beside {r = r} {s = s} (Along.up l e h) (Along.up m f k) = let o : r ≤ s = omega arith in omega (arith, dist_up o)
along_beside (Along.up l e h) (Along.down m f k) = absurd (omega arith)
along_beside (Along.down l e h) (Along.up m f k) = absurd (omega arith)
along_beside {r = r} {s = s} (Along.down l e h) (Along.down m f k) = let o : s ≤ r = omega arith in omega (arith, dist_down o)

along_between : {p q i r : ℕ} → Along p q i r → Between p q r
along_between (Along.up l e h) = Between.up (omega arith) h
along_between (Along.down l e h) = Between.down h (omega arith)

along_start : {p q r : ℕ} → Along p q 0 r → r ≡ p
along_start (Along.up l e h) = omega arith
along_start (Along.down l e h) = omega arith

along_stop : {p q r : ℕ} → Along p q (dist p q) r → r ≡ q
along_stop {p} {q} (Along.up l e h) = omega (arith, dist_up l)
along_stop {p} {q} (Along.down l e h) = omega (arith, dist_down (lt_le l))

pub ahead_start : (p q : ℕ) → ahead p q 0 ≡ p
ahead_start p q = along_start (along p q 0 (omega arith))

pub ahead_stop : (p q : ℕ) → ahead p q (dist p q) ≡ q
ahead_stop p q = along_stop (along p q (dist p q) (omega arith))

-- on a way down
ahead_below : {p q : ℕ} (i : ℕ) → q ≤ p → i ≤ dist p q → ahead p q i + i ≡ p
ahead_below {p} {q} i h l = go (along p q i l)
  where
    go : {r : ℕ} → Along p q i r → r + i ≡ p
    go (Along.up e f k) = omega arith
    go (Along.down e f k) = f

-- one step on, the way leads where it led
pub ahead_next : (p q i : ℕ) → i < dist p q → ahead p q (suc i) ≡ ahead (ahead p q 1) q i
ahead_next p q i h =
    by_le p q
    (λ e.
    let d = dist_up e in
    let a = ahead_up {p = p} {q = q} (suc i) e in
    let b = ahead_up {p = p} {q = q} 1 e in
    let g : ahead p q 1 ≤ q = omega arith in
    let c = ahead_up {p = ahead p q 1} {q = q} i g in
    omega arith)
    (λ e.
    let d = dist_down (lt_le e) in
    let a = ahead_below {p = p} {q = q} (suc i) (lt_le e) (omega arith) in
    let b = ahead_below {p = p} {q = q} 1 (lt_le e) (omega arith) in
    let g : q ≤ ahead p q 1 = omega arith in
    let w = dist_down g in
    let c = ahead_below {p = ahead p q 1} {q = q} i g (omega arith) in
    omega arith)

-- m steps from one end are i steps from the other
pub ahead_back : (p q m i : ℕ) → m + i ≡ dist p q → ahead p q m ≡ ahead q p i
ahead_back p q m i h =
    by_le p q
    (λ e.
    let d = dist_up e in
    let w = dist_down e in
    let a = ahead_up {p = p} {q = q} m e in
    let b = ahead_below {p = q} {q = p} i e (omega arith) in
    omega arith)
    (λ e.
    let d = dist_down (lt_le e) in
    let a = ahead_below {p = p} {q = q} m (lt_le e) (omega arith) in
    let b = ahead_up {p = q} {q = p} i (lt_le e) in
    omega arith)

-- e takes the numbers to the cells of a row, or of a column
pub record Axis (e : ℕ → Cell) : Type 0 where
  pub keeps : (p q : ℕ) → dist p q ≡ 1 → Neighbours (e p) (e q)
  pub inside : (p q r : ℕ) → Between p q r → Inside (e p) (e q) (e r)
  pub back : Cell → ℕ
  pub undo : (p : ℕ) → back (e p) ≡ p

same : (p : ℕ) → Between p p p
same p = start_between p p

pub in_row : (y : ℕ) → Axis (λ x. cell x y)
unfolding apart
in_row y = record {
  keeps = λ p q h. record { one = (λ i. h i + dist_zero y i) };
  inside = λ p q r b. record { left = least b; right = most b; top = least (same y); bottom = most (same y) };
  back = λ c. c.x;
  undo = λ p. refl;
}

pub in_column : (x : ℕ) → Axis (λ y. cell x y)
unfolding apart
in_column x = record {
  keeps = λ p q h. record { one = (λ i. dist_zero x i + h i) };
  inside = λ p q r b. record { left = least (same x); right = most (same x); top = least b; bottom = most b };
  back = λ c. c.y;
  undo = λ p. refl;
}

-- ---- the law

module _ {e : ℕ → Cell} (A : Axis e) (p q : ℕ) where
  -- cell i on the way
  abbrev at : ℕ → Cell
  at i = e (ahead p q i)

  different : (i j : ℕ) → i < j → j < suc (dist p q) → at i ≢ at j
  different i j l h z =
      let s : ahead p q i ≡ ahead p q j = sym (A.undo _) ∙ ap A.back z ∙ A.undo _ in
      let u = along_far (along p q i (omega arith)) in
      let v = along_far (along p q j (omega arith)) in
      let t : dist p (ahead p q i) ≡ dist p (ahead p q j) = ap (dist p) s in
      omega arith

  walked : (n : ℕ) → dist p q ≡ n → Walk (at 0) (at n) (line at (suc n))
  walked n d = walk_line at n (λ i h. A.keeps _ _ (along_beside (along p q i (omega arith)) (along p q (suc i) (omega arith))))

  pub line_track : TrackIn (Inside (e p) (e q)) (e p) (e q) (line (λ i. e (ahead p q i)) (dist p q + 1))
  line_track = subst (λ (n : ℕ). TrackIn (Inside (e p) (e q)) (e p) (e q) (line at n)) (sym (add-one (dist p q))) (record {
    walk = subst₂ (λ (s t : Cell). Walk s t (line at (suc (dist p q)))) (ap e (ahead_start p q)) (ap e (ahead_stop p q)) (walked (dist p q) refl);
    once = once_line at (suc (dist p q)) different;
    within = all_line at (suc (dist p q)) (λ i h. A.inside p q _ (along_between (along p q i (omega arith))));
  })

-- ---- the law in numbers

pub number_small : {c : Cell} → InBytes c → cell_number c ≤ 65535
unfolding cell_number
number_small s = omega (arith, s.across, s.down)

number_cell : {c : Cell} → InBytes c → cell_of (cell_number c) ≡ c
unfolding cell_number
number_cell s = cell_eq (omega (arith, s.across, s.down)) (omega (arith, s.across, s.down))

-- one cell further along a row or a column is u more in number
pub record Unit (e : ℕ → Cell) (u : ℕ) : Type 0 where
  pub least : 1 ≤ u
  pub most : u ≤ 65535
  pub more : (p i : ℕ) → cell_number (e (p + i)) ≡ cell_number (e p) + u * i
  pub small : (p : ℕ) → p ≤ 255 → InBytes (e p)

pub row_unit : (y : ℕ) → y ≤ 255 → Unit (λ x. cell x y) 1
unfolding cell_number
row_unit y h = record { least = omega arith; most = omega arith; more = λ p i. omega arith; small = λ p l. record { across = l; down = h } }

pub column_unit : (x : ℕ) → x ≤ 255 → Unit (λ y. cell x y) 256
unfolding cell_number
column_unit x h = record { least = omega arith; most = omega arith; more = λ p i. omega arith; small = λ p l. record { across = h; down = l } }

module _ {e : ℕ → Cell} {u : ℕ} (U : Unit e u) (p q : ℕ) (hp : p ≤ 255) (hq : q ≤ 255) where
  near : {i r : ℕ} → Along p q i r → r ≤ 255
  near (Along.up l f h) = omega arith
  near (Along.down l f h) = omega arith

  taken : (i : ℕ) → (65536 - u) * i + u * i ≡ 65536 * i
  taken i = sym (add-mul (65536 - u) u i) ∙ ap (λ (k : ℕ). k * i) (let h = U.most in omega arith)

  go : {i r : ℕ} → Along p q i r → (cell_number (e p) + step_to u p q * i) % 65536 ≡ cell_number (e r)
  unfolding step_to
  go {i} {r} (Along.up l f h) =
      let s : step_to u p q * i ≡ u * i = ap (λ (b : Bool). cond b u (65536 - u) * i) (le-leb p q l) in
      let n = number_small (U.small r (omega arith)) in
      let m : cell_number (e r) ≡ cell_number (e p) + u * i = ap (λ (k : ℕ). cell_number (e k)) f ∙ U.more p i in
      omega (arith, s, n, m)
  go {i} {r} (Along.down l f h) =
      let s : step_to u p q * i ≡ (65536 - u) * i = ap (λ (b : Bool). cond b u (65536 - u) * i) (lt-leb p q l) in
      let n = number_small (U.small r (omega arith)) in
      let m : cell_number (e p) ≡ cell_number (e r) + u * i = ap (λ (k : ℕ). cell_number (e k)) (sym f) ∙ U.more r i in
      let t = taken i in
      omega (arith, s, n, m, t)

  -- i steps on
  pub stepped : (i : ℕ) → i ≤ dist p q → (cell_number (e p) + step_to u p q * i) % 65536 ≡ cell_number (e (ahead p q i))
  stepped i h = go (along p q i h)

  -- the line by its numbers
  pub line_numbered : line (numbered (cell_number (e p)) (step_to u p q)) (dist p q + 1) ≡ line (λ i. e (ahead p q i)) (dist p q + 1)
  line_numbered =
      line_same _ _ (dist p q + 1)
      (λ i h. ap cell_of (stepped i (omega arith)) ∙ number_cell (U.small _ (near (along p q i (omega arith)))))

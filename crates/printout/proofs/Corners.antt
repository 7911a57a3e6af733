-- On a track a corner is a cell where the direction changes: the letter of the step to it differs from that of the step behind it. So the
-- squares printed can be told from the letters printed.
use Prim.Native.Nat.{ℕ, ◌+◌, ◌*◌}
use native.Mathlib.Omega.{arith}
use mathlib.Core.Path.{◌≡◌, refl, ap, ap₂}
use mathlib.Core.Bool.{Bool, true, false, cond, not}
use mathlib.Core.Logic.{◌≢◌}
use mathlib.Core.List.{List, [], ◌∷◌}
use lib.Dec.{eqb}
use lib.ListN.{length}
use Rattle.grid.specs.declared.Cell.{Cell}
use Rattle.grid.specs.declared.Panel.{Panel}
use Rattle.grid.specs.Panel.{neighbours}
use Rattle.grid.specs.Track.{All, Once, Track}
use Rattle.grid.proofs.Facts.{cell_eq, and_parts}
use Rattle.list.specs.List.{steps_from, all_steps}
use Rattle.list.proofs.Tracks.{walk_steps}
use Rattle.step_letters.specs.Letters.{letter, letters_of, letters_from}
use Rattle.step_letters.proofs.Directions.{Goes, goes}
use Rattle.squares.specs.Squares.{corner_between, corners, corners_from, squares}
use Rattle.squares.proofs.Facts.{in_column, in_row, bent}
use Rattle.squares.proofs.Counted.{squares_counted}
use Rattle.printout.specs.Changes.{changes, changes_from}

-- ---- two steps

-- the same direction, then the way back, which no track goes, then a change of direction
turns : (a b c : Cell) {k m : ℕ} → Goes a b k → Goes b c m → a ≢ c → corner_between a c ≡ not (eqb k m)
turns a b c (Goes.up x y) (Goes.up v w) d = in_column a c (omega arith)
turns a b c (Goes.down x y) (Goes.down v w) d = in_column a c (omega arith)
turns a b c (Goes.right x y) (Goes.right v w) d = in_row a c (omega arith)
turns a b c (Goes.left x y) (Goes.left v w) d = in_row a c (omega arith)
turns a b c (Goes.up x y) (Goes.down v w) d = absurd (d (cell_eq (omega arith) (omega arith)))
turns a b c (Goes.down x y) (Goes.up v w) d = absurd (d (cell_eq (omega arith) (omega arith)))
turns a b c (Goes.right x y) (Goes.left v w) d = absurd (d (cell_eq (omega arith) (omega arith)))
turns a b c (Goes.left x y) (Goes.right v w) d = absurd (d (cell_eq (omega arith) (omega arith)))
turns a b c (Goes.up x y) (Goes.right v w) d = bent a c (λ e. omega arith) (λ e. omega arith)
turns a b c (Goes.up x y) (Goes.left v w) d = bent a c (λ e. omega arith) (λ e. omega arith)
turns a b c (Goes.down x y) (Goes.right v w) d = bent a c (λ e. omega arith) (λ e. omega arith)
turns a b c (Goes.down x y) (Goes.left v w) d = bent a c (λ e. omega arith) (λ e. omega arith)
turns a b c (Goes.right x y) (Goes.up v w) d = bent a c (λ e. omega arith) (λ e. omega arith)
turns a b c (Goes.right x y) (Goes.down v w) d = bent a c (λ e. omega arith) (λ e. omega arith)
turns a b c (Goes.left x y) (Goes.up v w) d = bent a c (λ e. omega arith) (λ e. omega arith)
turns a b c (Goes.left x y) (Goes.down v w) d = bent a c (λ e. omega arith) (λ e. omega arith)

-- between neighbours, and not on the way back: a corner is where the letter changes
pub corner_by_letters : (a b c : Cell) → neighbours a b ≡ true → neighbours b c ≡ true → a ≢ c
    → corner_between a c ≡ not (eqb (letter a b) (letter b c))
corner_by_letters a b c n m d = turns a b c (goes a b n) (goes b c m) d

-- ---- a track

-- a corner counts 1, and so does a change of letter
counts : (k : Bool) {t : Bool} → t ≡ not k → ◌≡◌ {A = ℕ} (cond t 1 0) (cond k 0 1)
counts true e = ap (λ (t : Bool). cond t 1 0) e
counts false e = ap (λ (t : Bool). cond t 1 0) e

changes_from_lem : (a b : Cell) (l : List Cell) → steps_from a (b ∷ l) ≡ true → Once (a ∷ b ∷ l)
    → corners_from a b l ≡ changes_from (letter a b) (letters_from b l)
changes_from_lem a b [] e o = refl
changes_from_lem a b (c ∷ l) e (Once.more (All.more _ (All.more d _)) o) =
    let (n, f) = and_parts (neighbours a b) (steps_from b (c ∷ l)) e in
    let (m, _) = and_parts (neighbours b c) (steps_from c l) f in
    ap₂ (λ (j k : ℕ). j + k) (counts (eqb (letter a b) (letter b c)) (corner_by_letters a b c n m d)) (changes_from_lem b c l f o)

corners_change : (l : List Cell) → all_steps l ≡ true → Once l → corners l ≡ changes (letters_of l)
corners_change [] e o = refl
corners_change (a ∷ []) e o = refl
corners_change (a ∷ b ∷ l) e o = changes_from_lem a b l e o

-- a track has as many corners as its letters have changes
pub corners_by_letters : {p : Panel} {s t : Cell} (l : List Cell) → Track p s t l → corners l ≡ changes (letters_of l)
corners_by_letters l t = corners_change l (walk_steps t.walk) t.once

-- and 100 for each cell, less 44 for each change of letter
pub squares_by_letters : {p : Panel} {s t : Cell} (l : List Cell) → Track p s t l
    → squares l + 44 * changes (letters_of l) ≡ 100 * length l
squares_by_letters l t = omega (arith, squares_counted l, corners_by_letters l t)

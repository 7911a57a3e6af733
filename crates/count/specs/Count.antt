-- Document 01, "Class and count", line by line: the upper bound U of document 000, which Theorem 4.1 says is reached.
use Rattle.std.specs.Prelude.{ℕ, ◌+◌, ◌-◌, ◌*◌, ◌%◌, max, Bool, cond, not, ◌&&◌, ◌||◌, leb, ltb, eqb}
use Rattle.grid.specs.declared.Panel.{Panel}
use Rattle.grid.specs.declared.Cell.{Cell}
use Rattle.grid.specs.Panel.{black, turned, turned_cell}
pub use Rattle.grid.specs.Panel.{area}
use Rattle.count.specs.declared.ClassCount.{ClassCount}

-- an odd number
abbrev pub odd : ℕ → Bool
odd k = eqb (k % 2) 1

-- the first or the last of k
abbrev pub is_end : ℕ → ℕ → Bool
is_end k a = eqb a 1 || eqb a k

-- an end cell of a panel of one row
abbrev pub end_cell : Panel → Cell → Bool
end_cell p c = is_end p.width c.x

-- F1: n = 1 and a terminal is not an end cell
unfoldable pub f1 : Panel → Cell → Cell → Bool
f1 p s t = eqb p.height 1 && not (end_cell p s && end_cell p t)

-- F2*: n = 2, and the x are equal, or differ by 1 with different y
unfoldable pub f2 : Panel → Cell → Cell → Bool
f2 p s t = eqb p.height 2 && (eqb s.x t.x || (eqb (s.x + 1) t.x && not (eqb s.y t.y)))

-- the larger of sum and 2m − sum + 2
abbrev pub f2_count : ℕ → ℕ → ℕ
f2_count m sum = max sum (2 * m - sum + 2)

-- the x differ by 2 or more, or by 1 with both in row 2
abbrev pub f3_apart : Cell → Cell → Bool
f3_apart s t = leb (s.x + 2) t.x || (eqb (s.x + 1) t.x && (eqb s.y 2 && eqb t.y 2))

-- F3: n = 3, m even, s black, t white, and their x differ by so much
unfoldable pub f3 : Panel → Cell → Cell → Bool
f3 p s t = eqb p.height 3 && (not (odd p.width) && (black s && (not (black t) && f3_apart s t)))

-- C2: mn odd and both terminals black; or F3
unfoldable pub c2 : Panel → Cell → Cell → Bool
c2 p s t = (odd (area p) && (black s && black t)) || f3 p s t

-- C0: mn even and colours differ, or mn odd and both white
unfoldable pub c0 : Panel → Cell → Cell → Bool
c0 p s t = cond (odd (area p)) (not (black s) && not (black t)) (cond (black s) (not (black t)) (black t))

-- a class and a count of cells
abbrev pub found : ℕ → ℕ → ClassCount
found c k = record { class = c; count = record { 0 = k } }

-- the first line that fits decides; m is not less than n, and s's x is not the larger
unfoldable pub decided : Panel → Cell → Cell → ClassCount
decided p s t =
    cond (f1 p s t) (found 1 (t.x - s.x + 1))
    (cond (f2 p s t) (found 2 (f2_count p.width (s.x + t.x)))
    (cond (c2 p s t) (found 5 (area p - 2))
    (cond (c0 p s t) (found 3 (area p))
    (found 4 (area p - 1)))))

-- name the terminals s and t so that s's x is not the larger
unfoldable pub named : Panel → Cell → Cell → ClassCount
named p s t = cond (ltb t.x s.x) (decided p t s) (decided p s t)

-- if m < n, turn the panel
unfoldable pub class_count : Panel → Cell → Cell → ClassCount
class_count p s t = cond (ltb p.width p.height) (named (turned p) (turned_cell s) (turned_cell t)) (named p s t)

-- the class
abbrev pub class : Panel → Cell → Cell → ℕ
class p s t = (class_count p s t).class

-- the count of cells
abbrev pub count : Panel → Cell → Cell → ℕ
count p s t = (class_count p s t).count.0

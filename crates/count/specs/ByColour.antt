-- The lines C2, C0 and C1 without F3, which go by the colours alone: what the code adds up. No promise rests on it.
use Rattle.std.specs.Prelude.{ℕ, ◌-◌, Bool, cond, not, ◌&&◌}
use Rattle.grid.specs.declared.Panel.{Panel}
use Rattle.grid.specs.declared.Cell.{Cell}
use Rattle.grid.specs.Panel.{area, black}
use Rattle.count.specs.declared.ClassCount.{ClassCount}
use Rattle.count.specs.Count.{odd, found}

-- of mn, whether it is odd, and whether the terminals are black
abbrev pub coloured : ℕ → Bool → Bool → Bool → ClassCount
coloured a o b d = cond (o && (b && d)) (found 5 (a - 2)) (cond (cond o (not b && not d) (cond b (not d) d)) (found 3 a) (found 4 (a - 1)))

-- of a panel and two terminals
abbrev pub by_colour : Panel → Cell → Cell → ClassCount
by_colour p s t = coloured (area p) (odd (area p)) (black s) (black t)

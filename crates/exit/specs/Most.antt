-- How many cells a track from a cell can have, by the colours alone: where more are wanted, the code does not search. No call's promise rests on it.
use Rattle.std.specs.Prelude.{ℕ, ◌*◌, ◌/◌, cond}
use Rattle.grid.specs.declared.Panel.{Panel}
use Rattle.grid.specs.declared.Cell.{Cell}
use Rattle.grid.specs.Panel.{area, black}

-- a track that begins black has no more white cells than black ones, of which the panel has mn / 2, rounded down
abbrev pub most : Panel → Cell → ℕ
most p s = cond (black s) (2 * (area p / 2)) (area p)

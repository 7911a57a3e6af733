-- Document 02, R-4: where a track changes direction, told by the letters that are printed.
use Rattle.std.specs.Prelude.{ℕ, ◌+◌, cond, List, [], ◌∷◌, eqb}

-- behind a letter: how often one differs from the one before
abbrev pub changes_from : ℕ → List ℕ → ℕ
changes_from a [] = 0
changes_from a (b ∷ l) = cond (eqb a b) 0 1 + changes_from b l

-- how often the letters change
abbrev pub changes : List ℕ → ℕ
changes [] = 0
changes (a ∷ l) = changes_from a l

-- What the calls answer: the number and the values of each case, and the promise of a call that gives one value. A refusal gives 0 for all.
use Rattle.std.specs.Prelude.{ℕ, ◌≡◌, Result, Ok, Err}
use Rattle.grid.specs.declared.Cells.{Cells}
use Rattle.grid.specs.declared.CellsValues.{CellsValues}
use Rattle.grid.specs.declared.Refusal.{Refusal}
use Rattle.grid.specs.Refusal.{number}
use Rattle.grid.specs.Check.{Check, answer}

-- the number of what a check refuses, 0 where nothing is refused
abbrev pub refusal_number : Check → ℕ
refusal_number c = answer c number 0

-- a value that a call gives behind its check, 0 where it refuses
abbrev pub given : Check → ℕ → ℕ
given c k = answer c (λ r. 0) k

-- ---- a number of cells

-- the answer: the check's refusal, or k cells
abbrev pub cells_answer : Check → ℕ → Result Cells Refusal
cells_answer c k = answer c Err (Ok (record { 0 = k }))

-- number and count of an answer
abbrev pub cells_values : Result Cells Refusal → CellsValues
cells_values (Err r) = record { refusal = number r; cells = record { 0 = 0 } }
cells_values (Ok k) = record { refusal = 0; cells = k }

-- a call gives k cells, or what its check refuses
pub record GivesCells (c : Check) (k : ℕ) (r : Result Cells Refusal) : Type 0 where
  pub answers : r ≡ cells_answer c k
  pub number : (cells_values r).refusal ≡ refusal_number c
  pub count : (cells_values r).cells.0 ≡ given c k

-- ---- a number of bytes

-- the answer: the check's refusal, or k bytes
abbrev pub bytes_answer : Check → ℕ → Result ℕ Refusal
bytes_answer c k = answer c Err (Ok k)

-- number and bytes of an answer
pub record BytesValues : Type 0 where
  pub refusal : ℕ
  pub bytes : ℕ

abbrev pub bytes_values : Result ℕ Refusal → BytesValues
bytes_values (Err r) = record { refusal = number r; bytes = 0 }
bytes_values (Ok k) = record { refusal = 0; bytes = k }

-- a call gives k bytes, or what its check refuses
pub record GivesBytes (c : Check) (k : ℕ) (r : Result ℕ Refusal) : Type 0 where
  pub answers : r ≡ bytes_answer c k
  pub number : (bytes_values r).refusal ≡ refusal_number c
  pub bytes : (bytes_values r).bytes ≡ given c k

-- Document 02, R-11, "Laser log and camera log": what the call answers and what it leaves in scratch, for every input. A refusal gives four zeros.
use Rattle.std.specs.Prelude.{ℕ, ◌≡◌, List, leb, length, Result, Ok, Err}
use Rattle.grid.specs.declared.Panel.{Panel}
use Rattle.grid.specs.declared.Refusal.{Refusal}
use Rattle.grid.specs.declared.Refusal.TheVariants.{ListLength, ShortBuffer}
use Rattle.grid.specs.Panel.{area}
use Rattle.grid.specs.Refusal.{number}
use Rattle.grid.specs.Check.{Check, expect, after, answer, check_panel}
use Rattle.grid.specs.Answer.{refusal_number, given}
use Rattle.scratch.specs.Scratch.{cleared}
use Rattle.log_entries.specs.declared.Entry.{Entry}
use Rattle.log_entries.specs.Log.{entries_in, whole_entries, log_check}
use Rattle.logs.specs.declared.LogCounts.{LogCounts}
use Rattle.logs.specs.Counts.{in_both, only_in, seen_earlier, counts_of}

-- the refusals tested before 7: 1; 18; 6, the length of a log is no multiple of six; 5, scratch is shorter than mn
abbrev pub sizes_check : Panel → ℕ → ℕ → ℕ → Check
sizes_check p burned seen room =
    after (check_panel p)
    (expect (whole_entries burned) ListLength
    (expect (whole_entries seen) ListLength
    (expect (leb (area p) room) ShortBuffer (Ok tt))))

-- those of the entries: 7, 9, 21 of the laser's log, then of the camera's
abbrev pub entries_check : Panel → List Entry → List Entry → Check
entries_check p burned seen = after (log_check p burned) (log_check p seen)

-- all refusals, for two logs in bytes and scratch of so many bytes
abbrev pub compare_check : Panel → List ℕ → List ℕ → ℕ → Check
compare_check p burned seen room =
    after (sizes_check p (length burned) (length seen) room) (entries_check p (entries_in burned) (entries_in seen))

-- the answer: the check's refusal, or the four numbers
abbrev pub logs_answer : Check → List Entry → List Entry → Result LogCounts Refusal
logs_answer c burned seen = answer c Err (Ok (counts_of burned seen))

-- number and values of an answer
pub record LogsValues : Type 0 where
  pub refusal : ℕ
  pub counts : LogCounts

-- four zeros
abbrev pub no_counts : LogCounts
no_counts = record { both = record { 0 = 0 }; only_burned = record { 0 = 0 }; only_seen = record { 0 = 0 }; earlier = record { 0 = 0 } }

abbrev pub logs_values : Result LogCounts Refusal → LogsValues
logs_values (Err r) = record { refusal = number r; counts = no_counts }
logs_values (Ok k) = record { refusal = 0; counts = k }

-- a call gives the four numbers, or what its check refuses
pub record GivesCounts (c : Check) (burned seen : List Entry) (r : Result LogCounts Refusal) : Type 0 where
  pub answers : r ≡ logs_answer c burned seen
  pub number : (logs_values r).refusal ≡ refusal_number c
  pub both : (logs_values r).counts.both.0 ≡ given c (in_both burned seen)
  pub only_burned : (logs_values r).counts.only_burned.0 ≡ given c (only_in burned seen)
  pub only_seen : (logs_values r).counts.only_seen.0 ≡ given c (only_in seen burned)
  pub earlier : (logs_values r).counts.earlier.0 ≡ given c (seen_earlier burned seen)

-- scratch after the call: untouched after 1, 18, 6 and 5, else its first mn bytes are 0 and the rest untouched
abbrev pub compare_scratch : Panel → List ℕ → List ℕ → List ℕ → List ℕ
compare_scratch p burned seen old = answer (sizes_check p (length burned) (length seen) (length old)) (λ r. old) (cleared p old)

-- Compare's promise: the four numbers or the refusal, and scratch, which was old and is new
pub record Compares (p : Panel) (burned seen old new : List ℕ) (r : Result LogCounts Refusal) : Type 0 where
  pub gives : GivesCounts (compare_check p burned seen (length old)) (entries_in burned) (entries_in seen) r
  pub scratch : new ≡ compare_scratch p burned seen old

-- The tests that the calls share, in the documents' order: the first that fails gives the refusal.
use Rattle.std.specs.Prelude.{Bool, true, false, Result, Ok, Err}
use Rattle.grid.specs.declared.Panel.{Panel}
use Rattle.grid.specs.declared.Cell.{Cell}
use Rattle.grid.specs.declared.Refusal.{Refusal}
use Rattle.grid.specs.declared.Refusal.TheVariants.{Side, Pitch, EntryOff, ExitOff}
use Rattle.grid.specs.Panel.{good_sides, good_pitch, on_panel}

-- what a test of the input finds: nothing, or why the call refuses
abbrev pub Check : Type 0
Check = Result (Unit {0}) Refusal

-- a test that passes goes on to the tests behind it, a test that fails refuses
abbrev pub expect : Bool → Refusal → Check → Check
expect true r k = k
expect false r k = Err r

-- one test after another
abbrev pub after : Check → Check → Check
after (Ok u) k = k
after (Err r) k = Err r

-- 1, a side is 0 or above 128; 18, the pitch is below 1,000 or above 10,000
abbrev pub check_panel : Panel → Check
check_panel p = expect (good_sides p) Side (expect (good_pitch p) Pitch (Ok tt))

-- 1; 18; 2, entry off the panel
abbrev pub check_entry : Panel → Cell → Check
check_entry p s = after (check_panel p) (expect (on_panel p s) EntryOff (Ok tt))

-- 1; 18; 2; 3, exit off the panel
abbrev pub check_order : Panel → Cell → Cell → Check
check_order p s t = after (check_entry p s) (expect (on_panel p t) ExitOff (Ok tt))

-- an answer: what a check that refuses gives, and what it gives where all is good
abbrev pub answer {ℓ} : {A : Type ℓ} → Check → (Refusal → A) → A → A
answer (Ok u) f a = a
answer (Err r) f a = f r

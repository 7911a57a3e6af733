-- What the checks say where they refuse nothing, what scratch holds between them, and what the call answers.
use Rattle.std.specs.Prelude.{Result, Ok}
use Rattle.logs.specs.declared.LogCounts.{LogCounts}
use Prim.Native.Nat.{ℕ, ◌+◌, ◌≤◌}
use native.Mathlib.Omega.{arith}
use mathlib.Core.Path.{◌≡◌, refl, ap, ◌∙◌}
use mathlib.Core.Bool.{Bool, true, false, cond}
use mathlib.Core.List.{List}
use lib.Dec.{leb}
use lib.ListN.{length}
use borrow.Author.Tests.{leb-true}
use Rattle.grid.specs.declared.Panel.{Panel}
use Rattle.grid.specs.declared.Cell.{Cell}
use Rattle.grid.specs.declared.Refusal.{Refusal}
use Rattle.grid.specs.Check.{Check}
use Rattle.grid.specs.Panel.{good_sides, area, OnPanel}
use Rattle.grid.specs.Check.{check_panel}
use Rattle.grid.proofs.Answers.{read_off}
use Rattle.grid.proofs.Passed.{expect_passed, expect_rest, after_passed, after_rest}
use Rattle.grid.proofs.Tests.{both_branches, after_good, answer_good}
use Rattle.list.specs.List.{all_on, among, none_twice}
use Rattle.scratch.specs.Scratch.{held, cleared, Clean}
use Rattle.scratch.proofs.Marks.{held_clean}
use Rattle.log_entries.specs.declared.Entry.{Entry}
use Rattle.log_entries.specs.Log.{entries_in, whole_entries, cells_of, rises, log_check}
use Rattle.log_entries.specs.Marks.{HoldsBelow, Changed, added, Adds}
use Rattle.logs.specs.Logs.{sizes_check, logs_answer, logs_values, GivesCounts, Compares}
use Rattle.logs.specs.Walk.{GoodLog, BothGood, HoldsMarks, entries_answer}

-- ---- the sizes

-- what is known once the refusals before 7 are passed
pub record Sized (p : Panel) (burned seen room : ℕ) : Type 0 where
  pub sides : good_sides p ≡ true
  pub laser : whole_entries burned ≡ true
  pub camera : whole_entries seen ≡ true
  pub enough : area p ≤ room

pub sized : (p : Panel) (burned seen room : ℕ) → sizes_check p burned seen room ≡ Ok tt → Sized p burned seen room
sized p burned seen room e =
    let first = after_rest (check_panel p) _ e in
    let second = expect_rest (whole_entries burned) _ _ first in
    record {
      sides = expect_passed (good_sides p) _ _ (after_passed (check_panel p) _ e);
      laser = expect_passed (whole_entries burned) _ _ first;
      camera = expect_passed (whole_entries seen) _ _ second;
      enough = leb-true (area p) room (expect_passed (leb (area p) room) _ _ (expect_rest (whole_entries seen) _ _ second));
    }

-- ---- the logs

pub good_log : (p : Panel) (l : List Entry) → log_check p l ≡ Ok tt → GoodLog p l
good_log p l e =
    let once = expect_rest (all_on p (cells_of l)) _ _ e in
    record {
      on = expect_passed (all_on p (cells_of l)) _ _ e;
      once = expect_passed (none_twice (cells_of l)) _ _ once;
      up = expect_passed (rises l) _ _ (expect_rest (none_twice (cells_of l)) _ _ once);
    }

-- scratch is clean, then has the laser's marks, then the camera's too
module _ {p : Panel} {clean : List ℕ} (k : Clean p clean) where
  module _ {burned : List Cell} {first : List ℕ} (g : Changed p (added 1) burned clean first) where
    laser_held : (c : Cell) → OnPanel p c → held p first c ≡ cond (among c burned) 1 0
    laser_held c o = g.holds c o ∙ ap (λ (n : ℕ). cond (among c burned) (n + 1) n) (held_clean clean o k)

    pub ones_held : HoldsBelow p 2 first
    ones_held = record {
      room = omega (arith, k.room, g.size);
      less = λ c o.
          let few = both_branches (λ (n : ℕ). n ≤ 1) (among c burned) 1 0 (λ _. omega arith) (λ _. omega arith) in
          omega (arith, laser_held c o, few);
    }

    both_held : {seen : List Cell} {second : List ℕ} → Changed p (added 2) seen first second → (c : Cell) → OnPanel p c
        → held p second c ≡ cond (among c burned) 1 0 + cond (among c seen) 2 0
    both_held {seen} {second} f c o = f.holds c o ∙ more (among c seen) ∙ ap (λ (n : ℕ). n + cond (among c seen) 2 0) (laser_held c o)
      where
        more : (b : Bool) → cond b (held p first c + 2) (held p first c) ≡ held p first c + cond b 2 0
        more true = refl
        more false = omega arith

pub both_good : {p : Panel} (burned seen : List Entry) → good_sides p ≡ true → log_check p burned ≡ Ok tt → log_check p seen ≡ Ok tt
    → BothGood p burned seen
both_good {p} burned seen s b c = record { sides = s; laser = good_log p burned b; camera = good_log p seen c }

pub marked : {p : Panel} (burned seen : List Entry) {clean first second : List ℕ} → Clean p clean
    → Adds p 1 burned clean first → Adds p 2 seen first second → HoldsMarks p burned seen second
marked burned seen k g f = record { room = omega (arith, k.room, g.size, f.size); marks = both_held k g f }

-- ---- the answer

gives_counts : (c : Check) (burned seen : List Entry) {r : Result LogCounts Refusal} → r ≡ logs_answer c burned seen → GivesCounts c burned seen r
gives_counts c burned seen e = record {
  answers = e;
  number = read_off (λ (a : Result LogCounts Refusal). (logs_values a).refusal) c _ _ e;
  both = read_off (λ (a : Result LogCounts Refusal). (logs_values a).counts.both.0) c _ _ e;
  only_burned = read_off (λ (a : Result LogCounts Refusal). (logs_values a).counts.only_burned.0) c _ _ e;
  only_seen = read_off (λ (a : Result LogCounts Refusal). (logs_values a).counts.only_seen.0) c _ _ e;
  earlier = read_off (λ (a : Result LogCounts Refusal). (logs_values a).counts.earlier.0) c _ _ e;
}

-- the promise, where the sizes are good
module _ (p : Panel) (burned seen old : List ℕ) where
  pub sizes_good : sizes_check p (length burned) (length seen) (length old) ≡ Ok tt → {r : Result LogCounts Refusal} {new : List ℕ}
      → r ≡ entries_answer p (entries_in burned) (entries_in seen) → new ≡ cleared p old
      → Compares p burned seen old new r
  sizes_good z e f = record {
    gives = gives_counts _ _ _ (e ∙ ap (λ (c : Check). logs_answer c (entries_in burned) (entries_in seen)) (after_good _ z refl));
    scratch = answer_good _ _ z f;
  }

-- The head of a record: what is read from a head that was written, that every head which passes the check is the one that is written of
-- what it says, and what the check says where it refuses nothing. Only these laws know which byte of the head holds what.
use Rattle.std.specs.Prelude.{Ok, Err}
use Prim.Native.Nat.{ℕ, zero, suc, ◌+◌, ◌*◌, ◌/◌, ◌%◌, ◌≤◌, ◌<◌}
use mathlib.Core.Path.{◌≡◌, refl, sym, ap, ◌∙◌}
use mathlib.Core.Bool.{Bool, true, false, ◌&&◌}
use mathlib.Core.List.{List, [], ◌∷◌, ◌++◌}
use native.Mathlib.Omega.{arith}
use lib.Dec.{leb, ltb, eqb}
use lib.ListN.{length, take, drop, get_or}
use lib.Seq.{drop-cons}
use borrow.Author.Tests.{lt-ltb, ltb-true, le-leb, leb-true, eqb-true}
use Rattle.grid.specs.declared.Cell.{Cell}
use Rattle.grid.specs.declared.Panel.{Panel}
use Rattle.grid.specs.declared.Refusal.TheVariants.{Mark}
use Rattle.grid.specs.Panel.{panel, area, on_panel, good_panel}
use Rattle.grid.specs.Check.{check_entry}
use Rattle.grid.proofs.Facts.{good, is_good, is_on, area_small, and_parts, and_both}
use Rattle.grid.proofs.Passed.{expect_passed, expect_rest, after_passed, after_rest, good_entry, panel_passes}
use Rattle.grid.proofs.Tests.{expect_yes, expect_no, after_good}
use Rattle.record_head.specs.Head.{mark_high, mark_low, head_of, head_length, pitch_at, steps_at, has_mark, has_head}
use Rattle.record_head.specs.Head.{panel_in, entry_in, steps_in, letters_in, check_head}

-- ---- numbers

high_and_low : (k : ℕ) → 256 * (k / 256) + k % 256 ≡ k
high_and_low k = omega arith

pair_of : (h l : ℕ) → l < 256 → ((256 * h + l) / 256 ≡ h) × ((256 * h + l) % 256 ≡ l)
pair_of h l b = (omega arith, omega arith)

-- ---- a check that refuses nothing

-- what it says
pub record GoodHead (f : List ℕ) : Type 0 where
  pub mark : has_mark f ≡ true
  pub long : head_length ≤ length f
  pub panel : good_panel (panel_in f) ≡ true
  pub entry : on_panel (panel_in f) (entry_in f) ≡ true
  pub few : steps_in f < area (panel_in f)
  pub whole : head_length + steps_in f ≤ length f

pub head_good : (f : List ℕ) → check_head f ≡ Ok tt → GoodHead f
head_good f e =
    let e₁ = expect_rest (has_mark f) _ _ e in
    let e₂ = expect_rest (has_head f) _ _ e₁ in
    let e₃ = after_rest (check_entry (panel_in f) (entry_in f)) _ e₂ in
    let e₄ = expect_rest (ltb (steps_in f) (area (panel_in f))) _ _ e₃ in
    let front = good_entry (panel_in f) (entry_in f) (after_passed _ _ e₂) in
    record {
      mark = expect_passed (has_mark f) _ _ e;
      long = leb-true _ _ (expect_passed (has_head f) _ _ e₁);
      panel = is_good front.0;
      entry = is_on front.1;
      few = ltb-true _ _ (expect_passed (ltb (steps_in f) (area (panel_in f))) _ _ e₃);
      whole = leb-true _ _ (expect_passed (leb (head_length + steps_in f) (length f)) _ _ e₄);
    }

pub is_head_good : (f : List ℕ) → GoodHead f → check_head f ≡ Ok tt
is_head_good f g =
    let entry = sym (after_good _ (panel_passes (panel_in f) g.panel) (expect_yes _ _ g.entry refl)) in
    sym (expect_yes _ _ g.mark
    (expect_yes _ _ (le-leb _ _ g.long)
    (after_good _ entry
    (expect_yes _ _ (lt-ltb _ _ g.few)
    (expect_yes _ _ (le-leb _ _ g.whole) refl)))))

-- the step count of a good head has two bytes to spare
pub steps_bound : (f : List ℕ) → GoodHead f → steps_in f < 16384
steps_bound f h = omega (arith, h.few, area_small (good (panel_in f) h.panel).sides)

-- ---- the old mark, 46 54, under which records had no pitch

pub old_mark : (rest : List ℕ) → check_head (0x46 ∷ 0x54 ∷ rest) ≡ Err Mark
unfolding has_mark
old_mark rest =
    let long = le-leb 2 (length (0x46 ∷ 0x54 ∷ rest)) (omega arith) in
    sym (expect_no _ _ (ap (λ (b : Bool). b && false) long))

-- ---- a head in front of anything

module _ (p : Panel) (s : Cell) (k : ℕ) (rest : List ℕ) where
  abbrev file : List ℕ
  file = head_of p s k ++ rest

  pub panel_back : panel_in file ≡ p
  panel_back = ap (panel p.width p.height) (high_and_low p.pitch)

  pub entry_back : entry_in file ≡ s
  entry_back = refl

  pub steps_back : steps_in file ≡ k
  steps_back = high_and_low k

  pub letters_back : letters_in file ≡ take k rest
  letters_back = ap (λ (n : ℕ). take n rest) steps_back

  pub head_back : good_panel p ≡ true → on_panel p s ≡ true → k < area p → k ≤ length rest → check_head file ≡ Ok tt
  unfolding has_mark
  head_back g o few fits =
      is_head_good file record {
        mark = and_both (le-leb 2 (length file) (omega arith)) refl;
        long = omega arith;
        panel = ap good_panel panel_back ∙ g;
        entry = o;
        few = omega (arith, steps_back);
        whole = omega (arith, steps_back);
      }

-- ---- the head that a file begins with

-- n bytes from i on, each by its place
abbrev bytes_from : ℕ → ℕ → List ℕ → List ℕ
bytes_from zero i f = []
bytes_from (suc n) i f = get_or f i 0 ∷ bytes_from n (suc i) f

bytes_from_lem : (n i : ℕ) (f : List ℕ) → i + n ≤ length f → take n (drop i f) ≡ bytes_from n i f
bytes_from_lem zero i f h = refl
bytes_from_lem (suc n) i f h =
    ap (take (suc n)) (drop-cons f i 0 (omega arith)) ∙ ap (λ (r : List ℕ). get_or f i 0 ∷ r) (bytes_from_lem n (suc i) f (omega arith))

pub head_is : (f : List ℕ) → GoodHead f → ((i : ℕ) → get_or f i 0 < 256) → take head_length f ≡ head_of (panel_in f) (entry_in f) (steps_in f)
unfolding has_mark
head_is f g byte =
    let m = and_parts (eqb (get_or f 0 0) mark_high) (eqb (get_or f 1 0) mark_low) (and_parts (leb 2 (length f)) _ g.mark).1 in
    let first = eqb-true (get_or f 0 0) mark_high m.0 in
    let second = eqb-true (get_or f 1 0) mark_low m.1 in
    let (pitch-high, pitch-low) = pair_of (get_or f pitch_at 0) (get_or f (pitch_at + 1) 0) (byte (pitch_at + 1)) in
    let (steps_high, steps_low) = pair_of (get_or f steps_at 0) (get_or f (steps_at + 1) 0) (byte (steps_at + 1)) in
    bytes_from_lem head_length 0 f g.long ∙ cc

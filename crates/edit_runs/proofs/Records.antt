-- The newest of the recorded edits, newest first: what recording one more makes of them, and what is left of the record once it is off again.
use Prim.Native.Nat.{ℕ, zero, suc, ◌+◌, ◌-◌, ◌≤◌, ◌<◌}
use native.Mathlib.Omega.{arith}
use borrow.Author.Tests.{leb-true, leb-false, le-leb, lt-leb}
use mathlib.Core.Path.{◌≡◌, refl, sym, ap, ◌∙◌}
use mathlib.Core.Bool.{Bool, true, false, cond}
use mathlib.Core.List.{List, [], ◌∷◌, ◌++◌}
use lib.Dec.{leb}
use lib.ListN.{length, take, drop, get_or, set, length-drop, length-append, length-set, get_or-append}
use lib.Seq.{get_or-set_same, get_or-set_other, get_or-drop, get_or_at, take-set-le, take_at, take_all}
use Rattle.grid.proofs.Tests.{both_branches}
use Rattle.detour.specs.declared.Edit.{Edit}
use Rattle.session.specs.declared.Session.{Session}
use Rattle.session.specs.Session.{kept_edits, no_edit, on_record}

-- the newest j of k edits, newest first
abbrev pub newest_of : List Edit → ℕ → ℕ → List Edit
newest_of l k zero = []
newest_of l k (suc j) = get_or l (k - 1) no_edit ∷ newest_of l (k - 1) j

-- those before a place go by nothing that is put there
before : (l : List Edit) (k m j : ℕ) (e : Edit) → j ≤ k → k ≤ m → newest_of (set l m e) k j ≡ newest_of l k j
before l k m zero e h f = refl
before l k m (suc j) e h f =
    λ i. get_or-set_other l m (k - 1) e no_edit (λ q. absurd (omega arith)) i ∷ before l (k - 1) m j e (omega arith) (omega arith) i

-- a list whose oldest is dropped: the same edits stand one place before
moved : (l : List Edit) (k j : ℕ) (e : Edit) → j ≤ k → k < length l → newest_of (drop 1 l ++ (e ∷ [])) k j ≡ newest_of l (k + 1) j
moved l k zero e h f = refl
moved l k (suc j) e h f =
    let at : 1 + (k - 1) ≡ k + 1 - 1 = omega arith in
    let same : k - 1 + 1 ≡ k + 1 - 1 = omega arith in
    let here = get_or-append (drop 1 l) (e ∷ []) no_edit (k - 1) (omega (arith, length-drop 1 l))
    ∙ get_or-drop 1 l (k - 1) no_edit
    ∙ ap (λ (i : ℕ). get_or l i no_edit) at in
    let rest = moved l (k - 1) j e (omega arith) (omega arith) ∙ ap (λ (i : ℕ). newest_of l i j) same in
    λ i. here i ∷ rest i

module _ (e : Edit) (n : ℕ) (s : Session) (whole : length s.edits ≡ kept_edits) (few : s.recorded ≤ kept_edits) where
  -- a recorded edit is the newest, in front of what was
  pub recorded_first : (j : ℕ) → j ≤ s.recorded → j ≤ kept_edits - 1
      → newest_of (on_record e n s).edits (on_record e n s).recorded (suc j) ≡ e ∷ newest_of s.edits s.recorded j
  recorded_first j h f =
      both_branches (λ (t : Session). newest_of t.edits t.recorded (suc j) ≡ e ∷ newest_of s.edits s.recorded j)
      (leb kept_edits s.recorded) _ _ full open_place
    where
      full : leb kept_edits s.recorded ≡ true
          → newest_of (drop 1 s.edits ++ (e ∷ [])) s.recorded (suc j) ≡ e ∷ newest_of s.edits s.recorded j
      full q =
          let all = leb-true kept_edits s.recorded q in
          let last : length (drop 1 s.edits) ≡ s.recorded - 1 = omega (arith, length-drop 1 s.edits) in
          let same : s.recorded - 1 + 1 ≡ s.recorded = omega arith in
          let rest = moved s.edits (s.recorded - 1) j e (omega arith) (omega arith) ∙ ap (λ (i : ℕ). newest_of s.edits i j) same in
          λ i. get_or_at (drop 1 s.edits) e [] no_edit (s.recorded - 1) last i ∷ rest i

      open_place : leb kept_edits s.recorded ≡ false
          → newest_of (set s.edits s.recorded e) (s.recorded + 1) (suc j) ≡ e ∷ newest_of s.edits s.recorded j
      open_place q =
          let room = leb-false kept_edits s.recorded q in
          let same : s.recorded + 1 - 1 ≡ s.recorded = omega arith in
          let first = ap (λ (i : ℕ). get_or (set s.edits s.recorded e) i no_edit) same
          ∙ get_or-set_same s.edits s.recorded e no_edit (omega arith) in
          let rest = ap (λ (i : ℕ). newest_of (set s.edits s.recorded e) i j) same
          ∙ before s.edits s.recorded s.recorded j e h (omega arith) in
          λ i. first i ∷ rest i

  pub recorded_more : (j : ℕ) → j ≤ s.recorded → j ≤ kept_edits - 1 → suc j ≤ (on_record e n s).recorded
  recorded_more j h f =
      both_branches (λ (t : Session). suc j ≤ t.recorded) (leb kept_edits s.recorded) _ _
      (λ q. omega (arith, leb-true kept_edits s.recorded q)) (λ q. omega arith)

  pub recorded_whole : length (on_record e n s).edits ≡ kept_edits
  recorded_whole =
      both_branches (λ (t : Session). length t.edits ≡ kept_edits) (leb kept_edits s.recorded) _ _
      (λ q. omega (arith, length-append (drop 1 s.edits) (e ∷ []), length-drop 1 s.edits))
      (λ q. length-set s.edits s.recorded e ∙ whole)

  -- once it is off again the record is as it was, but for an oldest one that was dropped
  abbrev off : List Edit
  off = take ((on_record e n s).recorded - 1) (on_record e n s).edits

  abbrev dropped : Session
  dropped = record { count = record { 0 = n }; recorded = s.recorded; edits = drop 1 s.edits ++ (e ∷ []) }

  abbrev added : Session
  added = record { count = record { 0 = n }; recorded = s.recorded + 1; edits = set s.edits s.recorded e }

  pub off_full : kept_edits ≤ s.recorded → off ≡ drop 1 (take s.recorded s.edits)
  off_full h =
      let is = ap (λ (b : Bool). cond b dropped added) (le-leb kept_edits s.recorded h) in
      let size : length (drop 1 s.edits) ≡ s.recorded - 1 = omega (arith, length-drop 1 s.edits) in
      ap (λ (t : Session). take (t.recorded - 1) t.edits) is
      ∙ take_at (drop 1 s.edits) (e ∷ []) (s.recorded - 1) size
      ∙ sym (ap (drop 1) (take_all s.recorded s.edits (omega arith)))

  pub off_open : s.recorded < kept_edits → off ≡ take s.recorded s.edits
  off_open h =
      let is = ap (λ (b : Bool). cond b dropped added) (lt-leb kept_edits s.recorded h) in
      let same : s.recorded + 1 - 1 ≡ s.recorded = omega arith in
      ap (λ (t : Session). take (t.recorded - 1) t.edits) is
      ∙ ap (λ (k : ℕ). take k (set s.edits s.recorded e)) same
      ∙ take-set-le s.recorded s.edits s.recorded e (omega arith)

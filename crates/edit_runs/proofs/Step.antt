-- One accepted command: what its tests say, the list that it leaves, and that Judge accepts that list.
use Rattle.std.specs.Prelude.{Ok}
use Prim.Native.Nat.{ℕ, ◌-◌, ◌*◌, ◌≤◌}
use native.Mathlib.Omega.{arith}
use borrow.Author.Tests.{leb-true, leb-false, le-leb}
use mathlib.Core.Path.{◌≡◌, refl, sym, ap, subst, ◌∙◌}
use mathlib.Core.Bool.{true}
use mathlib.Core.List.{List}
use lib.Dec.{leb}
use lib.ListN.{length, take, replicate, length-append, length-replicate}
use lib.Seq.{take_at}
use Rattle.grid.specs.declared.Panel.{Panel}
use Rattle.grid.specs.declared.Cell.{Cell}
use Rattle.grid.specs.declared.Refusal.{Refusal}
use Rattle.grid.specs.declared.Refusal.TheVariants.{NoSuchEdit, NothingRecorded, ShortBuffer}
use Rattle.grid.specs.Check.{Check}
use Rattle.grid.specs.Check.{expect}
use Rattle.grid.specs.Bytes.{bytes, cells_in}
use Rattle.grid.specs.Track.{Track}
use Rattle.grid.proofs.Bytes.{length_bytes, cells_bytes}
use Rattle.grid.proofs.Facts.{and_both}
use Rattle.grid.proofs.Passed.{expect_passed, expect_rest, after_passed, after_rest}
use Rattle.grid.proofs.Track.{some_cell}
use Rattle.grid.proofs.Tests.{both_branches, cond_yes, answer_good, after_good}
use Rattle.list.proofs.Cells.{length_cells}
use Rattle.list.proofs.Tracks.{tests_track}
use Rattle.list.proofs.Whole.{is_whole}
use Rattle.judge.specs.Judge.{sizes_check, cells_check, judge_check}
use Rattle.judge.proofs.Checks.{Sized, sized, is_sized, passed, is_passed}
use Rattle.detour.specs.declared.Edit.{Edit}
use Rattle.detour.specs.Detour.{edited, can_edit, with_zeros}
use Rattle.detour.proofs.Kept.{kept as kept-track}
use Rattle.session.specs.declared.Session.{Session}
use Rattle.session.specs.declared.Command.{Command}
use Rattle.session.specs.declared.Command.TheVariants.{Bulge, Press, TakeBack}
use Rattle.session.specs.Session.{kept_edits, list_cells, list_of, ready, on_record, changed}
use Rattle.session.specs.Edits.{edit_of, edit_test}
use Rattle.session.proofs.Leaving.{list_held, few_recorded, all_counted, list_size, some_cells}
use Rattle.edit_runs.specs.Run.{Desk, drawing, Judged, Accepted, desk_after}

-- ---- a list with zeros behind it, in a buffer that holds it, and a session that counts it and has no more edits than it keeps

module _ (l : List Cell) (n : ℕ) (fits : 2 * length l ≤ n) where
  abbrev zeros : List ℕ
  zeros = replicate (n - 2 * length l) 0

  size : length (with_zeros l n) ≡ n
  size = omega (arith, length-append (bytes l) zeros, length_bytes l, length-replicate {A = ℕ} (n - 2 * length l) 0)

  module _ (s : Session) (count : s.count.0 ≡ length l) (few : s.recorded ≤ kept_edits) where
    cells_are : list_cells s (length (with_zeros l n)) ≡ length l
    cells_are =
        let list_held : 2 * s.count.0 ≤ length (with_zeros l n) = omega (arith, size, count) in
        sym (cond_yes _ 0 (and_both (le-leb _ _ list_held) (le-leb _ _ few)) refl) ∙ count

    list_is : list_of s (with_zeros l n) ≡ bytes l
    list_is = ap (λ (k : ℕ). take (2 * k) (with_zeros l n)) cells_are ∙ take_at (bytes l) zeros (2 * length l) (length_bytes l)

-- ---- the session after a command

module _ (e : Edit) (n : ℕ) (s : Session) where
  on_count : (on_record e n s).count.0 ≡ n
  on_count = both_branches (λ (t : Session). t.count.0 ≡ n) (leb kept_edits s.recorded) _ _ (λ h. refl) (λ h. refl)

  on_few : s.recorded ≤ kept_edits → (on_record e n s).recorded ≤ kept_edits
  on_few few =
      both_branches (λ (t : Session). t.recorded ≤ kept_edits) (leb kept_edits s.recorded) _ _
      (λ h. few) (λ h. omega (arith, leb-false kept_edits s.recorded h))

  new_count : (c : Command) → (changed c e n s).count.0 ≡ n
  new_count (Bulge k side) = on_count
  new_count (Press k) = on_count
  new_count TakeBack = refl

  new_few : (c : Command) → s.recorded ≤ kept_edits → (changed c e n s).recorded ≤ kept_edits
  new_few (Bulge k side) few = on_few few
  new_few (Press k) few = on_few few
  new_few TakeBack few = omega arith

-- ---- an accepted command

module _ (p : Panel) (a z : Cell) (room : ℕ) where
  -- of a list that Judge accepts
  module _ (list : List ℕ) (good : judge_check p a z list room ≡ Ok tt) where
    abbrev sizes : Check
    sizes = sizes_check p a z (length list) room

    pub is_track_lem : Track p a z (cells_in list)
    is_track_lem = tests_track (passed p a z (cells_in list) (after_rest sizes (cells_check p a z (cells_in list)) good))

    -- any other track between the same ends is accepted too
    track_judged : {l : List Cell} → Track p a z l → judge_check p a z (bytes l) room ≡ Ok tt
    track_judged {l} r =
        let was = sized p a z (length list) room (after_passed sizes (cells_check p a z (cells_in list)) good) in
        let some = some_cell r.walk in
        let two = length_bytes l in
        let whole = is_whole (length (bytes l)) (omega arith) (omega arith) in
        let fit : Sized p a z (length (bytes l)) room = record { ordered = was.ordered; whole = whole; enough = was.enough } in
        sym (after_good _ (sym (is_sized fit)) (is_passed (subst (Track p a z) (sym (cells_bytes l)) r)))

  module _ (c : Command) (d : Desk) (ok : Accepted p a z room c d) where
    abbrev s : Session
    s = d.session

    abbrev l : List Cell
    l = drawing d

    abbrev e : Edit
    e = edit_of c s d.buffer

    abbrev judge : Check
    judge = judge_check p a z (list_of s d.buffer) room

    abbrev test : Check
    test = edit_test p e l (length d.buffer)

    -- what its tests say
    pub was_judged : Judged p a z room d
    was_judged = after_passed judge (expect (ready c s) NothingRecorded test) ok

    behind : expect (ready c s) NothingRecorded test ≡ Ok tt
    behind = after_rest judge (expect (ready c s) NothingRecorded test) ok

    passed_test : test ≡ Ok tt
    passed_test = expect_rest (ready c s) NothingRecorded test behind

    pub can : can_edit p e l ≡ true
    can = expect_passed (can_edit p e l) NoSuchEdit _ passed_test

    pub fits : 2 * length (edited e l) ≤ length d.buffer
    fits = leb-true _ _ (expect_passed _ ShortBuffer (Ok tt) (expect_rest (can_edit p e l) NoSuchEdit _ passed_test))

    pub was_few : s.recorded ≤ kept_edits
    was_few = few_recorded s d.buffer (some_cells s d.buffer p a z room was_judged)

    -- what it leaves
    pub next_session : (desk_after p a z room c d).session ≡ changed c e (length (edited e l)) s
    next_session = sym (answer_good (λ (r : Refusal). s) _ ok refl)

    next_buffer : (desk_after p a z room c d).buffer ≡ with_zeros (edited e l) (length d.buffer)
    next_buffer = sym (answer_good (λ (r : Refusal). d.buffer) _ ok refl)

    pub next_length : length (desk_after p a z room c d).buffer ≡ length d.buffer
    next_length = ap length next_buffer ∙ size (edited e l) (length d.buffer) fits

    next_list : list_of (desk_after p a z room c d).session (desk_after p a z room c d).buffer ≡ bytes (edited e l)
    next_list =
        let n = length (edited e l) in
        (λ i. list_of (next_session i) (next_buffer i))
        ∙ list_is (edited e l) (length d.buffer) fits (changed c e n s) (new_count e n s c) (new_few e n s c was_few)

    pub next_drawing : drawing (desk_after p a z room c d) ≡ edited e l
    next_drawing = ap cells_in next_list ∙ cells_bytes (edited e l)

    -- Judge accepts that
    pub next_judged : Judged p a z room (desk_after p a z room c d)
    next_judged =
        let track = kept-track p a z e l (is_track_lem (list_of s d.buffer) was_judged) can in
        ap (λ (b : List ℕ). judge_check p a z b room) next_list ∙ track_judged (list_of s d.buffer) was_judged track

  -- ---- a list that Judge accepts is held by the buffer, and the session counts it

  module _ (d : Desk) (judged : Judged p a z room d) where
    cells : length (drawing d) ≡ list_cells d.session (length d.buffer)
    cells = omega (arith, length_cells (list_of d.session d.buffer), list_size d.session d.buffer)

    pub is_held : 2 * length (drawing d) ≤ length d.buffer
    is_held = omega (arith, cells, list_held d.session d.buffer)

    pub is_counted : length (drawing d) ≡ d.session.count.0
    is_counted = cells ∙ all_counted d.session d.buffer (some_cells d.session d.buffer p a z room judged)

-- Document 02, R-12: from a list that Judge accepts any run of edits and takings back keeps a track between the same ends; taking back right after
-- an edit is accepted and restores list and record; and n takings back in a row undo n edits, up to 32.
use Rattle.std.specs.Prelude.{Result, Ok, Err}
use Prim.Native.Nat.{ℕ, zero, suc, ◌+◌, ◌-◌, ◌*◌, ◌≤◌, ◌<◌}
use native.Mathlib.Omega.{arith}
use borrow.Author.Tests.{le-leb}
use mathlib.Core.Path.{◌≡◌, refl, sym, ap, subst, ◌∙◌}
use mathlib.Core.Bool.{true, false≢true}
use mathlib.Core.List.{List, [], ◌∷◌}
use lib.ListN.{length, take, drop, length-replicate}
use Rattle.grid.specs.declared.Panel.{Panel}
use Rattle.grid.specs.declared.Cell.{Cell}
use Rattle.grid.specs.declared.Cells.{Cells}
use Rattle.grid.specs.declared.Refusal.{Refusal}
use Rattle.grid.specs.declared.Refusal.TheVariants.{NoSuchEdit, NothingRecorded, ShortBuffer}
use Rattle.grid.specs.Bytes.{cells_in}
use Rattle.grid.specs.Track.{Track}
use Rattle.grid.specs.Check.{Check}
use Rattle.grid.proofs.Tests.{expect_yes, after_good, answer_refused}
use Rattle.judge.specs.Judge.{judge_check}
use Rattle.detour.specs.declared.Side.{Side}
use Rattle.detour.specs.declared.Edit.{Edit}
use Rattle.detour.specs.Detour.{bulge_at, press_at, edited, can_edit, opposite, with_zeros}
use Rattle.detour.proofs.Kept.{bulge_adds, press_takes}
use Rattle.detour.proofs.Undone.{undone}
use Rattle.session.specs.declared.Session.{Session}
use Rattle.session.specs.declared.Command.{Command}
use Rattle.session.specs.declared.Command.TheVariants.{Bulge, Press, TakeBack}
use Rattle.session.specs.Session.{kept_edits, no_edit, new_session, list_of, newest, on_record, changed}
use Rattle.session.specs.Edits.{edit_of, edit_check, session_after, buffer_after, Edits}
use Rattle.edit_runs.specs.Run.{Desk, drawing, recorded_edits, Whole, is_edit, Judged, Accepted, desk_check, desk_after, Run, EditRun, BackRun}
use Rattle.edit_runs.proofs.Step.{is_track_lem, was_judged, was_few, can, next_session, next_length, next_drawing, next_judged}
use Rattle.edit_runs.proofs.Step.{is_held, is_counted}
use Rattle.edit_runs.proofs.Records.{newest_of, recorded_first, recorded_more, recorded_whole, off_full, off_open}

-- an edit is recorded
edit_recorded : (c : Command) (e : Edit) (n : ℕ) (s : Session) → is_edit c ≡ true → changed c e n s ≡ on_record e n s
edit_recorded (Bulge k side) e n s h = refl
edit_recorded (Press k) e n s h = refl
edit_recorded TakeBack e n s h = absurd (false≢true h)

changed_whole : (c : Command) (e : Edit) (n : ℕ) (s : Session) → length s.edits ≡ kept_edits → s.recorded ≤ kept_edits
    → length (changed c e n s).edits ≡ kept_edits
changed_whole (Bulge k side) e n s w few = recorded_whole e n s w few
changed_whole (Press k) e n s w few = recorded_whole e n s w few
changed_whole TakeBack e n s w few = w

-- a new session has all places
pub new_whole : (k : Cells) (buffer : List ℕ) → Whole (record { session = new_session k; buffer = buffer })
new_whole k buffer = length-replicate kept_edits no_edit

-- the opposites of edits, one behind the other, lead from a list to another, and a buffer of n bytes holds all between
data Undoes (p : Panel) (n : ℕ) : List Edit → List Cell → List Cell → Type 0 where
  none : {l : List Cell} → Undoes p n [] l l
  more : {e : Edit} {r : List Edit} {l m : List Cell} → can_edit p (opposite e) l ≡ true → 2 * length (edited (opposite e) l) ≤ n
      → Undoes p n r (edited (opposite e) l) m → Undoes p n (e ∷ r) l m

module _ (p : Panel) (a z : Cell) (room : ℕ) where
  -- ---- any run

  -- what the call leaves is what the run goes on from
  pub call_leaves : (c : Command) (d : Desk) (old : List ℕ) → length old ≡ room → {s' : Session} {buffer' new : List ℕ} {r : Result Cells Refusal}
      → Edits p a z c d.session d.buffer old s' buffer' new r
      → (s' ≡ (desk_after p a z room c d).session) × (buffer' ≡ (desk_after p a z room c d).buffer)
  call_leaves c d old is e =
      let told : ℕ → Check = edit_check p a z c d.session d.buffer in
      let f = edit_of c d.session d.buffer in (
        e.leaves.session ∙ ap (λ (k : ℕ). session_after (told k) c f (drawing d) d.session) is,
        e.leaves.list ∙ ap (λ (k : ℕ). buffer_after (told k) f (drawing d) d.buffer) is,
      )

  -- what holds after an accepted command, and where nothing changes, holds after any
  by_command : (P : Desk → Type 0) (c : Command) (d : Desk) → (Accepted p a z room c d → P (desk_after p a z room c d)) → P d
      → P (desk_after p a z room c d)
  by_command P c d made same = by (desk_check p a z room c d) refl
    where
      by : (k : Check) → desk_check p a z room c d ≡ k → P (desk_after p a z room c d)
      by (Ok tt) f = made f
      by (Err r) f =
          let e = edit_of c d.session d.buffer in
          let back : d ≡ desk_after p a z room c d =
          (λ i. record {
            session = answer_refused (λ (q : Refusal). d.session) (changed c e (length (edited e (drawing d))) d.session) f i;
            buffer = answer_refused (λ (q : Refusal). d.buffer) (with_zeros (edited e (drawing d)) (length d.buffer)) f i;
          }) in
          subst P back same

  pub run_judged : {d f : Desk} → Run p a z room d f → Judged p a z room d → Judged p a z room f
  run_judged Run.none j = j
  run_judged (Run.more {f = f} r c) j = by_command (Judged p a z room) c f (next_judged p a z room c f) (run_judged r j)

  -- the array of a session keeps its length
  next_whole : (c : Command) (d : Desk) → Accepted p a z room c d → Whole d → Whole (desk_after p a z room c d)
  next_whole c d ok w =
      let e = edit_of c d.session d.buffer in
      ap (λ (t : Session). length t.edits) (next_session p a z room c d ok)
      ∙ changed_whole c e (length (edited e (drawing d))) d.session w (was_few p a z room c d ok)

  pub run_whole : {d f : Desk} → Run p a z room d f → Whole d → Whole f
  run_whole Run.none w = w
  run_whole (Run.more {f = f} r c) w = by_command Whole c f (λ ok. next_whole c f ok (run_whole r w)) (run_whole r w)

  -- from a list that Judge accepts any run keeps a track between the same ends
  pub run_track : {d f : Desk} → Run p a z room d f → Judged p a z room d → Track p a z (drawing f)
  run_track {f = f} r j = is_track_lem p a z room (list_of f.session f.buffer) (run_judged r j)

  -- a bulge adds two cells, a press takes two
  pub bulge_longer : (k : ℕ) (side : Side) (d : Desk) → Accepted p a z room (Bulge k side) d
      → length (drawing (desk_after p a z room (Bulge k side) d)) ≡ length (drawing d) + 2
  bulge_longer k side d ok =
      ap length (next_drawing p a z room (Bulge k side) d ok)
      ∙ bulge_adds p (bulge_at k side) (drawing d) refl (can p a z room (Bulge k side) d ok)

  pub press_shorter : (k : ℕ) (d : Desk) → Accepted p a z room (Press k) d
      → length (drawing (desk_after p a z room (Press k) d)) + 2 ≡ length (drawing d)
  press_shorter k d ok =
      ap (λ (l : List Cell). length l + 2) (next_drawing p a z room (Press k) d ok)
      ∙ press_takes p (press_at k (drawing d)) (drawing d) refl (can p a z room (Press k) d ok)

  -- ---- one taking back

  module _ (d : Desk) (judged : Judged p a z room d) (some : 1 ≤ d.session.recorded) where
    accepted : can_edit p (opposite (newest d.session)) (drawing d) ≡ true
        → 2 * length (edited (opposite (newest d.session)) (drawing d)) ≤ length d.buffer → Accepted p a z room TakeBack d
    accepted able fits =
        sym (after_good _ judged (expect_yes NothingRecorded _ (le-leb 1 _ some)
        (expect_yes NoSuchEdit _ able (expect_yes ShortBuffer _ (le-leb _ _ fits) refl))))

  -- ---- as many as the opposites of the newest edits lead back

  pub record Back (n : ℕ) (d : Desk) (m : List Cell) : Type 0 where
    pub end : Desk
    pub way : BackRun p a z room n d end
    pub list : drawing end ≡ m
    pub judged : Judged p a z room end

  back : (n size : ℕ) (d : Desk) (l m : List Cell) → Judged p a z room d → n ≤ d.session.recorded → length d.buffer ≡ size → drawing d ≡ l
      → Undoes p size (newest_of d.session.edits d.session.recorded n) l m → Back n d m
  back zero size d l m j h b q Undoes.none = record { end = d; way = BackRun.none; list = q; judged = j }
  back (suc n) size d l m j h b q (Undoes.more able fits u) =
      let s = d.session in
      let e = opposite (newest s) in
      let could = ap (can_edit p e) q ∙ able in
      let room_for : 2 * length (edited e (drawing d)) ≤ length d.buffer = omega (arith, ap (λ (k : List Cell). length (edited e k)) q, b, fits) in
      let ok = accepted d j (omega arith) could room_for in
      let f = desk_after p a z room TakeBack d in
      let left = next_session p a z room TakeBack d ok in
      let rest = subst (λ (t : Session). Undoes p size (newest_of t.edits t.recorded n) (edited e l) m) (sym left) u in
      let fewer : n ≤ f.session.recorded = omega (arith, ap (λ (t : Session). t.recorded) left, h) in
      let list = next_drawing p a z room TakeBack d ok ∙ ap (edited e) q in
      let r = back n size f (edited e l) m (next_judged p a z room TakeBack d ok) fewer (next_length p a z room TakeBack d ok ∙ b) list rest in
      record { end = r.end; way = BackRun.more ok r.way; list = r.list; judged = r.judged }

  -- ---- edits, one behind the other, and what undoes them

  record Unwinds (n : ℕ) (d f : Desk) : Type 0 where
    pub judged : Judged p a z room f
    pub whole : Whole f
    pub size : length f.buffer ≡ length d.buffer
    pub enough : n ≤ f.session.recorded
    pub undoes : Undoes p (length d.buffer) (newest_of f.session.edits f.session.recorded n) (drawing f) (drawing d)

  unwinds : {n : ℕ} {d f : Desk} → EditRun p a z room n d f → n ≤ kept_edits → Judged p a z room d → Whole d → Unwinds n d f
  unwinds EditRun.none h j w = record { judged = j; whole = w; size = refl; enough = omega arith; undoes = Undoes.none }
  unwinds {n = suc n} {d = d} (EditRun.more {f = f} run c is ok) h j w =
      let was = unwinds run (omega arith) j w in
      let s = f.session in
      let l = drawing f in
      let e = edit_of c s f.buffer in
      let g = desk_after p a z room c f in
      let few = was_few p a z room c f ok in
      let left : g.session ≡ on_record e (length (edited e l)) s =
      next_session p a z room c f ok ∙ edit_recorded c e (length (edited e l)) s is in
      let next = next_drawing p a z room c f ok in
      let (again, same) = undone p a z e l (is_track_lem p a z room (list_of s f.buffer) was.judged) (can p a z room c f ok) in
      let fits : 2 * length (edited (opposite e) (edited e l)) ≤ length d.buffer =
      omega (arith, ap length same, is_held p a z room f was.judged, was.size) in
      let older = newest_of s.edits s.recorded n in
      let rest = subst (λ (k : List Cell). Undoes p (length d.buffer) older k (drawing d)) (sym same) was.undoes in
      let first = recorded_first e (length (edited e l)) s was.whole few n was.enough (omega arith) in
      let all = sym first ∙ ap (λ (t : Session). newest_of t.edits t.recorded (suc n)) (sym left) in
      let more-recorded = recorded_more e (length (edited e l)) s was.whole few n was.enough (omega arith) in
      let newer = newest_of g.session.edits g.session.recorded (suc n) in
      let edit_undone : Undoes p (length d.buffer) newer (edited e l) (drawing d) =
      subst (λ (r : List Edit). Undoes p (length d.buffer) r (edited e l) (drawing d)) all (Undoes.more again fits rest) in
      record {
        judged = next_judged p a z room c f ok;
        whole = ap (λ (t : Session). length t.edits) left ∙ recorded_whole e (length (edited e l)) s was.whole few;
        size = next_length p a z room c f ok ∙ was.size;
        enough = omega (arith, more-recorded, ap (λ (t : Session). t.recorded) left);
        undoes = subst (λ (k : List Cell). Undoes p (length d.buffer) newer k (drawing d)) (sym next) edit_undone;
      }

  -- n takings back in a row undo n edits, up to 32, whatever was recorded before
  pub undo : (n : ℕ) (d f : Desk) → n ≤ kept_edits → Judged p a z room d → Whole d → EditRun p a z room n d f → Back n f (drawing d)
  undo n d f h j w run =
      let u = unwinds run h j w in
      back n (length d.buffer) f (drawing f) (drawing d) u.judged u.enough u.size refl u.undoes

  -- ---- taking back right after an edit

  -- g is what an edit of d left, or has its session, its list and a buffer of its length: a taking back is accepted, the list is that of d, and
  -- the record too, but for an oldest one that was dropped
  pub record Restored (d g : Desk) : Type 0 where
    pub ok : Accepted p a z room TakeBack g
    pub list : drawing (desk_after p a z room TakeBack g) ≡ drawing d
    pub count : (desk_after p a z room TakeBack g).session.count.0 ≡ d.session.count.0
    pub record_open : d.session.recorded < kept_edits → recorded_edits (desk_after p a z room TakeBack g) ≡ recorded_edits d
    pub record_full : kept_edits ≤ d.session.recorded → recorded_edits (desk_after p a z room TakeBack g) ≡ drop 1 (recorded_edits d)

  one_back : {g end : Desk} → BackRun p a z room 1 g end → Accepted p a z room TakeBack g × (desk_after p a z room TakeBack g ≡ end)
  one_back (BackRun.more ok BackRun.none) = (ok, refl)

  pub taken_back : (c : Command) (d g : Desk) → is_edit c ≡ true → Accepted p a z room c d → Whole d → let f = desk_after p a z room c d in
      g.session ≡ f.session → length g.buffer ≡ length f.buffer → list_of g.session g.buffer ≡ list_of f.session f.buffer
      → Restored d g
  taken_back c d g is ok w same-session same_length same-list =
      let s = d.session in
      let e = edit_of c s d.buffer in
      let n = length (edited e (drawing d)) in
      let judged = was_judged p a z room c d ok in
      let few = was_few p a z room c d ok in
      let f = desk_after p a z room c d in
      let u = unwinds {n = 1} {d = d} {f = f} (EditRun.more EditRun.none c is ok) (omega arith) judged w in
      let recorded : g.session ≡ on_record e n s = same-session ∙ next_session p a z room c d ok ∙ edit_recorded c e n s is in
      let g_judged : Judged p a z room g = ap (λ (b : List ℕ). judge_check p a z b room) same-list ∙ u.judged in
      let g-undoes = subst (λ (t : Session). Undoes p (length d.buffer) (newest_of t.edits t.recorded 1) (drawing f) (drawing d))
      (sym same-session) u.undoes in
      let enough : 1 ≤ g.session.recorded = omega (arith, ap (λ (t : Session). t.recorded) same-session, u.enough) in
      let size = same_length ∙ u.size in
      let b = back 1 (length d.buffer) g (drawing f) (drawing d) g_judged enough size (ap cells_in same-list) g-undoes in
      let (back-ok, end) = one_back b.way in
      let list = ap drawing end ∙ b.list in
      let h = desk_after p a z room TakeBack g in
      let off : recorded_edits h ≡ take ((on_record e n s).recorded - 1) (on_record e n s).edits =
      ap (λ (t : Session). take t.recorded t.edits) (next_session p a z room TakeBack g back-ok)
      ∙ ap (λ (t : Session). take (t.recorded - 1) t.edits) recorded in
      record {
        ok = back-ok;
        list = list;
        count = sym (is_counted p a z room h (next_judged p a z room TakeBack g back-ok)) ∙ ap length list ∙ is_counted p a z room d judged;
        record_open = λ q. off ∙ off_open e n s w few q;
        record_full = λ q. off ∙ off_full e n s w few q;
      }

-- Judge accepts a list exactly if it is a track between two cells of a good panel, equal or not, given scratch enough, and the count that it
-- gives is that of the list. The tests are the parts of a track (list/proofs/Tracks.antt).
use Rattle.std.specs.Prelude.{Ok, Err}
use Prim.Native.Nat.{ℕ, ◌*◌, ◌%◌, ◌≤◌}
use native.Mathlib.Omega.{arith}
use mathlib.Core.Path.{◌≡◌, refl, sym, ap, ◌∙◌}
use mathlib.Core.Bool.{Bool, true, false, cond}
use mathlib.Core.Logic.{◌≢◌, ◌↔◌}
use mathlib.Core.List.{List, [], ◌∷◌}
use lib.ListN.{length, take}
use lib.Seq.{length-take-le}
use Rattle.grid.specs.declared.Panel.{Panel}
use Rattle.grid.specs.declared.Cell.{Cell}
use Rattle.grid.specs.declared.Cells.{Cells}
use Rattle.grid.specs.declared.Refusal.TheVariants.{Repeated, WrongEnds}
use Rattle.grid.specs.Panel.{good_panel, area}
use Rattle.grid.specs.Track.{Track}
use Rattle.grid.specs.Bytes.{cells_in, front}
use Rattle.grid.proofs.Answers.{cells_good}
use Rattle.grid.proofs.Facts.{test_fails, good, is_good}
use Rattle.grid.proofs.Passed.{after_passed, after_rest}
use Rattle.grid.proofs.Tests.{expect_yes, expect_no, after_good, answer_good, answer_refused}
use Rattle.grid.proofs.Track.{first_in, last_in, one_cell, some_cell}
use Rattle.list.specs.List.{all_on, all_steps, none_twice, runs}
use Rattle.list.specs.Check.{check_walk}
use Rattle.list.proofs.Cells.{length_cells}
use Rattle.list.proofs.Checks.{walk_good}
use Rattle.list.proofs.Whole.{whole, is_whole}
use Rattle.list.proofs.Tracks.{tests_track}
use Rattle.judge.specs.Judge.{sizes_check, judge_check, judge_of}
use Rattle.judge.proofs.Checks.{Sized, sized, is_sized, passed, is_passed, count_small}

-- the bytes hold a track between two cells of a good panel, equal or not, and nothing else
pub record TrackBytes (p : Panel) (s t : Cell) (list : List ℕ) : Type 0 where
  pub panel : good_panel p ≡ true
  pub even : length list % 2 ≡ 0
  pub track : Track p s t (cells_in list)

module _ (p : Panel) (s t : Cell) (list : List ℕ) (room : ℕ) where
  -- what Judge accepts is a track
  pub accepted : (k : Cells) → judge_of p s t list room ≡ Ok k → TrackBytes p s t list
  accepted k e =
      let (g, n) = cells_good (judge_check p s t list room) (length (cells_in list)) k e in
      let sizes = sizes_check p s t (length list) room in
      let z = sized p s t (length list) room (after_passed sizes _ g) in
      record {
        panel = is_good z.ordered.panel;
        even = (whole (length list) z.whole).1;
        track = tests_track (passed p s t (cells_in list) (after_rest sizes _ g));
      }

  -- every track is accepted, with the number of its cells
  pub accepts : area p ≤ room → TrackBytes p s t list → judge_of p s t list room ≡ Ok (record { 0 = length (cells_in list) })
  accepts h b =
      let w = b.track.walk in
      let a = b.track.within in
      let some : 1 ≤ length list = omega (arith, some_cell w, length_cells list) in
      let z : Sized p s t (length list) room = record {
        ordered = record { panel = good p b.panel; entry = first_in w a; exit = last_in w a };
        whole = is_whole (length list) some b.even;
        enough = h;
      } in
      sym (answer_good Err _ (sym (after_good _ (sym (is_sized z)) (is_passed b.track))) refl)

  -- the count is that of the list
  pub counted : (k : Cells) → judge_of p s t list room ≡ Ok k → k.0 ≡ length (cells_in list)
  counted k e = sym (cells_good (judge_check p s t list room) (length (cells_in list)) k e).1

  -- and at most 16,384, however long lists may be
  pub counted_small : (k : Cells) → judge_of p s t list room ≡ Ok k → k.0 ≤ 16384
  counted_small k e =
      let (g, n) = cells_good (judge_check p s t list room) (length (cells_in list)) k e in
      omega (arith, n, count_small p s t list room g)

  -- given scratch enough, Judge accepts exactly the tracks
  pub judges : area p ≤ room → ((k : Cells) × (judge_of p s t list room ≡ Ok k)) ↔ TrackBytes p s t list
  judges h = (λ a. accepted a.0 a.1, λ b. (record { 0 = length (cells_in list) }, accepts h b))

-- between equal terminals that one cell is accepted, and nothing else
pub spot_accepted : (p : Panel) (s : Cell) (list : List ℕ) (room : ℕ) (k : Cells) → judge_of p s s list room ≡ Ok k → cells_in list ≡ s ∷ []
spot_accepted p s list room k e = one_cell (accepted p s s list room k e).track

-- every other list of neighbours on the panel is refused there: by 9 where a cell stands twice, else by 11
pub spot_refused : (p : Panel) (s : Cell) (list : List ℕ) (room : ℕ) → sizes_check p s s (length list) room ≡ Ok tt
    → check_walk p (cells_in list) ≡ Ok tt → cells_in list ≢ s ∷ []
    → judge_of p s s list room ≡ Err (cond (none_twice (cells_in list)) WrongEnds Repeated)
spot_refused p s list room z w other = go (none_twice l) refl
  where
    l : List Cell
    l = cells_in list

    walks : (all_on p l ≡ true) × (all_steps l ≡ true)
    walks = walk_good p l w

    -- without a repeat it would be a track from s to s
    wrong : none_twice l ≡ true → runs s s l ≡ false
    wrong e =
        test_fails (runs s s l)
        (λ r. other (one_cell (tests_track {p = p} record { on_panel_lem = walks.0; steps = walks.1; once = e; ends = r })))

    go : (b : Bool) → none_twice l ≡ b → judge_of p s s list room ≡ Err (cond b WrongEnds Repeated)
    go true e =
        let ends = expect_no WrongEnds (Ok tt) (wrong e) in
        sym (answer_refused Err _ (sym (after_good _ z (after_good _ w (expect_yes Repeated _ e ends)))))
    go false e = sym (answer_refused Err _ (sym (after_good _ z (after_good _ w (expect_no Repeated _ e)))))

-- What Draw promises, Judge accepts: where the first k cells of a buffer are a track between two cells of a good panel, their bytes
-- are accepted with the count k.
pub drawn : (p : Panel) (s t : Cell) (k : ℕ) (buffer : List ℕ) (room : ℕ)
    → good_panel p ≡ true → 2 * k ≤ length buffer → Track p s t (front k buffer) → area p ≤ room
    → judge_of p s t (take (2 * k) buffer) room ≡ Ok (record { 0 = k })
drawn p s t k buffer room g n track h =
    let e : length (take (2 * k) buffer) ≡ 2 * k = length-take-le (2 * k) buffer n in
    let f : length (cells_in (take (2 * k) buffer)) ≡ k = omega (arith, length_cells (take (2 * k) buffer)) in
    accepts p s t (take (2 * k) buffer) room h (record { panel = g; even = omega arith; track = track })
    ∙ ap (λ (j : ℕ). Ok (record { 0 = j })) f

-- A corner track drawn line by line from its corner: what has been drawn, and the cells of the rectangle that remains, are together those of the whole.
use Prim.Native.Nat.{ℕ, suc, ◌+◌, ◌-◌, ◌*◌, ◌≤◌, ◌<◌}
use mathlib.Core.Path.{◌≡◌, refl, sym, ap, ◌∙◌}
use mathlib.Core.Bool.{true, false}
use mathlib.Core.List.{List, [], ◌++◌, append_assoc}
use native.Mathlib.Omega.{arith}
use lib.ListN.{length, take, drop, length-append, length-drop}
use borrow.Rule.Slice.PartMut.{put_mid}
use Rattle.grid.specs.declared.Cell.{Cell}
use Rattle.grid.specs.Panel.{dist}
use Rattle.grid.specs.Bytes.{bytes}
use Rattle.grid.proofs.Bytes.{length_bytes}
use Rattle.line.specs.Rectangle.{cells_between}
use Rattle.line.specs.Sweep.{sweep}
use Rattle.line.specs.declared.Along.{Along}
use Rattle.line.specs.Drawn.{written}
use Rattle.line.proofs.Frame.{last_inside, in_bytes}
use Rattle.line.proofs.Sweep.{length_sweep}
use Rattle.line.proofs.Drawn.{part_behind, part_long}
use Rattle.corner.specs.declared.Peeled.{Peeled}
use Rattle.corner.specs.Corner.{track_count}
use Rattle.corner.specs.Cells.{one_line, line_way, peeled, corner_from, corner_cells}
use Rattle.corner.specs.Drawn.{InBytes, Fits, Ready}
use Rattle.corner.proofs.Chosen.{Peel}
use Rattle.corner.proofs.First.{Only, only}
use Rattle.corner.proofs.Track.{one_left, more_left, peel_here}

-- the lines before the rectangle of a' and b' stand at the front of the buffer, `at` bytes
pub record Begun (a b t : Cell) (old : List ℕ) (a' b' t' : Cell) (at : ℕ) (new : List ℕ) : Type 0 where
  pub cells : List Cell
  pub size : 2 * length cells ≡ at
  pub counts : track_count a b t ≡ length cells + track_count a' b' t'
  pub written : new ≡ bytes cells ++ drop at old
  pub turns : ℕ
  pub enough : dist a'.x b'.x + dist a'.y b'.y < turns
  pub whole : corner_cells a b t ≡ cells ++ corner_from turns a' b' t'

-- nothing drawn yet
pub begun : {a b t : Cell} {old : List ℕ} → Ready a b t old → Begun a b t old a b t 0 old
unfolding corner_cells
begun {a} {b} r = record {
  cells = [];
  size = refl;
  counts = omega arith;
  written = refl;
  turns = suc (dist a.x b.x + dist a.y b.y);
  enough = omega arith;
  whole = refl;
}

module _ {a b t : Cell} {old : List ℕ} (ready : Ready a b t old) {a' b' t' : Cell} {at : ℕ} {new : List ℕ} (d : Begun a b t old a' b' t' at new) where
  pub long : length new ≡ length old
  long =
      ap length d.written ∙ length-append (bytes d.cells) (drop at old)
      ∙ omega (arith, length_bytes d.cells, length-drop at old, d.size, d.counts, ready.room)

  -- room for what remains
  pub room : at + 2 * track_count a' b' t' ≤ length new
  room = omega (arith, long, d.size, d.counts, ready.room)

  -- the part that is lent to the next lines
  abbrev lent : List ℕ
  lent = take (length new - at) (drop at new)

  module _ (f : Fits a' b' t') {r : Peeled} (n : one_line a' b' t' ≡ false) (e : r ≡ peeled a' b' t') where
    p : Peel a' b' t' r
    p = peel_here a' b' t' n e f.inside

    pub step : {at' : ℕ} {part : List ℕ} → at' ≡ at + 2 * r.cells.0
        → part ≡ written (sweep r.along a' r.far) (cells_between a' r.far) lent
        → Begun a b t old r.corner r.opposite t' at' (put_mid at (length new - at) new part)
    step {at'} {part} u w =
        let lines = sweep r.along a' r.far in
        let m = cells_between a' r.far in
        let s = length_sweep r.along a' r.far in
        let q : at + 2 * m ≡ at' = omega (arith, p.size, u) in
        record {
          cells = d.cells ++ lines;
          size = omega (arith, length-append d.cells lines, d.size, s, q);
          counts = omega (arith, length-append d.cells lines, d.counts, p.counts, s, p.size);
          written =
              part_behind d.cells lines old new part at m d.written d.size (omega (arith, room)) w
              ∙ ap (λ (i : ℕ). bytes (d.cells ++ lines) ++ drop i old) q;
          turns = d.turns - 1;
          enough = omega (arith, d.enough, p.less);
          whole =
              d.whole ∙ ap (λ (l : List Cell). d.cells ++ l) (more_left a' b' t' n e d.turns (omega (arith, d.enough)))
              ∙ sym (append_assoc d.cells lines _);
        }

    -- what drawing the next lines asks for
    pub far_small : InBytes r.far
    far_small = in_bytes f.corner f.opposite (p.lines r.far (last_inside a' r.far))

    pub lines_fit : 2 * cells_between a' r.far ≤ length lent
    lines_fit = omega (arith, part_long new at (omega (arith, room)), room, p.counts, p.size)

    pub less : dist r.corner.x r.opposite.x + dist r.corner.y r.opposite.y < dist a'.x b'.x + dist a'.y b'.y
    less = p.less

  -- one line is left
  module _ (f : Fits a' b' t') (y : one_line a' b' t' ≡ true) where
    abbrev way : Along
    way = line_way a' t'

    last : Only a' b' t' way
    last = only a' b' t' f.inside y

    pub last_fits : 2 * cells_between a' t' ≤ length lent
    last_fits = omega (arith, part_long new at (omega (arith, room)), room, last.counts)

    pub finish : {part : List ℕ} → part ≡ written (sweep way a' t') (cells_between a' t') lent
        → put_mid at (length new - at) new part ≡ written (corner_cells a b t) (track_count a b t) old
    finish {part} w =
        let n : at + 2 * cells_between a' t' ≡ 2 * track_count a b t = omega (arith, d.size, d.counts, last.counts) in
        let all = d.whole ∙ ap (λ (l : List Cell). d.cells ++ l) (one_left d.turns a' b' t' (omega (arith, d.enough)) y) in
        part_behind d.cells (sweep way a' t') old new part at (cells_between a' t') d.written d.size (omega (arith, room)) w
        ∙ (λ i. bytes (sym all i) ++ drop (n i) old)

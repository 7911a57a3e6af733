-- The same cells drawn from the last one: those of the rectangle that remains, the last one first, and what has been drawn behind them, are together
-- those of the whole.
use Prim.Native.Nat.{ℕ, suc, ◌+◌, ◌-◌, ◌*◌, ◌≤◌, ◌<◌}
use mathlib.Core.Path.{◌≡◌, sym, ap, ◌∙◌}
use mathlib.Core.Bool.{true, false}
use mathlib.Core.List.{List, [], ◌++◌, append_assoc, append-nil, reverse, reverse-append}
use native.Mathlib.Omega.{arith}
use lib.ListN.{length, take, drop, length-append, length-drop, length-reverse, take-append-drop}
use lib.Seq.{drop_at, take-take, take-append-le, length-take-le}
use borrow.Rule.Slice.PartMut.{put_mid}
use Rattle.grid.specs.declared.Cell.{Cell}
use Rattle.grid.specs.Panel.{dist}
use Rattle.grid.specs.Bytes.{bytes}
use Rattle.grid.proofs.Facts.{dist_sym}
use Rattle.grid.proofs.Bytes.{bytes_append, length_bytes}
use Rattle.line.specs.Rectangle.{Inside, cells_between}
use Rattle.line.specs.Sweep.{sweep}
use Rattle.line.specs.declared.Along.{Along}
use Rattle.line.specs.Drawn.{written}
use Rattle.line.proofs.Frame.{first_inside, last_inside, in_bytes}
use Rattle.line.proofs.Sweep.{length_sweep}
use Rattle.line.proofs.Drawn.{part_written, part_long}
use Rattle.corner.specs.declared.Peeled.{Peeled}
use Rattle.corner.specs.Corner.{track_count}
use Rattle.corner.specs.Cells.{one_line, line_way, peeled, corner_from, corner_cells}
use Rattle.corner.specs.Drawn.{InBytes, Fits, Ready}
use Rattle.corner.proofs.Chosen.{Peel}
use Rattle.corner.proofs.First.{Only, only}
use Rattle.corner.proofs.Track.{one_left, more_left, peel_here}

-- the lines before the rectangle of a' and b' stand backwards behind the first `at` bytes, which are left for what remains
pub record Ended (a b t : Cell) (old : List ℕ) (a' b' t' : Cell) (at : ℕ) (new : List ℕ) : Type 0 where
  pub cells : List Cell
  pub size : at ≡ 2 * track_count a' b' t'
  pub counts : track_count a b t ≡ track_count a' b' t' + length cells
  pub written : new ≡ take at old ++ (bytes cells ++ drop (2 * track_count a b t) old)
  pub turns : ℕ
  pub enough : dist a'.x b'.x + dist a'.y b'.y < turns
  pub whole : reverse (corner_cells a b t) ≡ reverse (corner_from turns a' b' t') ++ cells

between_same : (a c : Cell) → cells_between a c ≡ cells_between c a
unfolding cells_between
between_same a c = λ i. (dist_sym a.x c.x i + 1) * (dist_sym a.y c.y i + 1)

-- nothing drawn yet
pub ended : {a b t : Cell} {old : List ℕ} {k : ℕ} → Ready a b t old → k ≡ track_count a b t → Ended a b t old a b t (2 * k) old
unfolding corner_cells
ended {a} {b} {t} {old} {k} r e = record {
  cells = [];
  size = ap (λ (i : ℕ). 2 * i) e;
  counts = omega arith;
  written = sym (take-append-drop (2 * k) old) ∙ ap (λ (i : ℕ). take (2 * k) old ++ drop (2 * i) old) e;
  turns = suc (dist a.x b.x + dist a.y b.y);
  enough = omega arith;
  whole = sym (append-nil _);
}

module _ {a b t : Cell} {old : List ℕ} (ready : Ready a b t old) {a' b' t' : Cell} {at : ℕ} {new : List ℕ} (d : Ended a b t old a' b' t' at new) where
  room : at ≤ length old
  room = omega (arith, d.size, d.counts, ready.room)

  front_long : length (take at old) ≡ at
  front_long = length-take-le at old room

  pub long : length new ≡ length old
  long =
      ap length d.written ∙ length-append (take at old) (bytes d.cells ++ drop (2 * track_count a b t) old)
      ∙ ap (λ (i : ℕ). length (take at old) + i) (length-append (bytes d.cells) (drop (2 * track_count a b t) old))
      ∙ omega (arith, front_long, length_bytes d.cells, length-drop (2 * track_count a b t) old, d.size, d.counts, ready.room)

  pub fits : at ≤ length new
  fits = omega (arith, room, long)

  -- what stands behind the first `at` bytes
  back : drop at new ≡ bytes d.cells ++ drop (2 * track_count a b t) old
  back = ap (drop at) d.written ∙ drop_at (take at old) (bytes d.cells ++ drop (2 * track_count a b t) old) at front_long

  joined : (l : List Cell) → bytes l ++ drop at new ≡ bytes (l ++ d.cells) ++ drop (2 * track_count a b t) old
  joined l =
      ap (λ (r : List ℕ). bytes l ++ r) back
      ∙ sym (append_assoc (bytes l) (bytes d.cells) (drop (2 * track_count a b t) old))
      ∙ ap (λ (r : List ℕ). r ++ drop (2 * track_count a b t) old) (sym (bytes_append l d.cells))

  -- the next lines go before the lines so far, from their end back to a'
  module _ (f : Fits a' b' t') {r : Peeled} (n : one_line a' b' t' ≡ false) (e : r ≡ peeled a' b' t') where
    p : Peel a' b' t' r
    p = peel_here a' b' t' n e f.inside

    size_back : cells_between r.end r.home ≡ r.cells.0
    size_back =
        sym (length_sweep r.along r.end r.home) ∙ ap length p.back ∙ length-reverse (sweep r.along a' r.far)
        ∙ length_sweep r.along a' r.far ∙ sym p.size

    pub less : dist r.corner.x r.opposite.x + dist r.corner.y r.opposite.y < dist a'.x b'.x + dist a'.y b'.y
    less = p.less

    pub line_start : 2 * r.cells.0 ≤ at
    line_start = omega (arith, d.size, p.counts)

    part_small : {z : Cell} → Inside r.end r.home z → InBytes z
    part_small i = in_bytes f.corner f.opposite (p.lines _ (p.same _ i))

    pub end_small : InBytes r.end
    end_small = part_small (first_inside _ _)

    pub home_small : InBytes r.home
    home_small = part_small (last_inside _ _)

    abbrev from : ℕ
    from = at - 2 * r.cells.0

    before : from + 2 * r.cells.0 ≡ at
    before = let l = line_start in omega arith

    abbrev lent : List ℕ
    lent = take (length new - from) (drop from new)

    pub lines_fit : 2 * cells_between r.end r.home ≤ length lent
    lines_fit = omega (arith, part_long new from (omega (arith, fits)), fits, size_back, before)

    pub step : {part : List ℕ} → part ≡ written (sweep r.along r.end r.home) (cells_between r.end r.home) lent
        → Ended a b t old r.corner r.opposite t' from (put_mid from (length new - from) new part)
    step {part} w =
        let lines = sweep r.along r.end r.home in
        let m = cells_between r.end r.home in
        let s = length_sweep r.along r.end r.home in
        let z : from + 2 * m ≡ at = omega (arith, size_back, before) in
        record {
          cells = lines ++ d.cells;
          size = omega (arith, d.size, p.counts);
          counts = omega (arith, length-append lines d.cells, d.counts, p.counts, s, size_back);
          written =
              part_written new part from m lines (omega (arith, fits)) w
              ∙ (λ i. front (omega arith) i ++ (bytes lines ++ drop (z i) new))
              ∙ ap (λ (l : List ℕ). take from old ++ l) (joined lines);
          turns = d.turns - 1;
          enough = omega (arith, d.enough, p.less);
          whole = d.whole ∙ ap (λ (l : List Cell). l ++ d.cells) rest ∙ append_assoc (reverse (corner_from (d.turns - 1) r.corner r.opposite t')) lines d.cells;
        }
      where
        front : from ≤ at → take from new ≡ take from old
        front l = ap (take from) d.written ∙ take-append-le from (take at old) _ (omega (arith, front_long)) ∙ take-take from at old l

        -- what remained is what remains now, and then these lines
        rest : reverse (corner_from d.turns a' b' t')
            ≡ reverse (corner_from (d.turns - 1) r.corner r.opposite t') ++ sweep r.along r.end r.home
        rest =
            let ahead = corner_from (d.turns - 1) r.corner r.opposite t' in
            ap reverse (more_left a' b' t' n e d.turns (omega (arith, d.enough)))
            ∙ reverse-append (sweep r.along a' r.far) ahead ∙ ap (λ (l : List Cell). reverse ahead ++ l) (sym p.back)

  -- the last line, at the front
  module _ (f : Fits a' b' t') (y : one_line a' b' t' ≡ true) where
    abbrev way : Along
    way = line_way a' t'

    last : Only a' b' t' way
    last = only a' b' t' f.inside y

    pub last_fits : 2 * cells_between t' a' ≤ length new
    last_fits = omega (arith, fits, d.size, last.counts, between_same a' t')

    pub finish : {part : List ℕ} → part ≡ written (sweep way t' a') (cells_between t' a') new → part ≡ written (reverse (corner_cells a b t)) (track_count a b t) old
    finish w =
        let v : 2 * cells_between t' a' ≡ at = omega (arith, d.size, last.counts, between_same a' t') in
        let line = ap reverse (one_left d.turns a' b' t' (omega (arith, d.enough)) y) ∙ sym last.back in
        w ∙ ap (λ (i : ℕ). bytes (sweep way t' a') ++ drop i new) v ∙ joined (sweep way t' a')
        ∙ ap (λ (l : List Cell). bytes l ++ drop (2 * track_count a b t) old) (sym (d.whole ∙ ap (λ (l : List Cell). l ++ d.cells) line))

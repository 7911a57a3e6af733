-- The cell that the letter of a turn leads to is on the largest panel, and so are those behind it; there is room for it, and it is put
-- behind the others. So no letter is refused, and at the end all cells are put.
use Rattle.std.proofs.Common.{ℕ, ◌≡◌, ◌+◌, ◌*◌, ◌++◌, ◌∷◌, ◌∙◌, List, refl, sym, ap, take, drop, arith}
use Rattle.grid.specs.declared.Cell.{Cell}
use Rattle.grid.specs.Bytes.{bytes}
use Rattle.grid.proofs.Facts.{on as on-panel-is}
use Rattle.step_letters.specs.Letters.{largest_panel, walk_on}
use Rattle.step_letters.proofs.Lists.{bytes_end, put_done}
use Rattle.record.proofs.Walks.{leads_on, leads_to_next, walk_more, length_walk, put_cell_at, next_on}
use Rattle.record.proofs.write_cells.Invariants.{whole}
use Rattle.record.proofs.write_cells.Goals as goal

pub unwrap-at-requires : goal.unwrap-at-requires
unwrap-at-requires c =
    leads_on largest_panel c.loop-i.at _ c.step_by.ensures (next_on c.args.letters.now c.loop-i.i c.loop-i.at c.loop-i-test.true c.loop-i.invariant.left refl).0

pub loop-i-preserved : goal.loop-i-preserved
loop-i-preserved c =
    let l = c.args.letters.now in
    let i = c.loop-i.i in
    let n = whole c.args.s l in
    let list = c.loop-i.list in
    let d = c.unwrap-at.result in
    let to = leads_to_next l i c.loop-i.at c.step_by.ensures c.unwrap-at.ensures in
    let rest = bytes (walk_on d (drop (i + 1) l)) in
    let on = next_on l i c.loop-i.at c.loop-i-test.true c.loop-i.invariant.left to in
    let more = walk_more l i c.loop-i.at c.loop-i-test.true to in
    let at : 2 * i + 2 ≡ 2 * (i + 1) = omega arith in
    record {
      size = omega arith;
      on = on-panel-is largest_panel d on.0;
      left = on.1;
      made = c.loop-i.invariant.made
          ∙ ap (λ (w : List Cell). take (2 * i + 2) list ++ (bytes w ++ drop n list)) more
          ∙ ap (λ (k : ℕ). take k list ++ (bytes (d ∷ walk_on d (drop (i + 1) l)) ++ drop n list)) at
          ∙ put_cell_at list (2 * (i + 1)) n d rest c.put_cell-in-loop-i.ensures (omega arith) (omega (arith, length_walk c.args.s l, c.requires.room))
          (omega (arith, length_walk c.args.s l));
    }

pub put_cell-requires-in-loop-i : goal.put_cell-requires-in-loop-i
put_cell-requires-in-loop-i c =
    let l = c.args.letters.now in
    let to = leads_to_next l c.loop-i.i c.loop-i.at c.step_by.ensures c.unwrap-at.ensures in
    let o = on-panel-is largest_panel _ (next_on l c.loop-i.i c.loop-i.at c.loop-i-test.true c.loop-i.invariant.left to).0 in
    (o.right, o.bottom, omega (arith, length_walk c.args.s l, c.requires.room))

pub returns : goal.returns
returns c =
    let a = c.args in
    let l = a.letters.now in
    let i = c.loop-i.i in
    let n = whole a.s l in
    let list = c.loop-i.list in
    let all : 2 * i + 2 ≡ n = omega (arith, length_walk a.s l) in
    sym (put_cell_at a.list.now 0 n a.s (bytes (walk_on a.s l)) c.put_cell.ensures refl (omega (arith, c.requires.room)) (omega arith)
    ∙ c.loop-i.invariant.made
    ∙ ap (λ (k : List ℕ). take (2 * i + 2) list ++ (bytes (walk_on c.loop-i.at k) ++ drop n list)) (bytes_end l i c.loop-i-test.false)
    ∙ put_done list (2 * i + 2) n all)

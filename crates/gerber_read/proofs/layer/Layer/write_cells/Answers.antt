-- Where no step leads on no cell is left to write; where one does the next cell is written.
use Rattle.std.proofs.Common.{◌∙◌, ◌+◌, ◌*◌, ◌≡◌, ℕ, sym, subst, List, arith}
use Rattle.gerber_read.specs.Read.{found_list, led}
use Rattle.gerber_read.proofs.Found.{leads_on, ahead_on, Written, written_first, all_written, written_stopped, written_next}
use Rattle.gerber_read.proofs.layer.Layer.write_cells.Goals as goal

pub loop-i-init : goal.loop-i-init
loop-i-init c = written_first c.requires.start c.args.list.now c.requires.room c.start_at-t.ensures c.put_cell.ensures

pub returns-in_default : goal.returns-in_default
returns-in_default c =
    let stop = written_stopped c.loop-i.invariant c.step_on.result c.step_on.ensures (sym c.flatten.ensures ∙ c.in_default.is) in
    all_written c.requires.start c.args.list.now c.requires.room c.loop-i.invariant (omega (arith, c.requires.start.size, stop))

pub put_cell-requires-in-loop-i : goal.put_cell-requires-in-loop-i
put_cell-requires-in-loop-i c =
    let l = c.loop-i in
    let on = leads_on c.step_on.result (sym c.flatten.ensures ∙ c.in-Some.is) in
    let o = ahead_on _ _ l.t c.step_on.ensures on in
    let g = c.args.self.good.sides in
    (omega (arith, o.right, g.widest), omega (arith, o.bottom, g.highest), omega (arith, c.requires.room))

pub loop-i-preserved : goal.loop-i-preserved
loop-i-preserved c =
    let a = c.args in
    let l = c.loop-i in
    let on = leads_on c.step_on.result (sym c.flatten.ensures ∙ c.in-Some.is) in
    let more : 2 * l.i + 2 ≡ 2 * (l.i + 1) = omega arith in
    let whole = found_list (led a.self.panel a.self.file.now a.start.first) in
    subst (λ (b : List ℕ). Written a.self.panel a.self.file.now whole a.list.now 0 b c.in-Some.u (2 * (l.i + 1))) (sym c.put_cell-in-loop-i.ensures)
    (subst (Written a.self.panel a.self.file.now whole a.list.now 0 _ c.in-Some.u) more (written_next l.invariant c.step_on.ensures on))

pub returns : goal.returns
returns c = all_written c.requires.start c.args.list.now c.requires.room c.loop-i.invariant (omega (arith, c.loop-i-test.false))

-- Where the record is full the edits from the second on come to the front; behind them stands the new one.
use native.Mathlib.Omega.{arith}
use borrow.Author.Tests.{le-leb}
use Prim.Native.Nat.{◌-◌}
use mathlib.Core.Path.{◌≡◌, ap, ◌∙◌}
use mathlib.Core.List.{List, [], ◌∷◌, ◌++◌}
use lib.ListN.{length, take, drop, get_or, set, length-drop, drop_of_length-le}
use lib.Seq.{paste, take_all, drop-cons, set_at}
use Rattle.grid.proofs.Tests.{cond_yes}
use Rattle.detour.specs.declared.Edit.{Edit}
use Rattle.session.specs.Session.{no_edit}
use Rattle.session.proofs.Session.add.Goals as goal

shifted : (l : List Edit) (e : Edit) → length l ≡ 32 → set (paste l 0 (drop 1 l) 31) 31 e ≡ drop 1 l ++ (e ∷ [])
shifted l e h =
    let last = get_or l 31 no_edit in
    let size : length (drop 1 l) ≡ 31 = omega (arith, length-drop 1 l) in
    let front : take 31 (drop 1 l) ≡ drop 1 l = take_all 31 (drop 1 l) (omega arith) in
    let back : drop 31 l ≡ last ∷ [] =
    drop-cons l 31 no_edit (omega arith) ∙ ap (λ (r : List Edit). last ∷ r) (drop_of_length-le l {i = 32} (omega arith)) in
    (λ i. set (front i ++ back i) 31 e) ∙ set_at (drop 1 l) last [] e 31 size

pub returns-then-k-ge-KEPT_EDITS : goal.returns-then-k-ge-KEPT_EDITS
returns-then-k-ge-KEPT_EDITS c =
    let s = c.args.self.now in
    let e = c.args.e in
    let many : length s.edits - 1 ≡ 31 = omega arith in
    let stored : set c.copy_within.new.self 31 e ≡ drop 1 s.edits ++ (e ∷ []) =
    ap (λ (l : List Edit). set l 31 e) (c.copy_within.ensures.after ∙ ap (paste s.edits 0 (drop 1 s.edits)) many)
    ∙ shifted s.edits e (omega arith) in
    cond_yes _ _ (le-leb 32 s.recorded c.if-k-ge-KEPT_EDITS.true) (λ i. record { count = c.args.count; recorded = s.recorded; edits = stored i })

-- A good order with room: its track is drawn, and that is a longest one.
use Rattle.std.specs.Prelude.{Ok}
use Prim.Native.Nat.{ℕ, ◌≤◌}
use mathlib.Core.Path.{◌≡◌, sym, ap, ◌∙◌}
use lib.Dec.{leb}
use native.Mathlib.Omega.{arith}
use borrow.Author.Tests.{leb-true}
use Rattle.grid.specs.declared.Refusal.{Refusal}
use Rattle.grid.specs.Check.{Check, expect}
use Rattle.grid.proofs.Passed.{good_order, expect_passed}
use Rattle.count.specs.declared.ClassCount.{ClassCount}
use Rattle.draw.proofs.Drawing.{roomy}
use Rattle.draw.proofs.Answer.{enough, draws}
use Rattle.draw.proofs.draw.Goals as goal

-- the test of the room was passed, whatever it compares
fits : {a b : ℕ} (r : Refusal) {x : Check} → x ≡ expect (leb a b) r (Ok tt) → x ≡ Ok tt → a ≤ b
fits r e w = leb-true _ _ (expect_passed _ _ _ (sym e ∙ w))

pub draw_track-requires : goal.draw_track-requires
draw_track-requires c =
    let q = ap (λ (k : ClassCount). k.count.0) c.order_class_count-found.ensures in
    let room = fits _ c.ensure.ensures c.in_ok-ensure.was in
    roomy {p = c.args.o.panel} (good_order _ _ _ (sym c.check.ensures ∙ c.in_ok-check.was)) (omega arith)

pub returns : goal.returns
returns c =
    let e = sym c.check.ensures ∙ c.in_ok-check.was in
    let good = good_order _ _ _ e in
    let q = ap (λ (k : ClassCount). k.count.0) c.order_class_count-found.ensures in
    let room = fits _ c.ensure.ensures c.in_ok-ensure.was in
    let both = draws (enough _ _ _ _ e q (omega (arith, room))) q good.entry good.exit c.draw_track.ensures in
    record { draws = both.0; cells = both.1 }

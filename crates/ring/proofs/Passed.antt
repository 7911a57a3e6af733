-- What a panel and a buffer that pass Ring's checks are known to be.
use Rattle.std.specs.Prelude.{Ok}
use Prim.Native.Nat.{ℕ, ◌*◌, ◌≤◌}
use mathlib.Core.Path.{◌≡◌}
use lib.Dec.{leb}
use borrow.Author.Tests.{leb-true}
use Rattle.grid.specs.Panel.{GoodSides}
use Rattle.grid.specs.declared.Panel.{Panel}
use Rattle.grid.specs.declared.Refusal.TheVariants.{OneWide, ShortBuffer}
use Rattle.grid.specs.Check.{expect, check_panel}
use Rattle.grid.proofs.Facts.{and_parts}
use Rattle.grid.proofs.Passed.{expect_passed, expect_rest, after_passed, after_rest, good_panel_lem}
use Rattle.ring.specs.Ring.{two_wide, ring_count, ring_check}

pub record Passed (p : Panel) (size : ℕ) : Type 0 where
  pub sides : GoodSides p
  pub wide : 2 ≤ p.width
  pub high : 2 ≤ p.height
  pub room : 2 * ring_count p ≤ size

pub passed : (p : Panel) (size : ℕ) → ring_check p size ≡ Ok tt → Passed p size
passed p size e =
    let fits = leb (2 * ring_count p) size in
    let short = expect fits ShortBuffer (Ok tt) in
    let thin = expect (two_wide p) OneWide short in
    let rest = after_rest (check_panel p) thin e in
    let two = and_parts (leb 2 p.width) (leb 2 p.height) (expect_passed (two_wide p) OneWide short rest) in
    record {
      sides = (good_panel_lem p (after_passed (check_panel p) thin e)).sides;
      wide = leb-true 2 p.width two.0;
      high = leb-true 2 p.height two.1;
      room = leb-true (2 * ring_count p) size (expect_passed fits ShortBuffer (Ok tt) (expect_rest (two_wide p) OneWide short rest));
    }

-- R-7 for the C calls: on a panel whose sides are at most 32 the bench's number is the large call's, and so is what it leaves.
use Prim.Native.Nat.{ℕ, ◌≤◌}
use mathlib.Core.Path.{◌≡◌, sym, ap, ◌∙◌}
use mathlib.Core.List.{List}
use lib.ListN.{length}
use Rattle.grid.specs.declared.Panel.{Panel}
use Rattle.grid.specs.declared.Cell.{Cell}
use Rattle.grid.specs.Check.{Check}
use Rattle.grid.specs.Bytes.{cells_in}
use Rattle.count.specs.Order.{order_class, order_count}
use Rattle.bench.specs.Bench.{bench_side}
use Rattle.bench.proofs.Same.{order_same, draw_check_same, buffer_same, judge_check_same, scratch_same}
use Rattle.host.specs.Host.{packed_behind, PacksBound, PacksDraw, PacksJudge, PacksBenchBound, PacksBenchDraw, PacksBenchJudge}

module _ (p : Panel) (w : p.width ≤ bench_side) (h : p.height ≤ bench_side) (s t : Cell) where
  -- two packed numbers behind equal checks
  packed_same : {c d : Check} (class count : ℕ) {r r' : ℕ} → c ≡ d → r ≡ packed_behind c class count → r' ≡ packed_behind d class count → r ≡ r'
  packed_same class count e f g = f ∙ ap (λ (c : Check). packed_behind c class count) e ∙ sym g

  pub foil_bound_same : {r r' : ℕ} → PacksBenchBound p s t r → PacksBound p s t r' → r ≡ r'
  foil_bound_same b b' = packed_same (order_class p s t) (order_count p s t) (order_same p w h s t) b.packs b'.packs

  pub foil_draw_same : {old new new' : List ℕ} {r r' : ℕ} → PacksBenchDraw p s t old new r → PacksDraw p s t old new' r' → (r ≡ r') × (new ≡ new')
  foil_draw_same {old} d d' = (
    packed_same 0 (order_count p s t) (draw_check_same p w h s t (length old)) d.packs d'.packs,
    d.cells ∙ buffer_same p w h s t old ∙ sym d'.cells,
  )

  pub foil_judge_same : {list old new new' : List ℕ} {r r' : ℕ}
      → PacksBenchJudge p s t list old new r → PacksJudge p s t list old new' r' → (r ≡ r') × (new ≡ new')
  foil_judge_same {list} {old} j j' = (
    packed_same 0 (length (cells_in list)) (judge_check_same p w h s t list (length old)) j.packs j'.packs,
    j.scratch ∙ scratch_same p w h s t list old ∙ sym j'.scratch,
  )

-- The lines of a layer: how each is put together, and how long it is.
use Prim.Native.Nat.{ℕ, suc, ◌-◌, ◌<◌, ◌+◌, ◌*◌, ◌≤◌}
use Prim.Native.Char.{code}
use mathlib.Core.Path.{◌≡◌, refl, sym, ap, ◌∙◌}
use mathlib.Core.Bool.{Bool, true, false}
use mathlib.Core.List.{List, [], ◌∷◌, ◌++◌, map, append_assoc}
use native.Mathlib.Omega.{arith}
use lib.ListN.{length, take, drop, get_or, length-append}
use Rattle.std.proofs.lemmas.List.{at_drop_all, take_all}
use Rattle.grid.specs.declared.Panel.{Panel}
use Rattle.grid.specs.declared.Cell.{Cell}
use Rattle.grid.specs.Panel.{on_panel, GoodPanel, OnPanel}
use Rattle.grid.proofs.Facts.{on, and_left, and_parts}
use Rattle.grid.specs.Bytes.{cell_of}
use Rattle.grid.proofs.Lists.{drop_next}
use Rattle.grid.proofs.Tests.{cond_yes, cond_no}
use Rattle.list.specs.List.{all_on}
use Rattle.text.specs.Decimal.{decimal}
use Rattle.text.specs.Field.{field_of}
use Rattle.text.proofs.Puts.{field_and, field_length}
use Rattle.gerber.specs.Layer.{plot_x, plot_y, flash, move, draw, line_to, end_line, straight, turns_from, draw_lines, lines_of}
use Rattle.gerber.proofs.Plots.{plot_x_small, plot_y_small}

-- ---- one line

-- a number told otherwise, the byte behind it and the rest
pub field_is : {n m : ℕ} (e : ℕ) (rest : List ℕ) → n ≡ m → field_of n e [] ++ rest ≡ field_of m e rest
field_is {n} e rest q = field_and n e rest ∙ ap (λ (k : ℕ). field_of k e rest) q

module _ (p : Panel) (operation : List ℕ) (c : Cell) where
  -- a line, and what follows it
  pub line_and : (rest : List ℕ) → line_to p operation c [] ++ rest ≡ line_to p operation c rest
  line_and rest = simp append_assoc

  -- its bytes: X, Y and D, the digits of two numbers, and the operation
  pub line_length : length (line_to p operation c [])
      ≡ 3 + length operation + length (decimal (plot_x p c)) + length (decimal (plot_y p c))
  line_length = simp length-append (omega arith)

  -- at most 27 with an operation of four bytes
  pub line_small : GoodPanel p → OnPanel p c → length (line_to p operation c []) ≤ 23 + length operation
  line_small g o =
      let y = field_of (plot_y p c) (code "D") (operation ++ []) in
      omega (
        arith,
        field_length (plot_x p c) (code "Y") y (omega (arith, plot_x_small g o)),
        field_length (plot_y p c) (code "D") (operation ++ []) (omega (arith, plot_y_small g o)),
        length-append operation [],
      )

-- with as many bytes behind its D a line is as long: where there is room for the one, there is for the other
pub as_long : (p : Panel) (c : Cell) (u v : List ℕ) → length u ≡ length v → length (line_to p [] c u) ≡ length (line_to p [] c v)
as_long p c u v e =
    let front = line_to p [] c [] in
    omega (arith, ap length (line_and p [] c u), length-append front u, ap length (line_and p [] c v), length-append front v)

-- ---- the draws

-- from a over b to c: the draw to b, and the draws from b on; or these alone
module _ (p : Panel) (a b c : Cell) (l : List Cell) where
  pub draws_turn : straight a b c ≡ false
      → line_to p draw b [] ++ draw_lines p (turns_from b c l) ≡ draw_lines p (turns_from a b (c ∷ l))
  draws_turn e = line_and p draw b (draw_lines p (turns_from b c l)) ∙ ap (draw_lines p) (cond_no _ _ e refl)

  pub draws_stay : straight a b c ≡ true → draw_lines p (turns_from a b (c ∷ l)) ≡ draw_lines p (turns_from b c l)
  draws_stay e = ap (draw_lines p) (sym (cond_yes _ _ e refl))

-- the same of the cells r that a walk has still to go over: c and those behind it
module _ (p : Panel) (a b : Cell) {c : Cell} {r l : List Cell} (next : r ≡ c ∷ l) where
  pub walk_turn : straight a b c ≡ false → line_to p draw b [] ++ draw_lines p (turns_from b c l) ≡ draw_lines p (turns_from a b r)
  walk_turn e = draws_turn p a b c l e ∙ ap (λ (k : List Cell). draw_lines p (turns_from a b k)) (sym next)

  pub walk_stay : straight a b c ≡ true → draw_lines p (turns_from a b r) ≡ draw_lines p (turns_from b c l)
  walk_stay e = ap (λ (k : List Cell). draw_lines p (turns_from a b k)) next ∙ draws_stay p a b c l e

-- ---- the cells in pairs of bytes

-- those from number i on
pub cells_from : (b : List (List ℕ)) (i : ℕ) {c : Cell} → i < length b → c ≡ cell_of (get_or b i []) → map cell_of (drop i b) ≡ c ∷ map cell_of (drop (i + 1) b)
cells_from b i h e = ap (map cell_of) (drop_next [] b i h) ∙ ap (λ (d : Cell). d ∷ map cell_of (drop (i + 1) b)) (sym e)

two : (b : List (List ℕ)) → 2 ≤ length b → b ≡ get_or b 0 [] ∷ get_or b 1 [] ∷ take (length b - 2) (drop 2 b)
two [] h = absurd (omega arith)
two (x ∷ []) h = absurd (omega arith)
two (x ∷ y ∷ l) h = ap (λ (k : List (List ℕ)). x ∷ y ∷ k) (sym (take_all (length (x ∷ y ∷ l) - 2) l (omega arith)))

-- behind the last of them: the last draw, and the last line
pub draws_end : (p : Panel) (a b : Cell) (r : List (List ℕ)) (i : ℕ) → length r ≤ i
    → draw_lines p (turns_from a b (map cell_of (drop i r))) ≡ line_to p draw b end_line
draws_end p a b = at_drop_all (λ (k : List (List ℕ)). draw_lines p (turns_from a b (map cell_of k)))

-- one has a flash
pub lines_one : (p : Panel) (b : List (List ℕ)) {s : Cell} → 1 ≤ length b → length b < 2 → s ≡ cell_of (get_or b 0 [])
    → line_to p flash s end_line ≡ lines_of p (map cell_of b)
lines_one p [] h g e = absurd (omega arith)
lines_one p (x ∷ []) h g e = ap (λ (s : Cell). line_to p flash s end_line) e
lines_one p (x ∷ y ∷ l) h g e = absurd (omega arith)

-- two or more have a move to the first, and the draws
pub lines_more : (p : Panel) (b : List (List ℕ)) {s d : Cell} → 2 ≤ length b → s ≡ cell_of (get_or b 0 []) → d ≡ cell_of (get_or b 1 [])
    → line_to p move s [] ++ draw_lines p (turns_from s d (map cell_of (take (length b - 2) (drop 2 b)))) ≡ lines_of p (map cell_of b)
lines_more p b {s} {d} h e f =
    let rest = map cell_of (take (length b - 2) (drop 2 b)) in
    line_and p move s (draw_lines p (turns_from s d rest))
    ∙ (λ i. lines_of p (e i ∷ f i ∷ rest))
    ∙ ap (λ (k : List (List ℕ)). lines_of p (map cell_of k)) (sym (two b h))

-- ---- how long the draws are

-- a draw for each cell at most, and the last line
pub draws_small : (p : Panel) → GoodPanel p → (a b : Cell) (l : List Cell) → all_on p (b ∷ l) ≡ true
    → length (draw_lines p (turns_from a b l)) ≤ 32 + 27 * length l
draws_small p g a b [] e =
    let o = on p b (and_left (on_panel p b) true e) in
    omega (arith, line_small p draw b g o, ap length (line_and p draw b end_line), length-append (line_to p draw b []) end_line)
draws_small p g a b (c ∷ l) e =
    let (here, behind) = and_parts (on_panel p b) (all_on p (c ∷ l)) e in
    go (straight a b c) refl (line_small p draw b g (on p b here)) (draws_small p g b c l behind)
  where
    go : (t : Bool) → straight a b c ≡ t → length (line_to p draw b []) ≤ 27 → length (draw_lines p (turns_from b c l)) ≤ 32 + 27 * length l
        → length (draw_lines p (turns_from a b (c ∷ l))) ≤ 32 + 27 * suc (length l)
    go true q line behind = omega (arith, ap length (draws_stay p a b c l q))
    go false q line behind =
        omega (arith, ap length (draws_turn p a b c l q), length-append (line_to p draw b []) (draw_lines p (turns_from b c l)))

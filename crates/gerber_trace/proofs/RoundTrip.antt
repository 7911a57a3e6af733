-- What is written is read back cell by cell: at each cell the goal is the next cell that is drawn to, and the bytes behind its line draw to
-- the later ones (`reads_behind_cell`). What is read so is written so (`cells_read_lem`). So the reading takes exactly the layers of good lists,
-- those of one cell, which have a flash, and the others, and gives each its list (`traced_back`, `traced_is`).
use Prim.Native.Nat.{ℕ, zero, suc, ◌≤◌, ◌<◌}
use mathlib.Core.Path.{◌≡◌, refl, sym, ap, subst, subst₃, ◌∙◌}
use mathlib.Core.Bool.{Bool, true, false, true≢false}
use mathlib.Core.List.{List, [], ◌∷◌, ◌++◌}
use native.Mathlib.Nat.{mul-le-mul}
use native.Mathlib.Omega.{arith}
use lib.ListN.{length, drop, drop_of_length-le}
use lib.Dec.{leb, eqb}
use borrow.Author.Tests.{leb-true, le-leb, eqb-true}
use Rattle.grid.specs.declared.Panel.{Panel}
use Rattle.grid.specs.declared.Cell.{Cell}
use Rattle.grid.specs.Panel.{GoodPanel, OnPanel, Neighbours, good_panel, area, on_panel, same_cell, neighbours}
use Rattle.grid.proofs.Facts.{clash, and_left, and_parts, and_both, good, on, beside_is, next, is_next, eq_same, same_eq, ne_same}
use Rattle.grid.proofs.Tests.{both_branches, cond_yes, cond_no}
use Rattle.list.specs.List.{all_on, steps_from}
use Rattle.list.proofs.Checks.{GoodList}
use Rattle.text.specs.Front.{begins}
use Rattle.text.proofs.Fronts.{front_is, reads_behind, goes_behind}
use Rattle.gerber.specs.Layer.{head_of, flash, move, draw, line_to, end_line, straight, turns_from, draw_lines, layer_of}
use Rattle.gerber_trace.specs.Trace.{Aim, line_at, Next, is_end, ahead, towards, on_to, aimed, next_of}
use Rattle.gerber_trace.specs.Trace.{Found, in_front, follow, cells_behind, cells_from, several, first_at, cells_of, traced}
use Rattle.gerber_trace.specs.Trace.Aim.{nothing, cell_and}
use Rattle.gerber_trace.specs.Trace.Next.{other, end, to}
use Rattle.gerber_trace.specs.Trace.Found.{none, cells}
use Rattle.gerber_trace.proofs.Lines.{reads_line, move_no_flash, line_read}
use Rattle.gerber_trace.proofs.Turns.{middle, straight_ahead, ahead_straight, ahead_beside, towards_beside}
use Rattle.gerber_trace.proofs.Turns.{goal, later, turns_split, goal_apart, towards_goal}

-- ---- what is written is read

goal_on : (p : Panel) (b c : Cell) (l : List Cell) → on_panel p c ≡ true → all_on p l ≡ true → on_panel p (goal b c l) ≡ true
goal_on p b c [] h e = h
goal_on p b c (d ∷ l) h e =
    let (f, r) = and_parts (on_panel p d) (all_on p l) e in
    both_branches (λ (g : Cell). on_panel p g ≡ true) (straight b c d) (goal c d l) c (λ q. goal_on p c d l f r) (λ q. h)

module _ {p : Panel} (good : GoodPanel p) where
  -- from b on to c and the rest of a list
  module _ (a b c : Cell) (l : List Cell) (n : Neighbours b c) (o : on_panel p c ≡ true) (e : all_on p l ≡ true) where
    abbrev g : Cell
    g = goal b c l

    abbrev r : List ℕ
    r = draw_lines p (later b c l)

    onto : {d : Cell} → d ≡ c → to b c g r ≡ on_to p b d g r
    onto i = cond_yes _ _ (ap (on_panel p) i ∙ o) (ap (λ (d : Cell). to b d g r) (sym i))

    -- by the next line
    by_line : straight a b c ≡ false → to b c g r ≡ aimed p a b (line_at p draw (line_to p draw g r))
    by_line q =
        let t = towards_goal n l in
        cond_no _ _ (ap (straight a b) t ∙ q) (onto t) ∙ ap (aimed p a b) (reads_line good (on p g (goal_on p b c l o e)) draw r)

    -- straight on, or by the next line
    reads_next_cell : to b c g r ≡ next_of p a b (goal a b (c ∷ l)) (draw_lines p (later a b (c ∷ l)))
    reads_next_cell = go (straight a b c) refl
      where
        go : (t : Bool) → straight a b c ≡ t → to b c g r ≡ next_of p a b (goal a b (c ∷ l)) (draw_lines p (later a b (c ∷ l)))
        go true q =
            cond_no _ _ (ne_same b g (goal_apart n l)) (onto (straight_ahead a b c q))
            ∙ (λ i. next_of p a b (cond_yes g b q refl i) (draw_lines p (cond_yes (later b c l) (g ∷ later b c l) q refl i)))
        go false q =
            cond_yes _ _ (eq_same {a = b} refl) (by_line q)
            ∙ (λ i. next_of p a b (cond_no g b q refl i) (draw_lines p (cond_no (later b c l) (g ∷ later b c l) q refl i)))

  reads_behind_cell : (k : ℕ) (a b : Cell) (l : List Cell) → steps_from b l ≡ true → all_on p l ≡ true → length l < k
      → cells l ≡ cells_behind p k a b (goal a b l) (draw_lines p (later a b l))
  reads_behind_cell zero a b l s e h = absurd (omega arith)
  reads_behind_cell (suc k) a b [] s e h = ap (λ (n : Next). follow n (cells_behind p k)) (cond_yes _ _ (eq_same {a = b} refl) refl)
  reads_behind_cell (suc k) a b (c ∷ l) s e h =
      let (step, steps) = and_parts (neighbours b c) (steps_from c l) s in
      let (o, os) = and_parts (on_panel p c) (all_on p l) e in
      ap (in_front c) (reads_behind_cell k b c l steps os (omega arith))
      ∙ ap (λ (n : Next). follow n (cells_behind p k)) (reads_next_cell a b c l (next step) o os)

-- ---- what is read is written so

end_read : (r : List ℕ) → is_end r ≡ true → r ≡ end_line
end_read r e =
    let (front, size) = and_parts (begins end_line r) (eqb (length r) (length end_line)) e in
    let five : length r ≤ length end_line = omega (arith, eqb-true (length r) 5 size) in
    front_is end_line r front ∙ ap (λ (k : List ℕ). end_line ++ k) (drop_of_length-le r five)

-- the goal and the bytes behind its line are those of the cells l behind b, coming from a
record Behind (p : Panel) (k : ℕ) (a b g : Cell) (r : List ℕ) (l : List Cell) : Type 0 where
  goes : g ≡ goal a b l
  rest : r ≡ draw_lines p (later a b l)
  steps : steps_from b l ≡ true
  on : all_on p l ≡ true
  few : length l < k

module _ (p : Panel) (a b : Cell) where
  -- what was found behind the next cell c, on the way to h with the bytes q behind its line, and what c adds to it
  module _ (k : ℕ) (c h : Cell) (q : List ℕ) (l : List Cell) (f : Behind p k b c h q l) (o : on_panel p c ≡ true) (n : Neighbours b c) where
    -- straight on
    one_ahead : straight a b c ≡ true → Behind p (suc k) a b h q (c ∷ l)
    one_ahead s = record {
      goes = f.goes ∙ cond_yes _ _ s refl;
      rest = f.rest ∙ ap (draw_lines p) (cond_yes _ _ s refl);
      steps = and_both (is_next n) f.steps;
      on = and_both o f.on;
      few = omega (arith, f.few);
    }

    -- by a line to h
    one_turned : straight a b c ≡ false → Behind p (suc k) a b b (line_to p draw h q) (c ∷ l)
    one_turned s = record {
      goes = cond_no _ _ s refl;
      rest = (λ i. line_to p draw (f.goes i) (f.rest i)) ∙ ap (draw_lines p) (cond_no (later b c l) (goal b c l ∷ later b c l) s refl);
      steps = and_both (is_next n) f.steps;
      on = and_both o f.on;
      few = omega (arith, f.few);
    }

-- the ways on from b: none, the end at the goal, straight on before it, and by a line in another direction at it
data Way (p : Panel) (a b g : Cell) (r : List ℕ) : Next → Type 0 where
  lost : Way p a b g r other
  ended : b ≡ g → r ≡ end_line → Way p a b g r end
  straight_on : same_cell b g ≡ false → on_panel p (ahead a b) ≡ true → Way p a b g r (to b (ahead a b) g r)
  turned : {h : Cell} {q : List ℕ} → b ≡ g → r ≡ line_to p draw h q → on_panel p (towards b h) ≡ true → straight a b (towards b h) ≡ false
      → Way p a b g r (to b (towards b h) h q)

module _ (p : Panel) (a b g : Cell) (r : List ℕ) where
  abbrev W : Next → Type 0
  W n = Way p a b g r n

  by_aim : b ≡ g → (t : Aim) → line_at p draw r ≡ t → W (aimed p a b t)
  by_aim s nothing e = lost
  by_aim s (cell_and h q) e =
      both_branches W (straight a b (towards b h)) other _ (λ t. lost) (λ t.
      both_branches W (on_panel p (towards b h)) _ other (λ o. turned s (line_read p h q draw r e).0 o t) (λ o. lost))

  way_on : W (next_of p a b g r)
  way_on =
      both_branches W (same_cell b g) _ _
      (λ s. both_branches W (is_end r) end _ (λ e. ended (same_eq b g s) (end_read r e)) (λ e. by_aim (same_eq b g s) (line_at p draw r) refl))
      (λ s. both_branches W (on_panel p (ahead a b)) _ other (λ o. straight_on s o) (λ o. lost))

-- the next cell is on the panel
pub next_on : (p : Panel) (a b g : Cell) (r : List ℕ) {d c h : Cell} {q : List ℕ} → next_of p a b g r ≡ to d c h q → on_panel p c ≡ true
next_on p a b g r {d} {c} {h} {q} e = go (next_of p a b g r) (way_on p a b g r) e
  where
    go : (n : Next) → Way p a b g r n → n ≡ to d c h q → on_panel p c ≡ true
    go other lost e = clash (cc)
    go end (ended s t) e = clash (cc)
    go (to _ k _ _) (straight_on s o) e = let is : k ≡ c = cc in sym (ap (on_panel p) is) ∙ o
    go (to _ k _ _) (turned s t o v) e = let is : k ≡ c = cc in sym (ap (on_panel p) is) ∙ o

-- what is found in front of other cells was found of these
pub front_found : (c : Cell) (f : Found) {l : List Cell} → in_front c f ≡ cells l → (k : List Cell) × (f ≡ cells k) × (c ∷ k ≡ l)
front_found c none e = clash (cc)
front_found c (cells k) e = (k, refl, cc)

cells_read_lem : (p : Panel) (k : ℕ) (a b g : Cell) (r : List ℕ) (l : List Cell) → (same_cell b g ≡ false → Neighbours a b)
    → cells_behind p k a b g r ≡ cells l → Behind p k a b g r l
cells_read_lem p zero a b g r l n e = clash (cc)
cells_read_lem p (suc k) a b g r l n e = go (next_of p a b g r) (way_on p a b g r) e (cells_read_lem p k)
  where
    go : (t : Next) → Way p a b g r t → follow t (cells_behind p k) ≡ cells l
        → ((a b g : Cell) (r : List ℕ) (l : List Cell) → (same_cell b g ≡ false → Neighbours a b)
        → cells_behind p k a b g r ≡ cells l → Behind p k a b g r l)
        → Behind p (suc k) a b g r l
    go other lost q f = clash (cc)
    go end (ended s t) q f =
        let none : [] ≡ l = cc in
        subst (Behind p (suc k) a b g r) none record { goes = sym s; rest = t; steps = refl; on = refl; few = omega arith }
    go (to d c h z) (straight_on s o) q f =
        let (m, found, is) = front_found (ahead a b) (cells_behind p k b (ahead a b) g r) q in
        let beside = ahead_beside a b (on p (ahead a b) o) (n s) in
        let behind = f b (ahead a b) g r m (λ w. beside) found in
        subst (Behind p (suc k) a b g r) is (one_ahead p a b k (ahead a b) g r m behind o beside (ahead_straight a b (on p (ahead a b) o)))
    go (to d c h z) (turned s t o v) q f =
        let (m, found, is) = front_found (towards b h) (cells_behind p k b (towards b h) h z) q in
        let beside = towards_beside b h (on p (towards b h) o) in
        let behind = f b (towards b h) h z m (λ w. beside) found in
        subst₃ (Behind p (suc k) a b) s (sym t) is (one_turned p a b k (towards b h) h z m behind o beside v)

-- ---- whole layers

-- from the first cell every direction is another one
first_turn : (s b : Cell) → Neighbours s b → straight s s b ≡ false
first_turn s b n = go (straight s s b) refl
  where
    go : (t : Bool) → straight s s b ≡ t → t ≡ false
    go true e = let m = middle s s b e in absurd (omega (arith, beside_is n))
    go false e = refl

-- so the first cell is the first goal, and the later ones are those that are drawn to
module _ (s b : Cell) (l : List Cell) (n : Neighbours s b) where
  first_goal : s ≡ goal s s (b ∷ l)
  first_goal = cond_no _ _ (first_turn s b n) refl

  first_later : turns_from s b l ≡ later s s (b ∷ l)
  first_later = turns_split s b l ∙ cond_no (later s b l) _ (first_turn s b n) refl

-- a line behind the head is read, and a move there is no flash
module _ (p : Panel) {s : Cell} (r : List ℕ) where
  reads_first : (operation : List ℕ) → GoodPanel p → OnPanel p s → cell_and s r ≡ first_at p operation (head_of p ++ line_to p operation s r)
  reads_first operation g o = reads_behind nothing (line_at p operation) (head_of p) (line_to p operation s r) (reads_line g o operation r)

  first_no_flash : GoodPanel p → OnPanel p s → nothing ≡ first_at p flash (head_of p ++ line_to p move s r)
  first_no_flash g o = reads_behind nothing (line_at p flash) (head_of p) (line_to p move s r) (move_no_flash g o r)

-- what is found, if it is two cells or more
pub several_is : (l : List Cell) → 2 ≤ length l → cells l ≡ several (cells l)
several_is l h = cond_yes _ _ (le-leb 2 (length l) h) refl

pub traced_back : (p : Panel) (l : List Cell) → GoodList p l → cells l ≡ traced p (layer_of p l)
traced_back p [] g = let none : 1 ≤ 0 = g.some in absurd (omega arith)
traced_back p (s ∷ []) g =
    let o = and_left (on_panel p s) true g.on in
    ap (λ (t : Aim). cells_of p t (first_at p move (layer_of p (s ∷ [])))) (reads_first p end_line flash (good p g.panel) (on p s o))
traced_back p (s ∷ b ∷ l) g =
    let panel = good p g.panel in
    let rest = draw_lines p (turns_from s b l) in
    let (o, os) = and_parts (on_panel p s) (all_on p (b ∷ l)) g.on in
    let n = next (and_parts (neighbours s b) (steps_from b l) g.next).0 in
    let few : length (b ∷ l) < area p = g.few in
    several_is (s ∷ b ∷ l) (omega arith)
    ∙ ap (λ (f : Found). several (in_front s f))
    (reads_behind_cell panel (area p) s s (b ∷ l) g.next os few
    ∙ (λ i. cells_behind p (area p) s s (sym (first_goal s b l n) i) (draw_lines p (sym (first_later s b l n) i))))
    ∙ (λ i. cells_of p (first_no_flash p rest panel (on p s o) i) (reads_first p rest move panel (on p s o) i))

-- ---- and back

-- the first cell, the bytes behind its line, and the cells that were found behind it
from_move : (p : Panel) (t : Aim) (l : List Cell) → cells_from p t ≡ cells l
    → (s : Cell) × (r : List ℕ) × (k : List Cell) × (t ≡ cell_and s r) × (cells_behind p (area p) s s s r ≡ cells k) × (s ∷ k ≡ l)
from_move p nothing l e = clash (cc)
from_move p (cell_and s r) l e =
    let (k, found, is) = front_found s (cells_behind p (area p) s s s r) e in
    (s, r, k, refl, found, is)

-- two cells or more, and the same were found
several_found : (f : Found) (l : List Cell) → several f ≡ cells l → (f ≡ cells l) × (2 ≤ length l)
several_found none l e = clash (cc)
several_found (cells k) l e =
    both_branches (λ (f : Found). f ≡ cells l → (cells k ≡ cells l) × (2 ≤ length l)) (leb 2 (length k)) (cells k) none
    (λ t q. let is : k ≡ l = cc in (q, omega (arith, leb-true 2 (length k) t, ap length is))) (λ t q. clash (cc)) e

-- the head, and the line to the first cell, which is on the panel
pub first_read : (p : Panel) (operation file : List ℕ) (s : Cell) (r : List ℕ) → first_at p operation file ≡ cell_and s r
    → (file ≡ head_of p ++ line_to p operation s r) × (on_panel p s ≡ true)
first_read p operation file s r e =
    let (head, line) = goes_behind nothing (line_at p operation) (head_of p) file (λ q. clash (cc)) e in
    let (is, o) = line_read p s r operation (drop (length (head_of p)) file) line in
    (head ∙ ap (λ (k : List ℕ). head_of p ++ k) is, o)

module _ (p : Panel) (panel : good_panel p ≡ true) (file : List ℕ) where
  -- a good list, whose layer the file is
  abbrev Is : List Cell → Type 0
  Is l = GoodList p l × (layer_of p l ≡ file)

  -- a first cell that is the only one
  one_cell : (s : Cell) (r : List ℕ) → first_at p flash file ≡ cell_and s r → is_end r ≡ true → Is (s ∷ [])
  one_cell s r e q =
      let (line, o) = first_read p flash file s r e in
      let g = (good p panel).sides in (
        record { panel = panel; on = and_both o refl; next = refl; some = omega arith; few = mul-le-mul {n₁ = 1} {m₁ = 1} g.wide g.high },
        sym (line ∙ ap (λ (k : List ℕ). head_of p ++ line_to p flash s k) (end_read r q)),
      )

  -- a first cell, and one or more behind it
  some_cells : (s : Cell) (r : List ℕ) (k : List Cell) → 1 ≤ length k → first_at p move file ≡ cell_and s r → Behind p (area p) s s s r k
      → Is (s ∷ k)
  some_cells s r [] h e f = absurd (omega arith)
  some_cells s r (b ∷ l) h e f =
      let n = next (and_parts (neighbours s b) (steps_from b l) f.steps).0 in
      let (line, o) = first_read p move file s r e in
      let rest : r ≡ draw_lines p (turns_from s b l) = f.rest ∙ ap (draw_lines p) (sym (first_later s b l n)) in (
        record { panel = panel; on = and_both o f.on; next = f.steps; some = omega arith; few = f.few },
        sym (line ∙ ap (λ (k : List ℕ). head_of p ++ line_to p move s k) rest),
      )

  by_move : (l : List Cell) → several (cells_from p (first_at p move file)) ≡ cells l → Is l
  by_move l e =
      let (all, two) = several_found (cells_from p (first_at p move file)) l e in
      let (s, r, k, line, found, is) = from_move p (first_at p move file) l all in
      let behind = cells_read_lem p (area p) s s s r k (λ q. absurd (true≢false (sym (eq_same {a = s} refl) ∙ q))) found in
      subst Is is (some_cells s r k (omega (arith, ap length is, two)) line behind)

  pub traced_is : (l : List Cell) → traced p file ≡ cells l → GoodList p l × (layer_of p l ≡ file)
  traced_is l e = go (first_at p flash file) refl e
    where
      go : (t : Aim) → first_at p flash file ≡ t → cells_of p t (first_at p move file) ≡ cells l → Is l
      go nothing f q = by_move l q
      go (cell_and s r) f q =
          both_branches (λ (d : Found). d ≡ cells l → Is l) (is_end r) (cells (s ∷ [])) none
          (λ t u. let is : s ∷ [] ≡ l = cc in subst Is is (one_cell s r f t)) (λ t u. clash (cc)) q

-- What is in the buffer once an edit is made: the cells behind the place moved, and what is behind the new list cleared.
use Prim.Native.Nat.{ℕ, ◌+◌, ◌-◌, ◌*◌, ◌≤◌}
use native.Mathlib.Omega.{arith}
use mathlib.Core.Path.{◌≡◌, sym, ap, ◌∙◌}
use mathlib.Core.Bool.{true, not}
use mathlib.Core.List.{List, [], ◌∷◌, ◌++◌}
use lib.ListN.{length, take, drop, replicate, length-drop}
use lib.Seq.{paste, length-paste}
use Rattle.grid.specs.declared.Panel.{Panel}
use Rattle.grid.specs.declared.Cell.{Cell}
use Rattle.grid.specs.Panel.{max_side, good_sides, on_panel}
use Rattle.grid.specs.Bytes.{bytes, front}
use Rattle.grid.proofs.Facts.{and_left, sides, on}
use Rattle.list.specs.List.{among}
use Rattle.detour.specs.declared.Kind.{Kind}
use Rattle.detour.specs.declared.Kind.TheVariants.{Bulge, Press}
use Rattle.detour.specs.declared.Edit.{Edit}
use Rattle.detour.specs.Detour.{cell_no, cell_beside, is_free, can_bulge, is_detour, bulged, pressed, edited, can_edit, with_zeros, of_kind}
use Rattle.detour.proofs.Facts.{CanBulge, IsDetour, bulge, press}
use Rattle.detour.proofs.Lists.{bulged_length, pressed_length}
use Rattle.edit_list.proofs.Cuts.{length_front, opened_cells, closed_cells}

-- a cell goes into two bytes
abbrev pub Small : Cell → Type 0
Small c = (c.x ≤ max_side) × (c.y ≤ max_side)

small : (p : Panel) (l : List Cell) (c : Cell) → good_sides p ≡ true → is_free p l c ≡ true → Small c
small p l c good free =
    let s = sides p good in
    let o = on p c (and_left (on_panel p c) (not (among c l)) free) in
    (omega arith, omega arith)

-- a list in front of a buffer, and zeros behind it
zeros_behind : (l : List Cell) (k : ℕ) (b m : List ℕ) {last : List ℕ} → length m ≡ length b → take (2 * k) m ≡ bytes l → k ≡ length l
    → last ≡ take (2 * k) m ++ replicate (length m - 2 * k) 0 → last ≡ with_zeros l (length b)
zeros_behind l k b m size e count is = is ∙ (λ i. e i ++ replicate (size i - 2 * count i) 0)

-- an edit e of the first n cells of a buffer, which can be made
module _ (b : List ℕ) (n : ℕ) (e : Edit) (held : 2 * n ≤ length b) (p : Panel) (can : can_edit p e (front n b) ≡ true) where
  abbrev l : List Cell
  l = front n b

  abbrev k : ℕ
  k = e.place

  edited_by : {m : Kind} → e.kind ≡ m → edited e l ≡ of_kind m (bulged e.side k l) (pressed k l)
  edited_by is = ap (λ (m : Kind). of_kind m (bulged e.side k l) (pressed k l)) is

  tested_by : {m : Kind} → e.kind ≡ m → of_kind m (can_bulge p e.side k l) (is_detour e.side k l) ≡ true
  tested_by is = ap (λ (m : Kind). of_kind m (can_bulge p e.side k l) (is_detour e.side k l)) (sym is) ∙ can

  -- ---- a bulge

  module _ (is : e.kind ≡ Bulge) where
    step : CanBulge p e.side k l
    step = bulge p e.side k l (tested_by is)

    pub step_within : k + 1 ≤ n
    step_within = omega (arith, step.high, length_front b n held)

    abbrev first : Cell
    first = cell_beside e.side (cell_no l k) (cell_no l (k + 1)) (cell_no l k)

    abbrev second : Cell
    second = cell_beside e.side (cell_no l k) (cell_no l (k + 1)) (cell_no l (k + 1))

    pub first_small : good_sides p ≡ true → Small first
    first_small good = small p l first good step.first

    pub second_small : good_sides p ≡ true → Small second
    second_small good = small p l second good step.second

    pub count_bulged : n + 2 ≡ length (edited e l)
    count_bulged = omega (arith, bulged_length step, length_front b n held, ap length (edited_by is))

    pub bulge_made : 2 * (n + 2) ≤ length b → {slid put last : List ℕ} → slid ≡ paste b (2 * k + 4) (drop (2 * k) b) (2 * n - 2 * k)
        → put ≡ paste slid (2 * k) (bytes (first ∷ second ∷ [])) 4
        → last ≡ take (2 * (n + 2)) put ++ replicate (length put - 2 * (n + 2)) 0
        → last ≡ with_zeros (edited e l) (length b)
    bulge_made room {slid} {put} f g h =
        let within : k ≤ n = omega (arith, step_within) in
        let slid_size : length slid ≡ length b =
        ap length f ∙ length-paste b (2 * k + 4) (drop (2 * k) b) (2 * n - 2 * k) (omega arith) (omega (arith, length-drop (2 * k) b)) in
        let put_size : length put ≡ length b =
        ap length g ∙ length-paste slid (2 * k) (bytes (first ∷ second ∷ [])) 4 (omega (arith, slid_size)) (omega arith) ∙ slid_size in
        let cells = g ∙ ap (λ (m : List ℕ). paste m (2 * k) (bytes (first ∷ second ∷ [])) 4) f in
        zeros_behind (edited e l) (n + 2) b put put_size
        (ap (take (2 * (n + 2))) cells ∙ opened_cells b n held room k within first second ∙ ap bytes (sym (edited_by is))) count_bulged h

  -- ---- a press

  module _ (is : e.kind ≡ Press) where
    detour : IsDetour e.side k l
    detour = press e.side k l (tested_by is)

    pub detour_within : k + 3 ≤ n
    detour_within = omega (arith, detour.high, length_front b n held)

    count_pressed : n - 2 ≡ length (edited e l)
    count_pressed = omega (arith, pressed_length detour, length_front b n held, ap length (edited_by is))

    pub press_made : {slid last : List ℕ} → slid ≡ paste b (2 * k) (drop (2 * k + 4) b) (2 * n - (2 * k + 4))
        → last ≡ take (2 * (n - 2)) slid ++ replicate (length slid - 2 * (n - 2)) 0
        → last ≡ with_zeros (edited e l) (length b)
    press_made {slid} f g =
        let size : length slid ≡ length b =
        ap length f
        ∙ length-paste b (2 * k) (drop (2 * k + 4) b) (2 * n - (2 * k + 4)) (omega (arith, detour_within))
        (omega (arith, length-drop (2 * k + 4) b, detour_within)) in
        zeros_behind (edited e l) (n - 2) b slid size
        (ap (take (2 * (n - 2))) f ∙ closed_cells b n held k (omega (arith, detour_within)) ∙ ap bytes (sym (edited_by is))) count_pressed g

-- The cells that are found from a trace on, step by step: how many with those before, and which.
use Prim.Native.Nat.{ℕ, zero, suc, ◌+◌, ◌-◌, ◌*◌, ◌≤◌, ◌<◌}
use mathlib.Core.Path.{◌≡◌, refl, sym, ap, subst⁻¹, ◌∙◌}
use mathlib.Core.List.{List, [], ◌∷◌, ◌++◌, append_assoc, append-nil}
use native.Mathlib.Omega.{arith}
use lib.ListN.{length, drop, set, length-append, length-set}
use Rattle.grid.specs.declared.Panel.{Panel}
use Rattle.grid.specs.declared.Cell.{Cell}
use Rattle.grid.specs.Panel.{area, OnPanel}
use Rattle.grid.specs.Bytes.{bytes}
use Rattle.grid.proofs.Bytes.{bytes_append, length_bytes}
use Rattle.grid.proofs.Facts.{clash, on}
use Rattle.list.specs.List.{with_cells}
use Rattle.text.specs.Put.{put, Put}
use Rattle.text.proofs.Puts.{put_one, Parts, room_first, room, puts_both}
use Rattle.gerber_trace.specs.declared.Target.{Target}
use Rattle.gerber_trace.specs.declared.Trace.{Trace}
use Rattle.std.specs.Prelude.{Option, None, Some}
use Rattle.std.specs.Option.{option_flatten}
use Rattle.gerber_trace.specs.Trace.{Next, Found, next_of, step_of, follow, in_front, cells_behind}
use Rattle.gerber_trace.specs.Trace.Found.{none, cells}
use Rattle.gerber_trace.proofs.RoundTrip.{front_found, next_on}
use Rattle.gerber_read.specs.declared.Start.{Start}
use Rattle.gerber_read.specs.Read.{start_at, found_list, found_size, size_of, cells_ahead, led, Starts}

-- the cells behind the one that a trace has come to, in at most k steps
abbrev pub cells_within : Panel → ℕ → List ℕ → Trace → Found
cells_within p k file t = cells_behind p k t.before t.at t.goal (drop t.next file)

-- what is next for a trace
abbrev pub next_for : Panel → List ℕ → Trace → Next
next_for p file t = next_of p t.before t.at t.goal (drop t.next file)

-- ---- a step

module _ (p : Panel) (file : List ℕ) (t : Trace) {m : Option (Option Trace)} (e : step_of file m ≡ next_for p file t) where
  stepped : (k : ℕ) {n : Option (Option Trace)} → m ≡ n → cells_within p (suc k) file t ≡ follow (step_of file n) (cells_behind p k)
  stepped k q = ap (λ (n : Next). follow n (cells_behind p k)) (sym e ∙ ap (step_of file) q)

  pub none_ahead : (k : ℕ) → m ≡ None → cells_within p (suc k) file t ≡ none
  none_ahead k q = stepped k q

  pub end_ahead : (k : ℕ) → m ≡ Some None → cells_within p (suc k) file t ≡ cells []
  end_ahead k q = stepped k q

  pub one_ahead : (k : ℕ) {u : Trace} → m ≡ Some (Some u) → cells_within p (suc k) file t ≡ in_front u.at (cells_within p k file u)
  one_ahead k q = stepped k q

  pub ahead_on : {u : Trace} → m ≡ Some (Some u) → OnPanel p u.at
  ahead_on q = on p _ (next_on p t.before t.at t.goal (drop t.next file) (sym e ∙ ap (step_of file) q))

-- a step that leads on
pub leads_on : (m : Option (Option Trace)) {u : Trace} → option_flatten m ≡ Some u → m ≡ Some (Some u)
leads_on None e = clash (cc)
leads_on (Some o) e = ap Some e

-- ---- how many

-- so many cells and those found; none if none are
abbrev pub size_on : ℕ → Found → Option ℕ
size_on k none = None
size_on k (cells l) = Some (k + length l)

size_front : (c : Cell) (f : Found) → size_on 1 f ≡ size_of (in_front c f)
size_front c none = refl
size_front c (cells l) = let e : 1 + length l ≡ length (c ∷ l) = omega arith in ap Some e

size_next : (k : ℕ) (c : Cell) (f : Found) → size_on (k + 1) f ≡ size_on k (in_front c f)
size_next k c none = refl
size_next k c (cells l) = let e : k + 1 + length l ≡ k + length (c ∷ l) = omega arith in ap Some e

-- those behind the first cell and that one are all cells
pub all_counted : (p : Panel) (file : List ℕ) (first : Target) {t : Trace} {v : Option ℕ} → t ≡ start_at first.cell first.next
    → v ≡ size_on 1 (cells_within p (area p) file t) → v ≡ size_of (led p file first)
all_counted p file first begin e =
    e
    ∙ ap (λ (t : Trace). size_on 1 (cells_within p (area p) file t)) begin
    ∙ size_front first.cell (cells_within p (area p) file (start_at first.cell first.next))

-- with i cells behind the first one, of at most n on the panel, the steps that are left
steps_left : (p : Panel) (file : List ℕ) (t : Trace) (n i : ℕ) → i < n → cells_within p (n - i) file t ≡ cells_within p (suc (n - (i + 1))) file t
steps_left p file t n i h = let s : n - i ≡ suc (n - (i + 1)) = omega arith in ap (λ (j : ℕ). cells_within p j file t) s

module _ (p : Panel) (file : List ℕ) (t : Trace) {m : Option (Option Trace)} (e : step_of file m ≡ next_for p file t) (n i : ℕ) (h : i < n) where
  pub counts_none : m ≡ None → None ≡ size_on (i + 1) (cells_within p (n - i) file t)
  counts_none q = sym (ap (size_on (i + 1)) (steps_left p file t n i h ∙ none_ahead p file t e (n - (i + 1)) q))

  pub counts_end : m ≡ Some None → Some (i + 1) ≡ size_on (i + 1) (cells_within p (n - i) file t)
  counts_end q =
      let z : i + 1 ≡ i + 1 + 0 = omega arith in
      ap Some z ∙ sym (ap (size_on (i + 1)) (steps_left p file t n i h ∙ end_ahead p file t e (n - (i + 1)) q))

  pub counts_on : {u : Trace} → m ≡ Some (Some u)
      → size_on (i + 1 + 1) (cells_within p (n - (i + 1)) file u) ≡ size_on (i + 1) (cells_within p (n - i) file t)
  counts_on {u} q =
      size_next (i + 1) u.at (cells_within p (n - (i + 1)) file u)
      ∙ sym (ap (size_on (i + 1)) (steps_left p file t n i h ∙ one_ahead p file t e (n - (i + 1)) q))

-- ---- which

-- a cell put into two bytes is a text of one cell
pub cell_put : (list : List ℕ) (j : ℕ) (c : Cell) → j + 1 < length list
    → Put list j (bytes (c ∷ [])) (set (set list j c.x) (j + 1) c.y) (j + 2)
cell_put list j c h =
    let one = set list j c.x in
    puts_both (record { joined = refl; fits = omega arith })
    (record { bytes = put_one list j c.x (omega arith); end = refl })
    (record { bytes = put_one one (j + 1) c.y (omega (arith, length-set list j c.x)); end = omega arith })

no_cells : (l : List Cell) → length l ≤ 0 → l ≡ []
no_cells [] h = refl
no_cells (c ∷ l) h = absurd (omega arith)

-- the cells written so far, from a byte on, and those ahead of a trace are the whole list
pub record Written (p : Panel) (file : List ℕ) (whole : List Cell) (old : List ℕ) (from : ℕ) (list : List ℕ) (t : Trace) (j : ℕ) : Type 0 where
  pub done : List Cell
  pub rest : List Cell
  pub steps : ℕ
  pub ahead : cells_within p steps file t ≡ cells rest
  pub parts : Parts old from (bytes done) (bytes rest) (bytes whole)
  pub put : Put old from (bytes done) list j
  pub on : OnPanel p t.at

-- cells are found in one step or more
more_steps : (p : Panel) (file : List ℕ) (t : Trace) (n : ℕ) {l : List Cell} → cells_within p n file t ≡ cells l
    → (k : ℕ) × (cells_within p (suc k) file t ≡ cells l)
more_steps p file t zero e = clash (cc)
more_steps p file t (suc k) e = (k, e)

module _ {p : Panel} {file : List ℕ} {whole : List Cell} {old : List ℕ} {from : ℕ} {list : List ℕ} {t : Trace} {j : ℕ}
    (w : Written p file whole old from list t j) where
  -- where the next cell goes, and how many are left
  pub written_place : j + 2 * length w.rest ≡ from + 2 * length whole
  written_place =
      omega (
        arith,
        w.put.end,
        ap length w.parts.joined,
        length-append (bytes w.done) (bytes w.rest),
        length_bytes w.done,
        length_bytes w.rest,
        length_bytes whole,
      )

  -- all cells are written
  pub written_all : from + 2 * length whole ≤ j → list ≡ put old from (bytes whole)
  written_all h =
      let none = no_cells w.rest (omega (arith, written_place)) in
      w.put.bytes
      ∙ ap (put old from) (sym (append-nil (bytes w.done)))
      ∙ ap (λ (k : List Cell). put old from (bytes w.done ++ bytes k)) (sym none)
      ∙ ap (put old from) w.parts.joined

  -- a step on from there
  module _ {m : Option (Option Trace)} (e : step_of file m ≡ next_for p file t) where
    written_lost : m ≡ None → ⊥
    written_lost q =
        let (k, f) = more_steps p file t w.steps w.ahead in
        let g : none ≡ cells w.rest = sym (none_ahead p file t e k q) ∙ f in
        clash (cc)

    written_ended : m ≡ Some None → from + 2 * length whole ≤ j
    written_ended q =
        let (k, f) = more_steps p file t w.steps w.ahead in
        let g : cells [] ≡ cells w.rest = sym (end_ahead p file t e k q) ∙ f in
        let nil : [] ≡ w.rest = cc in
        omega (arith, written_place, ap length nil)

    module _ {u : Trace} (q : m ≡ Some (Some u)) where
      -- the next cell is the first of those that are left
      next_cell : (k : ℕ) × (l : List Cell) × (cells_within p k file u ≡ cells l) × (u.at ∷ l ≡ w.rest)
      next_cell =
          let (k, f) = more_steps p file t w.steps w.ahead in
          let (l, g, is) = front_found u.at (cells_within p k file u) (sym (one_ahead p file t e k q) ∙ f) in
          (k, l, g, is)

      pub written_room : j + 1 < length list
      written_room =
          let (k, l, g, is) = next_cell in
          omega (arith, room w.parts w.put, ap length is, length_bytes w.rest)

      pub written_next : Written p file whole old from (set (set list j u.at.x) (j + 1) u.at.y) u (j + 2)
      written_next =
          let (k, l, g, is) = next_cell in
          let one = u.at ∷ [] in
          let more = bytes_append w.done one in
          let joined : bytes (w.done ++ one) ++ bytes l ≡ bytes whole =
          ap (λ (b : List ℕ). b ++ bytes l) more
          ∙ append_assoc (bytes w.done) (bytes one) (bytes l)
          ∙ ap (λ (r : List Cell). bytes w.done ++ bytes r) is
          ∙ w.parts.joined in
          let parts : Parts old from (bytes (w.done ++ one)) (bytes l) (bytes whole) = record { joined = joined; fits = w.parts.fits } in
          record {
            done = w.done ++ one;
            rest = l;
            steps = k;
            ahead = g;
            parts = parts;
            put = puts_both (record { joined = sym more; fits = room_first parts }) w.put (cell_put list j u.at written_room);
            on = ahead_on p file t e q;
          }

-- none are left where no step leads on
pub written_stopped : {p : Panel} {file : List ℕ} {whole : List Cell} {old : List ℕ} {from : ℕ} {list : List ℕ} {t : Trace} {j : ℕ}
    → Written p file whole old from list t j → (m : Option (Option Trace)) → step_of file m ≡ next_for p file t → option_flatten m ≡ None
    → from + 2 * length whole ≤ j
written_stopped w None e q = absurd (written_lost w e refl)
written_stopped w (Some None) e q = written_ended w e refl
written_stopped w (Some (Some u)) e q = clash (cc)

-- ---- the first cell, and the cells behind it

front_some : (s : Cell) (f : Found) → 1 ≤ found_size (in_front s f) → (l : List Cell) × (f ≡ cells l) × (s ∷ l ≡ found_list (in_front s f))
front_some s none h = absurd (omega arith)
front_some s (cells l) h = (l, refl, refl)

-- of a list whose first cell is put into the buffer
module _ {p : Panel} {file : List ℕ} {s : Start} (w : Starts p file s) (old : List ℕ) (room : 2 * s.count ≤ length old) where
  abbrev whole : List Cell
  whole = found_list (led p file s.first)

  pub written_first : {t : Trace} {list : List ℕ} → t ≡ start_at s.first.cell s.first.next
      → list ≡ set (set old 0 t.at.x) 1 t.at.y → Written p file whole old 0 list t 2
  written_first {t} {list} e f =
      let (l, found, is) = front_some s.first.cell (cells_ahead p file (start_at s.first.cell s.first.next)) (omega (arith, w.size, w.some)) in
      let c = s.first.cell in
      let begin : list ≡ set (set old 0 c.x) 1 c.y = f ∙ ap (λ (u : Trace). set (set old 0 u.at.x) 1 u.at.y) e in
      let fits : 0 + length (bytes whole) ≤ length old = omega (arith, length_bytes whole, w.size) in
      let put = cell_put old 0 c (omega (arith, w.some)) in
      record {
        done = c ∷ [];
        rest = l;
        steps = area p;
        ahead = ap (cells_within p (area p) file) e ∙ found;
        parts = record { joined = ap bytes is; fits = fits };
        put = record { bytes = begin ∙ put.bytes; end = put.end };
        on = subst⁻¹ (λ (u : Trace). OnPanel p u.at) e w.on;
      }

  -- behind the last cell they are all there
  pub all_written : {list : List ℕ} {t : Trace} {j : ℕ} → Written p file whole old 0 list t j → 2 * s.count ≤ j → list ≡ with_cells whole old
  unfolding put
  all_written f h =
      written_all f (omega (arith, w.size))
      ∙ ap (λ (k : ℕ). bytes whole ++ drop k old) (omega (arith, length_bytes whole))

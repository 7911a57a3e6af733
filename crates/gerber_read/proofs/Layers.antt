-- What the strict reading finds decides what a file is: the layer of the cells found, or of no list (`is_layer`, `no_layer`); and the
-- reader's promise from that.
use Rattle.std.specs.Prelude.{Result, Ok, Err, Option, None, Some, MatchOption}
use Rattle.std.specs.Bool.{then_some}
use Rattle.std.specs.Option.{ok_or}
use Prim.Native.Nat.{ℕ, suc, ◌-◌, ◌*◌, ◌≤◌, ◌<◌}
use mathlib.Core.Path.{◌≡◌, refl, sym, ap, subst, subst⁻¹, ◌∙◌}
use mathlib.Core.Bool.{Bool, true, false, cond}
use mathlib.Core.List.{List, [], ◌∷◌}
use native.Mathlib.Omega.{arith}
use native.Mathlib.Nat.{mul-le-mul}
use lib.ListN.{length, drop}
use lib.Dec.{leb}
use borrow.Author.Tests.{le-leb, lt-leb, leb-true, leb-false}
use Rattle.grid.specs.declared.Panel.{Panel}
use Rattle.grid.specs.declared.Cell.{Cell}
use Rattle.grid.specs.declared.Refusal.{Refusal}
use Rattle.grid.specs.declared.Refusal.TheVariants.{ShortBuffer, UnknownByte}
use Rattle.grid.specs.Panel.{GoodPanel, OnPanel, area}
use Rattle.grid.specs.Bytes.{bytes}
use Rattle.grid.specs.Check.{Check, expect, check_panel}
use Rattle.grid.proofs.Answers.{gives_cells}
use Rattle.grid.proofs.Bytes.{cells_bytes}
use Rattle.grid.proofs.Facts.{clash, is_good, on, area_small, eq_same}
use Rattle.grid.proofs.Passed.{panel_passes}
use Rattle.grid.proofs.Tests.{cond_yes, cond_no, expect_yes, expect_no, after_good, answer_good, answer_refused}
use Rattle.list.specs.List.{with_cells}
use Rattle.list.proofs.Checks.{GoodList, list_good, is_list_good}
use Rattle.gerber.specs.Layer.{flash, move}
use Rattle.gerber_trace.specs.Trace.{Aim, is_end, Next, next_of, follow, Found, in_front, cells_behind, cells_from, several, first_at, cells_of, traced}
use Rattle.gerber_trace.specs.declared.Target.{Target}
use Rattle.gerber_trace.specs.Trace.Next.{end}
use Rattle.gerber_trace.specs.Trace.Aim.{nothing, cell_and}
use Rattle.gerber_trace.specs.Trace.Found.{none, cells}
use Rattle.gerber_trace.proofs.RoundTrip.{first_read, several_is, traced_back, traced_is}
use Rattle.gerber_read.specs.declared.Start.{Start}
use Rattle.gerber_read.specs.Read.{LayerOf, Layer, check_reader, ReadsLayer, found_list, found_size, size_of, led, Starts}
use Rattle.gerber_read.specs.Read.Layer.{of, other}

-- ---- what a file is

-- the list of a layer is a good one, and is what is found
module _ {p : Panel} {file : List ℕ} {l : List Cell} (h : LayerOf p file l) where
  pub layer_list : GoodList p l
  layer_list = subst (GoodList p) (cells_bytes l) (list_good p (bytes l) h.taken)

  pub layer_found : cells l ≡ traced p file
  layer_found = traced_back p l layer_list ∙ ap (traced p) h.same

-- two lists never share a layer
pub one_list : {p : Panel} {file : List ℕ} {l k : List Cell} → LayerOf p file l → LayerOf p file k → l ≡ k
one_list {l = l} {k = k} h g = let e : cells l ≡ cells k = layer_found h ∙ sym (layer_found g) in cc

module _ (p : Panel) (file : List ℕ) where
  -- where nothing is found it is of no list
  no_layer : none ≡ traced p file → (l : List Cell) → LayerOf p file l → ⊥
  no_layer e l h = let c : none ≡ cells l = e ∙ sym (layer_found h) in clash (cc)

  pub is_layer : GoodPanel p → (l : List Cell) → cells l ≡ traced p file → LayerOf p file l
  is_layer g l e =
      let (list, same) = traced_is p (is_good g) file l (sym e) in
      record { taken = is_list_good p l list; same = same }

  -- what is found goes by the line behind the head: of a flash, or else of a move
  pub by_flash : {s : Cell} {r : List ℕ} → first_at p flash file ≡ cell_and s r → cond (is_end r) (cells (s ∷ [])) none ≡ traced p file
  by_flash e = ap (λ (t : Aim). cells_of p t (first_at p move file)) (sym e)

  pub by_move : {t : Aim} → first_at p flash file ≡ nothing → t ≡ first_at p move file → several (cells_from p t) ≡ traced p file
  by_move e f = λ i. cells_of p (sym e i) (f i)

-- what was counted
size_some : (f : Found) {n : ℕ} → size_of f ≡ Some n → (cells (found_list f) ≡ f) × (n ≡ found_size f)
size_some none e = clash (cc)
size_some (cells l) e = (refl, cc)

-- what is found, if it is two cells or more
several_none : (f : Found) → found_size f < 2 → none ≡ several f
several_none none h = refl
several_none (cells l) h = cond_no _ _ (lt-leb 2 (length l) h) refl

several_all : (f : Found) → 2 ≤ found_size f → cells (found_list f) ≡ several f
several_all none h = absurd (omega arith)
several_all (cells l) h = several_is l h

module _ (p : Panel) (file : List ℕ) (first : Target) where
  abbrev rest : List ℕ
  rest = drop first.next file

  -- behind a flash
  module _ (g : GoodPanel p) (e : first_at p flash file ≡ cell_and first.cell rest) where
    -- its cell alone is what it leads to
    spot_led : is_end rest ≡ true → led p file first ≡ cells (first.cell ∷ [])
    spot_led h =
        let s = first.cell in
        let k = area p - 1 in
        let some : 1 ≤ area p = mul-le-mul {n₁ = 1} {m₁ = 1} g.sides.wide g.sides.high in
        let more : area p ≡ suc k = omega arith in
        let ended : next_of p s s s rest ≡ end = sym (cond_yes _ _ (eq_same {a = s} refl) (cond_yes _ _ h refl)) in
        ap (λ (n : ℕ). in_front s (cells_behind p n s s s rest)) more ∙ ap (λ (n : Next). in_front s (follow n (cells_behind p k))) ended

    pub by_spot : (b : Bool) → b ≡ is_end rest → {r : Option Start} → r ≡ then_some b (record { first = first; count = 1 })
        → MatchOption r (none ≡ traced p file) (λ s. Starts p file s)
    by_spot true q {r} f =
        let l = spot_led (sym q) in
        subst⁻¹ (λ (r : Option Start). MatchOption r (none ≡ traced p file) (λ s. Starts p file s)) f
        record {
          on = on p first.cell (first_read p flash file _ _ e).1;
          found = ap (λ (f : Found). cells (found_list f)) l ∙ cond_yes _ _ (sym q) refl ∙ by_flash p file e;
          size = sym (ap found_size l);
          some = omega arith;
        }
    by_spot false q {r} f =
        subst⁻¹ (λ (r : Option Start). MatchOption r (none ≡ traced p file) (λ s. Starts p file s)) f
        (cond_no _ _ (sym q) refl ∙ by_flash p file e)

  -- behind a move, where there is no flash
  module _ (d : first_at p flash file ≡ nothing) (e : first_at p move file ≡ cell_and first.cell rest) where
    pub walk_on : OnPanel p first.cell
    walk_on = on p first.cell (first_read p move file _ _ e).1

    pub by_walk : {n : ℕ} → size_of (led p file first) ≡ Some n → {r : Option Start} → r ≡ then_some (leb 2 n) (record { first = first; count = n })
        → MatchOption r (none ≡ traced p file) (λ s. Starts p file s)
    by_walk {n} q {r} f = go (leb 2 n) refl
      where
        go : (b : Bool) → leb 2 n ≡ b → MatchOption r (none ≡ traced p file) (λ s. Starts p file s)
        go true t =
            let size = size_some (led p file first) q in
            let two = leb-true 2 n t in
            subst⁻¹ (λ (r : Option Start). MatchOption r (none ≡ traced p file) (λ s. Starts p file s)) (f ∙ ap (λ (b : Bool). then_some {T = Start} b (record { first = first; count = n })) t)
            record {
              on = walk_on;
              found = several_all (led p file first) (omega (arith, size.1)) ∙ by_move p file d (sym e);
              size = size.1;
              some = omega arith;
            }
        go false t =
            let size = size_some (led p file first) q in
            let few = leb-false 2 n t in
            subst⁻¹ (λ (r : Option Start). MatchOption r (none ≡ traced p file) (λ s. Starts p file s)) (f ∙ ap (λ (b : Bool). then_some {T = Start} b (record { first = first; count = n })) t)
            (several_none (led p file first) (omega (arith, size.1)) ∙ by_move p file d (sym e))

-- what `start` answered, with a refusal in place of none
module _ (p : Panel) (file : List ℕ) (r : Option Start) (m : MatchOption r (none ≡ traced p file) (λ s. Starts p file s)) where
  pub not_started : {x : Result Start Refusal} → x ≡ ok_or r UnknownByte → {e : Refusal} → x ≡ Err e → (none ≡ traced p file) × (e ≡ UnknownByte)
  not_started {x} q {e} f = go r m q
    where
      go : (r : Option Start) → MatchOption r (none ≡ traced p file) (λ s. Starts p file s) → x ≡ ok_or r UnknownByte → (none ≡ traced p file) × (e ≡ UnknownByte)
      go None n q = (n, cc)
      go (Some s) w q = clash (cc)

  pub started : {x : Result Start Refusal} → x ≡ ok_or r UnknownByte → {s : Start} → x ≡ Ok s → Starts p file s
  started {x} q {s} f = go r m q
    where
      go : (r : Option Start) → MatchOption r (none ≡ traced p file) (λ s. Starts p file s) → x ≡ ok_or r UnknownByte → Starts p file s
      go None n q = clash (cc)
      go (Some k) w q = let is : k ≡ s = cc in subst (Starts p file) is w

-- a test that refused
pub test_refused : (b : Bool) (r : Refusal) {x : Check} → x ≡ expect b r (Ok tt) → {e : Refusal} → x ≡ Err e → (b ≡ false) × (e ≡ r)
test_refused true r q f = clash (cc)
test_refused false r q f = (refl, cc)

-- a panel has at most so many cells
pub start_few : {p : Panel} {file : List ℕ} {s : Start} → GoodPanel p → Starts p file s → s.count ≤ 16384
start_few {p} {file} g w = omega (arith, (layer_list (is_layer p file g _ w.found)).few, area_small g.sides, w.size)

-- ---- the promise

passes : {p : Panel} → GoodPanel p → check_panel p ≡ Ok tt
passes {p} g = panel_passes p (is_good g)

module _ (p : Panel) (file old : List ℕ) {new : List ℕ} where
  -- where the check refuses, with this said of the file, and the buffer is as it was
  refuses : (f : Layer p file) {r : Refusal} → check_reader p f old ≡ Err r → new ≡ old → ReadsLayer p file old new (Err r)
  refuses f e same = record {
    found = f;
    gives = gives_cells _ _ (answer_refused Err _ e);
    buffer = same ∙ answer_refused (λ c. old) _ e;
  }

  module _ (g : GoodPanel p) where
    pub file_refused : none ≡ traced p file → new ≡ old → ReadsLayer p file old new (Err UnknownByte)
    file_refused e same = refuses (other (no_layer p file e)) (sym (after_good _ (passes g) refl)) same

    module _ (l : List Cell) (e : cells l ≡ traced p file) where
      pub short_refused : length old < 2 * length l → new ≡ old → ReadsLayer p file old new (Err ShortBuffer)
      short_refused short same =
          let room = lt-leb (2 * length l) (length old) short in
          refuses (of l (is_layer p file g l e)) (sym (after_good _ (passes g) (expect_no _ _ room))) same

      pub given_list : {n : ℕ} → n ≡ length l → 2 * length l ≤ length old → new ≡ with_cells l old
          → ReadsLayer p file old new (Ok (record { 0 = n }))
      given_list size fits is =
          let f = of l (is_layer p file g l e) in
          let room = le-leb (2 * length l) (length old) fits in
          let good : check_reader p f old ≡ Ok tt = sym (after_good _ (passes g) (expect_yes _ _ room refl)) in
          record {
            found = f;
            gives = gives_cells _ _ (answer_good _ _ good (ap (λ (k : ℕ). Ok (record { 0 = k })) size));
            buffer = answer_good _ _ good is;
          }

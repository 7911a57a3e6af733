-- Both ways, for the calls' promises: reading what was written gives the list back (`reads_back`), and an accepted input is the layer that
-- the writer makes of the list read (`writes_back`). So two lists never share a layer (`one_list` in Layers.antt).
use Rattle.std.specs.Prelude.{Result, Ok, Err}
use Rattle.grid.specs.declared.Refusal.{Refusal}
use Prim.Native.Nat.{ℕ, ◌*◌, ◌≤◌}
use mathlib.Core.Path.{◌≡◌, refl, sym, ap, ap₂, ◌∙◌}
use mathlib.Core.List.{List, ◌++◌}
use native.Mathlib.Omega.{arith}
use lib.ListN.{length, take, drop}
use lib.Seq.{take_at}
use borrow.Author.Tests.{le-leb}
use Rattle.grid.specs.declared.Panel.{Panel}
use Rattle.grid.specs.declared.Cell.{Cell}
use Rattle.grid.specs.declared.Cells.{Cells}
use Rattle.grid.specs.declared.Refusal.TheVariants.{UnknownByte}
use Rattle.grid.specs.Bytes.{bytes, cells_in}
use Rattle.grid.specs.Check.{Check, answer, check_panel}
use Rattle.grid.specs.Answer.{cells_answer, bytes_values}
use Rattle.grid.proofs.Answers.{cells_good}
use Rattle.grid.proofs.Bytes.{length_bytes, cells_bytes}
use Rattle.grid.proofs.Facts.{clash, and_both}
use Rattle.grid.proofs.Passed.{after_passed, after_rest}
use Rattle.grid.proofs.Tests.{expect_yes, after_good, answer_good}
use Rattle.list.specs.List.{with_cells}
use Rattle.list.specs.Check.{check_list}
use Rattle.list.proofs.Cells.{bytes_cells}
use Rattle.list.proofs.Checks.{list_whole}
use Rattle.list.proofs.Whole.{whole}
use Rattle.gerber.specs.Layer.{layer_of}
use Rattle.gerber_write.specs.Write.{digit_room, layer_bytes, check_layer, layer_answer, layer_buffer, layer_made}
use Rattle.gerber_read.specs.Read.{LayerOf, Layer, list_in, check_reader, ReadsLayer}
use Rattle.gerber_read.specs.Read.Layer.{of, other}
use Rattle.gerber_read.proofs.Layers.{one_list}

-- what the writer makes is the layer of the list
module _ (p : Panel) (list scratch out : List ℕ) (e : check_layer p list scratch out ≡ Ok tt) where
  made : (layer_answer p list scratch out ≡ Ok (length (layer_bytes p list))) × (layer_made p list scratch out ≡ layer_bytes p list)
  made =
      let a : layer_answer p list scratch out ≡ Ok (length (layer_bytes p list)) = sym (answer_good _ _ e refl) in
      let b : layer_buffer p list scratch out ≡ layer_bytes p list ++ drop (length (layer_bytes p list)) out = sym (answer_good _ _ e refl) in (
        a,
        ap₂ (λ (w : Result ℕ Refusal) (o : List ℕ). take (bytes_values w).bytes o) a b ∙ take_at (layer_bytes p list) _ _ refl,
      )

  -- the list is its cells, and they are what the layer is made of
  back : bytes (cells_in list) ≡ list
  back = bytes_cells list (whole (length list) (list_whole p list (after_passed (check_list p list) _ e))).1

  made_of : LayerOf p (layer_made p list scratch out) (cells_in list)
  made_of = record { taken = ap (check_list p) back ∙ after_passed (check_list p list) _ e; same = sym made.1 }

module _ (p : Panel) (old : List ℕ) {new : List ℕ} {r : Result Cells Refusal} where
  -- what the reader gives where the file is the layer of a list for which there is room
  reads : {file : List ℕ} {l : List Cell} (f : Layer p file) → LayerOf p file l → 2 * length l ≤ length old
      → r ≡ cells_answer (check_reader p f old) (length (list_in f)) → new ≡ answer (check_reader p f old) (λ c. old) (with_cells (list_in f) old)
      → (r ≡ Ok (record { 0 = length l })) × (new ≡ with_cells l old)
  reads {l = l} (of k h) g room a b =
      let same = one_list h g in
      let fits = le-leb (2 * length k) (length old) (omega (arith, ap length same)) in
      let good : check_reader p (of k h) old ≡ Ok tt = sym (after_good _ (after_passed (check_panel p) _ h.taken) (expect_yes _ _ fits refl)) in (
        a ∙ sym (answer_good _ _ good refl) ∙ ap (λ (m : List Cell). Ok (record { 0 = length m })) same,
        b ∙ sym (answer_good _ _ good refl) ∙ ap (λ (m : List Cell). with_cells m old) same,
      )
  reads {l = l} (other n) g room a b = absurd (n l g)

pub reads_back : (p : Panel) (list scratch out old : List ℕ) {new : List ℕ} {r : Result Cells Refusal} → check_layer p list scratch out ≡ Ok tt
    → length list ≤ length old → ReadsLayer p (layer_made p list scratch out) old new r
    → (r ≡ Ok (record { 0 = length (cells_in list) })) × (new ≡ list ++ drop (length list) old)
reads_back p list scratch out old e room f =
    let is = back p list scratch out e in
    let size : 2 * length (cells_in list) ≡ length list = sym (length_bytes (cells_in list)) ∙ ap length is in
    let (given, cells) = reads p old f.found (made_of p list scratch out e) (omega arith) f.gives.answers f.buffer in
    (given, cells ∙ ap₂ (λ (b : List ℕ) (k : ℕ). b ++ drop k old) is size)

-- what the reader takes is the layer of the list that it gives
module _ (p : Panel) (old : List ℕ) {new : List ℕ} {k : Cells} where
  taken : {file : List ℕ} (f : Layer p file) → Ok k ≡ cells_answer (check_reader p f old) (length (list_in f))
      → new ≡ answer (check_reader p f old) (λ c. old) (with_cells (list_in f) old)
      → (l : List Cell) × LayerOf p file l × (take (2 * k.0) new ≡ bytes l)
  taken (of l h) a b =
      let (good, size) = cells_good (check_reader p (of l h) old) (length l) k (sym a) in
      let list : new ≡ with_cells l old = b ∙ sym (answer_good _ _ good refl) in
      (l, h, ap (take (2 * k.0)) list ∙ take_at (bytes l) _ (2 * k.0) (omega (arith, length_bytes l)))
  taken (other n) a b =
      let (good, size) = cells_good (check_reader p (other n) old) 0 k (sym a) in
      let c : ◌≡◌ {A = Check} (Err UnknownByte) (Ok tt) = after_rest (check_panel p) _ good in
      clash (cc)

pub writes_back : (p : Panel) (file old scratch out : List ℕ) {new : List ℕ} {k : Cells} → ReadsLayer p file old new (Ok k)
    → digit_room ≤ length scratch → length file ≤ length out
    → (layer_answer p (take (2 * k.0) new) scratch out ≡ Ok (length file)) × (layer_made p (take (2 * k.0) new) scratch out ≡ file)
writes_back p file old scratch out {new} {k} f digits room =
    let (l, h, list) = taken p old f.found f.gives.answers f.buffer in
    let layer : layer_bytes p (bytes l) ≡ file = ap (layer_of p) (cells_bytes l) ∙ h.same in
    let enough = le-leb (length (layer_bytes p (bytes l))) (length out) (omega (arith, ap length layer)) in
    let fits = and_both (le-leb digit_room (length scratch) digits) enough in
    let good : check_layer p (bytes l) scratch out ≡ Ok tt = sym (after_good _ h.taken (expect_yes _ _ fits refl)) in
    let (given, is) = made p (bytes l) scratch out good in (
      ap (λ (b : List ℕ). layer_answer p b scratch out) list ∙ given ∙ ap (λ (b : List ℕ). Ok (length b)) layer,
      ap (λ (b : List ℕ). layer_made p b scratch out) list ∙ is ∙ layer,
    )

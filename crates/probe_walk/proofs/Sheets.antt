-- The places of a sheet as a loop fills them, one for each probe; what is read there; and that what is noted are the positions.
use Prim.Native.Nat.{ℕ, zero, suc, ◌+◌, ◌-◌, ◌≤◌, ◌<◌}
use native.Mathlib.Omega.{arith}
use mathlib.Core.Path.{◌≡◌, refl, sym, ap, ◌∙◌}
use mathlib.Core.Bool.{Bool, true, ◌||◌, or-true}
use mathlib.Core.List.{List, [], ◌∷◌, ◌++◌, map, map-append, append_assoc}
use lib.ListN.{length, take, get_or, set, replicate, length-append, length-map, get_or-append}
use lib.Seq.{length-take-le, set_at, get_or-append-add}
use Rattle.grid.specs.declared.Cell.{Cell}
use Rattle.grid.specs.Panel.{cell, same_cell}
use Rattle.grid.proofs.Facts.{eq_same}
use Rattle.grid.proofs.Lists.{take_next}
use Rattle.list.specs.List.{nth, among}
use Rattle.probe_walk.specs.Probes.{places, placed, position, positions}
use Rattle.probe_walk.specs.Search.{Noted, noted_positions}
use Rattle.probe_walk.proofs.Positions.{some_position}

-- one place more is used
place_next : {A : Type 0} (z : A) (m : List A) (a : A) (i : ℕ) → length m ≡ i → i < places → set (placed z m) i a ≡ placed z (m ++ a ∷ [])
place_next z m a i n h =
    let unused : places - length m ≡ suc (places - length (m ++ a ∷ [])) = omega (arith, length-append m (a ∷ [])) in
    ap (λ (k : ℕ). set (m ++ replicate k z) i a) unused
    ∙ set_at m z (replicate (places - length (m ++ a ∷ [])) z) a i n
    ∙ sym (append_assoc m (a ∷ []) (replicate (places - length (m ++ a ∷ [])) z))

-- where z belongs there, the place has it already
place_kept : {A : Type 0} (z : A) (m : List A) → length m < places → placed z m ≡ placed z (m ++ z ∷ [])
place_kept z m h =
    let unused : places - length m ≡ suc (places - length (m ++ z ∷ [])) = omega (arith, length-append m (z ∷ [])) in
    ap (λ (k : ℕ). m ++ replicate k z) unused ∙ sym (append_assoc m (z ∷ []) (replicate (places - length (m ++ z ∷ [])) z))

map_nth : {A : Type 0} (f : Cell → A) (q : List Cell) (i : ℕ) (d : A) → i < length q → get_or (map f q) i d ≡ f (nth q i)
map_nth f [] i d h = absurd (omega arith)
map_nth f (c ∷ q) zero d h = refl
map_nth f (c ∷ q) (suc i) d h = map_nth f q i d (omega arith)

module _ {A : Type 0} (z : A) (f : Cell → A) (q : List Cell) where
  -- what a loop has put into the first i places
  abbrev pub filled : ℕ → List A
  filled i = placed z (map f (take i q))

  pub fill_next : (i : ℕ) {a : A} → i < length q → length q ≤ places → a ≡ f (nth q i) → set (filled i) i a ≡ filled (i + 1)
  fill_next i {a} h few e =
      let n : length (map f (take i q)) ≡ i = length-map (take i q) f ∙ length-take-le i q (omega arith) in
      let more = ap (map f) (take_next (cell 0 0) q i h) ∙ map-append f (take i q) (nth q i ∷ []) in
      place_next z (map f (take i q)) a i n (omega arith)
      ∙ ap (λ (b : A). placed z (map f (take i q) ++ b ∷ [])) e
      ∙ ap (placed z) (sym more)

  pub fill_kept : (i : ℕ) → i < length q → length q ≤ places → z ≡ f (nth q i) → filled i ≡ filled (i + 1)
  fill_kept i h few e =
      let n : length (map f (take i q)) ≡ i = length-map (take i q) f ∙ length-take-le i q (omega arith) in
      let more = ap (map f) (take_next (cell 0 0) q i h) ∙ map-append f (take i q) (nth q i ∷ []) in
      place_kept z (map f (take i q)) (omega arith)
      ∙ ap (λ (b : A). placed z (map f (take i q) ++ b ∷ [])) e
      ∙ ap (placed z) (sym more)

  -- what stands at the place of a probe
  pub placed_nth : (i : ℕ) (d : A) → i < length q → get_or (placed z (map f q)) i d ≡ f (nth q i)
  placed_nth i d h =
      get_or-append (map f q) (replicate (places - length (map f q)) z) d i (omega (arith, length-map q f)) ∙ map_nth f q i d h

-- what is noted for a probe
abbrev pub note : List Cell → List ℕ → Cell → ℕ
note q found c = get_or found (position c q - 1) 0

-- an unused place
none_there : {A : Type 0} (z : A) (k i : ℕ) → get_or (replicate k z) i z ≡ z
none_there z zero i = refl
none_there z (suc k) zero = refl
none_there z (suc k) (suc i) = none_there z k i

pub placed_unused : {A : Type 0} (z : A) (m : List A) (i : ℕ) → length m ≤ i → get_or (placed z m) i z ≡ z
placed_unused z m i h =
    let e : i ≡ length m + (i - length m) = omega arith in
    ap (λ (k : ℕ). get_or (placed z m) k z) e
    ∙ get_or-append-add m (replicate (places - length m) z) (i - length m) z
    ∙ none_there z (places - length m) (i - length m)

-- what is noted for the probes are their positions
same_for : {A : Type 0} (f g : Cell → A) (q : List Cell) → ((c : Cell) → among c q ≡ true → f c ≡ g c) → map f q ≡ map g q
same_for f g [] h = refl
same_for f g (c ∷ q) h =
    let first = h c (ap (λ (b : Bool). b || among c q) (eq_same {a = c} refl)) in
    let rest = same_for f g q (λ d e. h d (ap (λ (b : Bool). same_cell d c || b) e ∙ or-true (same_cell d c))) in
    λ i. first i ∷ rest i

pub noted_positions_lem : (q l : List Cell) {found : List ℕ} → Noted q l found → noted_positions q found ≡ positions q l
noted_positions_lem q l {found} n =
    let first : (c : Cell) → among c q ≡ true → position c q ≡ suc (position c q - 1) = λ c e. omega (arith, some_position c q e) in
    let each = same_for (λ c. get_or found (position c q - 1) 0) (λ c. position c l) q (λ c e. n.notes c (position c q - 1) (first c e)) in
    ap (placed 0) each

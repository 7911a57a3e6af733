-- What a track has besides its walk: no cell twice, and all on the panel. The order of the cells does not matter for that; and the cells that can
-- be put in front are the free ones.
use Prim.Native.Nat.{ℕ}
use mathlib.Core.Path.{◌≡◌, ap, subst, subst⁻¹, ◌∙◌}
use mathlib.Core.Bool.{true, not, ◌&&◌, ◌||◌}
use mathlib.Core.Logic.{◌≢◌}
use mathlib.Core.List.{List, [], ◌∷◌, ◌++◌}
use lib.ListN.{take, drop, take-append-drop}
use Rattle.grid.specs.declared.Panel.{Panel}
use Rattle.grid.specs.declared.Cell.{Cell}
use Rattle.grid.specs.Panel.{on_panel, OnPanel}
use Rattle.grid.specs.Track.{All, Once, Track}
use Rattle.grid.proofs.Facts.{and_parts, and_both, on, is_on, ne_same}
use Rattle.list.specs.List.{among}
use Rattle.list.proofs.Tracks.{once, is_once, is_not_among}
use Rattle.detour.specs.Detour.{is_free}
use Rattle.detour.proofs.Cut.{all_swapped, once_swapped}

pub record Tidy (p : Panel) (l : List Cell) : Type 0 where
  pub once : Once l
  pub within : All (OnPanel p) l

pub track_tidy : {p : Panel} {s t : Cell} {l : List Cell} → Track p s t l → Tidy p l
track_tidy r = record { once = r.once; within = r.within }

module _ {p : Panel} where
  moved : (g d r : List Cell) → Tidy p (g ++ (d ++ r)) → Tidy p (d ++ (g ++ r))
  moved g d r c = record { once = once_swapped g d r c.once; within = all_swapped g d r c.within }

  -- ---- cells d, put in behind a place or in front of the list: it is the same

  module _ (d : List Cell) (k : ℕ) (l : List Cell) where
    pub inserted : Tidy p (d ++ l) → Tidy p (take k l ++ (d ++ drop k l))
    inserted c = moved d (take k l) (drop k l) (subst⁻¹ (λ (q : List Cell). Tidy p (d ++ q)) (take-append-drop k l) c)

    pub taken_out : Tidy p (take k l ++ (d ++ drop k l)) → Tidy p (d ++ l)
    taken_out c = subst (λ (q : List Cell). Tidy p (d ++ q)) (take-append-drop k l) (moved (take k l) d (drop k l) c)

  -- ---- one free cell in front, and two

  module _ {c : Cell} {l : List Cell} where
    put : is_free p l c ≡ true → Tidy p l → Tidy p (c ∷ l)
    put f q =
        let (here, new) = and_parts (on_panel p c) (not (among c l)) f in
        record { once = once (c ∷ l) (and_both new (is_once q.once)); within = All.more (on p c here) q.within }

    front_free : Tidy p (c ∷ l) → (is_free p l c ≡ true) × Tidy p l
    front_free q = parts q.once q.within
      where
        parts : Once (c ∷ l) → All (OnPanel p) (c ∷ l) → (is_free p l c ≡ true) × Tidy p l
        parts (Once.more n o) (All.more here w) = (and_both (is_on here) (ap not (is_not_among n)), record { once = o; within = w })

  module _ {c d : Cell} {l : List Cell} where
    pub put_two : c ≢ d → is_free p l c ≡ true → is_free p l d ≡ true → Tidy p l → Tidy p (c ∷ d ∷ l)
    put_two n f g q = put ((λ i. on_panel p c && not (ne_same c d n i || among c l)) ∙ f) (put g q)

    pub two_free : Tidy p (c ∷ d ∷ l) → (is_free p l c ≡ true) × (is_free p l d ≡ true) × Tidy p l
    two_free q =
        let (second, rest) = front_free (front_free q).1 in
        ((front_free (front_free (moved (c ∷ []) (d ∷ []) l q)).1).0, second, rest)

-- Bytes that begin with a text: the text and the bytes behind it, and the other way round; and the library's test of it.
use Prim.Native.Nat.{ℕ, ◌+◌, ◌≤◌}
use mathlib.Core.Path.{◌≡◌, refl, sym, ap, ◌∙◌}
use mathlib.Core.Bool.{Bool, true, false, ◌&&◌, false≢true}
use mathlib.Core.List.{List, [], ◌∷◌, ◌++◌}
use native.Mathlib.Omega.{arith}
use lib.ListN.{length, drop, length-append}
use lib.Seq.{drop-drop, drop-append_seam}
use lib.Dec.{eqb}
use borrow.Author.Tests.{eqb-true, eq-eqb}
use Rattle.grid.proofs.Facts.{and_parts, and_both}
use Rattle.grid.proofs.Tests.{cond_yes, cond_no}
use Rattle.std.specs.Prelude.{nat_eq}
use Rattle.std.specs.List.{starts_with}
use Rattle.std.proofs.lemmas.Bool.Decides.{nat_tests}
use Rattle.text.specs.Front.{begins, behind_text}

-- ---- a text in front of anything

pub is_front : (t l : List ℕ) → begins t (t ++ l) ≡ true
is_front [] l = refl
is_front (b ∷ t) l = and_both (eq-eqb b b refl) (is_front t l)

pub front_is : (t l : List ℕ) → begins t l ≡ true → l ≡ t ++ drop (length t) l
front_is [] l e = refl
front_is (b ∷ t) [] e = absurd (false≢true e)
front_is (b ∷ t) (c ∷ l) e =
    let (h, r) = and_parts (eqb c b) (begins t l) e in
    λ i. eqb-true c b h i ∷ front_is t l r i

-- ---- what is read behind it

module _ {ℓ} {A : Type ℓ} (z : A) (k : List ℕ → A) where
  pub reads_behind : (t l : List ℕ) {y : A} → y ≡ k l → y ≡ behind_text z t (t ++ l) k
  reads_behind t l e = cond_yes _ _ (is_front t l) (e ∙ ap k (sym (drop-append_seam t l)))

  -- reading that goes on to something else than z has found the text
  pub goes_behind : (t l : List ℕ) {y : A} → (z ≡ y → ⊥) → behind_text z t l k ≡ y
      → (l ≡ t ++ drop (length t) l) × (k (drop (length t) l) ≡ y)
  goes_behind t l {y} other q = go (begins t l) refl
    where
      go : (b : Bool) → begins t l ≡ b → (l ≡ t ++ drop (length t) l) × (k (drop (length t) l) ≡ y)
      go true e = (front_is t l e, cond_yes _ _ e refl ∙ q)
      go false e = absurd (other (cond_no _ _ e refl ∙ q))

-- the same at a place of a file
module _ (t file : List ℕ) (at : ℕ) where
  pub front_room : begins t (drop at file) ≡ true → length t ≤ length (drop at file)
  front_room e = omega (arith, ap length (front_is t (drop at file) e), length-append t (drop (length t) (drop at file)))

  module _ {ℓ} {A : Type ℓ} (z : A) (k : List ℕ → A) where
    pub behind_yes : {y : A} → begins t (drop at file) ≡ true → y ≡ k (drop (at + length t) file) → y ≡ behind_text z t (drop at file) k
    behind_yes e h = cond_yes _ _ e (h ∙ ap k (sym (drop-drop (length t) at file)))

    pub behind_no : begins t (drop at file) ≡ false → z ≡ behind_text z t (drop at file) k
    behind_no e = cond_no _ _ e refl

-- ---- as the library tests it

swapped : (a b : ℕ) → nat_eq a b ≡ eqb b a
swapped a b = grind (arith, nat_tests)

pub starts_begins : (t l : List ℕ) → starts_with nat_eq l t ≡ begins t l
starts_begins [] l = refl
starts_begins (b ∷ t) [] = refl
starts_begins (b ∷ t) (c ∷ l) = λ i. swapped b c i && starts_begins t l i

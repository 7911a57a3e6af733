-- Where the text of a layer goes: what is asked of it, and a text put into a buffer that is lent.
use Rattle.std.specs.Prelude.{ℕ, ◌≡◌, List, [], ◌++◌, length}
use Rattle.std.specs.Borrow.{MutBor}
use Rattle.text.specs.Put.{Put}

-- texts are taken one behind another: where a whole fits its parts do, and both taken are the whole
pub record Laws {S : Type 0} (Fits : S → List ℕ → Type 0) (Takes : S → List ℕ → S → Type 0) : Type 0 where
  pub first : (s : S) (t u : List ℕ) → Fits s (t ++ u) → Fits s t
  pub behind : (s m : S) (t u : List ℕ) → Fits s (t ++ u) → Takes s t m → Fits m u
  pub both : (s m e : S) (t u : List ℕ) → Fits s (t ++ u) → Takes s t m → Takes m u e → Takes s (t ++ u) e
  pub none : (s : S) → Takes s [] s

-- and the length decides what fits: where a text does, each one as long does
pub record SizedLaws {S : Type 0} (Fits : S → List ℕ → Type 0) (Takes : S → List ℕ → S → Type 0) : Type 0 where
  pub parts : Laws Fits Takes
  pub alike : (s : S) (t u : List ℕ) → length t ≡ length u → Fits s t → Fits s u

-- a text was put at a place of a buffer that is lent, and ends at `next`; the buffer is still the one that is lent
pub record Puts (out : MutBor (List ℕ)) (at : ℕ) (text : List ℕ) (after : MutBor (List ℕ)) (next : ℕ) : Type 0 where
  pub put : Put out.now at text after.now next
  pub same : after.ghost_name ≡ out.ghost_name

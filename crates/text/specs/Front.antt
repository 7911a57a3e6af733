-- A text at the front of bytes.
use Rattle.std.specs.Prelude.{ℕ, Bool, true, false, cond, ◌&&◌, List, [], ◌∷◌, length, drop, eqb}

-- bytes begin with a text
abbrev pub begins : List ℕ → List ℕ → Bool
begins [] l = true
begins (b ∷ t) [] = false
begins (b ∷ t) (c ∷ l) = eqb c b && begins t l

-- what the bytes behind a text go on to, or z where they do not begin with it
abbrev pub behind_text {ℓ} : {A : Type ℓ} → A → List ℕ → List ℕ → (List ℕ → A) → A
behind_text z t l k = cond (begins t l) (k (drop (length t) l)) z

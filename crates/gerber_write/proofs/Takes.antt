-- A whole text taken part by part, wherever it goes.
use Rattle.std.proofs.Common.{ℕ, ◌≡◌, sym, subst, List, ◌++◌}
use Rattle.gerber_write.specs.Sink.{Laws}

-- the rest of a whole text is left to be taken: it fits, and with it the whole is taken
pub record Left {S : Type 0} (Fits : S → List ℕ → Type 0) (Takes : S → List ℕ → S → Type 0) (s : S) (whole : List ℕ) (m : S) (rest : List ℕ) : Type 0 where
  pub fits : Fits m rest
  pub then : {k : S} → Takes m rest k → Takes s whole k

module _ {S : Type 0} {Fits : S → List ℕ → Type 0} {Takes : S → List ℕ → S → Type 0} where
  pub left_all : {s : S} {whole : List ℕ} → Fits s whole → Left Fits Takes s whole s whole
  left_all h = record { fits = h; then = λ f. f }

  -- the same rest, told otherwise
  pub left_is : {s m : S} {whole t u : List ℕ} → Left Fits Takes s whole m t → t ≡ u → Left Fits Takes s whole m u
  left_is {s} {m} {whole} l e = subst (λ (r : List ℕ). Left Fits Takes s whole m r) e l

  module _ (laws : Laws Fits Takes) {s m : S} {whole rest : List ℕ} (l : Left Fits Takes s whole m rest) (t u : List ℕ) (e : t ++ u ≡ rest) where
    fit : Fits m (t ++ u)
    fit = subst (Fits m) (sym e) l.fits

    -- the next part fits
    pub room : Fits m t
    room = laws.first m t u fit

    -- and is taken
    pub left_next : {n : S} → Takes m t n → Left Fits Takes s whole n u
    left_next {n} f = record {
      fits = laws.behind m n t u fit f;
      then = λ {k} g. l.then (subst (λ (w : List ℕ). Takes m w k) e (laws.both m n k t u fit f g));
    }

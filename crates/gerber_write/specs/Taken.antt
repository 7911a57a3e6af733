-- The laws of the two that take text: a count of bytes, and a buffer that is lent.
use Rattle.std.specs.Prelude.{ℕ, ◌+◌, ◌≤◌, ◌≡◌, List, length}
use Rattle.std.specs.Borrow.{MutBor}
use Rattle.std.proofs.Common.{refl, ◌∙◌, arith, length-append}
use Rattle.text.proofs.Puts.{put_none, room, puts_both}
use Rattle.gerber_write.specs.Sink.{Laws, SizedLaws, Puts}

module _ {S : Type 0} where
  pub counted : (size : S → ℕ) (most : ℕ) → Laws (λ s t. size s + length t ≤ most) (λ s t e. size e ≡ size s + length t)
  counted size most = record {
    first = λ s t u h. omega (arith, length-append t u);
    behind = λ s m t u h f. omega (arith, length-append t u);
    both = λ s m e t u h f g. omega (arith, length-append t u);
    none = λ s. omega arith;
  }

  pub counted_sized : (size : S → ℕ) (most : ℕ) → SizedLaws (λ s t. size s + length t ≤ most) (λ s t e. size e ≡ size s + length t)
  counted_sized size most = record { parts = counted size most; alike = λ s t u e h. omega arith }

  pub put : (out : S → MutBor (List ℕ)) (at : S → ℕ) → Laws (λ s t. at s + length t ≤ length (out s).now) (λ s t e. Puts (out s) (at s) t (out e) (at e))
  put out at = record {
    first = λ s t u h. omega (arith, length-append t u);
    behind = λ s m t u h f. room (record { joined = refl; fits = h }) f.put;
    both = λ s m e t u h f g. record { put = puts_both (record { joined = refl; fits = h }) f.put g.put; same = g.same ∙ f.same };
    none = λ s. record { put = record { bytes = put_none (out s).now (at s); end = omega arith }; same = refl };
  }

  pub put_sized : (out : S → MutBor (List ℕ)) (at : S → ℕ) → SizedLaws (λ s t. at s + length t ≤ length (out s).now) (λ s t e. Puts (out s) (at s) t (out e) (at e))
  put_sized out at = record { parts = put out at; alike = λ s t u e h. omega arith }

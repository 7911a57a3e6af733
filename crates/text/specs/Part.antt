-- Where a part of a slice that may be written begins.
use Rattle.std.specs.Prelude.{ℕ, ◌+◌, ◌≡◌, List}
use Rattle.std.specs.Borrow.{MutBor}

-- these bytes as a part of a slice, from its byte k on: in the same block of memory, k bytes behind the slice's front
pub record MutPartOf (slice : MutBor (List ℕ)) (k : ℕ) (content : List ℕ) (part : MutBor (List ℕ)) : Type 0 where
  pub bytes : part.now ≡ content
  pub block : part.ref_ptr.0 ≡ slice.ref_ptr.0
  pub place : part.ref_ptr.1 ≡ slice.ref_ptr.1 + k

-- What a step says of the letter and of the cell that it leads to.
use Rattle.std.specs.Prelude.{Ok, Err}
use Prim.Native.Nat.{ℕ}
use mathlib.Core.Path.{◌≡◌, refl}
use mathlib.Core.Bool.{Bool, true, false, cond}
use borrow.Author.Tests.{ne_eqb}
use Rattle.grid.specs.declared.Cell.{Cell}
use Rattle.grid.specs.declared.Refusal.{Refusal}
use Rattle.grid.specs.declared.Refusal.TheVariants.{UnknownByte}
use Rattle.grid.proofs.Facts.{clash}
use Rattle.step_letters.specs.Letters.{known, stepped, step_by, north, east, south, west}

pub unknown : {b : ℕ} → (b ≡ north → ⊥) → (b ≡ east → ⊥) → (b ≡ south → ⊥) → (b ≡ west → ⊥) → known b ≡ false
unfolding known
unknown {b} n e s w = simp (ne_eqb b north n, ne_eqb b east e, ne_eqb b south s, ne_eqb b west w)

pub byte_refused : (c : Cell) (b : ℕ) {r : Refusal} → step_by c b ≡ Err r → (known b ≡ false) × (UnknownByte ≡ r)
byte_refused c b {r} = by_case (known b)
  where
    by_case : (t : Bool) → cond t (Ok (stepped c b)) (Err UnknownByte) ≡ Err r → (t ≡ false) × (UnknownByte ≡ r)
    by_case true e = clash (cc)
    by_case false e = (refl, cc)

pub byte_leads : (c : Cell) (b : ℕ) {d : Cell} → step_by c b ≡ Ok d → (known b ≡ true) × (stepped c b ≡ d)
byte_leads c b {d} = by_case (known b)
  where
    by_case : (t : Bool) → cond t (Ok (stepped c b)) (Err UnknownByte) ≡ Ok d → (t ≡ true) × (stepped c b ≡ d)
    by_case true e = (refl, cc)
    by_case false e = clash (cc)

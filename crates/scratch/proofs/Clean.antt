-- Clearing makes scratch clean, and clearing it again takes away what was marked in between.
use Prim.Native.Nat.{ℕ, ◌≤◌}
use native.Mathlib.Omega.{arith}
use mathlib.Core.Path.{◌≡◌, sym, ap, ◌∙◌}
use mathlib.Core.List.{List, ◌++◌}
use lib.ListN.{length, take, drop, replicate, length-append, length-replicate, take-append-drop}
use lib.Seq.{take_at, drop_at}
use Rattle.grid.specs.declared.Panel.{Panel}
use Rattle.grid.specs.Panel.{area}
use Rattle.scratch.specs.Scratch.{cleared, Clean}

pub clean : (p : Panel) (s : List ℕ) {e : List ℕ} → area p ≤ length s → e ≡ cleared p s → Clean p e
clean p s {e} h f = record {
  room = simp (f, length-append, length-replicate) (omega arith);
  zeros = ap (take (area p)) f ∙ take_at (replicate (area p) 0) (drop (area p) s) (area p) (length-replicate (area p) 0);
}

-- m is scratch that was cleared, with marks among its places
pub cleared_again : (p : Panel) (s : List ℕ) {c : List ℕ} (m : List ℕ)
    → c ≡ cleared p s → drop (area p) m ≡ drop (area p) c → cleared p m ≡ cleared p s
cleared_again p s m e d =
    ap (λ (r : List ℕ). replicate (area p) 0 ++ r)
    (d ∙ ap (drop (area p)) e ∙ drop_at (replicate (area p) 0) (drop (area p) s) (area p) (length-replicate (area p) 0))

-- m is clean scratch, with marks among its places
pub clean_again : (p : Panel) {s : List ℕ} (m : List ℕ) → Clean p s → drop (area p) m ≡ drop (area p) s → cleared p m ≡ s
clean_again p {s} m c d = (λ i. sym c.zeros i ++ d i) ∙ take-append-drop (area p) s

-- Letters walked from the front: the cells that they lead over, one by one, into a buffer too; and that the cells of a good panel are cells
-- of the largest, where a letter may be tried.
use Rattle.std.specs.Prelude.{Result, Ok, Err, IsOk}
use Prim.Native.Nat.{ℕ, suc, ◌+◌, ◌<◌}
use mathlib.Core.Path.{◌≡◌, refl, sym, ap, subst⁻¹, ◌∙◌}
use mathlib.Core.Bool.{Bool, true, false, ◌||◌, true≢false}
use mathlib.Core.List.{List, [], ◌∷◌, ◌++◌}
use native.Mathlib.Omega.{arith}
use lib.Dec.{eqb}
use lib.ListN.{length, take, drop, get_or, set, length-set}
use Rattle.grid.specs.declared.Cell.{Cell}
use Rattle.grid.specs.declared.Panel.{Panel}
use Rattle.grid.specs.declared.Refusal.{Refusal}
use Rattle.grid.specs.declared.Refusal.TheVariants.{UnknownByte}
use Rattle.grid.specs.Panel.{OnPanel, on_panel, good_panel}
use Rattle.grid.proofs.Facts.{and_parts, and_both, good, on, is_on}
use Rattle.grid.proofs.Lists.{drop_next}
use Rattle.grid.proofs.Tests.{both_branches}
use Rattle.list.specs.List.{all_on}
use Rattle.step_letters.specs.Letters.{north, east, south, known, stepped, step_by, walk_on, largest_panel}
use Rattle.step_letters.proofs.Laws.{byte_refused, byte_leads}
use Rattle.step_letters.proofs.Lists.{put_byte}

-- ---- cells

pub on_largest : (p : Panel) (c : Cell) → good_panel p ≡ true → on_panel p c ≡ true → OnPanel largest_panel c
on_largest p c g o =
    let s = (good p g).sides in
    let h = on p c o in
    record { left = h.left; right = omega arith; top = h.top; bottom = omega arith }

pub all_on_largest : (p : Panel) (l : List Cell) → good_panel p ≡ true → all_on p l ≡ true → all_on largest_panel l ≡ true
all_on_largest p [] g e = refl
all_on_largest p (c ∷ l) g e =
    let (h, t) = and_parts (on_panel p c) (all_on p l) e in
    and_both (is_on (on_largest p c g h)) (all_on_largest p l g t)

-- ---- letters

-- an unknown byte leads off every panel
or_none : (a b : Bool) → (a || b) ≡ false → (a ≡ false) × (b ≡ false)
or_none true b e = absurd (true≢false e)
or_none false b e = (refl, e)

unknown_off : (p : Panel) (c : Cell) (b : ℕ) → known b ≡ false → on_panel p (stepped c b) ≡ false
unfolding known stepped
unknown_off p c b h =
    let (n, h₁) = or_none (eqb b north) _ h in
    let (e, h₂) = or_none (eqb b east) _ h₁ in
    let (s, w) = or_none (eqb b south) _ h₂ in
    simp (n, e, s, w)

pub refused_off : (p : Panel) (c : Cell) (b : ℕ) {r : Refusal} → step_by c b ≡ Err r → on_panel p (stepped c b) ≡ false
refused_off p c b e = unknown_off p c b (byte_refused c b e).0

-- a byte that leads to a cell of a panel is a letter
pub leads_on : (p : Panel) (c : Cell) (b : ℕ) {r : Result Cell Refusal} → r ≡ step_by c b → on_panel p (stepped c b) ≡ true → IsOk r
leads_on p c b e o =
    subst⁻¹ (λ (z : Result Cell Refusal). IsOk z) e
    (both_branches (λ (z : Result Cell Refusal). IsOk z) (known b) (Ok (stepped c b)) (Err UnknownByte) (λ _. refl)
    (λ k. absurd (true≢false (sym o ∙ unknown_off p c b k))))

-- where a letter leads that is taken
pub leads_to_next : (l : List ℕ) (i : ℕ) (a : Cell) {r : Result Cell Refusal} {d : Cell} → r ≡ step_by a (get_or l i 0) → r ≡ Ok d
    → stepped a (get_or l i 0) ≡ d
leads_to_next l i a e f = (byte_leads a (get_or l i 0) (sym e ∙ f)).1

pub length_walk : (c : Cell) (l : List ℕ) → length (walk_on c l) ≡ length l
length_walk c [] = refl
length_walk c (b ∷ l) = ap suc (length_walk (stepped c b) l)

-- the cell that the letter at i leads to, and those behind it
pub walk_more : (l : List ℕ) (i : ℕ) (c : Cell) {d : Cell} → i < length l → stepped c (get_or l i 0) ≡ d
    → walk_on c (drop i l) ≡ d ∷ walk_on d (drop (i + 1) l)
walk_more l i c h e = ap (walk_on c) (drop_next 0 l i h) ∙ ap (λ (d : Cell). d ∷ walk_on d (drop (i + 1) l)) e

-- where all of them are on the largest panel, that cell is, and so are those behind it
pub next_on : (l : List ℕ) (i : ℕ) (c : Cell) {d : Cell} → i < length l → all_on largest_panel (walk_on c (drop i l)) ≡ true
    → stepped c (get_or l i 0) ≡ d → (on_panel largest_panel d ≡ true) × (all_on largest_panel (walk_on d (drop (i + 1) l)) ≡ true)
next_on l i c {d} h all e = and_parts (on_panel largest_panel d) _ (sym (ap (all_on largest_panel) (walk_more l i c h e)) ∙ all)

-- ---- a buffer: what is still to be written from k on, up to n

module _ (l : List ℕ) (k n : ℕ) (c : Cell) (r : List ℕ) where
  abbrev one : List ℕ
  one = set l k c.x

  abbrev both : List ℕ
  both = set one (k + 1) c.y

  pub put_cell : k + 1 < length l → k + 1 < n → take k l ++ (c.x ∷ c.y ∷ (r ++ drop n l)) ≡ take (k + 2) both ++ (r ++ drop n both)
  put_cell h m =
      let two : k + 1 + 1 ≡ k + 2 = omega arith in
      let h₁ : k + 1 < length one = simp length-set h in
      put_byte l k n c.x (c.y ∷ r) (omega arith) (omega arith)
      ∙ put_byte one (k + 1) n c.y r h₁ m
      ∙ ap (λ (j : ℕ). take j both ++ (r ++ drop n both)) two

  -- the same where the bytes are put at a place j that is k
  pub put_cell_at : {j : ℕ} {new : List ℕ} → new ≡ set (set l j c.x) (j + 1) c.y → j ≡ k → k + 1 < length l → k + 1 < n
      → take k l ++ (c.x ∷ c.y ∷ (r ++ drop n l)) ≡ take (k + 2) new ++ (r ++ drop n new)
  put_cell_at e f h m =
      put_cell h m ∙ ap (λ (w : List ℕ). take (k + 2) w ++ (r ++ drop n w)) (sym (e ∙ ap (λ (j : ℕ). set (set l j c.x) (j + 1) c.y) f))

-- A chain of legs: each on the panel, in rectangles that are apart, each starting beside the end of the one before. Its legs' cells, one after
-- the other, are a track from its start to its end, and they add up. So a plan that is good shows that a track of its size exists.
use Prim.Native.Nat.{ℕ, ◌+◌, ◌≤◌, ◌<◌, min, max}
use mathlib.Core.Path.{◌≡◌, refl, sym, ap, ◌∙◌, subst, subst₂}
use mathlib.Core.Bool.{Bool, true, false, cond, not}
use mathlib.Core.List.{List, [], ◌∷◌, ◌++◌, append-nil, reverse}
use native.Mathlib.Omega.{arith}
use native.Mathlib.Nat.{add_assoc}
use lib.ListN.{length, length-append, length-reverse}
use Rattle.grid.specs.declared.Panel.{Panel}
use Rattle.grid.specs.declared.Cell.{Cell}
use Rattle.grid.specs.Panel.{OnPanel, Neighbours}
use Rattle.grid.specs.Track.{TrackIn, Track}
use Rattle.grid.proofs.Facts.{beside_sym}
use Rattle.grid.proofs.Track.{join, widen, backwards}
use Rattle.line.specs.Rectangle.{Inside}
use Rattle.corner.specs.Cells.{corner_cells}
use Rattle.corner.proofs.Track.{corner_track, length_corner}
use Rattle.plan.specs.declared.Leg.{Leg}
use Rattle.plan.specs.declared.Plan.{Plan}
use Rattle.plan.specs.declared.Plan.TheVariants.{One, Two, Three, Five}
use Rattle.plan.specs.Leg.{start, stop, legs, leg_count, total, leg_cells, legs_cells, forth, back, reversed_leg, reversed_plan}
pub use Rattle.plan.specs.Drawing.{Each}

-- ---- a leg from s to t on the panel

pub record LegFrom (p : Panel) (g : Leg) (s t : Cell) : Type 0 where
  pub corner : OnPanel p g.a
  pub opposite : OnPanel p g.b
  pub target : Inside g.a g.b g.t
  pub from : start g ≡ s
  pub to : stop g ≡ t

pub forth_leg : {p : Panel} {a b t : Cell} → OnPanel p a → OnPanel p b → Inside a b t → LegFrom p (forth a b t) a t
forth_leg oa ob i = record { corner = oa; opposite = ob; target = i; from = refl; to = refl }

pub back_leg : {p : Panel} {a b t : Cell} → OnPanel p a → OnPanel p b → Inside a b t → LegFrom p (back a b t) t a
back_leg oa ob i = record { corner = oa; opposite = ob; target = i; from = refl; to = refl }

-- a rectangle with its corners on the panel lies on it
pub inside_on : {p : Panel} {a b c : Cell} → OnPanel p a → OnPanel p b → Inside a b c → OnPanel p c
inside_on p q i = record {
  left = let h = i.left in omega (arith, p.left, q.left);
  right = let h = i.right in omega (arith, p.right, q.right);
  top = let h = i.top in omega (arith, p.top, q.top);
  bottom = let h = i.bottom in omega (arith, p.bottom, q.bottom);
}

-- ---- two legs' rectangles on either side of a line between columns or rows

pub data Sep (g h : Leg) : Type 0 where
  on_left : (k : ℕ) → g.a.x ≤ k → g.b.x ≤ k → k < h.a.x → k < h.b.x → Sep g h
  on_right : (k : ℕ) → k < g.a.x → k < g.b.x → h.a.x ≤ k → h.b.x ≤ k → Sep g h
  above : (k : ℕ) → g.a.y ≤ k → g.b.y ≤ k → k < h.a.y → k < h.b.y → Sep g h
  below : (k : ℕ) → k < g.a.y → k < g.b.y → h.a.y ≤ k → h.b.y ≤ k → Sep g h

pub sep_sym : {g h : Leg} → Sep g h → Sep h g
sep_sym (on_left k p q r s) = on_right k r s p q
sep_sym (on_right k p q r s) = on_left k r s p q
sep_sym (above k p q r s) = below k r s p q
sep_sym (below k p q r s) = above k r s p q

-- the four numbers in one
pub left_of : {g h : Leg} (k : ℕ) → (g.a.x ≤ k) × (g.b.x ≤ k) × (k < h.a.x) × (k < h.b.x) → Sep g h
left_of k (a, b, c, d) = on_left k a b c d

pub right_of : {g h : Leg} (k : ℕ) → (h.a.x ≤ k) × (h.b.x ≤ k) × (k < g.a.x) × (k < g.b.x) → Sep g h
right_of k f = sep_sym (left_of k f)

pub over : {g h : Leg} (k : ℕ) → (g.a.y ≤ k) × (g.b.y ≤ k) × (k < h.a.y) × (k < h.b.y) → Sep g h
over k (a, b, c, d) = above k a b c d

pub under : {g h : Leg} (k : ℕ) → (h.a.y ≤ k) × (h.b.y ≤ k) × (k < g.a.y) × (k < g.b.y) → Sep g h
under k f = sep_sym (over k f)

-- between two numbers, seen from a bound on both
below_max : {a b c k : ℕ} → a ≤ k → b ≤ k → c ≤ max a b → c ≤ k
below_max p q r = omega arith

above_min : {a b c k : ℕ} → k < a → k < b → min a b ≤ c → k < c
above_min p q r = omega arith

cross : {c k : ℕ} → c ≤ k → k < c → ⊥
cross p q = omega arith

pub sep_apart : {g h : Leg} → Sep g h → (c : Cell) → Inside g.a g.b c → Inside h.a h.b c → ⊥
sep_apart (on_left k p q r s) c i j = cross (below_max p q i.right) (above_min r s j.left)
sep_apart (on_right k p q r s) c i j = cross (below_max r s j.right) (above_min p q i.left)
sep_apart (above k p q r s) c i j = cross (below_max p q i.bottom) (above_min r s j.top)
sep_apart (below k p q r s) c i j = cross (below_max r s j.bottom) (above_min p q i.top)

-- ---- chains

pub data Chain (p : Panel) : Cell → Cell → List Leg → Type 0 where
  one : {s t : Cell} {g : Leg} → LegFrom p g s t → Chain p s t (g ∷ [])
  more : {s u v t : Cell} {g : Leg} {l : List Leg} → LegFrom p g s u → Neighbours u v → Each (Sep g) l → Chain p v t l → Chain p s t (g ∷ l)

-- a cell of some leg's rectangle
data Among : List Leg → Cell → Type 0 where
  here : {g : Leg} {l : List Leg} {c : Cell} → Inside g.a g.b c → Among (g ∷ l) c
  later : {g : Leg} {l : List Leg} {c : Cell} → Among l c → Among (g ∷ l) c

sep_among : {g : Leg} {l : List Leg} {c : Cell} → Each (Sep g) l → Inside g.a g.b c → Among l c → ⊥
sep_among Each.none i m = elim m [ ]
sep_among (Each.more s e) i (Among.here j) = sep_apart s _ i j
sep_among (Each.more s e) i (Among.later m) = sep_among e i m

among_on : {p : Panel} {s t c : Cell} {l : List Leg} → Chain p s t l → Among l c → OnPanel p c
among_on (Chain.one f) (Among.here i) = inside_on f.corner f.opposite i
among_on (Chain.one f) (Among.later m) = elim m [ ]
among_on (Chain.more f n e r) (Among.here i) = inside_on f.corner f.opposite i
among_on (Chain.more f n e r) (Among.later m) = among_on r m

-- a leg's cells are a track, walked as the leg says
leg_track : {p : Panel} {g : Leg} {s t : Cell} → LegFrom p g s t → TrackIn (Inside g.a g.b) s t (leg_cells g)
leg_track {g = g} f =
    subst₂ (λ (u v : Cell). TrackIn (Inside g.a g.b) u v (leg_cells g)) f.from f.to (go g.back (corner_track g.a g.b g.t f.target))
  where
    go : {l : List Cell} (b : Bool) → TrackIn (Inside g.a g.b) g.a g.t l
        → TrackIn (Inside g.a g.b) (cond b g.t g.a) (cond b g.a g.t) (cond b (reverse l) l)
    go true w = backwards w
    go false w = w

among_track : {p : Panel} {s t : Cell} {l : List Leg} → Chain p s t l → TrackIn (Among l) s t (legs_cells l)
among_track {s = s} {t = t} (Chain.one {g = g} f) =
    subst (λ (k : List Cell). TrackIn (Among (g ∷ [])) s t k) (sym (append-nil (leg_cells g))) (widen (λ d i. Among.here i) (leg_track f))
among_track (Chain.more f n e h) =
    join (λ c i. Among.here i) (λ c m. Among.later m) (λ c i m. sep_among e i m) (leg_track f) n (among_track h)

-- the cells of a chain's legs are a track on the panel
pub chain_track : {p : Panel} {s t : Cell} {l : List Leg} → Chain p s t l → Track p s t (legs_cells l)
chain_track h = widen (λ c m. among_on h m) (among_track h)

-- how many they are
pub length_leg : (g : Leg) → Inside g.a g.b g.t → length (leg_cells g) ≡ leg_count g
length_leg g i = either g.back (corner_cells g.a g.b g.t) ∙ length_corner g.a g.b g.t i
  where
    either : (b : Bool) (l : List Cell) → length (cond b (reverse l) l) ≡ length l
    either true l = length-reverse l
    either false l = refl

pub length_legs : (l : List Leg) → Each (λ g. Inside g.a g.b g.t) l → length (legs_cells l) ≡ total l
length_legs [] Each.none = refl
length_legs (g ∷ l) (Each.more i e) = length-append (leg_cells g) (legs_cells l) ∙ (λ j. length_leg g i j + length_legs l e j)

chain_targets : {p : Panel} {s t : Cell} {l : List Leg} → Chain p s t l → Each (λ g. Inside g.a g.b g.t) l
chain_targets (Chain.one f) = Each.more f.target Each.none
chain_targets (Chain.more f n e h) = Each.more f.target (chain_targets h)

-- ---- a plan of k cells from s to t

pub record Plans (p : Panel) (s t : Cell) (k : ℕ) (q : Plan) : Type 0 where
  pub chain : Chain p s t (legs q)
  pub size : total (legs q) ≡ k

-- its cells
pub plan_track : {p : Panel} {s t : Cell} {k : ℕ} {q : Plan} → Plans p s t k q → Track p s t (legs_cells (legs q))
plan_track h = chain_track h.chain

pub length_plan : {p : Panel} {s t : Cell} {k : ℕ} {q : Plan} → Plans p s t k q → length (legs_cells (legs q)) ≡ k
length_plan {q = q} h = length_legs (legs q) (chain_targets h.chain) ∙ h.size

-- plans of one, two, three and five legs
module _ {p : Panel} {s t : Cell} {k : ℕ} where
  pub one_leg : {g : Leg} → LegFrom p g s t → leg_count g ≡ k → Plans p s t k (One g)
  one_leg f e = record { chain = Chain.one f; size = omega arith }

  pub two_legs : {u v : Cell} {g h : Leg} → LegFrom p g s u → Neighbours u v → LegFrom p h v t → Sep g h → leg_count g + (leg_count h + 0) ≡ k
      → Plans p s t k (Two g h)
  two_legs a n b d e = record { chain = Chain.more a n (Each.more d Each.none) (Chain.one b); size = e }

  pub three_legs : {u₁ v₁ u₂ v₂ : Cell} {a b c : Leg}
      → LegFrom p a s u₁ → Neighbours u₁ v₁ → LegFrom p b v₁ u₂ → Neighbours u₂ v₂ → LegFrom p c v₂ t
      → Sep a b × Sep a c → Sep b c
      → leg_count a + (leg_count b + (leg_count c + 0)) ≡ k → Plans p s t k (Three a b c)
  three_legs a n b o c (ab, ac) bc z = record {
    chain = Chain.more a n (Each.more ab (Each.more ac Each.none)) (Chain.more b o (Each.more bc Each.none) (Chain.one c));
    size = z;
  }

  pub five_legs : {u₁ v₁ u₂ v₂ u₃ v₃ u₄ v₄ : Cell} {a b c d e : Leg}
      → LegFrom p a s u₁ → Neighbours u₁ v₁ → LegFrom p b v₁ u₂ → Neighbours u₂ v₂ → LegFrom p c v₂ u₃ → Neighbours u₃ v₃
      → LegFrom p d v₃ u₄ → Neighbours u₄ v₄ → LegFrom p e v₄ t
      → Sep a b × Sep a c × Sep a d × Sep a e → Sep b c × Sep b d × Sep b e → Sep c d × Sep c e → Sep d e
      → leg_count a + (leg_count b + (leg_count c + (leg_count d + (leg_count e + 0)))) ≡ k → Plans p s t k (Five a b c d e)
  five_legs a n b o c q d r e (ab, ac, ad, ae) (bc, bd, be) (cd, ce) de z = record {
    chain =
        Chain.more a n (Each.more ab (Each.more ac (Each.more ad (Each.more ae Each.none))))
        (Chain.more b o (Each.more bc (Each.more bd (Each.more be Each.none)))
        (Chain.more c q (Each.more cd (Each.more ce Each.none))
        (Chain.more d r (Each.more de Each.none)
        (Chain.one e))));
    size = z;
  }

-- ---- a chain walked the other way

rev_legs : List Leg → List Leg
rev_legs [] = []
rev_legs (g ∷ l) = rev_legs l ++ (reversed_leg g ∷ [])

each_append : {P : Leg → Type 0} {l k : List Leg} → Each P l → Each P k → Each P (l ++ k)
each_append Each.none b = b
each_append (Each.more p a) b = Each.more p (each_append a b)

chain_end : {p : Panel} {s u v t : Cell} {g : Leg} {l : List Leg}
    → Chain p s u l → Neighbours u v → Each (λ h. Sep h g) l → LegFrom p g v t → Chain p s t (l ++ (g ∷ []))
chain_end (Chain.one f) n (Each.more s Each.none) h = Chain.more f n (Each.more s Each.none) (Chain.one h)
chain_end (Chain.more f m e r) n (Each.more s a) h = Chain.more f m (each_append e (Each.more s Each.none)) (chain_end r n a h)

the_other : (b : Bool) (c d : Cell) → cond (not b) c d ≡ cond b d c
the_other true c d = refl
the_other false c d = refl

rev_start : (g : Leg) → start (reversed_leg g) ≡ stop g
rev_start g = the_other g.back g.t g.a

rev_stop : (g : Leg) → stop (reversed_leg g) ≡ start g
rev_stop g = the_other g.back g.a g.t

leg_back : {p : Panel} {g : Leg} {s t : Cell} → LegFrom p g s t → LegFrom p (reversed_leg g) t s
leg_back {g = g} f =
    record { corner = f.corner; opposite = f.opposite; target = f.target; from = rev_start g ∙ f.to; to = rev_stop g ∙ f.from }

sep_back : {g h : Leg} → Sep g h → Sep (reversed_leg h) (reversed_leg g)
sep_back (on_left k p q r s) = on_right k r s p q
sep_back (on_right k p q r s) = on_left k r s p q
sep_back (above k p q r s) = below k r s p q
sep_back (below k p q r s) = above k r s p q

each_back : {g : Leg} {l : List Leg} → Each (Sep g) l → Each (λ h. Sep h (reversed_leg g)) (rev_legs l)
unfolding rev_legs
each_back Each.none = Each.none
each_back (Each.more s e) = each_append (each_back e) (Each.more (sep_back s) Each.none)

chain_back : {p : Panel} {s t : Cell} {l : List Leg} → Chain p s t l → Chain p t s (rev_legs l)
unfolding rev_legs
chain_back (Chain.one f) = Chain.one (leg_back f)
chain_back (Chain.more f n e r) = chain_end (chain_back r) (beside_sym n) (each_back e) (leg_back f)

rev_plan : (q : Plan) → legs (reversed_plan q) ≡ rev_legs (legs q)
unfolding rev_legs
rev_plan (Plan.One g) = refl
rev_plan (Plan.Two g h) = refl
rev_plan (Plan.Three g h i) = refl
rev_plan (Plan.Five g h i j k) = refl

pub total_append : (l k : List Leg) → total (l ++ k) ≡ total l + total k
total_append [] k = let z : total k ≡ 0 + total k = omega arith in z
total_append (g ∷ l) k = ap (λ (n : ℕ). leg_count g + n) (total_append l k) ∙ sym (add_assoc (leg_count g) (total l) (total k))

total_rev : (l : List Leg) → total (rev_legs l) ≡ total l
unfolding rev_legs
total_rev [] = refl
total_rev (g ∷ l) = total_append (rev_legs l) (reversed_leg g ∷ []) ∙ (let h = total_rev l in omega arith)

-- the plan exchanged: from t to s
pub exchanged : {p : Panel} {s t : Cell} {k : ℕ} {q : Plan} → Plans p s t k q → Plans p t s k (reversed_plan q)
exchanged {p} {s} {t} {k} {q} h = record {
  chain = subst (λ (l : List Leg). Chain p t s l) (sym (rev_plan q)) (chain_back h.chain);
  size = ap total (rev_plan q) ∙ total_rev (legs q) ∙ h.size;
}

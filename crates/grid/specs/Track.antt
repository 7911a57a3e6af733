-- A track: a simple path of the grid graph, for any list of cells, however made.
use Rattle.std.specs.Prelude.{List, [], ◌∷◌, ◌≢◌}
use Rattle.grid.specs.declared.Panel.{Panel}
use Rattle.grid.specs.declared.Cell.{Cell}
use Rattle.grid.specs.Panel.{OnPanel, Neighbours}

-- the first cell is s, the last is t, and each next cell is a neighbour of the one before
pub data Walk : Cell → Cell → List Cell → Type 0 where
  end : {a : Cell} → Walk a a (a ∷ [])
  step : {a b t : Cell} {l : List Cell} → Neighbours a b → Walk b t l → Walk a t (a ∷ l)

-- every cell of the list has the property
pub data All (P : Cell → Type 0) : List Cell → Type 0 where
  none : All P []
  more : {c : Cell} {l : List Cell} → P c → All P l → All P (c ∷ l)

-- no cell stands twice: each differs from all that follow
pub data Once : List Cell → Type 0 where
  none : Once []
  more : {c : Cell} {l : List Cell} → All (λ d. c ≢ d) l → Once l → Once (c ∷ l)

-- a track from s to t whose cells are all in a region
pub record TrackIn (R : Cell → Type 0) (s t : Cell) (l : List Cell) : Type 0 where
  pub walk : Walk s t l
  pub once : Once l
  pub within : All R l

-- a track from s to t on a panel
abbrev pub Track : Panel → Cell → Cell → List Cell → Type 0
Track p s t l = TrackIn (OnPanel p) s t l

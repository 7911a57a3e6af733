-- Document 02, R-2 and R-6: the reader of a layer, told panel and pitch. It takes exactly the layers that the writer makes: what it takes is said by
-- the writer's layer alone.
use Rattle.std.specs.Prelude.{Result, Ok, Err, Option, None, Some}
use Rattle.grid.specs.declared.Cells.{Cells}
use Rattle.grid.specs.declared.Refusal.{Refusal}
use Rattle.std.specs.Prelude.{ℕ, ◌*◌, ◌≤◌, ◌≡◌, List, [], length, drop, leb}
use Rattle.grid.specs.declared.Panel.{Panel}
use Rattle.grid.specs.declared.Cell.{Cell}
use Rattle.grid.specs.Check.{Check}
use Rattle.grid.specs.declared.Refusal.TheVariants.{ShortBuffer, UnknownByte}
use Rattle.grid.specs.Panel.{OnPanel, area}
use Rattle.grid.specs.Bytes.{bytes}
use Rattle.grid.specs.Check.{expect, after, answer, check_panel}
use Rattle.grid.specs.Answer.{GivesCells}
use Rattle.list.specs.List.{with_cells}
use Rattle.list.specs.Check.{check_list}
use Rattle.gerber.specs.Layer.{layer_of}
use Rattle.gerber_trace.specs.declared.Trace.{Trace}
use Rattle.gerber_trace.specs.declared.Target.{Target}
use Rattle.gerber_trace.specs.Trace.{Found, cells_behind, cells_from, traced}
use Rattle.gerber_trace.specs.Trace.Aim.{cell_and}
use Rattle.gerber_read.specs.declared.Start.{Start}
use Rattle.gerber_trace.specs.Trace.Found.{none, cells}

-- a file is the layer of a list that the writer takes on this panel
pub record LayerOf (p : Panel) (file : List ℕ) (l : List Cell) : Type 0 where
  pub taken : check_list p (bytes l) ≡ Ok tt
  pub same : layer_of p l ≡ file

-- what a file is: the layer of such a list, or of none
pub data Layer (p : Panel) (file : List ℕ) : Type 0 where
  of : (l : List Cell) → LayerOf p file l → Layer p file
  other : ((l : List Cell) → LayerOf p file l → ⊥) → Layer p file

-- the list; none is empty
abbrev pub list_in : {p : Panel} {file : List ℕ} → Layer p file → List Cell
list_in (of l h) = l
list_in (other n) = []

-- 16, the file is no layer; 5, the buffer is too short for the list
abbrev pub check_file : {p : Panel} {file : List ℕ} → Layer p file → List ℕ → Check
check_file (of l h) list = expect (leb (2 * length l) (length list)) ShortBuffer (Ok tt)
check_file (other n) list = Err UnknownByte

-- 1; 18; 16; 5
abbrev pub check_reader : (p : Panel) {file : List ℕ} → Layer p file → List ℕ → Check
check_reader p f list = after (check_panel p) (check_file f list)

-- what the reader promises of its answer r and of the buffer, old before the call and new after it: the cells of the list, and the list with
-- the bytes behind it as they were; a refusal changes nothing
pub record ReadsLayer (p : Panel) (file old new : List ℕ) (r : Result Cells Refusal) : Type 0 where
  pub found : Layer p file
  pub gives : GivesCells (check_reader p found old) (length (list_in found)) r
  pub buffer : new ≡ answer (check_reader p found old) (λ c. old) (with_cells (list_in found) old)

-- ---- for the parts of the reader

-- a trace at its first cell
abbrev pub start_at : Cell → ℕ → Trace
start_at s next = record { before = s; at = s; goal = s; next = next }

-- the cells that were found, and how many; none is empty
abbrev pub found_list : Found → List Cell
found_list none = []
found_list (cells l) = l

abbrev pub found_size : Found → ℕ
found_size f = length (found_list f)

-- the cells behind the one that a trace has come to, at most as many as the panel has
abbrev pub cells_ahead : Panel → List ℕ → Trace → Found
cells_ahead p file t = cells_behind p (area p) t.before t.at t.goal (drop t.next file)

-- how many cells were found
abbrev pub size_of : Found → Option ℕ
size_of none = None
size_of (cells l) = Some (length l)

-- what a first line leads to
abbrev pub led : Panel → List ℕ → Target → Found
led p file t = cells_from p (cell_and t.cell (drop t.next file))

-- the cells of a file begin so, and are so many
pub record Starts (p : Panel) (file : List ℕ) (s : Start) : Type 0 where
  pub on : OnPanel p s.first.cell
  pub found : cells (found_list (led p file s.first)) ≡ traced p file
  pub size : s.count ≡ found_size (led p file s.first)
  pub some : 1 ≤ s.count

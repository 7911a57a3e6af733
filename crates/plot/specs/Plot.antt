-- Document 02, R-2: what the program `layer` writes for every input. A refusal is told as `foil` tells it; else the layer is that of one
-- track, and of that track only properties are promised: it is a longest one, and leaves uncovered what R-10 says.
use Rattle.std.specs.Prelude.{ℕ, List, Result, Ok, Err}
use Rattle.grid.specs.declared.Cell.{Cell}
use Rattle.grid.specs.declared.Refusal.{Refusal}
use Rattle.grid.specs.Refusal.{number}
use Rattle.printout.specs.Text.{refused_text}
use Rattle.gerber.specs.Layer.{layer_of}
use Rattle.order.specs.declared.Drawing.{Drawing}
use Rattle.order.specs.Line.{line_in}
use Rattle.order.specs.Order.{drawing_of, ChosenFor, Printed}

-- the bytes for what a line comes to, where the track is the one chosen
abbrev pub drawing_layer : Result Drawing Refusal → List Cell → List ℕ
drawing_layer (Err r) track = refused_text (number r)
drawing_layer (Ok d) track = layer_of d.panel track

-- the promise for every input
abbrev pub Plots : List ℕ → List ℕ → List ℕ → ℕ → Type 0
Plots input old new k = Printed (ChosenFor (line_in input)) (drawing_layer (drawing_of (line_in input))) old new k

-- The head of a layer is as long for every pitch.
use mathlib.Core.Path.{◌≡◌, refl}
use lib.ListN.{length}
use Rattle.grid.specs.declared.Panel.{Panel}
use Rattle.gerber.specs.Layer.{head_of}

pub head_length_lem : (p : Panel) → length (head_of p) ≡ 49
unfolding head_of
head_length_lem p = refl

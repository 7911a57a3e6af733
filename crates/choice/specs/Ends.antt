-- What the motions of the code leave of sides and terminals.
use Rattle.std.specs.Prelude.{ℕ, ◌+◌, ◌≤◌, ◌≡◌, cond, ltb, ⊤}
use Rattle.grid.specs.Panel.{max_side}
use Rattle.shapes.specs.declared.motions.Motion.{Motion}
use Rattle.shapes.specs.declared.motions.Motion.TheVariants.{Turn, MirrorX, MirrorY}
use Rattle.shapes.specs.Motion.{moved_cell}
use Rattle.choice.specs.declared.Ends.{Ends}

-- a mirrored coordinate stays small
abbrev pub Fits : Motion → Type 0
Fits Turn = ⊤
Fits (MirrorX k) = k ≤ max_side + 1
Fits (MirrorY k) = k ≤ max_side + 1

abbrev pub moved_width : Motion → Ends → ℕ
moved_width Turn e = e.n
moved_width (MirrorX k) e = e.m
moved_width (MirrorY k) e = e.m

abbrev pub moved_height : Motion → Ends → ℕ
moved_height Turn e = e.m
moved_height (MirrorX k) e = e.n
moved_height (MirrorY k) e = e.n

-- d is e moved
pub record Moved (k : Motion) (e d : Ends) : Type 0 where
  pub wide : d.m ≡ moved_width k e
  pub high : d.n ≡ moved_height k e
  pub from : d.s ≡ moved_cell k e.s
  pub to : d.t ≡ moved_cell k e.t

-- d is e with its terminals exchanged
pub record Exchanged (e d : Ends) : Type 0 where
  pub wide : d.m ≡ e.m
  pub high : d.n ≡ e.n
  pub from : d.s ≡ e.t
  pub to : d.t ≡ e.s

-- d is e with its terminals named so that the first is not right of the second
pub record LeftFirst (e d : Ends) : Type 0 where
  pub wide : d.m ≡ e.m
  pub high : d.n ≡ e.n
  pub from : d.s ≡ cond (ltb e.t.x e.s.x) e.t e.s
  pub to : d.t ≡ cond (ltb e.t.x e.s.x) e.s e.t

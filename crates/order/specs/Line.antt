-- Document 01, "Program foil", with R-1's pitch: the form of an order's line, and how it is read.
use Rattle.std.specs.Prelude.{ℕ, List, Option, Some, None}
use Rattle.grid.specs.declared.Panel.{Panel}
use Rattle.grid.specs.declared.Cell.{Cell}
use Rattle.grid.specs.Panel.{panel, cell}
use Rattle.text.specs.Field.{blank, line_feed, field_of, field, and_then}
use Rattle.grid.specs.declared.Order.{Order}

-- an order's line, and the rest: m, n, entry x, entry y, exit x, exit y, pitch, one blank between, a line feed after
abbrev pub line_of : Panel → Cell → Cell → List ℕ → List ℕ
line_of p s t rest =
    field_of p.width blank (field_of p.height blank
    (field_of s.x blank (field_of s.y blank
    (field_of t.x blank (field_of t.y blank
    (field_of p.pitch line_feed rest))))))

-- an order of its parts
abbrev pub order : Panel → Cell → Cell → Order
order p s t = record { panel = p; entry = s; exit = t }

-- the order in the first line of an input; bytes after its line feed are not looked at
abbrev pub line_in : List ℕ → Option Order
line_in l =
    and_then None (field blank l) (λ m l. and_then None (field blank l) (λ n l.
    and_then None (field blank l) (λ sx l. and_then None (field blank l) (λ sy l.
    and_then None (field blank l) (λ tx l. and_then None (field blank l) (λ ty l.
    and_then None (field line_feed l) (λ q l.
    Some (order (panel m n q) (cell sx sy) (cell tx ty)))))))))

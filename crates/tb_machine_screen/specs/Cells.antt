-- Cells of the screen.
use Rattle.tb_machine_screen.specs.declared.cells.Cell.{Cell}
use Rattle.tb_machine_screen.specs.Numbers.{SPACE}
use Rattle.tb_machine_screen.specs.declared.colours.Colour.{Colour}

-- a space of this colour
abbrev pub blank : Colour → Cell
blank colour = record { code = SPACE; colour = colour }

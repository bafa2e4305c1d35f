-- What is on a screen.
use Rattle.std.specs.Prelude.{ℕ, Bool, false, List, replicate}
use Rattle.tb_machine_screen.specs.Cells.{blank}
use Rattle.tb_machine_screen.specs.declared.cells.Cell.{Cell}
use Rattle.tb_machine_screen.specs.Numbers.{PLACES, ROWS}
use Rattle.tb_machine_screen.specs.declared.colours.Colour.{Colour}
use Rattle.tb_machine_screen.specs.declared.colours.Colour.TheVariants.{LightBlue}
use Rattle.tb_machine_screen.specs.declared.colours.CharacterSet.{CharacterSet}
use Rattle.tb_machine_screen.specs.declared.colours.CharacterSet.TheVariants.{Graphics}

-- the cells row by row, which rows go on the line above, the cursor's place, and how the next byte is shown
pub record Content : Type 0 where
  pub cells : List Cell
  pub joined : List Bool
  pub row : ℕ
  pub column : ℕ
  pub colour : Colour
  pub reverse : Bool
  pub quoted : Bool
  pub inserts : ℕ
  pub set : CharacterSet

-- a blank screen, the cursor at its top left
unfoldable pub first_content : Content
first_content =
    record {
      cells = replicate PLACES (blank LightBlue);
      joined = replicate ROWS false;
      row = 0;
      column = 0;
      colour = LightBlue;
      reverse = false;
      quoted = false;
      inserts = 0;
      set = Graphics;
    }

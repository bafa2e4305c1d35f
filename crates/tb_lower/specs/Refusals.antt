-- What a refusal to lower a program means.
use Rattle.std.specs.Prelude.{◌≡◌, Some}
use Rattle.tb_basic_syntax.specs.Source.{Program}
use Rattle.tb_basic_meaning.specs.declared.needs.LowerError.{LowerError}
use Rattle.tb_basic_meaning.specs.declared.needs.LowerError.TheVariants.{TooDeep, NoMemory}
use Rattle.tb_basic_meaning.specs.Need.{too_deep}

-- running out of memory says nothing about the program
abbrev pub IsRefusal : Program → LowerError → Type 0
IsRefusal program (TooDeep n) = too_deep program ≡ Some n
IsRefusal program NoMemory = Unit {0}

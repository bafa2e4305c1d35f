-- The interpreter's places and faults.
use Rattle.std.specs.Prelude.{ℕ}
use Rattle.tb_basic_meaning.specs.declared.places.Place as rust_place
use Rattle.tb_basic_meaning.specs.declared.places.Place.TheVariants as place
use Rattle.tb_basic_meaning.specs.declared.faults.Fault.{Fault}
use Rattle.tb_basic_meaning.specs.declared.faults.Fault.TheVariants as fault
use Rattle.tb_basic_meaning.specs.Control.{Place, At, Past}

-- where the interpreter is
abbrev pub place_of : rust_place.Place → Place
place_of (place.At n) = At n
place_of place.Past = Past

-- the number of a fault
abbrev pub fault_of : Fault → ℕ
fault_of fault.Break = 0
fault_of fault.NoLine = 1
fault_of fault.DivisionByZero = 2
fault_of fault.RandomRange = 3
fault_of fault.ReturnsTooDeep = 4
fault_of fault.NoReturn = 5
fault_of fault.BadInput = 6
fault_of fault.PastLast = 7

-- What reading answers.
use Rattle.std.specs.Prelude.{◌≡◌, Result, Ok, Err, List}
use Rattle.tb_assembly_text.specs.declared.faults.Fault.{Fault}
use Rattle.tb_assembly_text.specs.declared.faults.LineError.{LineError}
use Rattle.tb_assembly_text.specs.declared.faults.LineError.TheVariants.{Bad, NoMemory}

-- something is read as `wanted`, is refused with its fault, or memory ran out
abbrev pub Reads : {A B : Type 0} → (A → B) → Result B Fault → Result A LineError → Type 0
Reads view wanted (Ok v) = wanted ≡ Ok (view v)
Reads view wanted (Err (Bad f)) = wanted ≡ Err f
Reads view wanted (Err NoMemory) = Unit {0}

-- a list is filled with what is wanted, or refused with the fault, or memory ran out
abbrev pub Splits : {U T : Type 0} → Result (List T) Fault → Result U LineError → List T → Type 0
Splits wanted (Ok u) new = wanted ≡ Ok new
Splits wanted (Err (Bad f)) new = wanted ≡ Err f
Splits wanted (Err NoMemory) new = Unit {0}

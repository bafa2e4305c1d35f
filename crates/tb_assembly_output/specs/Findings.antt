-- All that is wrong with a text.
use Rattle.std.specs.Prelude.{ℕ, Bool, true, false, if◌then◌else◌, List, [], ◌∷◌, map, unwrap_or}
use Rattle.std.specs.List.{slice_get}
use Rattle.tb_assembly_files.specs.declared.faults.Place.{Place}
use Rattle.tb_assembly_files.specs.declared.faults.Problem.{Problem}
use Rattle.tb_assembly_files.specs.declared.faults.Problem.TheVariants as problem
use Rattle.tb_assembly_files.specs.declared.faults.BadLine.{BadLine}
use Rattle.tb_assembly_files.specs.Expansion.{Read}
use Rattle.tb_assembly_meaning.specs.declared.meaning.StatementFault.{StatementFault}
use Rattle.tb_assembly_meaning.specs.Meaning.{faults_of}
use Rattle.tb_assembly_report.specs.declared.causes.Cause.{Cause}
use Rattle.tb_assembly_report.specs.declared.causes.Cause.TheVariants.{Line, Include, Meaning}
use Rattle.tb_assembly_report.specs.declared.causes.Finding.{Finding}

-- the cause of a problem
abbrev pub cause_of : Problem → Cause
cause_of (problem.Line k) = Line k
cause_of (problem.Include f) = Include f

-- a line that is bad
abbrev pub bad_finding : BadLine → Finding
bad_finding b = record { place = b.place; column = b.column; cause = cause_of b.problem }

-- where a statement stands
abbrev pub place_at : List Place → ℕ → Place
place_at places i = unwrap_or (slice_get places i) (record { file = 0; line = 0 })

-- a statement that is refused
abbrev pub fault_finding : List Place → StatementFault → Finding
fault_finding places f = record { place = place_at places f.index; column = f.fault.column; cause = Meaning f.fault.wrong }

-- whether a list has nothing
abbrev pub is_nil : {A : Type 0} → List A → Bool
is_nil [] = true
is_nil (x ∷ xs) = false

-- all that is wrong with what was read, whose image begins at an address: its bad lines, or else what its statements mean
abbrev pub findings : ℕ → Read → List Finding
findings at r = if is_nil r.bad then map (fault_finding r.places) (faults_of at r.said) else map bad_finding r.bad

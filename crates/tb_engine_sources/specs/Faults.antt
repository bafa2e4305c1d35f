-- By which fault a program ended.
use Rattle.std.specs.Prelude.{ℕ, ℤ, ◌==◌, List, [], ◌∷◌, ◌++◌, codes, Option, Some, None, option_map, unwrap_or, if◌then◌else◌}
use Rattle.std.specs.Int.{cast_signed, w16}
use Rattle.std.specs.Fmt.{decimal, signed_decimal}
use Rattle.tb_cpu.specs.Operands.{word_in}
use Rattle.tb_basic_meaning.specs.declared.missing.Warning.{Warning}
use Rattle.tb_compiled_kept.specs.Addresses.{WANTED}
use Rattle.tb_debug_inspection.specs.Faults.{fault_in, line_in, meaning_of, number_of}
use Rattle.tb_debug_inspection.specs.declared.faults.FaultKind.{FaultKind}
use Rattle.tb_debug_inspection.specs.declared.faults.FaultKind.TheVariants.{NoSuchLine}
use Rattle.tb_engine_sources.specs.declared.faults.Fault.{Fault}

-- the line to which the constant jump of a line goes, if there is no such line
abbrev pub missing_line : ℕ → List Warning → Option ℤ
missing_line line [] = None
missing_line line (w ∷ ws) = if w.line == line then Some w.target else missing_line line ws

-- the line that a jump looked for: its constant one, or else the one that was looked for last
abbrev pub wanted_line : List Warning → ℕ → (ℕ → ℕ) → ℤ
wanted_line warnings line m = unwrap_or (missing_line line warnings) (cast_signed w16 (word_in m WANTED))

-- a fault at a line
abbrev pub fault_at : List Warning → (ℕ → ℕ) → ℕ → FaultKind → Fault
fault_at warnings m line k = record { kind = k; line = line; wanted = wanted_line warnings line m }

-- the fault by which a program ended, by what it sent and the line that is in memory
abbrev pub fault_of : List Warning → List ℕ → (ℕ → ℕ) → Option Fault
fault_of warnings sent m = option_map (fault_at warnings m (line_in m)) (fault_in sent m)

-- what is said of a fault: its line, and what it means, or the line that was looked for
abbrev pub said_of : FaultKind → ℕ → ℤ → List ℕ
said_of NoSuchLine line wanted = codes "fault 1 at line " ++ (decimal line ++ (codes ": no line " ++ signed_decimal wanted))
said_of k line wanted = codes "fault " ++ (decimal (number_of k) ++ (codes " at line " ++ (decimal line ++ (codes ": " ++ meaning_of k))))

abbrev pub fault_note_text : Fault → List ℕ
fault_note_text f = said_of f.kind f.line f.wanted

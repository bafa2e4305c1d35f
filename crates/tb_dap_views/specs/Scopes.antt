-- What the scopes of a frame show.
use Rattle.std.specs.Prelude.{ℕ, ℤ, ◌+◌, ◌*◌, ◌==◌, List, [], ◌∷◌, codes, Option, Some, None, if◌then◌else◌}
use Rattle.std.specs.Char.{encode_utf8}
use Rattle.std.specs.Fmt.{decimal, signed_decimal}
use Rattle.serde_json.specs.Data.{Data, item, no_items}
use Rattle.serde_json.specs.View.{items_of}
use Rattle.tb_dap_values.specs.Bodies.{named_value, variable_value, variables_body}
use Rattle.tb_cpu.specs.Effects.{status_byte}
use Rattle.tb_cpu.specs.declared.registers.Regs.{Regs}
use Rattle.tb_debug_inspection.specs.Texts.{status_text}
use Rattle.tb_kernal.specs.Machine.{state_of, status}
use Rattle.tb_kernal.specs.declared.status.Status.{Status}
use Rattle.tb_compiled_kept.specs.Addresses.{VARS}
use Rattle.tb_debug.specs.Debuggers.{begun_by}
use Rattle.tb_debug.specs.Telling.{variables_here}
use Rattle.tb_debug.specs.declared.debugger.Debugger.{Debugger}
use Rattle.tb_dap_views.specs.Texts.{address_shown, byte_shown, reference}

-- a variable, with its value and where it is
abbrev pub variable_of : ℕ → ℤ → Data
variable_of i value = variable_value (encode_utf8 (65 + i)) (signed_decimal value) (reference (VARS + 2 * i))

-- variables, of which the first has this index in the alphabet
abbrev pub variables_from : ℕ → List ℤ → List Data
variables_from i [] = []
variables_from i (value ∷ values) = variable_of i value ∷ variables_from (i + 1) values

-- A to Z
abbrev pub variables_of : List ℤ → Data
variables_of values = variables_body (items_of (variables_from 0 values))

-- a register of a byte
abbrev pub byte_of : List ℕ → ℕ → Data
byte_of name byte = named_value name (byte_shown byte)

-- the program counter
abbrev pub pc_of : ℕ → Data
pc_of pc = named_value (codes "PC") (address_shown pc)

-- the registers
abbrev pub registers_of : Regs → Data
registers_of r =
    variables_body (item (pc_of r.pc) (item (byte_of (codes "A") r.a) (item (byte_of (codes "X") r.x) (item (byte_of (codes "Y") r.y)
    (item (byte_of (codes "S") r.s) (item (byte_of (codes "P") (status_byte r.flags)) no_items))))))

-- how many lines are done at a line's beginning, else how many were begun
abbrev pub time_of : ℕ → Data
time_of time = named_value (codes "time") (decimal time)

-- the run, and how its machine stands
abbrev pub run_of : ℕ → Status → Data
run_of time s = variables_body (item (time_of time) (item (named_value (codes "status") (status_text s)) no_items))

-- what a scope of a run shows, by the number that asks for it
abbrev pub scope_of : Debugger → ℕ → Option Data
scope_of d scope =
    if scope == 1 then Some (variables_of (variables_here d))
    else if scope == 2 then Some (registers_of d.present.machine.regs)
    else if scope == 3 then Some (run_of (begun_by d) (status (state_of d.present.machine)))
    else None

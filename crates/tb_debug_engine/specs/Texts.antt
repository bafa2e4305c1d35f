-- The texts of the debugger's answers.
use Rattle.std.specs.Prelude.{ℕ, zero, suc, ◌+◌, ◌%◌, ◌==◌, Bool, true, false, ℤ, pos, List, [], ◌∷◌, ◌++◌, codes, flat_map}
use Rattle.std.specs.Prelude.{map, min, Option, Some, None, Ok, if◌then◌else◌}
use Rattle.std.specs.Ordering.{int_eq}
use Rattle.hex.specs.Hex.{encode_upper}
use Rattle.tb_kernal.specs.declared.status.Status.{Status}
use Rattle.tb_kernal.specs.declared.status.Status.TheVariants.{Wrong}
use Rattle.tb_engine_streams.specs.HostForm.{host_form_of}
use Rattle.tb_engines.specs.Programs.{end_of}
use Rattle.tb_engines.specs.Texts.{end_text}
use Rattle.tb_disasm.specs.declared.listing.Line.{Line as CodeLine}
use Rattle.tb_disasm.specs.Lines.{shown}
use Rattle.tb_disasm.specs.ListingText.{text_of as listing_text}
use Rattle.tb_debug_inspection.specs.Texts.{address_text, limit, no_such_line, registers_text, status_text, value_text, what}
use Rattle.tb_debug.specs.declared.answer.Answer.{Answer}
use Rattle.tb_debug.specs.declared.answer.Answer.TheVariants as answer
use Rattle.tb_debug.specs.declared.answer.Location.{Location}
use Rattle.tb_debug.specs.declared.answer.Location.TheVariants as location
use Rattle.tb_debug.specs.declared.answer.Stand.{Stand}
use Rattle.tb_debug_engine.specs.Lists.{list_text, written}
use Rattle.tb_debug_engine.specs.declared.texts.TheConstants.{GOES_THROUGH_FAULTS, NO_SOURCE, STOPS_AT_FAULTS, UNKNOWN}

-- a text in a line of its own
abbrev pub line : List ℕ → List ℕ
line text = text ++ 10 ∷ []

-- a text, or `none` if it is empty
abbrev pub or_none : List ℕ → List ℕ
or_none [] = line (codes "none")
or_none (b ∷ bs) = b ∷ bs

-- ---- where a run is

-- a text with each of its lines after `| `, the last one ended too; the first one begins here, or has begun
abbrev pub barred_from : (begins : Bool) → List ℕ → List ℕ
barred_from true [] = []
barred_from false [] = 10 ∷ []
barred_from true (b ∷ bs) = codes "| " ++ b ∷ barred_from (b == 10) bs
barred_from false (b ∷ bs) = b ∷ barred_from (b == 10) bs

-- what was sent in the host form, each line after `| `
abbrev pub sent_text : List ℕ → List ℕ
sent_text sent = barred_from true (host_form_of sent)

-- how a machine stands that doesn't run: if it went wrong, as a run's end
abbrev pub standing_text : Status → ℕ → List ℕ
standing_text (Wrong w) pc = end_text (end_of (Wrong w) pc)
standing_text t pc = status_text t

-- lines of code as a listing; `--` if there is none
abbrev pub code_text : List CodeLine → List ℕ
code_text [] = line (codes "--")
code_text (l ∷ ls) = listing_text (map shown (l ∷ ls))

-- the line at which a run is, `start` before the first one, the instruction without a source, or how its machine stands
abbrev pub location_text : List (ℕ × List ℕ) → Location → List CodeLine → List ℕ
location_text lines (location.Line number) instruction = written lines number
location_text lines location.Opening instruction = line (codes "start")
location_text lines location.Instruction instruction = code_text instruction
location_text lines (location.Ended status pc) instruction = line (standing_text status pc)

-- what was sent since the last stop, `limit` if the limit of events ended the way here, and where the run is
abbrev pub stand_text : List (ℕ × List ℕ) → Stand → List ℕ
stand_text lines stand =
    sent_text stand.sent.items ++ ((if stand.is_limit then line limit else []) ++ location_text lines stand.location stand.instruction.items)

-- ---- variables and lines

-- a variable by its index in the alphabet, and its value
unfoldable pub variable_text : ℕ → ℤ → List ℕ
variable_text index value = (65 + min index 25) ∷ 61 ∷ line (value_text (Ok value))

-- a variable by its index in the alphabet, and its value, if that isn't 0; else nothing
abbrev pub unless_zero : ℕ → ℤ → List ℕ
unless_zero index value = if int_eq value (pos 0) then [] else variable_text index value

-- the variables from an index of the alphabet on that are not 0
abbrev pub variables_from : ℕ → List ℤ → List ℕ
variables_from index [] = []
variables_from index (value ∷ values) = unless_zero index value ++ variables_from (suc index) values

-- a line to return to, or `past` for a return past the last one
abbrev pub return_text : List (ℕ × List ℕ) → Option ℕ → List ℕ
return_text lines (Some number) = written lines number
return_text lines None = line (codes "past")

-- ---- memory

-- an address after `$`, in a line of its own
abbrev pub address_line : ℕ → List ℕ
address_line address = 36 ∷ line (address_text address)

-- a byte in two hexadecimal digits after a space; `--` for a closed address
abbrev pub byte_text : Option ℕ → List ℕ
byte_text (Some byte) = 32 ∷ encode_upper (byte ∷ [])
byte_text None = codes " --"

-- what comes before a byte that n bytes precede: for the first of 16 in a line its address, and the end of the line before
abbrev pub row_text : ℕ → ℕ → List ℕ
row_text n address = if n % 16 == 0 then (if n == 0 then [] else 10 ∷ []) ++ address_text address else []

-- bytes from an address on, which n bytes precede: 16 in a line, after the address of the first one
abbrev pub bytes_text : ℕ → ℕ → List (Option ℕ) → List ℕ
bytes_text n address [] = []
bytes_text n address (byte ∷ bytes) =
    row_text n address ++ (byte_text byte ++ bytes_text (suc n) ((address + 1) % 65536) bytes)

-- ---- answers

-- the table of commands
abbrev pub help_text : List ℕ
help_text =
    line (codes "n [K]      on by K lines")
    ++ (line (codes "p [K]      back by K lines")
    ++ (line (codes "c          on to a breakpoint or behind a line that changes what is watched")
    ++ (line (codes "rc         back to a breakpoint or to a line that changed what is watched")
    ++ (line (codes "j          on to the next line, over a GOSUB with all it does, or as c")
    ++ (line (codes "u          on out of the subroutine, or as c")
    ++ (line (codes "b [N]      breakpoint at line N on or off; all breakpoints")
    ++ (line (codes "w X        watch on variable X on or off")
    ++ (line (codes "f          stop of c at the line that faults on or off")
    ++ (line (codes "g N        on to line N")
    ++ (line (codes "t M        to time M, when M lines are done")
    ++ (line (codes "l [N]      source round the place, or round line N")
    ++ (line (codes "v [X]      variables that are not 0, or variable X")
    ++ (line (codes "e EXPR     value of an expression")
    ++ (line (codes "r          lines to return to, the newest first")
    ++ (line (codes "o          all output so far")
    ++ (line (codes "k TEXT     types TEXT and a return")
    ++ (line (codes "s [K]      on by K machine steps")
    ++ (line (codes "x          registers")
    ++ (line (codes "m ADDR [K] K bytes of memory, ADDR four hexadecimal digits")
    ++ (line (codes "i          machine code here")
    ++ (line (codes "h          this help")
    ++ line (codes "q          end"))))))))))))))))))))))

-- the answer to a line that is no command, and to a text that is no expression: with what helps, or without
abbrev pub what_text : (hints : Bool) → List ℕ
what_text true = UNKNOWN.now
what_text false = what

-- whether faults stop `c` then
abbrev pub faults_text : Bool → List ℕ
faults_text true = STOPS_AT_FAULTS.now
faults_text false = GOES_THROUGH_FAULTS.now

-- the text of an answer: lines, each ended by 10
abbrev pub text_of : (hints : Bool) → List (ℕ × List ℕ) → List ℕ → Answer → List ℕ
text_of hints lines numbers (answer.Stop stand) = stand_text lines stand
text_of hints lines numbers answer.Set = line (codes "set")
text_of hints lines numbers answer.Cleared = line (codes "cleared")
text_of hints lines numbers (answer.Faults is_set) = line (faults_text is_set)
text_of hints lines numbers (answer.Breakpoints set) = or_none (flat_map (written lines) set.items)
text_of hints lines numbers (answer.Addresses set) = or_none (flat_map address_line set.items)
text_of hints lines numbers (answer.List around here) = list_text lines numbers around here
text_of hints lines numbers (answer.Variables values) = or_none (variables_from 0 values)
text_of hints lines numbers (answer.Variable index value) = variable_text index value
text_of hints lines numbers (answer.Value value) = line (value_text value)
text_of hints lines numbers (answer.Returns noted) = or_none (flat_map (return_text lines) noted.items)
text_of hints lines numbers (answer.Output sent) = or_none (sent_text sent.items)
text_of hints lines numbers answer.Typed = line (codes "typed")
text_of hints lines numbers (answer.Registers regs at status) = line (registers_text regs at status)
text_of hints lines numbers (answer.Memory at bytes) = line (bytes_text 0 at bytes.items)
text_of hints lines numbers (answer.Code code) = code_text code.items
text_of hints lines numbers answer.Help = help_text
text_of hints lines numbers answer.NoSuchLine = line no_such_line
text_of hints lines numbers answer.NoSource = line NO_SOURCE.now
text_of hints lines numbers answer.What = line (what_text hints)

-- The code of single slot instructions, as items of the assembler.
use Rattle.std.specs.Prelude.{ℕ, Option, Some, None, ◌+◌, ◌*◌, ◌/◌, ◌%◌, List, [], ◌∷◌, ◌++◌, length, nat_lt, if◌then◌else◌}
use Rattle.tb_opcodes.specs.declared.Mnemonic.{Mnemonic}
use Rattle.tb_opcodes.specs.declared.Mnemonic.TheVariants.{Beq, Bne, Dex, Inc, Jmp, Jsr, Lda, Ldx, Ldy, Rts, Sta, Stx}
use Rattle.tb_opcodes.specs.declared.Mode.{Mode}
use Rattle.tb_opcodes.specs.declared.Mode.TheVariants.{Implied, Immediate, ZeroPage, Relative, Absolute, AbsoluteX, Indirect}
use Rattle.tb_asm.specs.declared.items.Operand.{Operand}
use Rattle.tb_asm.specs.declared.items.Operand.TheVariants.{Nothing, Byte, Word, Label, LowOf, HighOf}
use Rattle.tb_asm.specs.Layout.{Entry, instr, label, bytes}
use Rattle.tb_words.specs.Words.{word}
use Rattle.tb_basic_meaning.specs.Control.{Place, At, Past, next_after, has_line}
use Rattle.tb_lower.specs.Slots.{Instr, Put, Load, Store, Negate, Compute, Random, SendText, SendNumber, SendZone, SendNewline, Input, Poll, Hold, LeaveUnless, Jump, Call, JumpTo, CallTo, Return, End}
use Rattle.tb_kernal.specs.Numbers.{CHROUT}
use Rattle.tb_compiled_kept.specs.Addresses.{POINTER, LENGTH, LEFT, RESULT, LINE, NOTES, RETURN_LOW, RETURN_HIGH, SLOTS, COLUMN, var_at}
use Rattle.tb_runtime16.specs.Addresses.{SEND_AT, TEXT_AT, ZONE_AT, INPUT_AT, PUSH_AT, POP_AT, FAULT_LINE_AT, POLL_AT}
use Rattle.tb_compiler_templates.specs.declared.labels.Inner.TheVariants as inner
use Rattle.tb_compiler_templates.specs.declared.labels.Target.{Target}
use Rattle.tb_compiler_templates.specs.declared.labels.Target.TheVariants as target
use Rattle.tb_compiler_templates.specs.Labels.{label_of}

-- the address of slot k
abbrev pub slot_at : ℕ → ℕ
slot_at k = SLOTS + 2 * k

-- ── single instructions: at an address, with a constant, alone ──
-- an instruction whose operand is an address
abbrev pub at : Mnemonic → ℕ → Entry
at mnemonic address = instr mnemonic Absolute (Word address)

-- how the byte at an address is reached: page zero has a mode of its own
abbrev pub mode_at : ℕ → Mode
mode_at address = if nat_lt address 256 then ZeroPage else Absolute

-- the operand of an instruction on the byte at an address: a byte in page zero, else a word
abbrev pub operand_at : ℕ → Operand
operand_at address = if nat_lt address 256 then Byte address else Word address

-- an instruction on the byte at an address, in the shortest mode
abbrev pub on : Mnemonic → ℕ → Entry
on mnemonic address = instr mnemonic (mode_at address) (operand_at address)

-- an instruction on the byte X after an address
abbrev pub by_x : Mnemonic → ℕ → Entry
by_x mnemonic address = instr mnemonic AbsoluteX (Word address)

-- an instruction with a constant byte as its immediate operand
abbrev pub const : Mnemonic → ℕ → Entry
const mnemonic byte = instr mnemonic Immediate (Byte byte)

-- an instruction without an operand
abbrev pub alone : Mnemonic → Entry
alone mnemonic = instr mnemonic Implied Nothing

-- a load of the low byte of a label's address
abbrev pub low_part : Target → Entry
low_part of = instr Lda Immediate (LowOf (label_of of))

-- a load of the high byte of a label's address
abbrev pub high_part : Target → Entry
high_part of = instr Lda Immediate (HighOf (label_of of))

-- a branch to a label
abbrev pub branch : Mnemonic → Target → Entry
branch mnemonic to = instr mnemonic Relative (Label (label_of to))

-- a JMP to a label
abbrev pub jump : Target → Entry
jump to = instr Jmp Absolute (Label (label_of to))

-- a label
abbrev pub here : Target → Entry
here target = label (label_of target)

-- a JSR to a routine's entry
abbrev pub call : ℕ → Entry
call routine = at Jsr routine

-- ── pieces ──
-- copies a word to an address above page zero
abbrev pub copied : ℕ → ℕ → List Entry
copied from to = on Lda from ∷ at Sta to ∷ on Lda (from + 1) ∷ at Sta (to + 1) ∷ []

-- stores a constant word
abbrev pub constant : ℕ → ℕ → List Entry
constant w to = const Lda (w % 256) ∷ at Sta to ∷ const Lda (w / 256) ∷ at Sta (to + 1) ∷ []

-- stores the address of a label as a word of page zero
abbrev pub address : Target → ℕ → List Entry
address of to = low_part of ∷ instr Sta ZeroPage (Byte to) ∷ high_part of ∷ instr Sta ZeroPage (Byte (to + 1)) ∷ []

-- goes on at the address that stands at a place
abbrev pub jump_by : ℕ → List Entry
jump_by place = instr Jmp Indirect (Word place) ∷ []

-- goes on at the address in the result: a return or the search's answer
abbrev pub jump_through : List Entry
jump_through = jump_by RESULT

-- fault k in line n
abbrev pub faulted : ℕ → ℕ → List Entry
faulted n k = const Ldx (n % 256) ∷ const Ldy (n / 256) ∷ const Lda k ∷ at Jmp FAULT_LINE_AT ∷ []

-- a call of the search in the line table
abbrev pub find : Entry
find = instr Jsr Absolute (Label (label_of target.Find))

-- puts the return to the next line on the return list
abbrev pub return_address : Target → List Entry
return_address next = address next LEFT ++ (call PUSH_AT ∷ [])

-- a branch by whether a byte is 0, which stays in X
abbrev pub by_zero : Mnemonic → ℕ → Target → List Entry
by_zero mnemonic place to = at Ldx place ∷ branch mnemonic to ∷ []

-- a return's two bytes go after the others, and the low byte of their count goes up
abbrev pub return_stored : Target → List Entry
return_stored next = at Ldx NOTES ∷ low_part next ∷ by_x Sta RETURN_LOW ∷ high_part next ∷ by_x Sta RETURN_HIGH ∷ at Inc NOTES ∷ []

-- a carry goes to the count's high byte
abbrev pub carried : Target → List Entry
carried skip = branch Bne skip ∷ at Inc (NOTES + 1) ∷ here skip ∷ []

-- puts the return on the list in line if the count of returns fits in its low byte; else it goes to `over`
abbrev pub held : (next skip over : Target) → List Entry
held next skip over = by_zero Bne (NOTES + 1) over ++ (return_stored next ++ carried skip)

-- X is the low byte of the count of returns: it goes down, and the newest return's two bytes go to page zero
abbrev pub return_taken : List Entry
return_taken = alone Dex ∷ at Stx NOTES ∷ by_x Lda RETURN_LOW ∷ on Sta LEFT ∷ by_x Lda RETURN_HIGH ∷ on Sta (LEFT + 1) ∷ []

-- takes the newest return in line and goes on there, if it is one of the first 255; else it goes to `over`
abbrev pub taken_back : Target → List Entry
taken_back over = by_zero Bne (NOTES + 1) over ++ (by_zero Beq NOTES over ++ (return_taken ++ jump_by LEFT))

-- the call that sends a text of that length
abbrev pub text_call : ℕ → List Entry
text_call n = const Lda n ∷ at Sta LENGTH ∷ call TEXT_AT ∷ []

-- a text as it is, jumped over
abbrev pub inline : Target → Target → List ℕ → List Entry
inline of behind bs = jump behind ∷ here of ∷ bytes bs ∷ here behind ∷ []

-- a text inside the code, sent
abbrev pub text : Target → Target → List ℕ → List Entry
text of behind bs = address of POINTER ++ (text_call (length bs) ++ inline of behind bs)

-- the byte of a text that has one byte alone
abbrev pub only_byte : List ℕ → Option ℕ
only_byte (b ∷ []) = if nat_lt b 256 then Some b else None
only_byte bs = None

-- a byte in line, sent
abbrev pub byte_sent : ℕ → List Entry
byte_sent b = const Lda b ∷ call SEND_AT ∷ []

-- a text, sent: its only byte in line, or all of it by the call
abbrev pub sent : Option ℕ → Target → Target → List ℕ → List Entry
sent (Some b) of behind bs = byte_sent b
sent None of behind bs = text of behind bs

-- ── templates ──
-- the label of a place: its line, or what follows the last one
abbrev pub target_of : Place → Target
target_of (At n) = target.Line n
target_of Past = target.Past

-- the line after line n
abbrev pub next_line : List ℕ → ℕ → Target
next_line numbers n = target_of (next_after numbers n)

-- goes from line n to a constant line; fault 1 if the program has no such line
abbrev pub jump_to : List ℕ → ℕ → ℕ → List Entry
jump_to numbers n to = if has_line numbers to then jump (target.Line to) ∷ [] else faulted n 1

-- puts the return on the list and goes from line n to another; the routine may fault, so the line's number is set first
abbrev pub called : ℕ → ℕ → (next skip over : Target) → List Entry
called n to next skip over =
    held next skip over ++ (jump (target.Line to) ∷ here over ∷ (constant n LINE ++ (return_address next ++ (jump (target.Line to) ∷ []))))

-- puts the return on the list and goes from line n, in group i, to a constant line; fault 1 if there is no such line
abbrev pub call_to : List ℕ → ℕ → ℕ → ℕ → Target → List Entry
call_to numbers n i to next =
    if has_line numbers to then called n to next (target.Inside inner.Skip n i) (target.Inside inner.Behind n i) else faulted n 1

-- goes from line n to the newest return
abbrev pub returned : ℕ → Target → List Entry
returned n over = taken_back over ++ (here over ∷ (constant n LINE ++ (call POP_AT ∷ jump_through)))

-- a 13 is sent, after which the column is 0
abbrev pub newline : List Entry
newline = const Lda 0 ∷ at Sta COLUMN ∷ const Lda 13 ∷ call CHROUT ∷ []

-- the code of a single instruction, which is group i of line n, if the program has these numbers. An instruction of
-- another kind of group has no code here.
abbrev pub template : List ℕ → ℕ → ℕ → Instr → List Entry
template numbers n i (Put k w) = constant (word w) (slot_at k)
template numbers n i (Load k x) = copied (var_at x) (slot_at k)
template numbers n i (Store x) = []
template numbers n i (Negate k) = []
template numbers n i (Compute op k) = []
template numbers n i (Random k) = []
template numbers n i (SendText bs) = sent (only_byte bs) (target.Inside inner.Text n i) (target.Inside inner.Behind n i) bs
template numbers n i SendNumber = []
template numbers n i SendZone = call ZONE_AT ∷ []
template numbers n i SendNewline = newline
template numbers n i (Input x) = call INPUT_AT ∷ copied RESULT (var_at x)
template numbers n i Poll = call POLL_AT ∷ []
template numbers n i Hold = []
template numbers n i (LeaveUnless rel) = []
template numbers n i Jump = []
template numbers n i Call = []
template numbers n i (JumpTo to) = jump_to numbers n to
template numbers n i (CallTo to) = call_to numbers n i to (next_line numbers n)
template numbers n i Return = returned n (target.Inside inner.Behind n i)
template numbers n i End = alone Rts ∷ []

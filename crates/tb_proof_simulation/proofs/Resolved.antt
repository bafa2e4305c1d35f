-- The templates as instructions at their addresses, with each label's number put in.
use Rattle.std.specs.Prelude.{Bool, true, false, Option, Some, None, ℕ, ◌+◌, ◌/◌, ◌%◌, ◌≤◌, List, [], ◌∷◌, length, nat_lt, if◌then◌else◌}
use Rattle.tb_machine_reaching.specs.View.{Part}
use Rattle.tb_machine_reaching.specs.View.{Bytes}
use Rattle.tb_machine_reaching.proofs.Instr.{Instr, ins, Stands, instr_bytes}
use Rattle.tb_words.specs.Words.{word}
use Rattle.tb_basic_meaning.specs.Control.{has_line, highest, next_after}
use Rattle.tb_lower.specs.Slots as slots
use Rattle.tb_kernal.specs.Numbers.{CHROUT}
use Rattle.tb_compiled_kept.specs.Addresses.{POINTER, RESULT, TABLE, COUNT, WANTED, LENGTH, COLUMN, var_at}
use Rattle.tb_runtime16.specs.Addresses.{SEND_AT, TEXT_AT, ZONE_AT, INPUT_AT, SEARCH_AT, FAULT_LINE_AT, POLL_AT}
use Rattle.tb_compiler_templates.specs.Templates.{only_byte, slot_at}
use Rattle.tb_opcodes.specs.Bytes.{AreBytes}
use Rattle.tb_proof_simulation.specs.Layout.{Layout, place_address}

-- where the first line above n begins, or fault 7 if there is none
abbrev pub next_at : Layout → ℕ → ℕ
next_at ly n = place_address ly (next_after ly.numbers n)

-- ---- pieces of code
abbrev pub size : List Instr → ℕ
size [] = 0
size (i ∷ is) = length (instr_bytes i) + size is

-- the opcode of an instruction on the byte at an address: the one for page zero, or the one for addresses above it
abbrev pub opcode_at : (page_zero behind place : ℕ) → ℕ
opcode_at page_zero behind place = if nat_lt place 256 then page_zero else behind

abbrev pub lda_at : ℕ → Instr
lda_at place = ins (opcode_at 0xA5 0xAD place) place

abbrev pub sta_at : ℕ → Instr
sta_at place = ins (opcode_at 0x85 0x8D place) place

-- copies a word to an address above page zero
abbrev pub copied : ℕ → ℕ → List Instr
copied from to = lda_at from ∷ ins 0x8D to ∷ lda_at (from + 1) ∷ ins 0x8D (to + 1) ∷ []

-- stores a constant word
abbrev pub constant : ℕ → ℕ → List Instr
constant k to = ins 0xA9 (k % 256) ∷ ins 0x8D to ∷ ins 0xA9 (k / 256) ∷ ins 0x8D (to + 1) ∷ []

-- stores a constant word in page zero
abbrev pub pointed : ℕ → ℕ → List Instr
pointed k to = ins 0xA9 (k % 256) ∷ ins 0x85 to ∷ ins 0xA9 (k / 256) ∷ ins 0x85 (to + 1) ∷ []

abbrev pub call : ℕ → List Instr
call to = ins 0x20 to ∷ []

abbrev pub jump : ℕ → List Instr
jump to = ins 0x4C to ∷ []

-- on to where the word at a place points
abbrev pub jump_by : ℕ → List Instr
jump_by place = ins 0x6C place ∷ []

-- on to where the result points
abbrev pub jump_through : List Instr
jump_through = jump_by RESULT

-- POINTER, LENGTH and the call of Text
abbrev pub text_call : ℕ → ℕ → ℕ → List Instr
text_call routine text n =
    ins 0xA9 (text % 256) ∷ ins 0x85 POINTER ∷ ins 0xA9 (text / 256) ∷ ins 0x85 0xFC ∷ ins 0xA9 n ∷ ins 0x8D LENGTH ∷ ins 0x20 routine ∷ []

-- a 13 is sent, and COLUMN is 0
abbrev pub newline : List Instr
newline = ins 0xA9 0 ∷ ins 0x8D COLUMN ∷ ins 0xA9 13 ∷ ins 0x20 CHROUT ∷ []

-- ---- templates
pub data Piece : Type 0 where
  Code : (instrs : List Instr) → Piece
  Text : (bytes : List ℕ) → Piece

abbrev pub piece_size : Piece → ℕ
piece_size (Code is) = size is
piece_size (Text bs) = length bs

abbrev pub pieces_size : List Piece → ℕ
pieces_size [] = 0
pieces_size (p ∷ ps) = piece_size p + pieces_size ps

-- fault k at line n
abbrev pub faulting : ℕ → ℕ → List Instr
faulting n k = ins 0xA2 (n % 256) ∷ ins 0xA0 (n / 256) ∷ ins 0xA9 k ∷ ins 0x4C FAULT_LINE_AT ∷ []

-- a jump from line n to a line's number, by whether there is such a line
abbrev pub jump_to : Layout → ℕ → Bool → ℕ → List Piece
jump_to ly n true target = Code (jump (ly.start target)) ∷ []
jump_to ly n false target = Code (faulting n 1) ∷ []

-- a byte in line, sent
abbrev pub byte_sent : ℕ → List Instr
byte_sent b = ins 0xA9 b ∷ ins 0x20 SEND_AT ∷ []

-- a text, by its only byte, if it has one byte alone
abbrev pub sent : ℕ → Option ℕ → List ℕ → List Piece
sent at (Some b) t = Code (byte_sent b) ∷ []
sent at None t = Code (text_call TEXT_AT (at + 19) (length t)) ∷ Code (jump (at + 19 + length t)) ∷ Text t ∷ []

-- the code of an instruction of line n, at an address. An instruction of another kind of group, or with branches, has none here.
abbrev pub template : Layout → ℕ → ℕ → slots.Instr → List Piece
template ly n at (slots.Put k w) = Code (constant (word w) (slot_at k)) ∷ []
template ly n at (slots.Load k x) = Code (copied (var_at x) (slot_at k)) ∷ []
template ly n at (slots.Store x) = []
template ly n at (slots.Negate k) = []
template ly n at (slots.Compute op k) = []
template ly n at (slots.Random k) = []
template ly n at (slots.SendText t) = sent at (only_byte t) t
template ly n at slots.SendNumber = []
template ly n at slots.SendZone = Code (call ZONE_AT) ∷ []
template ly n at slots.SendNewline = Code newline ∷ []
template ly n at (slots.Input x) = Code (call INPUT_AT) ∷ Code (copied RESULT (var_at x)) ∷ []
template ly n at slots.Hold = []
template ly n at (slots.LeaveUnless rel) = []
template ly n at slots.Jump = []
template ly n at slots.Call = []
template ly n at slots.Return = []
template ly n at (slots.JumpTo target) = jump_to ly n (has_line ly.numbers target) target
template ly n at (slots.CallTo target) = []
template ly n at slots.Poll = Code (call POLL_AT) ∷ []
template ly n at slots.End = Code (ins 0x60 0 ∷ []) ∷ []

-- ---- its address
abbrev pub highest_code : ℕ
highest_code = 0xA000

abbrev pub PieceLies : Part → ℕ → Piece → Type 0
PieceLies code at (Code is) = Stands code at is
PieceLies code at (Text bs) = Bytes code at bs × AreBytes bs

-- pieces one after another
abbrev pub Lies : Part → ℕ → List Piece → Type 0
Lies code at [] = Unit {0}
Lies code at (p ∷ ps) = (at + piece_size p ≤ highest_code) × PieceLies code at p × Lies code (at + piece_size p) ps

abbrev pub past_code : Layout → List Piece
past_code ly = Code (faulting (highest ly.numbers) 7) ∷ []

-- on to the next comparison unless the number in A and X is this line's
abbrev pub differing : ℕ → List Instr
differing n = ins 0xC9 (n % 256) ∷ ins 0xD0 15 ∷ ins 0xE0 (n / 256) ∷ ins 0xD0 11 ∷ []

-- back to the caller
abbrev pub back : List Instr
back = ins 0x60 0 ∷ []

-- the number is compared with those of these lines, before other pieces
abbrev pub all_compared : Layout → List ℕ → List Piece → List Piece
all_compared ly [] ps = ps
all_compared ly (n ∷ ns) ps = Code (differing n) ∷ Code (constant (ly.start n) RESULT) ∷ Code back ∷ all_compared ly ns ps

-- the number that is sought, in A and X
abbrev pub asked : List Instr
asked = ins 0xAD WANTED ∷ ins 0xAE (WANTED + 1) ∷ []

-- the search in the line table
abbrev pub looked_up : Layout → List Piece
looked_up ly = Code (pointed ly.table TABLE) ∷ Code (constant (length ly.numbers) COUNT) ∷ Code (jump SEARCH_AT) ∷ []

-- the search for a line, by whether numbers are compared
abbrev pub find_code : Bool → Layout → List Piece
find_code true ly = Code asked ∷ all_compared ly ly.numbers (looked_up ly)
find_code false ly = looked_up ly

-- Slot code: what each instruction does, and its runs.
use Rattle.std.specs.Prelude.{ℕ, zero, suc, ◌+◌, List, [], ◌∷◌, if◌then◌else◌, Option, Some, None, slice_index, slice_set}
use Rattle.tb_words.specs.Words.{word, negated, holds, digits_of}
use Rattle.tb_words.specs.declared.Rel.{Rel}
use Rattle.tb_basic_syntax.specs.Source.{Numbered, numbers}
use Rattle.tb_basic_syntax.specs.declared.expressions.Operator.{Operator}
use Rattle.tb_basic_meaning.specs.Steps.{Ended, Step, Goes, Stops, Run, GoesOn, Over, advance, advance_by}
use Rattle.tb_basic_meaning.specs.Control.{Place, At, Past, State, content_at, send, zone, fall, go_to, go_sub, go_back, poll, past}
use Rattle.tb_basic_meaning.specs.Input.{input}
use Rattle.tb_basic_meaning.specs.Values.{Valued, apply, given, random}
use Rattle.tb_basic_meaning.specs.Meaning.{with_value, stored, start}

-- k is a slot, a letter a variable; Jump and Call go to the line that slot 0 names, JumpTo and CallTo to a constant one
pub data Instr : Type 0 where
  Put : (k n : ℕ) → Instr
  Load : (k letter : ℕ) → Instr
  Store : (letter : ℕ) → Instr
  Negate : (k : ℕ) → Instr
  Compute : (op : Operator) (k : ℕ) → Instr
  Random : (k : ℕ) → Instr
  SendText : (bytes : List ℕ) → Instr
  SendNumber SendZone SendNewline : Instr
  Input : (letter : ℕ) → Instr
  Poll : Instr
  Hold : Instr
  LeaveUnless : (rel : Rel) → Instr
  Jump Call : Instr
  JumpTo CallTo : (target : ℕ) → Instr
  Return End : Instr

-- a list of instructions for each line, in rising order
abbrev pub SlotCode : Type 0
SlotCode = List (Numbered (List Instr))

-- what is still to be done of a line: all of it, or the rest of line n
pub data Rest : Type 0 where
  Whole : Rest
  Left : (n : ℕ) (instrs : List Instr) → Rest

-- 16 slots and the word that is held
pub record Slots : Type 0 where
  pub words : List ℕ
  pub held : ℕ

-- the state of a run between instructions
pub record SlotState : Type 0 where
  pub state : State
  pub rest : Rest
  pub slots : Slots

-- what an instruction leaves of the line: its rest with new slots, or the line is left
pub data After : Type 0 where
  Stays : (s : State) (slots : Slots) → After
  Leaves : (s : State) → After

-- an instruction that stays in the line
abbrev pub staying : Slots → Step State → Step After
staying slots (Goes s t) = Goes (Stays s slots) t
staying slots (Stops e t) = Stops e t

-- an instruction that leaves the line
abbrev pub leaving : Step State → Step After
leaving (Goes s t) = Goes (Leaves s) t
leaving (Stops e t) = Stops e t

-- a word into slot k
abbrev pub with_word : Slots → ℕ → ℕ → Slots
with_word slots k v = record slots { words = slice_set slots.words k v }

-- a value into slot k, or its fault
abbrev pub into : ℕ → ℕ → Valued → State → Slots → Step After
into n k w s slots = with_value n w s (λ v s'. Goes (Stays s' (with_word slots k v)) [])

-- an instruction, at line n of the lines ns
abbrev pub act : List ℕ → ℕ → Instr → State → Slots → Step After
act ns n (Put k w) s slots = Goes (Stays s (with_word slots k (word w))) []
act ns n (Load k x) s slots = Goes (Stays s (with_word slots k (slice_index s.vars x))) []
act ns n (Store x) s slots = Goes (Stays (stored x (slice_index slots.words 0) s) slots) []
act ns n (Negate k) s slots = Goes (Stays s (with_word slots k (negated (slice_index slots.words k)))) []
act ns n (Compute op k) s slots = into n k (given (apply op (slice_index slots.words k) (slice_index slots.words (k + 1))) s.seed) s slots
act ns n (Random k) s slots = into n k (random (slice_index slots.words k) s.seed) s slots
act ns n (SendText t) s slots = staying slots (send t s)
act ns n SendNumber s slots = staying slots (send (digits_of (slice_index slots.words 0)) s)
act ns n SendZone s slots = staying slots (send (zone s.column) s)
act ns n SendNewline s slots = staying slots (send (13 ∷ []) s)
act ns n (Input x) s slots = staying slots (input n x s)
act ns n Poll s slots = staying slots (poll n s)
act ns n Hold s slots = Goes (Stays s (record slots { held = slice_index slots.words 0 })) []
act ns n (LeaveUnless rel) s slots =
    if holds rel slots.held (slice_index slots.words 0) then Goes (Stays s slots) [] else leaving (fall ns n s)
act ns n Jump s slots = leaving (go_to ns n (slice_index slots.words 0) s)
act ns n Call s slots = leaving (go_sub ns n (slice_index slots.words 0) s)
act ns n (JumpTo target) s slots = leaving (go_to ns n target s)
act ns n (CallTo target) s slots = leaving (go_sub ns n target s)
act ns n Return s slots = leaving (go_back n s)
act ns n End s slots = Stops Ended []

-- the state after an instruction of line n, if others are left of its list
abbrev pub settled : ℕ → List Instr → Slots → Step After → Step SlotState
settled n is slots (Goes (Stays s slots') t) = Goes (record { state = s; rest = Left n is; slots = slots' }) t
settled n is slots (Goes (Leaves s) t) = Goes (record { state = s; rest = Whole; slots = slots }) t
settled n is slots (Stops e t) = Stops e t

-- the first of the instructions of line n, or on to the next line
abbrev pub instr : List ℕ → ℕ → List Instr → State → Slots → Step SlotState
instr ns n [] s slots = settled n [] slots (leaving (fall ns n s))
instr ns n (i ∷ is) s slots = settled n is slots (act ns n i s slots)

-- the list at a line, if there is one
abbrev pub instr_found : List ℕ → ℕ → Option (List Instr) → State → Slots → Step SlotState
instr_found ns n (Some is) s slots = instr ns n is s slots
instr_found ns n None s slots = past ns

-- the next instruction of the line's rest, or the first at a place
abbrev pub instr_at : SlotCode → Rest → Place → State → Slots → Step SlotState
instr_at code (Left n is) place s slots = instr (numbers code) n is s slots
instr_at code Whole (At n) s slots = instr_found (numbers code) n (content_at code n) s slots
instr_at code Whole Past s slots = past (numbers code)

-- one instruction
abbrev pub slot_step : SlotCode → SlotState → Step SlotState
slot_step code c = instr_at code c.rest c.state.place c.state c.slots

-- the slots and the held word are arbitrary at first
abbrev pub slot_start : SlotCode → ℕ → List ℕ → List ℕ → Slots → Run SlotState
slot_start code seed text answers slots = GoesOn (record { state = start (numbers code) seed text answers; rest = Whole; slots = slots }) []

-- the run after k instructions
abbrev pub slot_run : SlotCode → ℕ → List ℕ → List ℕ → Slots → ℕ → Run SlotState
slot_run code seed text answers slots k = advance_by (slot_step code) k (slot_start code seed text answers slots)

-- 1 if a run is at the beginning of a list, else 0
abbrev pub begins : Rest → Place → ℕ
begins (Left n is) place = 0
begins Whole (At n) = 1
begins Whole Past = 0

-- 1 if the run goes on and is at the beginning of a list, else 0
abbrev pub begins_in : Run SlotState → ℕ
begins_in (GoesOn c out) = begins c.rest c.state.place
begins_in (Over e out) = 0

-- how many beginnings of lists the next k steps of a run pass
abbrev pub beginnings : SlotCode → ℕ → Run SlotState → ℕ
beginnings code zero r = 0
beginnings code (suc k) r = begins_in r + beginnings code k (advance (slot_step code) r)

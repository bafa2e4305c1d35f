-- What helps.
use Rattle.std.specs.Prelude.{ℕ, Bool, true, false, ◌==◌, Option, Some, None, option_map, List, [], ◌∷◌, ◌++◌, codes, length, if◌then◌else◌}
use Rattle.std.specs.Option.{option_or}
use Rattle.tb_assembly_text.specs.declared.faults.FaultKind.{FaultKind}
use Rattle.tb_assembly_text.specs.declared.faults.FaultKind.TheVariants.{UnknownDirective, UnknownMnemonic, WantsItem}
use Rattle.tb_assembly_meaning.specs.declared.faults.Wrong.TheVariants.{UnknownName, TooFar}
use Rattle.tb_assembly_report.specs.declared.causes.Cause.{Cause}
use Rattle.tb_assembly_report.specs.declared.causes.Cause.TheVariants.{Line, Include, Meaning}
use Rattle.tb_assembly_report.specs.Near.{near_name}
use Rattle.tb_assembly_report.specs.Numbers.{LETTERS}
use Rattle.tb_assembly_report.specs.Words.{word_at, word_before}
use Rattle.tb_assembly_report.specs.declared.notes.TheConstants.{DID_YOU_MEAN, OTHER_WAY}

-- that a name may be meant
abbrev pub meant : List ℕ → List ℕ
meant name = DID_YOU_MEAN.now ++ name

-- the words of directives, in upper case
abbrev pub directive_words : List (List ℕ)
directive_words =
    codes ".BYTE" ∷ codes ".WORD" ∷ codes ".TEXT" ∷ codes ".FILL" ∷ codes ".ALIGN" ∷ codes ".ORG" ∷ codes ".INCLUDE" ∷ codes ".BYT" ∷ codes ".RES"
    ∷ codes "!BYTE" ∷ codes "!WORD" ∷ codes "!TEXT" ∷ codes "!FILL" ∷ codes "!PET" ∷ []

-- what helps with a bad line at a word: a directive that is near it
abbrev pub line_note : FaultKind → List ℕ → Option (List ℕ)
line_note UnknownDirective word = option_map meant (near_name word directive_words)
line_note k word = None

-- all instructions, in upper case; of those that differ in the register, that of X is the first
abbrev pub instructions : List (List ℕ)
instructions =
    codes "ADC" ∷ codes "AND" ∷ codes "ASL" ∷ codes "BCC" ∷ codes "BCS" ∷ codes "BEQ" ∷ codes "BIT" ∷ codes "BMI" ∷ codes "BNE" ∷ codes "BPL" ∷ codes "BRK" ∷ codes "BVC" ∷ codes "BVS" ∷ codes "CLC"
    ∷ codes "CLD" ∷ codes "CLI" ∷ codes "CLV" ∷ codes "CMP" ∷ codes "CPX" ∷ codes "CPY" ∷ codes "DEC" ∷ codes "DEX" ∷ codes "DEY" ∷ codes "EOR" ∷ codes "INC" ∷ codes "INX" ∷ codes "INY" ∷ codes "JMP"
    ∷ codes "JSR" ∷ codes "LDX" ∷ codes "LDA" ∷ codes "LDY" ∷ codes "LSR" ∷ codes "NOP" ∷ codes "ORA" ∷ codes "PHA" ∷ codes "PHP" ∷ codes "PLA" ∷ codes "PLP" ∷ codes "ROL" ∷ codes "ROR" ∷ codes "RTI"
    ∷ codes "RTS" ∷ codes "SBC" ∷ codes "SEC" ∷ codes "SED" ∷ codes "SEI" ∷ codes "STX" ∷ codes "STA" ∷ codes "STY" ∷ codes "TAX" ∷ codes "TAY" ∷ codes "TSX" ∷ codes "TXA" ∷ codes "TXS" ∷ codes "TYA" ∷ []

-- an instruction that is near a word
abbrev pub near_instruction : List ℕ → Option (List ℕ)
near_instruction word = option_map meant (near_name word instructions)

-- an instruction that is near a word with as many letters as an instruction has
abbrev pub instruction_note : List ℕ → Option (List ℕ)
instruction_note word = if length word == LETTERS then near_instruction word else None

-- what helps with a word that is no instruction: one that is near it, or near the word before it
abbrev pub unknown_note : (before word : List ℕ) → Option (List ℕ)
unknown_note before word = option_or (instruction_note word) (instruction_note before)

-- what helps with a cause at a word, by the word before it: what is near, or another way
abbrev pub note_of : List (List ℕ) → (before word : List ℕ) → Cause → Option (List ℕ)
note_of names before word (Meaning UnknownName) = option_map meant (near_name word names)
note_of names before word (Meaning TooFar) = Some OTHER_WAY.now
note_of names before word (Meaning w) = None
note_of names before word (Line UnknownMnemonic) = unknown_note before word
note_of names before word (Line WantsItem) = instruction_note before
note_of names before word (Line k) = line_note k word
note_of names before word (Include f) = None

-- what helps with a cause at a column of a line, if notes are wanted
abbrev pub note_if : Bool → List (List ℕ) → List ℕ → ℕ → Cause → Option (List ℕ)
note_if true names line column cause = note_of names (word_before line column) (word_at line column) cause
note_if false names line column cause = None

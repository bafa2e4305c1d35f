-- What is said of an item that is refused.
use Rattle.std.specs.Prelude.{ℕ, List, [], ◌++◌}
use Rattle.tb_asm.specs.Layout.{Entry, instr, label, bytes, word}
use Rattle.tb_asm.specs.declared.errors.AsmErrorKind.{AsmErrorKind}
use Rattle.tb_asm.specs.declared.errors.AsmErrorKind.TheVariants as error
use Rattle.tb_asm.specs.declared.items.Operand.{Operand}
use Rattle.tb_asm.specs.declared.items.Operand.TheVariants.{Nothing, Byte, Word, Label, LowOf, HighOf}
use Rattle.tb_assembly_reasons.specs.declared.errors.TheConstants.{BRANCH_OUT_OF_RANGE, INDIRECT_AT_PAGE_END, LABEL_TWICE, NO_MEMORY, NO_SUCH_MODE, RUNS_PAST}
use Rattle.tb_assembly_reasons.specs.declared.errors.TheConstants.{UNKNOWN_LABEL}

-- the letters of the label of which an operand takes the address; none if it takes none
abbrev pub letters_in : Operand → List ℕ
letters_in Nothing = []
letters_in (Byte b) = []
letters_in (Word w) = []
letters_in (Label n) = n.letters.items
letters_in (LowOf n) = n.letters.items
letters_in (HighOf n) = n.letters.items

-- the letters of the label that an item names or defines
abbrev pub letters_of : Entry → List ℕ
letters_of (instr n m o) = letters_in o
letters_of (label n) = n.letters.items
letters_of (bytes bs) = []
letters_of (word o) = letters_in o

-- why an item is refused, with the letters of its label
abbrev pub error_text : AsmErrorKind → List ℕ → List ℕ
error_text error.NoSuchMode letters = NO_SUCH_MODE.now
error_text error.UnknownLabel letters = UNKNOWN_LABEL.now ++ letters
error_text error.LabelTwice letters = LABEL_TWICE.now ++ letters
error_text error.BranchOutOfRange letters = BRANCH_OUT_OF_RANGE.now
error_text error.RunsPast letters = RUNS_PAST.now
error_text error.IndirectAtPageEnd letters = INDIRECT_AT_PAGE_END.now
error_text error.NoMemory letters = NO_MEMORY.now

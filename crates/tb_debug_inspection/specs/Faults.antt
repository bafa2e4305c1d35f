-- By which fault a program ended.
use Rattle.std.specs.Prelude.{ℕ, nat_eq, Bool, List, [], ◌∷◌, ◌++◌, codes, Option}
use Rattle.std.specs.Fmt.{decimal}
use Rattle.std.specs.List.{find, ends_with}
use Rattle.tb_cpu.specs.Operands.{word_in}
use Rattle.tb_compiled_kept.specs.Addresses.{LINE}
use Rattle.tb_debug_inspection.specs.declared.faults.FaultKind.{FaultKind}
use Rattle.tb_debug_inspection.specs.declared.faults.FaultKind.TheVariants.{Stopped, NoSuchLine, DividedByZero, BadBound, TooManyCalls, NoCall, NoNumber, RanPast}
use Rattle.tb_debug_inspection.specs.declared.faults.TheConstants.{BAD_BOUND, DIVIDED_BY_ZERO, NO_CALL, NO_NUMBER, NO_SUCH_LINE, RAN_PAST, STOPPED, TOO_MANY_CALLS}

-- the number of a fault
abbrev pub number_of : FaultKind → ℕ
number_of Stopped = 0
number_of NoSuchLine = 1
number_of DividedByZero = 2
number_of BadBound = 3
number_of TooManyCalls = 4
number_of NoCall = 5
number_of NoNumber = 6
number_of RanPast = 7

-- all faults
abbrev pub faults : List FaultKind
faults = Stopped ∷ NoSuchLine ∷ DividedByZero ∷ BadBound ∷ TooManyCalls ∷ NoCall ∷ NoNumber ∷ RanPast ∷ []

-- what a fault means
abbrev pub meaning_of : FaultKind → List ℕ
meaning_of Stopped = STOPPED.now
meaning_of NoSuchLine = NO_SUCH_LINE.now
meaning_of DividedByZero = DIVIDED_BY_ZERO.now
meaning_of BadBound = BAD_BOUND.now
meaning_of TooManyCalls = TOO_MANY_CALLS.now
meaning_of NoCall = NO_CALL.now
meaning_of NoNumber = NO_NUMBER.now
meaning_of RanPast = RAN_PAST.now

-- what a program sends last that ends by a fault at a line
abbrev pub fault_text : ℕ → FaultKind → List ℕ
fault_text line k = 13 ∷ 33 ∷ decimal (number_of k) ++ (codes " AT " ++ (decimal line ++ 13 ∷ []))

-- the bytes of the longest text of a fault
abbrev pub longest_fault : ℕ
longest_fault = 13

-- what was sent ends in the text of a fault
abbrev pub is_fault : List ℕ → ℕ → FaultKind → Bool
is_fault sent line k = ends_with nat_eq sent (fault_text line k)

-- the line of the last fault, by a program's memory
abbrev pub line_in : (ℕ → ℕ) → ℕ
line_in m = word_in m LINE

-- the fault by which a program ended, by what it sent and the line that is in memory
abbrev pub fault_in : List ℕ → (ℕ → ℕ) → Option FaultKind
fault_in sent m = find (is_fault sent (line_in m)) faults

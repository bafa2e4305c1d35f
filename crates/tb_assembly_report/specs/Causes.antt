-- What is wrong, in words.
use Rattle.std.specs.Prelude.{ℕ, List}
use Rattle.tb_assembly_text.specs.declared.faults.FaultKind.{FaultKind}
use Rattle.tb_assembly_text.specs.declared.faults.FaultKind.TheVariants as kind
use Rattle.tb_assembly_files.specs.declared.faults.IncludeFault.{IncludeFault}
use Rattle.tb_assembly_files.specs.declared.faults.IncludeFault.TheVariants as include
use Rattle.tb_assembly_meaning.specs.declared.faults.Wrong.{Wrong}
use Rattle.tb_assembly_meaning.specs.declared.faults.Wrong.TheVariants as wrong
use Rattle.tb_assembly_report.specs.declared.causes.Cause.{Cause}
use Rattle.tb_assembly_report.specs.declared.causes.Cause.TheVariants.{Line, Include, Meaning}
use Rattle.tb_assembly_report.specs.declared.causes.TheConstants.{BACKWARD, CHARACTER, CIRCLE, DIVISION_BY_ZERO, EXTRA, NAME_TOO_LONG, NAME_TWICE, NEGATIVE, NOT_READ}
use Rattle.tb_assembly_report.specs.declared.causes.TheConstants.{NOT_YET_KNOWN, NO_ADDRESS, NO_BYTE, NO_COUNT, NO_DIGITS, NO_MULTIPLE, NO_SUCH_MODE, NO_WORD}
use Rattle.tb_assembly_report.specs.declared.causes.TheConstants.{NO_ZERO_PAGE, NUMBER_TOO_LARGE, OPEN_TEXT, OVERFLOW, PAGE_END, PAST_END, RESERVED, SHIFT_TOO_FAR}
use Rattle.tb_assembly_report.specs.declared.causes.TheConstants.{STRAY, TOO_DEEP, TOO_FAR, TOO_MANY, UNKNOWN_DIRECTIVE, UNKNOWN_MNEMONIC, UNKNOWN_NAME, UNREAD}
use Rattle.tb_assembly_report.specs.declared.causes.TheConstants.{WANTS_EQUALS, WANTS_ITEM, WANTS_REGISTER, WANTS_RIGHT, WANTS_TEXT, WANTS_VALUE}

-- what is said of a bad line
abbrev pub line_text : FaultKind → List ℕ
line_text kind.Stray = STRAY.now
line_text kind.OpenText = OPEN_TEXT.now
line_text kind.Character = CHARACTER.now
line_text kind.NoDigits = NO_DIGITS.now
line_text kind.NumberTooLarge = NUMBER_TOO_LARGE.now
line_text kind.NameTooLong = NAME_TOO_LONG.now
line_text kind.Reserved = RESERVED.now
line_text kind.WantsValue = WANTS_VALUE.now
line_text kind.WantsRight = WANTS_RIGHT.now
line_text kind.WantsRegister = WANTS_REGISTER.now
line_text kind.WantsEquals = WANTS_EQUALS.now
line_text kind.WantsText = WANTS_TEXT.now
line_text kind.WantsItem = WANTS_ITEM.now
line_text kind.UnknownDirective = UNKNOWN_DIRECTIVE.now
line_text kind.UnknownMnemonic = UNKNOWN_MNEMONIC.now
line_text kind.Extra = EXTRA.now

-- what is said of a file that is not included
abbrev pub include_text : IncludeFault → List ℕ
include_text include.Circle = CIRCLE.now
include_text include.TooDeep = TOO_DEEP.now
include_text include.TooMany = TOO_MANY.now
include_text include.Unread = UNREAD.now

-- what is said of what a statement means
abbrev pub wrong_text : Wrong → List ℕ
wrong_text wrong.UnknownName = UNKNOWN_NAME.now
wrong_text wrong.NotYetKnown = NOT_YET_KNOWN.now
wrong_text wrong.NameTwice = NAME_TWICE.now
wrong_text wrong.Overflow = OVERFLOW.now
wrong_text wrong.DivisionByZero = DIVISION_BY_ZERO.now
wrong_text wrong.Negative = NEGATIVE.now
wrong_text wrong.ShiftTooFar = SHIFT_TOO_FAR.now
wrong_text wrong.NoByte = NO_BYTE.now
wrong_text wrong.NoWord = NO_WORD.now
wrong_text wrong.NoAddress = NO_ADDRESS.now
wrong_text wrong.NoZeroPage = NO_ZERO_PAGE.now
wrong_text wrong.NoCount = NO_COUNT.now
wrong_text wrong.NoMultiple = NO_MULTIPLE.now
wrong_text wrong.Backward = BACKWARD.now
wrong_text wrong.NoSuchMode = NO_SUCH_MODE.now
wrong_text wrong.TooFar = TOO_FAR.now
wrong_text wrong.PageEnd = PAGE_END.now
wrong_text wrong.PastEnd = PAST_END.now
wrong_text wrong.NotRead = NOT_READ.now

-- what is said of a cause
abbrev pub cause_text : Cause → List ℕ
cause_text (Line k) = line_text k
cause_text (Include f) = include_text f
cause_text (Meaning w) = wrong_text w

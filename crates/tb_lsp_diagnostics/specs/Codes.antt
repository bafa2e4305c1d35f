-- The codes of errors and warnings.
use Rattle.std.specs.Prelude.{ℕ, List, codes}
use Rattle.tb_parser.specs.declared.errors.SourceErrorKind.{SourceErrorKind}
use Rattle.tb_parser.specs.declared.errors.SourceErrorKind.TheVariants.{LineTooLong, BadByte, Unnumbered, BadLineNumber, NotCompiled, Syntax, NumberTooLarge, Empty, NoMemory}
use Rattle.tb_engine_findings.specs.declared.warnings.Warning.{Warning}
use Rattle.tb_engine_findings.specs.declared.warnings.Warning.TheVariants.{NoLine, HighTarget, Replaced, TakenOut, RunsPast, EvenBound, BoundOfOne, BadBound, ZeroDivisor, HighNumber, KeyCharacter}

-- the code of a fault of a line, or of a source with no line
abbrev pub error_code : SourceErrorKind → List ℕ
error_code LineTooLong = codes "line-too-long"
error_code BadByte = codes "bad-byte"
error_code Unnumbered = codes "no-line-number"
error_code BadLineNumber = codes "bad-line-number"
error_code NotCompiled = codes "not-compiled"
error_code Syntax = codes "syntax"
error_code NumberTooLarge = codes "number-too-large"
error_code Empty = codes "empty-program"
error_code NoMemory = codes "out-of-memory"

-- the code of a warning
abbrev pub warning_code : Warning → List ℕ
warning_code (NoLine target) = codes "no-line"
warning_code (HighTarget target) = codes "high-target"
warning_code (Replaced number by) = codes "replaced"
warning_code (TakenOut number by) = codes "taken-out"
warning_code RunsPast = codes "runs-past"
warning_code (EvenBound bound) = codes "even-bound"
warning_code BoundOfOne = codes "bound-of-one"
warning_code (BadBound bound) = codes "bad-bound"
warning_code ZeroDivisor = codes "zero-divisor"
warning_code (HighNumber number) = codes "high-number"
warning_code (KeyCharacter number) = codes "key-character"

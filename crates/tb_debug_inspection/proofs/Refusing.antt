-- Texts that are no expression.
use Rattle.std.proofs.Common.{ℕ, ◌≢◌, List, refl}
use Rattle.std.specs.Prelude.{IfSome, None, Err}
use Rattle.tb_parser.specs.declared.errors.SourceErrorKind.{SourceErrorKind}
use Rattle.tb_parser.specs.declared.errors.SourceErrorKind.TheVariants.{Syntax, NoMemory}
use Rattle.tb_parser.specs.Answers.{refusal_of, InLineOne}
use Rattle.tb_parser.specs.Files.{refused_at}
use Rattle.tb_parser.specs.Readings.{ExpressionIs, at_column}
use Rattle.tb_debug_inspection.specs.Values.{IsValueOfText}

-- a text that is refused, but not for want of memory, is no expression
pub refused_text : (variables text : List ℕ) (kind : SourceErrorKind) (line column : ℕ) → kind ≢ NoMemory
    → IfSome (refusal_of kind column) (λ r. InLineOne (ExpressionIs text) (Err (refused_at line r))) → IsValueOfText variables text None
refused_text variables text NoMemory line column other found = absurd (other refl)
refused_text variables text Syntax line column other found = (Err (refused_at line (record { kind = Syntax; column = None })), found, refl)
refused_text variables text kind line column other found = (Err (refused_at line (at_column kind column)), found, refl)

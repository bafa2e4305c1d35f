-- What an answer says, from the outcomes that the definitions allow.
use Rattle.std.proofs.Common.{◌≡◌, ℕ, Option, Some, None, Result, Ok, Err, IfSome}
use Rattle.tb_parser.specs.declared.errors.SourceError.{SourceError}
use Rattle.tb_parser.specs.declared.errors.SourceErrorKind.{SourceErrorKind}
use Rattle.tb_parser.specs.declared.errors.SourceErrorKind.TheVariants.{LineTooLong, BadByte, Unnumbered, BadLineNumber, NotCompiled, Syntax, NumberTooLarge, Empty, NoMemory}
use Rattle.tb_parser.specs.Answers.{Answers, refusal_of}
use Rattle.tb_parser.specs.Files.{FileRefusal, refused_at}
use Rattle.tb_parser.specs.Readings.{Refusal}
use Rattle.tb_parser.specs.Refusals.{error_at}
use Rattle.tb_parser.proofs.ReaderAnswers.{passes}

module _ {X A : Type 0} (view : X → A) (Is : Result A FileRefusal → Type 0) where
  -- the error at a place tells the refusal at that place, unless memory ran out
  pub answers_at : (kind : SourceErrorKind) (column line : ℕ) → IfSome (refusal_of kind column) (λ r. Is (Err (refused_at line r))) → Answers view (Err (error_at kind line column)) Is
  answers_at LineTooLong column line h = h
  answers_at BadByte column line h = h
  answers_at Unnumbered column line h = h
  answers_at BadLineNumber column line h = h
  answers_at NotCompiled column line h = h
  answers_at Syntax column line h = h
  answers_at NumberTooLarge column line h = h
  answers_at Empty column line h = h
  answers_at NoMemory column line h = tt

  -- what holds of an answer carries over to what follows from it
  pub answers_pass : (result : Result X SourceError) (More : Result A FileRefusal → Type 0) → ((outcome : Result A FileRefusal) → Is outcome → More outcome)
      → Answers view result Is → Answers view result More
  answers_pass (Ok x) More more said = more (Ok (view x)) said
  answers_pass (Err e) More more said =
      passes (refusal_of e.kind e.column) (λ r. Is (Err (refused_at e.line r))) (λ r. More (Err (refused_at e.line r))) (λ r h. more (Err (refused_at e.line r)) h) said

  -- if only one outcome is possible, the answer is that outcome
  pub only_one : (result : Result X SourceError) → ((a b : Result A FileRefusal) → Is a → Is b → a ≡ b) → Answers view result Is
      → (outcome : Result A FileRefusal) → Is outcome → Answers view result (λ said. said ≡ outcome)
  only_one (Ok x) unique said outcome is = unique (Ok (view x)) outcome said is
  only_one (Err e) unique said outcome is = go (refusal_of e.kind e.column) said
    where
      go : (o : Option Refusal) → IfSome o (λ r. Is (Err (refused_at e.line r))) → IfSome o (λ r. Err (refused_at e.line r) ≡ outcome)
      go None h = tt
      go (Some r) h = unique (Err (refused_at e.line r)) outcome h is

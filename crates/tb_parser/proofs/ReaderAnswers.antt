-- What the readers' answers say of a text.
use Rattle.std.proofs.Common.{◌≡◌, ℕ, List, Option, Some, None, Result, Ok, Err, refl, MatchOption, IfSome}
use Rattle.tb_parser.specs.declared.errors.LineFault.{LineFault}
use Rattle.tb_parser.specs.declared.errors.SourceErrorKind.TheVariants.{NotCompiled, NumberTooLarge, Syntax}
use Rattle.tb_parser.specs.declared.squeeze.Placed.{Placed}
use Rattle.tb_parser.specs.Answers.{refusal_of, Says}
use Rattle.tb_parser.specs.Readings.{Grammar, HasNoReading, Refusal, TextIs, reads, not_compiled, syntax, number_too_large}
use Rattle.tb_parser.specs.Scans.{column_left, left_out_word}
use Rattle.tb_parser.specs.Squeezed.{bytes}

-- a reading without a large literal is the value, one with a large literal is refused there
pub says_in_range : {X A : Type 0} (view : X → A) (grammar : Grammar A) (text : List Placed) (x : X) (large : Option ℕ) (result : Result X LineFault)
    → grammar (bytes text) (view x) large
    → MatchOption large (result ≡ Ok x) (λ left. result ≡ Err (record { kind = NumberTooLarge; column = column_left left text }))
    → Says view result (TextIs A grammar text)
says_in_range view grammar text x None result reading e = rw e (reads (view x) reading)
says_in_range view grammar text x (Some left) result reading e = rw e (number_too_large (view x) left reading)

-- without a reading the first left-out word decides
pub says_unread : {X A : Type 0} (view : X → A) (grammar : Grammar A) (text : List Placed) (fault : LineFault)
    → HasNoReading grammar (bytes text)
    → MatchOption (left_out_word text) (fault.kind ≡ Syntax) (λ column. fault ≡ record { kind = NotCompiled; column = column })
    → Says view (Err fault) (TextIs A grammar text)
says_unread {X} {A} view grammar text fault no_reading h = go (left_out_word text) refl h
  where
    go : (word : Option ℕ) → left_out_word text ≡ word → MatchOption word (fault.kind ≡ Syntax) (λ column. fault ≡ record { kind = NotCompiled; column = column })
        → IfSome (refusal_of fault.kind fault.column) (λ r. TextIs A grammar text (Err r))
    go None e is_syntax = rw is_syntax (syntax no_reading e)
    go (Some column) e is_word = rw is_word (not_compiled column no_reading e)

-- what holds of a refusal, if there is one, carries over to what follows from it
pub passes : (o : Option Refusal) (P Q : Refusal → Type 0) → ((r : Refusal) → P r → Q r) → IfSome o P → IfSome o Q
passes None P Q more h = tt
passes (Some r) P Q more h = more r h

-- A source is refused, said of the source alone, if and only if the compiler answers that refusal.
use Rattle.std.proofs.Common.{ℕ, List, Ok, Err}
use Rattle.tb_parser.specs.Files.{Outcome}
use Rattle.tb_compiled_errors.specs.declared.refusals.CompileError.{CompileError}
use Rattle.tb_compiled_errors.specs.declared.refusals.CompileError.TheVariants.{Source, Lower, TooLarge, NoMemory}
use Rattle.tb_compiled.specs.declared.settings.CompileSettings.{CompileSettings}
use Rattle.tb_compiled.specs.Answers.{Answered, OutcomeAnswer, SourceMakes, Compiles}
use Rattle.tb_compiled.specs.Refusals.{Refuses}
use Rattle.tb_engine_sources.specs.Refused.{IsRefused}
use Rattle.tb_compiled.specs.Promise.{Own}

-- an error that is no want of memory
abbrev IsRefusal : CompileError → Type 0
IsRefusal (Source e) = Unit {0}
IsRefusal (Lower e) = Unit {0}
IsRefusal (TooLarge n) = Unit {0}
IsRefusal NoMemory = ⊥

-- such an error answers what lines make if and only if that is refused for it
answer_refuses : (own : Own) (settings : CompileSettings) (outcome : Outcome) (e : CompileError) → IsRefusal e → OutcomeAnswer own settings outcome (Err e) → Refuses own settings outcome e
answer_refuses own settings (Ok program) (Source e) told none = none
answer_refuses own settings (Ok program) (Lower e) told deep = deep
answer_refuses own settings (Ok program) (TooLarge n) told large = large
answer_refuses own settings (Ok program) NoMemory told h = told
answer_refuses own settings (Err r) (Source e) told tells = tells
answer_refuses own settings (Err r) (Lower e) told none = none
answer_refuses own settings (Err r) (TooLarge n) told none = none
answer_refuses own settings (Err r) NoMemory told h = told

refused_answers : (own : Own) (settings : CompileSettings) (outcome : Outcome) (e : CompileError) → Refuses own settings outcome e → OutcomeAnswer own settings outcome (Err e)
refused_answers own settings (Ok program) (Source e) none = none
refused_answers own settings (Ok program) (Lower e) deep = deep
refused_answers own settings (Ok program) (TooLarge n) large = large
refused_answers own settings (Ok program) NoMemory none = tt
refused_answers own settings (Err r) (Source e) tells = tells
refused_answers own settings (Err r) (Lower e) none = none
refused_answers own settings (Err r) (TooLarge n) none = none
refused_answers own settings (Err r) NoMemory none = tt

by_answer : (own : Own) (settings : CompileSettings) (source : List ℕ) (e : CompileError) → IsRefusal e → Answered own settings source (Err e)
    → ((outcome : Outcome) → SourceMakes settings.notation source outcome → OutcomeAnswer own settings outcome (Err e)) → IsRefused own settings source e
by_answer own settings source e told found only =
    record {
      outcome = found.outcome;
      made = found.made;
      refused = answer_refuses own settings found.outcome e told found.answer;
      only = λ outcome made. answer_refuses own settings outcome e told (only outcome made);
    }

-- what the compiler refuses is refused, for what is made of a source that is not compiled
pub is_refused : (own : Own) (settings : CompileSettings) (source : List ℕ) (e : CompileError) → Compiles own settings source (Err e) → IsRefused own settings source e
is_refused own settings source (Source e) a = by_answer own settings source (Source e) tt a.found a.only
is_refused own settings source (Lower e) a = by_answer own settings source (Lower e) tt a.found a.only
is_refused own settings source (TooLarge n) a = by_answer own settings source (TooLarge n) tt a.found a.only
is_refused own settings source NoMemory none = absurd none

module _ (own : Own) (settings : CompileSettings) (source : List ℕ) (e : CompileError) (r : IsRefused own settings source e) where
  found : Answered own settings source (Err e)
  found = record { outcome = r.outcome; made = r.made; answer = refused_answers own settings r.outcome e r.refused }

  only : (outcome : Outcome) → SourceMakes settings.notation source outcome → OutcomeAnswer own settings outcome (Err e)
  only outcome made = refused_answers own settings outcome e (r.only outcome made)

never_memory : (own : Own) (settings : CompileSettings) (outcome : Outcome) → Refuses own settings outcome NoMemory → ⊥
never_memory own settings (Ok program) none = none
never_memory own settings (Err r) none = none

-- what is refused the compiler refuses, so that nothing is lost by saying it of the source alone
pub is_answered : (own : Own) (settings : CompileSettings) (source : List ℕ) (e : CompileError) → IsRefused own settings source e → Compiles own settings source (Err e)
is_answered own settings source (Source e) r =
    record { found = found own settings source (Source e) r; only = only own settings source (Source e) r }
is_answered own settings source (Lower e) r = record { found = found own settings source (Lower e) r; only = only own settings source (Lower e) r }
is_answered own settings source (TooLarge n) r =
    record { found = found own settings source (TooLarge n) r; only = only own settings source (TooLarge n) r }
is_answered own settings source NoMemory r = never_memory own settings r.outcome r.refused

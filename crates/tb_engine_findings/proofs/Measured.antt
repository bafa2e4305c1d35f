-- What the compiler tells of a program's size.
use Rattle.std.proofs.Common.{◌≡◌, ℕ, ◌+◌, ◌≤◌, List, [], Option, Some, None, Result, Ok, Err, ap, subst, sym, ◌∙◌, arith, is_some, true≢false}
use Rattle.tb_basic_meaning.specs.declared.needs.LowerError.{LowerError}
use Rattle.tb_basic_meaning.specs.declared.needs.LowerError.TheVariants as deep
use Rattle.tb_basic_text.specs.declared.notation.Notation.{Notation}
use Rattle.tb_parser.specs.declared.errors.SourceError.{SourceError}
use Rattle.tb_compiled_errors.specs.declared.refusals.CompileError.TheVariants.{Source, Lower, TooLarge}
use Rattle.tb_compiled_errors.specs.declared.refusals.CompileError.{CompileError}
use Rattle.tb_compiled.specs.declared.compiled.Compiled.{Compiled}
use Rattle.tb_compiled.specs.declared.settings.CompileSettings.{CompileSettings}
use Rattle.tb_compiled.specs.declared.settings.SizeLimit.TheVariants.{Memory}
use Rattle.tb_compiled.specs.Answers.{AnswersFor}
use Rattle.tb_compiled.specs.Promise.{Own}
use Rattle.tb_engine_findings.specs.Agreement.{first_of}
use Rattle.tb_engine_findings.specs.Verdicts.{MakesShallow, TellsSizeOf}
use Rattle.tb_engine_findings.proofs.Agreed.{first_deep, no_deep}

-- the compiler's settings by the memory
abbrev by_memory : Notation → ℕ → CompileSettings
by_memory notation seed = record { seed = seed; size = Memory; notation = notation }

module _ (own : Own) (notation : Notation) (seed : ℕ) (source : List ℕ) where
  -- what the compiler promises of a refusal, with the refusal as it is
  refusal : {found : CompileError} (e : CompileError) → found ≡ e → AnswersFor own (by_memory notation seed) source (Err found) → AnswersFor own (by_memory notation seed) source (Err e)
  refusal e same only = subst (λ f. AnswersFor own (by_memory notation seed) source (Err f)) same only

  -- a source that makes a program is not refused by its lines
  pub no_bad_line : {found : CompileError} (e : SourceError) → found ≡ Source e → MakesShallow notation source → AnswersFor own (by_memory notation seed) source (Err found) → ⊥
  no_bad_line e same makes only = refusal (Source e) same only (Ok makes.program) makes.made

  -- nor by a line that is too deep, if there is none
  pub no_deep_line : {found : CompileError} (e : LowerError) → found ≡ Lower e → MakesShallow notation source → AnswersFor own (by_memory notation seed) source (Err found) → ⊥
  no_deep_line deep.NoMemory same makes only = refusal (Lower deep.NoMemory) same only (Ok makes.program) makes.made
  no_deep_line (deep.TooDeep n) same makes only =
      let refused = refusal (Lower (deep.TooDeep n)) same only (Ok makes.program) makes.made in
      let none : ◌≡◌ {A = Option ℕ} None (Some n) = sym (ap first_of makes.shallow) ∙ first_deep makes.program ∙ refused in
      true≢false (sym (ap is_some none))

  -- what is compiled is not too large
  pub fits_all : (c : Compiled) → AnswersFor own (by_memory notation seed) source (Ok c) → TellsSizeOf own notation Memory source None
  fits_all c only program made shallow =
      let is = (only (Ok program) made).1 in let taken = is.taken in let ends = is.of.ends in omega (arith, taken, ends)

  -- what is refused by its size is too large, by the number that is told
  pub takes_all : {found : CompileError} (n : ℕ) → found ≡ TooLarge n → AnswersFor own (by_memory notation seed) source (Err found) → TellsSizeOf own notation Memory source (Some n)
  takes_all n same only program made =
      let answer = refusal (TooLarge n) same only (Ok program) made in
      (no_deep program answer.0, answer.1)

-- The verdict and the compiler's answer.
use Rattle.std.proofs.Common.{◌≡◌, ◌≢◌, ℕ, ◌≤◌, ◌<◌, nat_le, true, false, List, [], ◌∷◌, map, Option, Some, None, Result, Ok, Err}
use Rattle.std.proofs.Common.{if◌then◌else◌, refl, sym, ap, ◌∙◌, subst, arith, is_some, true≢false}
use Rattle.std.specs.Prelude.{IfOk}
use Rattle.tb_basic_syntax.specs.Source.{Program}
use Rattle.tb_basic_meaning.specs.Need.{statement_need, too_deep}
use Rattle.tb_basic_meaning.specs.declared.needs.LowerError.TheVariants as deep
use Rattle.tb_parser.specs.declared.errors.SourceError.{SourceError}
use Rattle.tb_compiled_errors.specs.declared.refusals.CompileError.TheVariants.{Source, Lower, TooLarge, NoMemory}
use Rattle.tb_compiled_errors.specs.declared.refusals.CompileError.{CompileError}
use Rattle.tb_compiled.specs.Answers.{AnswersFor, ProgramAnswer}
use Rattle.tb_compiled.specs.Compiled.{IsCompiled}
use Rattle.tb_compiled.specs.Promise.{Own}
use Rattle.tb_compiled.specs.Refusals.{IsTooLarge, IsWithinCost}
use Rattle.tb_compiled.specs.declared.compiled.Compiled.{Compiled}
use Rattle.tb_compiled.specs.declared.settings.CompileSettings.{CompileSettings}
use Rattle.tb_engine_findings.specs.declared.settings.CheckSettings.{CheckSettings}
use Rattle.tb_compiled.specs.declared.settings.SizeLimit.{SizeLimit}
use Rattle.tb_compiled.specs.declared.settings.SizeLimit.TheVariants.{Cost, Memory}
use Rattle.tb_engine_findings.specs.Agreement.{Accepts, Agrees, AgreesWith, RefusesFirst, RefusesProgram, first_of, with_seed}
use Rattle.tb_engine_findings.specs.BadLines.{FirstIs}
use Rattle.tb_engine_findings.specs.Verdicts.{HasFaults, IsGood, Judges, TellsSize, deep_lines}
use Rattle.tb_engine_findings.specs.declared.judging.ProgramFaults.{ProgramFaults}
use Rattle.tb_engine_findings.specs.declared.judging.Verdict.{Verdict}
use Rattle.tb_engine_findings.specs.declared.judging.Verdict.TheVariants.{BadLines, Empty, Refused, Accepted}

-- the lowest line that is too deep is the first of them
first_step : (n : ℕ) (rest : Option ℕ) (ns : List ℕ) (c : _) → first_of ns ≡ rest → first_of (if c then ns else n ∷ ns) ≡ (if c then rest else Some n)
first_step n rest ns true h = h
first_step n rest ns false h = refl

pub first_deep : (p : Program) → first_of (deep_lines p) ≡ too_deep p
first_deep [] = refl
first_deep (line ∷ lines) = first_step line.number (too_deep lines) (deep_lines lines) (nat_le (statement_need line.content) 16) (first_deep lines)

none_first : (ns : List ℕ) → first_of ns ≡ None → ns ≡ []
none_first [] h = refl
none_first (n ∷ ns) h = absurd (true≢false (ap is_some h))

pub no_deep : (p : Program) → too_deep p ≡ None → deep_lines p ≡ []
no_deep p h = none_first (deep_lines p) (first_deep p ∙ h)

none_is_some : (n : ℕ) → None ≡ Some n → ⊥
none_is_some n h = true≢false (sym (ap is_some h))

-- a compiled program is not too large
small : (own : Own) (size : SizeLimit) (seed : ℕ) (p : Program) (c : Compiled) → IsWithinCost size p → IsCompiled own seed p c → TellsSize own size p None
small own Cost seed p c cheap is = cheap
small own Memory seed p c any is = λ shallow. let taken = is.taken in let ends = is.of.ends in omega (arith, taken, ends)

-- what a refusal tells of the size is what was found of it
told : (own : Own) (size : SizeLimit) (p : Program) (n : ℕ) (found : Option ℕ) → deep_lines p ≡ [] → IsTooLarge own size p n → TellsSize own size p found
    → found ≡ Some n
told own Cost p n (Some m) shallow large tells = ap Some (sym tells.0 ∙ large.0)
told own Cost p n None shallow large tells = let is = large.0 in let past = large.1 in absurd (omega (arith, is, past, tells))
told own Memory p n (Some m) shallow large tells = ap Some (tells.1.1 ∙ sym large.1)
told own Memory p n None shallow large tells = let ends = tells shallow in let past = large.0 in absurd (omega (arith, ends, past))

-- a size that is told is too large, and the program is not good
one_size : (own : Own) (size : SizeLimit) (p : Program) (n : ℕ) → TellsSize own size p (Some n) → IsGood own size p → ⊥
one_size own Cost p n large good = let is = large.0 in let past = large.1 in let within = good.small in omega (arith, is, past, within)
one_size own Memory p n large good = let ends = good.small good.shallow in let past = large.1.0 in absurd (omega (arith, ends, past))

-- nothing is wrong exactly with a good program
pub good_of : (own : Own) (size : SizeLimit) (p : Program) (f : ProgramFaults) → HasFaults own size p f → f.deep.items ≡ [] → f.too_large ≡ None → IsGood own size p
good_of own size p f has deep none = record { shallow = sym has.deep ∙ deep; small = subst (TellsSize own size p) none has.large }

pub none_of : (own : Own) (size : SizeLimit) (p : Program) (f : ProgramFaults) → HasFaults own size p f → IsGood own size p → (f.deep.items ≡ []) × (f.too_large ≡ None)
none_of own size p f has good = (has.deep ∙ good.shallow, by f.too_large has.large)
  where
    by : (found : Option ℕ) → TellsSize own size p found → found ≡ None
    by None t = refl
    by (Some n) t = absurd (one_size own size p n t good)

refused : (own : Own) (settings : CheckSettings) (seed : ℕ) (p : Program) (f : ProgramFaults) (answer : Result Compiled CompileError) → HasFaults own settings.size p f → ¬ (IsGood own settings.size p)
    → ProgramAnswer own (with_seed seed settings) p answer → RefusesProgram f answer
refused own settings seed p f (Ok c) has bad h = bad (record { shallow = no_deep p h.1.of.shallow; small = small own settings.size seed p c h.0 h.1 })
refused own settings seed p f (Err (Source e)) has bad h = h
refused own settings seed p f (Err (Lower deep.NoMemory)) has bad h = h
refused own settings seed p f (Err (Lower (deep.TooDeep n))) has bad h = ap first_of has.deep ∙ first_deep p ∙ h
refused own settings seed p f (Err (TooLarge n)) has bad h = (has.deep ∙ no_deep p h.0, told own settings.size p n f.too_large (no_deep p h.0) h.1 has.large)
refused own settings seed p f (Err NoMemory) has bad h = tt

accepted : (own : Own) (settings : CheckSettings) (seed : ℕ) (p : Program) (answer : Result Compiled CompileError) → IsGood own settings.size p
    → ProgramAnswer own (with_seed seed settings) p answer → Accepts answer
accepted own settings seed p (Ok c) good h = tt
accepted own settings seed p (Err (Source e)) good h = h
accepted own settings seed p (Err (Lower deep.NoMemory)) good h = h
accepted own settings seed p (Err (Lower (deep.TooDeep n))) good h = none_is_some n (sym (ap first_of good.shallow) ∙ first_deep p ∙ h)
accepted own settings seed p (Err (TooLarge n)) good h = none_is_some n (told own settings.size p n None good.shallow h.1 good.small)
accepted own settings seed p (Err NoMemory) good h = tt

first : (own : Own) (settings : CompileSettings) (source : List ℕ) (found : List SourceError) (answer : Result Compiled CompileError) → FirstIs settings.notation source found → found ≢ []
    → AnswersFor own settings source answer → RefusesFirst found answer
first own settings source [] answer is some only = some refl
first own settings source (e ∷ found) answer is some only = (is.0, is.1, only _ is.2)

pub agree : (own : Own) (settings : CheckSettings) (seed : ℕ) (source : List ℕ) (v : Verdict) (answer : Result Compiled CompileError) → Judges own settings source v
    → AnswersFor own (with_seed seed settings) source answer → AgreesWith v answer
agree own settings seed source (BadLines found) answer h only = first own (with_seed seed settings) source found.items answer h.1 h.2 only
agree own settings seed source Empty answer h only = only _ h
agree own settings seed source (Refused f) answer h only = refused own settings seed h.0 f answer h.2.0 h.2.1 (only _ h.1)
agree own settings seed source (Accepted p) answer h only = accepted own settings seed h.0 answer h.2.1 (only _ h.1)

-- what a call answers agrees
pub agree_on : {E : Type 0} (own : Own) (settings : CheckSettings) (source : List ℕ) (r : Result Verdict E) → IfOk r (Judges own settings source) → IfOk r (Agrees own settings source)
agree_on own settings source (Ok v) h = λ seed answer only. agree own settings seed source v answer h only
agree_on own settings source (Err e) h = tt

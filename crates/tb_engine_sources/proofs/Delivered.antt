-- What is delivered of a source.
use Rattle.std.proofs.Common.{◌≡◌, ℕ, List, [], Option, Some, None, Result, Ok, Err, refl, subst, sym}
use Rattle.std.specs.Io.KnownBytes.{Keeps}
use Rattle.tb_compiled_errors.specs.declared.refusals.CompileError.{CompileError}
use Rattle.tb_basic_meaning.specs.declared.missing.Warning.{Warning}
use Rattle.tb_compiled.specs.Compiled.{warnings_of}
use Rattle.tb_compiled.specs.declared.compiled.Compiled.{Compiled}
use Rattle.tb_compiled.specs.declared.settings.CompileSettings.{CompileSettings}
use Rattle.tb_engine_streams.specs.Streams.{Reads}
use Rattle.tb_engines.specs.Outcomes.{Failure, Outcome, Product, Answers, MadeFrom}
use Rattle.tb_engines.specs.Delivery.{Makes, Shows}
use Rattle.tb_compiled.specs.Answers.{Compiles}
use Rattle.tb_engine_sources.specs.Sources.{FromSource}
use Rattle.tb_engine_sources.specs.Reading.{CompilesText}
use Rattle.tb_engines.specs.declared.delivery.Text.{Text}
use Rattle.tb_engines.specs.declared.delivery.NoText.{NoText}
use Rattle.tb_engines.specs.declared.delivery.NoText.TheVariants.{Refused as NoTextRefused, NoMemory as NoTextNoMemory}
use Rattle.tb_engine_streams.specs.Outcomes.{ended_by}
use Rattle.tb_engines.specs.declared.outcome.Refusal.TheVariants.{Source}
use Rattle.tb_engine_streams.specs.declared.outcome.Outcome.TheVariants.{Ended, Refused, ReadFault, WriteFault, NoMemory}
use Rattle.tb_engines.specs.declared.report.Report.{Report}
use Rattle.tb_engines.proofs.Ran.{answers_as}
use Rattle.tb_compiled.specs.Promise.{Own}

-- ---- what was made, and what was written of it

-- nothing was written
pub kept : (bytes : Option (List ℕ)) → Keeps bytes bytes
kept None = tt
kept (Some xs) = refl

-- what was made of one kind of product was made of any wider kind
pub makes_as : (p q : Product → Type 0) → ((x : Product) → p x → q x) → (made : Result Text NoText) → Makes p made → Makes q made
makes_as p q wider (Ok text) m = wider _ m
makes_as p q wider (Err (NoTextRefused e)) m = wider _ m
makes_as p q wider (Err NoTextNoMemory) m = tt

-- what is shown of what was made is of its kind
pub shown : (makes : Product → Type 0) (made : Result Text NoText) → Makes makes made → (x : Product) → Shows made x → makes x
shown makes (Ok text) m x s = subst makes (sym s) m
shown makes (Err (NoTextRefused e)) m x s = subst makes (sym s) m
shown makes (Err NoTextNoMemory) m x s = absurd s

-- what was written of what was made of an input
pub delivered : (makes : List ℕ → Product → Type 0) (had : Option (List ℕ)) (input source : List ℕ) (made : Result Text NoText)
    (outcome : Outcome) (old new : Option (List ℕ)) → Reads had input → source ≡ input → Makes (makes source) made
    → Answers (Shows made) outcome old new → Answers (MadeFrom had makes) outcome old new
delivered makes had input source made outcome old new reads same m written =
    let here = subst (λ s. Makes (makes s) made) same m in
    answers_as (Shows made) (MadeFrom had makes) (λ x s. (input, reads, shown (makes input) made here x s)) outcome old new written

-- where a source is not compiled, nothing is written, and nothing is warned of
pub refusal_delivered : (own : Own) (settings : CompileSettings) (makes : List Warning → List ℕ → Product → Type 0) (had : Option (List ℕ)) (source : List ℕ) (stop : Failure)
    (report : Report) (bytes : Option (List ℕ)) → ((e : CompileError) → Compiles own settings source (Err e) → makes [] source (Err (Source e)))
    → Reads had source → CompilesText own settings source (Err stop) → report.outcome ≡ ended_by (Err stop) → report.warnings.items ≡ []
    → Answers (MadeFrom had (makes report.warnings.items)) report.outcome bytes bytes
refusal_delivered own settings makes had source stop report bytes refusal reads refused ends none =
    subst (λ w. Answers (MadeFrom had (makes w)) report.outcome bytes bytes) (sym none)
    (subst (λ o. Answers (MadeFrom had (makes [])) o bytes bytes) (sym ends) (by stop refused))
  where
    by : (stop : Failure) → CompilesText own settings source (Err stop) → Answers (MadeFrom had (makes [])) (ended_by (Err stop)) bytes bytes
    by (Refused why) (e, is, same) = ((source, reads, subst (λ w. makes [] source (Err w)) (sym same) (refusal e is)), kept bytes)
    by NoMemory is = kept bytes
    by ReadFault never = absurd never
    by WriteFault never = absurd never
    by (Ended end) never = absurd never

-- ---- what is made of a source

-- what is made of a source's program is made of the source
pub from_compiled : (own : Own) (settings : CompileSettings) (makes : Compiled → Product → Type 0) (source : List ℕ) (c : Compiled) (warnings : List Warning)
    (made : Result Text NoText) → Compiles own settings source (Ok c) → warnings ≡ warnings_of c → Makes (makes c) made
    → Makes (FromSource own settings makes warnings source) made
from_compiled own settings makes source c warnings made compiled warned m =
    makes_as (makes c) (FromSource own settings makes warnings source) (λ x h. (Ok c, compiled, (warned, h))) made m

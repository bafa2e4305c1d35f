-- What linking answers is what the compiler answers.
use Rattle.std.proofs.Common.{ℕ, ◌≡◌, Some, None, Result, Ok, Err, subst}
use Rattle.std.specs.Prelude.{IfErr, IfOk}
use Rattle.tb_basic_syntax.specs.Source.{Program}
use Rattle.tb_lower.specs.Lowered as lowered
use Rattle.tb_lower.specs.Slots.{SlotCode}
use Rattle.tb_parser.specs.Files.{AreStated}
use Rattle.tb_compiled_errors.specs.declared.refusals.CompileError.{CompileError}
use Rattle.tb_compiled_errors.specs.declared.refusals.CompileError.TheVariants.{Source, Lower, TooLarge, NoMemory}
use Rattle.tb_compiled.specs.declared.compiled.Compiled.{Compiled}
use Rattle.tb_compiled.specs.declared.settings.CompileSettings.{CompileSettings}
use Rattle.tb_compiled.specs.declared.settings.SizeLimit.{SizeLimit}
use Rattle.tb_compiled.specs.declared.settings.SizeLimit.TheVariants.{Cost, Memory}
use Rattle.tb_compiled.specs.Answers.{ProgramAnswer}
use Rattle.tb_compiled.specs.Refusals.{IsExcess, IsTooLarge, IsWithinCost}
use Rattle.tb_codegen.specs.Coded.{IsSlotCode, IsTooLong, SettlesTooLong}
use Rattle.tb_codegen.specs.Compiled.{IsLinked}
use Rattle.tb_codegen.specs.Templates.{templates}
use Rattle.tb_codegen.proofs.Promised.{compiled, is_settled}
use Rattle.tb_codegen.proofs.Sized.{cheap_fits}

-- a program whose cost is more than it may be is too large
pub costs_too_much : (size : SizeLimit) (p : Program) (n : ℕ) → IsExcess size p (Some n) → IsTooLarge templates size p n
costs_too_much Cost p n h = h
costs_too_much Memory p n none = absurd none

-- and one whose cost is not is too large only by what it takes: a cheap one never is
takes_too_much : (size : SizeLimit) (seed : ℕ) (p : Program) {code : SlotCode} (n : ℕ) → code ≡ lowered.program_code p → AreStated p → IsWithinCost size p
    → SettlesTooLong n seed code → IsTooLarge templates size p n
takes_too_much Cost seed p n same stated cheap h = absurd (cheap_fits seed p same stated cheap h)
takes_too_much Memory seed p n same stated any h = is_settled seed n p (subst (SettlesTooLong n seed) same h)

within_cost : (size : SizeLimit) (p : Program) → IsExcess size p None → IsWithinCost size p
within_cost Cost p h = h
within_cost Memory p h = h

-- what is linked of a program that doesn't cost too much is the answer
pub linked_answer : (settings : CompileSettings) (p : Program) {code : SlotCode} (r : Result Compiled CompileError) → IsSlotCode p code → AreStated p
    → IsExcess settings.size p None → IfOk r (IsLinked settings.seed p) → IfErr r (IsTooLong settings.seed code) → ProgramAnswer templates settings p r
linked_answer settings p (Ok c) is stated within k h = (within_cost settings.size p within, compiled settings.seed p c k)
linked_answer settings p (Err (Source e)) is stated within k h = h
linked_answer settings p (Err (Lower e)) is stated within k h = absurd h
linked_answer settings p (Err (TooLarge n)) is stated within k h =
    (is.shallow, takes_too_much settings.size settings.seed p n is.lowered stated (within_cost settings.size p within) h)
linked_answer settings p (Err NoMemory) is stated within k h = tt

-- The goals of `compile_within` in src/compiler.rt.
use Rattle.std.proofs.Common.{ℕ, List, [], refl, rules, subst, Result, Ok, Err}
use Rattle.std.specs.Prelude.{IfOk}
use Rattle.tb_basic_syntax.specs.PlainData.{lines_of}
use Rattle.tb_basic_text.specs.declared.notation.Notation.TheVariants.{Plain}
use Rattle.tb_parser.specs.Files.{Outcome}
use Rattle.tb_basic_text.specs.Lines.{lines_of_file}
use Rattle.tb_parser.specs.Signed.{LackSigns}
use Rattle.tb_parser.proofs.Alike.{lines_alike}
use Rattle.tb_compiled_errors.specs.declared.refusals.CompileError.{CompileError}
use Rattle.tb_compiled.specs.Answers.{LinesMake, OutcomeAnswer, SourceMakes}
use Rattle.tb_compiled.specs.declared.compiled.Compiled.{Compiled}
use Rattle.tb_compiled.specs.declared.settings.CompileSettings.{CompileSettings}
use Rattle.tb_codegen.specs.Templates.{templates}
use Rattle.tb_codegen.proofs.Kept.{made_some}
use Rattle.tb_codegen.proofs.compiler.compile_within.Goals as goal

with_first : {C E : Type 0} (P : C → Type 0) (Q : C → Type 0) (r : Result C E) → ((c : C) → P c → Q c) → IfOk r P → IfOk r Q
with_first P Q (Ok c) f h = f c h
with_first P Q (Err e) f h = tt

-- if no text has a sign, what is answered for the lines in the notation is answered for them without signs
plain_answer : (settings : CompileSettings) (source : List ℕ) (result : Result Compiled CompileError)
    → ((outcome : Outcome) → SourceMakes settings.notation source outcome → OutcomeAnswer templates settings outcome result) → LackSigns (lines_of_file source)
    → (outcome : Outcome) → LinesMake source outcome → OutcomeAnswer templates settings outcome result
plain_answer settings source result only lack outcome made =
    only outcome (lines_alike Plain settings.notation 1 [] (lines_of_file source) outcome lack made)

pub returns-in_err-program-clause-plain : goal.returns-in_err-program-clause-plain
returns-in_err-program-clause-plain c = plain_answer c.args.settings c.args.source.now c.from_residual.result (search rules)

pub returns-clause-plain : goal.returns-clause-plain
returns-clause-plain c =
    plain_answer c.args.settings c.args.source.now c.compile_program.result (λ outcome made.
    subst (λ said. OutcomeAnswer templates c.args.settings said c.compile_program.result) (c.in_ok-program.ensures.only outcome made) c.compile_program.ensures.answer)

pub returns-clause-keeps : goal.returns-clause-keeps
returns-clause-keeps c =
    let p = lines_of c.in_ok-program.program in
    with_first _ _ c.compile_program.result (λ k h. (p, c.in_ok-program.ensures.found, h)) (c.compile_program.ensures.keeps (made_some _ _ _ _ c.in_ok-program.ensures.found p refl))

pub returns-clause-marks : goal.returns-clause-marks
returns-clause-marks c =
    let p = lines_of c.in_ok-program.program in
    with_first _ _ c.compile_program.result (λ k h. (p, c.in_ok-program.ensures.found, h)) (c.compile_program.ensures.marks (made_some _ _ _ _ c.in_ok-program.ensures.found p refl))

-- The goals of `compile_to_fit` in src/compiler.rt.
use Rattle.std.proofs.Common.{subst}
use Rattle.std.specs.Prelude.{IfOk}
use Rattle.tb_parser.specs.Files.{Outcome}
use Rattle.tb_compiled.specs.Answers.{OutcomeAnswer, SourceMakes}
use Rattle.tb_compiled.specs.declared.settings.CompileSettings.{CompileSettings}
use Rattle.tb_compiled.specs.Theorem.{KeepsSourceIn, MarksLinesIn}
use Rattle.tb_codegen.specs.Templates.{templates}
use Rattle.tb_codegen.proofs.GoodSources.{keeps_its_source, marks_its_lines}
use Rattle.tb_codegen.proofs.Same.{gives_same}
use Rattle.tb_codegen.proofs.compiler.compile_to_fit.Goals as goal

pub returns-clause-same : goal.returns-clause-same
returns-clause-same c =
    gives_same c.args.options.seed c.args.source.now c.compile_within.result
    (subst (λ settings. (outcome : Outcome) → SourceMakes settings.notation c.args.source.now outcome → OutcomeAnswer templates settings outcome c.compile_within.result)
    c.by_memory.ensures c.compile_within.ensures.only)

pub returns-clause-keeps : goal.returns-clause-keeps
returns-clause-keeps c =
    keeps_its_source c.args.options.seed c.args.source.now c.compile_within.result
    (subst (λ (settings : CompileSettings). IfOk c.compile_within.result (KeepsSourceIn settings.notation settings.seed c.args.source.now))
    c.by_memory.ensures c.compile_within.ensures.keeps)

pub returns-clause-marks : goal.returns-clause-marks
returns-clause-marks c =
    marks_its_lines c.args.options.seed c.args.source.now c.compile_within.result
    (subst (λ (settings : CompileSettings). IfOk c.compile_within.result (MarksLinesIn settings.notation settings.seed c.args.source.now))
    c.by_memory.ensures c.compile_within.ensures.marks)

-- The goals of `compile` in src/compiler.rt.
use Rattle.std.proofs.Common.{subst}
use Rattle.std.specs.Prelude.{IfOk}
use Rattle.tb_compiled.specs.declared.settings.CompileSettings.{CompileSettings}
use Rattle.tb_compiled.specs.Theorem.{KeepsSourceIn, MarksLinesIn}
use Rattle.tb_codegen.proofs.GoodSources.{keeps_its_source, marks_its_lines}
use Rattle.tb_codegen.proofs.compiler.compile.Goals as goal

pub returns-clause-keeps : goal.returns-clause-keeps
returns-clause-keeps c =
    keeps_its_source c.args.options.seed c.args.source.now c.compile_within.result
    (subst (λ (settings : CompileSettings). IfOk c.compile_within.result (KeepsSourceIn settings.notation settings.seed c.args.source.now))
    c.by_cost.ensures c.compile_within.ensures.keeps)

pub returns-clause-marks : goal.returns-clause-marks
returns-clause-marks c =
    marks_its_lines c.args.options.seed c.args.source.now c.compile_within.result
    (subst (λ (settings : CompileSettings). IfOk c.compile_within.result (MarksLinesIn settings.notation settings.seed c.args.source.now))
    c.by_cost.ensures c.compile_within.ensures.marks)

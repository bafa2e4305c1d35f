-- The goals of `judge_program` in src/judging.rt.
use Rattle.std.proofs.Common.{◌∙◌, refl, subst, sym, true≢false}
use Rattle.tb_basic_syntax.specs.PlainData.{lines_of}
use Rattle.tb_engine_findings.specs.Verdicts.{JudgesProgram}
use Rattle.tb_engine_findings.proofs.Agreed.{good_of, none_of}
use Rattle.tb_engine_findings.proofs.judging.judge_program.Goals as goal
use Rattle.tb_engine_findings.proofs.judging.judge_program.Goals.{then-is_empty, else-is_empty}

pub returns : goal.returns
returns g c =
    let size = c.args.settings.size in
    let p = lines_of c.args.program in
    let faults = c.in_ok-faults.faults in
    let has = c.in_ok-faults.ensures in
    elim c.if-is_empty.branch [
      | then-is_empty w ↦
          let none = c.is_empty.ensures.0 w.if-is_empty.true in
          subst (JudgesProgram g.K.Compile.own size p) (sym w.result-is) (refl, good_of g.K.Compile.own size p faults has none.0 none.1)
      | else-is_empty w ↦
          subst (JudgesProgram g.K.Compile.own size p) (sym w.result-is)
          (has, λ good. true≢false (sym (c.is_empty.ensures.1 (none_of g.K.Compile.own size p faults has good)) ∙ w.if-is_empty.false))
    ]

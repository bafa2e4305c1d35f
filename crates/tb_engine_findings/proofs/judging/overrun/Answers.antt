-- The goals of `overrun` in src/judging.rt.
use Rattle.std.proofs.Common.{subst, sym}
use Rattle.std.specs.Prelude.{IfOk}
use Rattle.tb_compiled.specs.declared.settings.SizeLimit.TheVariants.{Memory}
use Rattle.tb_engine_findings.specs.Verdicts.{TellsSizeOf}
use Rattle.tb_engine_findings.proofs.Measured.{no_bad_line, no_deep_line, fits_all, takes_all}
use Rattle.tb_engine_findings.proofs.judging.overrun.Goals as goal
use Rattle.tb_engine_findings.proofs.judging.overrun.Goals.{in-Ok, in-Err-TooLarge, in-Err-NoMemory}

pub unreachable-requires : goal.unreachable-requires
unreachable-requires g c =
    let e = c.in-Err-Source in
    no_bad_line g.K.Compile.own c.args.notation 1 c.args.source.now e.field-0-0 e.field-0-is c.requires e.ensures.only

pub unreachable-requires-in-Err-Lower : goal.unreachable-requires-in-Err-Lower
unreachable-requires-in-Err-Lower g c =
    let e = c.in-Err-Lower in
    no_deep_line g.K.Compile.own c.args.notation 1 c.args.source.now e.field-0-0 e.field-0-is c.requires e.ensures.only

pub returns : goal.returns
returns g c =
    let source = c.args.source.now in
    elim c.match-compile.branch [
      | in-Ok w ↦ subst (λ r. IfOk r (TellsSizeOf g.K.Compile.own c.args.notation Memory source)) (sym w.result-is)
          (fits_all g.K.Compile.own c.args.notation 1 source w.in-Ok.field-0 w.in-Ok.ensures.only)
      | in-Err-TooLarge w ↦
          let e = w.in-Err-TooLarge in
          subst (λ r. IfOk r (TellsSizeOf g.K.Compile.own c.args.notation Memory source)) (sym w.result-is)
          (takes_all g.K.Compile.own c.args.notation 1 source e.bytes e.field-0-is e.ensures.only)
      | in-Err-NoMemory w ↦ subst (λ r. IfOk r (TellsSizeOf g.K.Compile.own c.args.notation Memory source)) (sym w.result-is) tt
    ]

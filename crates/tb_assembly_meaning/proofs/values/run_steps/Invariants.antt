-- What holds at each turn of the loop of `run_steps` in src/values.rt.
use Rattle.std.proofs.Common.{◌≡◌, drop}
use Rattle.tb_assembly_text.specs.Expressions.{marks_of}
use Rattle.tb_assembly_meaning.specs.Names.{named}
use Rattle.tb_assembly_meaning.specs.Values.{run}
use Rattle.tb_assembly_meaning.proofs.values.run_steps.Given as goal

abbrev pub invariant-loop-step : goal.invariant-loop-step
invariant-loop-step l =
    run (named l.symbols.entries) l.here (drop l.step-index (marks_of l.steps)) l.stack
    ≡ run (named l.symbols.entries) l.here (marks_of l.steps) l.initial.stack

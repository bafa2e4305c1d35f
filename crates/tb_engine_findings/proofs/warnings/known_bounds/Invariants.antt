-- What holds at each turn of the loop of `known_bounds` in src/warnings.rt.
use Rattle.std.proofs.Common.{◌≡◌, ◌++◌, drop}
use Rattle.std.specs.Prelude.{flat_map, option_to_list}
use Rattle.tb_basic_syntax.specs.PlainData.{statement_of}
use Rattle.tb_engine_findings.specs.Warnings.{known_bounds}
use Rattle.tb_engine_findings.proofs.warnings.known_bounds.Given as goal

abbrev pub invariant-loop-bound : goal.invariant-loop-bound
invariant-loop-bound l = l.known.items ++ flat_map option_to_list (drop l.bound-index l.bound-items) ≡ known_bounds (statement_of l.statement)

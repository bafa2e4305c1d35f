-- What holds at each turn of the loop of `push_deep` in src/refusals.rt.
use Rattle.std.proofs.Common.{◌≡◌, ◌++◌, take, map}
use Rattle.std.specs.Prelude.{flat_map}
use Rattle.tb_basic_source.specs.Lines.{pair_of}
use Rattle.tb_engine_check.specs.Refusals.{deep_rows_of}
use Rattle.tb_engine_check.specs.Reports.{lines_in}
use Rattle.tb_engine_check.proofs.refusals.push_deep.Given as goal

abbrev pub invariant-loop-line : goal.invariant-loop-line
invariant-loop-line l =
    l.text.items
    ≡ l.initial.text.items
    ++ flat_map (deep_rows_of l.source.name.now (lines_in l.source) (map pair_of l.numbered) l.number) (take l.line-index l.lines)

-- What holds at each turn of the loop of `line_starts` in src/linking.rt.
use Rattle.std.proofs.Common.{◌≡◌, ◌++◌, map, drop}
use Rattle.tb_basic_syntax.specs.Source.{numbers}
use Rattle.tb_lower.specs.PlainData.{code_of}
use Rattle.tb_codegen.specs.Compiled.{AreKnown, starts_in}
use Rattle.tb_compiled.specs.Compiled.{pair_of}
use Rattle.tb_codegen.proofs.linking.line_starts.Given as goal

abbrev pub invariant-loop-line : goal.invariant-loop-line
invariant-loop-line l =
    AreKnown l.image.labels.entries (numbers (code_of (drop l.line-index l.lines)))
    × (map pair_of l.starts.items ++ starts_in l.image.labels.entries (numbers (code_of (drop l.line-index l.lines))) ≡ starts_in l.image.labels.entries (numbers (code_of l.lines)))

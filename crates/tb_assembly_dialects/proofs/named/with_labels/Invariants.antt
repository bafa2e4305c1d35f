-- What holds at each turn of the loop of `with_labels` in src/named.rt.
use Rattle.std.proofs.Common.{◌≡◌, ◌++◌, drop, map}
use Rattle.std.specs.Prelude.{flat_map}
use Rattle.tb_disasm.specs.Lines.{shown}
use Rattle.tb_assembly_dialects.specs.Named.{line_named, text_named}
use Rattle.tb_assembly_dialects.specs.Places.{view_below}
use Rattle.tb_assembly_dialects.proofs.named.with_labels.Given as goal

abbrev pub invariant-loop-line : goal.invariant-loop-line
invariant-loop-line l =
    l.text.items ++ flat_map (line_named (view_below l.fn.end (map shown l.lines))) (map shown (drop l.line-index l.lines)) ≡ text_named l.fn.end (map shown l.lines)

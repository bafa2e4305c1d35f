-- What holds at each turn of the loop of `using` in src/shown.rt.
use Rattle.std.proofs.Common.{◌≡◌, ◌++◌, drop}
use Rattle.tb_lsp_hover.specs.Shown.{using_from}
use Rattle.tb_lsp_hover.proofs.shown.using.Given as goal

abbrev pub invariant-loop-i : goal.invariant-loop-i
invariant-loop-i l =
    l.found.items ++ using_from l.source.lines.items l.so.name l.so.gets l.i (drop l.i l.source.lines.items)
    ≡ using_from l.source.lines.items l.so.name l.so.gets 0 l.source.lines.items

-- The goal of `put` in src/texts.rt.
use Rattle.std.proofs.Common.{rules}
use Rattle.tb_lsp_server.proofs.texts.Texts.put.Goals as goal

pub returns : goal.returns
returns c =
    let (named, written) = c.in_ok-now.ensures in
    (c.in_ok-now.now, named, written, search rules)

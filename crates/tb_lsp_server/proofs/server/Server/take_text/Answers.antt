-- The goal of `Server::take_text` in src/server.rt.
use Rattle.std.proofs.Common.{rules, subst}
use Rattle.tb_lsp_diagnostics.specs.Published.{Publishes}
use Rattle.tb_lsp_server.specs.Replies.{OpensText}
use Rattle.tb_lsp_server.specs.declared.server.Server.{Server}
use Rattle.tb_lsp_server.proofs.server.Server.take_text.Goals as goal

pub returns : goal.returns
returns g c =
    let old = c.args.self.now in
    let new : Server = record { stage = old.stage; texts = c.put.new.self; version = old.version; notation = old.notation } in
    let opened : OpensText c.args.uri.now c.args.text.now old new = search rules in
    let shown =
    subst (λ text. Publishes g.K.Compile.own old.notation c.args.uri.now c.args.version text c.in_ok-content.content.items) c.as_bytes.ensures.value c.in_ok-content.ensures in
    (opened, shown)

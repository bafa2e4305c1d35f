-- The goal of `take_notice` in src/server.rt.
use Rattle.std.proofs.Common.{◌≡◌, true, subst, sym, ◌∙◌}
use Rattle.tb_lsp_server.specs.Notices.{told}
use Rattle.tb_lsp_server.specs.Replies.{TakesChange, TakesNotice}
use Rattle.tb_lsp_server.specs.Texts.{has}
use Rattle.tb_lsp_server.proofs.server.Server.take_notice.Goals as goal

pub returns-in_ok-take_text-in-Change : goal.returns-in_ok-take_text-in-Change
returns-in_ok-take_text-in-Change g c =
    let is : has c.in-Change.uri.now c.args.self.now.texts.all.items ≡ true = sym c.has.ensures ∙ c.if-has.true in
    subst (λ n. TakesNotice g.K.Compile.own (told n) c.args.self.now c.in_ok-take_text-in-Change.field-0 c.take_text-then-has.new.self) (sym c.in-Change.is)
    (subst (λ b. TakesChange g.K.Compile.own b c.in-Change.uri.now c.in-Change.text.now c.in-Change.version c.args.self.now c.in_ok-take_text-in-Change.field-0 c.take_text-then-has.new.self) (sym is)
    c.in_ok-take_text-in-Change.ensures)

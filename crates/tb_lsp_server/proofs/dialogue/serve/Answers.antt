-- The goal of `serve` in src/dialogue.rt.
use Rattle.tb_editor_dialogue.proofs.Parts.{converses}
use Rattle.tb_lsp_server.specs.Dialogue.{Answers, EndsAs}
use Rattle.tb_lsp_server.proofs.dialogue.serve.Goals as goal

pub returns : goal.returns
returns g c = (
  c.new.result,
  c.new.ensures,
  (
    c.converse.new.talker.server,
    (converses (λ s. s.server) (λ s. Unit {0}) _ (Answers g.K.Compile.own) _ EndsAs (λ s h r t so takes. tt) (λ s h r t so takes. takes)
        (λ s e so ends. ends) _ _ _ tt c.converse.ensures).1,
  ),
)

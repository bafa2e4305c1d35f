-- The goals of `Output::send_zone` in src/output.rt.
use Rattle.std.proofs.Common.{◌≡◌, ◌%◌, OnOk, subst}
use Rattle.tb_basic_meaning.specs.Control.{column_after}
use Rattle.tb_basic_meaning.proofs.Interpreting.{spaces}
use Rattle.tb_basic_meaning.proofs.output.Output.send_zone.Goals as goal

pub returns-clause-column : goal.returns-clause-column
returns-clause-column c =
    subst (λ text. OnOk c.send_all.result (c.send_all.new.self.column ≡ column_after c.args.self.now.column text)) (spaces (c.args.self.now.column % 8)) c.send_all.ensures.column

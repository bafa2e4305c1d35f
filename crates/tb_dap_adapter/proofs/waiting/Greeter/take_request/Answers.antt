-- The goal of `Greeter::take_request` in src/waiting.rt.
use Rattle.std.proofs.Common.{ap, ◌∙◌}
use Rattle.std.proofs.lemmas.Result.{IfOk-weaker}
use Rattle.tb_dap_adapter.specs.Talking.{end_by}
use Rattle.tb_dap_adapter.specs.declared.waiting.Waited.TheVariants.{Done}
use Rattle.tb_dap_adapter.proofs.waiting.Greeter.take_request.Goals as goal

pub returns-clause-greets : goal.returns-clause-greets
returns-clause-greets g c =
    IfOk-weaker c.say_greeting.result _ _ (λ turn says. (
      c.in_ok-greeting.greeting,
      rw c.command_of-command.ensures at c.in_ok-greeting.ensures,
      rw (c.end_by-end.ensures ∙ ap (λ command. end_by command Done) c.command_of-command.ensures) at says,
    ))
    c.say_greeting.ensures

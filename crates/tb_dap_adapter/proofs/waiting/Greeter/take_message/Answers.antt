-- The goal of `Greeter::take_message` in src/waiting.rt.
use Rattle.tb_dap_adapter.proofs.waiting.Greeter.take_message.Goals as goal

pub returns-in-Request-clause-greets : goal.returns-in-Request-clause-greets
returns-in-Request-clause-greets g c = rw c.in-Request.is (rw c.given.ensures at c.take_request.ensures.greets)

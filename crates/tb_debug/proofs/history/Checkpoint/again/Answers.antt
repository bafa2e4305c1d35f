-- The goals of `Checkpoint::again` in src/history.rt.
use Rattle.std.proofs.Common.{take, ap, ◌∙◌}
use Rattle.std.proofs.lemmas.List.{take_min}
use Rattle.tb_debug.proofs.Keeping.{again_of}
use Rattle.tb_debug.proofs.history.Checkpoint.again.Goals as goal

pub returns-clause-again : goal.returns-clause-again
returns-clause-again c = λ marks start now h sent kept before.
    again_of marks start c.args.self.now _ now _ c.in_ok-moment.ensures (ap (λ n. take n c.args.sent.now) c.min-count.ensures
    ∙ take_min c.args.self.now.sent c.args.sent.now ∙ ap (take c.args.self.now.sent) sent) h kept before

-- The goals of `sent_at` in src/differing.rt.
use Rattle.std.proofs.Common.{rules, ◌∙◌, ap, sym}
use Rattle.tb_engine_transcripts.proofs.Same.{sent_in_last, sent_in_turn}
use Rattle.tb_engine_transcripts.proofs.differing.sent_at.Goals as goal

pub returns-then-turn-len : goal.returns-then-turn-len
returns-then-turn-len c =
    c.as_slice.ensures.value ∙ ap (λ t. t.sent.items) c.index.ensures
    ∙ sym (sent_in_turn c.args.transcript.now.turns.items c.args.transcript.now.last.items c.args.turn c.index.result.now (search rules))

pub returns-else-turn-len : goal.returns-else-turn-len
returns-else-turn-len c =
    c.as_slice-else-turn-len.ensures.value
    ∙ sym (sent_in_last c.args.transcript.now.turns.items c.args.transcript.now.last.items c.args.turn (search rules))

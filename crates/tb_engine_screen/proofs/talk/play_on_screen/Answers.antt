-- The goals of `play_on_screen` in src/talk.rt.
use Rattle.std.proofs.Common.{rules, ◌≡◌, inr}
use Rattle.tb_machine_screen.specs.Frames.{closing_of}
use Rattle.tb_engine_screen.proofs.Leaving.{left_by, still_left, faults_left}
use Rattle.tb_engine_screen.proofs.talk.play_on_screen.Goals as goal

pub returns-clause-dialogue : goal.returns-clause-dialogue
returns-clause-dialogue g c =
    let is : c.as_bytes.result.now ≡ closing_of = search rules in
    inr (_, _, c.talk-outcome.ensures.dialogue, left_by _ _ _ _ _ _ is c.leave.ensures.text)

pub returns-clause-written_first : goal.returns-clause-written_first
returns-clause-written_first g c =
    still_left _ _ _ _ _ _ _ _ _ _ c.talk-outcome.ensures.written_first c.leave.ensures.text

pub returns-clause-faults : goal.returns-clause-faults
returns-clause-faults g c =
    faults_left _ _ _ _ _ _ _ _ _ c.talk-outcome.ensures.faults c.leave.ensures.faults

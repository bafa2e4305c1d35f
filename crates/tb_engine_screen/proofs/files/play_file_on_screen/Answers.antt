-- The goals of `play_file_on_screen` in src/files.rt.
use Rattle.std.proofs.Common.{rules, refl, inl, inr, subst, sym}
use Rattle.tb_engine_screen.specs.Files.{IsUnplayed}
use Rattle.tb_engine_screen.proofs.Starting.{unplayed}
use Rattle.tb_engine_screen.proofs.files.play_file_on_screen.Goals as goal

pub returns-in-Ok-clause-dialogue : goal.returns-in-Ok-clause-dialogue
returns-in-Ok-clause-dialogue g c =
    inl (_, c.in-Ok.ensures, c.play_on_screen.ensures.dialogue)

pub returns-in-Err-clause-dialogue : goal.returns-in-Err-clause-dialogue
returns-in-Err-clause-dialogue g c =
    inr (subst (IsUnplayed c.args.file.now) (sym c.from.ensures) (unplayed c.args.file.now c.in-Err.stop c.in-Err.ensures), search rules, refl, refl)

pub returns-in-Ok-clause-written_first : goal.returns-in-Ok-clause-written_first
returns-in-Ok-clause-written_first g c =
    inr (_, c.in-Ok.ensures, c.play_on_screen.ensures.written_first)

pub returns-in-Err-clause-written_first : goal.returns-in-Err-clause-written_first
returns-in-Err-clause-written_first g c = inl refl

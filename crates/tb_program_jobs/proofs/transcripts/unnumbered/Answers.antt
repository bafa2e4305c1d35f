-- The goals of `unnumbered` in src/transcripts.rt: behind the last dot is no number, or there is no dot.
use Rattle.std.proofs.Common.{inr, refl, sym}
use Rattle.tb_program_jobs.proofs.Names.{dotless, last}
use Rattle.tb_program_jobs.proofs.transcripts.unnumbered.Goals as goal

pub returns-else-is_number : goal.returns-else-is_number
returns-else-is_number c =
    inr (last c.args.name.now c.in-Some.front.now c.in-Some.number.now c.in-Some.ensures.cases (sym c.if-is_number.ensures), refl)

pub returns-in-None : goal.returns-in-None
returns-in-None c = inr (dotless c.args.name.now c.in-None.ensures.cases, refl)

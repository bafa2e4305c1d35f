-- What decreases where `put_rounds` in src/reduced.rt calls itself.
use Rattle.tb_compiler_templates.proofs.reduced.+put_rounds.Given as goal

abbrev pub decreases-put_rounds : goal.decreases-put_rounds
decreases-put_rounds l = l.count

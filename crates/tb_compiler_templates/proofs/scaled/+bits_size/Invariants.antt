-- What decreases where `bits_size` in src/scaled.rt calls itself.
use Rattle.tb_compiler_templates.proofs.scaled.+bits_size.Given as goal

abbrev pub decreases-bits_size : goal.decreases-bits_size
decreases-bits_size l = l.factor

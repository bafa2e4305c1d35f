-- What decreases where `put_by_bits` in src/scaled.rt calls itself.
use Rattle.tb_compiler_templates.proofs.scaled.+put_by_bits.Given as goal

abbrev pub decreases-put_by_bits : goal.decreases-put_by_bits
decreases-put_by_bits l = l.factor

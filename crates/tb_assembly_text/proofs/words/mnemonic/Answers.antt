-- The goals of `mnemonic` in src/words.rt.
use Rattle.std.proofs.Common.{arith}
use Rattle.tb_assembly_text.proofs.Named.{no_mnemonic}
use Rattle.tb_assembly_text.proofs.words.mnemonic.Goals as goal

pub returns-in_default : goal.returns-in_default
returns-in_default c = no_mnemonic c.args.word.now (λ e. omega arith)

pub returns-in_default-2 : goal.returns-in_default-2
returns-in_default-2 c = no_mnemonic c.args.word.now (λ e. omega arith)

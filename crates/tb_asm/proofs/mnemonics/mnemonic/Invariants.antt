-- What holds at each turn of the loop of `mnemonic` in src/mnemonics.rt.
use Rattle.std.proofs.Common.{◌≡◌, drop}
use Rattle.tb_asm.specs.Mnemonics.{find_mnemonic, mnemonic_of, all_mnemonics}
use Rattle.tb_asm.proofs.mnemonics.mnemonic.Given as goal

abbrev pub invariant-loop-mnemonic : goal.invariant-loop-mnemonic
invariant-loop-mnemonic l = find_mnemonic (drop l.mnemonic-index all_mnemonics) l.word ≡ mnemonic_of l.word

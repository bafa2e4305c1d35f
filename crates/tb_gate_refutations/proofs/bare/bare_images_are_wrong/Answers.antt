use Rattle.tb_gate_refutations.proofs.bare.bare_images_are_wrong.Goals as goal
use Rattle.tb_gate_refutations.proofs.BareImages as lemma

pub returns-clause-returns : goal.returns-clause-returns
returns-clause-returns c = lemma.returns

pub returns-clause-loops : goal.returns-clause-loops
returns-clause-loops c = lemma.loops

pub returns-clause-loops_without_break : goal.returns-clause-loops_without_break
returns-clause-loops_without_break c = lemma.loops_without_break

pub returns-clause-sends : goal.returns-clause-sends
returns-clause-sends c = lemma.sends

pub returns-clause-decimal_mode : goal.returns-clause-decimal_mode
returns-clause-decimal_mode c = lemma.decimal_mode

pub returns-clause-uncleared : goal.returns-clause-uncleared
returns-clause-uncleared c = lemma.uncleared

pub returns-clause-counts_in_x : goal.returns-clause-counts_in_x
returns-clause-counts_in_x c = lemma.counts_in_x

pub returns-clause-below_s : goal.returns-clause-below_s
returns-clause-below_s c = lemma.below_s

pub returns-clause-in_rom_memory : goal.returns-clause-in_rom_memory
returns-clause-in_rom_memory c = lemma.in_rom_memory

pub returns-clause-items : goal.returns-clause-items
returns-clause-items c = lemma.items

pub returns-clause-another_line : goal.returns-clause-another_line
returns-clause-another_line c = lemma.another_line

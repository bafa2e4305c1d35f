-- The goals of `omitted_words_are_dead` in src/laws.rt.
use Rattle.tb_compiler_selection.proofs.laws.omitted_words_are_dead.Goals as goal
use Rattle.tb_compiler_selection.proofs.Chosen.{chosen}

pub returns : goal.returns
returns c = chosen

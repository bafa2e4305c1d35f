-- The goals of `variable` in src/parts.rt.
use Rattle.tb_debug_commands.proofs.Names.{named_by}
use Rattle.tb_debug_commands.proofs.parts.variable.Goals as goal

pub returns-in-len1 : goal.returns-in-len1
returns-in-len1 c = named_by c.args.text.now c.read.result c.in-len1.len_at_least c.in-len1.len_below c.read.ensures

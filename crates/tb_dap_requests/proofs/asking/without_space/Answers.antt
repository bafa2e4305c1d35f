-- The goals of `without_space` in src/asking.rt.
use Rattle.std.proofs.Common.{None, arith}
use Rattle.std.proofs.lemmas.Str.Pattern.{strip_prefix_char}
use Rattle.tb_dap_requests.proofs.Prefixes.{no_space}
use Rattle.tb_dap_requests.proofs.asking.without_space.Goals as goal

pub returns-in-None : goal.returns-in-None
returns-in-None c = no_space c.args.text.now (strip_prefix_char 32 c.args.text.now None c.in-None.ensures.cases (omega arith))

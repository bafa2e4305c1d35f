-- The goals of `console_question` in src/asking.rt.
use Rattle.std.proofs.Common.{None, arith}
use Rattle.std.proofs.lemmas.Str.Pattern.{strip_prefix_char}
use Rattle.tb_dap_requests.proofs.Prefixes.{no_line}
use Rattle.tb_dap_requests.proofs.asking.console_question.Goals as goal

pub returns-in-None : goal.returns-in-None
returns-in-None c = no_line c.args.text.now (strip_prefix_char 62 c.args.text.now None c.in-None.ensures.cases (omega arith))

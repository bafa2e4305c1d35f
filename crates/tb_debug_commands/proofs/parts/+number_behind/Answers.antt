-- The goals of `number_behind` in src/parts.rt.
use Rattle.std.proofs.Common.{rules}
use Rattle.tb_debug_commands.proofs.Numbers.{too_large}
use Rattle.tb_debug_commands.proofs.parts.+number_behind.Goals as goal

pub returns-in_err-checked_mul-in-len1-up : goal.returns-in_err-checked_mul-in-len1-up
returns-in_err-checked_mul-in-len1-up t c = search (rules, too_large c.args.number c.args.digits.now)

pub returns-in_err-number-in-len1-up : goal.returns-in_err-number-in-len1-up
returns-in_err-number-in-len1-up t c = search (rules, too_large c.args.number c.args.digits.now)

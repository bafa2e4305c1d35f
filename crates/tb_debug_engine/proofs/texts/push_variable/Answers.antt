-- The goals of `push_variable` in src/texts.rt.
use Rattle.std.proofs.Common.{rules}
use Rattle.std.specs.Int.{w16}
use Rattle.std.proofs.Math.Facts.{to_z-of_z}
use Rattle.tb_debug_engine.proofs.Exchanging.{variable_more}
use Rattle.tb_debug_engine.proofs.texts.push_variable.Goals as goal

pub returns : goal.returns
returns c =
    variable_more c.args.text.now.items c.push.new.self.items c.push-2.new.self.items c.push_value_line.new.text.items c.name_at.result c.args.index _ c.args.value
    c.name_at.ensures c.in_ok-push.ensures.items c.in_ok-push-2.ensures.items c.in_ok-push_value_line.ensures (to_z-of_z {w = w16} (search rules))

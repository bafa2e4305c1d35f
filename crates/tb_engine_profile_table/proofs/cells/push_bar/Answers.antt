-- The goals of `push_bar` in src/cells.rt.
use Rattle.std.proofs.Common.{◌≡◌, ◌++◌, ◌/◌, ◌%◌}
use Rattle.std.specs.Prelude.{codes}
use Rattle.std.specs.Fmt.{decimal}
use Rattle.tb_engine_profile_table.specs.Cells.{bar}
use Rattle.tb_engine_profile_table.proofs.Appending.{five}
use Rattle.tb_engine_profile_table.proofs.cells.push_bar.Goals as goal

pub returns : goal.returns
unfolding bar
returns c =
    let first : c.extend_from_slice.new.self.items ≡ c.args.text.now.items ++ codes "<td class=\"bar\"><span style=\"width: " = c.in_ok-extend_from_slice.ensures.items in
    let third : c.extend_from_slice-2.new.self.items ≡ c.push_number.new.text.items ++ codes "." = c.in_ok-extend_from_slice-2.ensures.items in
    five c.extend_from_slice-3.result c.args.text.now.items c.extend_from_slice.new.self.items c.push_number.new.text.items c.extend_from_slice-2.new.self.items
    c.push_number-2.new.text.items c.extend_from_slice-3.new.self.items
    (codes "<td class=\"bar\"><span style=\"width: ") (decimal (c.args.part / 100)) (codes ".") (decimal (c.args.part % 100 / 10)) (codes "em\"></span></td>")
    first c.in_ok-push_number.ensures third c.in_ok-push_number-2.ensures c.extend_from_slice-3.ensures.items

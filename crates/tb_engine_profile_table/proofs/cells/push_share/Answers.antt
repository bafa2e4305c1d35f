-- The goals of `push_share` in src/cells.rt.
use Rattle.std.proofs.Common.{rules, ◌≡◌, ◌++◌}
use Rattle.std.specs.Prelude.{codes}
use Rattle.tb_engine_profile_table.specs.Figures.{percent}
use Rattle.tb_engine_profile_table.specs.Cells.{share_cell}
use Rattle.tb_engine_profile_table.proofs.Appending.{three}
use Rattle.tb_engine_profile_table.proofs.cells.push_share.Goals as goal

pub returns : goal.returns
unfolding share_cell
returns c =
    let first : c.extend_from_slice.new.self.items ≡ c.args.text.now.items ++ codes "<td>" = c.in_ok-extend_from_slice.ensures.items in
    let shown : c.extend_from_slice-2.new.self.items ≡ c.extend_from_slice.new.self.items ++ percent c.args.thousandths = search rules in
    three c.extend_from_slice-3.result c.args.text.now.items c.extend_from_slice.new.self.items c.extend_from_slice-2.new.self.items c.extend_from_slice-3.new.self.items
    (codes "<td>") (percent c.args.thousandths) (codes "</td>") first shown c.extend_from_slice-3.ensures.items

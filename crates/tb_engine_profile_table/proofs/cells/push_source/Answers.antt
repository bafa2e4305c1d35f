-- The goals of `push_source` in src/cells.rt.
use Rattle.std.proofs.Common.{◌≡◌, ◌++◌}
use Rattle.std.specs.Prelude.{codes, flat_map}
use Rattle.tb_engine_profile_table.specs.Cells.{escaped, source}
use Rattle.tb_engine_profile_table.proofs.Appending.{three}
use Rattle.tb_engine_profile_table.proofs.cells.push_source.Goals as goal

pub returns : goal.returns
unfolding source
returns c =
    let first : c.extend_from_slice.new.self.items ≡ c.args.text.now.items ++ codes "<td class=\"source\">" = c.in_ok-extend_from_slice.ensures.items in
    three c.extend_from_slice-2.result c.args.text.now.items c.extend_from_slice.new.self.items c.push_all_escaped.new.text.items c.extend_from_slice-2.new.self.items
    (codes "<td class=\"source\">") (flat_map escaped c.args.statement.now) (codes "</td>") first c.in_ok-push_all_escaped.ensures c.extend_from_slice-2.ensures.items

-- The goals of `push_seconds_row` in src/page.rt.
use Rattle.std.proofs.Common.{◌≡◌, ◌++◌}
use Rattle.std.specs.Prelude.{codes}
use Rattle.tb_engine_profile_table.specs.Figures.{seconds}
use Rattle.tb_engine_profile_table.specs.Page.{seconds_row}
use Rattle.tb_engine_profile_table.proofs.Appending.{three}
use Rattle.tb_engine_profile_table.proofs.page.push_seconds_row.Goals as goal

pub returns : goal.returns
unfolding seconds_row
returns c =
    let first : c.extend_from_slice.new.self.items ≡ c.args.text.now.items ++ codes "<tr><th scope=\"row\">seconds of a PAL machine</th><td>" = c.in_ok-extend_from_slice.ensures.items in
    three c.extend_from_slice-2.result c.args.text.now.items c.extend_from_slice.new.self.items c.push_seconds.new.text.items c.extend_from_slice-2.new.self.items
    (codes "<tr><th scope=\"row\">seconds of a PAL machine</th><td>") (seconds c.args.cycles) (codes "</td></tr>\n") first c.in_ok-push_seconds.ensures c.extend_from_slice-2.ensures.items

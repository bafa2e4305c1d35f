-- The goals of `push_sums` in src/page.rt.
use Rattle.std.proofs.Common.{◌≡◌, ◌++◌}
use Rattle.std.specs.Prelude.{codes}
use Rattle.tb_engine_profile_table.specs.About.{facts_in}
use Rattle.tb_engine_profile_table.specs.Page.{sums, whole_rows}
use Rattle.tb_engine_profile_table.proofs.Appending.{three}
use Rattle.tb_engine_profile_table.proofs.page.push_sums.Goals as goal

pub returns : goal.returns
unfolding sums
returns c =
    let first : c.extend_from_slice.new.self.items ≡ c.args.text.now.items ++ codes "<table class=\"sums\">\n<caption>The whole run.</caption>\n" = c.in_ok-extend_from_slice.ensures.items in
    three c.extend_from_slice-2.result c.args.text.now.items c.extend_from_slice.new.self.items c.push_whole.new.text.items c.extend_from_slice-2.new.self.items
    (codes "<table class=\"sums\">\n<caption>The whole run.</caption>\n") (whole_rows (facts_in c.args.about.now) c.args.all.now) (codes "</table>\n")
    first c.in_ok-push_whole.ensures c.extend_from_slice-2.ensures.items

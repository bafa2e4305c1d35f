-- The goals of `push_figures` in src/page.rt.
use Rattle.std.proofs.Common.{rules, ◌≡◌, ◌++◌}
use Rattle.std.specs.Prelude.{codes}
use Rattle.tb_engine_profile_table.specs.Cells.{sum_row}
use Rattle.tb_engine_profile_table.specs.Page.{figures_rows, seconds_row}
use Rattle.tb_engine_profile_table.proofs.Appending.{four}
use Rattle.tb_engine_profile_table.proofs.page.push_figures.Goals as goal

pub returns : goal.returns
unfolding figures_rows
returns c =
    let all = c.args.all.now in
    let instructions : c.push_sum-2.new.text.items ≡ c.push_sum.new.text.items ++ sum_row (codes "instructions") all.instructions = search rules in
    let cycles : c.push_sum-3.new.text.items ≡ c.push_sum-2.new.text.items ++ sum_row (codes "cycles") all.cycles = search rules in
    four c.push_seconds_row.result c.args.text.now.items c.push_sum.new.text.items c.push_sum-2.new.text.items c.push_sum-3.new.text.items c.push_seconds_row.new.text.items
    (sum_row (codes "lines begun") all.times) (sum_row (codes "instructions") all.instructions) (sum_row (codes "cycles") all.cycles) (seconds_row all.cycles)
    c.in_ok-push_sum.ensures instructions cycles c.push_seconds_row.ensures

-- The goals of `push_table` in src/table.rt.
use Rattle.std.proofs.Common.{◌≡◌, ◌++◌, map, ap, ◌∙◌, subst}
use Rattle.std.specs.Prelude.{OnOk, codes, flat_map}
use Rattle.tb_engine_profile_table.specs.declared.table.Figures.{Figures}
use Rattle.tb_engine_profile_table.specs.Lines.{line_pair}
use Rattle.tb_engine_profile_table.specs.Table.{figures_of, line_text, named, sum_of, table_of}
use Rattle.tb_engine_profile_table.proofs.Appending.{four}
use Rattle.tb_engine_profile_table.proofs.table.push_table.Goals as goal

pub returns : goal.returns
unfolding table_of
returns c =
    let whole = c.args.whole.now in
    let lines = map line_pair c.args.lines.now in
    let head = codes " line      times instructions        cycles   share  statement\n" in
    let t1 = c.extend_from_slice.new.self.items in
    let t3 = c.push_lines.new.text.items in
    let first : t1 ≡ c.args.text.now.items ++ head = c.in_ok-extend_from_slice.ensures.items in
    let start : c.push_named.new.text.items ≡ t1 ++ named (codes "start") (figures_of whole.start) whole.cycles =
    c.in_ok-push_named.ensures ∙ ap (λ (f : Figures). t1 ++ named (codes "start") f whole.cycles) c.figures_of.ensures in
    four c.push_named-2.result c.args.text.now.items t1 c.push_named.new.text.items t3 c.push_named-2.new.text.items
    head (named (codes "start") (figures_of whole.start) whole.cycles) (flat_map (line_text whole.cycles) lines) (named (codes "sum") (sum_of whole lines) whole.cycles)
    first start c.in_ok-push_lines.ensures
    (subst (λ (f : Figures). OnOk c.push_named-2.result (c.push_named-2.new.text.items ≡ t3 ++ named (codes "sum") f whole.cycles)) c.sum_of.ensures c.push_named-2.ensures)

-- The goals of `push_text_row` in src/cells.rt.
use Rattle.std.proofs.Common.{rules, ◌≡◌, ◌++◌}
use Rattle.std.specs.Prelude.{codes, flat_map}
use Rattle.tb_engine_profile_table.specs.Cells.{escaped, text_row}
use Rattle.tb_engine_profile_table.proofs.Appending.{five}
use Rattle.tb_engine_profile_table.proofs.cells.push_text_row.Goals as goal

pub returns : goal.returns
unfolding text_row
returns c =
    let first : c.extend_from_slice.new.self.items ≡ c.args.text.now.items ++ codes "<tr><th scope=\"row\">" = c.in_ok-extend_from_slice.ensures.items in
    let name : c.extend_from_slice-2.new.self.items ≡ c.extend_from_slice.new.self.items ++ c.args.name.now = search rules in
    let third : c.extend_from_slice-3.new.self.items ≡ c.extend_from_slice-2.new.self.items ++ codes "</th><td class=\"text\">" = c.in_ok-extend_from_slice-3.ensures.items in
    five c.extend_from_slice-4.result c.args.text.now.items c.extend_from_slice.new.self.items c.extend_from_slice-2.new.self.items c.extend_from_slice-3.new.self.items
    c.push_all_escaped.new.text.items c.extend_from_slice-4.new.self.items
    (codes "<tr><th scope=\"row\">") c.args.name.now (codes "</th><td class=\"text\">") (flat_map escaped c.args.said.now) (codes "</td></tr>\n")
    first name third c.in_ok-push_all_escaped.ensures c.extend_from_slice-4.ensures.items

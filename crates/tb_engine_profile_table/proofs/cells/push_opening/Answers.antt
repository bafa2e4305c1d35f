-- The goals of `push_opening` in src/cells.rt.
use Rattle.std.proofs.Common.{rules, ◌≡◌, ◌++◌}
use Rattle.std.specs.Prelude.{codes}
use Rattle.tb_engine_profile_table.specs.Cells.{opening, shade}
use Rattle.tb_engine_profile_table.proofs.Appending.{five}
use Rattle.tb_engine_profile_table.proofs.cells.push_opening.Goals as goal

pub returns : goal.returns
unfolding opening
returns c =
    let first : c.extend_from_slice.new.self.items ≡ c.args.text.now.items ++ codes "<tr class=\"" = c.in_ok-extend_from_slice.ensures.items in
    let third : c.extend_from_slice-2.new.self.items ≡ c.push_shade.new.text.items ++ codes "\"><th scope=\"row\">" = c.in_ok-extend_from_slice-2.ensures.items in
    let name : c.extend_from_slice-3.new.self.items ≡ c.extend_from_slice-2.new.self.items ++ c.args.name.now = search rules in
    five c.extend_from_slice-4.result c.args.text.now.items c.extend_from_slice.new.self.items c.push_shade.new.text.items c.extend_from_slice-2.new.self.items
    c.extend_from_slice-3.new.self.items c.extend_from_slice-4.new.self.items
    (codes "<tr class=\"") (shade c.args.times c.args.part) (codes "\"><th scope=\"row\">") c.args.name.now (codes "</th>")
    first c.in_ok-push_shade.ensures third name c.extend_from_slice-4.ensures.items

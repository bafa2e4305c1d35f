-- The goals of `registers_text` in src/texts.rt.
use Rattle.std.proofs.Common.{rules, ◌≡◌, ◌++◌, ap, ◌∙◌}
use Rattle.std.specs.Prelude.{codes}
use Rattle.tb_cpu.specs.Effects.{status_byte}
use Rattle.tb_debug_inspection.specs.Texts.{address_text, field_text, line_text, status_text}
use Rattle.tb_debug_inspection.proofs.Appending.{all_appended}
use Rattle.tb_debug_inspection.proofs.texts.registers_text.Goals as goal

pub returns : goal.returns
returns c =
    let regs = c.args.regs in
    let pc : c.push_address.new.text.items ≡ address_text regs.pc = search rules in
    let p = c.in_ok-push_field-5.ensures ∙ ap (λ b. c.push_field-4.new.text.items ++ field_text (codes " P=") b) c.to_byte.ensures in
    let gap : c.extend_from_slice.new.self.items ≡ c.push_field-5.new.text.items ++ codes " " = search rules in
    let place : c.extend_from_slice-2.new.self.items ≡ c.extend_from_slice.new.self.items ++ line_text c.args.line = search rules in
    let gap2 : c.extend_from_slice-3.new.self.items ≡ c.extend_from_slice-2.new.self.items ++ codes " " = search rules in
    let status : c.extend_from_slice-4.new.self.items ≡ c.extend_from_slice-3.new.self.items ++ status_text c.args.status = search rules in
    all_appended c.push_address.new.text.items c.push_field.new.text.items c.push_field-2.new.text.items c.push_field-3.new.text.items c.push_field-4.new.text.items c.push_field-5.new.text.items
    c.extend_from_slice.new.self.items c.extend_from_slice-2.new.self.items c.extend_from_slice-3.new.self.items c.extend_from_slice-4.new.self.items
    (address_text regs.pc) (field_text (codes " A=") regs.a) (field_text (codes " X=") regs.x)
    (field_text (codes " Y=") regs.y) (field_text (codes " S=") regs.s) (field_text (codes " P=") (status_byte regs.flags))
    (codes " ") (line_text c.args.line) (status_text c.args.status)
    pc c.in_ok-push_field.ensures c.in_ok-push_field-2.ensures c.in_ok-push_field-3.ensures c.in_ok-push_field-4.ensures p gap place gap2 status

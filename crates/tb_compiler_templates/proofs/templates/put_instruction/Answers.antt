-- The goals of `put_instruction` in src/templates.rt.
use Rattle.std.proofs.Common.{sym, subst}
use Rattle.tb_lower.specs.PlainData.{instr_of}
use Rattle.tb_compiler_templates.specs.declared.labels.Inner.TheVariants.{Behind, Text}
use Rattle.tb_compiler_templates.specs.declared.labels.Target.TheVariants.{Inside}
use Rattle.tb_compiler_templates.specs.Putting.{Puts}
use Rattle.tb_compiler_templates.specs.Templates.{only_byte, sent, template}
use Rattle.tb_compiler_templates.proofs.templates.put_instruction.Goals as goal

pub returns-in-SendText : goal.returns-in-SendText
returns-in-SendText c =
    let items = c.args.items.now in
    let spot = c.args.spot in
    subst (λ i. Puts c.put_sent.result items c.put_sent.new.items (template c.args.numbers.now spot.line spot.index (instr_of i))) (sym c.in-SendText.is)
    (subst (λ bs. Puts c.put_sent.result items c.put_sent.new.items (sent (only_byte bs) (Inside Text spot.line spot.index) (Inside Behind spot.line spot.index) bs)) c.deref.ensures.value c.put_sent.ensures)

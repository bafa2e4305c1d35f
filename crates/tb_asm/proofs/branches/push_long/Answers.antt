-- The goals of `push_long` in src/branches.rt.
use Rattle.std.proofs.Common.{◌≡◌, ◌+◌, ◌%◌, [], ◌∷◌, subst}
use Rattle.tb_opcodes.specs.declared.Mnemonic.TheVariants.{Jmp}
use Rattle.tb_opcodes.specs.declared.Mode.TheVariants.{Relative, Absolute}
use Rattle.tb_asm.specs.declared.items.Operand.TheVariants.{Word, Label}
use Rattle.tb_asm.specs.Layout.{instr}
use Rattle.tb_asm.specs.Marks.{PushesEntries}
use Rattle.tb_asm.proofs.Copies.{all_same}
use Rattle.tb_asm.proofs.RoundLabels.{pushes_two}
use Rattle.tb_asm.proofs.branches.push_long.Goals as goal

pub returns : goal.returns
returns c =
    let same : c.in-Ok.name ≡ c.args.name.now = (λ i. record { letters = record { items = all_same _ _ c.in-Ok.ensures.cases i } }) in
    let over = Word ((c.args.address + 5) % 65536) in
    subst (λ es. PushesEntries c.args.settled.now.items es c.push-2.result c.push-2.new.items.items)
    (λ i. instr (c.inverse.ensures i) Relative over ∷ instr Jmp Absolute (Label (same i)) ∷ [])
    (pushes_two c.args.settled.now.items c.push.new.items.items c.push-2.new.items.items (instr c.inverse.result Relative over ∷ []) (instr Jmp Absolute (Label c.in-Ok.name) ∷ []) c.push-2.result
    c.in_ok-push.ensures c.push-2.ensures)

-- The goals of `mnemonic` in src/mnemonics.rt.
use Rattle.std.proofs.Common.{sym, ap, ◌∙◌}
use Rattle.tb_asm.specs.Mnemonics.{same_text}
use Rattle.tb_asm.proofs.Spelling.{mnemonic_found, mnemonic_missed}
use Rattle.tb_asm.proofs.mnemonics.mnemonic.Goals as goal

pub returns-then-eq : goal.returns-then-eq
returns-then-eq c =
    mnemonic_found c.args.word.now c.loop-mnemonic.mnemonic-index _ c.loop-mnemonic-test.true c.loop-mnemonic.invariant
    (ap (λ n. same_text n c.args.word.now) (sym c.name.ensures) ∙ ap (λ n. same_text n c.args.word.now) (sym c.as_slice.ensures) ∙ sym c.eq.ensures ∙ c.if-eq.true)

pub loop-mnemonic-preserved : goal.loop-mnemonic-preserved
loop-mnemonic-preserved c =
    mnemonic_missed c.args.word.now c.loop-mnemonic.mnemonic-index _ c.loop-mnemonic-test.true c.loop-mnemonic.invariant
    (ap (λ n. same_text n c.args.word.now) (sym c.name.ensures) ∙ ap (λ n. same_text n c.args.word.now) (sym c.as_slice.ensures) ∙ sym c.eq.ensures ∙ c.if-eq.false)

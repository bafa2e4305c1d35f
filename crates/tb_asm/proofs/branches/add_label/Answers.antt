-- The goals of `add_label` in src/branches.rt.
use Rattle.std.proofs.Common.{◌≡◌, sym, subst}
use Rattle.std.specs.Prelude.{MatchResult}
use Rattle.tb_asm.specs.declared.errors.AsmErrorKind.TheVariants.{NoMemory}
use Rattle.tb_asm.specs.Layout.{entry_of}
use Rattle.tb_asm.specs.Marks.{AddsLabel}
use Rattle.tb_asm.proofs.RoundLabels.{added_by}
use Rattle.tb_asm.proofs.branches.add_label.Goals as goal

pub returns-in-Label : goal.returns-in-Label
returns-in-Label c =
    subst (λ item. MatchResult c.define.result (λ _. AddsLabel c.args.labels.now.entries c.args.address (entry_of item) c.define.new.labels.entries) (λ k. k ≡ NoMemory)) (sym c.in-Label.is)
    (added_by c.args.labels.now.entries c.define.new.labels.entries c.args.address c.in-Label.name c.define.result c.if-not-contains_key.ensures c.define.ensures.added c.define.ensures.refused)

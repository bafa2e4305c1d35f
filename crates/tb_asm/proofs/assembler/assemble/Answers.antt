-- The goals of `assemble` in src/assembler.rt.
use Rattle.std.proofs.Common.{map, sym, subst}
use Rattle.tb_asm.specs.Layout.{entry_of, image_of}
use Rattle.tb_asm.specs.Suited.{BytesStand, Decodes, LabelsStand}
use Rattle.tb_asm.proofs.Suits.{bytes_stand, labels_stand, decodes, suited_accepted}
use Rattle.tb_asm.proofs.assembler.assemble.Goals as goal

pub returns-in_err-labels-clause-suited : goal.returns-in_err-labels-clause-suited
returns-in_err-labels-clause-suited c = suited_accepted c.args.at (map entry_of c.args.items.now)

pub returns-in_err-bytes-clause-suited : goal.returns-in_err-bytes-clause-suited
returns-in_err-bytes-clause-suited c = suited_accepted c.args.at (map entry_of c.args.items.now)

pub returns-clause-bytes : goal.returns-clause-bytes
returns-clause-bytes c =
    let es = map entry_of c.args.items.now in
    let placed = c.in_ok-labels.ensures.placed in
    subst (λ b. BytesStand c.args.at es b c.in_ok-labels.labels.entries) (sym c.in_ok-bytes.ensures.coded.1)
    (subst (λ l. BytesStand c.args.at es (image_of c.args.at es) l) (sym placed.1) (bytes_stand c.args.at es placed.0))

pub returns-clause-opcodes : goal.returns-clause-opcodes
returns-clause-opcodes c =
    let es = map entry_of c.args.items.now in
    subst (λ b. Decodes es b) (sym c.in_ok-bytes.ensures.coded.1) (decodes c.args.at es c.in_ok-labels.ensures.placed.0)

pub returns-clause-labels : goal.returns-clause-labels
returns-clause-labels c =
    let es = map entry_of c.args.items.now in
    let placed = c.in_ok-labels.ensures.placed in
    subst (λ l. LabelsStand c.args.at es l) (sym placed.1) (labels_stand c.args.at es placed.0)

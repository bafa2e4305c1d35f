-- The goals of `read_part` in src/parts.rt.
use Rattle.std.proofs.Common.{◌≡◌, ◌∷◌, true, sym, subst, rules}
use Rattle.tb_asm.specs.Names.{fold_byte, is_letter}
use Rattle.tb_asm.specs.Reads.{ReadsFirst}
use Rattle.tb_asm.proofs.LineParts.{letter_begins}
use Rattle.tb_asm.proofs.parts.read_part.Goals as goal

pub returns-in_default : goal.returns-in_default
returns-in_default c =
    let letter : is_letter (fold_byte c.args.byte) ≡ true = search rules in
    subst (λ w. ReadsFirst w (c.args.byte ∷ c.args.after.now) c.read_identifier-in_default.result) (sym (letter_begins c.args.byte letter c.args.after.now)) c.read_identifier-in_default.ensures

-- The goals of `fitted` in src/linking.rt.
use Rattle.std.proofs.Common.{◌⊎◌, ◌-◌, inl, inr, ap, sym, map, subst, ◌∙◌, arith}
use Rattle.tb_asm.specs.Layout.{entry_of}
use Rattle.tb_lower.specs.PlainData.{code_of}
use Rattle.tb_runtime16.specs.Addresses.{PROLOGUE_AT}
use Rattle.tb_assembly_settling.specs.Settled.{EndsFrom, IsLaid, Suits}
use Rattle.tb_compiler_program.proofs.Taken.{program_suits}
use Rattle.tb_codegen.proofs.TooLong.{end_takes, image_takes}
use Rattle.tb_codegen.proofs.linking.fitted.Goals as goal

other : {A B : Type 0} → A ⊎ B → (A → ⊥) → B
other (inl a) not_a = absurd (not_a a)
other (inr b) not_a = b

pub returns-then-len-gt-ROOM-clause-refused : goal.returns-then-len-gt-ROOM-clause-refused
returns-then-len-gt-ROOM-clause-refused c =
    let e = ap (map entry_of) c.deref.ensures.value ∙ c.in_ok-items.ensures in
    let image = c.in-Ok.image in
    let a = c.len.ensures in let b = c.len-then-len-gt-ROOM.ensures in let d = c.if-len-gt-ROOM.true in
    image_takes (c.len-then-len-gt-ROOM.result - 1011) (subst (λ es. IsLaid PROLOGUE_AT es image.at image.bytes.items image.labels.entries) e c.in-Ok.ensures.laid)
    (omega (arith, a, b, d)) (omega (arith, a, b, d)) c.told.ensures

pub returns : goal.returns
returns c =
    let e = ap (map entry_of) c.deref.ensures.value ∙ c.in_ok-items.ensures in
    let suits = program_suits c.args.seed (code_of c.args.code.now) c.requires.rising c.requires.lists in
    let end = other (c.in-Err.ensures.suited (subst (Suits PROLOGUE_AT) (sym e) suits)) c.in_default.not-NoMemory in
    let long : EndsFrom 65536 PROLOGUE_AT _ = subst (EndsFrom 65536 PROLOGUE_AT) e end in
    record {
      laid = tt;
      fits = tt;
      refused = end_takes long c.told-in_default.ensures;
    }

-- Code that takes more bytes than there are.
use Rattle.std.proofs.Common.{◌≡◌, ℕ, ◌+◌, ◌-◌, ◌<◌, ◌≤◌, List, length, ap, sym, ◌∙◌, arith}
use Rattle.std.proofs.lemmas.Bool.Decides.{nat_tests}
use Rattle.tb_asm.specs.declared.names.Name.{Name}
use Rattle.tb_asm.specs.Layout.{size, labels_from}
use Rattle.tb_asm.specs.Settle.{items_from}
use Rattle.tb_asm.proofs.Laws.{all_size}
use Rattle.tb_lower.specs.Slots.{SlotCode}
use Rattle.tb_runtime16.specs.Addresses.{PROLOGUE_AT}
use Rattle.tb_assembly_settling.specs.Settled.{EndsFrom, IsLaid}
use Rattle.tb_compiler_program.specs.Program.{program_code}
use Rattle.tb_codegen.specs.Coded.{SettlesTooLong}
use Rattle.tb_compiled.specs.Refusals.{told_of}

-- code whose image is longer than the room takes too much
pub image_takes : {seed : ℕ} {code : SlotCode} {from : ℕ} {image : List ℕ} {labels : List (Name × ℕ)} {n : ℕ} (bytes : ℕ)
    → IsLaid PROLOGUE_AT (program_code seed code) from image labels → bytes + 1011 ≡ length image → 37888 < bytes → n ≡ told_of bytes → SettlesTooLong n seed code
image_takes bytes l takes past told =
    let a = ap length l.bytes_are in
    let b = all_size (labels_from PROLOGUE_AT l.items) PROLOGUE_AT l.items in
    let c = ap size l.rounds.are in
    record {
      forms = l.rounds.forms;
      rounds = l.rounds.settled;
      bytes = bytes;
      takes = omega (arith, a, b, c, takes);
      past = omega (arith, past);
      told = told;
    }

told_most : (bytes : ℕ) → 62464 ≤ bytes → told_of bytes ≡ 62464
told_most bytes h = grind (arith, nat_tests)

-- and so does code that ends past 65,535
pub end_takes : {seed : ℕ} {code : SlotCode} {n : ℕ} → EndsFrom 65536 PROLOGUE_AT (program_code seed code) → n ≡ 62464 → SettlesTooLong n seed code
end_takes e told =
    let a = e.beyond in
    let all = PROLOGUE_AT + size (items_from PROLOGUE_AT e.forms) in
    record {
      forms = e.forms;
      rounds = e.rounds;
      bytes = all - 3072;
      takes = omega (arith, a);
      past = omega (arith, a);
      told = told ∙ sym (told_most (all - 3072) (omega (arith, a)));
    }

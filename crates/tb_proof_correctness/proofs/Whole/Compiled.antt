-- A program's settled code after a line of BASIC keeps the program, and marks its lines.
use Rattle.std.proofs.Common.{◌≡◌, ℕ, ◌+◌, ◌*◌, ◌≤◌, ◌<◌, List, ◌++◌, length, subst, arith, length-append}
use Rattle.tb_memmap.specs.Regions.{BASIC_START}
use Rattle.tb_asm.specs.declared.names.Name.{Name}
use Rattle.tb_asm.specs.Layout.{Entry, labels_from, image_of, size}
use Rattle.tb_asm.proofs.Laws.{all_size}
use Rattle.tb_kernal.specs.Machine as machine
use Rattle.tb_machine_reaching.specs.View.{Part, Bytes, Holds, part_at}
use Rattle.tb_machine_reaching.proofs.Parts.{holds_bytes, part_back}
use Rattle.tb_basic_syntax.specs.Source.{Program, numbers, Rises}
use Rattle.tb_lower.specs.Follows.{Follows, longest}
use Rattle.tb_lower.specs.Slots.{SlotCode}
use Rattle.tb_runtime16.specs.Addresses.{PROLOGUE_AT}
use Rattle.tb_compiler_program.specs.Program.{program_code, AreCodable}
use Rattle.tb_runtime16.specs.Routines.{limit_by}
use Rattle.tb_compiled_kept.specs.Keeps.{Starts, Keeps}
use Rattle.tb_compiler_selection.specs.Laws.{AreClosed}
use Rattle.tb_assembly_settling.specs.Settled.{IsSettled}
use Rattle.tb_proof_simulation.specs.Layout.{layout_of}
use Rattle.tb_proof_correctness.specs.Laid.{ArePolled, Laid}
use Rattle.tb_proof_simulation.proofs.Headline.{begins_so}
use Rattle.tb_compiled_kept.specs.LineStarts.{MarksLines}
use Rattle.tb_proof_simulation.proofs.SameStarts.{Agree, told_so}
use Rattle.tb_proof_correctness.proofs.Whole.GroupWhole as whole
use Rattle.tb_proof_correctness.proofs.Image.Lines.{groups_laid}
use Rattle.tb_proof_correctness.proofs.Image.Served.{routines, prologue}
use Rattle.tb_proof_correctness.proofs.Image.Imaged.{image_laid}

module _ (seed : ℕ) (program : Program) (code : SlotCode) (seed_small : seed < 65536) (follows : Follows program code)
    (rises : Rises 0 65536 (numbers code)) (codable : AreCodable code) (polled : ArePolled code) (closed : AreClosed code)
    (some : 1 ≤ length (numbers code)) (few : length code < 65536) (items : List Entry)
    (settled : IsSettled PROLOGUE_AT (program_code seed code) items) (ends : PROLOGUE_AT + size items ≤ 0xa000) (line : List ℕ)
    (line_is : BASIC_START + length line ≡ PROLOGUE_AT) where
  abbrev labels : List (Name × ℕ)
  labels = labels_from PROLOGUE_AT items

  abbrev image : List ℕ
  image = image_of PROLOGUE_AT items

  abbrev bytes : List ℕ
  bytes = line ++ image

  abbrev part : Part
  part = part_at BASIC_START bytes

  from : 0x0800 ≤ BASIC_START
  from = omega arith

  to : BASIC_START + length bytes ≤ 0xa000
  to = let a = all_size labels PROLOGUE_AT items in omega (arith, length-append line image, a, line_is, ends)

  shown : Bytes part PROLOGUE_AT image
  shown =
      let a = all_size labels PROLOGUE_AT items in
      holds_bytes part PROLOGUE_AT image (omega (arith, a, ends)) (subst (λ p. Holds (part_at p image) part) line_is (part_back BASIC_START line image))

  -- a started machine's memory holds bytes, so those of the program are
  laid : (s : machine.State) → Starts BASIC_START bytes s → Laid labels seed part code
  laid s h = image_laid seed code seed_small rises codable polled some few items settled ends part
      (λ a b e. subst (λ k. k < 256) ((begins_so BASIC_START bytes from to (layout_of labels (numbers code) seed) s h).stays.whole a b e).1 (h.start.holds_bytes a))
      shown

  abbrev kept : (s : machine.State) → Starts BASIC_START bytes s → Keeps BASIC_START bytes program seed
  kept s h =
      let l = laid s h in
      whole.keeps BASIC_START bytes from to (layout_of labels (numbers code) seed) program code follows closed l.first
      (groups_laid labels seed part code l polled) limit_by (λ k. omega arith) 192 (routines BASIC_START bytes from to labels seed code l)
      (prologue BASIC_START bytes from to labels seed code l)

  -- the image keeps the program
  pub image_keeps : Keeps BASIC_START bytes program seed
  image_keeps = record {
    sound = λ s h. (kept s h).sound s h;
    pace = λ text answers m. 192 + m * (longest code + 1) * (34 + (limit_by (length text) + limit_by (length text)));
    paced = λ s h. (kept s h).paced s h;
  }

  abbrev marked : (s : machine.State) → Starts BASIC_START bytes s → MarksLines BASIC_START bytes program seed (layout_of labels (numbers code) seed).start
  marked s h =
      let l = laid s h in
      whole.marks BASIC_START bytes from to (layout_of labels (numbers code) seed) program code follows closed l.first
      (groups_laid labels seed part code l polled) limit_by (λ k. omega arith) 192 (routines BASIC_START bytes from to labels seed code l)
      (prologue BASIC_START bytes from to labels seed code l)

  -- the image marks the program's lines, at the starts of each function that agrees with the layout's
  pub image_marks : (start : ℕ → ℕ) → Agree (layout_of labels (numbers code) seed).start start (numbers program) → MarksLines BASIC_START bytes program seed start
  image_marks start agree = told_so (layout_of labels (numbers code) seed).start start BASIC_START bytes program seed agree
      (record {
        begins = λ s h. (marked s h).begins s h;
        pace = λ text answers m. 192 + (m * (longest code + 1) * (34 + (limit_by (length text) + limit_by (length text))) + 1);
        comes = λ s h. (marked s h).comes s h;
      })

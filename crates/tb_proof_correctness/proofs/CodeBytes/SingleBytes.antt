-- The bytes of the code of single instructions.
use Rattle.std.proofs.Common.{◌≡◌, ℕ, ◌+◌, ◌/◌, ◌%◌, ◌≤◌, ◌<◌, Bool, true, false, List, [], ◌∷◌, ◌++◌, length, refl}
use Rattle.std.proofs.Common.{sym, ap, ◌∙◌, arith, Option, Some, true≢false}
use Rattle.std.specs.Prelude.{if◌then◌else◌, unwrap_or}
use Rattle.tb_opcodes.specs.Opcodes as opcodes
use Rattle.tb_asm.specs.declared.names.Name.{Name}
use Rattle.tb_asm.specs.declared.items.Operand.TheVariants.{Label, LowOf, HighOf}
use Rattle.tb_asm.specs.Layout.{number_in, address_in, bytes_from, size}
use Rattle.tb_words.specs.Words.{word}
use Rattle.tb_basic_meaning.specs.Control.{has_line}
use Rattle.tb_lower.specs.Slots as slots
use Rattle.tb_lower.specs.Ranges.{IsInRange}
use Rattle.tb_compiled_kept.specs.Addresses.{POINTER, LENGTH, var_at}
use Rattle.tb_runtime16.specs.Addresses.{SEND_AT, TEXT_AT}
use Rattle.tb_compiler_templates.specs.declared.labels.Inner.TheVariants as inside
use Rattle.tb_compiler_templates.specs.declared.labels.Target.TheVariants as target
use Rattle.tb_compiler_templates.specs.Labels.{label_of}
use Rattle.tb_compiler_program.specs.Layout.{LabelsAt}
use Rattle.tb_compiler_templates.specs.Templates as product
use Rattle.tb_compiler_templates.specs.Templates.{slot_at}
use Rattle.tb_compiler_program.proofs.Sent.{IsOnly, only, only_is, other}
use Rattle.tb_proof_simulation.specs.Layout.{Layout, label_address, layout_of}
use Rattle.tb_proof_simulation.proofs.Numbers.{low_of, high_of, start_of_line, constant_bytes, copied_bytes, faulted_bytes, jump_bytes}
use Rattle.std.proofs.lemmas.List.{append-nil}
use Rattle.tb_machine_reaching.proofs.Instr.{flat}
use Rattle.tb_proof_simulation.proofs.Resolved.{Piece, copied, sent, template, jump_to, next_at}
use Rattle.tb_proof_correctness.proofs.CodeBytes.GroupCode.{has_branches}
use Rattle.tb_compiler_selection.specs.Groups.{Group, Calculate, Single}
use Rattle.tb_compiler_selection.specs.Select.{alone}
use Rattle.tb_proof_simulation.proofs.Emitted.{pieces_bytes}

abbrev ly : List (Name × ℕ) → List ℕ → ℕ → Layout
ly labels ns seed = layout_of labels ns seed

of_label : (labels : List (Name × ℕ)) (ns : List ℕ) (seed : ℕ) (n : Name) (a : ℕ) → address_in labels n ≡ Some a → number_in labels (Label n) ≡ a
of_label labels ns seed n a e = ap (λ o. unwrap_or o 0) e

module _ (labels : List (Name × ℕ)) (ns : List ℕ) (seed : ℕ) (seed_small : seed < 65536) (n : ℕ) (n_small : n < 65536) (next_small : next_at (ly labels ns seed) n < 65536) where
  abbrev resolved : ℕ → slots.Instr → List Piece
  resolved at i = template (ly labels ns seed) n at i

  text_bytes : (i at : ℕ) (t : List ℕ) (o : Option ℕ) → IsOnly t o → length t < 256
      → at + size (product.sent o (target.Inside inside.Text n i) (target.Inside inside.Behind n i) t) ≤ 0xa000
      → LabelsAt labels at (product.sent o (target.Inside inside.Text n i) (target.Inside inside.Behind n i) t)
      → bytes_from labels at (product.sent o (target.Inside inside.Text n i) (target.Inside inside.Behind n i) t) ≡ pieces_bytes (sent at o t)
  unfolding opcodes.encoded
  text_bytes i at _ _ (only b byte) small room h =
      let e : b % 256 ≡ b = omega (arith, byte) in λ j. 0xa9 ∷ e j ∷ 0x20 ∷ SEND_AT % 256 ∷ SEND_AT / 256 ∷ []
  text_bytes i at t _ (other _) small room h =
      let below : at < 0xa000 = omega (arith, room) in
      let text = target.Inside inside.Text n i in
      let over = target.Inside inside.Behind n i in
      let here : label_address labels text ≡ at + 19 = of_label labels ns seed (label_of text) _ h.1.1.1.1.1.1.1.1.0 ∙ omega arith in
      let end : label_address labels over ≡ at + 19 + length t = of_label labels ns seed (label_of over) _ h.1.1.1.1.1.1.1.1.1.1.0 ∙ omega arith in
      let l : number_in labels (LowOf (label_of text)) % 256 ≡ (at + 19) % 256 = omega (arith, low_of labels ns seed (label_of text), here) in
      let r : number_in labels (HighOf (label_of text)) % 256 ≡ (at + 19) / 256 = omega (arith, high_of labels ns seed (label_of text), here, below) in
      let m : length t % 256 ≡ length t = omega (arith, small) in
      λ j. 0xa9 ∷ l j ∷ 0x85 ∷ POINTER ∷ 0xa9 ∷ r j ∷ 0x85 ∷ (POINTER + 1) ∷ 0xa9 ∷ m j ∷ 0x8d ∷ LENGTH % 256 ∷ LENGTH / 256 ∷ 0x20 ∷ TEXT_AT % 256
      ∷ TEXT_AT / 256 ∷ 0x4c ∷ end j % 256 ∷ end j / 256 ∷ (t ++ [])

  -- a group that is not a single instruction
  abbrev is_single : Group → Bool
  is_single (Single c) = true
  is_single (Calculate op a b d) = false
  is_single _ = false

  not_alone : {g : Group} {c : slots.Instr} → is_single g ≡ false → g ≡ Single c → ⊥
  not_alone f q = true≢false (ap is_single (sym q) ∙ f)

  to_bytes : (i at to : ℕ) (t : Bool) → has_line ns to ≡ t → bytes_from labels at (if t then product.jump (target.Line to)
      ∷ [] else product.faulted n 1) ≡ pieces_bytes (jump_to (ly labels ns seed) n t to)
  unfolding opcodes.encoded
  to_bytes i at to true e = jump_bytes labels ns seed at (target.Line to) _ (start_of_line labels ns seed to e)
  to_bytes i at to false e = faulted_bytes labels ns seed at n 1 n_small (omega arith)

  -- the bytes of each template without branches
  pub template_bytes : (i at : ℕ) (c : slots.Instr) → has_branches c ≡ false → alone c ≡ Single c → IsInRange 256 c
      → at + size (product.template ns n i c) ≤ 0xa000 → LabelsAt labels at (product.template ns n i c)
      → bytes_from labels at (product.template ns n i c) ≡ pieces_bytes (resolved at c)
  unfolding opcodes.encoded
  template_bytes i at (slots.Put k w) f q r b h = constant_bytes labels ns seed at (word w) (slot_at k) (omega arith)
  template_bytes i at (slots.Load k x) f q r b h = copied_bytes labels ns seed at (var_at x) (slot_at k) ∙ sym (append-nil (flat (copied (var_at x) (slot_at k))))
  template_bytes i at (slots.SendText t) f q r b h = text_bytes i at t (product.only_byte t) (only_is t) r b h
  template_bytes i at slots.SendZone f q r b h = refl
  template_bytes i at slots.SendNewline f q r b h = refl
  template_bytes i at (slots.Input x) f q r b h = refl
  template_bytes i at slots.Poll f q r b h = refl
  template_bytes i at (slots.JumpTo to) f q r b h = to_bytes i at to (has_line ns to) refl
  template_bytes i at (slots.CallTo to) f q r b h = absurd (true≢false f)
  template_bytes i at slots.Return f q r b h = absurd (true≢false f)
  template_bytes i at slots.End f q r b h = refl
  template_bytes i at _ f q r b h = absurd (not_alone refl q)

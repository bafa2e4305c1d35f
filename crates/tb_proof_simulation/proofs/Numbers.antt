-- The numbers of labels in the code of a template, and the templates' bytes.
use Rattle.std.proofs.Common.{◌≡◌, ℕ, ◌+◌, ◌/◌, ◌%◌, ◌<◌, Bool, true, false, ◌||◌, List, [], ◌∷◌, ◌++◌, refl, sym, ap, ◌∙◌, arith, Option, Some, None}
use Rattle.std.specs.Prelude.{if◌then◌else◌, nat_lt, nat_eq, unwrap_or}
use Rattle.std.proofs.lemmas.Bool.{eq-eqb, ltb-true}
use Rattle.tb_opcodes.specs.Opcodes as opcodes
use Rattle.tb_asm.specs.declared.names.Name.{Name}
use Rattle.tb_opcodes.specs.declared.Mnemonic.TheVariants.{Lda, Sta}
use Rattle.tb_opcodes.specs.declared.Mode.TheVariants.{Absolute, ZeroPage}
use Rattle.tb_asm.specs.declared.items.Operand.TheVariants.{Byte, Word, Label, LowOf, HighOf}
use Rattle.tb_asm.specs.Layout.{Entry, instr, number_in, address_in, bytes_of, bytes_from, size, size_of}
use Rattle.std.specs.Option.{option_map}
use Rattle.std.proofs.Math.Bool.{or-true}
use Rattle.tb_asm.proofs.Laws.{bytes_append}
use Rattle.tb_machine_reaching.proofs.Instr.{flat, ins, instr_bytes}
use Rattle.tb_basic_meaning.specs.Control.{Place, At, Past, next_after, has_line}
use Rattle.tb_runtime16.specs.Addresses.{FAULT_LINE_AT}
use Rattle.tb_compiler_templates.specs.declared.labels.Target.{Target}
use Rattle.tb_compiler_templates.specs.declared.labels.Target.TheVariants as target
use Rattle.tb_compiler_templates.specs.Labels.{label_of}
use Rattle.tb_compiler_templates.specs.Templates as product
use Rattle.tb_compiler_templates.specs.Templates.{target_of, next_line}
use Rattle.tb_proof_simulation.specs.Layout.{Layout, label_address, layout_of, place_address}
use Rattle.tb_proof_simulation.proofs.Resolved.{lda_at, sta_at, copied, constant, pointed, faulting, jump, next_at}

-- ---- labels
-- the bytes of a word are bytes
pub low_byte : (w : ℕ) → w % 256 % 256 ≡ w % 256
low_byte w = omega arith

-- the high byte of a word is a byte
pub high_byte : (w : ℕ) → w < 65536 → w / 256 % 256 ≡ w / 256
high_byte w h = omega (arith, h)

-- the line after another one is one of the lines
pub next_has : (ns : List ℕ) (n m : ℕ) → next_after ns n ≡ At m → has_line ns m ≡ true
next_has [] n m e = cc
next_has (k ∷ ns) n m e = go (nat_lt n k) (next_has ns n m) e
  where
    at_eq : (a b : ℕ) → ◌≡◌ {A = Place} (At a) (At b) → a ≡ b
    at_eq a b e = cc

    go : (t : Bool) → (next_after ns n ≡ At m → has_line ns m ≡ true) → (if t then At k else next_after ns n) ≡ At m → (nat_eq k m || has_line ns m) ≡ true
    go true later e = ap (λ b. b || has_line ns m) (eq-eqb k m (at_eq k m e))
    go false later e = ap (λ b. nat_eq k m || b) (later e) ∙ or-true (nat_eq k m)

module _ (labels : List (Name × ℕ)) (ns : List ℕ) (seed : ℕ) where
  abbrev pub ly : Layout
  ly = layout_of labels ns seed

  -- a label's low byte as a number
  pub low_of : (n : Name) → number_in labels (LowOf n) ≡ number_in labels (Label n) % 256
  low_of n = go (address_in labels n)
    where
      go : (o : Option ℕ) → unwrap_or (option_map (λ a. a % 256) o) 0 ≡ unwrap_or o 0 % 256
      go None = refl
      go (Some a) = refl

  -- a label's high byte as a number
  pub high_of : (n : Name) → number_in labels (HighOf n) ≡ number_in labels (Label n) / 256
  high_of n = go (address_in labels n)
    where
      go : (o : Option ℕ) → unwrap_or (option_map (λ a. a / 256) o) 0 ≡ unwrap_or o 0 / 256
      go None = refl
      go (Some a) = refl

  -- the label of a line gives the line's start
  pub start_of_line : (n : ℕ) → has_line ns n ≡ true → label_address labels (target.Line n) ≡ ly.start n
  start_of_line n e = ap (λ t. if t then label_address labels (target.Line n) else label_address labels target.Past) (sym e)

  -- the label of the next line gives the next line's start
  pub next_same : (n : ℕ) → label_address labels (next_line ns n) ≡ next_at ly n
  next_same n = go (next_after ns n) refl
    where
      go : (p : Place) → next_after ns n ≡ p → label_address labels (target_of p) ≡ place_address ly p
      go (At m) e = start_of_line m (next_has ns n m e)
      go Past e = refl

  -- ---- bytes
  pub joined : (at n : ℕ) (xs ys : List Entry) (b c : List ℕ) → size xs ≡ n → bytes_from labels at xs ≡ b → bytes_from labels (at + n) ys ≡ c
      → bytes_from labels at (xs ++ ys) ≡ b ++ c
  joined at n xs ys b c e l r = bytes_append labels at xs ys ∙ ap (λ k. bytes_from labels at xs ++ bytes_from labels (at + k) ys) e ∙ (λ i. l i ++ r i)

  -- the bytes of a constant that is stored
  pub constant_bytes : (at w to : ℕ) → w < 65536 → bytes_from labels at (product.constant w to) ≡ flat (constant w to)
  unfolding opcodes.encoded
  constant_bytes at w to h = λ i. 0xa9 ∷ low_byte w i ∷ 0x8d ∷ to % 256 ∷ to / 256 ∷ 0xa9 ∷ high_byte w h i ∷ 0x8d ∷ (to + 1) % 256 ∷ (to + 1) / 256 ∷ []

  -- an instruction on the byte at an address has the opcode of its mode there
  loaded_bytes : (t : Bool) (p : ℕ) → nat_lt p 256 ≡ t → (a : ℕ)
      → bytes_of labels a (instr Lda (if t then ZeroPage else Absolute) (if t then Byte p else Word p)) ≡ instr_bytes (ins (if t then 0xA5 else 0xAD) p)
  unfolding opcodes.encoded
  loaded_bytes true p e a = ap (λ b. 0xa5 ∷ b ∷ []) (let k : p % 256 ≡ p = omega (arith, ltb-true p 256 e) in k)
  loaded_bytes false p e a = refl

  stored_bytes : (t : Bool) (p : ℕ) → nat_lt p 256 ≡ t → (a : ℕ)
      → bytes_of labels a (instr Sta (if t then ZeroPage else Absolute) (if t then Byte p else Word p)) ≡ instr_bytes (ins (if t then 0x85 else 0x8D) p)
  unfolding opcodes.encoded
  stored_bytes true p e a = ap (λ b. 0x85 ∷ b ∷ []) (let k : p % 256 ≡ p = omega (arith, ltb-true p 256 e) in k)
  stored_bytes false p e a = refl

  -- the bytes of a load
  pub load_bytes : (p a : ℕ) → bytes_of labels a (product.on Lda p) ≡ instr_bytes (lda_at p)
  load_bytes p a = loaded_bytes (nat_lt p 256) p refl a

  -- the bytes of a store
  pub store_bytes : (p a : ℕ) → bytes_of labels a (product.on Sta p) ≡ instr_bytes (sta_at p)
  store_bytes p a = stored_bytes (nat_lt p 256) p refl a

  -- the bytes of a word that is copied
  pub copied_bytes : (at from to : ℕ) → bytes_from labels at (product.copied from to) ≡ flat (copied from to)
  unfolding opcodes.encoded
  copied_bytes at from to =
      let second = at + size_of (product.on Lda from) + 3 in
      λ i. load_bytes from at i ++ (0x8d ∷ to % 256 ∷ to / 256 ∷ (load_bytes (from + 1) second i ++ (0x8d ∷ (to + 1) % 256 ∷ (to + 1) / 256 ∷ [])))

  -- the bytes of a fault
  pub faulted_bytes : (at n k : ℕ) → n < 65536 → k < 256 → bytes_from labels at (product.faulted n k) ≡ flat (faulting n k)
  unfolding opcodes.encoded
  faulted_bytes at n k h few =
      let number : k % 256 ≡ k = omega (arith, few) in
      λ i. 0xa2 ∷ low_byte n i ∷ 0xa0 ∷ high_byte n h i ∷ 0xa9 ∷ number i ∷ 0x4c ∷ FAULT_LINE_AT % 256 ∷ FAULT_LINE_AT / 256 ∷ []

  -- the bytes of a label's address that is stored
  pub address_bytes : (at : ℕ) (of : Target) (p to : ℕ) → label_address labels of ≡ p → p < 65536 → to + 1 < 256 → bytes_from labels at (product.address of to) ≡ flat (pointed p to)
  unfolding opcodes.encoded
  address_bytes at of p to e h k =
      let low_place : to % 256 ≡ to = omega (arith, k) in
      let high_place : (to + 1) % 256 ≡ to + 1 = omega (arith, k) in
      let l : number_in labels (LowOf (label_of of)) % 256 ≡ p % 256 = omega (arith, low_of (label_of of), e) in
      let r : number_in labels (HighOf (label_of of)) % 256 ≡ p / 256 = omega (arith, high_of (label_of of), e, h) in
      λ i. 0xa9 ∷ l i ∷ 0x85 ∷ low_place i ∷ 0xa9 ∷ r i ∷ 0x85 ∷ high_place i ∷ []

  -- the bytes of a jump
  pub jump_bytes : (at : ℕ) (of : Target) (p : ℕ) → label_address labels of ≡ p → bytes_from labels at (product.jump of ∷ []) ≡ flat (jump p)
  unfolding opcodes.encoded
  jump_bytes at of p e = ap (λ q. 0x4c ∷ q % 256 ∷ q / 256 ∷ []) e

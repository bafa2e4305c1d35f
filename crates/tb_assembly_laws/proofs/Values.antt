-- The values of addresses and bytes, and the modes that they lead to.
use Rattle.std.proofs.Common.{◌≡◌, ℕ, ◌<◌, ◌≤◌, ◌%◌, ◌/◌, Bool, true, false, ◌&&◌, List, [], ◌∷◌, map, ℤ, pos, Option, Some, None, Ok, Err, refl, sym, ap, subst, ◌∙◌, eqb, if◌then◌else◌, arith, true≢false, nat_lt, nat_le}
use Rattle.std.specs.Prelude.{option_map, unwrap_or}
use Rattle.std.proofs.lemmas.Bool.Decides.{nat_tests}
use Rattle.tb_opcodes.specs.declared.Mnemonic.{Mnemonic}
use Rattle.tb_opcodes.specs.declared.Mnemonic.TheVariants.{Bcc, Bcs, Beq, Bmi, Bne, Bpl, Bvc, Bvs}
use Rattle.tb_opcodes.specs.declared.Mode.{Mode}
use Rattle.tb_opcodes.specs.Opcodes.{encoded}
use Rattle.tb_opcodes.specs.declared.Mode.TheVariants as modes
use Rattle.tb_asm.specs.declared.names.Name.{Name}
use Rattle.tb_asm.specs.declared.items.Operand.{Operand}
use Rattle.tb_asm.specs.declared.items.Operand.TheVariants.{Byte, Word, LowOf, HighOf}
use Rattle.tb_asm.specs.declared.errors.AsmErrorKind.{AsmErrorKind}
use Rattle.tb_asm.specs.declared.errors.AsmErrorKind.TheVariants.{BranchOutOfRange, IndirectAtPageEnd}
use Rattle.tb_asm.specs.Names.{fold_byte, name_from}
use Rattle.tb_asm.specs.Text.{is_branch}
use Rattle.tb_asm.specs.Layout.{instr, address_in as address_of_label, value_in, reach_fault, with_value, code_fault, distance, is_near}
use Rattle.tb_assembly_text.specs.declared.expressions.Unary.TheVariants.{Low, High}
use Rattle.tb_assembly_text.specs.declared.operands.Index.{Index}
use Rattle.tb_assembly_text.specs.declared.operands.Index.TheVariants.{Without, X, Y}
use Rattle.tb_assembly_text.specs.Expressions.{Sum, named, unary}
use Rattle.tb_assembly_meaning.specs.declared.faults.Wrong.TheVariants.{Overflow, NoByte, NoAddress, NoZeroPage, NoWord, TooFar, PageEnd}
use Rattle.tb_assembly_meaning.specs.Names.{Env}
use Rattle.tb_assembly_meaning.specs.Values.{checked, pushed, run, then_steps, top_of, value, value_named}
use Rattle.tb_assembly_meaning.specs.Bytes.{address_of, byte_of, word_of, zero_page_of}
use Rattle.tb_assembly_meaning.specs.Modes.{has, is_short, is_known_low as is_known_small, mode_of}
use Rattle.tb_assembly_meaning.specs.Places.{and_then, capped, here_at, located, spot}
use Rattle.tb_assembly_meaning.specs.Items.{operand_value, value_operand, form_operand, then_wrong, branch_operand, indirect_operand}
use Rattle.tb_assembly_laws.specs.Items.{has_short, is_low, is_known_low, resolved}
use Rattle.tb_assembly_laws.proofs.Words.{none_some, some_is}
use Rattle.tb_assembly_laws.proofs.Operands.{Address, at, of, Given, none, on_a, byte_now, low_of, high_of, page, place, low_place, through, through_x, through_y, mode_in, operand_in, form_in, sum_at, address_in, IsAddress, IsGiven}

-- numbers are bytes or words, and an address that takes one byte has a value with these labels
abbrev pub IsKnown : List (Name × ℕ) → Given → Type 0
IsKnown labels (low_place c a v i) = (v < 256) × IsAddress a × (value_in labels (address_in a) ≡ Some v)
IsKnown labels g = IsGiven g

-- a label's address as a value
abbrev pub known : Option ℕ → Option (Option ℤ)
known o = option_map (λ a. Some (pos a)) o

-- names stand for the addresses of these labels
abbrev pub StandsFor : Env → List (Name × ℕ) → Type 0
StandsFor env labels = (w : List ℕ) → env w ≡ known (address_of_label labels (name_from w))

-- all addresses of labels are words
abbrev pub AreWords : List (Name × ℕ) → Type 0
AreWords labels = (w : List ℕ) (a : ℕ) → address_of_label labels (name_from w) ≡ Some a → a < 65536

-- a word is a number of 32 bits
small : (n : ℕ) → n < 65536 → checked (pos n) ≡ Ok (pos n)
small n l = let t : nat_lt n 2147483648 ≡ true = grind (arith, nat_tests) in ap (λ x. if x then Ok (pos n) else Err Overflow) t

module _ (env : Env) (z : ℤ) where
  -- the value of a number
  pub number_value : (c n : ℕ) → n < 65536 → value env z (sum_at c (at n)) ≡ Ok (pos n)
  number_value c n l = ap (λ r. top_of (then_steps (pushed c r []) (run env z []))) (small n l)

  -- the value of a name
  pub name_value : (c : ℕ) (w : List ℕ) (v : ℕ) → env (map fold_byte w) ≡ Some (Some (pos v)) → value env z (sum_at c (of w)) ≡ Ok (pos v)
  name_value c w v e = ap (λ o. top_of (then_steps (pushed c (value_named o) []) (run env z []))) e

module _ (env : Env) (labels : List (Name × ℕ)) (stands : StandsFor env labels) (z : ℤ) where
  stands_at : (w : List ℕ) (v : ℕ) → address_of_label labels (name_from (map fold_byte w)) ≡ Some v → env (map fold_byte w) ≡ Some (Some (pos v))
  stands_at w v e = stands (map fold_byte w) ∙ ap known e

  -- the value of an address
  pub sum_value : (c : ℕ) (a : Address) (v : ℕ) → IsAddress a → value_in labels (address_in a) ≡ Some v → value env z (sum_at c a) ≡ Ok (pos v)
  sum_value c (at n) v l e = number_value env z c n l ∙ ap (λ x. Ok (pos x)) (sym (some_is e))
  sum_value c (of w) v l e = name_value env z c w v (stands_at w v e)

  -- whether an address is short
  pub short_is : (c : ℕ) (a : Address) → IsAddress a → is_short env z (sum_at c a) ≡ is_known_low labels (address_in a)
  short_is c (at n) l = ap is_known_small (number_value env z c n l)
  short_is c (of w) l = by (address_of_label labels (name_from (map fold_byte w))) refl
    where
      by : (o : Option ℕ) → address_of_label labels (name_from (map fold_byte w)) ≡ o → is_short env z (sum_at c (of w)) ≡ is_low (address_of_label labels (name_from (map fold_byte w)))
      by None e = ap (λ o. is_known_small (top_of (then_steps (pushed c (value_named o) []) (run env z [])))) (stands (map fold_byte w) ∙ ap known e) ∙ sym (ap is_low e)
      by (Some v) e = ap is_known_small (name_value env z c w v (stands_at w v e)) ∙ sym (ap is_low e)

-- ── modes ──
-- a branch has no other mode
no_branch : (m : Mnemonic) → has m modes.ZeroPage ≡ true → has m modes.Relative ≡ false
unfolding encoded
no_branch Bcc h = absurd (true≢false (sym h))
no_branch Bcs h = absurd (true≢false (sym h))
no_branch Beq h = absurd (true≢false (sym h))
no_branch Bmi h = absurd (true≢false (sym h))
no_branch Bne h = absurd (true≢false (sym h))
no_branch Bpl h = absurd (true≢false (sym h))
no_branch Bvc h = absurd (true≢false (sym h))
no_branch Bvs h = absurd (true≢false (sym h))
no_branch m h = refl

-- one byte is taken for an address that is known and small
picked : (m : Mnemonic) (s : Bool) (one two : Mode) → s ≡ true → has m one ≡ true → (if s && has m one then one else two) ≡ one
picked m s one two e h = λ i. if e i && h i then one else two

passed : (m : Mnemonic) (s : Bool) (one two : Mode) → (has m one && s) ≡ false → (if s && has m one then one else two) ≡ two
passed m true one two h = ap (λ x. if x then one else two) (by (has m one) h)
  where
    by : (t : Bool) → (t && true) ≡ false → t ≡ false
    by true k = k
    by false k = refl
passed m false one two h = refl

first_of : (s t : Bool) → (s && t) ≡ true → s ≡ true
first_of true t h = refl
first_of false t h = h

module _ (env : Env) (labels : List (Name × ℕ)) (stands : StandsFor env labels) (z : ℤ) (m : Mnemonic) where
  -- a byte's mode
  page_mode : (c b : ℕ) (i : Index) → b < 256 → has m (mode_in (is_branch m) (page c b i)) ≡ true → mode_of env z m (form_in (page c b i)) ≡ mode_in (is_branch m) (page c b i)
  page_mode c b i l h = by i h
    where
      short : is_short env z (sum_at c (at b)) ≡ true
      short = ap is_known_small (number_value env z c b (omega (arith, l))) ∙ (let t : nat_lt b 256 ≡ true = grind (arith, nat_tests) in t)

      by : (i : Index) → has m (mode_in (is_branch m) (page c b i)) ≡ true → mode_of env z m (form_in (page c b i)) ≡ mode_in (is_branch m) (page c b i)
      by Without k =
          ap (λ x. if x then modes.Relative else if is_short env z (sum_at c (at b)) && has m modes.ZeroPage then modes.ZeroPage else modes.Absolute) (no_branch m k)
          ∙ picked m (is_short env z (sum_at c (at b))) modes.ZeroPage modes.Absolute short k
      by X k = picked m (is_short env z (sum_at c (at b))) modes.ZeroPageX modes.AbsoluteX short k
      by Y k = picked m (is_short env z (sum_at c (at b))) modes.ZeroPageY modes.AbsoluteY short k

  -- an address's mode, unless it is shortened
  place_mode : (c : ℕ) (a : Address) (i : Index) → IsAddress a → (has_short m (mode_in (is_branch m) (place c a i)) && is_known_low labels (address_in a)) ≡ false
      → mode_of env z m (form_in (place c a i)) ≡ mode_in (is_branch m) (place c a i)
  place_mode c a i l h = by i h
    where
      other : (t : Bool) → (has_short m (if t then modes.Relative else modes.Absolute) && is_known_low labels (address_in a)) ≡ false
          → (if t then modes.Relative else if is_short env z (sum_at c a) && has m modes.ZeroPage then modes.ZeroPage else modes.Absolute) ≡ (if t then modes.Relative else modes.Absolute)
      other true k = refl
      other false k = passed m (is_short env z (sum_at c a)) modes.ZeroPage modes.Absolute (ap (λ x. has m modes.ZeroPage && x) (short_is env labels stands z c a l) ∙ k)

      by : (i : Index) → (has_short m (mode_in (is_branch m) (place c a i)) && is_known_low labels (address_in a)) ≡ false
          → mode_of env z m (form_in (place c a i)) ≡ mode_in (is_branch m) (place c a i)
      by Without k = other (has m modes.Relative) k
      by X k = passed m (is_short env z (sum_at c a)) modes.ZeroPageX modes.AbsoluteX (ap (λ x. has m modes.ZeroPageX && x) (short_is env labels stands z c a l) ∙ k)
      by Y k = passed m (is_short env z (sum_at c a)) modes.ZeroPageY modes.AbsoluteY (ap (λ x. has m modes.ZeroPageY && x) (short_is env labels stands z c a l) ∙ k)

  -- the mode of an address that takes one byte
  low_mode : (c : ℕ) (a : Address) (v : ℕ) (i : Index) → v < 256 → IsAddress a → value_in labels (address_in a) ≡ Some v
      → has m (mode_in (is_branch m) (low_place c a v i)) ≡ true → mode_of env z m (form_in (low_place c a v i)) ≡ mode_in (is_branch m) (low_place c a v i)
  low_mode c a v i l address e h = by i h
    where
      short : is_short env z (sum_at c a) ≡ true
      short = ap is_known_small (sum_value env labels stands z c a v address e) ∙ (let t : nat_lt v 256 ≡ true = grind (arith, nat_tests) in t)

      by : (i : Index) → has m (mode_in (is_branch m) (low_place c a v i)) ≡ true → mode_of env z m (form_in (low_place c a v i)) ≡ mode_in (is_branch m) (low_place c a v i)
      by Without k =
          ap (λ x. if x then modes.Relative else if is_short env z (sum_at c a) && has m modes.ZeroPage then modes.ZeroPage else modes.Absolute) (no_branch m k)
          ∙ picked m (is_short env z (sum_at c a)) modes.ZeroPage modes.Absolute short k
      by X k = picked m (is_short env z (sum_at c a)) modes.ZeroPageX modes.AbsoluteX short k
      by Y k = picked m (is_short env z (sum_at c a)) modes.ZeroPageY modes.AbsoluteY short k

  -- the mode of an instruction, unless it is shortened
  pub mode_is : (g : Given) → IsKnown labels g → has m (mode_in (is_branch m) g) ≡ true → (has_short m (mode_in (is_branch m) g) && is_known_low labels (operand_in g)) ≡ false
      → mode_of env z m (form_in g) ≡ mode_in (is_branch m) g
  mode_is none l h s = ap (λ x. if x then modes.Implied else modes.Accumulator) h
  mode_is on_a l h s = refl
  mode_is (byte_now c b) l h s = refl
  mode_is (low_of c d w) l h s = refl
  mode_is (high_of c d w) l h s = refl
  mode_is (page c b i) l h s = page_mode c b i l h
  mode_is (place c a i) l h s = place_mode c a i l s
  mode_is (low_place c a v i) l h s = low_mode c a v i l.0 l.1 l.2 h
  mode_is (through c a) l h s = refl
  mode_is (through_x c b) l h s = refl
  mode_is (through_y c b) l h s = refl

-- ── operands ──
-- an operand that has no fault has a value
pub value_there : (o : Option ℕ) (f : ℕ → Option AsmErrorKind) → with_value o f ≡ None → (v : ℕ) × (o ≡ Some v) × (f v ≡ None)
value_there None f h = absurd (none_some (sym h))
value_there (Some v) f h = (v, refl, h)

pub byte_is : (v : ℕ) → v < 256 → byte_of (pos v) ≡ Ok v
byte_is v l = let t : nat_le v 255 ≡ true = grind (arith, nat_tests) in ap (λ x. if x then Ok v else Err NoByte) t

zero_page_is : (v : ℕ) → v < 256 → zero_page_of (pos v) ≡ Ok v
zero_page_is v l = let t : nat_le v 255 ≡ true = grind (arith, nat_tests) in ap (λ x. if x then Ok v else Err NoZeroPage) t

address_is : (v : ℕ) → v < 65536 → address_of (pos v) ≡ Ok v
address_is v l = let t : nat_le v 65535 ≡ true = grind (arith, nat_tests) in ap (λ x. if x then Ok v else Err NoAddress) t

pub word_is : (v : ℕ) → v < 65536 → word_of (pos v) ≡ Ok v
word_is v l = let t : nat_le v 65535 ≡ true = grind (arith, nat_tests) in ap (λ x. if x then Ok v else Err NoWord) t

pub capped_is : (a : ℕ) → a ≤ 65536 → capped a ≡ a
capped_is a l = omega (arith, l)

module _ (env : Env) (labels : List (Name × ℕ)) (stands : StandsFor env labels) (words : AreWords labels) (a size : ℕ) (fits : a ≤ 65536) where
  -- the operand of an expression that has a value
  by_value : (mode : Mode) (e : Sum) (z : ℤ) (o : Operand) → value env (here_at a) e ≡ Ok z → operand_value mode (capped a) z ≡ Ok o
      → value_operand env (spot a size mode) e ≡ Ok o
  by_value mode e z o v w = ap (λ r. and_then r (λ z. located e.0 (operand_value mode (capped a) z))) v ∙ ap (located e.0) w

  -- a number for an address
  resolved_is : (p : Address) (v : ℕ) → value_in labels (address_in p) ≡ Some v → resolved labels (address_in p) ≡ Word v
  resolved_is (at n) v e = ap Word (sym (some_is e))
  resolved_is (of w) v e = ap (λ o. Word (unwrap_or o 0)) e

  pub address_word : (p : Address) (v : ℕ) → IsAddress p → value_in labels (address_in p) ≡ Some v → v < 65536
  address_word (at n) v l e = subst (λ x. x < 65536) (sym (some_is e)) l
  address_word (of w) v l e = words (map fold_byte w) v e

  -- an address in a mode of two bytes
  plain_address : (mode : Mode) (c : ℕ) (p : Address) (v : ℕ) → IsAddress p → value_in labels (address_in p) ≡ Some v
      → ((z : ℤ) → operand_value mode (capped a) z ≡ then_wrong (address_of z) (λ w. Ok (Word w)))
      → value_operand env (spot a size mode) (sum_at c p) ≡ Ok (resolved labels (address_in p))
  plain_address mode c p v l e plain =
      by_value mode (sum_at c p) (pos v) (resolved labels (address_in p)) (sum_value env labels stands (here_at a) c p v l e)
      (plain (pos v) ∙ ap (λ r. then_wrong r (λ w. Ok (Word w))) (address_is v (address_word p v l e)) ∙ ap Ok (sym (resolved_is p v e)))

  -- the target of a branch
  branch_address : (c : ℕ) (p : Address) (v : ℕ) → IsAddress p → value_in labels (address_in p) ≡ Some v → reach_fault modes.Relative a v ≡ None
      → value_operand env (spot a size modes.Relative) (sum_at c p) ≡ Ok (resolved labels (address_in p))
  branch_address c p v l e near =
      by_value modes.Relative (sum_at c p) (pos v) (resolved labels (address_in p)) (sum_value env labels stands (here_at a) c p v l e)
      (ap (λ r. then_wrong r (branch_operand (capped a))) (address_is v (address_word p v l e))
      ∙ ap (λ x. branch_operand x v) (capped_is a fits)
      ∙ ap (λ x. if x then Ok (Word v) else Err TooFar) (reached (is_near (distance a v)) near)
      ∙ ap Ok (sym (resolved_is p v e)))
    where
      reached : (t : Bool) → (if t then None else Some BranchOutOfRange) ≡ None → t ≡ true
      reached true h = refl
      reached false h = absurd (none_some (sym h))

  -- the pointer of an indirect jump
  pointer_address : (c : ℕ) (p : Address) (v : ℕ) → IsAddress p → value_in labels (address_in p) ≡ Some v → reach_fault modes.Indirect a v ≡ None
      → value_operand env (spot a size modes.Indirect) (sum_at c p) ≡ Ok (resolved labels (address_in p))
  pointer_address c p v l e inner =
      by_value modes.Indirect (sum_at c p) (pos v) (resolved labels (address_in p)) (sum_value env labels stands (here_at a) c p v l e)
      (ap (λ r. then_wrong r indirect_operand) (address_is v (address_word p v l e))
      ∙ ap (λ x. if x then Err PageEnd else Ok (Word v)) (within (eqb (v % 256) 255) inner)
      ∙ ap Ok (sym (resolved_is p v e)))
    where
      within : (t : Bool) → (if t then Some IndirectAtPageEnd else None) ≡ None → t ≡ false
      within true h = absurd (none_some (sym h))
      within false h = refl

  -- a byte in a mode of one
  page_byte : (mode : Mode) (c b : ℕ) → b < 256 → ((z : ℤ) → operand_value mode (capped a) z ≡ then_wrong (zero_page_of z) (λ x. Ok (Byte x)))
      → value_operand env (spot a size mode) (sum_at c (at b)) ≡ Ok (Byte b)
  page_byte mode c b l plain =
      by_value mode (sum_at c (at b)) (pos b) (Byte b) (number_value env (here_at a) c b (omega (arith, l)))
      (plain (pos b) ∙ ap (λ r. then_wrong r (λ x. Ok (Byte x))) (zero_page_is b l))

  -- an address in a mode of one byte
  low_byte : (mode : Mode) (c : ℕ) (p : Address) (v : ℕ) → v < 256 → IsAddress p → value_in labels (address_in p) ≡ Some v
      → ((z : ℤ) → operand_value mode (capped a) z ≡ then_wrong (zero_page_of z) (λ x. Ok (Byte x)))
      → value_operand env (spot a size mode) (sum_at c p) ≡ Ok (Byte v)
  low_byte mode c p v low l e plain =
      by_value mode (sum_at c p) (pos v) (Byte v) (sum_value env labels stands (here_at a) c p v l e)
      (plain (pos v) ∙ ap (λ r. then_wrong r (λ x. Ok (Byte x))) (zero_page_is v low))

  -- one byte of a name's address
  part_byte : (c d : ℕ) (w : List ℕ) (v : ℕ) → address_of_label labels (name_from (map fold_byte w)) ≡ Some v
      → (value_operand env (spot a size modes.Immediate) (c, (d, named (map fold_byte w)) ∷ (c, unary Low) ∷ []) ≡ Ok (resolved labels (LowOf (name_from (map fold_byte w)))))
      × (value_operand env (spot a size modes.Immediate) (c, (d, named (map fold_byte w)) ∷ (c, unary High) ∷ []) ≡ Ok (resolved labels (HighOf (name_from (map fold_byte w)))))
  part_byte c d w v e =
      let here = stands_at env labels stands (here_at a) w v e in
      let most : v < 65536 = words (map fold_byte w) v e in
      let low : v % 256 < 256 = omega arith in
      let high : v / 256 < 256 = omega (arith, most) in
      let whole : v / 256 % 256 ≡ v / 256 = omega (arith, most) in (
        by_value modes.Immediate (c, (d, named (map fold_byte w)) ∷ (c, unary Low) ∷ []) (pos (v % 256)) (resolved labels (LowOf (name_from (map fold_byte w))))
            (ap (λ o. top_of (then_steps (pushed d (value_named o) []) (run env (here_at a) ((c, unary Low) ∷ [])))) here)
            (ap (λ r. then_wrong r (λ x. Ok (Byte x))) (byte_is (v % 256) low) ∙ sym (ap (λ o. Ok (Byte (unwrap_or (option_map (λ x. x % 256) o) 0))) e)),
        by_value modes.Immediate (c, (d, named (map fold_byte w)) ∷ (c, unary High) ∷ []) (pos (v / 256)) (resolved labels (HighOf (name_from (map fold_byte w))))
            (ap (λ o. top_of (then_steps (pushed d (value_named o) []) (run env (here_at a) ((c, unary High) ∷ [])))) here ∙ ap (λ x. Ok (pos x)) whole)
            (ap (λ r. then_wrong r (λ x. Ok (Byte x))) (byte_is (v / 256) high) ∙ sym (ap (λ o. Ok (Byte (unwrap_or (option_map (λ x. x / 256) o) 0))) e)),
      )

  part_there : (n : Name) (f : ℕ → ℕ) (k : ℕ → Option AsmErrorKind) → with_value (option_map f (address_of_label labels n)) k ≡ None → (v : ℕ) × (address_of_label labels n ≡ Some v)
  part_there n f k h = by (address_of_label labels n) h
    where
      by : (o : Option ℕ) → with_value (option_map f o) k ≡ None → (v : ℕ) × (o ≡ Some v)
      by None g = absurd (none_some (sym g))
      by (Some v) g = (v, refl)

  -- the operand of an instruction without a fault
  pub operand_made : (m : Mnemonic) (g : Given) → IsKnown labels g → code_fault labels a (instr m (mode_in (is_branch m) g) (operand_in g)) ≡ None
      → form_operand env (spot a size (mode_in (is_branch m) g)) (form_in g) ≡ Ok (resolved labels (operand_in g))
  operand_made m none l h = refl
  operand_made m on_a l h = refl
  operand_made m (byte_now c b) l h =
      by_value modes.Immediate (sum_at c (at b)) (pos b) (Byte b) (number_value env (here_at a) c b (omega (arith, l))) (ap (λ r. then_wrong r (λ x. Ok (Byte x))) (byte_is b l))
  operand_made m (low_of c d w) l h = let (v, e) = part_there (name_from (map fold_byte w)) (λ x. x % 256) (reach_fault modes.Immediate a) h in (part_byte c d w v e).0
  operand_made m (high_of c d w) l h = let (v, e) = part_there (name_from (map fold_byte w)) (λ x. x / 256) (reach_fault modes.Immediate a) h in (part_byte c d w v e).1
  operand_made m (page c b Without) l h = page_byte modes.ZeroPage c b l (λ z. refl)
  operand_made m (page c b X) l h = page_byte modes.ZeroPageX c b l (λ z. refl)
  operand_made m (page c b Y) l h = page_byte modes.ZeroPageY c b l (λ z. refl)
  operand_made m (place c p Without) l h = by (is_branch m) h
    where
      by : (t : Bool) → with_value (value_in labels (address_in p)) (reach_fault (if t then modes.Relative else modes.Absolute) a) ≡ None
          → value_operand env (spot a size (if t then modes.Relative else modes.Absolute)) (sum_at c p) ≡ Ok (resolved labels (address_in p))
      by true k = let (v, e, near) = value_there (value_in labels (address_in p)) (reach_fault modes.Relative a) k in branch_address c p v l e near
      by false k = let (v, e, free) = value_there (value_in labels (address_in p)) (reach_fault modes.Absolute a) k in plain_address modes.Absolute c p v l e (λ z. refl)
  operand_made m (place c p X) l h = let (v, e, free) = value_there (value_in labels (address_in p)) (reach_fault modes.AbsoluteX a) h in plain_address modes.AbsoluteX c p v l e (λ z. refl)
  operand_made m (place c p Y) l h = let (v, e, free) = value_there (value_in labels (address_in p)) (reach_fault modes.AbsoluteY a) h in plain_address modes.AbsoluteY c p v l e (λ z. refl)
  operand_made m (low_place c p v Without) l h = low_byte modes.ZeroPage c p v l.0 l.1 l.2 (λ z. refl)
  operand_made m (low_place c p v X) l h = low_byte modes.ZeroPageX c p v l.0 l.1 l.2 (λ z. refl)
  operand_made m (low_place c p v Y) l h = low_byte modes.ZeroPageY c p v l.0 l.1 l.2 (λ z. refl)
  operand_made m (through c p) l h = let (v, e, inner) = value_there (value_in labels (address_in p)) (reach_fault modes.Indirect a) h in pointer_address c p v l e inner
  operand_made m (through_x c b) l h = page_byte modes.IndirectX c b l (λ z. refl)
  operand_made m (through_y c b) l h = page_byte modes.IndirectY c b l (λ z. refl)

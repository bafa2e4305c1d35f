-- A reader that reads more gives the same, whatever S is.
use Rattle.std.proofs.Common.{◌≡◌, ℕ, ◌+◌, ◌%◌, Bool, true, false, not, ◌&&◌, refl, ap, ◌∙◌, sym, subst, [], ◌∷◌}
use Rattle.std.specs.Prelude.{Result, Ok, Err, if◌then◌else◌, bit_and, bit_or, bit_xor}
use Rattle.tb_memmap.specs.Regions.{is_open}
use Rattle.tb_opcodes.specs.declared.Mnemonic.{Mnemonic}
use Rattle.tb_opcodes.specs.declared.Mnemonic.TheVariants.{Lda, Ldx, Ldy, Sta, Stx, Sty, Tsx, Txs, Adc, Sbc, Cmp, Cpx, Cpy, And, Ora, Eor, Bit, Inc, Dec, Asl}
use Rattle.tb_opcodes.specs.declared.Mnemonic.TheVariants.{Lsr, Rol, Ror, Bpl, Bmi, Bvc, Bvs, Bcc, Bcs, Bne, Beq, Jsr, Rts, Rti, Pha, Pla, Php, Plp}
use Rattle.tb_opcodes.specs.declared.Mnemonic.TheVariants.{Brk as BrkM}
use Rattle.tb_opcodes.specs.declared.Mode.{Mode}
use Rattle.tb_opcodes.specs.declared.Mode.TheVariants.{Implied, Accumulator, Immediate, ZeroPage, ZeroPageX, ZeroPageY, IndirectX, IndirectY, Relative, Absolute, AbsoluteX, AbsoluteY, Indirect}
use Rattle.tb_cpu.specs.declared.registers.Regs.{Regs}
use Rattle.tb_cpu.specs.declared.logic.Shifted.{Shifted}
use Rattle.tb_cpu.specs.declared.wrong.Wrong.{Wrong}
use Rattle.tb_cpu.specs.declared.wrong.Wrong.TheVariants.{Closed, BadDecimal}
use Rattle.tb_cpu.specs.Effects.{with_nz, added, subtracted, added_decimal, subtracted_decimal, is_decimal, compared, loaded_a, loaded_x, loaded_y, bit_tested, asl, lsr, rol, ror}
use Rattle.tb_cpu.specs.Operands.{Reader, and_then, operand_of, word_at}
use Rattle.tb_cpu.specs.Instructions.{Outcome, stored, with_datum, add_effect, subtract_effect, shift_effect, branch_effect, executed, executed_on_a, unchanged}
use Rattle.tb_machine_reaching.specs.View.{with_s}
use Rattle.tb_machine_reaching.proofs.Acting.{Plain, kind_of}

is_ok : {A : Type 0} → Result A Wrong → Type 0
is_ok (Ok a) = Unit {0}
is_ok (Err e) = ⊥

pub ok≢err : {A : Type 0} (a : A) (e : Wrong) (x : Result A Wrong) → x ≡ Ok a → x ≡ Err e → ⊥
unfolding is_ok
ok≢err a e x h k = subst is_ok (sym h ∙ k) tt

-- a check that was passed
then_ok : {A B : Type 0} (x : Result A Wrong) (f : A → Result B Wrong) (b : B) → and_then x f ≡ Ok b → (a : A) × (x ≡ Ok a) × (f a ≡ Ok b)
then_ok (Ok a) f b h = (a, refl, h)
then_ok (Err e) f b h = absurd (ok≢err b e (Err e) h refl)

-- two checks in turn still pass with a reader that reads more
pub then_more : {A B C : Type 0} (x y : Result A Wrong) (f : A → Result B Wrong) (g : A → Result C Wrong) (b : B) (c : C)
    → ((a : A) → x ≡ Ok a → y ≡ Ok a) → ((a : A) → f a ≡ Ok b → g a ≡ Ok c) → and_then x f ≡ Ok b → and_then y g ≡ Ok c
then_more x y f g b c hx hf h = let p = then_ok x f b h in ap (λ z. and_then z g) (hx p.0 p.1) ∙ hf p.0 p.2

-- an outcome with another S
abbrev pub moved : ℕ → Outcome → Outcome
moved t e = (with_s t e.0, e.1)

abbrev pub moved_ok : ℕ → Result Outcome Wrong → Result Outcome Wrong
moved_ok t (Ok e) = Ok (moved t e)
moved_ok t (Err w) = Err w

abbrev regs_ok : ℕ → Result Regs Wrong → Result Regs Wrong
regs_ok t (Ok r) = Ok (with_s t r)
regs_ok t (Err w) = Err w

if_regs : (t : ℕ) (b : Bool) (x y : Result Regs Wrong) → (if b then regs_ok t x else regs_ok t y) ≡ regs_ok t (if b then x else y)
if_regs t true x y = refl
if_regs t false x y = refl

if_moved : (t : ℕ) (b : Bool) (x y : Result Outcome Wrong) → (if b then moved_ok t x else moved_ok t y) ≡ moved_ok t (if b then x else y)
if_moved t true x y = refl
if_moved t false x y = refl

-- ---- operands
module _ (r k : Reader) (ext : (a b : ℕ) → r a ≡ Ok b → k a ≡ Ok b) where
  -- a word is read the same by a reader that reads more
  pub more_word : (a b w : ℕ) → word_at r a b ≡ Ok w → word_at k a b ≡ Ok w
  more_word a b w = then_more (r a) (k a) _ _ w w (ext a) (λ low. then_more (r b) (k b) _ _ w w (ext b) (λ high h. h))

  -- an operand is found the same by a reader that reads more, whatever S is
  pub more_operand : (t : ℕ) (mode : Mode) (q : Regs) (o : ℕ) → operand_of mode q r ≡ Ok o → operand_of mode (with_s t q) k ≡ Ok o
  more_operand t Implied q o h = h
  more_operand t Accumulator q o h = h
  more_operand t Immediate q o h = h
  more_operand t Relative q o h = h
  more_operand t ZeroPage q o h = ext _ o h
  more_operand t ZeroPageX q o h = then_more (r _) (k _) _ _ o o (ext _) (λ b h. h) h
  more_operand t ZeroPageY q o h = then_more (r _) (k _) _ _ o o (ext _) (λ b h. h) h
  more_operand t IndirectX q o h = then_more (r _) (k _) _ _ o o (ext _) (λ b. more_word _ _ o) h
  more_operand t IndirectY q o h = then_more (r _) (k _) _ _ o o (ext _) (λ b. then_more (word_at r _ _) (word_at k _ _) _ _ o o (more_word _ _) (λ p h. h)) h
  more_operand t Absolute q o h = more_word _ _ o h
  more_operand t AbsoluteX q o h = then_more (word_at r _ _) (word_at k _ _) _ _ o o (more_word _ _) (λ p h. h) h
  more_operand t AbsoluteY q o h = then_more (word_at r _ _) (word_at k _ _) _ _ o o (more_word _ _) (λ p h. h) h
  more_operand t Indirect q o h = then_more (word_at r _ _) (word_at k _ _) _ _ o o (more_word _ _) (λ p. more_word _ _ o) h

-- ---- instructions
-- an instruction in the accumulator does the same at every S
pub on_a_moved : (t : ℕ) (m : Mnemonic) (q : Regs) → executed_on_a m (with_s t q) ≡ moved_ok t (executed_on_a m q)
on_a_moved t Asl q = refl
on_a_moved t _ q = refl

-- a reader gives the same at the operand
module _ (r k : Reader) (o : ℕ) (ext : (b : ℕ) → r o ≡ Ok b → k o ≡ Ok b) (t : ℕ) where
  -- an instruction that only reads
  more_takes : (q : Regs) (f g : ℕ → Result Regs Wrong) → ((v : ℕ) → g v ≡ regs_ok t (f v)) → (e : Outcome) → with_datum q r o f ≡ Ok e
      → with_datum (with_s t q) k o g ≡ Ok (moved t e)
  more_takes q f g fg e h =
      then_more (r o) (k o) _ _ e (moved t e) ext (λ v h.
      let p = then_ok (f v) unchanged e h in
      ap (λ z. and_then z unchanged) (fg v ∙ ap (regs_ok t) p.1) ∙ ap (moved_ok t) p.2) h

  -- an instruction that reads, and then does the same at every S
  more_changes : (q : Regs) (f g : ℕ → Result Outcome Wrong) → ((v : ℕ) → g v ≡ moved_ok t (f v)) → (e : Outcome) → and_then (r o) f ≡ Ok e → and_then (k o) g ≡ Ok (moved t e)
  more_changes q f g fg e h = then_more (r o) (k o) f g e (moved t e) ext (λ v h. fg v ∙ ap (moved_ok t) h) h

  stored_moved : (q : Regs) (v : ℕ) → stored (with_s t q) o v ≡ moved_ok t (stored q o v)
  stored_moved q v = if_moved t (is_open o) (Ok (q, (o, v) ∷ [])) (Err (Closed o))

  added_moved : (q : Regs) (v : ℕ) → add_effect (with_s t q) v ≡ regs_ok t (add_effect q v)
  added_moved q v =
      ap (λ x. if q.flags.d then x else Ok (added (with_s t q) v)) (if_regs t (is_decimal q.a && is_decimal v) (Ok (added_decimal q v)) (Err BadDecimal))
      ∙ if_regs t q.flags.d (if is_decimal q.a && is_decimal v then Ok (added_decimal q v) else Err BadDecimal) (Ok (added q v))

  subtracted_moved : (q : Regs) (v : ℕ) → subtract_effect (with_s t q) v ≡ regs_ok t (subtract_effect q v)
  subtracted_moved q v =
      ap (λ x. if q.flags.d then x else Ok (subtracted (with_s t q) v)) (if_regs t (is_decimal q.a && is_decimal v) (Ok (subtracted_decimal q v)) (Err BadDecimal))
      ∙ if_regs t q.flags.d (if is_decimal q.a && is_decimal v then Ok (subtracted_decimal q v) else Err BadDecimal) (Ok (subtracted q v))

  more_shifts : (q : Regs) (f : ℕ → Shifted) (e : Outcome) → shift_effect q r o f ≡ Ok e → shift_effect (with_s t q) k o f ≡ Ok (moved t e)
  more_shifts q f e h =
      more_changes q _ _ (λ v. stored_moved (record q { flags = record (with_nz q.flags (f v).value) { c = (f v).carry } }) (f v).value) e h

  more_branches : (q : Regs) (b : Bool) (e : Outcome) → branch_effect q r o b ≡ Ok e → branch_effect (with_s t q) k o b ≡ Ok (moved t e)
  more_branches q b e h = more_changes q _ _ (λ v. refl) e h

  -- a plain instruction does the same with a reader that reads more, whatever S is
  pub more_executed : (m : Mnemonic) → kind_of m ≡ Plain → (q : Regs) (e : Outcome) → executed m q r o ≡ Ok e → executed m (with_s t q) k o ≡ Ok (moved t e)
  more_executed Lda p q e h = more_takes q (λ v. Ok (loaded_a q v)) (λ v. Ok (loaded_a (with_s t q) v)) (λ v. refl) e h
  more_executed Ldx p q e h = more_takes q (λ v. Ok (loaded_x q v)) (λ v. Ok (loaded_x (with_s t q) v)) (λ v. refl) e h
  more_executed Ldy p q e h = more_takes q (λ v. Ok (loaded_y q v)) (λ v. Ok (loaded_y (with_s t q) v)) (λ v. refl) e h
  more_executed Sta p q e h = stored_moved q q.a ∙ ap (moved_ok t) h
  more_executed Stx p q e h = stored_moved q q.x ∙ ap (moved_ok t) h
  more_executed Sty p q e h = stored_moved q q.y ∙ ap (moved_ok t) h
  more_executed Adc p q e h = more_takes q (add_effect q) (add_effect (with_s t q)) (added_moved q) e h
  more_executed Sbc p q e h = more_takes q (subtract_effect q) (subtract_effect (with_s t q)) (subtracted_moved q) e h
  more_executed Cmp p q e h = more_takes q (λ v. Ok (compared q q.a v)) (λ v. Ok (compared (with_s t q) q.a v)) (λ v. refl) e h
  more_executed Cpx p q e h = more_takes q (λ v. Ok (compared q q.x v)) (λ v. Ok (compared (with_s t q) q.x v)) (λ v. refl) e h
  more_executed Cpy p q e h = more_takes q (λ v. Ok (compared q q.y v)) (λ v. Ok (compared (with_s t q) q.y v)) (λ v. refl) e h
  more_executed And p q e h = more_takes q (λ v. Ok (loaded_a q (bit_and q.a v))) (λ v. Ok (loaded_a (with_s t q) (bit_and q.a v))) (λ v. refl) e h
  more_executed Ora p q e h = more_takes q (λ v. Ok (loaded_a q (bit_or q.a v))) (λ v. Ok (loaded_a (with_s t q) (bit_or q.a v))) (λ v. refl) e h
  more_executed Eor p q e h = more_takes q (λ v. Ok (loaded_a q (bit_xor q.a v))) (λ v. Ok (loaded_a (with_s t q) (bit_xor q.a v))) (λ v. refl) e h
  more_executed Bit p q e h = more_takes q (λ v. Ok (bit_tested q v)) (λ v. Ok (bit_tested (with_s t q) v)) (λ v. refl) e h
  more_executed Inc p q e h = more_changes q _ _ (λ v. stored_moved (record q { flags = with_nz q.flags ((v + 1) % 256) }) ((v + 1) % 256)) e h
  more_executed Dec p q e h = more_changes q _ _ (λ v. stored_moved (record q { flags = with_nz q.flags ((v + 255) % 256) }) ((v + 255) % 256)) e h
  more_executed Asl p q e h = more_shifts q asl e h
  more_executed Lsr p q e h = more_shifts q lsr e h
  more_executed Rol p q e h = more_shifts q (rol q.flags.c) e h
  more_executed Ror p q e h = more_shifts q (ror q.flags.c) e h
  more_executed Bpl p q e h = more_branches q (not q.flags.n) e h
  more_executed Bmi p q e h = more_branches q q.flags.n e h
  more_executed Bvc p q e h = more_branches q (not q.flags.v) e h
  more_executed Bvs p q e h = more_branches q q.flags.v e h
  more_executed Bcc p q e h = more_branches q (not q.flags.c) e h
  more_executed Bcs p q e h = more_branches q q.flags.c e h
  more_executed Bne p q e h = more_branches q (not q.flags.z) e h
  more_executed Beq p q e h = more_branches q q.flags.z e h
  -- these are not plain
  more_executed Tsx p q e h = cc
  more_executed Txs p q e h = cc
  more_executed Jsr p q e h = cc
  more_executed Rts p q e h = cc
  more_executed Rti p q e h = cc
  more_executed Pha p q e h = cc
  more_executed Pla p q e h = cc
  more_executed Php p q e h = cc
  more_executed Plp p q e h = cc
  more_executed BrkM p q e h = cc
  -- the others touch registers alone
  more_executed _ p q e h = ap (moved_ok t) h

-- The length of a listing without names: at most 19 bytes for each byte that is listed.
use Rattle.std.proofs.Common.{◌≡◌, ℕ, zero, suc, ◌+◌, ◌-◌, ◌*◌, ◌<◌, ◌≤◌, Bool, true, false, List, [], ◌∷◌, ◌++◌}
use Rattle.std.proofs.Common.{length, drop, Option, Some, None, refl, ap, ◌∙◌, nat_lt, if◌then◌else◌, arith, length-append, length-drop}
use Rattle.tb_opcodes.specs.Opcodes.{decoded, length_of}
use Rattle.tb_opcodes.specs.declared.Mnemonic.{Mnemonic}
use Rattle.tb_opcodes.specs.declared.Mnemonic.TheVariants.{Adc, And, Asl, Bcc, Bcs, Beq, Bit, Bmi, Bne, Bpl, Brk, Bvc, Bvs, Clc, Cld, Cli, Clv, Cmp, Cpx, Cpy}
use Rattle.tb_opcodes.specs.declared.Mnemonic.TheVariants.{Dec, Dex, Dey, Eor, Inc, Inx, Iny, Jmp, Jsr, Lda, Ldx, Ldy, Lsr, Nop, Ora, Pha, Php, Pla, Plp, Rol}
use Rattle.tb_opcodes.specs.declared.Mnemonic.TheVariants.{Ror, Rti, Rts, Sbc, Sec, Sed, Sei, Sta, Stx, Sty, Tax, Tay, Tsx, Txa, Txs, Tya}
use Rattle.tb_opcodes.specs.declared.Mode.{Mode}
use Rattle.tb_opcodes.specs.declared.Mode.TheVariants.{Implied, Accumulator, Immediate, ZeroPage, ZeroPageX, ZeroPageY, IndirectX, IndirectY, Relative, Absolute, AbsoluteX, AbsoluteY, Indirect}
use Rattle.tb_asm.specs.Layout.{Entry, instr, bytes, size_of, number_in}
use Rattle.tb_asm.specs.Mnemonics.{name_of}
use Rattle.tb_disasm.specs.Listing.{operand_of, is_page_end, as_instruction, entry_at, listed, lines_of}
use Rattle.tb_disasm.specs.ListingText.{operand_text, address_text, line_text, text_of}
use Rattle.tb_disasm.proofs.Steps.{size_within}
use Rattle.tb_runtime16.specs.Addresses.{PROLOGUE_AT}

name_long : (n : Mnemonic) → length (name_of n) ≡ 3
name_long Adc = refl
name_long And = refl
name_long Asl = refl
name_long Bcc = refl
name_long Bcs = refl
name_long Beq = refl
name_long Bit = refl
name_long Bmi = refl
name_long Bne = refl
name_long Bpl = refl
name_long Brk = refl
name_long Bvc = refl
name_long Bvs = refl
name_long Clc = refl
name_long Cld = refl
name_long Cli = refl
name_long Clv = refl
name_long Cmp = refl
name_long Cpx = refl
name_long Cpy = refl
name_long Dec = refl
name_long Dex = refl
name_long Dey = refl
name_long Eor = refl
name_long Inc = refl
name_long Inx = refl
name_long Iny = refl
name_long Jmp = refl
name_long Jsr = refl
name_long Lda = refl
name_long Ldx = refl
name_long Ldy = refl
name_long Lsr = refl
name_long Nop = refl
name_long Ora = refl
name_long Pha = refl
name_long Php = refl
name_long Pla = refl
name_long Plp = refl
name_long Rol = refl
name_long Ror = refl
name_long Rti = refl
name_long Rts = refl
name_long Sbc = refl
name_long Sec = refl
name_long Sed = refl
name_long Sei = refl
name_long Sta = refl
name_long Stx = refl
name_long Sty = refl
name_long Tax = refl
name_long Tay = refl
name_long Tsx = refl
name_long Txa = refl
name_long Txs = refl
name_long Tya = refl

operand_short : (m : Mode) (v : ℕ) (rest : List ℕ) → length (operand_text m v rest) ≤ 8 + length rest
operand_short Implied v rest = omega arith
operand_short Accumulator v rest = omega arith
operand_short Immediate v rest = omega arith
operand_short ZeroPage v rest = omega arith
operand_short ZeroPageX v rest = omega arith
operand_short ZeroPageY v rest = omega arith
operand_short IndirectX v rest = omega arith
operand_short IndirectY v rest = omega arith
operand_short Relative v rest = omega arith
operand_short Absolute v rest = omega arith
operand_short AbsoluteX v rest = omega arith
operand_short AbsoluteY v rest = omega arith
operand_short Indirect v rest = omega arith

-- an item and its address
item_short : (a b : ℕ) (rest : List ℕ) → length (line_text a (entry_at a b rest)) ≤ 18
item_short a b rest = by (decoded b)
  where
    coded : (n : Mnemonic) (m : Mode) → length (line_text a (instr n m (operand_of m a rest))) ≤ 18
    coded n m =
        let whole = length-append (name_of n) (32 ∷ operand_text m (number_in [] (operand_of m a rest)) (address_text a)) in
        omega (arith, whole, name_long n, operand_short m (number_in [] (operand_of m a rest)) (address_text a))

    alone : length (line_text a (bytes (b ∷ []))) ≤ 18
    alone = omega arith

    rows : (n : Mnemonic) (m : Mode) (c p : Bool) → length (line_text a (if c then bytes (b ∷ []) else if p then bytes (b ∷ []) else instr n m (operand_of m a rest))) ≤ 18
    rows n m true p = alone
    rows n m false true = alone
    rows n m false false = coded n m

    by : (o : Option (Mnemonic × Mode)) → length (line_text a (as_instruction o a b rest)) ≤ 18
    by None = alone
    by (Some p) = rows p.0 p.1 (nat_lt (length rest + 1) (length_of p.1)) (is_page_end p.1 rest)

listed_short : (k a : ℕ) (bs : List ℕ) → length (text_of (listed k a bs)) ≤ 19 * length bs
listed_short zero a bs = omega arith
listed_short (suc k) a [] = omega arith
listed_short (suc k) a (b ∷ bs) =
    let e = entry_at a b bs in
    let more = listed k (a + size_of e) (drop (size_of e) (b ∷ bs)) in
    let w = size_within a b bs in
    let some : 0 < size_of e = w.0 in
    let within : size_of e ≤ length (b ∷ bs) = w.1 in
    let left : length (drop (size_of e) (b ∷ bs)) ≡ length (b ∷ bs) - size_of e = length-drop (size_of e) (b ∷ bs) in
    let here : length (line_text a e) ≤ 18 = item_short a b bs in
    let ended : length (line_text a e ++ 10 ∷ []) ≡ length (line_text a e) + 1 = length-append (line_text a e) (10 ∷ []) in
    let whole : length ((line_text a e ++ 10 ∷ []) ++ text_of more) ≡ length (line_text a e ++ 10 ∷ []) + length (text_of more) = length-append (line_text a e ++ 10 ∷ []) (text_of more) in
    let rest : length (text_of more) ≤ 19 * length (drop (size_of e) (b ∷ bs)) = listed_short k (a + size_of e) (drop (size_of e) (b ∷ bs)) in
    short (length (b ∷ bs)) (size_of e) (length (drop (size_of e) (b ∷ bs))) (length (text_of more)) (length (line_text a e ++ 10 ∷ [])) _ some within left (omega arith) rest whole
  where
    short : (n s m t l all : ℕ) → 0 < s → s ≤ n → m ≡ n - s → l ≤ 19 → t ≤ 19 * m → all ≡ l + t → all ≤ 19 * n
    short n s m t l all some within left line rest whole = omega arith

-- the listing of an image is a text that can be read
pub listing_readable : (at : ℕ) (text bs : List ℕ) (lines : List (ℕ × Entry)) → text ≡ text_of lines → lines ≡ lines_of at bs
    → PROLOGUE_AT + length bs ≤ 0xA000 → length text ≤ 1048576
listing_readable at text bs lines is are ends =
    let e : length text ≡ length (text_of (lines_of at bs)) = ap length (is ∙ ap text_of are) in
    let s : length (text_of (lines_of at bs)) ≤ 19 * length bs = listed_short (length bs) at bs in
    omega arith

-- The names of the mnemonics.
use Rattle.std.specs.Prelude.{ℕ, Bool, Option, Some, None, List, [], ◌∷◌, nat_eq, if◌then◌else◌, codes}
use lib.Pointwise.{pointwise}
use Rattle.tb_opcodes.specs.declared.Mnemonic.{Mnemonic}
use Rattle.tb_opcodes.specs.declared.Mnemonic.TheVariants.{Adc, And, Asl, Bcc, Bcs, Beq, Bit, Bmi, Bne, Bpl, Brk, Bvc, Bvs, Clc, Cld, Cli, Clv, Cmp, Cpx, Cpy}
use Rattle.tb_opcodes.specs.declared.Mnemonic.TheVariants.{Dec, Dex, Dey, Eor, Inc, Inx, Iny, Jmp, Jsr, Lda, Ldx, Ldy, Lsr, Nop, Ora, Pha, Php, Pla, Plp, Rol}
use Rattle.tb_opcodes.specs.declared.Mnemonic.TheVariants.{Ror, Rti, Rts, Sbc, Sec, Sed, Sei, Sta, Stx, Sty, Tax, Tay, Tsx, Txa, Txs, Tya}

-- the name of a mnemonic, three upper-case letters
abbrev pub name_of : Mnemonic → List ℕ
name_of Adc = codes "ADC"
name_of And = codes "AND"
name_of Asl = codes "ASL"
name_of Bcc = codes "BCC"
name_of Bcs = codes "BCS"
name_of Beq = codes "BEQ"
name_of Bit = codes "BIT"
name_of Bmi = codes "BMI"
name_of Bne = codes "BNE"
name_of Bpl = codes "BPL"
name_of Brk = codes "BRK"
name_of Bvc = codes "BVC"
name_of Bvs = codes "BVS"
name_of Clc = codes "CLC"
name_of Cld = codes "CLD"
name_of Cli = codes "CLI"
name_of Clv = codes "CLV"
name_of Cmp = codes "CMP"
name_of Cpx = codes "CPX"
name_of Cpy = codes "CPY"
name_of Dec = codes "DEC"
name_of Dex = codes "DEX"
name_of Dey = codes "DEY"
name_of Eor = codes "EOR"
name_of Inc = codes "INC"
name_of Inx = codes "INX"
name_of Iny = codes "INY"
name_of Jmp = codes "JMP"
name_of Jsr = codes "JSR"
name_of Lda = codes "LDA"
name_of Ldx = codes "LDX"
name_of Ldy = codes "LDY"
name_of Lsr = codes "LSR"
name_of Nop = codes "NOP"
name_of Ora = codes "ORA"
name_of Pha = codes "PHA"
name_of Php = codes "PHP"
name_of Pla = codes "PLA"
name_of Plp = codes "PLP"
name_of Rol = codes "ROL"
name_of Ror = codes "ROR"
name_of Rti = codes "RTI"
name_of Rts = codes "RTS"
name_of Sbc = codes "SBC"
name_of Sec = codes "SEC"
name_of Sed = codes "SED"
name_of Sei = codes "SEI"
name_of Sta = codes "STA"
name_of Stx = codes "STX"
name_of Sty = codes "STY"
name_of Tax = codes "TAX"
name_of Tay = codes "TAY"
name_of Tsx = codes "TSX"
name_of Txa = codes "TXA"
name_of Txs = codes "TXS"
name_of Tya = codes "TYA"

-- the 56 mnemonics, each once, in the order of their names
abbrev pub all_mnemonics : List Mnemonic
all_mnemonics = Adc ∷ And ∷ Asl ∷ Bcc ∷ Bcs ∷ Beq ∷ Bit ∷ Bmi ∷ Bne ∷ Bpl ∷ Brk ∷ Bvc ∷ Bvs ∷ Clc ∷ Cld ∷ Cli ∷ Clv ∷ Cmp ∷ Cpx ∷ Cpy ∷ Dec ∷ Dex
    ∷ Dey ∷ Eor ∷ Inc ∷ Inx ∷ Iny ∷ Jmp ∷ Jsr ∷ Lda ∷ Ldx ∷ Ldy ∷ Lsr ∷ Nop ∷ Ora ∷ Pha ∷ Php ∷ Pla ∷ Plp ∷ Rol ∷ Ror ∷ Rti ∷ Rts ∷ Sbc ∷ Sec ∷ Sed
    ∷ Sei ∷ Sta ∷ Stx ∷ Sty ∷ Tax ∷ Tay ∷ Tsx ∷ Txa ∷ Txs ∷ Tya ∷ []

-- whether two texts have the same bytes
abbrev pub same_text : List ℕ → List ℕ → Bool
same_text a b = pointwise nat_eq a b

-- the first of the mnemonics that has this name
abbrev pub find_mnemonic : List Mnemonic → List ℕ → Option Mnemonic
find_mnemonic [] w = None
find_mnemonic (n ∷ ns) w = if same_text (name_of n) w then Some n else find_mnemonic ns w

-- the mnemonic that letters in upper case spell, None if they spell none
abbrev pub mnemonic_of : List ℕ → Option Mnemonic
mnemonic_of w = find_mnemonic all_mnemonics w

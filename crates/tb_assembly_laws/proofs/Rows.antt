-- Worked rows: texts with the items that `tbc asm` and `tbc assemble` make of them.
use Rattle.std.specs.Prelude.{◌≡◌, ℕ, List, [], ◌∷◌, ◌++◌, Option, Some, Ok, refl, codes}
use Rattle.tb_opcodes.specs.Opcodes.{encoded}
use Rattle.tb_opcodes.specs.declared.Mnemonic.TheVariants.{Asl, Bne, Jmp, Lda, Nop, Rts, Sta}
use Rattle.tb_opcodes.specs.declared.Mode.TheVariants.{Implied, Accumulator, Immediate, ZeroPage, Relative, Absolute, Indirect}
use Rattle.tb_asm.specs.declared.items.Operand.TheVariants.{Nothing, Byte, Word, Label, HighOf}
use Rattle.tb_asm.specs.Names.{name_from}
use Rattle.tb_asm.specs.Layout.{Entry, instr, label, bytes, word}
use Rattle.tb_asm.specs.Text.{items_of_text}
use Rattle.tb_basic_text.specs.Lines.{lines_from}
use Rattle.tb_assembly_meaning.specs.Meaning.{items_of}
use Rattle.tb_assembly_files.specs.Expansion.{Course, expansion}
use Rattle.tb_assembly_laws.specs.Items.{all_shortened}
use Rattle.tb_assembly_laws.specs.Laws.{with_text}

-- the items of what was read, for an address
abbrev read_items : ℕ → Option Course → List Entry
read_items at (Some (Ok r)) = items_of at r.said
read_items at course = []

-- a text has these items for `tbc asm`, and these for `tbc assemble` at an address
abbrev Makes : ℕ → List ℕ → List Entry → List Entry → Type 0
Makes at text es made = (items_of_text text ≡ Ok es) × (read_items at (expansion (with_text [] text [])) ≡ made)

-- names become numbers, and a word its bytes
same : Makes 49152 (codes "Loop: lda #$05" ++ 10 ∷ codes " bne LOOP ; on" ++ 13 ∷ 10 ∷ codes ".byte $01 , $fF" ++ 10 ∷ codes "JMP(loop)" ++ 10 ∷ codes ".word loop")
    (label (name_from (codes "LOOP")) ∷ instr Lda Immediate (Byte 5) ∷ instr Bne Relative (Label (name_from (codes "LOOP"))) ∷ bytes (1 ∷ 255 ∷ [])
    ∷ instr Jmp Indirect (Label (name_from (codes "LOOP"))) ∷ word (Label (name_from (codes "LOOP"))) ∷ [])
    (instr Lda Immediate (Byte 5) ∷ instr Bne Relative (Word 49152) ∷ bytes (1 ∷ 255 ∷ []) ∷ instr Jmp Indirect (Word 49152) ∷ bytes (0 ∷ 192 ∷ []) ∷ [])
unfolding lines_from encoded
same = (refl, refl)

-- an address below 256 takes one byte where it is known
short : Makes 49152 (codes "LDA $0012") (instr Lda Absolute (Word 18) ∷ []) (instr Lda ZeroPage (Byte 18) ∷ [])
unfolding lines_from encoded
short = (refl, refl)

-- so does a label above
short_label : Makes 16 (codes "HERE:STA HERE") (label (name_from (codes "HERE")) ∷ instr Sta Absolute (Label (name_from (codes "HERE"))) ∷ []) (instr Sta ZeroPage (Byte 16) ∷ [])
unfolding lines_from encoded
short_label = (refl, refl)

-- which is the item of `tbc asm` with one byte for its address
shortened : all_shortened [] 16 (label (name_from (codes "HERE")) ∷ instr Sta Absolute (Label (name_from (codes "HERE"))) ∷ [])
    ≡ label (name_from (codes "HERE")) ∷ instr Sta ZeroPage (Byte 16) ∷ []
unfolding encoded
shortened = refl

-- but no label below, whose address is not known yet
long_label : Makes 16 (codes "STA HERE" ++ 10 ∷ codes "HERE:") (instr Sta Absolute (Label (name_from (codes "HERE"))) ∷ label (name_from (codes "HERE")) ∷ []) (instr Sta Absolute (Word 19) ∷ [])
unfolding lines_from encoded
long_label = (refl, refl)

-- a byte 13 alone ends a line, also in a comment
return : Makes 49152 (codes "RTS ; A" ++ 13 ∷ codes "NOP") (instr Rts Implied Nothing ∷ []) (instr Rts Implied Nothing ∷ instr Nop Implied Nothing ∷ [])
unfolding lines_from encoded
return = (refl, refl)

-- what `tbc asm` reads and refuses to assemble may have a meaning
alone : Makes 49152 (codes "ASL") (instr Asl Implied Nothing ∷ []) (instr Asl Accumulator Nothing ∷ [])
unfolding lines_from encoded
alone = (refl, refl)

-- words of instructions and registers are names
names : Makes 512 (codes "LDA:" ++ 10 ∷ codes "X:LDA #>LDA" ++ 10 ∷ codes "JMP X")
    (label (name_from (codes "LDA")) ∷ label (name_from (codes "X")) ∷ instr Lda Immediate (HighOf (name_from (codes "LDA"))) ∷ instr Jmp Absolute (Label (name_from (codes "X"))) ∷ [])
    (instr Lda Immediate (Byte 2) ∷ instr Jmp Absolute (Word 512) ∷ [])
unfolding lines_from encoded
names = (refl, refl)

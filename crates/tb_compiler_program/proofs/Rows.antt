-- Worked rows: the items of lines.
use Rattle.std.specs.Prelude.{◌≡◌, ℕ, true, List, [], ◌∷◌, ◌++◌, refl, false, Some, None}
use Rattle.tb_opcodes.specs.declared.Mnemonic.TheVariants.{Adc, Bcc, Bcs, Bmi, Bne, Bpl, Bvc, Clc, Cmp, Cpx, Eor, Dec, Inc, Jmp, Lda, Ldx, Ldy, Rts, Sbc, Sec, Sta, Stx, And, Asl, Rol, Ror, Tax, Tay, Txa, Tya, Beq, Ora}
use Rattle.tb_words.specs.declared.Rel.TheVariants.{Eq, Ge, Gt, Le, Lt, Ne}
use Rattle.tb_basic_syntax.specs.declared.expressions.Operator.TheVariants.{Add, Subtract, Divide, Multiply}
use Rattle.tb_basic_syntax.specs.Source.{Number, Variable, Negate, Random, Text, Value, Binary, Statement, Let, Print, If, Goto, Gosub, End}
use Rattle.tb_lower.specs.Lowered as lowered
use Rattle.tb_opcodes.specs.Opcodes as opcodes
use Rattle.tb_asm.specs.declared.items.Operand.TheVariants.{Word}
use Rattle.tb_asm.specs.Layout.{Entry, word}
use Rattle.tb_compiled_kept.specs.Addresses.{LEFT}
use Rattle.tb_runtime16.specs.Addresses.{DIVIDE_AT, RANDOM_AT, NUMBER_AT, PUSH_AT, SEND_AT, FAULT_LINE_AT}
use Rattle.tb_compiler_templates.specs.declared.labels.Inner.TheVariants.{Behind, Skip}
use Rattle.tb_compiler_templates.specs.declared.labels.Target.TheVariants.{Line, Inside, Polled}
use Rattle.tb_compiler_templates.specs.Templates.{at, const, alone, branch, here, call, address, find, jump_through}
use Rattle.tb_compiler_templates.specs.Scaled.{at_zero, is_factor, on_a, shifts_of}
use Rattle.tb_compiler_templates.specs.Masks.{mask_of}
use Rattle.tb_compiler_templates.specs.Reduced.{doublings_of, rounds}
use Rattle.tb_compiler_program.specs.Program.{line_code}

-- the items of a line of a program with the lines 10, 20 and 30
abbrev items : ℕ → Statement → List Entry
items n c = line_code (10 ∷ 20 ∷ 30 ∷ []) 1 (record { number = n; content = lowered.list_code c })

-- line n, which goes on, with its groups: what is done for the STOP key comes before them
abbrev going : ℕ → List Entry → List Entry
going n es =
    call 0xFFE4 ∷ const Cmp 3 ∷ branch Bne (Polled n)
    ∷ const Ldx n ∷ const Ldy 0 ∷ const Lda 0 ∷ at Jmp FAULT_LINE_AT ∷ here (Polled n) ∷ es

-- line n, which ends away, with its groups: what is done for the STOP key comes behind them
abbrev leaving : ℕ → List Entry → List Entry
leaving n es =
    call 0xFFE4 ∷ const Cmp 3 ∷ branch Beq (Polled n)
    ∷ (es ++ (here (Polled n) ∷ const Ldx n ∷ const Ldy 0 ∷ const Lda 0 ∷ at Jmp FAULT_LINE_AT ∷ []))

-- 10 LET A=B+1: the variables are at $C000 and $C002, the line's number at $C03A
sum : items 10 (Let 0 (Binary Add (Variable 1) (Number 1)))
    ≡ here (Line 10) ∷ going 10
    (alone Clc ∷ at Lda 0xC002 ∷ const Adc 1 ∷ at Sta 0xC000 ∷ at Lda 0xC003 ∷ const Adc 0 ∷ at Sta 0xC001 ∷ [])
sum = refl

-- 10 LET B=-A
negation : items 10 (Let 1 (Negate (Variable 0)))
    ≡ here (Line 10) ∷ going 10
    (alone Sec ∷ const Lda 0 ∷ at Sbc 0xC000 ∷ at Sta 0xC002 ∷ const Lda 0 ∷ at Sbc 0xC001 ∷ at Sta 0xC003 ∷ [])
negation = refl

-- 10 LET A=RND(6), which cannot fault and of which the first state is 1: the two go to $FB and $FD, the number is left at $C066
draw : items 10 (Let 0 (Random (Number 6)))
    ≡ here (Line 10) ∷ going 10
    (const Lda 1 ∷ at_zero Sta 0xFB ∷ const Lda 0 ∷ at_zero Sta 0xFC ∷ const Lda 6 ∷ at_zero Sta 0xFD ∷ const Lda 0 ∷ at_zero Sta 0xFE ∷ call RANDOM_AT
    ∷ at Lda 0xC066 ∷ at Sta 0xC000 ∷ at Lda 0xC067 ∷ at Sta 0xC001 ∷ [])
draw = refl

-- 20 GOSUB A: the line is searched for, and the return to line 30 put on the list
subroutine : items 20 (Gosub (Variable 0))
    ≡ here (Line 20) ∷ leaving 20
    (const Lda 20 ∷ at Sta 0xC03A ∷ const Lda 0 ∷ at Sta 0xC03B ∷ at Lda 0xC000 ∷ at Sta 0xC068 ∷ at Lda 0xC001 ∷ at Sta 0xC069 ∷ find
    ∷ (address (Line 30) LEFT ++ (call PUSH_AT ∷ jump_through)))
subroutine = refl

-- 20 IF A<B END: the line is left if A is not below B
test : items 20 (If (Variable 0) Lt (Variable 1) End)
    ≡ here (Line 20) ∷ leaving 20
    (at Lda 0xC000 ∷ at Cmp 0xC002 ∷ at Lda 0xC001 ∷ at Sbc 0xC003 ∷ branch Bvc (Inside Skip 20 1) ∷ const Eor 128 ∷ here (Inside Skip 20 1) ∷ branch Bpl (Line 30)
    ∷ alone Rts ∷ [])
test = refl

-- 20 IF A<B GOTO 10: straight to line 10 if A is below B, and else on into line 30
straight : items 20 (If (Variable 0) Lt (Variable 1) (Goto (Number 10)))
    ≡ here (Line 20) ∷ going 20
    (at Lda 0xC000 ∷ at Cmp 0xC002 ∷ at Lda 0xC001 ∷ at Sbc 0xC003 ∷ branch Bvc (Inside Skip 20 1) ∷ const Eor 128 ∷ here (Inside Skip 20 1) ∷ branch Bmi (Line 10) ∷ [])
straight = refl

-- 20 IF A=1 GOTO 40: there is no line 40, so it is the test and then fault 1
nowhere : items 20 (If (Variable 0) Eq (Number 1) (Goto (Number 40)))
    ≡ here (Line 20) ∷ going 20
    (at Lda 0xC000 ∷ const Cmp 1 ∷ branch Bne (Line 30) ∷ at Lda 0xC001 ∷ branch Bne (Line 30)
    ∷ const Ldx 20 ∷ const Ldy 0 ∷ const Lda 1 ∷ at Jmp FAULT_LINE_AT ∷ [])
nowhere = refl

-- 20 IF A<>0 GOTO 10: no byte is compared, since each load sets Z
none : items 20 (If (Variable 0) Ne (Number 0) (Goto (Number 10)))
    ≡ here (Line 20) ∷ going 20
    (at Lda 0xC000 ∷ branch Bne (Line 10) ∷ at Lda 0xC001 ∷ branch Bne (Line 10) ∷ [])
none = refl

-- 20 IF A<1000 END: the constant's high byte, 3, is 131 with its highest bit turned
below_constant : items 20 (If (Variable 0) Lt (Number 1000) End)
    ≡ here (Line 20) ∷ leaving 20
    (at Lda 0xC000 ∷ const Cmp 232 ∷ at Lda 0xC001 ∷ const Eor 128 ∷ const Sbc 131 ∷ branch Bcs (Line 30) ∷ alone Rts ∷ [])
below_constant = refl

-- 20 IF A>=1 GOTO 10: straight to line 10 if A is neither below 0 nor 0
from_constant : items 20 (If (Variable 0) Ge (Number 1) (Goto (Number 10)))
    ≡ here (Line 20) ∷ going 20
    (at Lda 0xC001 ∷ branch Bmi (Inside Skip 20 1) ∷ at Ora 0xC000 ∷ branch Bne (Line 10) ∷ here (Inside Skip 20 1) ∷ [])
from_constant = refl

-- 20 IF A>-1 END: A is not below 0, and so its sign is enough
above_constant : items 20 (If (Variable 0) Gt (Number 65535) End)
    ≡ here (Line 20) ∷ leaving 20
    (at Lda 0xC001 ∷ branch Bmi (Line 30) ∷ alone Rts ∷ [])
above_constant = refl

-- 20 IF A<=255 GOTO 10: A is below 256
up_to_constant : items 20 (If (Variable 0) Le (Number 255) (Goto (Number 10)))
    ≡ here (Line 20) ∷ going 20
    (at Lda 0xC001 ∷ const Eor 128 ∷ const Cmp 129 ∷ branch Bcc (Line 10) ∷ [])
up_to_constant = refl

-- 20 IF 0<A END: on to line 30 if A is below 0 or 0
constant_before : items 20 (If (Number 0) Lt (Variable 0) End)
    ≡ here (Line 20) ∷ leaving 20
    (at Lda 0xC001 ∷ branch Bmi (Line 30) ∷ at Ora 0xC000 ∷ branch Beq (Line 30) ∷ alone Rts ∷ [])
constant_before = refl

-- 20 IF -2>=A GOTO 10: A is below -1
constant_after : items 20 (If (Number 65534) Ge (Variable 0) (Goto (Number 10)))
    ≡ here (Line 20) ∷ going 20
    (at Lda 0xC000 ∷ const Cmp 255 ∷ at Lda 0xC001 ∷ const Eor 128 ∷ const Sbc 127 ∷ branch Bcc (Line 10) ∷ [])
constant_after = refl

-- 20 IF A<32767 END
below_greatest : items 20 (If (Variable 0) Lt (Number 32767) End)
    ≡ here (Line 20) ∷ leaving 20
    (at Lda 0xC000 ∷ const Cmp 255 ∷ at Lda 0xC001 ∷ const Eor 128 ∷ const Sbc 255 ∷ branch Bcs (Line 30) ∷ alone Rts ∷ [])
below_greatest = refl

-- 20 IF A>32767 END: there is no greater word to compare with
above_greatest : items 20 (If (Variable 0) Gt (Number 32767) End)
    ≡ here (Line 20) ∷ leaving 20
    (const Lda 255 ∷ at Cmp 0xC000 ∷ const Lda 127 ∷ at Sbc 0xC001 ∷ branch Bvc (Inside Skip 20 1) ∷ const Eor 128 ∷ here (Inside Skip 20 1) ∷ branch Bpl (Line 30)
    ∷ alone Rts ∷ [])
above_greatest = refl

-- 20 IF A>=-32768 END
from_least : items 20 (If (Variable 0) Ge (Number 32768) End)
    ≡ here (Line 20) ∷ leaving 20
    (at Lda 0xC001 ∷ const Eor 128 ∷ const Cmp 0 ∷ branch Bcc (Line 30) ∷ alone Rts ∷ [])
from_least = refl

-- 20 IF A>-32768 END: A is not below -32767
above_least : items 20 (If (Variable 0) Gt (Number 32768) End)
    ≡ here (Line 20) ∷ leaving 20
    (at Lda 0xC000 ∷ const Cmp 1 ∷ at Lda 0xC001 ∷ const Eor 128 ∷ const Sbc 0 ∷ branch Bcc (Line 30) ∷ alone Rts ∷ [])
above_least = refl

-- 20 IF A>=0 GOTO 10
by_sign : items 20 (If (Variable 0) Ge (Number 0) (Goto (Number 10)))
    ≡ here (Line 20) ∷ going 20
    (at Lda 0xC001 ∷ branch Bpl (Line 10) ∷ [])
by_sign = refl

-- 30 PRINT A/B: the operands go to $FB and $FD, the quotient is left at $FB, slot 0 is at $C040
quotient : items 30 (Print (Value (Binary Divide (Variable 0) (Variable 1)) ∷ []) true)
    ≡ here (Line 30) ∷ going 30
    (const Lda 30 ∷ at Sta 0xC03A ∷ const Lda 0 ∷ at Sta 0xC03B
    ∷ at Lda 0xC000 ∷ at_zero Sta 0xFB ∷ at Lda 0xC001 ∷ at_zero Sta 0xFC ∷ at Lda 0xC002 ∷ at_zero Sta 0xFD ∷ at Lda 0xC003 ∷ at_zero Sta 0xFE ∷ call DIVIDE_AT
    ∷ at_zero Lda 0xFB ∷ at Sta 0xC040 ∷ at_zero Lda 0xFC ∷ at Sta 0xC041
    ∷ at Lda 0xC040 ∷ at_zero Sta 0xFB ∷ at Lda 0xC041 ∷ at_zero Sta 0xFC ∷ call NUMBER_AT ∷ const Lda 0 ∷ at Sta 0xC034 ∷ const Lda 13 ∷ call 0xFFD2 ∷ [])
quotient = refl

-- 10 PRINT: the column is 0 after a 13, which goes to the service that sends bytes
newline : items 10 (Print [] true)
    ≡ here (Line 10) ∷ going 10
    (const Lda 0 ∷ at Sta 0xC034 ∷ const Lda 13 ∷ call 0xFFD2 ∷ [])
newline = refl

-- 10 LET A=B/2: a negative word is raised by one first, and then shifted
half : items 10 (Let 0 (Binary Divide (Variable 1) (Number 2)))
    ≡ here (Line 10) ∷ going 10
    (at Lda 0xC003 ∷ const Cmp 128 ∷ at Lda 0xC002 ∷ const Adc 0 ∷ at_zero Sta 0xFB ∷ at Lda 0xC003 ∷ const Adc 0
    ∷ const Cmp 128 ∷ on_a Ror ∷ at_zero Ror 0xFB ∷ at Sta 0xC001 ∷ at_zero Lda 0xFB ∷ at Sta 0xC000 ∷ [])
half = refl

-- 10 LET A=B/4: by three, and two shifts
quarter : items 10 (Let 0 (Binary Divide (Variable 1) (Number 4)))
    ≡ here (Line 10) ∷ going 10
    (at Lda 0xC003 ∷ const Cmp 128 ∷ const Lda 0 ∷ const Adc 255 ∷ const And 2 ∷ const Eor 2 ∷ at Adc 0xC002 ∷ at_zero Sta 0xFB ∷ at Lda 0xC003 ∷ const Adc 0
    ∷ const Cmp 128 ∷ on_a Ror ∷ at_zero Ror 0xFB ∷ const Cmp 128 ∷ on_a Ror ∷ at_zero Ror 0xFB ∷ at Sta 0xC001 ∷ at_zero Lda 0xFB ∷ at Sta 0xC000 ∷ [])
quarter = refl

-- 10 LET A=B/128: by 127, and the quotient is the upper byte of twice that, with its sign
by_128 : items 10 (Let 0 (Binary Divide (Variable 1) (Number 128)))
    ≡ here (Line 10) ∷ going 10
    (at Lda 0xC003 ∷ const Cmp 128 ∷ const Lda 0 ∷ const Adc 255 ∷ const And 126 ∷ const Eor 126 ∷ at Adc 0xC002 ∷ at_zero Sta 0xFB ∷ at Lda 0xC003 ∷ const Adc 0
    ∷ at_zero Asl 0xFB ∷ on_a Rol ∷ at Sta 0xC000 ∷ const Lda 0 ∷ const Adc 255 ∷ const Eor 255 ∷ at Sta 0xC001 ∷ [])
by_128 = refl

-- 10 LET A=B/256: by 255, and the quotient is the upper byte, with its sign
by_256 : items 10 (Let 0 (Binary Divide (Variable 1) (Number 256)))
    ≡ here (Line 10) ∷ going 10
    (at Lda 0xC003 ∷ const Cmp 128 ∷ const Lda 0 ∷ const Adc 255 ∷ const And 254 ∷ const Eor 254 ∷ at Adc 0xC002 ∷ at_zero Sta 0xFB ∷ at Lda 0xC003 ∷ const Adc 0
    ∷ const Cmp 128 ∷ at Sta 0xC000 ∷ const Lda 0 ∷ const Adc 255 ∷ const Eor 255 ∷ at Sta 0xC001 ∷ [])
by_256 = refl

-- 10 LET A=B+C+1: the sum goes to A, which is one more there
stepped : items 10 (Let 0 (Binary Add (Binary Add (Variable 1) (Variable 2)) (Number 1)))
    ≡ here (Line 10) ∷ going 10
    (alone Clc ∷ at Lda 0xC002 ∷ at Adc 0xC004 ∷ at Sta 0xC000 ∷ at Lda 0xC003 ∷ at Adc 0xC005 ∷ at Sta 0xC001
    ∷ at Inc 0xC000 ∷ branch Bne (Inside Behind 10 1) ∷ at Inc 0xC001 ∷ here (Inside Behind 10 1) ∷ [])
stepped = refl

-- 10 LET A=B-B/1025*1025: the remainder's size is left at $C066, and is negated if B is below 0
remainder : items 10 (Let 0 (Binary Subtract (Variable 1) (Binary Multiply (Binary Divide (Variable 1) (Number 1025)) (Number 1025))))
    ≡ here (Line 10) ∷ going 10
    (at Lda 0xC002 ∷ at_zero Sta 0xFB ∷ at Lda 0xC003 ∷ at_zero Sta 0xFC ∷ const Lda 1 ∷ at_zero Sta 0xFD ∷ const Lda 4 ∷ at_zero Sta 0xFE ∷ call DIVIDE_AT
    ∷ at Lda 0xC003 ∷ branch Bpl (Inside Skip 10 1) ∷ alone Sec ∷ const Lda 0 ∷ at Sbc 0xC066 ∷ at Sta 0xC066 ∷ const Lda 0 ∷ at Sbc 0xC067 ∷ at Sta 0xC067
    ∷ here (Inside Skip 10 1) ∷ at Lda 0xC066 ∷ at Sta 0xC000 ∷ at Lda 0xC067 ∷ at Sta 0xC001 ∷ [])
remainder = refl

-- 10 LET A=B-B/4*4: the two lowest bits of B; if B is below 0, 3 is added to them, of which what 4 divides falls away, and 3 is taken
masked_remainder : items 10 (Let 0 (Binary Subtract (Variable 1) (Binary Multiply (Binary Divide (Variable 1) (Number 4)) (Number 4))))
    ≡ here (Line 10) ∷ going 10
    (at Lda 0xC002 ∷ const And 3 ∷ const Ldx 0 ∷ at Ldy 0xC003 ∷ branch Bpl (Inside Skip 10 1) ∷ alone Clc ∷ const Adc 3 ∷ const And 3 ∷ alone Sec ∷ const Sbc 3
    ∷ alone Tay ∷ const Lda 0 ∷ const Sbc 0 ∷ alone Tax ∷ alone Tya ∷ here (Inside Skip 10 1) ∷ at Sta 0xC000 ∷ at Stx 0xC001 ∷ [])
masked_remainder = refl

-- which divisors are taken away by multiples, and how often they are doubled to come above 512
doubled : (doublings_of 2 ≡ None) × (doublings_of 3 ≡ Some 8) × (doublings_of 4 ≡ None) × (doublings_of 10 ≡ Some 6) × (doublings_of 511 ≡ Some 1)
    × (doublings_of 512 ≡ None) × (doublings_of 1023 ≡ Some 0) × (doublings_of 1024 ≡ None)
doubled = (refl, refl, refl, refl, refl, refl, refl, refl)

-- the word in A and X is negated
below_none : List Entry
below_none = const Eor 255 ∷ alone Clc ∷ const Adc 1 ∷ alone Tay ∷ alone Txa ∷ const Eor 255 ∷ const Adc 0 ∷ alone Tax ∷ alone Tya ∷ []

-- a multiple with this high and this low byte is taken away
away : (high low : ℕ) → List Entry
away high low =
    const Cpx high ∷ word (Word 0x0E90) ∷ word (Word 0x04D0) ∷ const Cmp low ∷ word (Word 0x0890) ∷ const Sbc low ∷ alone Tay ∷ alone Txa ∷ const Sbc high
    ∷ alone Tax ∷ alone Tya ∷ []

-- 10 LET A=B-B/700*700: 22400, 11200, 5600, 2800, 1400 and 700 are taken away; a byte goes past that
multiples : items 10 (Let 0 (Binary Subtract (Variable 1) (Binary Multiply (Binary Divide (Variable 1) (Number 700)) (Number 700))))
    ≡ here (Line 10) ∷ going 10
    (at Lda 0xC002 ∷ at Ldx 0xC003 ∷ word (Word 0x7BF0) ∷ word (Word 0x0D10) ∷ (below_none ++ (away 87 128 ++ (away 43 192 ++ (away 21 224 ++ (away 10 240
    ++ (away 5 120 ++ (away 2 188 ++ (at Ldy 0xC003 ∷ word (Word 0x0D10) ∷ (below_none ++ (at Sta 0xC000 ∷ at Stx 0xC001 ∷ [])))))))))))
unfolding below_none away opcodes.encoded
multiples = refl

-- the last three rounds for a divisor of 50: for 200, which may have a high byte above it, and for 100 and 50
bytes : rounds 3 50 ≡ away 0 200 ++ (const Cmp 100 ∷ word (Word 0x0290) ∷ const Sbc 100 ∷ const Cmp 50 ∷ word (Word 0x0290) ∷ const Sbc 50 ∷ [])
unfolding away opcodes.encoded
bytes = refl

-- 10 LET A=B-B/C*C: the line's number; then, if both are bytes and C is not 0, up to four differences, or else the call
differences : items 10 (Let 0 (Binary Subtract (Variable 1) (Binary Multiply (Binary Divide (Variable 1) (Variable 2)) (Variable 2))))
    ≡ here (Line 10) ∷ going 10
    (const Lda 10 ∷ at Sta 0xC03A ∷ const Lda 0 ∷ at Sta 0xC03B
    ∷ at Lda 0xC003 ∷ at Ora 0xC005 ∷ word (Word 0x37D0) ∷ at Ldx 0xC004 ∷ word (Word 0x32F0) ∷ at Lda 0xC002
    ∷ at Cmp 0xC004 ∷ word (Word 0x2090) ∷ at Sbc 0xC004 ∷ at Cmp 0xC004 ∷ word (Word 0x1890) ∷ at Sbc 0xC004
    ∷ at Cmp 0xC004 ∷ word (Word 0x1090) ∷ at Sbc 0xC004 ∷ at Cmp 0xC004 ∷ word (Word 0x0890) ∷ at Sbc 0xC004
    ∷ at Cmp 0xC004 ∷ word (Word 0x0AB0) ∷ at Sta 0xC066 ∷ const Lda 0 ∷ at Sta 0xC067 ∷ word (Word 0x17F0)
    ∷ at Lda 0xC002 ∷ at_zero Sta 0xFB ∷ at Lda 0xC003 ∷ at_zero Sta 0xFC ∷ at Lda 0xC004 ∷ at_zero Sta 0xFD ∷ at Lda 0xC005 ∷ at_zero Sta 0xFE ∷ call DIVIDE_AT
    ∷ at Lda 0xC003 ∷ branch Bpl (Inside Skip 10 1) ∷ alone Sec ∷ const Lda 0 ∷ at Sbc 0xC066 ∷ at Sta 0xC066 ∷ const Lda 0 ∷ at Sbc 0xC067 ∷ at Sta 0xC067
    ∷ here (Inside Skip 10 1) ∷ at Lda 0xC066 ∷ at Sta 0xC000 ∷ at Lda 0xC067 ∷ at Sta 0xC001 ∷ [])
unfolding opcodes.encoded
differences = refl

-- 10 PRINT "*";: a byte alone is sent in line
one_byte : items 10 (Print (Text (42 ∷ []) ∷ []) false) ≡ here (Line 10) ∷ going 10 (const Lda 42 ∷ call SEND_AT ∷ [])
one_byte = refl

-- 20 IF A=A/2*2 GOTO 10: the multiple may be on the right too
even : items 20 (If (Variable 0) Eq (Binary Multiply (Binary Divide (Variable 0) (Number 2)) (Number 2)) (Goto (Number 10)))
    ≡ here (Line 20) ∷ going 20
    (at Lda 0xC000 ∷ const And 1 ∷ branch Beq (Line 10) ∷ [])
even = refl

-- 10 LET A=A+1: one more in place
increment : items 10 (Let 0 (Binary Add (Variable 0) (Number 1)))
    ≡ here (Line 10) ∷ going 10
    (at Inc 0xC000 ∷ branch Bne (Inside Skip 10 1) ∷ at Inc 0xC001 ∷ here (Inside Skip 10 1) ∷ [])
increment = refl

-- 10 LET B=B-1: one less
decrement : items 10 (Let 1 (Binary Subtract (Variable 1) (Number 1)))
    ≡ here (Line 10) ∷ going 10
    (at Lda 0xC002 ∷ branch Bne (Inside Skip 10 1) ∷ at Dec 0xC003 ∷ here (Inside Skip 10 1) ∷ at Dec 0xC002 ∷ [])
decrement = refl

-- 10 LET A=7+A: the high byte changes with the carry alone
raise : items 10 (Let 0 (Binary Add (Number 7) (Variable 0)))
    ≡ here (Line 10) ∷ going 10
    (alone Clc ∷ at Lda 0xC000 ∷ const Adc 7 ∷ at Sta 0xC000 ∷ branch Bcc (Inside Skip 10 1) ∷ at Inc 0xC001 ∷ here (Inside Skip 10 1) ∷ [])
raise = refl

-- 10 LET A=A+65281: 255 less
lower : items 10 (Let 0 (Binary Add (Variable 0) (Number 65281)))
    ≡ here (Line 10) ∷ going 10
    (alone Sec ∷ at Lda 0xC000 ∷ const Sbc 255 ∷ at Sta 0xC000 ∷ branch Bcs (Inside Skip 10 1) ∷ at Dec 0xC001 ∷ here (Inside Skip 10 1) ∷ [])
lower = refl

-- 10 LET A=A/2: a negative word is one more first
half_in_place : items 10 (Let 0 (Binary Divide (Variable 0) (Number 2)))
    ≡ here (Line 10) ∷ going 10
    (at Lda 0xC001 ∷ on_a Asl ∷ branch Bcc (Inside Skip 10 1) ∷ at Lda 0xC000 ∷ const Adc 0 ∷ at Sta 0xC000 ∷ at Lda 0xC001 ∷ const Adc 0 ∷ at Sta 0xC001 ∷ on_a Asl
    ∷ here (Inside Skip 10 1) ∷ at Ror 0xC001 ∷ at Ror 0xC000 ∷ [])
half_in_place = refl

-- 10 LET A=2*A
double : items 10 (Let 0 (Binary Multiply (Number 2) (Variable 0)))
    ≡ here (Line 10) ∷ going 10
    (at Asl 0xC000 ∷ at Rol 0xC001 ∷ [])
double = refl

-- 20 IF A/4*4=A GOTO 10: straight to line 10 if the two lowest bits are 0
by_four : items 20 (If (Binary Multiply (Binary Divide (Variable 0) (Number 4)) (Number 4)) Eq (Variable 0) (Goto (Number 10)))
    ≡ here (Line 20) ∷ going 20
    (at Lda 0xC000 ∷ const And 3 ∷ branch Beq (Line 10) ∷ [])
by_four = refl

-- 20 IF A/B*B<>A END: one division, which sets its line, and on to line 30 if its remainder is 0
divided : items 20 (If (Binary Multiply (Binary Divide (Variable 0) (Variable 1)) (Variable 1)) Ne (Variable 0) End)
    ≡ here (Line 20) ∷ leaving 20
    (const Lda 20 ∷ at Sta 0xC03A ∷ const Lda 0 ∷ at Sta 0xC03B
    ∷ at Lda 0xC000 ∷ at_zero Sta 0xFB ∷ at Lda 0xC001 ∷ at_zero Sta 0xFC ∷ at Lda 0xC002 ∷ at_zero Sta 0xFD ∷ at Lda 0xC003 ∷ at_zero Sta 0xFE ∷ call DIVIDE_AT
    ∷ at Lda 0xC066 ∷ at Ora 0xC067 ∷ branch Beq (Line 30) ∷ alone Rts ∷ [])
divided = refl

-- the divisors 2 to 256 that are powers of two are tested by bits; 1, 3 and 512 are not
masks : (mask_of 1 ≡ None) × (mask_of 2 ≡ Some 1) × (mask_of 3 ≡ None) × (mask_of 256 ≡ Some 255) × (mask_of 512 ≡ None)
masks = (refl, refl, refl, refl, refl)

-- 10 LET A=3*A: twice A and A, in place
thrice : items 10 (Let 0 (Binary Multiply (Number 3) (Variable 0)))
    ≡ here (Line 10) ∷ going 10
    (at Lda 0xC001 ∷ at_zero Sta 0xFB ∷ at Lda 0xC000 ∷ on_a Asl ∷ at_zero Rol 0xFB
    ∷ alone Clc ∷ at Adc 0xC000 ∷ alone Tax ∷ at_zero Lda 0xFB ∷ at Adc 0xC001 ∷ at_zero Sta 0xFB ∷ alone Txa ∷ at Sta 0xC000 ∷ at_zero Lda 0xFB ∷ at Sta 0xC001 ∷ [])
thrice = refl

-- the divisors 2 to 256 are shifts; 1 and 512 are not
powers : (shifts_of 1 ≡ None) × (shifts_of 2 ≡ Some 0) × (shifts_of 3 ≡ None) × (shifts_of 64 ≡ Some 5) × (shifts_of 128 ≡ Some 6) × (shifts_of 256 ≡ Some 7) × (shifts_of 512 ≡ None)
powers = (refl, refl, refl, refl, refl, refl, refl)

-- factors: 0 and 1 are not worth it, 15 has three bits that are 1 below its highest one, and 31 has one too many
factors : (is_factor 0 ≡ false) × (is_factor 1 ≡ false) × (is_factor 2 ≡ true) × (is_factor 15 ≡ true) × (is_factor 31 ≡ false) × (is_factor 32768 ≡ true)
factors = (refl, refl, refl, refl, refl, refl)

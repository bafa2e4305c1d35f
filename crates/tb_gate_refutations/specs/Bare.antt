-- Wrong images of a few instructions.
use Rattle.std.specs.Prelude.{ℕ, List, [], ◌∷◌}
use Rattle.tb_basic_meaning.specs.Control.{fault_text}

-- code after the BASIC line, which is 10 SYS2061
abbrev pub image : List ℕ → List ℕ
image code = 0x0b ∷ 0x08 ∷ 0x0a ∷ 0x00 ∷ 0x9e ∷ 0x32 ∷ 0x30 ∷ 0x36 ∷ 0x31 ∷ 0x00 ∷ 0x00 ∷ 0x00 ∷ code

-- LDA #b, JSR CHROUT for each byte, then RTS
abbrev pub sending : List ℕ → List ℕ
sending [] = 0x60 ∷ []
sending (b ∷ bs) = 0xa9 ∷ b ∷ 0x20 ∷ 0xd2 ∷ 0xff ∷ sending bs

-- CLD, the bytes sent, RTS
abbrev pub sends : List ℕ → List ℕ
sends bytes = image (0xd8 ∷ sending bytes)

-- RTS with no CLD before it
abbrev pub returns_in_decimal_mode : List ℕ
returns_in_decimal_mode = image (0x60 ∷ [])

-- CLD, JMP to itself
abbrev pub stands_still : List ℕ
stands_still = image (0xd8 ∷ 0x4c ∷ 0x0e ∷ 0x08 ∷ [])

-- CLD, LDA $C000, CLC, ADC #'0', JSR CHROUT, RTS: a digit whose variable was never cleared
abbrev pub sends_uncleared_variable : List ℕ
sends_uncleared_variable = image (0xd8 ∷ 0xad ∷ 0x00 ∷ 0xc0 ∷ 0x18 ∷ 0x69 ∷ 0x30 ∷ 0x20 ∷ 0xd2 ∷ 0xff ∷ 0x60 ∷ [])

-- CLD, LDX #2, LDA #'A', JSR CHROUT, DEX, BNE back to the LDA, RTS: a count in X, which CHROUT changes
abbrev pub counts_in_x : List ℕ
counts_in_x = image (0xd8 ∷ 0xa2 ∷ 0x02 ∷ 0xa9 ∷ 65 ∷ 0x20 ∷ 0xd2 ∷ 0xff ∷ 0xca ∷ 0xd0 ∷ 0xf8 ∷ 0x60 ∷ [])

-- CLD, LDA #'A', PHA, PLA, TSX, LDA $0100,X, JSR CHROUT, RTS: a byte below S, which an interrupt may change
abbrev pub keeps_below_s : List ℕ
keeps_below_s = image (0xd8 ∷ 0xa9 ∷ 65 ∷ 0x48 ∷ 0x68 ∷ 0xba ∷ 0xbd ∷ 0x00 ∷ 0x01 ∷ 0x20 ∷ 0xd2 ∷ 0xff ∷ 0x60 ∷ [])

-- CLD, LDA #'A', STA $02, LDA $02, JSR CHROUT, RTS: a byte of the ROM's own, which an interrupt may change
abbrev pub keeps_in_rom_work : List ℕ
keeps_in_rom_work = image (0xd8 ∷ 0xa9 ∷ 65 ∷ 0x85 ∷ 0x02 ∷ 0xa5 ∷ 0x02 ∷ 0x20 ∷ 0xd2 ∷ 0xff ∷ 0x60 ∷ [])

-- CLD, the fault's text with no item before it, RTS
abbrev pub faults_before_it_sends : List ℕ
faults_before_it_sends = sends (fault_text 2 10)

-- CLD, the text of a fault in line 20, RTS
abbrev pub faults_in_line_20 : List ℕ
faults_in_line_20 = sends (fault_text 2 20)

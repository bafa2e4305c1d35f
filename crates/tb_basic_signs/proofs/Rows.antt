-- Worked rows: characters, whole texts, and names that were probably meant.
use Rattle.std.specs.Prelude.{◌≡◌, ℕ, List, [], ◌∷◌, codes, Some, None, length, refl}
use Rattle.tb_basic_signs.specs.Characters.{character, character_at, repeated}
use Rattle.tb_basic_signs.specs.Texts.{bytes_of, text_of}

-- a whole text is one character: a byte, so many times
abbrev Is : List ℕ → ℕ → ℕ → Type 0
Is text times byte = character_at text ≡ Some (character (length text) (repeated times byte))

-- a text begins with no character
abbrev IsNone : List ℕ → Type 0
IsNone text = character_at text ≡ None

-- ── names ──
name_blk : Is (codes "{blk}") 1 144
name_blk = refl

name_wht : Is (codes "{wht}") 1 5
name_wht = refl

name_red : Is (codes "{red}") 1 28
name_red = refl

name_cyn : Is (codes "{cyn}") 1 159
name_cyn = refl

name_pur : Is (codes "{pur}") 1 156
name_pur = refl

name_grn : Is (codes "{grn}") 1 30
name_grn = refl

name_blu : Is (codes "{blu}") 1 31
name_blu = refl

name_yel : Is (codes "{yel}") 1 158
name_yel = refl

name_orng : Is (codes "{orng}") 1 129
name_orng = refl

name_brn : Is (codes "{brn}") 1 149
name_brn = refl

name_lred : Is (codes "{lred}") 1 150
name_lred = refl

name_gry1 : Is (codes "{gry1}") 1 151
name_gry1 = refl

name_gry2 : Is (codes "{gry2}") 1 152
name_gry2 = refl

name_lgrn : Is (codes "{lgrn}") 1 153
name_lgrn = refl

name_lblu : Is (codes "{lblu}") 1 154
name_lblu = refl

name_gry3 : Is (codes "{gry3}") 1 155
name_gry3 = refl

name_clr : Is (codes "{clr}") 1 147
name_clr = refl

name_home : Is (codes "{home}") 1 19
name_home = refl

name_down : Is (codes "{down}") 1 17
name_down = refl

name_up : Is (codes "{up}") 1 145
name_up = refl

name_left : Is (codes "{left}") 1 157
name_left = refl

name_rght : Is (codes "{rght}") 1 29
name_rght = refl

name_rvon : Is (codes "{rvon}") 1 18
name_rvon = refl

name_rvof : Is (codes "{rvof}") 1 146
name_rvof = refl

name_swlc : Is (codes "{swlc}") 1 14
name_swlc = refl

name_swuc : Is (codes "{swuc}") 1 142
name_swuc = refl

name_del : Is (codes "{del}") 1 20
name_del = refl

name_inst : Is (codes "{inst}") 1 148
name_inst = refl

capitals : Is (codes "{CLR}") 1 147
capitals = refl

both_cases : Is (codes "{GrY1}") 1 151
both_cases = refl

-- ── counts ──
three_times : Is (codes "{3 down}") 3 17
three_times = refl

most_times : Is (codes "{255 RGHT}") 255 29
most_times = refl

leading_zeros : Is (codes "{0007 up}") 7 145
leading_zeros = refl

once : Is (codes "{1 clr}") 1 147
once = refl

no_times : IsNone (codes "{0 down}")
no_times = refl

too_often : IsNone (codes "{256 down}")
too_often = refl

far_too_often : IsNone (codes "{99999999999999999999 down}")
far_too_often = refl

without_a_space : IsNone (codes "{3down}")
without_a_space = refl

two_spaces : IsNone (codes "{3  down}")
two_spaces = refl

without_a_count : IsNone (codes "{ down}")
without_a_count = refl

count_alone : IsNone (codes "{3}")
count_alone = refl

count_of_digits : IsNone (codes "{3 41}")
count_of_digits = refl

space_at_the_end : IsNone (codes "{clr }")
space_at_the_end = refl

-- ── hexadecimal digits ──
lowest : Is (codes "{00}") 1 0
lowest = refl

highest : Is (codes "{FF}") 1 255
highest = refl

small_digits : Is (codes "{c1}") 1 193
small_digits = refl

mixed_digits : Is (codes "{1d}") 1 29
mixed_digits = refl

small_letter : Is (codes "{61}") 1 97
small_letter = refl

brace : Is (codes "{7B}") 1 123
brace = refl

quote : IsNone (codes "{22}")
quote = refl

new_line : IsNone (codes "{0D}")
new_line = refl

new_line_small : IsNone (codes "{0d}")
new_line_small = refl

one_digit : IsNone (codes "{1}")
one_digit = refl

three_digits : IsNone (codes "{041}")
three_digits = refl

no_digit : IsNone (codes "{1G}")
no_digit = refl

-- ── what is no sign ──
nothing_inside : IsNone (codes "{}")
nothing_inside = refl

unknown : IsNone (codes "{cls}")
unknown = refl

never_closed : IsNone (codes "{clr")
never_closed = refl

brace_alone : IsNone (codes "{")
brace_alone = refl

closing_brace : IsNone (codes "}")
closing_brace = refl

brace_inside : IsNone (codes "{{clr}")
brace_inside = refl

-- ── plain bytes ──
space : Is (32 ∷ []) 1 32
space = refl

letter : Is (codes "a") 1 65
letter = refl

last_letter : Is (codes "z") 1 90
last_letter = refl

bracket : Is (91 ∷ []) 1 91
bracket = refl

closing_bracket : Is (93 ∷ []) 1 93
closing_bracket = refl

backslash : IsNone (92 ∷ [])
backslash = refl

caret : IsNone (94 ∷ [])
caret = refl

below_space : IsNone (31 ∷ [])
below_space = refl

above_z : IsNone (124 ∷ [])
above_z = refl

text_ends : IsNone (34 ∷ [])
text_ends = refl

empty : IsNone []
empty = refl

-- ── what follows a character ──
sign_before_a_text : character_at (codes "{clr}HELLO}") ≡ Some (character 5 (repeated 1 147))
sign_before_a_text = refl

letter_before_a_text : character_at (codes "clr}") ≡ Some (character 1 (repeated 1 67))
letter_before_a_text = refl

-- ── whole texts ──
read : bytes_of (codes "{clr}Hi [{2 down}{c1}]") ≡ Some (147 ∷ 72 ∷ 73 ∷ 32 ∷ 91 ∷ 17 ∷ 17 ∷ 193 ∷ 93 ∷ [])
read = refl

not_read : bytes_of (codes "HI{") ≡ None
not_read = refl

written_back : text_of (147 ∷ 72 ∷ 105 ∷ 32 ∷ 91 ∷ 193 ∷ 92 ∷ 93 ∷ 0 ∷ []) ≡ Some (codes "{clr}H{69} [{C1}{5C}]{00}")
written_back = refl

not_written : text_of (72 ∷ 34 ∷ []) ≡ None
not_written = refl

nor_a_new_line : text_of (13 ∷ []) ≡ None
nor_a_new_line = refl

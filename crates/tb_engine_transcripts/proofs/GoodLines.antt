-- The lines of a text that is written are those that it is read as.
use Rattle.std.proofs.Common.{◌≡◌, ◌<◌, ◌≤◌, ◌^◌, ◌∙◌, ◌==◌, ◌&&◌, ◌||◌, ℕ, Bool, true, false, not, List, [], ◌∷◌, ◌++◌, Option, Some, None, map, refl, ap, arith, append_assoc}
use Rattle.std.specs.Fmt.{decimal}
use Rattle.std.specs.List.{list_all}
use Rattle.std.specs.Prelude.{flat_map, nat_le}
use Rattle.std.proofs.lemmas.Bool.{and_from, and_parts, leb-true, ne_eqb}
use Rattle.std.proofs.lemmas.List.Folds.{list_all-append}
use Rattle.tb_basic_text.specs.Lines.{lines_from, lines_of_file, longer}
use Rattle.tb_engine_transcripts.specs.Contents.{are_writable, is_in_range, is_sent, is_typed, is_writable, is_writable_end, is_writable_turn, Content}
use Rattle.tb_engine_transcripts.specs.Marks.{is_digit}
use Rattle.tb_engine_transcripts.specs.Writing.{end_line, ended, flag_lines, last_lines, lines_of, marked, needs_escape, number_lines, option_lines, output_lines, pieces, sent_lines, turn_lines}
use Rattle.tb_engine_transcripts.specs.Writing as writing
use Rattle.tb_engine_transcripts.specs.declared.marks.TheConstants.{TYPED}
use Rattle.tb_engine_transcripts.specs.declared.options.TheConstants as word
use Rattle.tb_engine_transcripts.specs.declared.transcript.RunEnd.{RunEnd}
use Rattle.tb_engine_transcripts.specs.declared.transcript.RunEnd.TheVariants.{Fault, Returned, Runs, Waits}
use Rattle.tb_engine_transcripts.specs.declared.transcript.RunOptions.{RunOptions}
use Rattle.tb_engine_transcripts.proofs.Decimals.{all_digits}

-- ---- lines

-- a byte of a line: no 10 and no 13
abbrev is_inner : ℕ → Bool
is_inner b = not ((b == 10) || (b == 13))

-- such a byte ends no line
inner_byte : (b : ℕ) → is_inner b ≡ true → ((b == 10) ≡ false) × ((b == 13) ≡ false)
inner_byte b = by (b == 10) (b == 13)
  where
    by : (ten thirteen : Bool) → not (ten || thirteen) ≡ true → (ten ≡ false) × (thirteen ≡ false)
    by false false e = (refl, refl)
    by false true e = absurd cc
    by true thirteen e = absurd cc

-- a line with its end is the first line
first_line : (line rest : List ℕ) → is_typed line ≡ true → lines_from false (line ++ 10 ∷ rest) ≡ line ∷ lines_from false rest
unfolding lines_from
first_line [] rest ok = refl
first_line (b ∷ line) rest ok =
    let parts = and_parts (is_inner b) (is_typed line) ok in
    let inner = inner_byte b parts.0 in
    rw (inner.0, inner.1) (ap (longer b) (first_line line rest parts.1))

-- lines with their ends are those lines
pub lines_read : (lines : List (List ℕ)) → list_all is_typed lines ≡ true → lines_of_file (flat_map ended lines) ≡ lines
unfolding lines_from
lines_read [] ok = refl
lines_read (line ∷ lines) ok =
    let parts = and_parts (is_typed line) (list_all is_typed lines) ok in
    ap (lines_from false) (append_assoc line (10 ∷ []) (flat_map ended lines))
    ∙ first_line line (flat_map ended lines) parts.0 ∙ ap (λ l. line ∷ l) (lines_read lines parts.1)

-- ---- bytes

-- two texts without ends of lines, one behind the other
both_typed : (xs ys : List ℕ) → is_typed xs ≡ true → is_typed ys ≡ true → is_typed (xs ++ ys) ≡ true
both_typed xs ys a b = list_all-append is_inner xs ys ∙ and_from (is_typed xs) (is_typed ys) a b

-- lines behind lines
both_lines : (xs ys : List (List ℕ)) → list_all is_typed xs ≡ true → list_all is_typed ys ≡ true → list_all is_typed (xs ++ ys) ≡ true
both_lines xs ys a b = list_all-append is_typed xs ys ∙ and_from (list_all is_typed xs) (list_all is_typed ys) a b

-- a line
one_line : (line : List ℕ) → is_typed line ≡ true → list_all is_typed (line ∷ []) ≡ true
one_line line ok = and_from (is_typed line) true ok refl

-- digits end no line
typed_digits : (ds : List ℕ) → list_all is_digit ds ≡ true → is_typed ds ≡ true
typed_digits [] all = refl
typed_digits (d ∷ ds) all =
    let parts = and_parts (is_digit d) (list_all is_digit ds) all in
    let low = leb-true 48 d (and_parts (nat_le 48 d) (nat_le d 57) parts.0).0 in
    rw (ne_eqb d 10 (λ e. omega (arith, low, e)), ne_eqb d 13 (λ e. omega (arith, low, e))) (typed_digits ds parts.1)

-- a number's text
typed_number : (n most : ℕ) → n ≤ most → most < 2 ^ 64 → is_typed (decimal n) ≡ true
typed_number n most le small = typed_digits (decimal n) (all_digits n (omega (arith, le, small)))

-- ---- the header

-- the line of a number
number_good : (name : List ℕ) (least most : ℕ) (n : Option ℕ) → most < 2 ^ 64 → is_typed name ≡ true → is_in_range least most n ≡ true
    → list_all is_typed (number_lines name n) ≡ true
number_good name least most None small ok range = refl
number_good name least most (Some n) small ok range =
    let le = leb-true n most (and_parts (nat_le least n) (nat_le n most) range).1 in
    one_line (35 ∷ 32 ∷ name ++ decimal n) (both_typed (35 ∷ 32 ∷ name) (decimal n) ok (typed_number n most le small))

-- the line of an option
flag_good : (name : List ℕ) (asked : Bool) → is_typed name ≡ true → list_all is_typed (flag_lines name asked) ≡ true
flag_good name false ok = refl
flag_good name true ok = one_line (35 ∷ 32 ∷ name) ok

-- the lines of options
options_good : (o : RunOptions) → are_writable o ≡ true → list_all is_typed (option_lines o) ≡ true
options_good o ok =
    let both = and_parts (is_in_range 0 65535 o.seed && is_in_range 1 1000000000 o.limit) (is_in_range 0 65535 o.rude) ok in
    let first = and_parts (is_in_range 0 65535 o.seed) (is_in_range 1 1000000000 o.limit) both.0 in
    let a = number_lines word.SEED.now o.seed in
    let b = flag_lines word.FIT.now o.fits in
    let c = flag_lines word.PETSCII.now o.signs in
    let d = number_lines word.LIMIT.now o.limit in
    let f = number_lines word.RUDE.now o.rude in
    both_lines (a ++ b ++ c ++ d) f
    (both_lines (a ++ b ++ c) d
    (both_lines (a ++ b) c
    (both_lines a b (number_good word.SEED.now 0 65535 o.seed (omega arith) refl first.0) (flag_good word.FIT.now o.fits refl))
    (flag_good word.PETSCII.now o.signs refl))
    (number_good word.LIMIT.now 1 1000000000 o.limit (omega arith) refl first.1))
    (number_good word.RUDE.now 0 65535 o.rude (omega arith) refl both.1)

-- the line of an end
end_good : (e : RunEnd) → is_writable_end e ≡ true → is_typed (end_line e) ≡ true
end_good Returned ok = refl
end_good Waits ok = refl
end_good Runs ok = refl
end_good (Fault code line) ok =
    let parts = and_parts (nat_le code 255) (nat_le line 65535) ok in
    both_typed (35 ∷ 32 ∷ word.FAULT.now ++ decimal code ++ word.AT.now) (decimal line)
    (both_typed (35 ∷ 32 ∷ word.FAULT.now ++ decimal code) word.AT.now
    (both_typed (35 ∷ 32 ∷ word.FAULT.now) (decimal code) refl (typed_number code 255 (leb-true code 255 parts.0) (omega arith)))
    refl)
    (typed_number line 65535 (leb-true line 65535 parts.1) (omega arith))

-- ---- the output

-- a line that was sent, as it is written
marked_good : (p : List ℕ) → is_typed p ≡ true → is_typed (marked p) ≡ true
marked_good p ok = by (needs_escape p) refl
  where
    by : (needs : Bool) → needs_escape p ≡ needs → is_typed (marked p) ≡ true
    by true e = rw e ok
    by false e = rw e ok

-- all of them
all_marked_good : (ps : List (List ℕ)) → list_all is_typed ps ≡ true → list_all is_typed (map marked ps) ≡ true
all_marked_good [] ok = refl
all_marked_good (p ∷ ps) ok =
    let parts = and_parts (is_typed p) (list_all is_typed ps) ok in
    and_from (is_typed (marked p)) (list_all is_typed (map marked ps)) (marked_good p parts.0) (all_marked_good ps parts.1)

-- one more byte at the front of the first piece
longer_good : (b : ℕ) (ps : List (List ℕ)) → is_inner b ≡ true → list_all is_typed ps ≡ true → list_all is_typed (writing.longer b ps) ≡ true
longer_good b [] inner ok = one_line (b ∷ []) (and_from (is_inner b) true inner refl)
longer_good b (p ∷ ps) inner ok =
    let parts = and_parts (is_typed p) (list_all is_typed ps) ok in
    and_from (is_typed (b ∷ p)) (list_all is_typed ps) (and_from (is_inner b) (is_typed p) inner parts.0) parts.1

-- the pieces of what was sent
pieces_good : (s : List ℕ) → is_sent s ≡ true → list_all is_typed (pieces s) ≡ true
unfolding pieces
pieces_good [] ok = refl
pieces_good (b ∷ s) ok =
    let parts = and_parts (not (b == 13)) (is_sent s) ok in
    by (b == 10) refl parts.0 (pieces_good s parts.1)
  where
    by : (ten : Bool) → (b == 10) ≡ ten → not (b == 13) ≡ true → list_all is_typed (pieces s) ≡ true → list_all is_typed (pieces (b ∷ s)) ≡ true
    by true e other ok = rw e ok
    by false e other ok = rw e (longer_good b (pieces s) (rw e other) ok)

-- the lines of a turn
turn_good : (s typed : List ℕ) → is_sent s ≡ true → is_typed typed ≡ true → list_all is_typed (turn_lines (s, typed)) ≡ true
turn_good [] typed sent ok = one_line (62 ∷ 32 ∷ typed) ok
turn_good (b ∷ s) typed sent ok =
    both_lines (map marked (pieces (b ∷ s))) ((TYPED.now ++ typed) ∷ []) (all_marked_good (pieces (b ∷ s)) (pieces_good (b ∷ s) sent)) (one_line (62 ∷ 32 ∷ typed) ok)

-- the lines of turns
turns_good : (turns : List (List ℕ × List ℕ)) → list_all is_writable_turn turns ≡ true → list_all is_typed (flat_map turn_lines turns) ≡ true
turns_good [] ok = refl
turns_good (t ∷ turns) ok =
    let parts = and_parts (is_writable_turn t) (list_all is_writable_turn turns) ok in
    let turn = and_parts (is_sent t.0) (is_typed t.1) parts.0 in
    both_lines (turn_lines t) (flat_map turn_lines turns) (turn_good t.0 t.1 turn.0 turn.1) (turns_good turns parts.1)

-- the lines of what was sent last
last_good : (ps : List (List ℕ)) → list_all is_typed ps ≡ true → list_all is_typed (last_lines ps) ≡ true
last_good [] ok = refl
last_good ([] ∷ []) ok = refl
last_good ((b ∷ p) ∷ []) ok =
    let parts = and_parts (is_typed (b ∷ p)) true ok in
    and_from (is_typed (marked (b ∷ p))) true (marked_good (b ∷ p) parts.0) refl
last_good (p ∷ q ∷ ps) ok =
    let parts = and_parts (is_typed p) (list_all is_typed (q ∷ ps)) ok in
    and_from (is_typed (marked p)) (list_all is_typed (last_lines (q ∷ ps))) (marked_good p parts.0) (last_good (q ∷ ps) parts.1)

-- what is asked of a transcript, part by part
pub parts_of : (c : Content) → is_writable c ≡ true
    → (are_writable c.options ≡ true) × (is_writable_end c.end ≡ true) × (list_all is_writable_turn c.turns ≡ true) × (is_sent c.last ≡ true)
parts_of c ok =
    let lasts = and_parts (are_writable c.options && is_writable_end c.end && list_all is_writable_turn c.turns) (is_sent c.last) ok in
    let turns = and_parts (are_writable c.options && is_writable_end c.end) (list_all is_writable_turn c.turns) lasts.0 in
    let ends = and_parts (are_writable c.options) (is_writable_end c.end) turns.0 in
    (ends.0, ends.1, turns.1, lasts.1)

-- all lines of a transcript that can come of a run
pub all_good : (c : Content) → is_writable c ≡ true → list_all is_typed (lines_of c) ≡ true
all_good c ok =
    let parts = parts_of c ok in
    let output = both_lines (flat_map turn_lines c.turns) (last_lines (pieces c.last)) (turns_good c.turns parts.2) (last_good (pieces c.last) (pieces_good c.last parts.3)) in
    both_lines (option_lines c.options) (end_line c.end ∷ output_lines c) (options_good c.options parts.0)
    (and_from (is_typed (end_line c.end)) (list_all is_typed (output_lines c)) (end_good c.end parts.1) output)

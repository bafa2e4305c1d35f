-- A transcript that is read can come of a run.
use Rattle.std.proofs.Common.{◌≡◌, ◌+◌, ◌-◌, ◌*◌, ◌∙◌, ◌==◌, ◌&&◌, ◌||◌, ℕ, zero, suc, Bool, true, false, not, List, [], ◌∷◌, ◌++◌, Option, Some, None, Result, Ok, Err, take, drop, length, unwrap_or, refl, sym, ap, arith, if◌then◌else◌}
use Rattle.std.specs.List.{list_all}
use Rattle.std.specs.Option.{is_some, option_and_then, ok_or}
use Rattle.std.specs.Prelude.{nat_le}
use Rattle.std.specs.Str.{bytes_eq}
use Rattle.std.proofs.lemmas.Bool.{and_from, and_parts, le-leb, ne_eqb}
use Rattle.std.proofs.lemmas.List.Folds.{list_all-append}
use Rattle.tb_basic_text.specs.Lines.{lines_from, lines_of_file, longer}
use Rattle.tb_engine_transcripts.specs.Contents.{are_writable, is_in_range, is_sent, is_typed, is_writable, is_writable_end, is_writable_turn, Content, IsWritable}
use Rattle.tb_engine_transcripts.specs.Header as head
use Rattle.tb_engine_transcripts.specs.Header.{header, nothing, or_below, with_asked, with_read, Start}
use Rattle.tb_engine_transcripts.specs.Marks.{behind, is_digit, number, number_from}
use Rattle.tb_engine_transcripts.specs.Options.{asked_by, fault_by, fault_or, limit_by, limit_or, line_of, plain, plain_or, rude_by, rude_or, seed_by, seed_or, space_at}
use Rattle.tb_engine_transcripts.specs.Reading.{begun, below, ends_open, from_header, or_bad, or_other, or_sent, read, unescaped, whole, with_line, with_sent, with_typed, without_end, State}
use Rattle.tb_engine_transcripts.specs.declared.header.Header.{Header}
use Rattle.tb_engine_transcripts.specs.declared.marks.TheConstants.{ESCAPE, OPTION, TYPED}
use Rattle.tb_engine_transcripts.specs.declared.options.Asked.{Asked}
use Rattle.tb_engine_transcripts.specs.declared.options.Asked.TheVariants.{End, Fit, Limit, Petscii, Rude, Seed}
use Rattle.tb_engine_transcripts.specs.declared.options.TheConstants as word
use Rattle.tb_engine_transcripts.specs.declared.reasons.BadLine.{BadLine}
use Rattle.tb_engine_transcripts.specs.declared.reasons.Reason.{Reason}
use Rattle.tb_engine_transcripts.specs.declared.reasons.Reason.TheVariants.{Twice}
use Rattle.tb_engine_transcripts.specs.declared.transcript.RunEnd.{RunEnd}
use Rattle.tb_engine_transcripts.specs.declared.transcript.RunEnd.TheVariants.{Returned, Runs, Waits}
use Rattle.tb_engine_transcripts.specs.declared.transcript.RunOptions.{RunOptions}

-- ---- results

-- what holds on both ways holds
on_both : {A : Type 0} (good : A → Bool) (c : Bool) (a b : A) → good a ≡ true → good b ≡ true → good (if c then a else b) ≡ true
on_both good true a b x y = x
on_both good false a b x y = y

-- what is there is good
abbrev if_some : {A : Type 0} → (A → Bool) → Option A → Bool
if_some good None = true
if_some good (Some a) = good a

-- what was read is good
abbrev if_ok : {A E : Type 0} → (A → Bool) → Result A E → Bool
if_ok good (Ok a) = good a
if_ok good (Err e) = true

-- ---- lines

-- a byte that ends no line
abbrev is_inner : ℕ → Bool
is_inner b = not ((b == 10) || (b == 13))

-- one more such byte at the front of the first line
longer_typed : (b : ℕ) (lines : List (List ℕ)) → is_inner b ≡ true → list_all is_typed lines ≡ true → list_all is_typed (longer b lines) ≡ true
longer_typed b [] inner ok = and_from (is_typed (b ∷ [])) true (and_from (is_inner b) true inner refl) refl
longer_typed b (line ∷ lines) inner ok =
    let parts = and_parts (is_typed line) (list_all is_typed lines) ok in
    and_from (is_typed (b ∷ line)) (list_all is_typed lines) (and_from (is_inner b) (is_typed line) inner parts.0) parts.1

-- the lines of a text have no ends in them
lines_typed : (behind_13 : Bool) (text : List ℕ) → list_all is_typed (lines_from behind_13 text) ≡ true
unfolding lines_from
lines_typed behind_13 [] = refl
lines_typed behind_13 (b ∷ text) = by behind_13 (b == 10) (b == 13) refl refl (lines_typed false text) (lines_typed true text)
  where
    by : (behind_13 ten thirteen : Bool) → (b == 10) ≡ ten → (b == 13) ≡ thirteen → list_all is_typed (lines_from false text) ≡ true
        → list_all is_typed (lines_from true text) ≡ true → list_all is_typed (lines_from behind_13 (b ∷ text)) ≡ true
    by true true thirteen e f rest more = rw e rest
    by false true thirteen e f rest more = rw e rest
    by behind_13 false true e f rest more = rw (e, f) more
    by behind_13 false false e f rest more = rw (e, f) (longer_typed b (lines_from false text) (rw (e, f) refl) rest)

-- what follows a word has no ends of lines either
behind_typed : (word text : List ℕ) → is_typed text ≡ true → if_some is_typed (behind word text) ≡ true
behind_typed [] text ok = ok
behind_typed (letter ∷ letters) [] ok = refl
behind_typed (letter ∷ letters) (b ∷ text) ok =
    let parts = and_parts (is_inner b) (is_typed text) ok in
    on_both (if_some is_typed) (b == letter) (behind letters text) None (behind_typed letters text parts.1) refl

-- a byte that ends no line is not 13
inner_sent : (b : ℕ) → is_inner b ≡ true → not (b == 13) ≡ true
inner_sent b ok = by (b == 10) (b == 13) ok
  where
    by : (ten thirteen : Bool) → not (ten || thirteen) ≡ true → not thirteen ≡ true
    by false thirteen e = e
    by true thirteen e = absurd cc

-- what has no ends of lines may have been sent
typed_sent : (text : List ℕ) → is_typed text ≡ true → is_sent text ≡ true
typed_sent [] ok = refl
typed_sent (b ∷ text) ok =
    let parts = and_parts (is_inner b) (is_typed text) ok in
    and_from (not (b == 13)) (is_sent text) (inner_sent b parts.0) (typed_sent text parts.1)

-- ---- numbers

-- digits that are read are at most this
digits_within : (most begun : ℕ) (digits : List ℕ) → nat_le begun most ≡ true → if_some (λ n. nat_le n most) (number_from most begun digits) ≡ true
digits_within most begun [] ok = ok
digits_within most begun (b ∷ digits) ok =
    by (is_digit b) (nat_le (10 * begun + (b - 48)) most) refl refl (λ few. digits_within most (10 * begun + (b - 48)) digits few)
  where
    by : (digit few : Bool) → is_digit b ≡ digit → nat_le (10 * begun + (b - 48)) most ≡ few
        → (nat_le (10 * begun + (b - 48)) most ≡ true → if_some (λ n. nat_le n most) (number_from most (10 * begun + (b - 48)) digits) ≡ true)
        → if_some (λ n. nat_le n most) (number_from most begun (b ∷ digits)) ≡ true
    by true true d e later = rw (d, e) (later e)
    by true false d e later = rw (d, e) refl
    by false few d e later = rw d refl

-- and so is a number
number_within : (most : ℕ) (text : List ℕ) → if_some (λ n. nat_le n most) (number most text) ≡ true
number_within most [] = refl
number_within most (b ∷ []) = digits_within most 0 (b ∷ []) (le-leb 0 most (omega arith))
number_within most (b ∷ c ∷ digits) =
    on_both (if_some (λ n. nat_le n most)) (b == 48) None (number_from most 0 (b ∷ c ∷ digits)) refl
    (digits_within most 0 (b ∷ c ∷ digits) (le-leb 0 most (omega arith)))

-- ---- what lines of the header ask for

-- what can be asked for
abbrev is_good : Asked → Bool
is_good (Seed n) = is_in_range 0 65535 (Some n)
is_good Fit = true
is_good Petscii = true
is_good (Limit n) = is_in_range 1 1000000000 (Some n)
is_good (Rude n) = is_in_range 0 65535 (Some n)
is_good (End e) = is_writable_end e

-- a seed
seed_good : (n : Option ℕ) → if_some (λ n. nat_le n 65535) n ≡ true → if_ok is_good (seed_by n) ≡ true
seed_good None few = refl
seed_good (Some n) few = and_from (nat_le 0 n) (nat_le n 65535) (le-leb 0 n (omega arith)) few

-- a limit
limit_good : (n : Option ℕ) → if_some (λ n. nat_le n 1000000000) n ≡ true → if_ok is_good (limit_by n) ≡ true
limit_good None few = refl
limit_good (Some zero) few = refl
limit_good (Some (suc n)) few = rw (ne_eqb (suc n) 0 (λ e. cc)) (and_from (nat_le 1 (suc n)) (nat_le (suc n) 1000000000) (le-leb 1 (suc n) (omega arith)) few)

-- a seed of the ROM
rude_good : (n : Option ℕ) → if_some (λ n. nat_le n 65535) n ≡ true → if_ok is_good (rude_by n) ≡ true
rude_good None few = refl
rude_good (Some n) few = and_from (nat_le 0 n) (nat_le n 65535) (le-leb 0 n (omega arith)) few

-- a fault
fault_good : (code line : Option ℕ) → if_some (λ n. nat_le n 255) code ≡ true → if_some (λ n. nat_le n 65535) line ≡ true
    → if_ok is_good (fault_by code line) ≡ true
fault_good None line few_codes few_lines = refl
fault_good (Some code) None few_codes few_lines = refl
fault_good (Some code) (Some line) few_codes few_lines = and_from (nat_le code 255) (nat_le line 65535) few_codes few_lines

-- the line of a fault
line_within : (text : Option (List ℕ)) → if_some (λ n. nat_le n 65535) (option_and_then (number word.MOST_WORD) text) ≡ true
line_within None = refl
line_within (Some text) = number_within 65535 text

-- what stands behind `fault `
fault_or_good : (text : Option (List ℕ)) → if_ok is_good (fault_or text) ≡ true
fault_or_good None = refl
fault_or_good (Some text) =
    fault_good (number 255 (take (space_at text) text)) (line_of (drop (space_at text) text))
    (number_within 255 (take (space_at text) text)) (line_within (behind word.AT.now (drop (space_at text) text)))

-- what a text with `rude ` or `fault ` asks for is good
rude_or_good : (digits : Option (List ℕ)) (text : List ℕ) → if_ok is_good (rude_or digits text) ≡ true
rude_or_good None text = fault_or_good (behind word.FAULT.now text)
rude_or_good (Some digits) text = rude_good (number 65535 digits) (number_within 65535 digits)

-- what a text with `limit `, `rude ` or `fault ` asks for is good
limit_or_good : (digits : Option (List ℕ)) (text : List ℕ) → if_ok is_good (limit_or digits text) ≡ true
limit_or_good None text = rude_or_good (behind word.RUDE.now text) text
limit_or_good (Some digits) text = limit_good (number 1000000000 digits) (number_within 1000000000 digits)

-- what a text with `seed `, `limit `, `rude ` or `fault ` asks for is good
seed_or_good : (digits : Option (List ℕ)) (text : List ℕ) → if_ok is_good (seed_or digits text) ≡ true
seed_or_good None text = limit_or_good (behind word.LIMIT.now text) text
seed_or_good (Some digits) text = seed_good (number 65535 digits) (number_within 65535 digits)

-- what a text without a number asks for
plain_good : (text : List ℕ) → if_some is_good (plain text) ≡ true
plain_good text = by (bytes_eq text word.FIT.now) (bytes_eq text word.PETSCII.now) (bytes_eq text word.ENDS.now) (bytes_eq text word.WAITS.now) (bytes_eq text word.RUNS.now)
  where
    by : (fit petscii ends waits runs : Bool)
        → if_some is_good (if fit then Some Fit else if petscii then Some Petscii else if ends then Some (End Returned) else if waits then Some (End Waits) else if runs then Some (End Runs) else None) ≡ true
    by true petscii ends waits runs = refl
    by false true ends waits runs = refl
    by false false true waits runs = refl
    by false false false true runs = refl
    by false false false false true = refl
    by false false false false false = refl

-- or else one with a number
plain_or_good : (asked : Option Asked) (text : List ℕ) → if_some is_good asked ≡ true → if_ok is_good (plain_or asked text) ≡ true
plain_or_good None text ok = seed_or_good (behind word.SEED.now text) text
plain_or_good (Some asked) text ok = ok

-- ---- the header

-- what a header that can be written asks for
abbrev is_good_header : Header → Bool
is_good_header h = are_writable h.options && if_some is_writable_end h.end

-- other options with the same end
abbrev is_good_with : RunOptions → Option RunEnd → Bool
is_good_with o e = are_writable o && if_some is_writable_end e

-- a header, part by part
header_parts : (h : Header) → is_good_header h ≡ true
    → (is_in_range 0 65535 h.options.seed ≡ true) × (is_in_range 1 1000000000 h.options.limit ≡ true) × (is_in_range 0 65535 h.options.rude ≡ true) × (if_some is_writable_end h.end ≡ true)
header_parts h ok =
    let whole = and_parts (are_writable h.options) (if_some is_writable_end h.end) ok in
    let both = and_parts (is_in_range 0 65535 h.options.seed && is_in_range 1 1000000000 h.options.limit) (is_in_range 0 65535 h.options.rude) whole.0 in
    let first = and_parts (is_in_range 0 65535 h.options.seed) (is_in_range 1 1000000000 h.options.limit) both.0 in
    (first.0, first.1, both.1, whole.1)

-- a header by its parts
header_from : (seed limit rude : Option ℕ) (e : Option RunEnd) → is_in_range 0 65535 seed ≡ true → is_in_range 1 1000000000 limit ≡ true → is_in_range 0 65535 rude ≡ true
    → if_some is_writable_end e ≡ true
    → ((is_in_range 0 65535 seed && is_in_range 1 1000000000 limit && is_in_range 0 65535 rude) && if_some is_writable_end e) ≡ true
header_from seed limit rude e a b c d =
    and_from (is_in_range 0 65535 seed && is_in_range 1 1000000000 limit && is_in_range 0 65535 rude) (if_some is_writable_end e)
    (and_from (is_in_range 0 65535 seed && is_in_range 1 1000000000 limit) (is_in_range 0 65535 rude)
    (and_from (is_in_range 0 65535 seed) (is_in_range 1 1000000000 limit) a b) c) d

-- with what a line asks for
with_asked_good : (h : Header) (asked : Asked) → is_good_header h ≡ true → is_good asked ≡ true → if_some is_good_header (with_asked h asked) ≡ true
with_asked_good h (Seed n) ok good =
    let p = header_parts h ok in
    on_both (if_some is_good_header) (is_some h.options.seed) None (Some (record (h) { options = record (h.options) { seed = Some n } })) refl
    (header_from (Some n) h.options.limit h.options.rude h.end good p.1 p.2 p.3)
with_asked_good h Fit ok good =
    on_both (if_some is_good_header) h.options.fits None (Some (record (h) { options = record (h.options) { fits = true } })) refl ok
with_asked_good h Petscii ok good =
    on_both (if_some is_good_header) h.options.signs None (Some (record (h) { options = record (h.options) { signs = true } })) refl ok
with_asked_good h (Limit n) ok good =
    let p = header_parts h ok in
    on_both (if_some is_good_header) (is_some h.options.limit) None (Some (record (h) { options = record (h.options) { limit = Some n } })) refl
    (header_from h.options.seed (Some n) h.options.rude h.end p.0 good p.2 p.3)
with_asked_good h (Rude n) ok good =
    let p = header_parts h ok in
    on_both (if_some is_good_header) (is_some h.options.rude) None (Some (record (h) { options = record (h.options) { rude = Some n } })) refl
    (header_from h.options.seed h.options.limit (Some n) h.end p.0 p.1 good p.3)
with_asked_good h (End e) ok good =
    let p = header_parts h ok in
    on_both (if_some is_good_header) (is_some h.end) None (Some (record (h) { end = Some e })) refl
    (header_from h.options.seed h.options.limit h.options.rude (Some e) p.0 p.1 p.2 good)

-- what is there, or else a reason
some_good : (h : Option Header) → if_some is_good_header h ≡ true → if_ok is_good_header (ok_or h Twice) ≡ true
some_good None ok = refl
some_good (Some h) ok = ok

-- with what was read
with_read_good : (h : Header) (asked : Result Asked Reason) → is_good_header h ≡ true → if_ok is_good asked ≡ true → if_ok is_good_header (with_read h asked) ≡ true
with_read_good h (Ok asked) ok good = some_good (with_asked h asked) (with_asked_good h asked ok good)
with_read_good h (Err why) ok good = refl

-- a header that can be written, with lines below it
abbrev is_good_start : Start → Bool
is_good_start b = is_good_header b.0 && list_all is_typed b.2

-- what follows a line of the header
next_good : (n : ℕ) (next : Header → Result Start BadLine) (r : Result Header Reason)
    → ((h : Header) → is_good_header h ≡ true → if_ok is_good_start (next h) ≡ true) → if_ok is_good_header r ≡ true
    → if_ok is_good_start (head.or_bad n next r) ≡ true
next_good n next (Ok h) later ok = later h ok
next_good n next (Err why) later ok = refl

-- the header or what stands below it
either_good : (next : List ℕ → Result Start BadLine) (others : Result Start BadLine) (text : Option (List ℕ))
    → ((t : List ℕ) → if_ok is_good_start (next t) ≡ true) → if_ok is_good_start others ≡ true → if_ok is_good_start (or_below next others text) ≡ true
either_good next others (Some text) later ok = later text
either_good next others None later ok = ok

-- a header
header_good : (n : ℕ) (h : Header) (lines : List (List ℕ)) → is_good_header h ≡ true → list_all is_typed lines ≡ true → if_ok is_good_start (header n h lines) ≡ true
header_good n h [] ok typed = and_from (is_good_header h) true ok refl
header_good n h (line ∷ lines) ok typed =
    let parts = and_parts (is_typed line) (list_all is_typed lines) typed in
    either_good (λ text. head.or_bad n (λ more. header (n + 1) more lines) (head.with_line h text)) (Ok (h, n, line ∷ lines)) (behind OPTION.now line)
    (λ text.
    next_good n (λ more. header (n + 1) more lines) (head.with_line h text) (λ more good. header_good (n + 1) more lines good parts.1)
    (with_read_good h (asked_by text) ok (plain_or_good (plain text) text (plain_good text))))
    (and_from (is_good_header h) (list_all is_typed (line ∷ lines)) ok typed)

-- ---- below the header

-- turns and what was sent since that can be written
abbrev is_good_state : State → Bool
is_good_state s = list_all is_writable_turn s.0 && is_sent s.1

-- the beginning of what was sent
take_sent : (n : ℕ) (text : List ℕ) → is_sent text ≡ true → is_sent (take n text) ≡ true
take_sent zero text ok = refl
take_sent (suc n) [] ok = refl
take_sent (suc n) (b ∷ text) ok =
    let parts = and_parts (not (b == 13)) (is_sent text) ok in
    and_from (not (b == 13)) (is_sent (take n text)) parts.0 (take_sent n text parts.1)

-- a line that was sent, without the `\` before it
unescaped_typed : (line : List ℕ) (text : Option (List ℕ)) → is_typed line ≡ true → if_some is_typed text ≡ true → is_typed (unwrap_or text line) ≡ true
unescaped_typed line None ok good = ok
unescaped_typed line (Some text) ok good = good

-- with a line that was sent
with_sent_good : (s : State) (line : List ℕ) → is_good_state s ≡ true → is_typed line ≡ true → is_good_state (with_sent s line) ≡ true
with_sent_good s line ok typed =
    let parts = and_parts (list_all is_writable_turn s.0) (is_sent s.1) ok in
    let text = typed_sent (unescaped line) (unescaped_typed line (behind ESCAPE.now line) typed (behind_typed ESCAPE.now line typed)) in
    let before : is_sent (s.1 ++ unescaped line) ≡ true =
    list_all-append (λ b. not (b == 13)) s.1 (unescaped line) ∙ and_from (is_sent s.1) (is_sent (unescaped line)) parts.1 text in
    and_from (list_all is_writable_turn s.0) (is_sent (s.1 ++ unescaped line ++ 10 ∷ [])) parts.0
    (list_all-append (λ b. not (b == 13)) (s.1 ++ unescaped line) (10 ∷ []) ∙ and_from (is_sent (s.1 ++ unescaped line)) true before refl)

-- with a line that was typed
with_typed_good : (s : State) (line : List ℕ) → is_good_state s ≡ true → is_typed line ≡ true → is_good_state (with_typed s line) ≡ true
with_typed_good s line ok typed =
    let parts = and_parts (list_all is_writable_turn s.0) (is_sent s.1) ok in
    let turn : is_writable_turn (without_end s.1, line) ≡ true =
    and_from (is_sent (without_end s.1)) (is_typed line) (take_sent (length s.1 - 1) s.1 parts.1) typed in
    and_from (list_all is_writable_turn (s.0 ++ (without_end s.1, line) ∷ [])) true
    (list_all-append is_writable_turn s.0 ((without_end s.1, line) ∷ [])
    ∙ and_from (list_all is_writable_turn s.0) (list_all is_writable_turn ((without_end s.1, line) ∷ [])) parts.0
    (and_from (is_writable_turn (without_end s.1, line)) true turn refl)) refl

-- with a line that was not typed
or_sent_good : (n : ℕ) (s : State) (line : List ℕ) (text : Option (List ℕ)) → is_good_state s ≡ true → is_typed line ≡ true
    → if_ok is_good_state (or_sent n s line text) ≡ true
or_sent_good n s line (Some text) ok typed = refl
or_sent_good n s line None ok typed = with_sent_good s line ok typed

-- with any line
or_other_good : (n : ℕ) (s : State) (line : List ℕ) (text : Option (List ℕ)) → is_good_state s ≡ true → is_typed line ≡ true → if_some is_typed text ≡ true
    → if_ok is_good_state (or_other n s line text) ≡ true
or_other_good n s line (Some text) ok typed rest = with_typed_good s text ok rest
or_other_good n s line None ok typed rest = or_sent_good n s line (behind OPTION.now line) ok typed

-- what follows a line
more_good : (next : State → Result State BadLine) (r : Result State BadLine)
    → ((s : State) → is_good_state s ≡ true → if_ok is_good_state (next s) ≡ true) → if_ok is_good_state r ≡ true → if_ok is_good_state (or_bad next r) ≡ true
more_good next (Ok s) later ok = later s ok
more_good next (Err bad) later ok = refl

-- the lines below a header
below_good : (n : ℕ) (s : State) (lines : List (List ℕ)) → is_good_state s ≡ true → list_all is_typed lines ≡ true → if_ok is_good_state (below n s lines) ≡ true
below_good n s [] ok typed = ok
below_good n s (line ∷ lines) ok typed =
    let parts = and_parts (is_typed line) (list_all is_typed lines) typed in
    let turns = and_parts (list_all is_writable_turn s.0) (is_sent s.1) ok in
    on_both (if_ok is_good_state) (ends_open line lines) (Ok (s.0, without_end s.1)) (or_bad (λ more. below (n + 1) more lines) (with_line n s line))
    (and_from (list_all is_writable_turn s.0) (is_sent (without_end s.1)) turns.0 (take_sent (length s.1 - 1) s.1 turns.1))
    (more_good (λ more. below (n + 1) more lines) (with_line n s line) (λ more good. below_good (n + 1) more lines good parts.1)
    (or_other_good n s line (behind TYPED.now line) ok parts.0 (behind_typed TYPED.now line parts.0)))

-- ---- a whole text

-- the end, if there is one
end_good : (e : Option RunEnd) → if_some is_writable_end e ≡ true → is_writable_end (unwrap_or e Returned) ≡ true
end_good None ok = refl
end_good (Some e) ok = ok

-- a header with what stands below it
whole_good : (h : Header) (r : Result State BadLine) → is_good_header h ≡ true → if_ok is_good_state r ≡ true → if_ok is_writable (whole h r) ≡ true
whole_good h (Err bad) ok good = refl
whole_good h (Ok s) ok good =
    let asked = and_parts (are_writable h.options) (if_some is_writable_end h.end) ok in
    let parts = and_parts (list_all is_writable_turn s.0) (is_sent s.1) good in
    let e = unwrap_or h.end Returned in
    and_from (are_writable h.options && is_writable_end e && list_all is_writable_turn s.0) (is_sent s.1)
    (and_from (are_writable h.options && is_writable_end e) (list_all is_writable_turn s.0)
    (and_from (are_writable h.options) (is_writable_end e) asked.0 (end_good h.end asked.1)) parts.0) parts.1

-- what stands below a header
from_header_good : (r : Result Start BadLine) → if_ok is_good_start r ≡ true → if_ok is_writable (from_header r) ≡ true
from_header_good (Err bad) ok = refl
from_header_good (Ok b) ok =
    let parts = and_parts (is_good_header b.0) (list_all is_typed b.2) ok in
    whole_good b.0 (below b.1 begun b.2) parts.0 (below_good b.1 begun b.2 refl parts.1)

-- a text
read_good : (text : List ℕ) → if_ok is_writable (read text) ≡ true
read_good text =
    from_header_good (header 1 nothing (lines_of_file text)) (header_good 1 nothing (lines_of_file text) refl (lines_typed false text))

-- what a text says can come of a run
pub read_is_writable : (text : List ℕ) (c : Content) → read text ≡ Ok c → IsWritable c
read_is_writable text c is = sym (ap (if_ok is_writable) is) ∙ read_good text

-- What a talk of lines without ends comes to can be written as a transcript.
use Rattle.std.proofs.Common.{◌≡◌, ◌∙◌, ◌==◌, ◌&&◌, ◌||◌, ◌+◌, ◌/◌, ◌%◌, ℕ, Bool, true, false, not, List, [], ◌∷◌, Option, Some, None, map, refl, ap, arith, if◌then◌else◌}
use Rattle.std.specs.List.{list_all}
use Rattle.std.specs.Prelude.{nat_eq, nat_le, nat_lt}
use Rattle.std.specs.declared.alloc.Global.{Global}
use Rattle.std.specs.declared.vec.Vec.{Vec}
use Rattle.std.proofs.lemmas.Bool.{and_from, and_parts, ne_eqb}
use Rattle.std.proofs.lemmas.List.Folds.{list_all-append}
use Rattle.tb_compiled.specs.declared.compiled.Compiled.{Compiled}
use Rattle.tb_kernal.specs.declared.events.Event.{Event}
use Rattle.tb_kernal.specs.declared.status.Status.{Status}
use Rattle.tb_kernal.specs.Machine.{Content}
use Rattle.tb_engines.specs.Writing.{sent_since}
use Rattle.tb_engine_profile_table.specs.declared.rows.Row.{Row}
use Rattle.tb_basic_signs.specs.Names.{controls, first_with, name_of, Control}
use Rattle.tb_engine_streams.specs.HostForm.{host_byte, named, shown_as, shown_byte, sign_byte}
use Rattle.tb_basic_text.specs.declared.notation.Notation.{Notation}
use Rattle.tb_basic_text.specs.declared.notation.Notation.TheVariants.{Plain, Signs}
use Rattle.tb_engine_transcripts.specs.Contents.{are_writable, content_of, is_sent, is_typed, is_writable, is_writable_end, is_writable_turn, turn_of, IsWritable}
use Rattle.tb_engine_transcripts.specs.declared.transcript.Transcript.{Transcript}
use Rattle.tb_engine_transcripts.specs.declared.transcript.Turn.{Turn}
use Rattle.tb_words.specs.Hexadecimal.{hex_digit, two_digits}
use Rattle.tb_engine_play.specs.Talks.{gives_quiet}
use Rattle.tb_engine_test.specs.Running.{gives_rude, RunsBeside}
use Rattle.tb_engine_test.specs.Talks.{Goes, TalksFrom}
use Rattle.tb_engine_test.specs.Testing.{as_transcript, lines_of}
use Rattle.tb_engine_test.specs.declared.running.Ran.{Ran}
use Rattle.tb_engine_test.specs.declared.talk.Manner.{Manner}

-- ---- bytes

-- a digit is not 13
digit_sent : (d : ℕ) → not (hex_digit d == 13) ≡ true
digit_sent d = by (nat_lt d 10)
  where
    by : (low : Bool) → not ((if low then 48 + d else 55 + d) == 13) ≡ true
    by true = rw (ne_eqb (48 + d) 13 (λ e. omega (arith, e))) refl
    by false = rw (ne_eqb (55 + d) 13 (λ e. omega (arith, e))) refl

-- the two digits of a byte in braces
braced_sent : (b : ℕ) → is_sent (123 ∷ two_digits b (125 ∷ [])) ≡ true
braced_sent b =
    and_from (not (hex_digit (b / 16 % 16) == 13)) (is_sent (hex_digit (b % 16) ∷ 125 ∷ [])) (digit_sent (b / 16 % 16))
    (and_from (not (hex_digit (b % 16) == 13)) true (digit_sent (b % 16)) refl)

-- a byte that is not 13
other_sent : (b : ℕ) → (b == 13) ≡ false → is_sent (b ∷ []) ≡ true
other_sent b e = rw e refl

-- a byte in host form
host_sent : (b : ℕ) → is_sent (host_byte b) ≡ true
host_sent b = by (nat_eq b 13) (nat_le 32 b && nat_le b 90) refl
  where
    by : (thirteen kept : Bool) → nat_eq b 13 ≡ thirteen
        → is_sent (if thirteen then 10 ∷ [] else if kept then b ∷ [] else 123 ∷ two_digits b (125 ∷ [])) ≡ true
    by true kept e = refl
    by false true e = other_sent b e
    by false false e = braced_sent b

-- names without a byte 13
abbrev are_sent : List Control → Bool
are_sent cs = list_all (λ c. is_sent c.name) cs

-- what is there was sent
abbrev is_name : Option (List ℕ) → Bool
is_name None = true
is_name (Some name) = is_sent name

-- the name of a byte
first_sent : (b : ℕ) (cs : List Control) → are_sent cs ≡ true → is_name (first_with b cs) ≡ true
first_sent b [] ok = refl
first_sent b (c ∷ cs) ok =
    let parts = and_parts (is_sent c.name) (are_sent cs) ok in
    by (c.byte == b) parts.0 (first_sent b cs parts.1)
  where
    by : (same : Bool) → is_sent c.name ≡ true → is_name (first_with b cs) ≡ true → is_name (if same then Some c.name else first_with b cs) ≡ true
    by true here later = here
    by false here later = later

-- a byte by its name
named_sent : (name : Option (List ℕ)) (b : ℕ) → is_name name ≡ true → is_sent (named name b) ≡ true
named_sent None b ok = host_sent b
named_sent (Some name) b ok = list_all-append (λ b. not (b == 13)) name (125 ∷ []) ∙ and_from (is_sent name) true ok refl

-- a byte that is 91 or 93
bracket_sent : (b : ℕ) → (nat_eq b 91 || nat_eq b 93) ≡ true → is_sent (b ∷ []) ≡ true
bracket_sent b e = rw (ne_eqb b 13 (λ is. never is e)) refl
  where
    never : b ≡ 13 → (nat_eq b 91 || nat_eq b 93) ≡ true → ⊥
    never is e = let f = rw is at e in absurd cc

-- a byte with signs
sign_sent : (b : ℕ) → is_sent (sign_byte b) ≡ true
sign_sent b = by (nat_eq b 91 || nat_eq b 93) refl
  where
    by : (bracket : Bool) → (nat_eq b 91 || nat_eq b 93) ≡ bracket → is_sent (if bracket then b ∷ [] else named (name_of b) b) ≡ true
    by true e = bracket_sent b e
    by false e = named_sent (name_of b) b (first_sent b controls refl)

-- a byte by a notation
byte_sent : (notation : Notation) (b : ℕ) → is_sent (shown_byte notation b) ≡ true
byte_sent Plain b = host_sent b
byte_sent Signs b = sign_sent b

-- what is shown has no byte 13
pub shown_is_sent : (notation : Notation) (bytes : List ℕ) → is_sent (shown_as notation bytes) ≡ true
shown_is_sent notation [] = refl
shown_is_sent notation (b ∷ bytes) =
    list_all-append (λ b. not (b == 13)) (shown_byte notation b) (shown_as notation bytes)
    ∙ and_from (is_sent (shown_byte notation b)) (is_sent (shown_as notation bytes)) (byte_sent notation b) (shown_is_sent notation bytes)

-- ---- talks

-- what was sent in a stretch
goes_sent : {O : Type 0} (gives : O → Content → Event → O → Type 0) (o : O) (m : Content) (manner : Manner) (t : Status) (text : List ℕ) (counted : List Row) (p : O) (n : Content)
    → Goes gives o m manner t text counted p n → is_sent text ≡ true
goes_sent gives o m manner t text counted p n goes = ap is_sent goes.sent ∙ shown_is_sent manner.notation (sent_since m n)

-- turns that can be written, and what was sent after them
abbrev pub AreWritable : List Turn → List ℕ → Type 0
AreWritable turns last = (list_all is_writable_turn (map turn_of turns) ≡ true) × (is_sent last ≡ true)

-- one more turn at the front
one_more : (turn : Turn) (turns : List Turn) (last line : List ℕ) → is_sent turn.sent.items ≡ true → turn.typed.items ≡ line → is_typed line ≡ true
    → AreWritable turns last → AreWritable (turn ∷ turns) last
one_more turn turns last line sent is typed later = (
  and_from (is_writable_turn (turn_of turn)) (list_all is_writable_turn (map turn_of turns))
      (and_from (is_sent turn.sent.items) (is_typed turn.typed.items) sent (ap is_typed is ∙ typed)) later.0,
  later.1,
)

-- a talk of lines without ends can be written
pub talk_is_writable : {O : Type 0} (gives : O → Content → Event → O → Type 0) (o : O) (m : Content) (manner : Manner) (lines : List (List ℕ)) (turns : List Turn)
    (rows : List (Vec Row Global)) (last : List ℕ) (t : Status) (p : O) (n : Content)
    → list_all is_typed lines ≡ true → TalksFrom gives o m manner lines turns rows last t p n → AreWritable turns last
talk_is_writable gives o m manner lines [] [] last t p n ok talk = absurd talk
talk_is_writable gives o m manner lines [] (some ∷ []) last t p n ok talk = (refl, goes_sent gives o m manner t last some.items p n talk.0)
talk_is_writable gives o m manner lines [] (some ∷ more ∷ rows) last t p n ok talk = absurd talk
talk_is_writable gives o m manner [] (turn ∷ turns) rows last t p n ok talk = absurd talk
talk_is_writable gives o m manner (line ∷ lines) (turn ∷ turns) [] last t p n ok talk = absurd talk
talk_is_writable gives o m manner (line ∷ lines) (turn ∷ turns) (some ∷ rows) last t p n ok talk =
    let parts = and_parts (is_typed line) (list_all is_typed lines) ok in
    let (q, w, typed, goes, is, keys, later) = talk in
    one_more turn turns last line (goes_sent gives o m manner _ turn.sent.items some.items q w goes) is parts.0
    (talk_is_writable gives q typed manner lines turns rows last t p n parts.1 later)

-- ---- runs

-- the lines that are typed in turns that can be written
turns_typed : (turns : List Turn) → list_all is_writable_turn (map turn_of turns) ≡ true → list_all is_typed (map (λ turn. turn.typed.items) turns) ≡ true
turns_typed [] ok = refl
turns_typed (turn ∷ turns) ok =
    let parts = and_parts (is_writable_turn (turn_of turn)) (list_all is_writable_turn (map turn_of turns)) ok in
    let this = and_parts (is_sent turn.sent.items) (is_typed turn.typed.items) parts.0 in
    and_from (is_typed turn.typed.items) (list_all is_typed (map (λ turn. turn.typed.items) turns)) this.1 (turns_typed turns parts.1)

-- a run of lines without ends can be written
run_is_writable : (rude : Option ℕ) (manner : Manner) (program : Compiled) (lines : List (List ℕ)) (run : Ran)
    → list_all is_typed lines ≡ true → RunsBeside rude manner program lines run → AreWritable run.turns.items run.last.items
run_is_writable None manner program lines run ok runs =
    talk_is_writable gives_quiet _ _ manner lines run.turns.items run.rows.items run.last.items _ _ _ ok runs.talked
run_is_writable (Some seed) manner program lines run ok runs =
    talk_is_writable gives_rude _ _ manner lines run.turns.items run.rows.items run.last.items _ _ _ ok runs.talked

-- a run as a transcript can be written, if the transcript can be whose lines were typed
pub run_as_transcript : (wanted ran : Transcript) (manner : Manner) (program : Compiled) (run : Ran)
    → RunsBeside wanted.options.rude manner program (lines_of wanted) run → ran ≡ as_transcript wanted.options run → is_writable_end run.end ≡ true
    → IsWritable (content_of wanted) → IsWritable (content_of ran)
run_as_transcript wanted ran manner program run runs is ends ok =
    let lasts = and_parts (are_writable wanted.options && is_writable_end wanted.end && list_all is_writable_turn (map turn_of wanted.turns.items)) (is_sent wanted.last.items) ok in
    let turns = and_parts (are_writable wanted.options && is_writable_end wanted.end) (list_all is_writable_turn (map turn_of wanted.turns.items)) lasts.0 in
    let options = and_parts (are_writable wanted.options) (is_writable_end wanted.end) turns.0 in
    let ran_turns = run_is_writable wanted.options.rude manner program (lines_of wanted) run (turns_typed wanted.turns.items turns.1) runs in
    ap (λ t. is_writable (content_of t)) is
    ∙ and_from (are_writable wanted.options && is_writable_end run.end && list_all is_writable_turn (map turn_of run.turns.items)) (is_sent run.last.items)
    (and_from (are_writable wanted.options && is_writable_end run.end) (list_all is_writable_turn (map turn_of run.turns.items))
    (and_from (are_writable wanted.options) (is_writable_end run.end) options.0 ends) ran_turns.0) ran_turns.1

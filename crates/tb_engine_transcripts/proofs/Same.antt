-- Whether two transcripts are the same, and how far.
use Rattle.std.proofs.Common.{◌≡◌, ◌<◌, ◌≤◌, ◌&&◌, ◌==◌, ◌↔◌, ◌∙◌, ℕ, zero, suc, Bool, true, false, IsTrue, List, [], ◌∷◌, length, map, get_or, refl, sym, ap, arith, eq-eqb}
use Rattle.std.proofs.lemmas.Bool.{and_from, and_parts, eqb-true}
use Rattle.std.proofs.lemmas.Slice.Eq.{bytes_eq-Decides}
use Rattle.std.specs.Str.{bytes_eq}
use Rattle.tb_engine_transcripts.specs.Comparing.{is_same, is_same_end, is_same_output, is_same_turn, same_turns, IsSame}
use Rattle.tb_engine_transcripts.specs.Contents.{Content, turn_of}
use Rattle.tb_engine_transcripts.specs.Differing.{alike_bytes, alike_lines, sent_in}
use Rattle.tb_engine_transcripts.specs.declared.transcript.RunEnd.{RunEnd}
use Rattle.tb_engine_transcripts.specs.declared.transcript.RunEnd.TheVariants.{Fault, Returned, Runs, Waits}
use Rattle.tb_engine_transcripts.specs.declared.transcript.Turn.{Turn}

-- ---- bytes

-- bytes are the same as themselves
bytes_alike : (xs : List ℕ) → bytes_eq xs xs ≡ true
bytes_alike xs = (bytes_eq-Decides xs xs).1 refl

-- ---- turns

-- two turns that are the same are equal
equal_turn : (t u : List ℕ × List ℕ) → is_same_turn t u ≡ true → t ≡ u
equal_turn t u e =
    let parts = and_parts (bytes_eq t.0 u.0) (bytes_eq t.1 u.1) e in
    let sent : t.0 ≡ u.0 = (bytes_eq-Decides t.0 u.0).0 parts.0 in
    let typed : t.1 ≡ u.1 = (bytes_eq-Decides t.1 u.1).0 parts.1 in
    ap (λ s. (s, t.1)) sent ∙ ap (λ s. (u.0, s)) typed

-- a turn is the same as itself
turn_alike : (t : List ℕ × List ℕ) → is_same_turn t t ≡ true
turn_alike t = and_from (bytes_eq t.0 t.0) (bytes_eq t.1 t.1) (bytes_alike t.0) (bytes_alike t.1)

-- turns that are all the same are equal
equal_turns : (one other : List (List ℕ × List ℕ)) → length one ≡ length other → same_turns one other ≡ length one → one ≡ other
equal_turns [] [] l e = refl
equal_turns [] (u ∷ other) l e = absurd (omega arith)
equal_turns (t ∷ one) [] l e = absurd (omega arith)
equal_turns (t ∷ one) (u ∷ other) l e = by (is_same_turn t u) refl (equal_turns one other (omega arith))
  where
    by : (same : Bool) → is_same_turn t u ≡ same → (same_turns one other ≡ length one → one ≡ other) → t ∷ one ≡ u ∷ other
    by true s rest =
        let more : suc (same_turns one other) ≡ suc (length one) = rw s at e in
        ap (λ v. v ∷ one) (equal_turn t u s) ∙ ap (λ r. u ∷ r) (rest (omega (arith, more)))
    by false s rest = let never : 0 ≡ suc (length one) = rw s at e in absurd (omega (arith, never))

-- turns are all the same as themselves
turns_alike : (turns : List (List ℕ × List ℕ)) → same_turns turns turns ≡ length turns
turns_alike [] = refl
turns_alike (t ∷ turns) = rw (turn_alike t) (ap suc (turns_alike turns))

-- ---- ends

-- two ends that are the same are equal
equal_ends : (one other : RunEnd) → is_same_end one other ≡ true → one ≡ other
equal_ends Returned Returned e = refl
equal_ends Waits Waits e = refl
equal_ends Runs Runs e = refl
equal_ends (Fault code line) (Fault other_code other_line) e =
    let parts = and_parts (code == other_code) (line == other_line) e in
    ap (λ c. Fault c line) (eqb-true code other_code parts.0) ∙ ap (λ l. Fault other_code l) (eqb-true line other_line parts.1)
equal_ends Returned Waits e = absurd cc
equal_ends Returned Runs e = absurd cc
equal_ends Returned (Fault c l) e = absurd cc
equal_ends Waits Returned e = absurd cc
equal_ends Waits Runs e = absurd cc
equal_ends Waits (Fault c l) e = absurd cc
equal_ends Runs Returned e = absurd cc
equal_ends Runs Waits e = absurd cc
equal_ends Runs (Fault c l) e = absurd cc
equal_ends (Fault c l) Returned e = absurd cc
equal_ends (Fault c l) Waits e = absurd cc
equal_ends (Fault c l) Runs e = absurd cc

-- an end is the same as itself
end_alike : (e : RunEnd) → is_same_end e e ≡ true
end_alike Returned = refl
end_alike Waits = refl
end_alike Runs = refl
end_alike (Fault code line) = and_from (code == code) (line == line) (eq-eqb code code refl) (eq-eqb line line refl)

-- ---- transcripts

-- two transcripts that are the same have the same turns, the same behind them, and the same end
pub same_from : (one other : Content) → is_same one other ≡ true → IsSame one other
same_from one other e =
    let ends = and_parts (is_same_output one other) (is_same_end one.end other.end) e in
    let lasts = and_parts ((length one.turns == length other.turns) && (same_turns one.turns other.turns == length one.turns)) (bytes_eq one.last other.last) ends.0 in
    let turns = and_parts (length one.turns == length other.turns) (same_turns one.turns other.turns == length one.turns) lasts.0 in (
      equal_turns one.turns other.turns (eqb-true (length one.turns) (length other.turns) turns.0) (eqb-true (same_turns one.turns other.turns) (length one.turns) turns.1),
      (bytes_eq-Decides one.last other.last).0 lasts.1,
      equal_ends one.end other.end ends.1,
    )

-- two transcripts with equal turns, an equal text behind them and an equal end are the same
pub same_to : (one other : Content) → IsSame one other → is_same one other ≡ true
same_to one other same =
    let many : length one.turns ≡ length other.turns = ap length same.0 in
    let all : same_turns one.turns other.turns ≡ length one.turns = sym (ap (λ o. same_turns one.turns o) same.0) ∙ turns_alike one.turns in
    let last : bytes_eq one.last other.last ≡ true = (bytes_eq-Decides one.last other.last).1 same.1 in
    let end : is_same_end one.end other.end ≡ true = sym (ap (λ o. is_same_end one.end o) same.2) ∙ end_alike one.end in
    and_from (is_same_output one other) (is_same_end one.end other.end)
    (and_from ((length one.turns == length other.turns) && (same_turns one.turns other.turns == length one.turns)) (bytes_eq one.last other.last)
    (and_from (length one.turns == length other.turns) (same_turns one.turns other.turns == length one.turns)
    (eq-eqb (length one.turns) (length other.turns) many) (eq-eqb (same_turns one.turns other.turns) (length one.turns) all))
    last)
    end

-- an answer that is what the definition says tells whether two transcripts are the same
pub same_iff : (one other : Content) (answer : Bool) → answer ≡ is_same one other → IsTrue answer ↔ IsSame one other
same_iff one other answer e = ((λ true_one. same_from one other (sym e ∙ true_one)), (λ same. e ∙ same_to one other same))

-- ---- how far

-- nothing is alike with no byte
pub no_byte : (one other : List ℕ) → length other < 1 → alike_bytes one other ≡ 0
no_byte [] other none = refl
no_byte (b ∷ one) [] none = refl
no_byte (b ∷ one) (c ∷ other) none = absurd (omega arith)

-- nothing is alike with no line
pub no_line : (one other : List (List ℕ)) → length other < 1 → alike_lines one other ≡ 0
no_line [] other none = refl
no_line (l ∷ one) [] none = refl
no_line (l ∷ one) (m ∷ other) none = absurd (omega arith)

-- what was sent in a turn
pub sent_in_turn : (turns : List Turn) (last : List ℕ) (k : ℕ) (d : Turn) → k < length turns
    → sent_in (map turn_of turns) last k ≡ (get_or turns k d).sent.items
sent_in_turn [] last k d lt = absurd (omega arith)
sent_in_turn (t ∷ turns) last zero d lt = refl
sent_in_turn (t ∷ turns) last (suc k) d lt = sent_in_turn turns last k d (omega arith)

-- what was sent after the last turn
pub sent_in_last : (turns : List Turn) (last : List ℕ) (k : ℕ) → length turns ≤ k → sent_in (map turn_of turns) last k ≡ last
sent_in_last [] last k le = refl
sent_in_last (t ∷ turns) last zero le = absurd (omega arith)
sent_in_last (t ∷ turns) last (suc k) le = sent_in_last turns last k (omega arith)

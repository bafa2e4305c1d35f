-- The lines below the header that are written are read as the turns and what was sent last.
use Rattle.std.proofs.Common.{◌≡◌, ◌≢◌, ◌+◌, ◌-◌, ◌∙◌, ◌==◌, ◌&&◌, ℕ, Bool, true, false, List, [], ◌∷◌, ◌++◌, Ok, map, length, take, refl, sym, ap, arith, append_assoc, length-append}
use Rattle.std.specs.Prelude.{flat_map}
use Rattle.std.specs.Str.{bytes_eq}
use Rattle.std.proofs.Math.Bool.{and-false}
use Rattle.std.proofs.Math.Seq.{take-append_seam}
use Rattle.std.proofs.lemmas.Bool.{eqb-true}
use Rattle.std.proofs.lemmas.List.{append-nil}
use Rattle.tb_engine_transcripts.specs.Header.{header}
use Rattle.tb_engine_transcripts.specs.Reading.{are_none, below, with_line, without_end}
use Rattle.tb_engine_transcripts.specs.Writing.{ended, last_lines, longer, marked, pieces, turn_lines}
use Rattle.tb_engine_transcripts.specs.declared.header.Header.{Header}
use Rattle.tb_engine_transcripts.specs.declared.marks.TheConstants.{ESCAPE, TYPED}
use Rattle.tb_engine_transcripts.proofs.MarkedLines.{marked_is_sent}
use Rattle.tb_engine_transcripts.proofs.Pieces.{some_piece}

-- ---- pieces

-- pieces with a byte 10 between them
abbrev joined : List (List ℕ) → List ℕ
joined [] = []
joined (p ∷ []) = p
joined (p ∷ q ∷ ps) = p ++ 10 ∷ joined (q ∷ ps)

-- one more byte at the front
joined_longer : (b : ℕ) (ps : List (List ℕ)) → ps ≢ [] → joined (longer b ps) ≡ b ∷ joined ps
joined_longer b [] some = absurd (some refl)
joined_longer b (p ∷ []) some = refl
joined_longer b (p ∷ q ∷ ps) some = refl

-- one more piece that is empty
joined_more : (ps : List (List ℕ)) → ps ≢ [] → joined ([] ∷ ps) ≡ 10 ∷ joined ps
joined_more [] some = absurd (some refl)
joined_more (p ∷ ps) some = refl

-- the pieces of a text, joined again, are the text
joined_pieces : (s : List ℕ) → joined (pieces s) ≡ s
unfolding pieces
joined_pieces [] = refl
joined_pieces (b ∷ s) = by (b == 10) refl (joined_pieces s)
  where
    by : (ten : Bool) → (b == 10) ≡ ten → joined (pieces s) ≡ s → joined (pieces (b ∷ s)) ≡ b ∷ s
    by true e same = rw e (joined_more (pieces s) (some_piece s) ∙ ap (λ t. 10 ∷ t) same ∙ ap (λ c. c ∷ s) (sym (eqb-true b 10 e)))
    by false e same = rw e (joined_longer b (pieces s) (some_piece s) ∙ ap (λ t. b ∷ t) same)

-- with an end behind each they are joined with one more end
ended_joined : (ps : List (List ℕ)) → ps ≢ [] → flat_map ended ps ≡ joined ps ++ 10 ∷ []
ended_joined [] some = absurd (some refl)
ended_joined (p ∷ []) some = append-nil (p ++ 10 ∷ [])
ended_joined (p ∷ q ∷ ps) some =
    append_assoc p (10 ∷ []) (flat_map ended (q ∷ ps)) ∙ ap (λ t. p ++ 10 ∷ t) (ended_joined (q ∷ ps) (λ e. cc))
    ∙ sym (append_assoc p (10 ∷ joined (q ∷ ps)) (10 ∷ []))

-- without the last byte
without_last : (s : List ℕ) (b : ℕ) → without_end (s ++ b ∷ []) ≡ s
without_last s b =
    let one_less : length (s ++ b ∷ []) - 1 ≡ length s = omega (arith, length-append s (b ∷ [])) in
    ap (λ n. take n (s ++ b ∷ [])) one_less ∙ take-append_seam s (b ∷ [])

-- ---- lines

-- a line that was sent
one_sent : (n : ℕ) (turns : List (List ℕ × List ℕ)) (sent p : List ℕ) (lines : List (List ℕ))
    → below n (turns, sent) (marked p ∷ lines) ≡ below (n + 1) (turns, sent ++ ended p) lines
one_sent n turns sent p lines =
    let is = marked_is_sent p in
    let shut : (are_none lines && bytes_eq (marked p) ESCAPE.now) ≡ false = rw is.3 (and-false (are_none lines)) in
    let read : with_line n (turns, sent) (marked p) ≡ Ok (turns, sent ++ ended p) =
    rw (is.1, is.0, is.2) (ap (λ t. Ok (turns, t)) (append_assoc sent p (10 ∷ []))) in
    rw (shut, read) refl

-- lines that were sent
all_sent : (n : ℕ) (turns : List (List ℕ × List ℕ)) (sent : List ℕ) (ps lines : List (List ℕ))
    → (m : ℕ) × (below n (turns, sent) (map marked ps ++ lines) ≡ below m (turns, sent ++ flat_map ended ps) lines)
all_sent n turns sent [] lines = (n, ap (λ s. below n (turns, s) lines) (sym (append-nil sent)))
all_sent n turns sent (p ∷ ps) lines =
    let rest = all_sent (n + 1) turns (sent ++ ended p) ps lines in (
      rest.0,
      one_sent n turns sent p (map marked ps ++ lines) ∙ rest.1
          ∙ ap (λ s. below rest.0 (turns, s) lines) (append_assoc sent (ended p) (flat_map ended ps)),
    )

-- a line that was typed
one_typed : (n : ℕ) (turns : List (List ℕ × List ℕ)) (sent typed : List ℕ) (lines : List (List ℕ))
    → below n (turns, sent) ((TYPED.now ++ typed) ∷ lines) ≡ below (n + 1) (turns ++ (without_end sent, typed) ∷ [], []) lines
one_typed n turns sent typed lines =
    let shut : (are_none lines && bytes_eq (TYPED.now ++ typed) ESCAPE.now) ≡ false = and-false (are_none lines) in
    rw shut refl

-- a turn
one_turn : (n : ℕ) (turns : List (List ℕ × List ℕ)) (s typed : List ℕ) (lines : List (List ℕ))
    → (m : ℕ) × (below n (turns, []) (turn_lines (s, typed) ++ lines) ≡ below m (turns ++ (s, typed) ∷ [], []) lines)
one_turn n turns [] typed lines = (n + 1, one_typed n turns [] typed lines)
one_turn n turns (b ∷ s) typed lines =
    let ps = pieces (b ∷ s) in
    let typed_line = TYPED.now ++ typed in
    let sent = all_sent n turns [] ps (typed_line ∷ lines) in
    let whole : flat_map ended ps ≡ (b ∷ s) ++ 10 ∷ [] = ended_joined ps (some_piece (b ∷ s)) ∙ ap (λ t. t ++ 10 ∷ []) (joined_pieces (b ∷ s)) in
    let cut : without_end (flat_map ended ps) ≡ b ∷ s = ap without_end whole ∙ without_last (b ∷ s) 10 in (
      sent.0 + 1,
      ap (below n (turns, [])) (append_assoc (map marked ps) (typed_line ∷ []) lines)
          ∙ sent.1 ∙ one_typed sent.0 turns (flat_map ended ps) typed lines
          ∙ ap (λ t. below (sent.0 + 1) (turns ++ (t, typed) ∷ [], []) lines) cut,
    )

-- all turns
pub turns_read : (n : ℕ) (before turns : List (List ℕ × List ℕ)) (lines : List (List ℕ))
    → (m : ℕ) × (below n (before, []) (flat_map turn_lines turns ++ lines) ≡ below m (before ++ turns, []) lines)
turns_read n before [] lines = (n, ap (λ t. below n (t, []) lines) (sym (append-nil before)))
turns_read n before (t ∷ turns) lines =
    let first = one_turn n before t.0 t.1 (flat_map turn_lines turns ++ lines) in
    let rest = turns_read first.0 (before ++ t ∷ []) turns lines in (
      rest.0,
      ap (below n (before, [])) (append_assoc (turn_lines t) (flat_map turn_lines turns) lines)
          ∙ first.1 ∙ rest.1 ∙ ap (λ u. below rest.0 (u, []) lines) (append_assoc before (t ∷ []) turns),
    )

-- what was sent last, by its pieces
last_pieces : (n : ℕ) (turns : List (List ℕ × List ℕ)) (sent : List ℕ) (ps : List (List ℕ)) → below n (turns, sent) (last_lines ps) ≡ Ok (turns, sent ++ joined ps)
last_pieces n turns sent [] = ap (λ s. Ok (turns, s)) (sym (append-nil sent))
last_pieces n turns sent ([] ∷ []) = ap (λ s. Ok (turns, s)) (sym (append-nil sent))
last_pieces n turns sent ((b ∷ p) ∷ []) =
    one_sent n turns sent (b ∷ p) (ESCAPE.now ∷ [])
    ∙ ap (λ s. Ok (turns, without_end s)) (sym (append_assoc sent (b ∷ p) (10 ∷ []))) ∙ ap (λ s. Ok (turns, s)) (without_last (sent ++ b ∷ p) 10)
last_pieces n turns sent (p ∷ q ∷ ps) =
    one_sent n turns sent p (last_lines (q ∷ ps)) ∙ last_pieces (n + 1) turns (sent ++ ended p) (q ∷ ps)
    ∙ ap (λ s. Ok (turns, s)) (append_assoc sent (ended p) (joined (q ∷ ps)) ∙ ap (λ s. sent ++ s) (append_assoc p (10 ∷ []) (joined (q ∷ ps))))

-- what was sent last
pub last_read : (n : ℕ) (turns : List (List ℕ × List ℕ)) (s : List ℕ) → below n (turns, []) (last_lines (pieces s)) ≡ Ok (turns, s)
last_read n turns s = last_pieces n turns [] (pieces s) ∙ ap (λ t. Ok (turns, t)) (joined_pieces s)

-- ---- none of these lines is one of the header

-- a line that was sent
sent_first : (n : ℕ) (h : Header) (p : List ℕ) (lines : List (List ℕ)) → header n h (marked p ∷ lines) ≡ Ok (h, n, marked p ∷ lines)
sent_first n h p lines = rw (marked_is_sent p).0 refl

-- lines that were sent
all_first : (n : ℕ) (h : Header) (ps lines : List (List ℕ)) → ps ≢ [] → header n h (map marked ps ++ lines) ≡ Ok (h, n, map marked ps ++ lines)
all_first n h [] lines some = absurd (some refl)
all_first n h (p ∷ ps) lines some = sent_first n h p (map marked ps ++ lines)

-- what was sent last
last_first : (n : ℕ) (h : Header) (ps : List (List ℕ)) → header n h (last_lines ps) ≡ Ok (h, n, last_lines ps)
last_first n h [] = refl
last_first n h ([] ∷ []) = refl
last_first n h ((b ∷ p) ∷ []) = sent_first n h (b ∷ p) (ESCAPE.now ∷ [])
last_first n h (p ∷ q ∷ ps) = sent_first n h p (last_lines (q ∷ ps))

-- a turn
turn_first : (n : ℕ) (h : Header) (s typed : List ℕ) (lines : List (List ℕ)) → header n h (turn_lines (s, typed) ++ lines) ≡ Ok (h, n, turn_lines (s, typed) ++ lines)
turn_first n h [] typed lines = refl
turn_first n h (b ∷ s) typed lines =
    let ps = pieces (b ∷ s) in
    let grouped = append_assoc (map marked ps) ((TYPED.now ++ typed) ∷ []) lines in
    rw grouped (all_first n h ps ((TYPED.now ++ typed) ∷ lines) (some_piece (b ∷ s)))

-- the header ends where the output begins
pub output_first : (n : ℕ) (h : Header) (turns : List (List ℕ × List ℕ)) (s : List ℕ)
    → header n h (flat_map turn_lines turns ++ last_lines (pieces s)) ≡ Ok (h, n, flat_map turn_lines turns ++ last_lines (pieces s))
output_first n h [] s = last_first n h (pieces s)
output_first n h (t ∷ turns) s =
    let grouped = append_assoc (turn_lines t) (flat_map turn_lines turns) (last_lines (pieces s)) in
    rw grouped (turn_first n h t.0 t.1 (flat_map turn_lines turns ++ last_lines (pieces s)))

-- Reading a number byte by byte.
use Rattle.std.proofs.Common.{◌≡◌, ◌⊎◌, inl, inr, ◌<◌, length, get_or, drop, ℕ, ◌+◌, ◌-◌, ◌*◌, ◌≤◌, Bool, true, false, List}
use Rattle.std.proofs.Common.{[], ◌∷◌, nat_eq, nat_le, refl, sym, ap, ◌∙◌, arith}
use Rattle.std.proofs.lemmas.Bool.Decides.{nat_tests}
use Rattle.std.proofs.lemmas.List.{at_drop_more}
use Rattle.tb_words.specs.Words.{word, negated}
use Rattle.tb_basic_meaning.specs.declared.turns.Reading as rust_reading
use Rattle.tb_basic_meaning.specs.declared.turns.Reading.TheVariants as reading
use Rattle.tb_basic_meaning.specs.Turns.{reading_of, IsReading}
use Rattle.tb_basic_meaning.specs.Input.{Reading, Nothing, Sign, Digits, Got, with_digit, number_end, turn}

-- only the word of the digits matters at the end of a number
same_end : (negative : Bool) (m n : ℕ) (stays : Bool) (rest : List ℕ) → word m ≡ word n → number_end (Digits negative m) stays rest ≡ number_end (Digits negative n) stays rest
same_end true m n stays rest h = ap (λ w. Got (negated w) stays rest) h
same_end false m n stays rest h = ap (λ w. Got w stays rest) h

-- only the word of the digits matters for the rest of a turn
pub same_turn : (negative : Bool) (m n : ℕ) (text : List ℕ) → word m ≡ word n → turn (Digits negative m) text ≡ turn (Digits negative n) text
same_turn negative m n [] h = refl
same_turn negative m n (b ∷ text) h =
    let space = same_turn negative m n text h in
    let next : word (m * 10 + (b - 48)) ≡ word (n * 10 + (b - 48)) = omega (arith, h) in
    let digit = same_turn negative (m * 10 + (b - 48)) (n * 10 + (b - 48)) text next in
    let open_end = same_end negative m n true text h in
    let closed_end = same_end negative m n false text h in
    cc

-- a turn from what the interpreter has read is the meaning's turn
pub read_turn : (r : Reading) (r' : rust_reading.Reading) (text : List ℕ) → IsReading r r' → turn r text ≡ turn (reading_of r') text
read_turn r reading.Nothing text h = ap (λ x. turn x text) h
read_turn r (reading.Sign negative) text h = ap (λ x. turn x text) h
read_turn r (reading.Digits negative n) text h =
    ap (λ x. turn x text) h.1 ∙ same_turn negative h.0 n text h.2

-- a plus or a minus at the start is read as a sign
pub sign_turn : (b : ℕ) (text : List ℕ) → (b ≡ 43) ⊎ (b ≡ 45) → turn Nothing (b ∷ text) ≡ turn (Sign (nat_eq b 45)) text
sign_turn b text (inl e) = rw e refl
sign_turn b text (inr e) = rw e refl

-- a digit is read as one more digit
pub digit_turn : (r : Reading) (b : ℕ) (text : List ℕ) → 48 ≤ b → b ≤ 57 → turn r (b ∷ text) ≡ turn (with_digit r (b - 48)) text
digit_turn r b text low high =
    let space : nat_eq b 32 ≡ false = grind (arith, nat_tests) in
    let above : nat_le 48 b ≡ true = grind (arith, nat_tests) in
    let below : nat_le b 57 ≡ true = grind (arith, nat_tests) in
    rw (space, above, below) refl

-- one more byte of a text
pub keeps : (r r' : Reading) (text : List ℕ) (i b : ℕ) → i < length text → get_or text i 0 ≡ b → turn r (b ∷ drop (i + 1) text)
    ≡ turn r' (drop (i + 1) text) → turn r (drop i text) ≡ turn Nothing text → turn r' (drop (i + 1) text) ≡ turn Nothing text
keeps r r' text i b lt at next before =
    sym next ∙ ap (λ x. turn r (x ∷ drop (i + 1) text)) (sym at) ∙ sym (at_drop_more (turn r) text i 0 lt) ∙ before

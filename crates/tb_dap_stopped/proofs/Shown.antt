-- The host form of what was sent is a text, and grows as more is sent.
use Rattle.std.proofs.Common.{◌≡◌, ◌<◌, ℕ, zero, suc, ◌+◌, ◌/◌, ◌%◌, Bool, true, false, ◌&&◌, List, [], ◌∷◌, ◌++◌, nat_eq, nat_le, nat_lt, IsAscii, refl, sym, ap, ◌∙◌, if◌then◌else◌, append_assoc, arith}
use Rattle.std.proofs.lemmas.Str.{IsUtf8-from_ascii, is_utf8-from_IsUtf8}
use Rattle.std.proofs.lemmas.Bool.Decides.{nat_tests}
use Rattle.tb_editor_navigation.specs.Remarks.{shown}
use Rattle.tb_engine_streams.specs.HostForm.{host_byte, host_form_of}
use Rattle.tb_words.specs.Hexadecimal.{hex_digit, two_digits}

none_ascii : IsAscii []
none_ascii zero = omega arith
none_ascii (suc i) = omega arith

more_ascii : (b : ℕ) (bs : List ℕ) → b < 128 → IsAscii bs → IsAscii (b ∷ bs)
more_ascii b bs low rest zero = low
more_ascii b bs low rest (suc i) = rest i

ascii_append : (xs ys : List ℕ) → IsAscii xs → IsAscii ys → IsAscii (xs ++ ys)
ascii_append [] ys h g i = g i
ascii_append (x ∷ xs) ys h g zero = h zero
ascii_append (x ∷ xs) ys h g (suc i) = ascii_append xs ys (λ k. h (suc k)) g i

digit_ascii : (d : ℕ) → d < 16 → hex_digit d < 128
digit_ascii d few = go (nat_lt d 10)
  where
    go : (low : Bool) → (if low then 48 + d else 55 + d) < 128
    go true = omega (arith, few)
    go false = omega (arith, few)

below_sixteen : (n : ℕ) → n % 16 < 16
below_sixteen n = omega arith

escaped_ascii : (b : ℕ) → IsAscii (123 ∷ two_digits b (125 ∷ []))
escaped_ascii b =
    let high = hex_digit (b / 16 % 16) in
    let low = hex_digit (b % 16) in
    more_ascii 123 (high ∷ low ∷ 125 ∷ []) (omega arith)
    (more_ascii high (low ∷ 125 ∷ []) (digit_ascii (b / 16 % 16) (below_sixteen (b / 16)))
    (more_ascii low (125 ∷ []) (digit_ascii (b % 16) (below_sixteen b)) (more_ascii 125 [] (omega arith) none_ascii)))

byte_ascii : (b : ℕ) → IsAscii (host_byte b)
byte_ascii b = go (nat_eq b 13) (nat_le 32 b) (nat_le b 90) refl
  where
    low : nat_le b 90 ≡ true → b < 128
    low e = grind (arith, nat_tests)

    go : (is_return above below : Bool) → nat_le b 90 ≡ below
        → IsAscii (if is_return then 10 ∷ [] else if above && below then b ∷ [] else 123 ∷ two_digits b (125 ∷ []))
    go true above below e = more_ascii 10 [] (omega arith) none_ascii
    go false true true e = more_ascii b [] (low e) none_ascii
    go false true false e = escaped_ascii b
    go false false below e = escaped_ascii b

form_ascii : (sent : List ℕ) → IsAscii (host_form_of sent)
form_ascii [] = none_ascii
form_ascii (b ∷ sent) = ascii_append (host_byte b) (host_form_of sent) (byte_ascii b) (form_ascii sent)

-- it is shown as it is
pub shown_form : (sent : List ℕ) → shown (host_form_of sent) ≡ host_form_of sent
shown_form sent = rw (is_utf8-from_IsUtf8 (host_form_of sent) (IsUtf8-from_ascii (host_form_of sent) (form_ascii sent))) refl

-- the form of two lists one behind the other is the form of the first one before that of the second one
pub form_append : (xs ys : List ℕ) → host_form_of (xs ++ ys) ≡ host_form_of xs ++ host_form_of ys
form_append [] ys = refl
form_append (x ∷ xs) ys = ap (λ rest. host_byte x ++ rest) (form_append xs ys) ∙ sym (append_assoc (host_byte x) (host_form_of xs) (host_form_of ys))

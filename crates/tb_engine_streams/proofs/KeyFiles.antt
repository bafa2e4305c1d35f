-- The text of a key file spells its keys.
use Rattle.std.proofs.Common.{◌≡◌, ◌≢◌, ◌-◌, ℕ, true, List, [], ◌∷◌, ◌++◌, length, ap, subst, ◌∙◌, arith, Ok}
use Rattle.std.proofs.lemmas.List.{length-append}
use Rattle.std.proofs.lemmas.Bool.{false≢true}
use Rattle.std.proofs.Math.Seq.{get_or-append_seam, take-append_seam}
use Rattle.std.specs.List.{AllPass}
use Rattle.hex.specs.Hex.{IsBytes, decode_of, encode_lower, is_hex_digit}
use Rattle.hex.proofs.HexLemmas.{decode_of-encode_lower, decode_of-ok}
use Rattle.tb_engine_streams.specs.KeyFiles.{last_of, without_last, without_line_end, keys_of_file, key_file_of}

-- digits don't end with a 13
no_return : (digits : List ℕ) → AllPass is_hex_digit digits → last_of digits ≢ 13
no_return [] h = λ e. let no : 0 ≡ 13 = e in absurd (omega (arith, no))
no_return (x ∷ xs) h = λ e.
    let digit = h (length (x ∷ xs) - 1) 0 (omega arith) in
    let no : is_hex_digit 13 ≡ true = subst (λ d. is_hex_digit d ≡ true) e digit in
    false≢true no

-- a text that does not end with 13 keeps all its bytes
without_no_return : (digits : List ℕ) → last_of digits ≢ 13 → without_last 13 digits ≡ digits
without_no_return digits other = grind (other, arith)

-- the line's end is taken off digits
off_digits : (digits : List ℕ) → last_of digits ≢ 13 → without_line_end (digits ++ 10 ∷ []) ≡ digits
off_digits digits other =
    let shorter : length (digits ++ 10 ∷ []) - 1 ≡ length digits = omega (arith, length-append digits (10 ∷ [])) in
    rw (shorter, get_or-append_seam digits 10 [] 0, take-append_seam digits (10 ∷ [])) (without_no_return digits other)

-- the key file that is written for keys reads back as these keys
pub spelled : (keys : List ℕ) → IsBytes keys → keys_of_file (key_file_of keys) ≡ Ok keys
spelled keys bytes =
    let back = decode_of-encode_lower keys bytes in
    let digits = (decode_of-ok _ _ back).1 in
    ap decode_of (off_digits (encode_lower keys) (no_return _ digits)) ∙ back

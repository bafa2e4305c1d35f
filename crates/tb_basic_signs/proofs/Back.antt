-- Why what is written for a byte is read as that byte, and a whole text as its bytes.
use Rattle.std.proofs.Common.{◌≡◌, ℕ, suc, ◌+◌, ◌*◌, ◌/◌, ◌%◌, ◌<◌, ◌≤◌, Bool, true, false, not, ◌&&◌, ◌==◌, List, [], ◌∷◌, ◌++◌, length, take, drop, get_or, Option, Some, None, option_map, refl, sym, ap, ◌∙◌, arith, append_assoc, length-append}
use Rattle.std.specs.Prelude.{flat_map, if◌then◌else◌}
use Rattle.std.specs.List.{list_all}
use Rattle.std.specs.Option.{option_map_or}
use Rattle.std.proofs.lemmas.Bool.{eqb-true}
use Rattle.std.proofs.lemmas.Bool.Decides.{nat_tests}
use Rattle.std.proofs.lemmas.List.{take-append-le}
use Rattle.std.proofs.Math.Seq.{take-length, drop-append_seam}
use Rattle.tb_words.specs.Hexadecimal.{hex_digit, two_digits}
use Rattle.tb_basic_signs.specs.Characters.{character, character_at, closing, hexadecimal, may_hold, repeated, sign_behind, stands_for}
use Rattle.tb_basic_signs.specs.Names.{Control, control, controls, first_with, name_of}
use Rattle.tb_basic_signs.specs.Texts.{bytes_of, inside_of, is_itself, meant, written}
use Rattle.tb_basic_signs.proofs.Turns.{from_character}

-- whether bytes have no closing brace among them
abbrev pub lacks_brace : List ℕ → Bool
lacks_brace xs = list_all (λ b. not (b == 125)) xs

-- one more byte before the first closing brace
closes_later : (n x : ℕ) (xs rest : List ℕ) → (lacks_brace xs ≡ true → closing (n + 1) (xs ++ 125 ∷ rest) ≡ Some (n + 1 + length xs))
    → (t : Bool) → (x == 125) ≡ t → lacks_brace (x ∷ xs) ≡ true → closing n ((x ∷ xs) ++ 125 ∷ rest) ≡ Some (n + length (x ∷ xs))
closes_later n x xs rest later true e h = let bad : false ≡ true = rw e at h in cc
closes_later n x xs rest later false e h =
    let more : lacks_brace xs ≡ true = rw e at h in
    let sum : n + 1 + length xs ≡ n + length (x ∷ xs) = omega arith in
    rw e (later more ∙ ap (λ k. Some k) sum)

-- the first closing brace is the one after bytes that have none
closes : (n : ℕ) (xs rest : List ℕ) → lacks_brace xs ≡ true → closing n (xs ++ 125 ∷ rest) ≡ Some (n + length xs)
closes n [] rest h = ap (λ k. Some k) (omega arith)
closes n (x ∷ xs) rest h = closes_later n x xs rest (λ more. closes (n + 1) xs rest more) (x == 125) refl h

take_front : (xs ys : List ℕ) → take (length xs) (xs ++ ys) ≡ xs
take_front xs ys = take-append-le (length xs) xs ys (omega arith) ∙ take-length xs

-- bytes between two braces that stand for a byte, as those of a row of the table of names do for its byte
pub record IsRow (c : Control) : Type 0 where
  pub no_brace : lacks_brace c.name ≡ true
  pub means : stands_for c.name ≡ Some (repeated 1 c.byte)

-- a sign is read where its inside stands for a byte
signed : (inside rest : List ℕ) (b : ℕ) → IsRow (control inside b) → sign_behind (inside ++ 125 ∷ rest) ≡ Some (character (length inside + 2) (repeated 1 b))
signed inside rest b row =
    let end : closing 0 (inside ++ 125 ∷ rest) ≡ Some (length inside) = closes 0 inside rest row.no_brace ∙ ap (λ k. Some k) (omega arith) in
    let front : take (length inside) (inside ++ 125 ∷ rest) ≡ inside = take_front inside (125 ∷ rest) in
    let means : stands_for inside ≡ Some (repeated 1 b) = row.means in
    rw (end, front, means) refl

-- such rows
abbrev AreRows : List Control → Type 0
AreRows [] = Unit {0}
AreRows (c ∷ cs) = IsRow c × AreRows cs

row : {c : Control} → lacks_brace c.name ≡ true → stands_for c.name ≡ Some (repeated 1 c.byte) → IsRow c
row none is = record { no_brace = none; means = is }

rows : AreRows controls
rows = (
  row refl refl,
  (
    row refl refl,
    (
      row refl refl,
      (
        row refl refl,
        (
          row refl refl,
          (
            row refl refl,
            (
              row refl refl,
              (
                row refl refl,
                (
                  row refl refl,
                  (
                    row refl refl,
                    (
                      row refl refl,
                      (
                        row refl refl,
                        (
                          row refl refl,
                          (
                            row refl refl,
                            (
                              row refl refl,
                              (
                                row refl refl,
                                (
                                  row refl refl,
                                  (
                                    row refl refl,
                                    (
                                      row refl refl,
                                      (
                                        row refl refl,
                                        (
                                          row refl refl,
                                          (row refl refl, (row refl refl, (row refl refl, (row refl refl, (row refl refl, (row refl refl, (row refl refl, tt))))))),
                                        ),
                                      ),
                                    ),
                                  ),
                                ),
                              ),
                            ),
                          ),
                        ),
                      ),
                    ),
                  ),
                ),
              ),
            ),
          ),
        ),
      ),
    ),
  ),
)

-- a digit is read as its value
digit_read : (d : ℕ) → d < 16 → hexadecimal (hex_digit d) ≡ Some d
digit_read d small = grind (arith, nat_tests)

-- a digit is no closing brace
digit_open : (d : ℕ) → d < 16 → (hex_digit d == 125) ≡ false
digit_open d small = grind (arith, nat_tests)

halves : (b : ℕ) → b < 256 → 16 * (b / 16 % 16) + b % 16 ≡ b
halves b small = omega arith

-- a byte that is written as itself is read as itself
itself : (b : ℕ) (rest : List ℕ) → is_itself b ≡ true → character_at (b ∷ rest) ≡ Some (character 1 (repeated 1 b))
itself b rest h = grind (arith, nat_tests)

-- the first row of a byte in a table, by whether it is the first one
first_named : (b : ℕ) (c : Control) (cs : List Control) (name : List ℕ) → IsRow c → (first_with b cs ≡ Some name → IsRow (control name b))
    → (t : Bool) → (c.byte == b) ≡ t → first_with b (c ∷ cs) ≡ Some name → IsRow (control name b)
first_named b c cs name one others true e is =
    let same : c.byte ≡ b = eqb-true c.byte b e in
    let found : Some c.name ≡ Some name = rw e at is in
    let called : c.name ≡ name = cc in
    record { no_brace = ap lacks_brace (sym called) ∙ one.no_brace; means = ap stands_for (sym called) ∙ one.means ∙ ap (λ k. Some (repeated 1 k)) same }
first_named b c cs name one others false e is = others (rw e at is)

-- the first name of a byte in a table of such rows has no brace, and stands for the byte
named : (b : ℕ) (cs : List Control) (name : List ℕ) → AreRows cs → first_with b cs ≡ Some name → IsRow (control name b)
named b [] name are is = cc
named b (c ∷ cs) name (one, others) is = first_named b c cs name one (λ later. named b cs name others later) (c.byte == b) refl is

-- two digits of a byte have no brace, and stand for it
digits : (b : ℕ) → b < 256 → may_hold b ≡ true → IsRow (control (two_digits b []) b)
digits b small holds =
    let high : b / 16 % 16 < 16 = omega arith in
    let low : b % 16 < 16 = omega arith in
    record {
      no_brace = rw (digit_open (b / 16 % 16) high, digit_open (b % 16) low) refl;
      means = rw (digit_read (b / 16 % 16) high, digit_read (b % 16) low, halves b small, holds) refl;
    }

-- what stands between braces for a byte has no brace, and stands for it
inside_read : (b : ℕ) → b < 256 → may_hold b ≡ true → IsRow (control (inside_of b) b)
inside_read b small holds = go (name_of b) refl
  where
    go : (o : Option (List ℕ)) → name_of b ≡ o → IsRow (control (option_map_or (λ name. name) o (two_digits b [])) b)
    go None e = digits b small holds
    go (Some name) e = named b controls name rows e

-- a sign is read as its byte
sign_read : (inside rest : List ℕ) (b : ℕ) → IsRow (control inside b)
    → character_at ((123 ∷ inside ++ 125 ∷ []) ++ rest) ≡ Some (character (length (123 ∷ inside ++ 125 ∷ [])) (repeated 1 b))
sign_read inside rest b row =
    let size : length inside + 2 ≡ length (123 ∷ inside ++ 125 ∷ []) = omega (arith, length-append inside (125 ∷ [])) in
    ap sign_behind (append_assoc inside (125 ∷ []) rest) ∙ signed inside rest b row ∙ ap (λ n. Some (character n (repeated 1 b))) size

-- a byte as itself, or as a sign
abbrev spelled : Bool → ℕ → List ℕ
spelled t b = if t then b ∷ [] else 123 ∷ inside_of b ++ 125 ∷ []

-- what is written for a byte is read as that byte
written_read : (b : ℕ) (rest : List ℕ) → b < 256 → may_hold b ≡ true → character_at (written b ++ rest) ≡ Some (character (length (written b)) (repeated 1 b))
written_read b rest small holds = go (is_itself b) refl
  where
    go : (t : Bool) → is_itself b ≡ t → character_at (spelled t b ++ rest) ≡ Some (character (length (spelled t b)) (repeated 1 b))
    go true e = itself b rest e
    go false e = sign_read (inside_of b) rest b (inside_read b small holds)

some_spelled : (t : Bool) (b : ℕ) → 1 ≤ length (spelled t b)
some_spelled true b = omega arith
some_spelled false b = omega arith

both : (p q : Bool) → (p && q) ≡ true → (p ≡ true) × (q ≡ true)
both true q h = (refl, h)
both false q h = cc

-- bytes
abbrev pub AreBytes : List ℕ → Type 0
AreBytes [] = Unit {0}
AreBytes (b ∷ bytes) = (b < 256) × AreBytes bytes

pub are_bytes : (bytes : List ℕ) → ((i : ℕ) → get_or bytes i 0 < 256) → AreBytes bytes
are_bytes [] each = tt
are_bytes (b ∷ bytes) each = (each 0, are_bytes bytes (λ i. each (suc i)))

-- one byte before a text that is read
one_before : (b : ℕ) (bytes rest : List ℕ) → b < 256 → may_hold b ≡ true → bytes_of rest ≡ Some bytes → bytes_of (written b ++ rest) ≡ Some (b ∷ bytes)
one_before b bytes rest small holds is =
    let c = character (length (written b)) (repeated 1 b) in
    let left : drop (length (written b)) (written b ++ rest) ≡ rest = drop-append_seam (written b) rest in
    from_character (written b ++ rest) c (written_read b rest small holds) (some_spelled (is_itself b) b)
    ∙ ap (λ t. option_map (meant c) (bytes_of t)) left ∙ ap (λ o. option_map (meant c) o) is

-- a whole text that was written is read as its bytes
pub back : (bytes : List ℕ) → AreBytes bytes → list_all may_hold bytes ≡ true → bytes_of (flat_map written bytes) ≡ Some bytes
back [] are holds = refl
back (b ∷ bytes) (small, are) holds =
    let parts = both (may_hold b) (list_all may_hold bytes) holds in
    one_before b bytes (flat_map written bytes) small parts.0 (back bytes are parts.1)

-- Parts are tokens: what `tbc asm` reads as parts of a line, `tbc assemble` reads as tokens of it.
use Rattle.std.proofs.Common.{◌≡◌, ℕ, suc, ◌+◌, ◌-◌, ◌*◌, ◌<◌, ◌≤◌, Bool, true, false, ◌&&◌, ◌||◌, List, [], ◌∷◌, ◌++◌, length, take, map, length-append}
use Rattle.std.proofs.Common.{Option, Some, None, Ok, refl, sym, ap, subst, ◌∙◌, eqb, add-one, append_assoc, if◌then◌else◌, arith, true≢false, nat_lt}
use Rattle.std.specs.Prelude.{option_and_then}
use Rattle.std.proofs.lemmas.Bool.Decides.{nat_tests, Decides-eqb}
use Rattle.std.proofs.lemmas.List.{append-nil, length-map, map-append}
use Rattle.tb_asm.specs.declared.parts.Part.{Part}
use Rattle.tb_asm.specs.declared.parts.Part.TheVariants.{TwoDigits, FourDigits, Less, Greater}
use Rattle.tb_asm.specs.declared.parts.Part.TheVariants as part_sign
use Rattle.tb_asm.specs.Names.{fold_byte, is_letter, may_follow, is_between}
use Rattle.tb_asm.specs.Parts.{between, in_identifier, in_number, identifier, parts_from, parts_of, with_part, with_found, number_of, digit_value, digit_on, letter_on, fresh, sign_of}
use Rattle.tb_asm.proofs.LineParts.{letter_begins}
use Rattle.tb_assembly_text.specs.declared.tokens.Sign.{Sign}
use Rattle.tb_assembly_text.specs.declared.tokens.Sign.TheVariants as signs
use Rattle.tb_assembly_text.specs.Tokens.{Lead, word, number, sign, blank, ending, found, refused, run, is_decimal, begins_word, is_name_byte, digit_of, is_digit_in, digits_in}
use Rattle.tb_assembly_text.specs.Tokens.{word_lead, number_lead, value_lead, character_lead, text_lead, begins_with, single_lead, sign_lead, first_lead, before, read_lead, tokens_from}
use Rattle.tb_assembly_text.specs.declared.faults.FaultKind.TheVariants.{NameTooLong, NoDigits}
use Rattle.tb_assembly_laws.proofs.Words.{none_some}
use Rattle.tb_assembly_laws.proofs.Pieces.{Piece, letters, two, four, hash, less, greater, left, right, comma, colon, Written, part, token, doubles, IsSound, AreSound}

-- what a rest of a line spells, of which the first bytes belong to a token before
abbrev pub Spells : ℕ → ℕ → List ℕ → List Part → Type 0
Spells inside c l ps = (qs : List Written) × (ps ≡ map part qs) × AreSound qs × (doubles qs ≡ false → tokens_from inside c l ≡ Ok (map token qs))

-- between two parts
abbrev Between : List ℕ → Type 0
Between l = (c : ℕ) (ps : List Part) → parts_from between l ≡ Some ps → Spells 0 c l ps

-- in a word that began at a column with some letters
abbrev WordFrom : ℕ → List ℕ → ℕ → List ℕ → List Part → Type 0
WordFrom d raw c l ps =
    (qs : List Written) × (ps ≡ map part ((d, letters (raw ++ take (run is_name_byte l) l)) ∷ qs)) × AreSound qs
    × (doubles qs ≡ false → tokens_from (run is_name_byte l) c l ≡ Ok (map token qs)) × (length raw + run is_name_byte l ≤ 31)

abbrev InWord : List ℕ → Type 0
InWord l = (raw : List ℕ) (d c : ℕ) (ps : List Part) → length raw ≤ 31 → parts_from (in_identifier (map fold_byte raw)) l ≡ Some ps → WordFrom d raw c l ps

-- the digits of a number and its value: at most four, each below 16
abbrev Fits : List ℕ → ℕ → Type 0
Fits [] v = v ≡ 0
Fits (a ∷ []) v = (v ≡ a) × (a < 16)
Fits (a ∷ b ∷ []) v = (v ≡ 16 * a + b) × (a < 16) × (b < 16)
Fits (a ∷ b ∷ c ∷ []) v = (v ≡ 256 * a + 16 * b + c) × (a < 16) × (b < 16) × (c < 16)
Fits (a ∷ b ∷ c ∷ d ∷ []) v = (v ≡ 4096 * a + 256 * b + 16 * c + d) × (a < 16) × (b < 16) × (c < 16) × (d < 16)
Fits (a ∷ b ∷ c ∷ d ∷ e ∷ ds) v = ⊥

-- in a number that began at a column with some digits
abbrev NumberFrom : ℕ → List ℕ → ℕ → ℕ → List ℕ → List Part → Type 0
NumberFrom d ds v c l ps =
    (q : Piece) × (qs : List Written) × (u : ℕ) × (ps ≡ part (d, q) ∷ map part qs) × AreSound ((d, q) ∷ qs)
    × (doubles ((d, q) ∷ qs) ≡ doubles qs) × (token (d, q) ≡ (d, number u))
    × (doubles qs ≡ false → tokens_from (run (is_digit_in 16) l) c l ≡ Ok (map token qs))
    × (digits_in 16 v (take (run (is_digit_in 16) l) l) ≡ Some u) × (0 < length ds + run (is_digit_in 16) l)

abbrev InNumber : List ℕ → Type 0
InNumber l = (ds : List ℕ) (v d c : ℕ) (ps : List Part) → Fits ds v → parts_from (in_number ds) l ≡ Some ps → NumberFrom d ds v c l ps

-- ── parts after a part ──
part_first : (p : Part) (o : Option (List Part)) (ps : List Part) → with_part p o ≡ Some ps → (more : List Part) × (o ≡ Some more) × (ps ≡ p ∷ more)
part_first p None ps h = absurd (none_some h)
part_first p (Some more) ps h = (more, refl, let e : p ∷ more ≡ ps = cc in sym e)

-- ── single bytes ──
pub eqb_is : (a b : ℕ) → eqb a b ≡ true → a ≡ b
eqb_is a b = (Decides-eqb a b).0

-- a byte is a known one, or another
choose : (b n : ℕ) (P : ℕ → Type 0) → P n → (eqb b n ≡ false → P b) → P b
choose b n P here other = by (eqb b n) refl
  where
    by : (t : Bool) → eqb b n ≡ t → P b
    by true e = subst P (sym (eqb_is b n e)) here
    by false e = other e

-- both go on with the same bytes in a word
same_follow : (b : ℕ) → is_name_byte b ≡ may_follow (fold_byte b)
same_follow b = grind (arith, nat_tests)

-- a letter begins a word
module _ (b : ℕ) (is : is_letter (fold_byte b) ≡ true) where
  no_blank : (eqb b 32 || eqb b 9) ≡ false
  no_blank = grind (arith, nat_tests)

  no_comment : eqb b 59 ≡ false
  no_comment = grind (arith, nat_tests)

  no_dollar : eqb b 36 ≡ false
  no_dollar = grind (arith, nat_tests)

  no_percent : eqb b 37 ≡ false
  no_percent = grind (arith, nat_tests)

  no_quote : eqb b 39 ≡ false
  no_quote = grind (arith, nat_tests)

  no_text : eqb b 34 ≡ false
  no_text = grind (arith, nat_tests)

  no_digit : is_decimal b ≡ false
  no_digit = grind (arith, nat_tests)

  is_word : begins_word b ≡ true
  is_word = grind (arith, nat_tests)

  word_first : (bs : List ℕ) → first_lead (b ∷ bs) ≡ word_lead (b ∷ bs)
  word_first bs = λ i.
      if no_blank i then blank else
      if no_comment i then ending else
      if no_dollar i then value_lead 16 bs 1 else
      if no_percent i then value_lead 2 bs 1 else
      if no_quote i then character_lead bs else
      if no_text i then text_lead bs else
      if no_digit i then value_lead 10 (b ∷ bs) 0 else
      if is_word i then word_lead (b ∷ bs) else sign_lead b bs

-- the value of a digit
digit_same : (b : ℕ) (t : Bool) → is_digit_in 16 b ≡ t → digit_value b ≡ (if t then Some (digit_of b) else None)
digit_same b t e = by (is_decimal b) (is_between 65 70 b) (is_between 97 102 b) refl refl refl ∙ ap (λ x. if x then Some (digit_of b) else None) e
  where
    low : is_decimal b ≡ true → nat_lt (b - 48) 16 ≡ true
    low h = grind (arith, nat_tests)

    capital : is_between 65 70 b ≡ true → nat_lt (b - 55) 16 ≡ true
    capital h = grind (arith, nat_tests)

    small : is_between 97 102 b ≡ true → nat_lt (b - 87) 16 ≡ true
    small h = grind (arith, nat_tests)

    fits : (d : ℕ) → nat_lt d 16 ≡ true → Some d ≡ (if nat_lt d 16 then Some d else None)
    fits d h = sym (ap (λ x. if x then Some d else None) h)

    by : (s t u : Bool) → is_decimal b ≡ s → is_between 65 70 b ≡ t → is_between 97 102 b ≡ u
        → (if s then Some (b - 48) else if t then Some (b - 55) else if u then Some (b - 87) else None)
        ≡ (if nat_lt (if s then b - 48 else if t then b - 55 else if u then b - 87 else 16) 16
        then Some (if s then b - 48 else if t then b - 55 else if u then b - 87 else 16) else None)
    by true t u h i j = fits (b - 48) (low h)
    by false true u h i j = fits (b - 55) (capital i)
    by false false true h i j = fits (b - 87) (small j)
    by false false false h i j = refl

digit_small : (b : ℕ) → is_digit_in 16 b ≡ true → digit_of b < 16
digit_small b e = grind (arith, nat_tests)

-- ── words ──
-- a word that is read up to its end
word_ends : (raw : List ℕ) (d c : ℕ) (l : List ℕ) (ps : List Part) → run is_name_byte l ≡ 0 → Between l → length raw ≤ 31
    → with_part (identifier (map fold_byte raw)) (parts_from between l) ≡ Some ps → WordFrom d raw c l ps
word_ends raw d c l ps none read few h =
    let (more, is, all) = part_first (identifier (map fold_byte raw)) (parts_from between l) ps h in
    let (qs, same, sound, tokens) = read c more is in
    let same_raw : raw ≡ raw ++ take (run is_name_byte l) l = sym (ap (λ n. raw ++ take n l) none ∙ append-nil raw) in (
      qs,
      all ∙ (λ i. identifier (map fold_byte (same_raw i)) ∷ same i),
      sound,
      λ clean. ap (λ n. tokens_from n c l) none ∙ tokens clean,
      omega (arith, few, none),
    )

-- one letter more
word_on : (raw : List ℕ) (d c b : ℕ) (bs : List ℕ) (ps : List Part) → run is_name_byte (b ∷ bs) ≡ suc (run is_name_byte bs) → WordFrom d (raw ++ b ∷ []) (c + 1) bs ps
    → WordFrom d raw c (b ∷ bs) ps
word_on raw d c b bs ps more (qs, same, sound, tokens, few) =
    let letters_same : (raw ++ b ∷ []) ++ take (run is_name_byte bs) bs ≡ raw ++ take (run is_name_byte (b ∷ bs)) (b ∷ bs) =
    append_assoc raw (b ∷ []) (take (run is_name_byte bs) bs) ∙ ap (λ n. raw ++ take n (b ∷ bs)) (sym more) in
    let size : length (raw ++ b ∷ []) ≡ length raw + 1 = length-append raw (b ∷ []) in (
      qs,
      same ∙ ap (λ w. map part ((d, letters w) ∷ qs)) letters_same,
      sound,
      λ clean. ap (λ n. tokens_from n c (b ∷ bs)) more ∙ tokens clean,
      omega (arith, few, size, more),
    )

-- a byte in a word
word_read : (b : ℕ) (bs : List ℕ) → Between (b ∷ bs) → InWord bs → InWord (b ∷ bs)
word_read b bs fresh_here on raw d c ps few h = by (may_follow (fold_byte b)) refl h
  where
    w : List ℕ
    w = map fold_byte raw

    goes : (t : Bool) → nat_lt (length (map fold_byte raw)) 31 ≡ t → may_follow (fold_byte b) ≡ true
        → (if t then parts_from (in_identifier (map fold_byte raw ++ fold_byte b ∷ [])) bs else None) ≡ Some ps → WordFrom d raw c (b ∷ bs) ps
    goes false e is g = absurd (none_some g)
    goes true e is g =
        let size : length (map fold_byte raw) ≡ length raw = length-map raw fold_byte in
        let below : length raw < 31 = grind (arith, nat_tests) in
        let longer : length (raw ++ b ∷ []) ≡ length raw + 1 = length-append raw (b ∷ []) in
        let more : run is_name_byte (b ∷ bs) ≡ suc (run is_name_byte bs) =
        ap (λ x. if x then run is_name_byte bs + 1 else 0) (same_follow b ∙ is) ∙ add-one (run is_name_byte bs) in
        word_on raw d c b bs ps more (on (raw ++ b ∷ []) d (c + 1) ps (omega (arith, below, longer))
        (ap (λ x. parts_from (in_identifier x) bs) (map-append fold_byte raw (b ∷ [])) ∙ g))

    by : (t : Bool) → may_follow (fold_byte b) ≡ t
        → (if t then letter_on (map fold_byte raw) (fold_byte b) (λ q. parts_from q bs) else with_part (identifier (map fold_byte raw)) (fresh b (λ q. parts_from q bs))) ≡ Some ps
        → WordFrom d raw c (b ∷ bs) ps
    by true is g = goes (nat_lt (length (map fold_byte raw)) 31) refl is g
    by false is g =
        let none : run is_name_byte (b ∷ bs) ≡ 0 = ap (λ x. if x then run is_name_byte bs + 1 else 0) (same_follow b ∙ is) in
        word_ends raw d c (b ∷ bs) ps none fresh_here few g

-- ── numbers ──
fits_more : (ds : List ℕ) (v d : ℕ) → Fits ds v → nat_lt (length ds) 4 ≡ true → d < 16 → Fits (ds ++ d ∷ []) (v * 16 + d)
fits_more [] v d f few l = (omega (arith, f), l)
fits_more (a ∷ []) v d f few l = (omega (arith, f.0), f.1, l)
fits_more (a ∷ b ∷ []) v d f few l = (omega (arith, f.0), f.1, f.2, l)
fits_more (a ∷ b ∷ c ∷ []) v d f few l = (omega (arith, f.0), f.1, f.2, f.3, l)
fits_more (a ∷ b ∷ c ∷ e ∷ []) v d f few l = absurd (true≢false (sym few))
fits_more (a ∷ b ∷ c ∷ e ∷ g ∷ ds) v d f few l = absurd f

fits_small : (ds : List ℕ) (v : ℕ) → Fits ds v → v < 65536
fits_small [] v f = omega (arith, f)
fits_small (a ∷ []) v f = omega (arith, f.0, f.1)
fits_small (a ∷ b ∷ []) v f = omega (arith, f.0, f.1, f.2)
fits_small (a ∷ b ∷ c ∷ []) v f = omega (arith, f.0, f.1, f.2, f.3)
fits_small (a ∷ b ∷ c ∷ d ∷ []) v f = omega (arith, f.0, f.1, f.2, f.3, f.4)
fits_small (a ∷ b ∷ c ∷ d ∷ e ∷ ds) v f = absurd f

-- a number that is read up to its end
number_ends : (ds : List ℕ) (v d c : ℕ) (l : List ℕ) (ps : List Part) → Fits ds v → run (is_digit_in 16) l ≡ 0 → Between l
    → with_found (number_of ds) (parts_from between l) ≡ Some ps → NumberFrom d ds v c l ps
number_ends [] v d c l ps f none read h = absurd (none_some h)
number_ends (a ∷ []) v d c l ps f none read h = absurd (none_some h)
number_ends (a ∷ b ∷ []) v d c l ps f none read h =
    let (more, is, all) = part_first (TwoDigits (16 * a + b)) (parts_from between l) ps h in
    let (qs, same, sound, tokens) = read c more is in
    let value : 16 * a + b ≡ v = sym f.0 in (
      two v,
      qs,
      v,
      all ∙ (λ i. TwoDigits (value i) ∷ same i),
      (omega (arith, f.0, f.1, f.2), sound),
      refl,
      refl,
      λ clean. ap (λ n. tokens_from n c l) none ∙ tokens clean,
      ap (λ n. digits_in 16 v (take n l)) none,
      omega (arith, none),
    )
number_ends (a ∷ b ∷ e ∷ []) v d c l ps f none read h = absurd (none_some h)
number_ends (a ∷ b ∷ e ∷ g ∷ []) v d c l ps f none read h =
    let (more, is, all) = part_first (FourDigits (4096 * a + 256 * b + 16 * e + g)) (parts_from between l) ps h in
    let (qs, same, sound, tokens) = read c more is in
    let value : 4096 * a + 256 * b + 16 * e + g ≡ v = sym f.0 in (
      four v,
      qs,
      v,
      all ∙ (λ i. FourDigits (value i) ∷ same i),
      (omega (arith, f.0, f.1, f.2, f.3, f.4), sound),
      refl,
      refl,
      λ clean. ap (λ n. tokens_from n c l) none ∙ tokens clean,
      ap (λ n. digits_in 16 v (take n l)) none,
      omega (arith, none),
    )
number_ends (a ∷ b ∷ e ∷ g ∷ k ∷ ds) v d c l ps f none read h = absurd f

-- one digit more
number_on : (ds : List ℕ) (v d c b : ℕ) (bs : List ℕ) (ps : List Part) → v * 16 + digit_of b < 65536 → run (is_digit_in 16) (b ∷ bs) ≡ suc (run (is_digit_in 16) bs)
    → NumberFrom d (ds ++ digit_of b ∷ []) (v * 16 + digit_of b) (c + 1) bs ps → NumberFrom d ds v c (b ∷ bs) ps
number_on ds v d c b bs ps small more (q, qs, u, same, sound, single, lexed, tokens, digits, some) =
    let fits : nat_lt (v * 16 + digit_of b) 4294967296 ≡ true = grind (arith, nat_tests) in
    let size : length (ds ++ digit_of b ∷ []) ≡ length ds + 1 = length-append ds (digit_of b ∷ []) in (
      q,
      qs,
      u,
      same,
      sound,
      single,
      lexed,
      λ clean. ap (λ n. tokens_from n c (b ∷ bs)) more ∙ tokens clean,
      ap (λ n. digits_in 16 v (take n (b ∷ bs))) more
          ∙ ap (λ x. option_and_then (λ n. digits_in 16 n (take (run (is_digit_in 16) bs) bs)) (if x then Some (v * 16 + digit_of b) else None)) fits ∙ digits,
      omega (arith, more),
    )

-- a byte in a number
number_read : (b : ℕ) (bs : List ℕ) → Between (b ∷ bs) → InNumber bs → InNumber (b ∷ bs)
number_read b bs fresh_here on ds v d c ps f h = by (is_digit_in 16 b) refl (digit_same b (is_digit_in 16 b) refl) h
  where
    goes : (t : Bool) → nat_lt (length ds) 4 ≡ t → is_digit_in 16 b ≡ true
        → (if t then parts_from (in_number (ds ++ digit_of b ∷ [])) bs else None) ≡ Some ps → NumberFrom d ds v c (b ∷ bs) ps
    goes false e is g = absurd (none_some g)
    goes true e is g =
        let fit : Fits (ds ++ digit_of b ∷ []) (v * 16 + digit_of b) = fits_more ds v (digit_of b) f e (digit_small b is) in
        let more : run (is_digit_in 16) (b ∷ bs) ≡ suc (run (is_digit_in 16) bs) =
        ap (λ x. if x then run (is_digit_in 16) bs + 1 else 0) is ∙ add-one (run (is_digit_in 16) bs) in
        number_on ds v d c b bs ps (fits_small (ds ++ digit_of b ∷ []) (v * 16 + digit_of b) fit) more
        (on (ds ++ digit_of b ∷ []) (v * 16 + digit_of b) d (c + 1) ps fit g)

    by : (t : Bool) → is_digit_in 16 b ≡ t → digit_value b ≡ (if t then Some (digit_of b) else None)
        → digit_on (digit_value b) ds b (λ q. parts_from q bs) ≡ Some ps → NumberFrom d ds v c (b ∷ bs) ps
    by true is e g = goes (nat_lt (length ds) 4) refl is (sym (ap (λ x. digit_on x ds b (λ q. parts_from q bs)) e) ∙ g)
    by false is e g =
        let none : run (is_digit_in 16) (b ∷ bs) ≡ 0 = ap (λ x. if x then run (is_digit_in 16) bs + 1 else 0) is in
        number_ends ds v d c (b ∷ bs) ps f none fresh_here (sym (ap (λ x. digit_on x ds b (λ q. parts_from q bs)) e) ∙ g)

-- ── two signs that may be read as one ──
less_clean : (c : ℕ) (qs : List Written) → doubles ((c, less) ∷ qs) ≡ false → doubles qs ≡ false
less_clean c [] h = refl
less_clean c ((d, less) ∷ qs) h = absurd (true≢false h)
less_clean c (q ∷ qs) h = h

less_first : (c : ℕ) (qs : List Written) (more : List Part) → map part qs ≡ Less ∷ more → doubles ((c, less) ∷ qs) ≡ true
less_first c [] more e = cc
less_first c ((d, less) ∷ qs) more e = refl
less_first c (q ∷ qs) more e = cc

no_less : (c : ℕ) (bs : List ℕ) (qs : List Written) → parts_from between bs ≡ Some (map part qs) → doubles ((c, less) ∷ qs) ≡ false → begins_with 60 bs ≡ false
no_less c [] qs is clean = refl
no_less c (b ∷ bs) qs is clean = by (eqb b 60) refl
  where
    by : (t : Bool) → eqb b 60 ≡ t → eqb b 60 ≡ false
    by false e = e
    by true e =
        let (more, rest, all) = part_first Less (parts_from between bs) (map part qs) (ap (λ x. parts_from between (x ∷ bs)) (sym (eqb_is b 60 e)) ∙ is) in
        absurd (true≢false (sym (less_first c qs more all) ∙ clean))

greater_clean : (c : ℕ) (qs : List Written) → doubles ((c, greater) ∷ qs) ≡ false → doubles qs ≡ false
greater_clean c [] h = refl
greater_clean c ((d, greater) ∷ qs) h = absurd (true≢false h)
greater_clean c (q ∷ qs) h = h

greater_first : (c : ℕ) (qs : List Written) (more : List Part) → map part qs ≡ Greater ∷ more → doubles ((c, greater) ∷ qs) ≡ true
greater_first c [] more e = cc
greater_first c ((d, greater) ∷ qs) more e = refl
greater_first c (q ∷ qs) more e = cc

no_greater : (c : ℕ) (bs : List ℕ) (qs : List Written) → parts_from between bs ≡ Some (map part qs) → doubles ((c, greater) ∷ qs) ≡ false → begins_with 62 bs ≡ false
no_greater c [] qs is clean = refl
no_greater c (b ∷ bs) qs is clean = by (eqb b 62) refl
  where
    by : (t : Bool) → eqb b 62 ≡ t → eqb b 62 ≡ false
    by false e = e
    by true e =
        let (more, rest, all) = part_first Greater (parts_from between bs) (map part qs) (ap (λ x. parts_from between (x ∷ bs)) (sym (eqb_is b 62 e)) ∙ is) in
        absurd (true≢false (sym (greater_first c qs more all) ∙ clean))

-- ── where a part begins ──
-- what a byte before a rest of a line spells
abbrev Fresh : List ℕ → ℕ → Type 0
Fresh bs b = Between (b ∷ bs)

module _ (bs : List ℕ) (read : Between bs) (words : InWord bs) (numbers : InNumber bs) where
  comment : Fresh bs 59
  comment c ps h = ([], (let e : [] ≡ ps = cc in sym e), tt, λ clean. refl)

  space : Fresh bs 32
  space c ps h = let (qs, same, sound, tokens) = read (c + 1) ps h in (qs, same, sound, tokens)

  -- a letter or a full stop before the rest of a word
  word_begins : (b c : ℕ) (ps : List Part) → first_lead (b ∷ bs) ≡ word_lead (b ∷ bs) → parts_from (in_identifier (fold_byte b ∷ [])) bs ≡ Some ps → Spells 0 c (b ∷ bs) ps
  word_begins b c ps lead h =
      let (qs, same, sound, tokens, few) = words (b ∷ []) c (c + 1) ps (omega arith) h in
      let k = run is_name_byte bs in
      let short : nat_lt 255 (k + 1) ≡ false = grind (arith, nat_tests) in
      let one : k + 1 ≡ suc k = add-one k in
      let less_one : k + 1 - 1 ≡ k = omega arith in
      let found_here : first_lead (b ∷ bs) ≡ found (word (b ∷ take k bs)) (k + 1) =
      lead ∙ ap (λ x. if x then refused NameTooLong else found (word (take (k + 1) (b ∷ bs))) (k + 1)) short ∙ ap (λ n. found (word (take n (b ∷ bs))) (k + 1)) one in (
        (c, letters (b ∷ take k bs)) ∷ qs,
        same,
        (tt, sound),
        λ clean.
            ap (λ m. read_lead m c (λ n. tokens_from n (c + 1) bs)) found_here
            ∙ ap (λ n. before (c, word (b ∷ take k bs)) (tokens_from n (c + 1) bs)) less_one ∙ ap (before (c, word (b ∷ take k bs))) (tokens clean),
      )

  letter : (b : ℕ) → is_letter (fold_byte b) ≡ true → Fresh bs b
  letter b is c ps h = word_begins b c ps (word_first b is bs) (sym (letter_begins b is bs) ∙ h)

  dot : Fresh bs 46
  dot c ps h = word_begins 46 c ps refl h

  dollar : Fresh bs 36
  dollar c ps h =
      let (q, qs, u, same, sound, single, lexed, tokens, digits, some) = numbers [] 0 c (c + 1) ps refl h in
      let k = run (is_digit_in 16) bs in
      let digit : eqb k 0 ≡ false = grind (arith, nat_tests) in
      let less_one : k + 1 - 1 ≡ k = omega arith in
      let found_here : first_lead (36 ∷ bs) ≡ found (number u) (k + 1) =
      ap (λ x. if x then refused NoDigits else number_lead (k + 1) (digits_in 16 0 (take k bs))) digit ∙ ap (number_lead (k + 1)) digits in (
        (c, q) ∷ qs,
        same,
        sound,
        λ clean.
            ap (λ m. read_lead m c (λ n. tokens_from n (c + 1) bs)) found_here
            ∙ ap (λ n. before (c, number u) (tokens_from n (c + 1) bs)) less_one
            ∙ ap (before (c, number u)) (tokens (sym single ∙ clean)) ∙ ap (λ t. Ok (t ∷ map token qs)) (sym lexed),
      )

  -- a sign
  with_sign : (b : ℕ) (q : Piece) (c : ℕ) (ps : List Part) → with_part (part (c, q)) (parts_from between bs) ≡ Some ps → IsSound (c, q)
      → ((qs : List Written) → parts_from between bs ≡ Some (map part qs) → doubles ((c, q) ∷ qs) ≡ false
      → (read_lead (first_lead (b ∷ bs)) c (λ n. tokens_from n (c + 1) bs) ≡ before (token (c, q)) (tokens_from 0 (c + 1) bs)) × (doubles qs ≡ false))
      → Spells 0 c (b ∷ bs) ps
  with_sign b q c ps h sound_here lead =
      let (more, is, all) = part_first (part (c, q)) (parts_from between bs) ps h in
      let (qs, same, sound, tokens) = read (c + 1) more is in (
        (c, q) ∷ qs,
        all ∙ ap (λ t. part (c, q) ∷ t) same,
        (sound_here, sound),
        λ clean. let (first, rest) = lead qs (is ∙ ap Some same) clean in first ∙ ap (before (token (c, q))) (tokens rest),
      )

  -- a sign that is never part of another one
  plain : (x : Bool) (a b c d : Lead) → (if x && false then a else if x && false then b else if x && false then c else d) ≡ d
  plain true a b c d = refl
  plain false a b c d = refl

  plain_lead : (c : ℕ) (s : Sign) (b : ℕ)
      → (if begins_with b bs && false then ending else if begins_with b bs && false then found (sign signs.ShiftLeft) 2 else if begins_with b bs && false then found (sign signs.ShiftRight) 2 else single_lead (Some s))
      ≡ found (sign s) 1
  plain_lead c s b = plain (begins_with b bs) ending (found (sign signs.ShiftLeft) 2) (found (sign signs.ShiftRight) 2) (found (sign s) 1)

  -- nothing but an angle begins another sign
  read_plain : (c : ℕ) (s : Sign) (b : ℕ) (l : Lead) → l ≡ found (sign s) 1 → read_lead l c (λ n. tokens_from n (c + 1) bs) ≡ before (c, sign s) (tokens_from 0 (c + 1) bs)
  read_plain c s b l e = ap (λ m. read_lead m c (λ n. tokens_from n (c + 1) bs)) e

  sharp : Fresh bs 35
  sharp c ps h = with_sign 35 hash c ps h tt (λ qs is clean. (read_plain c signs.Hash 35 (first_lead (35 ∷ bs)) (plain_lead c signs.Hash 35), clean))

  opening : Fresh bs 40
  opening c ps h = with_sign 40 left c ps h tt (λ qs is clean. (read_plain c signs.Left 40 (first_lead (40 ∷ bs)) (plain_lead c signs.Left 40), clean))

  closing : Fresh bs 41
  closing c ps h = with_sign 41 right c ps h tt (λ qs is clean. (read_plain c signs.Right 41 (first_lead (41 ∷ bs)) (plain_lead c signs.Right 41), clean))

  commas : Fresh bs 44
  commas c ps h = with_sign 44 comma c ps h tt (λ qs is clean. (read_plain c signs.Comma 44 (first_lead (44 ∷ bs)) (plain_lead c signs.Comma 44), clean))

  colons : Fresh bs 58
  colons c ps h = with_sign 58 colon c ps h tt (λ qs is clean. (read_plain c signs.Colon 58 (first_lead (58 ∷ bs)) (plain_lead c signs.Colon 58), clean))

  -- two angles of one kind are a sign of another kind
  angle : Fresh bs 60
  angle c ps h = with_sign 60 less c ps h tt (λ qs is clean.
      let one : first_lead (60 ∷ bs) ≡ found (sign signs.Less) 1 =
      ap (λ x. if x && false then ending else if x && true then found (sign signs.ShiftLeft) 2 else if x && false then found (sign signs.ShiftRight) 2 else single_lead (Some signs.Less))
      (no_less c bs qs is clean) in
      (read_plain c signs.Less 60 (first_lead (60 ∷ bs)) one, less_clean c qs clean))

  other_angle : Fresh bs 62
  other_angle c ps h = with_sign 62 greater c ps h tt (λ qs is clean.
      let one : first_lead (62 ∷ bs) ≡ found (sign signs.Greater) 1 =
      ap (λ x. if x && false then ending else if x && false then found (sign signs.ShiftLeft) 2 else if x && true then found (sign signs.ShiftRight) 2 else single_lead (Some signs.Greater))
      (no_greater c bs qs is clean) in
      (read_plain c signs.Greater 62 (first_lead (62 ∷ bs)) one, greater_clean c qs clean))

  fresh_read : (b : ℕ) → Fresh bs b
  fresh_read b =
      choose b 59 (Fresh bs) comment (λ n59. choose b 32 (Fresh bs) space (λ n32. choose b 46 (Fresh bs) dot (λ n46.
      choose b 36 (Fresh bs) dollar (λ n36. choose b 35 (Fresh bs) sharp (λ n35. choose b 60 (Fresh bs) angle (λ n60. choose b 62 (Fresh bs) other_angle (λ n62.
      choose b 40 (Fresh bs) opening (λ n40. choose b 41 (Fresh bs) closing (λ n41. choose b 44 (Fresh bs) commas (λ n44. choose b 58 (Fresh bs) colons (λ n58.
      by (is_letter (fold_byte b)) refl n59 n32 n46 n36 n35 n60 n62 n40 n41 n44 n58)))))))))))
    where
      by : (t : Bool) → is_letter (fold_byte b) ≡ t → eqb b 59 ≡ false → eqb b 32 ≡ false → eqb b 46 ≡ false → eqb b 36 ≡ false → eqb b 35 ≡ false → eqb b 60 ≡ false
          → eqb b 62 ≡ false → eqb b 40 ≡ false → eqb b 41 ≡ false → eqb b 44 ≡ false → eqb b 58 ≡ false → Fresh bs b
      by true is n59 n32 n46 n36 n35 n60 n62 n40 n41 n44 n58 = letter b is
      by false is n59 n32 n46 n36 n35 n60 n62 n40 n41 n44 n58 = λ c ps h.
          let no_sign : sign_of b ≡ None = λ i.
          if n35 i then Some part_sign.Hash else
          if n60 i then Some part_sign.Less else
          if n62 i then Some part_sign.Greater else
          if n40 i then Some part_sign.Left else
          if n41 i then Some part_sign.Right else
          if n44 i then Some part_sign.Comma else
          if n58 i then Some part_sign.Colon else None in
          let nothing : parts_from between (b ∷ bs) ≡ None = λ i.
          if n59 i then Some [] else
          if n32 i then parts_from between bs else
          if is i || n46 i then parts_from (in_identifier (fold_byte b ∷ [])) bs else
          if n36 i then parts_from (in_number []) bs else with_found (no_sign i) (parts_from between bs) in
          absurd (none_some (sym nothing ∙ h))

-- all that a rest of a line spells, wherever the reading is
all_read : (l : List ℕ) → Between l × InWord l × InNumber l
all_read [] =
    let here : Between [] = λ c ps h. ([], (let e : [] ≡ ps = cc in sym e), tt, λ clean. refl) in
    (here, λ raw d c ps few h. word_ends raw d c [] ps refl here few h, λ ds v d c ps f h. number_ends ds v d c [] ps f refl here h)
all_read (b ∷ bs) =
    let (read, words, numbers) = all_read bs in
    let here : Between (b ∷ bs) = fresh_read bs read words numbers b in
    (here, word_read b bs here words, number_read b bs here numbers)

-- the parts of a line are tokens of it, if no two signs are read as one
pub spells : (l : List ℕ) (ps : List Part) → parts_of l ≡ Some ps → Spells 0 1 l ps
spells l ps h = (all_read l).0 1 ps h

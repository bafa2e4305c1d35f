-- What is kept of a line decides the line's squeezed bytes in each notation.
use Rattle.std.proofs.Common.{◌≡◌, ℕ, zero, suc, ◌+◌, ◌-◌, ◌≤◌, Bool, true, false, ◌&&◌, List, [], ◌∷◌, ◌++◌, length, replicate, Option, Some, None, refl, sym, ap, ◌∙◌, arith, ◌==◌, ◌⊎◌, inl, inr, if◌then◌else◌}
use Rattle.std.proofs.lemmas.Bool.{eqb-true}
use Rattle.std.proofs.lemmas.List.{map-append}
use Rattle.tb_basic_grammar.specs.Reading.{when}
use Rattle.tb_basic_signs.specs.declared.characters.Character.{Character}
use Rattle.tb_basic_signs.specs.Characters.{character, character_at, is_plain, repeated, sign_behind}
use Rattle.tb_basic_signs.specs.Characters as signs
use Rattle.tb_basic_text.specs.declared.notation.Notation.{Notation}
use Rattle.tb_basic_text.specs.declared.notation.Notation.TheVariants.{Plain, Signs}
use Rattle.tb_parser.specs.Notations.{squeezed_in}
use Rattle.tb_parser.specs.Squeezed.{bytes}
use Rattle.tb_parser.specs.Squeezed as parser
use Rattle.tb_parser.specs.Signed.{may_begin, placed_of, sign_at}
use Rattle.tb_parser.specs.Signed as signed
use Rattle.tb_basic_format.specs.declared.modes.Mode.{Mode}
use Rattle.tb_basic_format.specs.declared.modes.Mode.TheVariants.{Code, CodeR, CodeRe, Text, Remark}
use Rattle.tb_basic_format.specs.Kept.{after, is_dropped, kept_from, written}
use Rattle.tb_basic_format.proofs.KeptBytes.{ParserMode, parsed, dropped_mode, dropped_space, passed_kept, same_after, same_dropped, same_plain, taken_kept, written_mode, written_shown}
use Rattle.tb_basic_format.proofs.SignEnds.{before, sign_before, sign_within, true_or_false}

-- ── a text, of which all is kept ──
and_false : (t : Bool) → (t && false) ≡ false
and_false true = refl
and_false false = refl

text_goes_on : (b : ℕ) (line : List ℕ) → (b == 34) ≡ false → kept_from Text (b ∷ line) ≡ b ∷ kept_from Text line
text_goes_on b line other =
    let mode : after Text b ≡ Text = rw other refl in
    taken_kept Text b line (and_false (b == 32)) ∙ ap (λ (m : Mode). b ∷ kept_from m line) mode

-- up to its quote it is the same
before_kept : (line : List ℕ) → before (kept_from Text line) ≡ before line
unfolding kept_from
before_kept [] = refl
before_kept (b ∷ line) = elim (true_or_false (b == 34)) [
  | inl quote ↦ let is : b ≡ 34 = eqb-true b 34 quote in rw is refl
  | inr other ↦ ap (λ (t : List ℕ). before t) (text_goes_on b line other) ∙ rw other (ap (λ (t : List ℕ). b ∷ t) (before_kept line))
]

-- so the same character begins there
character_kept : (b : ℕ) (line : List ℕ) → character_at (b ∷ line) ≡ character_at (b ∷ kept_from Text line)
character_kept b line =
    let same : sign_behind line ≡ sign_behind (kept_from Text line) =
    sign_before line ∙ sym (sign_before (kept_from Text line) ∙ ap (λ (t : List ℕ). sign_behind t) (before_kept line)) in
    ap (λ (c : Option Character). if b == 123 then c else if is_plain b then Some (character 1 (repeated 1 (signs.upper b))) else None) same

-- and it ends before the quote
character_within : (b : ℕ) (line : List ℕ) (c : Character) → character_at (b ∷ line) ≡ Some c → c.length - 1 ≤ length (before line)
character_within b line c e = elim (true_or_false (b == 123)) [
  | inl brace ↦
      let sign : sign_behind line ≡ Some c = rw brace at e in
      let h : c.length ≤ length (before line) + 1 = sign_within (before line) c (sym (sign_before line) ∙ sign) in
      omega (arith, h)
  | inr other ↦ elim (true_or_false (is_plain b)) [
    | inl plain ↦
        let made : Some (character 1 (repeated 1 (signs.upper b))) ≡ Some c = rw (other, plain) at e in
        let is : character 1 (repeated 1 (signs.upper b)) ≡ c = cc in
        let one : 1 ≡ c.length = ap (λ (d : Character). d.length) is in
        omega (arith, one)
    | inr bad ↦ absurd (let no_match : None ≡ Some c = rw (other, bad) at e in cc)
  ]
]

-- ── a sign ──
-- the sign that begins at a byte of a line begins there in what is kept
sign_kept : (m : Mode) (b : ℕ) (line : List ℕ) → sign_at (parsed m) (b ∷ line) ≡ sign_at (parsed m) (written m b ∷ kept_from (after m b) line)
sign_kept Code b line = refl
sign_kept CodeR b line = refl
sign_kept CodeRe b line = refl
sign_kept Text b line = elim (true_or_false (b == 34)) [
  | inl quote ↦ let is : b ≡ 34 = eqb-true b 34 quote in rw is refl
  | inr other ↦
      let mode : after Text b ≡ Text = rw other refl in
      ap (λ (c : Option Character). if may_begin (parsed Text) b then c else None) (character_kept b line)
      ∙ ap (λ (m : Mode). sign_at (parsed Text) (b ∷ kept_from m line)) (sym mode)
]
sign_kept Remark b line = refl

-- a sign is in a text, and begins in what is kept of that
record IsInText (m : Mode) (b : ℕ) (line : List ℕ) (c : Character) : Type 0 where
  in_text : m ≡ Text
  kept : kept_from m (b ∷ line) ≡ b ∷ kept_from m line
  still : sign_at (parsed m) (b ∷ kept_from m line) ≡ Some c
  fits : c.length - 1 ≤ length (before line)

some_only : {A : Type 0} (t : Bool) (o : Option A) (a : A) → (if t then o else None) ≡ Some a → o ≡ Some a
some_only true o a e = e
some_only false o a e = absurd (let no_match : None ≡ Some a = e in cc)

sign_in_text : (m : Mode) (b : ℕ) (line : List ℕ) (c : Character) → sign_at (parsed m) (b ∷ line) ≡ Some c → IsInText m b line c
sign_in_text Code b line c e = absurd (let no_match : None ≡ Some c = e in cc)
sign_in_text CodeR b line c e = absurd (let no_match : None ≡ Some c = e in cc)
sign_in_text CodeRe b line c e = absurd (let no_match : None ≡ Some c = e in cc)
sign_in_text Text b line c e = elim (true_or_false (b == 34)) [
  | inl quote ↦
      let is : b ≡ 34 = eqb-true b 34 quote in
      absurd (let no_match : None ≡ Some c = rw is at e in cc)
  | inr other ↦ record {
    in_text = refl;
    kept = text_goes_on b line other;
    still = ap (λ (o : Option Character). if may_begin (parsed Text) b then o else None) (sym (character_kept b line)) ∙ e;
    fits = character_within b line c (some_only (may_begin (parsed Text) b) (character_at (b ∷ line)) c e);
  }
]
sign_in_text Remark b line c e = absurd (let no_match : None ≡ Some c = e in cc)

-- no sign begins with a byte that is dropped
dropped_sign : (m : Mode) (b : ℕ) (line : List ℕ) → is_dropped m b ≡ true → sign_at (parsed m) (b ∷ line) ≡ None
dropped_sign Code b line e = refl
dropped_sign CodeR b line e = refl
dropped_sign CodeRe b line e = refl
dropped_sign Text b line e = let space : b ≡ 32 = dropped_space Text b e in rw space refl
dropped_sign Remark b line e = refl

placed_bytes : (n column b : ℕ) → bytes (replicate n (record { byte = b; column = column; in_code = false })) ≡ replicate n b
placed_bytes zero column b = refl
placed_bytes (suc n) column b = ap (λ (t : List ℕ). b ∷ t) (placed_bytes n column b)

-- ── the squeezed bytes ──
-- what the parser shows of the bytes that are kept, from after those on that belong to a sign before
shown_signed : (taken : ℕ) → Mode → List ℕ → List ℕ
shown_signed taken m [] = []
shown_signed (suc taken) m (b ∷ kept) = shown_signed taken m kept
shown_signed zero m (b ∷ kept) =
    when (sign_at (parsed m) (b ∷ kept)) (parser.shown (parsed m) b ∷ shown_signed 0 (after m b) kept)
    (λ c. replicate c.times c.byte ++ shown_signed (c.length - 1) m kept)

-- bytes that belong to a sign before are in its text
abbrev AreInText : (taken : ℕ) → Mode → List ℕ → Type 0
AreInText zero m line = Unit {0}
AreInText (suc taken) m line = (m ≡ Text) × (suc taken ≤ length (before line))

are_in_text : (taken : ℕ) (m : Mode) (line : List ℕ) → m ≡ Text → taken ≤ length (before line) → AreInText taken m line
are_in_text zero m line is fits = tt
are_in_text (suc taken) m line is fits = (is, fits)

-- such a byte is kept, and passed
record IsPassed (taken : ℕ) (m : Mode) (b : ℕ) (line : List ℕ) : Type 0 where
  kept : kept_from m (b ∷ line) ≡ b ∷ kept_from m line
  later : AreInText taken m line

passes : (taken : ℕ) (m : Mode) (b : ℕ) (line : List ℕ) → AreInText (suc taken) m (b ∷ line) → IsPassed taken m b line
passes taken m b line (is, fits) = elim (true_or_false (b == 34)) [
  | inl quote ↦ absurd (let none : suc taken ≤ 0 = rw quote at fits in omega (arith, none))
  | inr other ↦
      let some : suc taken ≤ suc (length (before line)) = rw other at fits in record {
        kept = rw is (text_goes_on b line other);
        later = are_in_text taken m line is (omega (arith, some));
      }
]

-- a byte that is dropped, that is taken and that begins a sign, by the parser
passed_squeezed : (m : Mode) (column b : ℕ) (line : List ℕ) → sign_at (parsed m) (b ∷ line) ≡ None → parser.is_dropped (parsed m) b ≡ true
    → bytes (signed.squeezed_from 0 (parsed m) column (b ∷ line)) ≡ bytes (signed.squeezed_from 0 (parser.after (parsed m) b) (column + 1) line)
unfolding signed.squeezed_from
passed_squeezed m column b line none e = rw (none, e) refl

taken_squeezed : (m : Mode) (column b : ℕ) (line : List ℕ) → sign_at (parsed m) (b ∷ line) ≡ None → parser.is_dropped (parsed m) b ≡ false
    → bytes (signed.squeezed_from 0 (parsed m) column (b ∷ line)) ≡ parser.shown (parsed m) b ∷ bytes (signed.squeezed_from 0 (parser.after (parsed m) b) (column + 1) line)
unfolding signed.squeezed_from
taken_squeezed m column b line none e = rw (none, e) refl

sign_squeezed : (m : Mode) (column b : ℕ) (line : List ℕ) (c : Character) → sign_at (parsed m) (b ∷ line) ≡ Some c
    → bytes (signed.squeezed_from 0 (parsed m) column (b ∷ line)) ≡ replicate c.times c.byte ++ bytes (signed.squeezed_from (c.length - 1) (parsed m) (column + 1) line)
unfolding signed.squeezed_from
sign_squeezed m column b line c some =
    let rest = signed.squeezed_from (c.length - 1) (parsed m) (column + 1) line in
    let front : bytes (signed.squeezed_from 0 (parsed m) column (b ∷ line)) ≡ bytes (placed_of column c ++ rest) = rw some refl in
    front ∙ (map-append (λ p. p.byte) (placed_of column c) rest ∙ ap (λ (t : List ℕ). t ++ bytes rest) (placed_bytes c.times column c.byte))

-- and of what is kept
taken_shown : (m : Mode) (b : ℕ) (kept : List ℕ) → sign_at (parsed m) (written m b ∷ kept) ≡ None
    → shown_signed 0 m (written m b ∷ kept) ≡ parser.shown (parsed m) b ∷ shown_signed 0 (after m b) kept
unfolding shown_signed
taken_shown m b kept none = rw (none, written_shown m b, written_mode m b) refl

sign_shown : (m : Mode) (b : ℕ) (kept : List ℕ) (c : Character) → sign_at (parsed m) (b ∷ kept) ≡ Some c
    → shown_signed 0 m (b ∷ kept) ≡ replicate c.times c.byte ++ shown_signed (c.length - 1) m kept
unfolding shown_signed
sign_shown m b kept c some = rw some refl

skipped_shown : (taken : ℕ) (m : Mode) (b : ℕ) (kept : List ℕ) → shown_signed (suc taken) m (b ∷ kept) ≡ shown_signed taken m kept
unfolding shown_signed
skipped_shown taken m b kept = refl

-- a byte at which no sign begins
by_byte : (m : Mode) (column b : ℕ) (line : List ℕ) → sign_at (parsed m) (b ∷ line) ≡ None
    → bytes (signed.squeezed_from 0 (parsed (after m b)) (column + 1) line) ≡ shown_signed 0 (after m b) (kept_from (after m b) line)
    → bytes (signed.squeezed_from 0 (parsed m) column (b ∷ line)) ≡ shown_signed 0 m (kept_from m (b ∷ line))
by_byte m column b line none later =
    let rest : bytes (signed.squeezed_from 0 (parser.after (parsed m) b) (column + 1) line) ≡ shown_signed 0 (after m b) (kept_from (after m b) line) =
    ap (λ (n : ParserMode). bytes (signed.squeezed_from 0 n (column + 1) line)) (same_after m b) ∙ later in
    elim (true_or_false (is_dropped m b)) [
      | inl dropped ↦
          passed_squeezed m column b line none (same_dropped m b ∙ dropped)
          ∙ (rest ∙ (ap (λ (n : Mode). shown_signed 0 n (kept_from (after m b) line)) (dropped_mode m b dropped)
          ∙ ap (λ (k : List ℕ). shown_signed 0 m k) (sym (passed_kept m b line dropped))))
      | inr kept ↦
          let still : sign_at (parsed m) (written m b ∷ kept_from (after m b) line) ≡ None = sym (sign_kept m b line) ∙ none in
          taken_squeezed m column b line none (same_dropped m b ∙ kept) ∙ (ap (λ (t : List ℕ). parser.shown (parsed m) b ∷ t) rest
          ∙ (sym (taken_shown m b (kept_from (after m b) line) still) ∙ ap (λ (k : List ℕ). shown_signed 0 m k) (sym (taken_kept m b line kept))))
    ]

-- a byte at which one begins
by_sign : (m : Mode) (column b : ℕ) (line : List ℕ) (c : Character) → sign_at (parsed m) (b ∷ line) ≡ Some c → IsInText m b line c
    → bytes (signed.squeezed_from (c.length - 1) (parsed m) (column + 1) line) ≡ shown_signed (c.length - 1) m (kept_from m line)
    → bytes (signed.squeezed_from 0 (parsed m) column (b ∷ line)) ≡ shown_signed 0 m (kept_from m (b ∷ line))
by_sign m column b line c some in_text later =
    sign_squeezed m column b line c some ∙ (ap (λ (t : List ℕ). replicate c.times c.byte ++ t) later
    ∙ (sym (sign_shown m b (kept_from m line) c in_text.still) ∙ ap (λ (k : List ℕ). shown_signed 0 m k) (sym in_text.kept)))

-- and one that belongs to a sign before
by_passed : (taken : ℕ) (m : Mode) (column b : ℕ) (line : List ℕ) → IsPassed taken m b line
    → bytes (signed.squeezed_from taken (parsed m) (column + 1) line) ≡ shown_signed taken m (kept_from m line)
    → bytes (signed.squeezed_from (suc taken) (parsed m) column (b ∷ line)) ≡ shown_signed (suc taken) m (kept_from m (b ∷ line))
unfolding signed.squeezed_from
by_passed taken m column b line passed later =
    later ∙ (sym (skipped_shown taken m b (kept_from m line)) ∙ ap (λ (k : List ℕ). shown_signed (suc taken) m k) (sym passed.kept))

none_or_some : (o : Option Character) → (o ≡ None) ⊎ ((c : Character) × (o ≡ Some c))
none_or_some None = inl refl
none_or_some (Some c) = inr (c, refl)

-- the squeezed bytes of a line with signs are what is shown of the bytes that are kept
signed_by : (taken : ℕ) (m : Mode) (column : ℕ) (line : List ℕ) → AreInText taken m line
    → bytes (signed.squeezed_from taken (parsed m) column line) ≡ shown_signed taken m (kept_from m line)
unfolding signed.squeezed_from kept_from shown_signed
signed_by zero m column [] w = refl
signed_by (suc taken) m column [] w = refl
signed_by (suc taken) m column (b ∷ line) w =
    let passed = passes taken m b line w in
    by_passed taken m column b line passed (signed_by taken m (column + 1) line passed.later)
signed_by zero m column (b ∷ line) w = elim (none_or_some (sign_at (parsed m) (b ∷ line))) [
  | inl none ↦ by_byte m column b line none (signed_by 0 (after m b) (column + 1) line tt)
  | inr found ↦
      let c = found.0 in
      let in_text = sign_in_text m b line c found.1 in
      by_sign m column b line c found.1 in_text (signed_by (c.length - 1) m (column + 1) line (are_in_text (c.length - 1) m line in_text.in_text in_text.fits))
]

-- lines of which the same is kept have the same squeezed bytes
pub same_squeezed : (notation : Notation) (new line : List ℕ) → kept_from Code new ≡ kept_from Code line
    → bytes (squeezed_in notation new) ≡ bytes (squeezed_in notation line)
same_squeezed Plain new line e = same_plain new line e
same_squeezed Signs new line e = signed_by 0 Code 1 new tt ∙ (ap (λ (k : List ℕ). shown_signed 0 Code k) e ∙ sym (signed_by 0 Code 1 line tt))

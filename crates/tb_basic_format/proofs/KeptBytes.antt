-- What is kept of a line has a line's end only where the line has it, and decides the line's squeezed bytes.
use Rattle.std.proofs.Common.{◌≡◌, ℕ, ◌+◌, Bool, true, false, List, [], ◌∷◌, refl, sym, ap, ◌∙◌, arith, ◌==◌, inl, inr, if◌then◌else◌}
use Rattle.std.proofs.lemmas.Bool.Decides.{nat_tests}
use Rattle.tb_parser.specs.Squeezed.{upper, bytes, shown, squeezed, squeezed_from}
use Rattle.tb_parser.specs.Squeezed as parser
use Rattle.tb_basic_format.specs.declared.modes.Mode.{Mode}
use Rattle.tb_basic_format.specs.declared.modes.Mode.TheVariants.{Code, CodeR, CodeRe, Text, Remark}
use Rattle.tb_basic_format.specs.Kept.{after, is_dropped, kept_from, written}
use Rattle.tb_basic_format.specs.Texts.{AreWithin, IsWithin}
use Rattle.tb_basic_format.proofs.SignEnds.{true_or_false}

-- a byte that is dropped is a space
pub dropped_space : (m : Mode) (b : ℕ) → is_dropped m b ≡ true → b ≡ 32
dropped_space Code b e = grind (arith, nat_tests)
dropped_space CodeR b e = grind (arith, nat_tests)
dropped_space CodeRe b e = grind (arith, nat_tests)
dropped_space Text b e = grind (arith, nat_tests)
dropped_space Remark b e = grind (arith, nat_tests)

upper_ten : (b : ℕ) → upper b ≡ 10 → b ≡ 10
upper_ten b e = grind (arith, nat_tests)

upper_thirteen : (b : ℕ) → upper b ≡ 13 → b ≡ 13
upper_thirteen b e = grind (arith, nat_tests)

low_ten : (b : ℕ) → b ≡ 10 → upper b ≡ 10
low_ten b e = rw e refl

low_thirteen : (b : ℕ) → b ≡ 13 → upper b ≡ 13
low_thirteen b e = rw e refl

upper_within : (b : ℕ) → IsWithin b → IsWithin (upper b)
upper_within b w = (λ e. w.0 (upper_ten b e), λ e. w.1 (upper_thirteen b e))

within_upper : (b : ℕ) → IsWithin (upper b) → IsWithin b
within_upper b w = (λ e. w.0 (low_ten b e), λ e. w.1 (low_thirteen b e))

written_within : (m : Mode) (b : ℕ) → IsWithin b → IsWithin (written m b)
written_within Code b w = upper_within b w
written_within CodeR b w = upper_within b w
written_within CodeRe b w = upper_within b w
written_within Text b w = w
written_within Remark b w = w

within_written : (m : Mode) (b : ℕ) → IsWithin (written m b) → IsWithin b
within_written Code b w = within_upper b w
within_written CodeR b w = within_upper b w
within_written CodeRe b w = within_upper b w
within_written Text b w = w
within_written Remark b w = w

-- no line's end is kept of a line without one
pub within_kept : (m : Mode) (line : List ℕ) → AreWithin line → AreWithin (kept_from m line)
unfolding kept_from
within_kept m [] w = tt
within_kept m (b ∷ line) w = elim (true_or_false (is_dropped m b)) [
  | inl dropped ↦ rw dropped (within_kept (after m b) line w.1)
  | inr kept ↦ rw kept (written_within m b w.0, within_kept (after m b) line w.1)
]

space_within : (b : ℕ) → b ≡ 32 → IsWithin b
space_within b e = (λ h. absurd (omega arith), λ h. absurd (omega arith))

-- a line of which no line's end is kept has none
pub within_line : (m : Mode) (line : List ℕ) → AreWithin (kept_from m line) → AreWithin line
unfolding kept_from
within_line m [] w = tt
within_line m (b ∷ line) w = elim (true_or_false (is_dropped m b)) [
  | inl dropped ↦ (space_within b (dropped_space m b dropped), within_line (after m b) line (rw dropped at w))
  | inr kept ↦ let v : AreWithin (written m b ∷ kept_from (after m b) line) = rw kept at w in (within_written m b v.0, within_line (after m b) line v.1)
]

-- ── the parser's squeezed text ──
-- The parser keeps the names of its modes to itself: their type is that of what its functions take, and the first one is
-- where its squeezed text begins.
abbrev Taken : {A B : Type 0} → (A → B) → Type 0
Taken {A} f = A

abbrev pub ParserMode : Type 0
ParserMode = Taken parser.is_in_code

record Beginning : Type 0 where
  mode : ParserMode
  begins : (line : List ℕ) → squeezed line ≡ squeezed_from mode 1 line

abbrev beginning : Beginning
beginning = record { mode = _; begins = λ line. refl }

-- the parser's mode for one of these
abbrev pub parsed : Mode → ParserMode
parsed Code = beginning.mode
parsed CodeR = parser.after beginning.mode 82
parsed CodeRe = parser.after (parser.after beginning.mode 82) 69
parsed Text = parser.after beginning.mode 34
parsed Remark = parser.after (parser.after (parser.after beginning.mode 82) 69) 77

parsed_if : (c : Bool) (m n : Mode) → parsed (if c then m else n) ≡ (if c then parsed m else parsed n)
parsed_if true m n = refl
parsed_if false m n = refl

-- both drop the same bytes
pub same_dropped : (m : Mode) (b : ℕ) → parser.is_dropped (parsed m) b ≡ is_dropped m b
same_dropped Code b = refl
same_dropped CodeR b = refl
same_dropped CodeRe b = refl
same_dropped Text b = refl
same_dropped Remark b = refl

-- and go on in the same modes
pub same_after : (m : Mode) (b : ℕ) → parser.after (parsed m) b ≡ parsed (after m b)
same_after Code b = simp parsed_if
same_after CodeR b = simp parsed_if
same_after CodeRe b = simp parsed_if
same_after Text b = simp parsed_if
same_after Remark b = refl

-- a byte that is dropped changes no mode
pub dropped_mode : (m : Mode) (b : ℕ) → is_dropped m b ≡ true → after m b ≡ m
dropped_mode Code b e = let space : b ≡ 32 = dropped_space Code b e in rw space refl
dropped_mode CodeR b e = let space : b ≡ 32 = dropped_space CodeR b e in rw space refl
dropped_mode CodeRe b e = let space : b ≡ 32 = dropped_space CodeRe b e in rw space refl
dropped_mode Text b e = let space : b ≡ 32 = dropped_space Text b e in rw space refl
dropped_mode Remark b e = refl

upper_again : (b : ℕ) → upper (upper b) ≡ upper b
upper_again b = grind (arith, nat_tests)

space_stays : (b : ℕ) → (upper b == 32) ≡ (b == 32)
space_stays b = grind (arith, nat_tests)

quote_stays : (b : ℕ) → (upper b == 34) ≡ (b == 34)
quote_stays b = grind (arith, nat_tests)

-- a byte as it is written leads to the mode to which it led
pub written_mode : (m : Mode) (b : ℕ) → after m (written m b) ≡ after m b
written_mode Code b = rw (space_stays b, quote_stays b, upper_again b) refl
written_mode CodeR b = rw (space_stays b, quote_stays b, upper_again b) refl
written_mode CodeRe b = rw (space_stays b, quote_stays b, upper_again b) refl
written_mode Text b = refl
written_mode Remark b = refl

-- and is shown as it was
pub written_shown : (m : Mode) (b : ℕ) → parser.shown (parsed m) (written m b) ≡ parser.shown (parsed m) b
written_shown Code b = upper_again b
written_shown CodeR b = upper_again b
written_shown CodeRe b = upper_again b
written_shown Text b = refl
written_shown Remark b = refl

-- what the parser shows of the bytes that are kept
shown_from : Mode → List ℕ → List ℕ
shown_from m [] = []
shown_from m (b ∷ kept) = parser.shown (parsed m) b ∷ shown_from (after m b) kept

-- ── a byte of a line ──
taken_squeezed : (m : Mode) (column b : ℕ) (line : List ℕ) → parser.is_dropped (parsed m) b ≡ false
    → bytes (squeezed_from (parsed m) column (b ∷ line)) ≡ parser.shown (parsed m) b ∷ bytes (squeezed_from (parser.after (parsed m) b) (column + 1) line)
unfolding squeezed_from
taken_squeezed m column b line e = rw e refl

passed_squeezed : (m : Mode) (column b : ℕ) (line : List ℕ) → parser.is_dropped (parsed m) b ≡ true
    → bytes (squeezed_from (parsed m) column (b ∷ line)) ≡ bytes (squeezed_from (parser.after (parsed m) b) (column + 1) line)
unfolding squeezed_from
passed_squeezed m column b line e = rw e refl

pub taken_kept : (m : Mode) (b : ℕ) (line : List ℕ) → is_dropped m b ≡ false → kept_from m (b ∷ line) ≡ written m b ∷ kept_from (after m b) line
unfolding kept_from
taken_kept m b line e = rw e refl

pub passed_kept : (m : Mode) (b : ℕ) (line : List ℕ) → is_dropped m b ≡ true → kept_from m (b ∷ line) ≡ kept_from (after m b) line
unfolding kept_from
passed_kept m b line e = rw e refl

taken_shown : (m : Mode) (b : ℕ) (kept : List ℕ) → shown_from m (written m b ∷ kept) ≡ parser.shown (parsed m) b ∷ shown_from (after m b) kept
unfolding shown_from
taken_shown m b kept = rw (written_shown m b, written_mode m b) refl

-- the squeezed bytes of a line are what is shown of those that are kept
squeezed_by : (m : Mode) (column : ℕ) (line : List ℕ) → bytes (squeezed_from (parsed m) column line) ≡ shown_from m (kept_from m line)
unfolding squeezed_from kept_from shown_from
squeezed_by m column [] = refl
squeezed_by m column (b ∷ line) =
    let rest : bytes (squeezed_from (parser.after (parsed m) b) (column + 1) line) ≡ shown_from (after m b) (kept_from (after m b) line) =
    ap (λ (n : ParserMode). bytes (squeezed_from n (column + 1) line)) (same_after m b) ∙ squeezed_by (after m b) (column + 1) line in
    elim (true_or_false (is_dropped m b)) [
      | inl dropped ↦
          passed_squeezed m column b line (same_dropped m b ∙ dropped) ∙ (rest
          ∙ (ap (λ (n : Mode). shown_from n (kept_from (after m b) line)) (dropped_mode m b dropped)
          ∙ ap (λ (k : List ℕ). shown_from m k) (sym (passed_kept m b line dropped))))
      | inr kept ↦
          taken_squeezed m column b line (same_dropped m b ∙ kept) ∙ (ap (λ (t : List ℕ). parser.shown (parsed m) b ∷ t) rest
          ∙ (sym (taken_shown m b (kept_from (after m b) line)) ∙ ap (λ (k : List ℕ). shown_from m k) (sym (taken_kept m b line kept))))
    ]

-- lines of which the same is kept have the same squeezed bytes, where there are no signs
pub same_plain : (new line : List ℕ) → kept_from Code new ≡ kept_from Code line → bytes (squeezed new) ≡ bytes (squeezed line)
same_plain new line e = squeezed_by Code 1 new ∙ (ap (λ (k : List ℕ). shown_from Code k) e ∙ sym (squeezed_by Code 1 line))

-- At a place there is one token, and a line has one list of tokens.
use Rattle.std.proofs.Common.{◌≡◌, ◌≢◌, ℕ, ◌+◌, ◌-◌, ◌<◌, ◌≤◌, inl, inr, Bool, true, false, cond, ◌==◌, List, [], ◌∷◌, length, map, slice_index, slice_range, nat_le, Option, None, Some, refl, sym, ap, subst, ◌∙◌, arith}
use Rattle.std.specs.Prelude.{codes}
use Rattle.std.proofs.lemmas.Bool.{cases_order, cases_lt, eqb-true, ne_eqb, or_cases, and_parts, and_left, and_right, leb-true, lt-leb}
use Rattle.tb_basic_grammar.specs.Grammar.{is_digit}
use Rattle.tb_basic_grammar.specs.StatementReading.{spelled, keywords}
use Rattle.tb_basic_grammar.specs.StatementReading as reading
use Rattle.tb_basic_grammar.specs.declared.keywords.Keyword.{Keyword}
use Rattle.tb_basic_grammar.specs.declared.keywords.Keyword.TheVariants.{Let, Print, Pr, Input, If, Goto, Gosub, Return, End, Rem}
use Rattle.tb_parser.specs.declared.lexer.Awaits.{Awaits}
use Rattle.tb_parser.specs.declared.lexer.Awaits.TheVariants as awaits
use Rattle.tb_parser.specs.declared.lexer.Token.{Token}
use Rattle.tb_parser.specs.declared.lexer.TokenKind.{TokenKind}
use Rattle.tb_parser.specs.declared.lexer.TokenKind.TheVariants as kind
use Rattle.tb_parser.specs.Kinds.{IsWord, LacksWords, NumberAt, OperandAt, WordAt, FirstAt, LetterAt, TextAt, RelationAt, TokenAt, is_any_letter, is_sign, mark_of, awaited}
use Rattle.tb_parser.specs.Kinds.{random, variable, then, first_word, assigned, word, nothing, quoted, unclosed, pair, single, number, letter, text, relation, mark}
use Rattle.tb_parser.specs.Squeezed.{upper}
use Rattle.tb_parser.specs.Tokens.{start_of, end_of, IsSlice, BeginsWritten, Comes, IsNext, NoneComes, ComeTokens, TokensAreUnique, seen}
use Rattle.tb_parser.proofs.Longest.{spelled_some}
use Rattle.tb_parser.proofs.Written.{written_one, none_written, first_from, word_one, word_letters, word_heads, head}

-- two kinds are equal, and so are two ends
Same : TokenKind → ℕ → TokenKind → ℕ → Type 0
Same k e l f = (k ≡ l) × (e ≡ f)

-- a word that was read
word_read : Option (Keyword × List ℕ) → Keyword
word_read None = Let
word_read (Some p) = p.0

-- each word is read from its own letters
read_back : (k : Keyword) → word_read (reading.first_word keywords (spelled k)) ≡ k
unfolding word_read
read_back Let = refl
read_back Print = refl
read_back Pr = refl
read_back Input = refl
read_back If = refl
read_back Goto = refl
read_back Gosub = refl
read_back Return = refl
read_back End = refl
read_back Rem = refl

-- a word is the only one of its letters
spelled_one : (k l : Keyword) → spelled k ≡ spelled l → k ≡ l
spelled_one k l same = sym (read_back k) ∙ ap (λ (text : List ℕ). word_read (reading.first_word keywords text)) same ∙ read_back l

-- a letter is no digit
letter_no_digit : (b : ℕ) → is_any_letter b ≡ true → is_digit b ≡ false
letter_no_digit b is = elim (cases_lt 57 b) [
  | inl high ↦ and_right _ _ (lt-leb b 57 high)
  | inr low ↦
      let same : upper b ≡ b = ap (λ (t : Bool). cond t (b - 32) b) (and_left _ _ (lt-leb 97 b (omega arith))) in
      let from_a = leb-true 65 (upper b) (and_parts (nat_le 65 (upper b)) (nat_le (upper b) 90) is).0 in
      absurd (omega (arith, from_a, same))
]

-- no first word of a statement begins with T
no_t : (k : Keyword) → head (spelled k) ≡ 84 → ⊥
unfolding head
no_t Let e = omega arith
no_t Print e = omega arith
no_t Pr e = omega arith
no_t Input e = omega arith
no_t If e = omega arith
no_t Goto e = omega arith
no_t Gosub e = omega arith
no_t Return e = omega arith
no_t End e = omega arith
no_t Rem e = omega arith

-- what a byte may begin
data Class : Type 0 where
  for_number for_letter for_text for_relation for_mark : Class

module _ (line : List ℕ) (start : ℕ) where
  -- a number does not end before its last digit
  no_less : (e f : ℕ) → NumberAt line start e → NumberAt line start f → e < f → ⊥
  no_less e f h k lt =
      let last : slice_index line (f - 1) ≢ 32 = λ space. omega (arith, space, k.last.0) in
      let next = first_from line e (f - 1) (omega arith) (omega (arith, k.within)) last in
      elim (k.digits next.0 (omega (arith, h.some, next.1.in_order)) (omega (arith, next.2, lt))) [
        | inl digit ↦ h.no_more (next.0, next.1, digit)
        | inr space ↦ next.1.written space
      ]

  number_one : (e f : ℕ) → NumberAt line start e → NumberAt line start f → e ≡ f
  number_one e f h k = elim (cases_order e f) [
    | inl same ↦ same
    | inr apart ↦ elim apart [
      | inl lt ↦ absurd (no_less e f h k lt)
      | inr lt ↦ absurd (no_less f e k h lt)
    ]
  ]

  operand_one : (k : TokenKind) (e : ℕ) (l : TokenKind) (f : ℕ) → OperandAt line start k e → OperandAt line start l f → Same k e l f
  unfolding Same
  operand_one k e l f (random e' h) (random f' g) = (refl, word_one line start (codes "RND") e' f' h g)
  operand_one k e l f (random e' h) (variable none) = absurd (none e' h)
  operand_one k e l f (variable none) (random f' g) = absurd (none f' g)
  operand_one k e l f (variable none) (variable also) = (refl, refl)

  module _ (le : start ≤ length line) where
    word_same : (k : TokenKind) (e : ℕ) (l : TokenKind) (f : ℕ) → WordAt line start k e → WordAt line start l f → Same k e l f
    unfolding Same head
    word_same k e l f (then e' h) (then f' g) = (refl, word_one line start (codes "THEN") e' f' h g)
    word_same k e l f (then e' h) (first_word w f' g) = absurd (no_t w (word_heads line start (spelled w) (codes "THEN") f' e' (spelled_some w) (omega arith) g.word h))
    word_same k e l f (first_word v e' h) (then f' g) = absurd (no_t v (word_heads line start (spelled v) (codes "THEN") e' f' (spelled_some v) (omega arith) h.word g))
    word_same k e l f (first_word v e' h) (first_word w f' g) =
        let ends : e' ≡ f' = omega (arith, h.longest w f' g.word, g.longest v e' h.word) in
        let same : v ≡ w = spelled_one v w (word_letters line start (spelled v) (spelled w) f' le (subst (λ (n : ℕ). IsWord line start (spelled v) n) ends h.word) g.word) in
        (ap (λ (x : Keyword). kind.Keyword x) same, ends)

    -- THEN and the first words are missing where a word is none of them
    no_word : (k : TokenKind) (e : ℕ) → WordAt line start k e → LacksWords line start → ⊥
    no_word k e (then e' h) lacks = lacks.no_then e' h
    no_word k e (first_word w e' h) lacks = lacks.no_keyword w e' h.word

    first_one : (k : TokenKind) (e : ℕ) (l : TokenKind) (f : ℕ) → FirstAt line start k e → FirstAt line start l f → Same k e l f
    unfolding Same
    first_one k e l f (assigned h) (assigned g) = (refl, refl)
    first_one k e l f (assigned h) (word none l' f' g) = absurd (none h)
    first_one k e l f (assigned h) (nothing none g) = absurd (none h)
    first_one k e l f (word none k' e' h) (assigned g) = absurd (none g)
    first_one k e l f (word none k' e' h) (word also l' f' g) = word_same k' e' l' f' h g
    first_one k e l f (word none k' e' h) (nothing also g) = absurd (no_word k' e' h g)
    first_one k e l f (nothing none h) (assigned g) = absurd (none g)
    first_one k e l f (nothing none h) (word also l' f' g) = absurd (no_word l' f' g h)
    first_one k e l f (nothing none h) (nothing also g) = (refl, refl)

    letter_one : (a : Awaits) (k : TokenKind) (e : ℕ) (l : TokenKind) (f : ℕ) → LetterAt a line start k e → LetterAt a line start l f → Same k e l f
    letter_one awaits.Operand k e l f h g = operand_one k e l f h g
    letter_one awaits.Word k e l f h g = first_one k e l f h g
    letter_one awaits.Remark k e l f h g = first_one k e l f h g

  text_one : (k : TokenKind) (e : ℕ) (l : TokenKind) (f : ℕ) → TextAt line start k e → TextAt line start l f → Same k e l f
  unfolding Same
  text_one k e l f (quoted p lt within none quote) (quoted q lt' within' none' quote') = (
    refl,
    elim (cases_order p q) [
      | inl same ↦ ap (λ n. n + 1) same
      | inr apart ↦ elim apart [
        | inl less ↦ absurd (none' p (omega arith) less quote)
        | inr less ↦ absurd (none q (omega arith) less quote')
      ]
    ],
  )
  text_one k e l f (quoted p lt within none quote) (unclosed all) = absurd (all p (omega arith) within quote)
  text_one k e l f (unclosed all) (quoted q lt within none quote) = absurd (all q (omega arith) within quote)
  text_one k e l f (unclosed all) (unclosed also) = (refl, refl)

  relation_one : (e f : ℕ) → RelationAt line start e → RelationAt line start f → e ≡ f
  relation_one e f (pair p h is) (pair q g also) = ap (λ n. n + 1) (written_one line (start + 1) p q h g)
  relation_one e f (pair p h is) (single none) = absurd (none (p, h, is))
  relation_one e f (single none) (pair q g is) = absurd (none (q, g, is))
  relation_one e f (single none) (single also) = refl

  -- what a first byte begins
  class : ℕ → Class
  class b = cond (is_digit b) for_number (cond (is_any_letter b) for_letter (cond (b == 34) for_text (cond (is_sign b) for_relation for_mark)))

  -- the token by that
  ByClass : Awaits → Class → TokenKind → ℕ → Type 0
  ByClass a for_number k e = (k ≡ kind.Number) × NumberAt line start e
  ByClass a for_letter k e = LetterAt a line start k e
  ByClass a for_text k e = TextAt line start k e
  ByClass a for_relation k e = (k ≡ kind.Relation) × RelationAt line start e
  ByClass a for_mark k e = (k ≡ mark_of (slice_index line start)) × (e ≡ start + 1)

  by_class : (a : Awaits) (k : TokenKind) (e : ℕ) → TokenAt a line start k e → ByClass a (class (slice_index line start)) k e
  unfolding ByClass class
  by_class a k e (number e' digit h) =
      let here : class (slice_index line start) ≡ for_number = rw digit refl in
      subst (λ (n : Class). ByClass a n kind.Number e') (sym here) (refl, h)
  by_class a k e (letter k' e' is h) =
      let here : class (slice_index line start) ≡ for_letter = rw (letter_no_digit (slice_index line start) is, is) refl in
      subst (λ (n : Class). ByClass a n k' e') (sym here) h
  by_class a k e (text k' e' quote h) =
      let here : class (slice_index line start) ≡ for_text = rw quote refl in
      subst (λ (n : Class). ByClass a n k' e') (sym here) h
  by_class a k e (relation e' sign h) =
      let here : class (slice_index line start) ≡ for_relation = elim (or_cases (slice_index line start == 60) (slice_index line start == 62) sign) [
        | inl less ↦ rw (eqb-true (slice_index line start) 60 less) refl
        | inr more ↦ rw (eqb-true (slice_index line start) 62 more) refl
      ] in
      subst (λ (n : Class). ByClass a n kind.Relation e') (sym here) (refl, h)
  by_class a k e (mark no_digit no_letter no_quote no_sign) =
      let here : class (slice_index line start) ≡ for_mark = rw (no_digit, no_letter, ne_eqb (slice_index line start) 34 no_quote, no_sign) refl in
      subst (λ (n : Class). ByClass a n (mark_of (slice_index line start)) (start + 1)) (sym here) (refl, refl)

  class_one : (le : start ≤ length line) (a : Awaits) (n : Class) (k : TokenKind) (e : ℕ) (l : TokenKind) (f : ℕ) → ByClass a n k e → ByClass a n l f → Same k e l f
  unfolding ByClass Same
  class_one le a for_number k e l f h g = (h.0 ∙ sym g.0, number_one e f h.1 g.1)
  class_one le a for_letter k e l f h g = letter_one le a k e l f h g
  class_one le a for_text k e l f h g = text_one k e l f h g
  class_one le a for_relation k e l f h g = (h.0 ∙ sym g.0, relation_one e f h.1 g.1)
  class_one le a for_mark k e l f h g = (h.0 ∙ sym g.0, h.1 ∙ sym g.1)

  -- at a place there is one token
  token_one : start ≤ length line → (a : Awaits) (k : TokenKind) (e : ℕ) (l : TokenKind) (f : ℕ) → TokenAt a line start k e → TokenAt a line start l f → Same k e l f
  token_one le a k e l f h g = class_one le a (class (slice_index line start)) k e l f (by_class a k e h) (by_class a l f g)

-- two tokens have one kind, one beginning and one end
SameToken : Token → Token → Type 0
SameToken t u = (t.kind ≡ u.kind) × (start_of t ≡ start_of u) × (end_of t ≡ end_of u)

written_same : (a : Awaits) (line : List ℕ) (from : ℕ) (t u : Token) → BeginsWritten a line from t → BeginsWritten a line from u → SameToken t u
unfolding SameToken Same
written_same a line from t u h k =
    let starts : start_of t ≡ start_of u = written_one line from (start_of t) (start_of u) h.written k.written in
    let there : TokenAt a line (start_of t) u.kind (end_of u) = subst (λ (n : ℕ). TokenAt a line n u.kind (end_of u)) (sym starts) k.is in
    let both = token_one line (start_of t) (omega (arith, h.written.within)) a t.kind (end_of t) u.kind (end_of u) h.is there in
    (both.0, starts, both.1)

comes_same : (a : Awaits) (line : List ℕ) (from : ℕ) (t u : Token) → Comes a line from t → Comes a line from u → SameToken t u
unfolding SameToken
comes_same awaits.Operand line from t u h k = written_same awaits.Operand line from t u h k
comes_same awaits.Word line from t u h k = written_same awaits.Word line from t u h k
comes_same awaits.Remark line from t u h k = (h.is ∙ sym k.is, h.starts ∙ sym k.starts, h.ends ∙ sym k.ends)

-- tokens of one line with the same place are seen alike
seen_same : (line : List ℕ) (t u : Token) → IsSlice line t → IsSlice line u → SameToken t u → seen t ≡ seen u
unfolding SameToken
seen_same line t u h k same =
    let columns : t.column ≡ u.column = omega (arith, same.1, h.counted, k.counted) in
    let bytes : t.text.now ≡ u.text.now = h.slice ∙ ap (λ (n : ℕ). slice_range line n (end_of t)) same.1 ∙ ap (λ (n : ℕ). slice_range line (start_of u) n) same.2 ∙ sym k.slice in
    ap (λ (x : TokenKind). (x, t.column, t.text.now)) same.0 ∙ ap (λ (n : ℕ). (u.kind, n, t.text.now)) columns ∙ ap (λ (bs : List ℕ). (u.kind, u.column, bs)) bytes

-- where no token comes, none comes
none_comes : (a : Awaits) (line : List ℕ) (from : ℕ) (t : Token) → NoneComes a line from → IsNext a line from t → ⊥
none_comes awaits.Operand line from t none h = none_written line from (start_of t) none h.comes.written
none_comes awaits.Word line from t none h = none_written line from (start_of t) none h.comes.written
none_comes awaits.Remark line from t none h = omega (arith, h.comes.starts, h.comes.ends, h.bytes.some, none)

come_one : (a : Awaits) (line : List ℕ) (from : ℕ) (ts us : List Token) → ComeTokens a line from ts → ComeTokens a line from us → map seen ts ≡ map seen us
unfolding SameToken
come_one a line from [] [] h k = refl
come_one a line from [] (u ∷ us) h k = absurd (none_comes a line from u h k.0)
come_one a line from (t ∷ ts) [] h k = absurd (none_comes a line from t k h.0)
come_one a line from (t ∷ ts) (u ∷ us) h k =
    let same = comes_same a line from t u h.0.comes k.0.comes in
    let rest : ComeTokens (awaited t.kind) line (end_of u) us = subst (λ (x : TokenKind). ComeTokens (awaited x) line (end_of u) us) (sym same.0) k.1 in
    let moved : ComeTokens (awaited t.kind) line (end_of t) us = subst (λ (n : ℕ). ComeTokens (awaited t.kind) line n us) (sym same.2) rest in
    let more = come_one (awaited t.kind) line (end_of t) ts us h.1 moved in
    let first = seen_same line t u h.0.bytes k.0.bytes same in
    cc

-- `TokensAreUnique` holds: the law that `tokens_are_unique` hands on
pub tokens_one : TokensAreUnique
tokens_one line ts us h k = come_one awaits.Word line 0 ts us h k

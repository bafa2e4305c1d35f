-- The first of the words, of which each stands before its fronts, is the longest.
use Rattle.std.proofs.Common.{◌≡◌, ℕ, zero, suc, ◌<◌, ◌≤◌, inl, inr, Bool, true, false, List, [], ◌∷◌, ◌++◌, length, get_or, is_some, refl, sym, ap, subst, ◌∙◌, arith, ◌&&◌, not}
use Rattle.std.specs.Prelude.{codes}
use Rattle.std.proofs.lemmas.Bool.{cases_order, cases_lt, and_parts, not-true, true≢false, eq-eqb}
use Rattle.tb_basic_grammar.specs.Reading.{behind_word}
use Rattle.tb_basic_grammar.specs.StatementReading.{spelled, keywords}
use Rattle.tb_basic_grammar.specs.declared.keywords.Keyword.{Keyword}
use Rattle.tb_basic_grammar.specs.declared.keywords.Keyword.TheVariants.{Let, Print, Pr, Input, If, Goto, Gosub, Return, End, Rem}
use Rattle.tb_parser.specs.declared.lexer.TokenKind.{TokenKind}
use Rattle.tb_parser.specs.Kinds.{IsWord, LacksWord, IsLongest, LacksWords, WordAt, then, first_word}
use Rattle.tb_parser.proofs.Written.{word_one, word_front, word_moves_by, word_within}

-- where a word stands in the list
place_of : Keyword → ℕ
place_of Let = 0
place_of Print = 1
place_of Pr = 2
place_of Input = 3
place_of If = 4
place_of Goto = 5
place_of Gosub = 6
place_of Return = 7
place_of End = 8
place_of Rem = 9

placed : (k : Keyword) → (place_of k < 10) × (get_or keywords (place_of k) Let ≡ k)
unfolding place_of
placed Let = (omega arith, refl)
placed Print = (omega arith, refl)
placed Pr = (omega arith, refl)
placed Input = (omega arith, refl)
placed If = (omega arith, refl)
placed Goto = (omega arith, refl)
placed Gosub = (omega arith, refl)
placed Return = (omega arith, refl)
placed End = (omega arith, refl)
placed Rem = (omega arith, refl)

-- whether a word is a front of none of these
free : Keyword → List Keyword → Bool
free k [] = true
free k (w ∷ ws) = not (is_some (behind_word (spelled k) (spelled w))) && free k ws

-- whether none of these is a front of one behind it
all_free : List Keyword → Bool
all_free [] = true
all_free (w ∷ ws) = free w ws && all_free ws

-- a word is a front of itself with more letters
fits : (word rest : List ℕ) → is_some (behind_word word (word ++ rest)) ≡ true
fits [] rest = refl
fits (b ∷ word) rest = rw (eq-eqb b b refl) (fits word rest)

-- each word has letters
pub spelled_some : (k : Keyword) → 0 < length (spelled k)
spelled_some Let = omega arith
spelled_some Print = omega arith
spelled_some Pr = omega arith
spelled_some Input = omega arith
spelled_some If = omega arith
spelled_some Goto = omega arith
spelled_some Gosub = omega arith
spelled_some Return = omega arith
spelled_some End = omega arith
spelled_some Rem = omega arith

-- a word that is a front of none of these is not one of them with more letters
free_at : (k : Keyword) (ws : List Keyword) (n : ℕ) (rest : List ℕ) → free k ws ≡ true → n < length ws → spelled (get_or ws n Let) ≡ spelled k ++ rest → ⊥
unfolding free
free_at k [] n rest e lt same = absurd (omega arith)
free_at k (w ∷ ws) zero rest e lt same =
    let parts = and_parts (not (is_some (behind_word (spelled k) (spelled w)))) (free k ws) e in
    let none : is_some (behind_word (spelled k) (spelled w)) ≡ false = not-true _ parts.0 in
    true≢false (sym (fits (spelled k) rest) ∙ ap (λ (text : List ℕ). is_some (behind_word (spelled k) text)) (sym same) ∙ none)
free_at k (w ∷ ws) (suc n) rest e lt same =
    let parts = and_parts (not (is_some (behind_word (spelled k) (spelled w)))) (free k ws) e in
    free_at k ws n rest parts.1 (omega arith) same

-- no word of such a list is one before it with more letters
free_behind : (ws : List Keyword) (i n : ℕ) (rest : List ℕ) → all_free ws ≡ true → i < n → n < length ws → spelled (get_or ws n Let) ≡ spelled (get_or ws i Let) ++ rest → ⊥
unfolding all_free
free_behind [] i n rest e lt within same = absurd (omega arith)
free_behind (w ∷ ws) i zero rest e lt within same = absurd (omega arith)
free_behind (w ∷ ws) zero (suc n) rest e lt within same = free_at w ws n rest (and_parts (free w ws) (all_free ws) e).0 (omega arith) same
free_behind (w ∷ ws) (suc i) (suc n) rest e lt within same = free_behind ws i n rest (and_parts (free w ws) (all_free ws) e).1 (omega arith) (omega arith) same

keywords_free : all_free keywords ≡ true
unfolding free all_free
keywords_free = refl

module _ (line : List ℕ) (start : ℕ) where
  -- the first word of the list that stands there is the longest
  pub is_longest : (i end : ℕ) → start ≤ length line → i < 10 → ((n : ℕ) → n < i → LacksWord line start (spelled (get_or keywords n Let)))
      → IsWord line start (spelled (get_or keywords i Let)) end → IsLongest line start (get_or keywords i Let) end
  is_longest i end le lt none here = record { word = here; longest = longest }
    where
      longest : (other : Keyword) (place : ℕ) → IsWord line start (spelled other) place → place ≤ end
      longest other place there =
          let at = placed other in
          let found : IsWord line start (spelled (get_or keywords (place_of other) Let)) place = subst (λ (w : Keyword). IsWord line start (spelled w) place) (sym at.1) there in
          elim (cases_order (place_of other) i) [
            | inl e ↦
                let same : place ≡ end = word_one line start _ place end (subst (λ (n : ℕ). IsWord line start (spelled (get_or keywords n Let)) place) e found) here in
                omega (arith, same)
            | inr apart ↦ elim apart [
              | inl before ↦ absurd (none (place_of other) before place found)
              | inr behind ↦ elim (cases_lt end place) [
                | inl more ↦
                    let front = word_front line start (spelled (get_or keywords i Let)) (spelled (get_or keywords (place_of other) Let)) end place le (omega arith) here found in
                    absurd (free_behind keywords i (place_of other) front.0 keywords_free behind at.0 front.1)
                | inr fine ↦ fine
              ]
            ]
          ]

  -- where THEN and all words of the list are missing, all are
  pub lacks_words : (i : ℕ) → 10 ≤ i → ((n : ℕ) → n < i → LacksWord line start (spelled (get_or keywords n Let))) → LacksWord line start (codes "THEN") → LacksWords line start
  lacks_words i le none no_then = record {
    no_then = no_then;
    no_keyword = λ k. subst (λ (w : Keyword). LacksWord line start (spelled w)) (placed k).1 (none (place_of k) (omega (arith, (placed k).0)));
  }

-- THEN or a first word ends later than it begins, within the line
pub word_token_within : (line : List ℕ) (start : ℕ) (k : TokenKind) (end : ℕ) → start ≤ length line → WordAt line start k end → (start < end) × (end ≤ length line)
word_token_within line start k end le (then e w) = (word_moves_by line start (codes "THEN") end (omega arith) w, (word_within line start (codes "THEN") end le w).1)
word_token_within line start k end le (first_word w e l) = (word_moves_by line start (spelled w) end (spelled_some w) l.word, (word_within line start (spelled w) end le l.word).1)

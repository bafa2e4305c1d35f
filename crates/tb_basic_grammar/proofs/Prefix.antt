-- A word at the front of a text.
use Rattle.std.proofs.Common.{◌≡◌, ℕ, ◌+◌, true, false, List, [], ◌∷◌, ◌++◌, inl, inr, length, take, drop, Option, Some, None, refl, sym, ap, ◌∙◌, nat_eq, ◌==◌, arith}
use Rattle.std.specs.Prelude.{MatchOption}
use Rattle.std.specs.Cmp.Lexicographic.{pointwise, same_text, other_text}
use Rattle.std.proofs.lemmas.Bool.Decides.{nat_tests}
use Rattle.std.proofs.lemmas.List.{take-append-drop}
use Rattle.std.proofs.Math.Seq.{take-append_seam}
use Rattle.tb_basic_grammar.specs.Reading.{behind_word}
use Rattle.tb_basic_grammar.proofs.Steps.{some_or_none, behind_word_is}

itself : (b : ℕ) → (b == b) ≡ true
itself b = grind (arith, nat_tests)

word_read : (word rest : List ℕ) → behind_word word (word ++ rest) ≡ Some rest
word_read [] rest = refl
word_read (b ∷ word) rest = rw (itself b) (word_read word rest)

stands : (word text : List ℕ) → true ≡ pointwise nat_eq (take (length word) text) word → behind_word word text ≡ Some (drop (length word) text)
stands word text e =
    let front : word ++ drop (length word) text ≡ text = ap (λ (w : List ℕ). w ++ drop (length word) text)
    (sym (same_text (take (length word) text) word e)) ∙ take-append-drop (length word) text in
    ap (behind_word word) (sym front) ∙ word_read word (drop (length word) text)

stands_not : (word text : List ℕ) → false ≡ pointwise nat_eq (take (length word) text) word → behind_word word text ≡ None
stands_not word text e = elim (some_or_none (behind_word word text)) [
  | inl h ↦ h
  | inr h ↦ absurd (other_text (take (length word) text) word e (ap (take (length word)) (behind_word_is word text h.0 h.1) ∙ take-append_seam word h.0))
]

-- what `strip_prefix` answers for a word is what `behind_word` finds
pub stripped : {X : Type 0} (now : X → List ℕ) (word text : List ℕ) (r : Option X)
    → MatchOption r (pointwise nat_eq (take (length word) text) word ≡ false) (λ x. (pointwise nat_eq (take (length word) text) word ≡ true)
    × (now x ≡ drop (length word) text) × (length (now x) + length word ≡ length text))
    → MatchOption r (behind_word word text ≡ None) (λ x. behind_word word text ≡ Some (now x))
stripped now word text None h = stands_not word text (sym h)
stripped now word text (Some x) h = stands word text (sym h.0) ∙ ap (λ (t : List ℕ). Some t) (sym h.1)

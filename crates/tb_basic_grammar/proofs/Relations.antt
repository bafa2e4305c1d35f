-- Relations: what is read is in the grammar, and what is in the grammar is read.
use Rattle.std.proofs.Common.{◌≡◌, ℕ, ◌<◌, List, ◌∷◌, inl, inr, length, Some, refl, sym, subst, arith}
use Rattle.tb_words.specs.declared.Rel.{Rel}
use Rattle.tb_words.specs.declared.Rel.TheVariants.{Eq, Lt, Gt, Le, Ge, Ne}
use Rattle.tb_basic_grammar.specs.Reading.{behind, when}
use Rattle.tb_basic_grammar.specs.Statements.{Relates, equal, less, greater, at_most, at_least, less_or_greater, greater_or_less}
use Rattle.tb_basic_grammar.specs.StatementReading.{relation_at}
use Rattle.tb_basic_grammar.proofs.Steps.{some_is, bind_some, when_cases, behind_is, some_or_none}
use Rattle.tb_basic_grammar.proofs.Complete.{Follows, NoOther}

abbrev IsRelation : List ℕ → Rel × List ℕ → Type 0
IsRelation text p = Relates text p.0 p.1

abbrev after_less : List ℕ → Rel × List ℕ
after_less rest = when (behind 61 rest) (when (behind 62 rest) (Lt, rest) (λ t. (Ne, t))) (λ t. (Le, t))

abbrev after_greater : List ℕ → Rel × List ℕ
after_greater rest = when (behind 61 rest) (when (behind 60 rest) (Gt, rest) (λ t. (Ne, t))) (λ t. (Ge, t))

less_is : (rest : List ℕ) → IsRelation (60 ∷ rest) (after_less rest)
less_is rest =
    elim (some_or_none (behind 61 rest)) [
      | inr g ↦ rw g.1 (subst (λ (t : List ℕ). Relates (60 ∷ t) Le g.0) (sym (behind_is 61 rest g.0 g.1)) (at_most g.0))
      | inl h ↦ elim (some_or_none (behind 62 rest)) [
        | inr g ↦ rw (h, g.1) (subst (λ (t : List ℕ). Relates (60 ∷ t) Ne g.0) (sym (behind_is 62 rest g.0 g.1)) (less_or_greater g.0))
        | inl g ↦ rw (h, g) (less rest)
      ]
    ]

greater_is : (rest : List ℕ) → IsRelation (62 ∷ rest) (after_greater rest)
greater_is rest =
    elim (some_or_none (behind 61 rest)) [
      | inr g ↦ rw g.1 (subst (λ (t : List ℕ). Relates (62 ∷ t) Ge g.0) (sym (behind_is 61 rest g.0 g.1)) (at_least g.0))
      | inl h ↦ elim (some_or_none (behind 60 rest)) [
        | inr g ↦ rw (h, g.1) (subst (λ (t : List ℕ). Relates (62 ∷ t) Ne g.0) (sym (behind_is 60 rest g.0 g.1)) (greater_or_less g.0))
        | inl g ↦ rw (h, g) (greater rest)
      ]
    ]

-- a relation that is read is in the grammar
pub relation_is : (text : List ℕ) (p : Rel × List ℕ) → relation_at text ≡ Some p → Relates text p.0 p.1
unfolding relation_at
relation_is text p e =
    elim (when_cases (behind 61 text) _ _ (Some p) e) [
      | inr h ↦ subst (IsRelation text) (some_is (Eq, h.0) p h.2) (subst (λ (t : List ℕ). Relates t Eq h.0) (sym (behind_is 61 text h.0 h.1)) (equal h.0))
      | inl h ↦ elim (when_cases (behind 60 text) _ _ (Some p) h.1) [
        | inr g ↦
            let made : Rel × List ℕ = after_less g.0 in
            subst (IsRelation text) (some_is made p g.2) (subst (λ (t : List ℕ). IsRelation t made) (sym (behind_is 60 text g.0 g.1)) (less_is g.0))
        | inl g ↦
            let a = bind_some (behind 62 text) _ p g.1 in
            let made : Rel × List ℕ = after_greater a.0 in
            subst (IsRelation text) (some_is made p a.2) (subst (λ (t : List ℕ). IsRelation t made) (sym (behind_is 62 text a.0 a.1)) (greater_is a.0))
      ]
    ]

-- a relation may follow an expression
pub relation_follows : {text : List ℕ} {rel : Rel} {rest : List ℕ} → Relates text rel rest → Follows text
relation_follows (equal rest) = record { ends = record { no_digit = refl; no_random = refl }; no_term = refl; no_whole = refl }
relation_follows (less rest) = record { ends = record { no_digit = refl; no_random = refl }; no_term = refl; no_whole = refl }
relation_follows (greater rest) = record { ends = record { no_digit = refl; no_random = refl }; no_term = refl; no_whole = refl }
relation_follows (at_most rest) = record { ends = record { no_digit = refl; no_random = refl }; no_term = refl; no_whole = refl }
relation_follows (at_least rest) = record { ends = record { no_digit = refl; no_random = refl }; no_term = refl; no_whole = refl }
relation_follows (less_or_greater rest) = record { ends = record { no_digit = refl; no_random = refl }; no_term = refl; no_whole = refl }
relation_follows (greater_or_less rest) = record { ends = record { no_digit = refl; no_random = refl }; no_term = refl; no_whole = refl }

-- a relation takes at least one byte
pub relation_shorter : {text : List ℕ} {rel : Rel} {rest : List ℕ} → Relates text rel rest → length rest < length text
relation_shorter (equal rest) = omega arith
relation_shorter (less rest) = omega arith
relation_shorter (greater rest) = omega arith
relation_shorter (at_most rest) = omega arith
relation_shorter (at_least rest) = omega arith
relation_shorter (less_or_greater rest) = omega arith
relation_shorter (greater_or_less rest) = omega arith

-- a relation in the grammar is read if no further relation follows
pub relation_read : {text : List ℕ} {rel : Rel} {rest : List ℕ} → Relates text rel rest → NoOther rest → relation_at text ≡ Some (rel, rest)
unfolding relation_at
relation_read (equal rest) h = refl
relation_read (less rest) h = rw (h.2, h.3) refl
relation_read (greater rest) h = rw (h.2, h.1) refl
relation_read (at_most rest) h = refl
relation_read (at_least rest) h = refl
relation_read (less_or_greater rest) h = refl
relation_read (greater_or_less rest) h = refl

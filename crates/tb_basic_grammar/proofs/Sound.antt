-- What is read is in the grammar.
use Rattle.std.proofs.Common.{◌≡◌, ℕ, zero, suc, ◌+◌, ◌-◌, ◌*◌, true, List, [], ◌∷◌, ◌++◌, inl, inr, length, Option, Some, None, refl, sym, ap, subst, ◌∙◌}
use Rattle.std.specs.Option.{option_or}
use Rattle.std.specs.Prelude.{codes}
use Rattle.std.proofs.lemmas.List.Elements.{All-cons}
use Rattle.tb_basic_syntax.specs.declared.expressions.Operator.{Operator}
use Rattle.tb_basic_syntax.specs.Source.{Expression, Variable, Binary}
use Rattle.tb_basic_grammar.specs.Grammar.{IsDigit, Part, Whole, Term, Factor, operator, Reads, number, variable, random, parentheses, factor, product, term, plus, minus, sum}
use Rattle.tb_basic_grammar.specs.Reading.{◌>>=◌, Found, literal_at, behind, behind_word, letter_at, closed, randomly, negated, joined, variable_at}
use Rattle.tb_basic_grammar.specs.Grammar.{is_digit}
use Rattle.tb_basic_grammar.specs.Reading.{group_by, starts_digit, factor_by, operator_at, more, term_by, signed_by, whole_by, whole_at, front_of}
use Rattle.tb_basic_grammar.proofs.Steps.{some_is, bind_some, when_cases, chosen, behind_is, behind_word_is, digit_is, letter_found, digits_found}

-- what was found is a part at the front of the text
abbrev pub Is : Part → List ℕ → Found → Type 0
Is part text f = Reads part text f.tree f.large f.rest

-- a reader of a part finds nothing that is not in the grammar
pub record Finds (part : Part) (reader : List ℕ → Option Found) : Type 0 where
  pub by : (text : List ℕ) (f : Found) → reader text ≡ Some f → Is part text f

closed_is : (f g : Found) → closed f ≡ Some g → (f.rest ≡ 41 ∷ g.rest) × (g.tree ≡ f.tree) × (g.large ≡ f.large)
closed_is f g e =
    let a = bind_some (behind 41 f.rest) (λ rest. Some (record { tree = f.tree; large = f.large; rest = rest })) g e in
    let made : Found = record { tree = f.tree; large = f.large; rest = a.0 } in
    let same : made ≡ g = some_is made g a.2 in
    (behind_is 41 f.rest a.0 a.1 ∙ ap (λ (h : Found). 41 ∷ h.rest) same, sym (ap (λ (h : Found). h.tree) same), sym (ap (λ (h : Found). h.large) same))

-- a reading of equal values is the same reading
pub moved : {part : Part} {text : List ℕ} (t t' : Expression) (l l' : Option ℕ) (r r' : List ℕ) → t' ≡ t → l' ≡ l → r ≡ r' → Reads part text t l r → Reads part text t' l' r'
moved t t' l l' r r' et el er h = rw (et, el, ← er) h

-- an expression in parentheses
group_is : (whole : List ℕ → Option Found) → Finds Whole whole → (text : List ℕ) (g : Found) → group_by whole text ≡ Some g
    → (inner : List ℕ) × (text ≡ 40 ∷ inner) × Reads Whole inner g.tree g.large (41 ∷ g.rest)
unfolding group_by
group_is whole finds text g e =
    let a = bind_some (behind 40 text >>= whole) closed g e in
    let b = bind_some (behind 40 text) whole a.0 a.1 in
    let c = closed_is a.0 g a.2 in
    (b.0, behind_is 40 text b.0 b.1, moved a.0.tree g.tree a.0.large g.large a.0.rest (41 ∷ g.rest) c.1 c.2 c.0 (finds.by b.0 a.0 b.2))

starts_is : (text : List ℕ) → starts_digit text ≡ true → (b : ℕ) × (rest : List ℕ) × (text ≡ b ∷ rest) × (is_digit b ≡ true)
starts_is [] e = absurd cc
starts_is (b ∷ rest) e = (b, rest, refl, e)

literal_is : (b : ℕ) (tail : List ℕ) → is_digit b ≡ true → Is Factor (b ∷ tail) (literal_at (b ∷ tail))
unfolding literal_at
literal_is b tail h =
    let again = digits_found (10 * 0 + (b - 48)) tail in
    rw (h, again.3) (number (b ∷ tail) b again.0 _ (ap (λ (t : List ℕ). b ∷ t) again.1) (All-cons IsDigit b again.0 (digit_is b h) again.2))

variable_is : (text : List ℕ) (f : Found) → variable_at text ≡ Some f → Is Factor text f
unfolding variable_at
variable_is text f e =
    let a = bind_some (letter_at text) (λ v. Some (record { tree = Variable v.0; large = None; rest = v.1 })) f e in
    let l = letter_found text a.0 a.1 in
    let made : Found = record { tree = Variable a.0.0; large = None; rest = a.0.1 } in
    subst (Is Factor text) (some_is made f a.2)
    (subst (λ (t : List ℕ). Is Factor t made) (sym l.2) (subst (λ (k : ℕ). Reads Factor (l.0 ∷ a.0.1) (Variable k) None a.0.1) (sym l.3) (variable l.0 a.0.1 l.1)))

random_is : (whole : List ℕ → Option Found) → Finds Whole whole → (text bound : List ℕ) (f : Found) → behind_word (codes "RND") text ≡ Some bound
    → (group_by whole bound >>= λ g. Some (randomly g)) ≡ Some f → Is Factor text f
random_is whole finds text bound f h e =
    let a = bind_some (group_by whole bound) (λ g. Some (randomly g)) f e in
    let g = group_is whole finds bound a.0 a.1 in
    let spelled : text ≡ codes "RND(" ++ g.0 = behind_word_is (codes "RND") text bound h ∙ ap (λ (t : List ℕ). codes "RND" ++ t) g.1 in
    subst (Is Factor text) (some_is (randomly a.0) f a.2) (subst (λ (t : List ℕ). Is Factor t (randomly a.0)) (sym spelled) (random g.0 a.0.tree a.0.large a.0.rest g.2))

parentheses_is : (whole : List ℕ → Option Found) → Finds Whole whole → (text : List ℕ) (f : Found) → group_by whole text ≡ Some f → Is Factor text f
parentheses_is whole finds text f e =
    let g = group_is whole finds text f e in
    subst (λ (t : List ℕ). Is Factor t f) (sym g.1) (parentheses g.0 f.tree f.large f.rest g.2)

factor_is : (whole : List ℕ → Option Found) → Finds Whole whole → (text : List ℕ) (f : Found) → factor_by whole text ≡ Some f → Is Factor text f
unfolding factor_by
factor_is whole finds text f e =
    elim (chosen (starts_digit text) (Some (literal_at text)) _ (Some f) e) [
      | inl h ↦
          let s = starts_is text h.0 in
          let e' : literal_at text ≡ f = some_is (literal_at text) f h.1 in
          subst (Is Factor text) e' (subst (λ (t : List ℕ). Is Factor t (literal_at t)) (sym s.2) (literal_is s.0 s.1 s.3))
      | inr h ↦ elim (when_cases (behind_word (codes "RND") text) _ _ (Some f) h.1) [
        | inr r ↦ random_is whole finds text r.0 f r.1 r.2
        | inl r ↦ elim (when_cases (behind 40 text) _ _ (Some f) r.1) [
          | inl v ↦ variable_is text f v.1
          | inr p ↦ parentheses_is whole finds text f p.2
        ]
      ]
    ]

-- the reader of factors is sound if that of expressions is
pub factor_finds : (whole : List ℕ → Option Found) → Finds Whole whole → Finds Factor (factor_by whole)
factor_finds whole finds = record { by = factor_is whole finds }

-- an operator that is read is the byte at the front
pub operator_is : (part : Part) (text : List ℕ) (p : Operator × List ℕ) → operator_at part text ≡ Some p → (sign : ℕ) × (text ≡ sign ∷ p.1) × (operator part sign ≡ Some p.0)
operator_is part [] p e = absurd cc
operator_is part (b ∷ text) p e =
    let a = bind_some (operator part b) (λ op. Some (op, text)) p e in
    let same : (a.0, text) ≡ p = some_is (a.0, text) p a.2 in
    (b, ap (λ (q : Operator × List ℕ). b ∷ q.1) same, a.1 ∙ ap (λ (q : Operator × List ℕ). Some q.0) same)

-- a part that goes on after an operator
abbrev Joins : Part → Part → Type 0
Joins part lower = (text : List ℕ) (a b : Expression) (la lb : Option ℕ) (sign : ℕ) (op : Operator) (middle rest : List ℕ)
    → Reads part text a la (sign ∷ middle) → operator part sign ≡ Some op → Reads lower middle b lb rest → Reads part text (Binary op a b) (option_or la lb) rest

module _ (part lower : Part) (joins : Joins part lower) (operand : List ℕ → Option Found) (finds : Finds lower operand) (text : List ℕ) where
  more_is : (k : ℕ) (f g : Found) → Is part text f → more part operand k f ≡ Some g → Is part text g
  more_is zero f g h e = subst (Is part text) (some_is f g e) h
  more_is (suc k) f g h e =
      elim (when_cases (operator_at part f.rest) (Some f) (λ p. operand p.1 >>= λ g. more part operand k (joined p.0 f g)) (Some g) e) [
        | inl a ↦ subst (Is part text) (some_is f g a.1) h
        | inr a ↦
            let o = operator_is part f.rest a.0 a.1 in
            let b = bind_some (operand a.0.1) (λ g. more part operand k (joined a.0.0 f g)) g a.2 in
            let here : Reads part text f.tree f.large (o.0 ∷ a.0.1) = subst (λ (r : List ℕ). Reads part text f.tree f.large r) o.1 h in
            more_is k (joined a.0.0 f b.0) g (joins text f.tree b.0.tree f.large b.0.large o.0 a.0.0 a.0.1 b.0.rest here o.2 (finds.by a.0.1 b.0 b.1)) b.2
      ]

term_is : (operand : List ℕ → Option Found) → Finds Factor operand → (text : List ℕ) (f : Found) → term_by operand text ≡ Some f → Is Term text f
unfolding term_by
term_is operand finds text f e =
    let a = bind_some (operand text) (λ f. more Term operand (length f.rest) f) f e in
    more_is Term Factor product operand finds text (length a.0.rest) a.0 f (factor text a.0.tree a.0.large a.0.rest (finds.by text a.0 a.1)) a.2

-- the reader of terms is sound if that of factors is
pub term_finds : (operand : List ℕ → Option Found) → Finds Factor operand → Finds Term (term_by operand)
term_finds operand finds = record { by = term_is operand finds }

signed_is : (operand : List ℕ → Option Found) → Finds Term operand → (text : List ℕ) (f : Found) → signed_by operand text ≡ Some f → Is Whole text f
signed_is operand finds text f e =
    elim (when_cases (behind 43 text) _ _ (Some f) e) [
      | inr p ↦ subst (λ (t : List ℕ). Is Whole t f) (sym (behind_is 43 text p.0 p.1)) (plus p.0 f.tree f.large f.rest (finds.by p.0 f p.2))
      | inl h ↦ elim (when_cases (behind 45 text) _ _ (Some f) h.1) [
        | inl t ↦ term text f.tree f.large f.rest (finds.by text f t.1)
        | inr m ↦
            let a = bind_some (operand m.0) (λ f. Some (negated f)) f m.2 in
            subst (Is Whole text) (some_is (negated a.0) f a.2)
            (subst (λ (t : List ℕ). Is Whole t (negated a.0)) (sym (behind_is 45 text m.0 m.1)) (minus m.0 a.0.tree a.0.large a.0.rest (finds.by m.0 a.0 a.1)))
      ]
    ]

whole_is : (operand : List ℕ → Option Found) → Finds Factor operand → (text : List ℕ) (f : Found) → whole_by operand text ≡ Some f → Is Whole text f
unfolding whole_by
whole_is operand finds text f e =
    let a = bind_some (signed_by (term_by operand) text) (λ f. more Whole (term_by operand) (length f.rest) f) f e in
    more_is Whole Term sum (term_by operand) (term_finds operand finds) text (length a.0.rest) a.0 f (signed_is (term_by operand) (term_finds operand finds) text a.0 a.1) a.2

whole_at_is : (n : ℕ) (text : List ℕ) (f : Found) → whole_at n text ≡ Some f → Is Whole text f
unfolding whole_at
whole_at_is zero text f e = absurd cc
whole_at_is (suc n) text f e = whole_is (factor_by (whole_at n)) (factor_finds (whole_at n) (record { by = whole_at_is n })) text f e

-- the reader of expressions at a depth finds only what is in the grammar
pub whole_finds : (n : ℕ) → Finds Whole (whole_at n)
whole_finds n = record { by = whole_at_is n }

-- an expression that is read at the front is in the grammar
pub front_is : (text : List ℕ) (f : Found) → front_of text ≡ Some f → Reads Whole text f.tree f.large f.rest
unfolding front_of
front_is text f e = (whole_finds (length text + 1)).by text f e

-- A statement that is read is in the grammar.
use Rattle.std.proofs.Common.{◌≡◌, ℕ, zero, suc, ◌-◌, List, [], ◌∷◌, ◌++◌, inl, inr, true, length, Option, Some, None, refl, sym, ap, subst, ◌∙◌}
use Rattle.std.specs.Option.{option_or}
use Rattle.std.proofs.lemmas.List.{append-nil}
use Rattle.std.specs.Prelude.{codes}
use Rattle.tb_basic_syntax.specs.Source.{Expression, Statement, Let, Print, Input, If, Goto, Gosub, Return, End, Remark}
use Rattle.tb_basic_grammar.specs.declared.keywords.Keyword.{Keyword}
use Rattle.tb_basic_grammar.specs.declared.keywords.Keyword.TheVariants as keyword
use Rattle.tb_basic_grammar.specs.Grammar.{IsLetter, Whole, Reads}
use Rattle.tb_basic_grammar.specs.Reading.{◌>>=◌, when, behind, behind_word, letter_at, front_of, expression_in}
use Rattle.tb_basic_grammar.specs.Statements.{MayThen, bare, then, States, let_assign, assign, print, short_print, input, conditional, goto, gosub, return, end, remark}
use Rattle.tb_basic_grammar.specs.StatementReading.{Told, target_at, relation_at, made, alone, items_at, print_at, letters_at, input_at, behind_then, conditional_by}
use Rattle.tb_basic_grammar.specs.StatementReading.{spelled, first_word, keywords, keyword_at, assigned_at, behind_keyword, statement_at}
use Rattle.tb_basic_grammar.proofs.Steps.{some_is, bind_some, when_cases, behind_is, behind_word_is, letter_found}
use Rattle.tb_basic_grammar.proofs.Sound.{front_is}
use Rattle.tb_basic_grammar.proofs.ExpressionLaws.{expression_is}
use Rattle.tb_basic_grammar.proofs.Relations.{relation_is}
use Rattle.tb_basic_grammar.proofs.Lists.{items_is, letters_is}

abbrev pub IsTold : List ℕ → Told → Type 0
IsTold text t = States text t.statement t.large

target_is : (text : List ℕ) (p : ℕ × List ℕ) → target_at text ≡ Some p → (v : ℕ) × IsLetter v × (text ≡ v ∷ 61 ∷ p.1) × (p.0 ≡ v - 65)
unfolding target_at
target_is text p e =
    let a = bind_some (letter_at text) (λ v. behind 61 v.1 >>= λ rest. Some (v.0, rest)) p e in
    let b = bind_some (behind 61 a.0.1) (λ rest. Some (a.0.0, rest)) p a.2 in
    let l = letter_found text a.0 a.1 in
    let same : (a.0.0, b.0) ≡ p = some_is (a.0.0, b.0) p b.2 in
    (l.0, l.1, l.2 ∙ ap (λ (t : List ℕ). l.0 ∷ t) (behind_is 61 a.0.1 b.0 b.1) ∙ ap (λ (q : ℕ × List ℕ). l.0 ∷ 61 ∷ q.1) same, sym (ap (λ (q : ℕ × List ℕ). q.0) same) ∙ l.3)

-- a statement made of one expression
made_is : (statement : Expression → Statement) (front text : List ℕ) → ((e : Expression) (large : Option ℕ) → Reads Whole text e large [] → States front (statement e) large)
    → (t : Told) → made statement text ≡ Some t → IsTold front t
unfolding made
made_is statement front text is t e =
    let a = bind_some (expression_in text) (λ f. Some (record { statement = statement f.tree; large = f.large })) t e in
    subst (IsTold front) (some_is (record { statement = statement a.0.tree; large = a.0.large }) t a.2) (is a.0.tree a.0.large (expression_is text a.0 a.1))

alone_is : (statement : Statement) (front : List ℕ) → States front statement None → (text : List ℕ) (t : Told) → alone statement text ≡ Some t → IsTold (front ++ text) t
alone_is statement front is [] t e = subst (λ (x : List ℕ). IsTold x t) (sym (append-nil front)) (subst (IsTold front) (some_is (record { statement = statement; large = None }) t e) is)
alone_is statement front is (b ∷ text) t e = absurd cc

print_is : (text : List ℕ) (t : Told) → print_at text ≡ Some t → IsTold (codes "PRINT" ++ text) t × IsTold (codes "PR" ++ text) t
unfolding print_at
print_is text t e =
    let a = bind_some (items_at (length text) true text) (λ p. Some (record { statement = Print p.items p.ends_line; large = p.large })) t e in
    let p = items_is (length text) true text a.0 a.1 in
    let same : (let t : Told = record { statement = Print a.0.items a.0.ends_line; large = a.0.large } in t) ≡ t =
    some_is (record { statement = Print a.0.items a.0.ends_line; large = a.0.large }) t a.2 in
    (subst (IsTold (codes "PRINT" ++ text)) same (print text a.0.items a.0.ends_line a.0.large p), subst (IsTold (codes "PR" ++ text)) same (short_print text a.0.items a.0.ends_line a.0.large p))

input_is : (text : List ℕ) (t : Told) → input_at text ≡ Some t → IsTold (codes "INPUT" ++ text) t
unfolding input_at
input_is text t e =
    let a = bind_some (letters_at (length text) text) (λ letters. Some (record { statement = Input letters; large = None })) t e in
    subst (IsTold (codes "INPUT" ++ text)) (some_is (record { statement = Input a.0; large = None }) t a.2) (input text a.0 (letters_is (length text) text a.0 a.1))

then_is : (text : List ℕ) → MayThen text (behind_then text)
then_is text = go (behind_word (codes "THEN") text) refl
  where
    go : (o : Option (List ℕ)) → behind_word (codes "THEN") text ≡ o → MayThen text (when o text (λ rest. rest))
    go None e = bare text
    go (Some rest) e = subst (λ (t : List ℕ). MayThen t rest) (sym (behind_word_is (codes "THEN") text rest e)) (then rest)

-- a reader of statements finds nothing that is not in the grammar
record Tells (reader : List ℕ → Option Told) : Type 0 where
  by : (text : List ℕ) (t : Told) → reader text ≡ Some t → IsTold text t

conditional_is : (reader : List ℕ → Option Told) → Tells reader → (text : List ℕ) (t : Told) → conditional_by reader text ≡ Some t → IsTold (codes "IF" ++ text) t
unfolding conditional_by
conditional_is reader tells text t h =
    let a = bind_some (front_of text) (λ a. relation_at a.rest >>= λ rel. front_of rel.1 >>= λ b. reader (behind_then b.rest) >>= λ s. Some
    (record { statement = If a.tree rel.0 b.tree s.statement; large = option_or a.large (option_or b.large s.large) })) t h in
    let r = bind_some (relation_at a.0.rest) (λ rel. front_of rel.1 >>= λ b. reader (behind_then b.rest) >>= λ s. Some
    (record { statement = If a.0.tree rel.0 b.tree s.statement; large = option_or a.0.large (option_or b.large s.large) })) t a.2 in
    let b = bind_some (front_of r.0.1) (λ b. reader (behind_then b.rest) >>= λ s. Some (record {
      statement = If a.0.tree r.0.0 b.tree s.statement;
      large = option_or a.0.large (option_or b.large s.large);
    })) t r.2 in
    let s = bind_some (reader (behind_then b.0.rest)) (λ s. Some (record { statement = If a.0.tree r.0.0 b.0.tree s.statement; large = option_or a.0.large (option_or b.0.large s.large) })) t b.2 in
    let made : Told = record { statement = If a.0.tree r.0.0 b.0.tree s.0.statement; large = option_or a.0.large (option_or b.0.large s.0.large) } in
    let same : made ≡ t = some_is made t s.2 in
    subst (IsTold (codes "IF" ++ text)) {x = made} same
    (conditional text a.0.tree a.0.large a.0.rest r.0.0 r.0.1 b.0.tree b.0.large b.0.rest (behind_then b.0.rest) s.0.statement s.0.large
    (front_is text a.0 a.1) (relation_is a.0.rest r.0 r.1) (front_is r.0.1 b.0 b.1) (then_is b.0.rest) (tells.by (behind_then b.0.rest) s.0 s.1))

let_is : (rest : List ℕ) (t : Told) → assigned_at rest ≡ Some t → IsTold (codes "LET" ++ rest) t
unfolding assigned_at
let_is rest t e =
    let a = bind_some (target_at rest) (λ p. made (Let p.0) p.1) t e in
    let v = target_is rest a.0 a.1 in
    subst (λ (x : List ℕ). IsTold (codes "LET" ++ x) t) (sym v.2)
    (made_is (Let (v.0 - 65)) (codes "LET" ++ v.0 ∷ 61 ∷ a.0.1) a.0.1 (λ e large r. let_assign v.0 a.0.1 e large v.1 r) t (ap (λ (n : ℕ). made (Let n) a.0.1) (sym v.3) ∙ a.2))

behind_keyword_is : (reader : List ℕ → Option Told) → Tells reader → (k : Keyword) (text : List ℕ) (t : Told) → behind_keyword reader k text ≡ Some t → IsTold (spelled k ++ text) t
unfolding behind_keyword
behind_keyword_is reader tells keyword.Let text t e = let_is text t e
behind_keyword_is reader tells keyword.Print text t e = (print_is text t e).0
behind_keyword_is reader tells keyword.Pr text t e = (print_is text t e).1
behind_keyword_is reader tells keyword.Input text t e = input_is text t e
behind_keyword_is reader tells keyword.If text t e = conditional_is reader tells text t e
behind_keyword_is reader tells keyword.Goto text t e = made_is Goto (codes "GOTO" ++ text) text (goto text) t e
behind_keyword_is reader tells keyword.Gosub text t e = made_is Gosub (codes "GOSUB" ++ text) text (gosub text) t e
behind_keyword_is reader tells keyword.Return text t e = alone_is Return (codes "RETURN") return text t e
behind_keyword_is reader tells keyword.End text t e = alone_is End (codes "END") end text t e
behind_keyword_is reader tells keyword.Rem text t e = subst (IsTold (codes "REM" ++ text)) (some_is (record { statement = Remark; large = None }) t e) (remark text)

first_word_is : (words : List Keyword) (text : List ℕ) (p : Keyword × List ℕ) → first_word words text ≡ Some p → text ≡ spelled p.0 ++ p.1
first_word_is [] text p e = absurd cc
first_word_is (k ∷ words) text p e =
    elim (when_cases (behind_word (spelled k) text) _ _ (Some p) e) [
      | inl h ↦ first_word_is words text p h.1
      | inr h ↦ subst (λ (p : Keyword × List ℕ). text ≡ spelled p.0 ++ p.1) (some_is (k, h.0) p h.2) (behind_word_is (spelled k) text h.0 h.1)
    ]

keyword_is : (reader : List ℕ → Option Told) → Tells reader → (text : List ℕ) (t : Told) → (keyword_at text >>= λ k. behind_keyword reader k.0 k.1) ≡ Some t → IsTold text t
unfolding keyword_at
keyword_is reader tells text t e =
    let a = bind_some (first_word keywords text) (λ k. behind_keyword reader k.0 k.1) t e in
    subst (λ (x : List ℕ). IsTold x t) (sym (first_word_is keywords text a.0 a.1)) (behind_keyword_is reader tells a.0.0 a.0.1 t a.2)

-- a statement that is read is in the grammar
pub statement_is : (n : ℕ) (text : List ℕ) (t : Told) → statement_at n text ≡ Some t → IsTold text t
unfolding statement_at
statement_is zero text t e = absurd cc
statement_is (suc n) text t e =
    elim (when_cases (target_at text) _ _ (Some t) e) [
      | inl h ↦ keyword_is (statement_at n) (record { by = statement_is n }) text t h.1
      | inr a ↦
          let v = target_is text a.0 a.1 in
          subst (λ (x : List ℕ). IsTold x t) (sym v.2)
          (made_is (Let (v.0 - 65)) (v.0 ∷ 61 ∷ a.0.1) a.0.1 (λ e large r. assign v.0 a.0.1 e large v.1 r) t (ap (λ (n : ℕ). made (Let n) a.0.1) (sym v.3) ∙ a.2))
    ]

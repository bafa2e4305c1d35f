-- The two laws of reading a whole expression.
use Rattle.std.proofs.Common.{◌≡◌, ℕ, List, [], ◌∷◌, Option, Some, None, Result, Ok, Err, refl, sym, ap, subst, ◌∙◌}
use Rattle.std.specs.Prelude.{IfOk}
use Rattle.tb_basic_syntax.specs.Source.{Expression}
use Rattle.tb_basic_syntax.specs.PlainData.{expression_of}
use Rattle.tb_basic_grammar.specs.declared.expressions.ReadExpression.{ReadExpression}
use Rattle.tb_basic_grammar.specs.declared.read_error.ReadError.{ReadError}
use Rattle.tb_basic_grammar.specs.declared.read_error.ReadError.TheVariants as stop
use Rattle.tb_basic_grammar.specs.Grammar.{Whole, Reads, ExpressionsAreUnique}
use Rattle.tb_basic_grammar.specs.Reading.{Found, at_end, ended, front_of, expression_in}
use Rattle.tb_basic_grammar.specs.ReadValues.{whole_seen, Gives, Answers}
use Rattle.tb_basic_grammar.proofs.Steps.{some_is, bind_some}
use Rattle.tb_basic_grammar.proofs.Sound.{front_is}
use Rattle.tb_basic_grammar.proofs.Complete.{nothing_follows, front_read}

ended_is : (rest : List ℕ) (f g : Found) → at_end rest f ≡ Some g → f.rest ≡ rest → (f ≡ g) × (g.rest ≡ [])
ended_is [] f g e h = let s = some_is f g e in (s, sym (ap (λ (f : Found). f.rest) s) ∙ h)
ended_is (b ∷ rest) f g e h = absurd cc

-- what is read is the whole text
pub expression_is : (text : List ℕ) (f : Found) → expression_in text ≡ Some f → Reads Whole text f.tree f.large []
unfolding expression_in
expression_is text f h =
    let a = bind_some (front_of text) ended f h in
    let e = ended_is a.0.rest a.0 f a.2 refl in
    subst (λ (r : List ℕ). Reads Whole text f.tree f.large r) e.1 (subst (λ (f : Found). Reads Whole text f.tree f.large f.rest) e.0 (front_is text a.0 a.1))

-- an expression in the grammar is what `expression_in` finds
pub expression_read : (text : List ℕ) (e : Expression) (large : Option ℕ) → Reads Whole text e large [] → expression_in text ≡ Some (record { tree = e; large = large; rest = [] })
unfolding expression_in
expression_read text e large r = rw (front_read text e large [] r nothing_follows) refl

-- the clause `found` of `read_expression`: what is read is in the grammar
pub is_found : (text : List ℕ) (r : Result ReadExpression ReadError) → Gives whole_seen r (expression_in text) → IfOk r (λ r. Reads Whole text (expression_of r.expr) r.large [])
is_found text (Err e) h = tt
is_found text (Ok p) h = expression_is text (whole_seen p) h

same_parts : (f g : Found) → Some f ≡ Some g → (f.tree ≡ g.tree) × (f.large ≡ g.large)
same_parts f g e = let s = some_is f g e in (ap (λ (f : Found). f.tree) s, ap (λ (f : Found). f.large) s)

-- the clause `only` of `read_expression`: what is in the grammar is answered
pub is_only : (text : List ℕ) (r : Result ReadExpression ReadError) → Gives whole_seen r (expression_in text) → (e : Expression) (large : Option ℕ) → Reads Whole text e large []
    → Answers r (λ r. (expression_of r.expr ≡ e) × (r.large ≡ large))
is_only text (Ok p) h e large r = same_parts (whole_seen p) (record { tree = e; large = large; rest = [] }) (sym h ∙ expression_read text e large r)
is_only text (Err stop.NoMemory) h e large r = tt
is_only text (Err (stop.NoReading left)) h e large r =
    let same : None ≡ Some (let f : Found = record { tree = e; large = large; rest = [] } in f) = sym h ∙ expression_read text e large r in
    absurd cc

-- `ExpressionsAreUnique` holds: the law that `expressions_are_unique` hands on
pub unique : ExpressionsAreUnique
unique text a b la lb r q =
    same_parts (record { tree = a; large = la; rest = [] }) (record { tree = b; large = lb; rest = [] }) (sym (expression_read text a la r) ∙ expression_read text b lb q)

-- The two laws of reading a statement.
use Rattle.std.proofs.Common.{◌≡◌, ℕ, ◌+◌, List, length, Option, Some, None, Result, Ok, Err, sym, ap, ◌∙◌}
use Rattle.std.specs.Prelude.{IfOk}
use Rattle.tb_basic_syntax.specs.Source.{Statement}
use Rattle.tb_basic_syntax.specs.PlainData.{statement_of}
use Rattle.tb_basic_grammar.specs.declared.statements.ReadStatement.{ReadStatement}
use Rattle.tb_basic_grammar.specs.declared.read_error.ReadError.{ReadError}
use Rattle.tb_basic_grammar.specs.declared.read_error.ReadError.TheVariants as stop
use Rattle.tb_basic_grammar.specs.ReadValues.{told, Gives, Answers}
use Rattle.tb_basic_grammar.specs.Statements.{States, StatementsAreUnique}
use Rattle.tb_basic_grammar.specs.StatementReading.{Told, statement_in}
use Rattle.tb_basic_grammar.proofs.Steps.{some_is}
use Rattle.tb_basic_grammar.proofs.StatementSound.{statement_is}
use Rattle.tb_basic_grammar.proofs.StatementComplete.{statement_read}

-- the clause `found` of `read_statement`: what is read is in the grammar
pub is_found : (text : List ℕ) (r : Result ReadStatement ReadError) → Gives told r (statement_in text) → IfOk r (λ r. States text (statement_of r.statement) r.large)
unfolding statement_in
is_found text (Err e) h = tt
is_found text (Ok r) h = statement_is (length text + 1) text (told r) h

same_parts : (s t : Told) → Some s ≡ Some t → (s.statement ≡ t.statement) × (s.large ≡ t.large)
same_parts s t e = let same = some_is s t e in (ap (λ (t : Told). t.statement) same, ap (λ (t : Told). t.large) same)

-- the clause `only` of `read_statement`: what is in the grammar is answered
pub is_only : (text : List ℕ) (r : Result ReadStatement ReadError) → Gives told r (statement_in text) → (s : Statement) (large : Option ℕ) → States text s large
    → Answers r (λ r. (statement_of r.statement ≡ s) × (r.large ≡ large))
unfolding statement_in
is_only text (Ok r) h s large p = same_parts (told r) (record { statement = s; large = large }) (sym h ∙ statement_read text s large p)
is_only text (Err stop.NoMemory) h s large p = tt
is_only text (Err (stop.NoReading left)) h s large p =
    let same : None ≡ Some (let t : Told = record { statement = s; large = large } in t) = sym h ∙ statement_read text s large p in
    absurd cc

-- `StatementsAreUnique` holds: the law that `statements_are_unique` hands on
pub unique : StatementsAreUnique
unique text s t ls lt p q = same_parts (record { statement = s; large = ls }) (record { statement = t; large = lt }) (sym (statement_read text s ls p) ∙ statement_read text t lt q)

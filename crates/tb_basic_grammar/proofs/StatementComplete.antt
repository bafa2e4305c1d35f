-- A statement in the grammar is read.
use Rattle.std.proofs.Common.{◌≡◌, ℕ, zero, suc, ◌+◌, ◌-◌, ◌≤◌, Bool, true, false, List, [], ◌∷◌, ◌++◌, inl, inr, length}
use Rattle.std.proofs.Common.{Option, Some, None, refl, ◌∙◌, arith, ◌==◌}
use Rattle.std.specs.Option.{option_or}
use Rattle.std.specs.Prelude.{codes}
use Rattle.std.proofs.lemmas.Bool.{cases_Bool, ne_eqb}
use Rattle.tb_words.specs.declared.Rel.{Rel}
use Rattle.tb_basic_syntax.specs.Source.{Expression, Item, Statement, Let, Print, Input, If, Goto, Gosub, Return, End, Remark}
use Rattle.tb_basic_grammar.specs.Grammar.{IsLetter, Whole, Term, Reads}
use Rattle.tb_basic_grammar.specs.Reading.{starts_digit, behind_word, operator_at, front_of}
use Rattle.tb_basic_grammar.specs.Statements.{MayThen, bare, then, Prints, Variables, States, let_assign, assign, print, short_print, input, conditional, goto, gosub, return, end, remark}
use Rattle.tb_basic_grammar.specs.StatementReading.{Told, target_at, relation_at, made, print_at, input_at, behind_then, conditional_by, keyword_at, assigned_at, behind_keyword, statement_at}
use Rattle.tb_basic_grammar.proofs.Complete.{shorter, Follows, is_letter_true, letter_no_digit, front_read, no_other}
use Rattle.tb_basic_grammar.proofs.ExpressionLaws.{expression_read}
use Rattle.tb_basic_grammar.proofs.Relations.{relation_follows, relation_shorter, relation_read}
use Rattle.tb_basic_grammar.proofs.Lists.{items_read, letters_read}
use Rattle.tb_basic_grammar.proofs.PrintWord.{int_begins_no_items}

-- what begins a statement may follow an expression, and is no THEN
record Starts (text : List ℕ) : Type 0 where
  follows : Follows text
  no_then : behind_word (codes "THEN") text ≡ None

word_starts : {text : List ℕ} → starts_digit text ≡ false → behind_word (codes "ND") text ≡ None → operator_at Term text ≡ None
    → operator_at Whole text ≡ None → behind_word (codes "THEN") text ≡ None → Starts text
word_starts d r t w n = record { follows = record { ends = record { no_digit = d; no_random = r }; no_term = t; no_whole = w }; no_then = n }

-- no word goes on with an = after a letter
assign_no_random : (v : ℕ) (text : List ℕ) → behind_word (codes "ND") (v ∷ 61 ∷ text) ≡ None
assign_no_random v text = elim (cases_Bool (v == 78)) [ inl h ↦ rw h refl | inr h ↦ rw h refl ]

assign_no_then : (v : ℕ) (text : List ℕ) → behind_word (codes "THEN") (v ∷ 61 ∷ text) ≡ None
assign_no_then v text = elim (cases_Bool (v == 84)) [ inl h ↦ rw h refl | inr h ↦ rw h refl ]

statement_starts : {text : List ℕ} {s : Statement} {large : Option ℕ} → States text s large → Starts text
statement_starts (assign v text e large h r) =
    word_starts (letter_no_digit v h) (assign_no_random v text) (rw (ne_eqb v 42 (omega arith), ne_eqb v 47 (omega arith)) refl)
    (rw (ne_eqb v 43 (omega arith), ne_eqb v 45 (omega arith)) refl) (assign_no_then v text)
statement_starts (let_assign v text e large h r) = word_starts refl refl refl refl refl
statement_starts (print text items ends_line large p) = word_starts refl refl refl refl refl
statement_starts (short_print text items ends_line large p) = word_starts refl refl refl refl refl
statement_starts (input text letters v) = word_starts refl refl refl refl refl
statement_starts (conditional text a la rest rel middle b lb after body s ls ra rr rb m rs) = word_starts refl refl refl refl refl
statement_starts (goto text e large r) = word_starts refl refl refl refl refl
statement_starts (gosub text e large r) = word_starts refl refl refl refl refl
statement_starts return = word_starts refl refl refl refl refl
statement_starts end = word_starts refl refl refl refl refl
statement_starts (remark any) = word_starts refl refl refl refl refl

then_follows : {text body : List ℕ} → MayThen text body → Follows body → Follows text
then_follows (bare text) f = f
then_follows (then text) f = record { ends = record { no_digit = refl; no_random = refl }; no_term = refl; no_whole = refl }

then_shorter : {text body : List ℕ} → MayThen text body → length body ≤ length text
then_shorter (bare text) = omega arith
then_shorter (then text) = omega arith

then_read : {text body : List ℕ} → MayThen text body → behind_word (codes "THEN") body ≡ None → behind_then text ≡ body
then_read (bare text) e = rw e refl
then_read (then text) e = refl

made_read : (statement : Expression → Statement) (text : List ℕ) (e : Expression) (large : Option ℕ) → Reads Whole text e large []
    → made statement text ≡ Some (record { statement = statement e; large = large })
unfolding made
made_read statement text e large r = rw (expression_read text e large r) refl

print_read : (text : List ℕ) (items : List Item) (ends_line : Bool) (large : Option ℕ) → Prints true text items ends_line large → print_at text
    ≡ Some (record { statement = Print items ends_line; large = large })
unfolding print_at
print_read text items ends_line large p = rw (items_read p (length text) (omega arith)) refl

input_read : (text letters : List ℕ) → Variables text letters → input_at text ≡ Some (record { statement = Input letters; large = None })
unfolding input_at
input_read text letters v = rw (letters_read v (length text) (omega arith)) refl

conditional_read : (reader : List ℕ → Option Told) (text : List ℕ) (a : Expression) (la : Option ℕ) (rest : List ℕ) (rel : Rel) (middle : List ℕ)
    (b : Expression) (lb : Option ℕ) (after body : List ℕ) (s : Statement) (ls : Option ℕ)
    → front_of text ≡ Some (record { tree = a; large = la; rest = rest }) → relation_at rest ≡ Some (rel, middle) → front_of middle ≡ Some (record { tree = b; large = lb; rest = after })
    → behind_then after ≡ body → reader body ≡ Some (record { statement = s; large = ls })
    → conditional_by reader text ≡ Some (record { statement = If a rel b s; large = option_or la (option_or lb ls) })
unfolding conditional_by
conditional_read reader text a la rest rel middle b lb after body s ls ea er eb et es = rw (ea, er, eb, et, es) refl

-- after a first word

let_first : (n v : ℕ) (text : List ℕ) → IsLetter v → statement_at (suc n) (codes "LET" ++ v ∷ 61 ∷ text) ≡ made (Let (v - 65)) text
unfolding statement_at keyword_at behind_keyword assigned_at target_at
let_first n v text h = rw (is_letter_true v h) refl

assign_first : (n v : ℕ) (text : List ℕ) → IsLetter v → statement_at (suc n) (v ∷ 61 ∷ text) ≡ made (Let (v - 65)) text
unfolding statement_at target_at
assign_first n v text h = rw (is_letter_true v h) refl

print_first : (n : ℕ) (text : List ℕ) → statement_at (suc n) (codes "PRINT" ++ text) ≡ print_at text
unfolding statement_at keyword_at behind_keyword target_at
print_first n text = refl

short_print_first : (n : ℕ) (text : List ℕ) → behind_word (codes "INT") text ≡ None → statement_at (suc n) (codes "PR" ++ text) ≡ print_at text
unfolding statement_at keyword_at behind_keyword target_at
short_print_first n text e = rw e refl

input_first : (n : ℕ) (text : List ℕ) → statement_at (suc n) (codes "INPUT" ++ text) ≡ input_at text
unfolding statement_at keyword_at behind_keyword target_at
input_first n text = refl

if_first : (n : ℕ) (text : List ℕ) → statement_at (suc n) (codes "IF" ++ text) ≡ conditional_by (statement_at n) text
unfolding statement_at keyword_at behind_keyword target_at
if_first n text = refl

goto_first : (n : ℕ) (text : List ℕ) → statement_at (suc n) (codes "GOTO" ++ text) ≡ made Goto text
unfolding statement_at keyword_at behind_keyword target_at
goto_first n text = refl

gosub_first : (n : ℕ) (text : List ℕ) → statement_at (suc n) (codes "GOSUB" ++ text) ≡ made Gosub text
unfolding statement_at keyword_at behind_keyword target_at
gosub_first n text = refl

return_first : (n : ℕ) → statement_at (suc n) (codes "RETURN") ≡ Some (record { statement = Return; large = None })
unfolding statement_at keyword_at behind_keyword target_at
return_first n = refl

end_first : (n : ℕ) → statement_at (suc n) (codes "END") ≡ Some (record { statement = End; large = None })
unfolding statement_at keyword_at behind_keyword target_at
end_first n = refl

remark_first : (n : ℕ) (any : List ℕ) → statement_at (suc n) (codes "REM" ++ any) ≡ Some (record { statement = Remark; large = None })
unfolding statement_at keyword_at behind_keyword target_at
remark_first n any = refl

complete_statement : {text : List ℕ} {s : Statement} {large : Option ℕ} → States text s large → (n : ℕ) → length text ≤ n → statement_at (suc n) text
    ≡ Some (record { statement = s; large = large })
complete_statement (let_assign v text e large h r) n le = let_first n v text h ∙ made_read (Let (v - 65)) text e large r
complete_statement (assign v text e large h r) n le = assign_first n v text h ∙ made_read (Let (v - 65)) text e large r
complete_statement (print text items ends_line large p) n le = print_first n text ∙ print_read text items ends_line large p
complete_statement (short_print text items ends_line large p) n le = short_print_first n text (int_begins_no_items p) ∙ print_read text items ends_line large p
complete_statement (input text letters v) n le = input_first n text ∙ input_read text letters v
complete_statement (conditional text a la rest rel middle b lb after body s ls ra rr rb m rs) zero le = absurd (omega arith)
complete_statement (conditional text a la rest rel middle b lb after body s ls ra rr rb m rs) (suc n) le =
    let sa = shorter ra in
    let sr = relation_shorter rr in
    let sb = shorter rb in
    let sm = then_shorter m in
    let starts = statement_starts rs in
    if_first (suc n) text ∙ conditional_read (statement_at (suc n)) text a la rest rel middle b lb after body s ls
    (front_read text a la rest ra (relation_follows rr))
    (relation_read rr (no_other rb))
    (front_read middle b lb after rb (then_follows m starts.follows))
    (then_read m starts.no_then)
    (complete_statement rs n (omega arith))
complete_statement (goto text e large r) n le = goto_first n text ∙ made_read Goto text e large r
complete_statement (gosub text e large r) n le = gosub_first n text ∙ made_read Gosub text e large r
complete_statement return n le = return_first n
complete_statement end n le = end_first n
complete_statement (remark any) n le = remark_first n any

-- a statement in the grammar is read
pub statement_read : (text : List ℕ) (s : Statement) (large : Option ℕ) → States text s large → statement_at (length text + 1) text ≡ Some (record { statement = s; large = large })
statement_read text s large r = let n : length text + 1 ≡ suc (length text) = omega arith in rw n (complete_statement r (length text) (omega arith))

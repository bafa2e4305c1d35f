-- Bounds of a text: what it reads as costs no more than its length allows.
use Rattle.std.proofs.Common.{◌≡◌, ℕ, ◌+◌, ◌*◌, ◌<◌, ◌≤◌, Bool, true, false, List, [], ◌∷◌, ◌++◌, length, ap, arith, length-append, Option}
use Rattle.tb_basic_syntax.specs.Source.{Expression, Item, Zone, Statement}
use Rattle.tb_basic_meaning.specs.Cost.{nodes, item_cost, statement_cost, items_cost}
use Rattle.tb_basic_syntax.specs.Texts.{AreShort}
use Rattle.tb_basic_syntax.specs.Texts.{statement_texts, item_texts}
use Rattle.tb_words.specs.declared.Rel.{Rel}
use Rattle.tb_basic_grammar.specs.Grammar.{Part, Reads, number, variable, random, parentheses, factor, product, term, plus, minus, sum}
use Rattle.tb_basic_grammar.specs.Statements.{Relates, equal, less, greater, at_most, at_least, less_or_greater, greater_or_less, MayThen, bare, then, ReadsItem}
use Rattle.tb_basic_grammar.specs.Statements.{value, quotation, comma, semicolon, Prints, nothing, last, next, Variables, one, more, States, let_assign, assign}
use Rattle.tb_basic_grammar.specs.Statements.{print, short_print, input, conditional, goto, gosub, return, end, remark}
use Rattle.tb_basic_meaning.specs.Spaced.{AreApart, IsSpaced}
use Rattle.tb_basic_meaning.proofs.Costs.{one_node, items_pay}

-- ── expressions ──
-- each node takes a byte of the text, or more
nodes_read : (p : Part) (text : List ℕ) (e : Expression) (large : Option ℕ) (rest : List ℕ) → Reads p text e large rest → nodes e + length rest ≤ length text
nodes_read _ text _ _ rest (number _ d digits _ is ds) =
    let a = length-append digits rest in let b : length text ≡ length (d ∷ digits ++ rest) = ap length is in omega (arith, a, b)
nodes_read _ _ _ _ _ (variable v rest l) = omega arith
nodes_read _ _ _ _ _ (random text e large rest r) = let a = nodes_read _ text e large (41 ∷ rest) r in omega (arith, a)
nodes_read _ _ _ _ _ (parentheses text e large rest r) = let a = nodes_read _ text e large (41 ∷ rest) r in omega (arith, a)
nodes_read _ _ _ _ _ (factor text e large rest r) = nodes_read _ text e large rest r
nodes_read _ _ _ _ _ (product text a b la lb sign op middle rest r is q) =
    let x = nodes_read _ text a la (sign ∷ middle) r in let y = nodes_read _ middle b lb rest q in omega (arith, x, y)
nodes_read _ _ _ _ _ (term text e large rest r) = nodes_read _ text e large rest r
nodes_read _ _ _ _ _ (plus text e large rest r) = let a = nodes_read _ text e large rest r in omega (arith, a)
nodes_read _ _ _ _ _ (minus text e large rest r) = let a = nodes_read _ text e large rest r in omega (arith, a)
nodes_read _ _ _ _ _ (sum text a b la lb sign op middle rest r is q) =
    let x = nodes_read _ text a la (sign ∷ middle) r in let y = nodes_read _ middle b lb rest q in omega (arith, x, y)

-- ── items of PRINT ──
item_read : (text : List ℕ) (item : Item) (large : Option ℕ) (rest : List ℕ) → ReadsItem text item large rest → item_cost item + 72 * length rest ≤ 72 * length text
item_read _ _ _ _ (value text e large rest r) = let a = nodes_read _ text e large rest r in let b = one_node e in omega (arith, a, b)
item_read _ _ _ _ (quotation bytes rest q) = let a = length-append bytes (34 ∷ rest) in omega (arith, a)

items_read : (ends : Bool) (text : List ℕ) (items : List Item) (ends_line : Bool) (large : Option ℕ) → Prints ends text items ends_line large → items_cost items ≤ 72 * length text
items_read _ _ _ _ _ (nothing ends) = omega arith
items_read _ _ _ _ _ (last ends text item large r) = let a = item_read text item large [] r in omega (arith, a)
items_read _ _ _ _ _ (next ends text item la sign _ rest items ends_line lb r comma p) =
    let a = item_read text item la (44 ∷ rest) r in let b = items_read false rest items ends_line lb p in omega (arith, a, b)
items_read _ _ _ _ _ (next ends text item la sign _ rest items ends_line lb r semicolon p) =
    let a = item_read text item la (59 ∷ rest) r in let b = items_read false rest items ends_line lb p in omega (arith, a, b)

-- a zone follows an item
behind_item : (text : List ℕ) (item : Item) (large : Option ℕ) (rest : List ℕ) → ReadsItem text item large rest → (b : Bool) (items : List Item)
    → AreApart true items → AreApart b (item ∷ items)
behind_item _ _ _ _ (value text e large rest r) true items h = h
behind_item _ _ _ _ (value text e large rest r) false items h = h
behind_item _ _ _ _ (quotation bytes rest q) true items h = h
behind_item _ _ _ _ (quotation bytes rest q) false items h = h

items_apart : (ends : Bool) (text : List ℕ) (items : List Item) (ends_line : Bool) (large : Option ℕ) → Prints ends text items ends_line large → (b : Bool) → AreApart b items
items_apart _ _ _ _ _ (nothing ends) b = tt
items_apart _ _ _ _ _ (last ends text item large r) b = behind_item text item large [] r b [] tt
items_apart _ _ _ _ _ (next ends text item la sign _ rest items ends_line lb r comma p) b =
    behind_item text item la (44 ∷ rest) r b (Zone ∷ items) (items_apart false rest items ends_line lb p false)
items_apart _ _ _ _ _ (next ends text item la sign _ rest items ends_line lb r semicolon p) b =
    behind_item text item la (59 ∷ rest) r b items (items_apart false rest items ends_line lb p true)

-- a text is shorter than what it is in
item_short : (text : List ℕ) (item : Item) (large : Option ℕ) (rest : List ℕ) → ReadsItem text item large rest → (limit : ℕ) (items : List Item)
    → length text < limit → AreShort limit (item_texts items) → (length rest ≤ length text) × AreShort limit (item_texts (item ∷ items))
item_short _ _ _ _ (value text e large rest r) limit items l h = let a = nodes_read _ text e large rest r in (omega (arith, a), h)
item_short _ _ _ _ (quotation bytes rest q) limit items l h = let a = length-append bytes (34 ∷ rest) in (omega (arith, a), (omega (arith, a, l), h))

rest_short : (text : List ℕ) (item : Item) (large : Option ℕ) (rest : List ℕ) → ReadsItem text item large rest → length rest ≤ length text
rest_short text item large rest r = (item_short text item large rest r (length text + 1) [] (omega arith) tt).0

items_short : (ends : Bool) (text : List ℕ) (items : List Item) (ends_line : Bool) (large : Option ℕ) → Prints ends text items ends_line large
    → (limit : ℕ) → length text < limit → AreShort limit (item_texts items)
items_short _ _ _ _ _ (nothing ends) limit l = tt
items_short _ _ _ _ _ (last ends text item large r) limit l = (item_short text item large [] r limit [] l tt).1
items_short _ _ _ _ _ (next ends text item la sign _ rest items ends_line lb r comma p) limit l =
    let a = rest_short text item la (44 ∷ rest) r in
    (item_short text item la (44 ∷ rest) r limit (Zone ∷ items) l (items_short false rest items ends_line lb p limit (omega (arith, a, l)))).1
items_short _ _ _ _ _ (next ends text item la sign _ rest items ends_line lb r semicolon p) limit l =
    let a = rest_short text item la (59 ∷ rest) r in
    (item_short text item la (59 ∷ rest) r limit items l (items_short false rest items ends_line lb p limit (omega (arith, a, l)))).1

letters_read : (text letters : List ℕ) → Variables text letters → length letters ≤ length text
letters_read _ _ (one v l) = omega arith
letters_read _ _ (more v text letters l r) = let a = letters_read text letters r in omega (arith, a)

-- ── statements ──
relation_read : (text : List ℕ) (rel : Rel) (rest : List ℕ) → Relates text rel rest → length rest ≤ length text
relation_read _ _ _ (equal rest) = omega arith
relation_read _ _ _ (less rest) = omega arith
relation_read _ _ _ (greater rest) = omega arith
relation_read _ _ _ (at_most rest) = omega arith
relation_read _ _ _ (at_least rest) = omega arith
relation_read _ _ _ (less_or_greater rest) = omega arith
relation_read _ _ _ (greater_or_less rest) = omega arith

then_read : (text rest : List ℕ) → MayThen text rest → length rest ≤ length text
then_read _ _ (bare text) = omega arith
then_read _ _ (then text) = omega arith

-- a statement of a text that is shorter than a limit
pub record Told (limit : ℕ) (text : List ℕ) (c : Statement) : Type 0 where
  pub spaced : IsSpaced c
  pub short : length text < limit → AreShort limit (statement_texts c)
  pub paid : statement_cost c ≤ 72 * length text

-- what is read as a statement has these properties
pub stated : (limit : ℕ) (text : List ℕ) (c : Statement) (large : Option ℕ) → States text c large → Told limit text c
stated limit _ _ _ (let_assign v text e large l r) = record { spaced = tt; short = λ h. tt; paid = let a = nodes_read _ text e large [] r in omega (arith, a) }
stated limit _ _ _ (assign v text e large l r) = record { spaced = tt; short = λ h. tt; paid = let a = nodes_read _ text e large [] r in omega (arith, a) }
stated limit _ _ _ (print text items ends_line large p) = record {
  spaced = items_apart true text items ends_line large p false;
  short = λ h. items_short true text items ends_line large p limit (omega (arith, h));
  paid = let a = items_read true text items ends_line large p in let b = items_pay items in omega (arith, a, b);
}
stated limit _ _ _ (short_print text items ends_line large p) = record {
  spaced = items_apart true text items ends_line large p false;
  short = λ h. items_short true text items ends_line large p limit (omega (arith, h));
  paid = let a = items_read true text items ends_line large p in let b = items_pay items in omega (arith, a, b);
}
stated limit _ _ _ (input text letters r) = record { spaced = tt; short = λ h. tt; paid = let a = letters_read text letters r in omega (arith, a) }
stated limit _ _ _ (conditional text a la rest rel middle b lb after body s ls ra relates rb may st) =
    let t = stated limit body s ls st in
    let x = nodes_read _ text a la rest ra in let y = nodes_read _ middle b lb after rb in
    let u = relation_read rest rel middle relates in let v = then_read after body may in let w = t.paid in
    record { spaced = t.spaced; short = λ h. t.short (omega (arith, h, x, y, u, v)); paid = omega (arith, x, y, u, v, w) }
stated limit _ _ _ (goto text e large r) = record { spaced = tt; short = λ h. tt; paid = let a = nodes_read _ text e large [] r in omega (arith, a) }
stated limit _ _ _ (gosub text e large r) = record { spaced = tt; short = λ h. tt; paid = let a = nodes_read _ text e large [] r in omega (arith, a) }
stated limit _ _ _ return = record { spaced = tt; short = λ h. tt; paid = omega arith }
stated limit _ _ _ end = record { spaced = tt; short = λ h. tt; paid = omega arith }
stated limit _ _ _ (remark any) = record { spaced = tt; short = λ h. tt; paid = omega arith }

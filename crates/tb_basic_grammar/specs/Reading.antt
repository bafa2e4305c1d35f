-- Reading expressions from left to right, as functions of lists. The program does this; Grammar alone says what a text means.
use Rattle.std.specs.Prelude.{ℕ, zero, suc, ◌+◌, ◌-◌, ◌*◌, List, [], ◌∷◌, length, Bool, false, Option, Some, None, option_and_then}
use Rattle.std.specs.Prelude.{◌==◌, if◌then◌else◌, codes}
use Rattle.std.specs.Option.{option_or}
use Rattle.tb_basic_syntax.specs.declared.expressions.Operator.{Operator}
use Rattle.tb_basic_syntax.specs.Source.{Expression, Number, Variable, Negate, Binary, Random}
use Rattle.tb_basic_grammar.specs.Grammar.{is_digit, is_letter, word_of, large_at, Part, Whole, Term, operator}

-- what was read, where its first literal above 65,535 begins, and what is left
pub record Found : Type 0 where
  pub tree : Expression
  pub large : Option ℕ
  pub rest : List ℕ

infixl 10 ◌>>=◌
-- one reading after another: None if either gives None
abbrev pub ◌>>=◌ : {A B : Type 0} → Option A → (A → Option B) → Option B
o >>= f = option_and_then f o

-- f of a value that is there, else the answer for nothing
abbrev pub when : {A B : Type 0} → Option A → B → (A → B) → B
when None otherwise f = otherwise
when (Some x) otherwise f = f x

-- what is left after a byte
abbrev pub behind : ℕ → List ℕ → Option (List ℕ)
behind b [] = None
behind b (c ∷ text) = if c == b then Some text else None

-- what is left after a word
abbrev pub behind_word : List ℕ → List ℕ → Option (List ℕ)
behind_word [] text = Some text
behind_word (b ∷ word) text = behind b text >>= behind_word word

-- the value of the digits at the front, after a number that the digits before them spell, and what is left
abbrev pub digits_at : ℕ → List ℕ → ℕ × List ℕ
digits_at n [] = (n, [])
digits_at n (b ∷ text) = if is_digit b then digits_at (10 * n + (b - 48)) text else (n, b ∷ text)

-- a literal of any size, and what is left after it; asked for only if the text begins with a digit
unfoldable pub literal_at : List ℕ → Found
literal_at text = let d = digits_at 0 text in record { tree = Number (word_of d.0); large = large_at d.0 (length text); rest = d.1 }

-- a letter by its place from 0 for A, and what is left after it
abbrev pub letter_at : List ℕ → Option (ℕ × List ℕ)
letter_at [] = None
letter_at (b ∷ text) = if is_letter b then Some (b - 65, text) else None

-- a variable at the front, and what is left after it
unfoldable pub variable_at : List ℕ → Option Found
variable_at text = letter_at text >>= λ v. Some (record { tree = Variable v.0; large = None; rest = v.1 })

-- what was found, with the closing parenthesis after it taken; None if none follows
abbrev pub closed : Found → Option Found
closed f = behind 41 f.rest >>= λ rest. Some (record { tree = f.tree; large = f.large; rest = rest })

-- RND with what was found as its bound
abbrev pub randomly : Found → Found
randomly f = record { tree = Random f.tree; large = f.large; rest = f.rest }

-- what was found, with a minus sign before it
abbrev pub negated : Found → Found
negated f = record { tree = Negate f.tree; large = f.large; rest = f.rest }

-- two operands with an operator between them, and what is left after the second
abbrev pub joined : Operator → Found → Found → Found
joined op f g = record { tree = Binary op f.tree g.tree; large = option_or f.large g.large; rest = g.rest }

-- an expression in parentheses, read by `whole`
unfoldable pub group_by : (List ℕ → Option Found) → List ℕ → Option Found
group_by whole text = behind 40 text >>= whole >>= closed

-- whether the text begins with a digit
abbrev pub starts_digit : List ℕ → Bool
starts_digit [] = false
starts_digit (b ∷ text) = is_digit b

-- a variable, or an expression in parentheses
abbrev pub plain_by : (List ℕ → Option Found) → List ℕ → Option Found
plain_by whole text = when (behind 40 text) (variable_at text) (λ inner. group_by whole text)

-- a factor: a literal, RND with its bound, or a plain one; `whole` reads what is in parentheses
unfoldable pub factor_by : (List ℕ → Option Found) → List ℕ → Option Found
factor_by whole text =
    if starts_digit text then Some (literal_at text)
    else when (behind_word (codes "RND") text) (plain_by whole text) (λ bound. group_by whole bound >>= λ f. Some (randomly f))

-- the operator at the front, and what is left after it
abbrev pub operator_at : Part → List ℕ → Option (Operator × List ℕ)
operator_at part [] = None
operator_at part (b ∷ text) = operator part b >>= λ op. Some (op, text)

-- more operands after a first one, at most the given number
abbrev pub more : Part → (List ℕ → Option Found) → ℕ → Found → Option Found
more part operand zero f = Some f
more part operand (suc k) f = when (operator_at part f.rest) (Some f) (λ p. operand p.1 >>= λ g. more part operand k (joined p.0 f g))

-- a term: operands that `factor` reads, with * or / between them
unfoldable pub term_by : (List ℕ → Option Found) → List ℕ → Option Found
term_by factor text = factor text >>= λ f. more Term factor (length f.rest) f

-- a term with a sign
abbrev pub signed_by : (List ℕ → Option Found) → List ℕ → Option Found
signed_by term text = when (behind 43 text) (when (behind 45 text) (term text) (λ inner. term inner >>= λ f. Some (negated f))) term

-- an expression: terms with + or - between them, the first with a sign or none; `factor` reads their factors
unfoldable pub whole_by : (List ℕ → Option Found) → List ℕ → Option Found
whole_by factor text = signed_by (term_by factor) text >>= λ f. more Whole (term_by factor) (length f.rest) f

-- an expression whose parentheses are nested less than n deep
unfoldable pub whole_at : ℕ → List ℕ → Option Found
whole_at zero text = None
whole_at (suc n) text = whole_by (factor_by (whole_at n)) text

-- a factor whose parentheses are nested at most n deep
abbrev pub factor_at : ℕ → List ℕ → Option Found
factor_at n text = factor_by (whole_at n) text

-- a term whose parentheses are nested at most n deep
abbrev pub term_at : ℕ → List ℕ → Option Found
term_at n text = term_by (factor_at n) text

-- an expression at the front: each parenthesis takes a byte, so the length bounds the nesting
unfoldable pub front_of : List ℕ → Option Found
front_of text = whole_at (length text + 1) text

-- what was found, if nothing is left
abbrev pub at_end : List ℕ → Found → Option Found
at_end [] f = Some f
at_end (b ∷ rest) f = None

-- what was found, if it goes up to the end of its text
abbrev pub ended : Found → Option Found
ended f = at_end f.rest f

-- the text as one expression
unfoldable pub expression_in : List ℕ → Option Found
expression_in text = front_of text >>= ended

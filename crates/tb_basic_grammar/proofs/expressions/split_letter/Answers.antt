-- The goals of `split_letter` in src/expressions.rt.
use Rattle.std.proofs.Common.{◌-◌, ◌<◌, ℕ, arith, inl}
use Rattle.tb_words.specs.Letters.{Spells}
use Rattle.tb_basic_grammar.specs.Grammar.{IsLetter}
use Rattle.tb_basic_grammar.proofs.expressions.split_letter.Goals as goal

-- each letter in upper case is read
is_read : (b : ℕ) → IsLetter b → ((n : ℕ) → n < 26 → Spells b n → ⊥) → ⊥
is_read b letter none = none (b - 65) (omega (arith, letter)) (inl (omega (arith, letter)))

pub returns-in_err-read-in-len1-up : goal.returns-in_err-read-in-len1-up
returns-in_err-read-in-len1-up c = absurd (is_read _ c.if-is_ascii_uppercase.ensures.cases (c.in_err-read-in-len1-up.ensures))

-- The goals of `token_at` in src/lexer.rt.
use Rattle.std.proofs.Common.{◌≡◌, ◌+◌, ◌≤◌, true, false, slice_index, rules, subst, sym}
use Rattle.tb_parser.specs.Kinds.{is_any_letter, is_sign, TokenAt, number, letter, text, relation, mark}
use Rattle.tb_basic_grammar.specs.Grammar.{is_digit}
use Rattle.tb_parser.specs.declared.lexer.TokenKind.{TokenKind}
use Rattle.tb_parser.proofs.Written.{no_letter, no_sign}
use Rattle.tb_parser.proofs.lexer.token_at.Goals as goal

pub returns-in-34-clause-is : goal.returns-in-34-clause-is
returns-in-34-clause-is c = text c.text_token.result.0 c.text_token.result.1 c.in-34.is c.text_token.ensures.is

pub returns-in-60-clause-is : goal.returns-in-60-clause-is
returns-in-60-clause-is c =
    let sign : is_sign (slice_index c.args.line.now c.args.start) ≡ true = search rules in
    relation c.relation_end.result sign c.relation_end.ensures.is

pub returns-in-48-to-57-clause-is : goal.returns-in-48-to-57-clause-is
returns-in-48-to-57-clause-is c =
    let digit : is_digit (slice_index c.args.line.now c.args.start) ≡ true = search rules in
    number c.digits_end.result digit c.digits_end.ensures

pub returns-in-65-to-90-clause-is : goal.returns-in-65-to-90-clause-is
returns-in-65-to-90-clause-is c =
    let is_letter : is_any_letter (slice_index c.args.line.now c.args.start) ≡ true = search rules in
    letter c.letter_token.result.0 c.letter_token.result.1 is_letter c.letter_token.ensures.is

pub returns-in_default-clause-is : goal.returns-in_default-clause-is
returns-in_default-clause-is c =
    let b = slice_index c.args.line.now c.args.start in
    let no_digit : is_digit b ≡ false = search rules in
    let no_capital : 65 ≤ b → b ≤ 90 → ⊥ = search rules in
    let no_small : 97 ≤ b → b ≤ 122 → ⊥ = search rules in
    let no_quote : b ≡ 34 → ⊥ = search rules in
    let no_less : b ≡ 60 → ⊥ = search rules in
    let no_more : b ≡ 62 → ⊥ = search rules in
    let Is : TokenKind → Type 0 = λ k. TokenAt c.args.awaits c.args.line.now c.args.start k (c.args.start + 1) in
    subst Is (sym c.mark_kind.ensures) (mark no_digit (no_letter b no_capital no_small) no_quote (no_sign b no_less no_more))

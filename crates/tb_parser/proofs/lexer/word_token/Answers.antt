-- The goals of `word_token` in src/lexer.rt.
use Rattle.std.proofs.Common.{ℕ, List, ◌∙◌, get_or, arith, subst}
use borrow.Author.Count.{below_more}
use Rattle.tb_basic_grammar.specs.StatementReading.{keywords, spelled}
use Rattle.tb_basic_grammar.specs.declared.keywords.Keyword.TheVariants.{Let}
use Rattle.tb_parser.specs.Kinds.{IsWord, LacksWord, then, first_word}
use Rattle.tb_parser.proofs.Longest.{is_longest, lacks_words}
use Rattle.tb_parser.proofs.lexer.word_token.Goals as goal

pub returns-in-Some : goal.returns-in-Some
returns-in-Some c = then c.in-Some.end (subst (λ (w : List ℕ). IsWord c.args.line.now c.args.start w c.in-Some.end) c.as_bytes.ensures.value c.in-Some.ensures)

pub returns-in-Some-word_end : goal.returns-in-Some-word_end
returns-in-Some-word_end c =
    let l = c.loop-keyword in
    first_word _ c.in-Some-word_end.end (is_longest c.args.line.now c.args.start l.keyword-index c.in-Some-word_end.end (omega arith) c.loop-keyword-test.true l.invariant
    (subst (λ (w : List ℕ). IsWord c.args.line.now c.args.start w c.in-Some-word_end.end) (c.as_bytes-in-loop-keyword.ensures.value ∙ c.spelling.ensures.spells) c.in-Some-word_end.ensures))

pub loop-keyword-preserved : goal.loop-keyword-preserved
loop-keyword-preserved c =
    let l = c.loop-keyword in
    below_more (λ k. LacksWord c.args.line.now c.args.start (spelled (get_or keywords k Let))) l.keyword-index l.invariant
    (subst (λ (w : List ℕ). LacksWord c.args.line.now c.args.start w) (c.as_bytes-in-loop-keyword.ensures.value ∙ c.spelling.ensures.spells) c.in_default-word_end.ensures)

pub returns : goal.returns
returns c =
    lacks_words c.args.line.now c.args.start c.loop-keyword.keyword-index (omega arith) c.loop-keyword.invariant
    (subst (λ (w : List ℕ). LacksWord c.args.line.now c.args.start w) c.as_bytes.ensures.value c.in_default.ensures)

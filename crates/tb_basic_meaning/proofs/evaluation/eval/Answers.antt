-- The goals of `eval` in src/evaluation.rt.
use Rattle.std.proofs.Common.{◌≤◌, length, map, sym, subst, ◌∙◌, arith}
use Rattle.std.proofs.lemmas.List.{length-map}
use Rattle.tb_words.specs.Words.{word_of}
use Rattle.tb_basic_syntax.specs.PlainData.{expression_of}
use Rattle.tb_basic_meaning.specs.Evaluation.{IsEvaluation}
use Rattle.tb_basic_meaning.proofs.Lettered.{expression_letters}
use Rattle.tb_basic_meaning.proofs.Evaluated.{evaluated}
use Rattle.tb_basic_meaning.proofs.evaluation.eval.Goals as goal

pub returns : goal.returns
returns c =
    let e = expression_of c.args.e.now in
    let vars = map word_of c.args.variables.now in
    let all : 26 ≤ length vars = omega (arith, length-map c.args.variables.now word_of) in
    let known = evaluated e vars all (sym c.has_random.ensures ∙ c.if-has_random.false) (expression_letters c.args.e.now) c.known_value.result c.known_value.ensures in
    subst (IsEvaluation e vars) (sym c.ok_or.ensures.value) known

-- The goals of `split_keyword` in src/statements.rt.
use Rattle.std.proofs.Common.{◌≡◌, ◌+◌, ◌<◌, ℕ, suc, List, ◌∷◌, length, drop, get_or, Option, None, refl, sym, ap, ◌∙◌, arith}
use Rattle.std.proofs.Math.Seq.{drop-cons}
use Rattle.tb_basic_grammar.specs.declared.keywords.Keyword.{Keyword}
use Rattle.tb_basic_grammar.specs.Reading.{behind_word}
use Rattle.tb_basic_grammar.specs.StatementReading.{spelled, first_word, keywords}
use Rattle.tb_basic_format.proofs.statements.split_keyword.Goals as goal

-- a word that is not at the front is passed over
passed : (words : List Keyword) (i : ℕ) (word none : Keyword) (text spelling : List ℕ) (total : Option (Keyword × List ℕ)) → i < length words → get_or words i none ≡ word
    → spelling ≡ spelled word → behind_word spelling text ≡ None → first_word (drop i words) text ≡ total → first_word (drop (i + 1) words) text ≡ total
passed words i word none text spelling total inside is spells nothing before =
    let here : behind_word (spelled (get_or words i none)) text ≡ None = ap (λ (k : Keyword). behind_word (spelled k) text) is
    ∙ ap (λ (s : List ℕ). behind_word s text) (sym spells) ∙ nothing in
    let step : first_word (get_or words i none ∷ drop (suc i) words) text ≡ first_word (drop (suc i) words) text = rw here refl in
    let e : i + 1 ≡ suc i = omega arith in
    rw e (sym step ∙ ap (λ (ks : List Keyword). first_word ks text) (sym (drop-cons words i none inside)) ∙ before)

pub loop-keyword-preserved : goal.loop-keyword-preserved
loop-keyword-preserved c = passed keywords c.loop-keyword.keyword-index _ _ c.args.text.now c.as_bytes.result.now _ c.loop-keyword-test.true refl
    (c.as_bytes.ensures.value ∙ c.spelling.ensures.spells) c.in_default.ensures c.loop-keyword.invariant

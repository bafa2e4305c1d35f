-- The goals of `variables` in src/readings.rt.
use Rattle.std.proofs.Common.{◌≡◌, ℕ, ◌+◌, ◌<◌, length, get_or, rules, sym, ap, subst, ◌∙◌, to_z, of_z, arith}
use Rattle.std.specs.Prelude.{pos}
use Rattle.std.specs.Int.{w16}
use Rattle.std.proofs.Math.Facts.{to_z-of_z}
use Rattle.std.proofs.lemmas.List.{length-set}
use Rattle.std.proofs.lemmas.List.Edits.{fill_by_more}
use Rattle.std.proofs.lemmas.List.FromFn.{fill_by_all}
use Rattle.std.proofs.Math.ListN.{set}
use Rattle.tb_memmap.specs.Bytes.{at}
use Rattle.tb_words.specs.Words.{word_of}
use Rattle.tb_debug_inspection.specs.Readings.{value_in, values_in, variable_in}
use Rattle.tb_debug_inspection.proofs.Filling.{filled_more, filled_all}
use Rattle.tb_debug_inspection.proofs.readings.variables.Goals as goal

pub loop-index-preserved : goal.loop-index-preserved
loop-index-preserved c =
    let m = at c.args.memory.now in
    let xs = c.loop-index.values in
    let i = c.loop-index.index in
    let within : i < length xs = omega (arith, c.loop-index.invariant.0) in
    let same : to_z mir.Syntax.w16 (of_z mir.Syntax.w16 c.value.result) ≡ c.value.result = to_z-of_z {w = w16} (search rules) in
    let z = to_z mir.Syntax.w16 (of_z mir.Syntax.w16 c.value.result) in
    let word : word_of z ≡ variable_in m i = ap word_of same ∙ c.value.ensures.word in (
      length-set xs i z ∙ c.loop-index.invariant.0,
      filled_more (variable_in m) xs i z within word c.loop-index.invariant.1,
      subst (λ y. (k : ℕ) → k < i + 1 → get_or (set xs i y) k (pos 0) ≡ value_in m k) (sym (same ∙ c.value.ensures.value))
          (fill_by_more (value_in m) xs i (pos 0) within c.loop-index.invariant.2),
    )

pub returns-clause-words : goal.returns-clause-words
returns-clause-words c =
    let all : c.loop-index.index ≡ 26 = search rules in
    filled_all (variable_in (at c.args.memory.now)) c.loop-index.values 26 c.loop-index.invariant.0 (rw (← all) c.loop-index.invariant.1)

pub returns-clause-values : goal.returns-clause-values
unfolding values_in
returns-clause-values c =
    fill_by_all (value_in (at c.args.memory.now)) c.loop-index.values 26 (pos 0) c.loop-index.invariant.0 (search rules)

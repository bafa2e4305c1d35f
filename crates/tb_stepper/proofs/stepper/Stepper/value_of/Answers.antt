-- The goals of `Stepper::value_of` in src/readings.rt.
use Rattle.std.proofs.Common.{◌≡◌, map, ap, ◌∙◌, subst}
use Rattle.tb_memmap.specs.Bytes.{at}
use Rattle.tb_words.specs.Words.{word_of}
use Rattle.tb_basic_syntax.specs.PlainData.{expression_of}
use Rattle.tb_kernal.specs.Machine.{Content}
use Rattle.tb_basic_meaning.specs.Evaluation.{IsEvaluation}
use Rattle.tb_debug_inspection.specs.Readings.{variables_in}
use Rattle.tb_stepper.proofs.stepper.Stepper.value_of.Goals as goal

pub returns : goal.returns
returns g c =
    let variables : map word_of c.variables.result ≡ variables_in (at c.args.self.now.machine.memory) =
    c.variables.ensures.words ∙ ap (λ m. variables_in (at m)) (c.memory.ensures ∙ ap (λ (m : Content). m.memory) c.machine.ensures.present) in
    subst (λ vs. IsEvaluation (expression_of c.args.e.now) vs c.eval.result) variables c.eval.ensures

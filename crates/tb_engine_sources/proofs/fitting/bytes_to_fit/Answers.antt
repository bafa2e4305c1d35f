-- The goals of `bytes_to_fit` in src/fitting.rt.
use Rattle.std.proofs.Common.{ap, ◌-◌, length, ◌∙◌}
use Rattle.tb_engine_sources.proofs.fitting.bytes_to_fit.Goals as goal

pub returns-in-Ok : goal.returns-in-Ok
returns-in-Ok g c =
    record {
      source = c.in-Ok.source.text.items;
      program = c.in-Ok.source.program;
      reads = c.in-Ok.ensures.answers.0;
      compiles = c.in-Ok.ensures.answers.1.answer;
      takes = c.saturating_sub.ensures ∙ ap (λ f. length f - 1025) c.prg.ensures;
    }

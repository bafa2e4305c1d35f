-- The goals of `all_of` in src/build.rt.
use Rattle.std.proofs.Common.{◌∙◌}
use Rattle.tb_engine_listing.specs.Labels.{all_labels, labels_text}
use Rattle.tb_engine_listing.proofs.build.all_of.Goals as goal

pub returns : goal.returns
returns c = record {
  labels = c.in_ok-labels.ensures ∙ (λ i. labels_text (all_labels (c.starts.ensures i) (c.table.ensures i)));
  listing = c.in_ok-list.ensures.back;
  readable = c.in_ok-list.ensures.readable;
  shows = c.in_ok-list.ensures.shows;
  map = c.in_ok-chart.ensures;
}

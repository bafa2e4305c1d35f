-- The goals of `push_lines` in src/label_file.rt.
use Rattle.std.proofs.Common.{map, refl}
use Rattle.tb_compiled.specs.Compiled.{pair_of}
use Rattle.tb_engine_listing.specs.Labels.{line_label, label_text, labels_text}
use Rattle.tb_engine_listing.proofs.Appending.{more}
use Rattle.tb_engine_listing.proofs.label_file.push_lines.Goals as goal

pub loop-start-preserved : goal.loop-start-preserved
loop-start-preserved c =
    more (λ ss. labels_text (map line_label (map pair_of ss))) (λ s. label_text (line_label (pair_of s))) (λ s ss. refl) c.args.starts.now
    c.loop-start.start-index _ c.loop-start.text.items c.push_line.new.text.items _
    c.loop-start-test.true c.loop-start.invariant c.in_ok-push_line.ensures

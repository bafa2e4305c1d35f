-- The goals of `marks` in src/tally.rt.
use Rattle.std.proofs.Common.{rules, ◌||◌, false, slice_index_or, ap, ◌∙◌}
use Rattle.std.proofs.lemmas.List.{get_or-replicate}
use Rattle.std.proofs.Math.Bool.{or-false}
use Rattle.tb_machine_profile.specs.Steps.{begins_line}
use Rattle.tb_machine_profile.proofs.tally.marks.Goals as goal

pub loop-address-init : goal.loop-address-init
loop-address-init c =
    let items = c.in_ok-begins.ensures in (
      search rules,
      λ a inside. ap (λ b. begins_line c.args.starts.now a || b) (ap (λ xs. slice_index_or xs a false) items ∙ get_or-replicate 65536 a false false inside)
          ∙ or-false (begins_line c.args.starts.now a),
    )

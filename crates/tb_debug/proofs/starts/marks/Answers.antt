-- The goals of `marks` in src/starts.rt.
use Rattle.std.proofs.Common.{rules, ◌||◌, false, map, slice_index_or, ap, ◌∙◌}
use Rattle.std.proofs.Math.Bool.{or-false}
use Rattle.tb_compiled.specs.Compiled.{pair_of}
use Rattle.tb_debug.specs.Runs.{begins_at}
use Rattle.tb_debug.proofs.Marking.{none_marked}
use Rattle.tb_debug.proofs.starts.marks.Goals as goal

pub loop-start-init : goal.loop-start-init
loop-start-init c =
    let items = c.in_ok-begins.ensures in (
      search rules,
      λ a. ap (λ b. begins_at (map pair_of c.args.starts.now) a || b) (ap (λ xs. slice_index_or xs a false) items ∙ none_marked 65536 a)
          ∙ or-false (begins_at (map pair_of c.args.starts.now) a),
    )

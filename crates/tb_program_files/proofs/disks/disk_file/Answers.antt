-- The goal of `disk_file` in src/disks.rt.
use Rattle.std.proofs.Common.{rules, tests, ◌≡◌, Bool, true, false, not, refl, sym, ◌∙◌}
use Rattle.std.proofs.lemmas.Slice.Eq.{bytes_eq-Decides}
use Rattle.tb_engine_files.specs.Names.{standard}
use Rattle.tb_program_files.proofs.disks.disk_file.Goals.{else-ne-via-then-ne+else-not-is_image_name, else-ne-via-else-ne}
use Rattle.tb_program_files.proofs.disks.disk_file.Goals as goal

from_not : (b : Bool) → not b ≡ false → b ≡ true
from_not true is = refl
from_not false is = absurd cc

pub returns-clause-named : goal.returns-clause-named
returns-clause-named g c =
    λ no other. elim c.else-ne.branch [
      | else-ne-via-then-ne+else-not-is_image_name w ↦ absurd (let is = w.is_image_name.ensures in let tested = w.if-not-is_image_name in search (tests, rules))
      | else-ne-via-else-ne w ↦ absurd (other ((bytes_eq-Decides c.args.out.now standard).0 (from_not _ (sym c.ne.ensures ∙ w.if-ne.false))))
    ]

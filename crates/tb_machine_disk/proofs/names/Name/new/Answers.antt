-- The goals of `Name::new` in src/names.rt.
use Rattle.std.proofs.Common.{ap, ◌∙◌, rules}
use Rattle.tb_machine_disk.specs.D64.{name_in}
use Rattle.tb_machine_disk.proofs.Filling.{named, name_back}
use Rattle.tb_machine_disk.proofs.names.Name.new.Goals as goal

pub returns-clause-value : goal.returns-clause-value
returns-clause-value c = named c.args.text.now c.copy_from_slice.new.self c.copy_from_slice.ensures.after

pub returns-clause-back : goal.returns-clause-back
returns-clause-back c = ap name_in (named c.args.text.now c.copy_from_slice.new.self c.copy_from_slice.ensures.after) ∙ name_back c.args.text.now (search rules)

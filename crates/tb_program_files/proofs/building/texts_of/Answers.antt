-- The goals of `texts_of` in src/building.rt.
use Rattle.std.proofs.Common.{sym, ◌∙◌}
use Rattle.tb_compiled.specs.Compiled.{prg_of}
use Rattle.tb_program_files.proofs.Built.{all_tell, is_prg}
use Rattle.tb_program_files.proofs.building.texts_of.Goals as goal

pub all_wanted-requires : goal.all_wanted-requires
all_wanted-requires c =
    is_prg (prg_of c.args.source.now.program) c.prg-prg.result.now c.prg-prg.ensures c.requires.keeps.content

pub returns : goal.returns
returns c =
    all_tell c.args.names c.args.settings.notation c.args.source.now.text.items c.as_slice.result.now c.args.source.now.program c.prg-prg.result.now
    c.in_ok-made.made (sym c.if-not-wants_texts.false ∙ c.wants_texts.ensures) c.as_slice.ensures.value c.prg-prg.ensures
    c.in_ok-made.ensures c.all_wanted.result c.all_wanted.ensures

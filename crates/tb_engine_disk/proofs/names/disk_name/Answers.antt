-- The goals of `disk_name` in src/names.rt.
use Rattle.std.proofs.Common.{◌∷◌, [], take, ap, ◌∙◌, rules}
use Rattle.tb_engine_disk.specs.Names.{without}
use Rattle.tb_engine_disk.proofs.Naming.{named, unnamed}
use Rattle.tb_engine_disk.proofs.names.disk_name.Goals as goal

pub returns-in-Some : goal.returns-in-Some
returns-in-Some c =
    named c.args.path.now c.cut.result.now c.in-Some.name
    (c.cut.ensures ∙ ap (take 16) (c.without.ensures ∙ ap (without (46 ∷ 68 ∷ 54 ∷ 52 ∷ [])) (c.as_slice.ensures.value ∙ c.in_ok-signs.ensures)))
    (search rules) c.in-Some.ensures.back

pub returns : goal.returns
returns c =
    unnamed c.args.path.now c.cut.result.now c.default_name.result
    (c.cut.ensures ∙ ap (take 16) (c.without.ensures ∙ ap (without (46 ∷ 68 ∷ 54 ∷ 52 ∷ [])) (c.as_slice.ensures.value ∙ c.in_ok-signs.ensures)))
    (search rules) c.default_name.ensures

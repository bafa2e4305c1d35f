-- The goals of `build_file` in src/building.rt.
use Rattle.std.proofs.Common.{true, false, refl, sym, subst, ap, map, ◌∙◌}
use Rattle.tb_program_files.specs.Builds.{Maps}
use Rattle.tb_program_files.specs.Names.{map_of}
use Rattle.tb_program_files.proofs.Built.{build_done, not_built}
use Rattle.tb_program_files.proofs.building.build_file.Goals as goal

pub returns-in_default : goal.returns-in_default
returns-in_default g c =
    not_built g.F.FileSystem.does g.F.FileSystem.holds c.args.files.now c.args.source.now c.args.names c.args.settings c.new.result.outcome c.new.ensures.outcome

pub returns-then-costs_too_much : goal.returns-then-costs_too_much
returns-then-costs_too_much g c =
    build_done g.F.FileSystem.does g.F.FileSystem.holds c.args.files.now c.args.source.now c.args.names c.args.settings (map (λ p. p.now) c.as_slice.result.now)
    (ap (map (λ p. p.now)) c.as_slice.ensures.value ∙ c.in-Ok.ensures) c.convert-outcome.result c.convert-outcome.new.files
    c.convert-outcome.ensures.transfers c.convert-outcome.ensures.refuses true (sym c.if-costs_too_much.true ∙ c.costs_too_much.ensures)
    c.new-then-costs_too_much.result.outcome c.map_refused-outcome.new.files
    (subst (λ o. Maps g.F.FileSystem.does g.F.FileSystem.holds c.convert-outcome.new.files c.args.source.now c.args.settings (map_of c.args.names)
    c.convert-outcome.result o c.map_refused-outcome.new.files) (sym c.new-then-costs_too_much.ensures.outcome) c.map_refused-outcome.ensures)

pub returns : goal.returns
returns g c =
    build_done g.F.FileSystem.does g.F.FileSystem.holds c.args.files.now c.args.source.now c.args.names c.args.settings (map (λ p. p.now) c.as_slice.result.now)
    (ap (map (λ p. p.now)) c.as_slice.ensures.value ∙ c.in-Ok.ensures) c.convert-outcome.result c.convert-outcome.new.files
    c.convert-outcome.ensures.transfers c.convert-outcome.ensures.refuses false (sym c.if-costs_too_much.false ∙ c.costs_too_much.ensures)
    c.convert-outcome.result c.convert-outcome.new.files (refl, refl)

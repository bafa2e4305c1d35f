-- The goal of `profile_file` in src/profiling.rt.
use Rattle.std.proofs.Common.{[], ◌∷◌, ℕ, List, Bool, Bor, option_map, subst}
use Rattle.tb_engine_files.specs.Deeds.{OfOne, Refuses, Transfers}
use Rattle.tb_engine_profile.specs.Running.{given}
use Rattle.tb_program_files.specs.Profiles.{MakesPages, outputs}
use Rattle.tb_program_files.proofs.profiling.profile_file.Goals as goal

pub returns : goal.returns
returns g c =
    let does = g.F.FileSystem.does in
    let holds = g.F.FileSystem.holds in
    let f = c.args.files.now in
    let h = c.write_profile-ended.new.files in
    let ended = c.write_profile-ended.result in
    let name = c.args.named.name.now in
    let makes = λ (is_wanted : Bool). MakesPages c.args.named (given g.O.Outside.gives c.args.run) c.args.settings is_wanted in
    let outs = outputs (option_map {T = Bor (List ℕ)} (λ p. p.now) c.args.page) in (
      ended,
      c.report_of.ensures,
      subst (λ b. Transfers does holds (OfOne (makes b)) f (name ∷ []) outs ended h) c.wants_page.ensures c.write_profile-ended.ensures.transfers,
      subst (λ b. Refuses holds (makes b) f name ended) c.wants_page.ensures c.write_profile-ended.ensures.refuses,
    )

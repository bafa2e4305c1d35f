-- What holds at each turn of the loop of `with_inputs` in src/files.rt.
use Rattle.std.proofs.Common.{◌≡◌, ◌++◌, take, map}
use Rattle.std.specs.Prelude.{string_bytes}
use Rattle.tb_program_jobs.specs.Files.{input_path}
use Rattle.tb_program_jobs.proofs.files.with_inputs.Given as goal

abbrev pub invariant-loop-file : goal.invariant-loop-file
invariant-loop-file l =
    map (λ p. p.now) l.paths.items
    ≡ map (λ p. p.now) l.fn.paths.items ++ map (λ f. input_path (string_bytes f)) (take l.file-index l.files)

-- The goals of `key_file` in src/key_files.rt.
use Rattle.std.proofs.Common.{rules, ◌≡◌, ap, ◌∙◌, arith}
use Rattle.hex.specs.Hex.{IsBytes}
use Rattle.tb_engine_streams.specs.KeyFiles.{keys_of_file, key_file_of}
use Rattle.tb_engine_streams.proofs.KeyFiles.{spelled}
use Rattle.tb_engine_streams.proofs.key_files.key_file.Goals as goal

pub returns-clause-spelled : goal.returns-clause-spelled
returns-clause-spelled c =
    let text : c.push.new.self.items ≡ key_file_of c.args.keys.now = search rules in
    let fits : IsBytes c.args.keys.now = λ i. let f = c.type_inv.keys i in omega arith in
    ap keys_of_file text ∙ spelled c.args.keys.now fits

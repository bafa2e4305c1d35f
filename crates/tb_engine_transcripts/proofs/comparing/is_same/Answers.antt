-- The goals of `is_same` in src/comparing.rt.
use Rattle.std.proofs.Common.{◌≡◌, rules}
use Rattle.tb_engine_transcripts.specs.Comparing.{is_same}
use Rattle.tb_engine_transcripts.specs.Contents.{content_of}
use Rattle.tb_engine_transcripts.proofs.Same.{same_iff}
use Rattle.tb_engine_transcripts.proofs.comparing.is_same.Goals as goal

pub returns-then-is_same_output-clause-same : goal.returns-then-is_same_output-clause-same
returns-then-is_same_output-clause-same c =
    let value : c.is_same_end.result ≡ is_same (content_of c.args.one.now) (content_of c.args.other.now) = search rules in
    same_iff (content_of c.args.one.now) (content_of c.args.other.now) c.is_same_end.result value

pub returns-else-is_same_output-clause-same : goal.returns-else-is_same_output-clause-same
returns-else-is_same_output-clause-same c =
    let value : c.is_same_output.result ≡ is_same (content_of c.args.one.now) (content_of c.args.other.now) = search rules in
    same_iff (content_of c.args.one.now) (content_of c.args.other.now) c.is_same_output.result value

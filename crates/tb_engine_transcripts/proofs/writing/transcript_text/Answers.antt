-- The goal of `transcript_text` in src/writing.rt: what it answers is read as what was written.
use Rattle.std.proofs.Common.{◌≡◌, arith, rules}
use Rattle.std.proofs.lemmas.Grind.{common_steps}
use Rattle.tb_engine_transcripts.specs.Contents.{content_of}
use Rattle.tb_engine_transcripts.specs.Writing.{text_of}
use Rattle.tb_engine_transcripts.proofs.RoundTrip.{text_read}
use Rattle.tb_engine_transcripts.proofs.writing.transcript_text.Goals as goal

pub returns-clause-reads : goal.returns-clause-reads
returns-clause-reads c =
    let value : c.push_output.new.text.items ≡ text_of (content_of c.args.transcript.now) = first_of (search rules, grind (arith, common_steps)) in
    text_read (content_of c.args.transcript.now) c.push_output.new.text.items value

-- The goal of `read_transcript` in src/reading.rt: what is read can come of a run.
use Rattle.std.proofs.Common.{◌≡◌, map, Ok, arith, rules}
use Rattle.std.proofs.lemmas.Grind.{common_steps}
use Rattle.tb_engine_transcripts.specs.Contents.{turn_of, Content}
use Rattle.tb_engine_transcripts.specs.Reading.{read}
use Rattle.tb_engine_transcripts.proofs.ReadWritable.{read_is_writable}
use Rattle.tb_engine_transcripts.proofs.reading.read_transcript.Goals as goal

pub returns-clause-writable : goal.returns-clause-writable
returns-clause-writable c =
    let said : Content = record {
      options = c.in-Ok.begun.header.options;
      end = c.unwrap_or.result;
      turns = map turn_of c.in_ok-reading.reading.turns.items;
      last = c.in_ok-reading.reading.sent.items;
    } in
    let value : read c.args.text.now ≡ Ok said = first_of (search rules, grind (arith, common_steps)) in
    read_is_writable c.args.text.now said value

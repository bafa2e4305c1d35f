-- The text of a transcript that can come of a run is read as that transcript.
use Rattle.std.proofs.Common.{◌≡◌, ◌∙◌, ℕ, List, [], Ok, ap}
use Rattle.tb_engine_transcripts.specs.Contents.{Content, IsWritable}
use Rattle.tb_engine_transcripts.specs.Header.{header, nothing}
use Rattle.tb_engine_transcripts.specs.Reading.{from_header, read, whole}
use Rattle.tb_engine_transcripts.specs.Writing.{last_lines, lines_of, output_lines, pieces, text_of}
use Rattle.tb_engine_transcripts.proofs.BelowRead.{last_read, output_first, turns_read}
use Rattle.tb_engine_transcripts.proofs.GoodLines.{all_good, lines_read, parts_of}
use Rattle.tb_engine_transcripts.proofs.HeaderRead.{header_of, header_read}

-- the text of a transcript that can come of a run is read as that transcript
pub round_trip : (c : Content) → IsWritable c → read (text_of c) ≡ Ok c
round_trip c ok =
    let parts = parts_of c ok in
    let h = header_of c.options c.end in
    let head = header_read c.options c.end (output_lines c) parts.0 parts.1 in
    let turns = turns_read head.0 [] c.turns (last_lines (pieces c.last)) in
    ap (λ l. from_header (header 1 nothing l)) (lines_read (lines_of c) (all_good c ok))
    ∙ ap from_header (head.1 ∙ output_first head.0 h c.turns c.last)
    ∙ ap (whole h) (turns.1 ∙ last_read turns.0 c.turns c.last)

-- a text that is the text of a writable transcript reads as that transcript
pub text_read : (c : Content) (text : List ℕ) → text ≡ text_of c → IsWritable c → read text ≡ Ok c
text_read c text is ok = ap read is ∙ round_trip c ok

-- The goals of `read_frame` in src/reading.rt.
use Rattle.std.proofs.Common.{rules}
use Rattle.tb_editor_frames.proofs.Taken.{content_failed, frame_taken, header_had, passing_failed}
use Rattle.tb_editor_frames.proofs.reading.read_frame.Goals as goal

pub returns-in-Ok : goal.returns-in-Ok
returns-in-Ok g c =
    let had = header_had _ _ _ _ _ _ c.in-Ok-Some.field-0-is c.in-Ok-Some.ensures in
    let (taken, whole, kept) = c.in-Ok.ensures in
    let (frame, same) = frame_taken _ _ _ c.in-Ok-Some.length _ _ _ c.in-Ok.content.items had taken whole kept in
    (frame, search rules, same)

pub returns-in-Err-read_bytes : goal.returns-in-Err-read_bytes
returns-in-Err-read_bytes g c =
    let had = header_had _ _ _ _ _ _ c.in-Ok-Some.field-0-is c.in-Ok-Some.ensures in
    content_failed _ _ _ c.in-Ok-Some.length _ _ _ c.in-Err-read_bytes.error had c.in-Err-read_bytes.ensures

pub returns-in-Ok-pass_bytes : goal.returns-in-Ok-pass_bytes
returns-in-Ok-pass_bytes g c =
    let had = header_had _ _ _ _ _ _ c.in-Ok-Some.field-0-is c.in-Ok-Some.ensures in
    let (bytes, taken, whole, kept) = c.in-Ok-pass_bytes.ensures in
    let (frame, same) = frame_taken _ _ _ c.in-Ok-Some.length _ _ _ bytes had taken whole kept in
    (bytes, frame, whole, search rules, same)

pub returns-in-Err-pass_bytes : goal.returns-in-Err-pass_bytes
returns-in-Err-pass_bytes g c =
    let had = header_had _ _ _ _ _ _ c.in-Ok-Some.field-0-is c.in-Ok-Some.ensures in
    passing_failed _ _ _ c.in-Ok-Some.length _ _ _ c.in-Err-pass_bytes.error had c.in-Err-pass_bytes.ensures

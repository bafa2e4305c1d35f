-- Frames, and what reading one answers.
use Rattle.std.specs.Prelude.{ℕ, ◌≡◌, ◌≢◌, ◌⊎◌, ◌≤◌, ◌<◌, List, [], ◌∷◌, ◌++◌, codes, length, Option, Some, None, Result, Ok, Err}
use Rattle.std.specs.Fmt.{decimal}
use Rattle.std.specs.Io.KnownBytes.{Appends, Consumes, IsAtEnd}
use Rattle.std.specs.declared.alloc.Global.{Global}
use Rattle.std.specs.declared.vec.Vec.{Vec}
use Rattle.tb_engine_streams.specs.Lines.{TakesNothing, without_return}
use Rattle.tb_engine_streams.specs.Streams.{AppendsPrefix}
use Rattle.tb_editor_frames.specs.Lines.{TakesNoLine}
use Rattle.tb_editor_frames.specs.Headers.{BeginsNoHeader, IsHeader, IsPartOfHeader, IsShort, field_of, said}
use Rattle.tb_editor_frames.specs.declared.writing.WriteError.{WriteError}
use Rattle.tb_editor_frames.specs.declared.writing.WriteError.TheVariants as write_error
use Rattle.tb_editor_frames.specs.declared.header.Field.{Field}
use Rattle.tb_editor_frames.specs.declared.header.Field.TheVariants.{BadLength}
use Rattle.tb_editor_frames.specs.declared.reading.Line.{Line}
use Rattle.tb_editor_frames.specs.declared.reading.Line.TheVariants.{Empty, End}
use Rattle.tb_editor_frames.specs.declared.reading.Line.TheVariants as kind
use Rattle.tb_editor_frames.specs.declared.reading.Frame.{Frame}
use Rattle.tb_editor_frames.specs.declared.reading.Frame.TheVariants.{Content, TooLong}
use Rattle.tb_editor_frames.specs.declared.reading.FrameError.{FrameError}
use Rattle.tb_editor_frames.specs.declared.reading.FrameError.TheVariants.{Fault, Bad, NoMemory}
use Rattle.tb_editor_frames.specs.Numbers.{MOST_CONTENT}

-- the frame of a content that is written
abbrev pub frame_of : List ℕ → List ℕ
frame_of content = (codes "Content-Length: " ++ decimal (length content) ++ codes "\r\n\r\n") ++ content

-- a frame with this content: a header that says its length, and the content
abbrev pub IsFrame : List ℕ → List ℕ → Type 0
IsFrame bytes content = (header : List ℕ) × IsHeader header (length content) × (bytes ≡ header ++ content)

-- some of a frame, at least a byte, and not all of it
abbrev pub IsPartOfFrame : List ℕ → Type 0
IsPartOfFrame bytes =
    IsPartOfHeader bytes ⊎ ((n : ℕ) × (header : List ℕ) × (part : List ℕ) × IsHeader header n × (length part < n) × (bytes ≡ header ++ part))

-- what was taken begins no frame, or the input ended within one
abbrev pub TakesNoFrame : Option (List ℕ) → Option (List ℕ) → Type 0
TakesNoFrame had left = (bytes : List ℕ) × Consumes had left bytes × (BeginsNoHeader bytes ⊎ (IsPartOfFrame bytes × IsAtEnd left))

-- what a line without its end is
abbrev pub shape_of : List ℕ → Line
shape_of [] = Empty
shape_of (b ∷ bs) = kind.Field (field_of (b ∷ bs))

-- what a line says
abbrev pub line_of : List ℕ → Line
line_of line = shape_of (without_return line)

-- a line was taken, and the 10 of its end
abbrev pub Takes : Option (List ℕ) → List ℕ → Option (List ℕ) → Type 0
Takes had line left = IsShort line × Consumes had left (line ++ 10 ∷ [])

-- what reading a line of a header answers, with the reader's count of failures
abbrev pub TakesHeaderLine : Result Line FrameError → Option (List ℕ) → Option (List ℕ) → ℕ → ℕ → Type 0
TakesHeaderLine (Ok End) had left read read' = TakesNothing had left × (read' ≡ read)
TakesHeaderLine (Ok Empty) had left read read' = (line : List ℕ) × Takes had line left × (Empty ≡ line_of line) × (read' ≡ read)
TakesHeaderLine (Ok (kind.Field f)) had left read read' = (line : List ℕ) × Takes had line left × (kind.Field f ≡ line_of line) × (read' ≡ read)
TakesHeaderLine (Err Fault) had left read read' = read' ≢ read
TakesHeaderLine (Err Bad) had left read read' = TakesNoLine had left × (read' ≡ read)
TakesHeaderLine (Err NoMemory) had left read read' = read' ≡ read

-- what one more line of a header answers: the length that is said then
abbrev pub SaysLength : Field → Option ℕ → Result (Option ℕ) FrameError → Type 0
SaysLength field found (Ok now) = (field ≢ BadLength) × (now ≡ said field found)
SaysLength field found (Err e) = (field ≡ BadLength) × (e ≡ Bad)

-- what was taken begins no header, or the input ended within one
abbrev pub TakesNoHeader : Option (List ℕ) → Option (List ℕ) → Type 0
TakesNoHeader had left = (bytes : List ℕ) × Consumes had left bytes × (BeginsNoHeader bytes ⊎ (IsPartOfHeader bytes × IsAtEnd left))

-- what reading a header answers, with the reader's count of failures
abbrev pub ReadsHeader : Result (Option ℕ) FrameError → Option (List ℕ) → Option (List ℕ) → ℕ → ℕ → Type 0
ReadsHeader (Ok None) had left read read' = TakesNothing had left × (read' ≡ read)
ReadsHeader (Ok (Some n)) had left read read' = (header : List ℕ) × Consumes had left header × IsHeader header n × (read' ≡ read)
ReadsHeader (Err Fault) had left read read' = read' ≢ read
ReadsHeader (Err Bad) had left read read' = TakesNoHeader had left × (read' ≡ read)
ReadsHeader (Err NoMemory) had left read read' = read' ≡ read

-- fewer bytes were taken, and the input ended
abbrev pub TakesFewer : ℕ → Option (List ℕ) → Option (List ℕ) → Type 0
TakesFewer n had left = (part : List ℕ) × Consumes had left part × (length part < n) × IsAtEnd left

-- what reading so many bytes answers
abbrev pub ReadsBytes : ℕ → Result (Vec ℕ Global) FrameError → Option (List ℕ) → Option (List ℕ) → ℕ → ℕ → Type 0
ReadsBytes n (Ok content) had left read read' = Consumes had left content.items × (length content.items ≡ n) × (read' ≡ read)
ReadsBytes n (Err Fault) had left read read' = read' ≢ read
ReadsBytes n (Err Bad) had left read read' = TakesFewer n had left × (read' ≡ read)
ReadsBytes n (Err NoMemory) had left read read' = read' ≡ read

-- what passing over so many bytes answers
abbrev pub PassesBytes : ℕ → Result (Unit {0}) FrameError → Option (List ℕ) → Option (List ℕ) → ℕ → ℕ → Type 0
PassesBytes n (Ok done) had left read read' = (bytes : List ℕ) × Consumes had left bytes × (length bytes ≡ n) × (read' ≡ read)
PassesBytes n (Err Fault) had left read read' = read' ≢ read
PassesBytes n (Err Bad) had left read read' = TakesFewer n had left × (read' ≡ read)
PassesBytes n (Err NoMemory) had left read read' = ⊥

-- a frame with this content was taken, and nothing after it
abbrev pub TakesFrame : Option (List ℕ) → List ℕ → Option (List ℕ) → Type 0
TakesFrame had content left = (bytes : List ℕ) × Consumes had left bytes × IsFrame bytes content

-- what reading a frame answers, with the reader's count of failures
abbrev pub ReadsFrame : Result (Option Frame) FrameError → Option (List ℕ) → Option (List ℕ) → ℕ → ℕ → Type 0
ReadsFrame (Ok None) had left read read' = TakesNothing had left × (read' ≡ read)
ReadsFrame (Ok (Some (Content content))) had left read read' =
    TakesFrame had content.items left × (length content.items ≤ MOST_CONTENT) × (read' ≡ read)
ReadsFrame (Ok (Some (TooLong n))) had left read read' =
    (content : List ℕ) × TakesFrame had content left × (length content ≡ n) × (MOST_CONTENT < n) × (read' ≡ read)
ReadsFrame (Err Fault) had left read read' = read' ≢ read
ReadsFrame (Err Bad) had left read read' = TakesNoFrame had left × (read' ≡ read)
ReadsFrame (Err NoMemory) had left read read' = read' ≡ read

-- what writing a frame answers, with the writer's count of failures
abbrev pub WritesFrame : List ℕ → Result (Unit {0}) WriteError → Option (List ℕ) → Option (List ℕ) → ℕ → ℕ → Type 0
WritesFrame content (Ok done) old new wrote wrote' = Appends old new (frame_of content) × (wrote' ≡ wrote)
WritesFrame content (Err write_error.Fault) old new wrote wrote' = AppendsPrefix old new (frame_of content) × (wrote' ≢ wrote)
WritesFrame content (Err write_error.NoMemory) old new wrote wrote' = (new ≡ old) × (wrote' ≡ wrote)

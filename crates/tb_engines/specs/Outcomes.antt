-- The exit statuses, and what an engine writes and answers.
use Rattle.std.specs.Prelude.{ℕ, List, Option, Result, Ok, Err}
use Rattle.std.specs.Io.KnownBytes.{Appends, Keeps}
use Rattle.tb_engine_streams.specs.Streams.{Reads, AppendsPrefix}
use Rattle.tb_engine_streams.specs.Uses.{Use, Fails, NeverFails, MayFault}
use Rattle.tb_engine_streams.specs.Numbers.{DONE, REFUSED, STEP_LIMIT, WAITS_FOR_KEY, WENT_WRONG}
use Rattle.tb_engine_streams.specs.Outcomes as streams
use Rattle.tb_engines.specs.declared.outcome.End.{End}
use Rattle.tb_engines.specs.declared.outcome.End.TheVariants.{Done, StepLimit, WaitsForKey, WentWrong}
use Rattle.tb_engines.specs.declared.outcome.Refusal.{Refusal}
use Rattle.tb_engine_streams.specs.declared.outcome.Outcome.{Outcome as AnyOutcome}
use Rattle.tb_engine_streams.specs.declared.outcome.Outcome.TheVariants.{Ended, Refused, ReadFault, WriteFault, NoMemory}

-- the exit status if the whole text was written
abbrev pub status_of_end : End → ℕ
status_of_end Done = DONE
status_of_end StepLimit = STEP_LIMIT
status_of_end WaitsForKey = WAITS_FOR_KEY
status_of_end (WentWrong wrong pc) = WENT_WRONG

-- the exit status if the input was refused
abbrev pub status_of_refusal : Refusal → ℕ
status_of_refusal e = REFUSED

-- how the call of an engine ends
abbrev pub Outcome : Type 0
Outcome = AnyOutcome End Refusal

-- why the call of an engine made nothing that can be written
abbrev pub Failure : Type 0
Failure = streams.Failure Refusal

-- the exit status by how the call of an engine ended
abbrev pub status_of : Outcome → ℕ
status_of outcome = streams.status_of status_of_end status_of_refusal outcome

-- what an engine makes of its input: a text to be written, with how the engine ends after it, or a refusal
abbrev pub Product : Type 0
Product = Result (List ℕ × End) Refusal

-- what an engine wrote, by its outcome; `makes` says which products its input makes
abbrev pub Answers : (Product → Type 0) → Outcome → Option (List ℕ) → Option (List ℕ) → Type 0
Answers makes (Ended end) old new = (text : List ℕ) × makes (Ok (text, end)) × Appends old new text
Answers makes (Refused e) old new = makes (Err e) × Keeps old new
Answers makes ReadFault old new = Keeps old new
Answers makes WriteFault old new =
    (text : List ℕ) × (end : End) × makes (Ok (text, end)) × AppendsPrefix old new text
Answers makes NoMemory old new = Keeps old new

-- made from all that a reader had: from these bytes, if it is known what they are
abbrev pub MadeFrom : Option (List ℕ) → (List ℕ → Product → Type 0) → Product → Type 0
MadeFrom had makes product = (input : List ℕ) × Reads had input × makes input product

-- what an engine wrote of all that its reader had
abbrev pub AnswersInput : (List ℕ → Product → Type 0) → Outcome → Use → Use → Type 0
AnswersInput makes outcome reader writer = Answers (MadeFrom reader.old makes) outcome writer.old writer.new

-- a fault comes only if a stream failed in this call, or the reader gave too many bytes; at every other outcome no
-- stream failed
abbrev pub Faults : Outcome → Use → Use → Type 0
Faults ReadFault reader writer = MayFault reader × NeverFails writer
Faults WriteFault reader writer = NeverFails reader × Fails writer
Faults (Ended end) reader writer = NeverFails reader × NeverFails writer
Faults (Refused e) reader writer = NeverFails reader × NeverFails writer
Faults NoMemory reader writer = NeverFails reader × NeverFails writer

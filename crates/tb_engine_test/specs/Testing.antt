-- A source that is tested by a transcript.
use Rattle.std.specs.Prelude.{ℕ, ◌≡◌, Bool, true, false, List, map, take, Option, Some, None, Result, Ok, Err}
use Rattle.std.specs.declared.alloc.Global.{Global}
use Rattle.std.specs.declared.vec.Vec.{Vec}
use Rattle.tb_compiled.specs.Answers.{Compiles}
use Rattle.tb_compiled.specs.Compiled.{starts_of, warnings_of}
use Rattle.tb_compiled.specs.Promise.{Own}
use Rattle.tb_compiled.specs.declared.compiled.Compiled.{Compiled}
use Rattle.tb_compiled.specs.declared.settings.CompileSettings.{CompileSettings}
use Rattle.tb_engines.specs.Outcomes.{Failure}
use Rattle.tb_engine_profile_table.specs.Rows.{start_pair}
use Rattle.tb_engine_profile_table.specs.declared.rows.Start.{Start}
use Rattle.tb_engine_sources.specs.Reading.{CompilesText}
use Rattle.tb_basic_text.specs.Lines.{lines_of_file}
use Rattle.tb_basic_text.specs.declared.notation.Notation.{Notation}
use Rattle.tb_engine_transcripts.specs.Contents.{content_of}
use Rattle.tb_engine_transcripts.specs.Differing.{difference}
use Rattle.tb_engine_transcripts.specs.declared.transcript.RunOptions.{RunOptions}
use Rattle.tb_engine_transcripts.specs.declared.transcript.Transcript.{Transcript}
use Rattle.tb_engine_test.specs.Places.{LineBeside}
use Rattle.tb_engine_test.specs.Reaching.{reached}
use Rattle.tb_engine_test.specs.Running.{RunsBeside}
use Rattle.tb_engine_test.specs.declared.places.Differs.{Differs}
use Rattle.tb_engine_test.specs.declared.running.Ran.{Ran}
use Rattle.tb_engine_test.specs.declared.talk.Manner.{Manner}
use Rattle.tb_engine_test.specs.declared.testing.Counting.{Counting}
use Rattle.tb_engine_test.specs.declared.testing.Play.{Play}
use Rattle.tb_engine_test.specs.declared.testing.Tested.{Tested}

-- the starts that are counted: those of a program's lines, if they are
abbrev pub AreCounted : Bool → Compiled → Option (Vec Start Global) → Type 0
AreCounted true program (Some starts) = map start_pair starts.items ≡ starts_of program
AreCounted true program None = ⊥
AreCounted false program counted = counted ≡ None

-- how a program is talked to
pub record IsManner (program : Compiled) (shown : Notation) (counting : Counting) (manner : Manner) : Type 0 where
  pub limit : manner.limit ≡ counting.limit
  pub notation : manner.notation ≡ shown
  pub counted : AreCounted counting.counts_lines program manner.counted

-- the lines that are typed in a transcript
abbrev pub lines_of : Transcript → List (List ℕ)
lines_of t = map (λ turn. turn.typed.items) t.turns.items

-- what is told of a difference: its text, and the line that the program was in behind the lines and bytes that are alike
abbrev pub IsTold : Option ℕ → Compiled → List (List ℕ) → Manner → ℕ × ℕ × List ℕ → Differs → Type 0
IsTold rude program lines manner (turn, alike, text) d = (d.text.items ≡ text) × LineBeside rude program (take turn lines) manner alike d.line

-- where a run differs from what was wanted, if it does
abbrev pub TellsDifference : Option ℕ → Compiled → List (List ℕ) → Manner → Option (ℕ × ℕ × List ℕ) → Option Differs → Type 0
TellsDifference rude program lines manner None None = Unit {0}
TellsDifference rude program lines manner (Some found) (Some d) = IsTold rude program lines manner found d
TellsDifference rude program lines manner _ _ = ⊥

-- where a run differs from a transcript
abbrev pub IsDiffers : Compiled → Transcript → Transcript → List (List ℕ) → Manner → Option Differs → Type 0
IsDiffers program wanted ran lines manner d =
    TellsDifference wanted.options.rude program lines manner (difference (content_of wanted) (content_of ran)) d

-- the transcript of a run, with what it is to ask for
abbrev pub as_transcript : RunOptions → Ran → Transcript
as_transcript options run = record { options = options; end = run.end; turns = run.turns; last = run.last }

-- A program that was tested: its run on what is typed in the transcript, as a transcript of its own with the same
-- options, where this differs from what was wanted, and how often its lines were begun.
pub record IsTested (program : Compiled) (shown : Notation) (wanted : Transcript) (counting : Counting) (tested : Tested) : Type 0 where
  pub manner : Manner
  pub is : IsManner program shown counting manner
  pub run : Ran
  pub runs : RunsBeside wanted.options.rude manner program (lines_of wanted) run
  pub ran : tested.ran ≡ as_transcript wanted.options run
  pub differs : IsDiffers program wanted tested.ran (lines_of wanted) manner tested.differs
  pub reached : tested.reached.items ≡ reached (map (λ rows. rows.items) run.rows.items)
  pub warnings : tested.warnings.items ≡ warnings_of program

-- what testing a source answers: what a run of its program came to, or why there is no program
abbrev pub Tests : Own → List ℕ → CompileSettings → Transcript → Counting → Result Tested Failure → Type 0
Tests own source settings wanted counting (Ok tested) =
    (c : Compiled) × Compiles own settings source (Ok c) × IsTested c settings.notation wanted counting tested
Tests own source settings wanted counting (Err stop) = CompilesText own settings source (Err stop)

-- what recording a play answers: the transcript of a run on what was typed, or why there is no program
abbrev pub Records : Own → List ℕ → CompileSettings → Play → Result Transcript Failure → Type 0
Records own source settings play (Ok t) =
    (c : Compiled) × (manner : Manner) × (run : Ran) × Compiles own settings source (Ok c)
    × (manner ≡ record { limit = play.limit; notation = settings.notation; counted = None })
    × RunsBeside play.options.rude manner c (lines_of_file play.typed.now) run × (t ≡ as_transcript play.options run)
Records own source settings play (Err stop) = CompilesText own settings source (Err stop)

-- What playing a source's PRG file shows is the source's output.
use Rattle.std.proofs.Common.{ℕ, List, [], ◌∷◌, inl, inr}
use Rattle.tb_opcodes.specs.Bytes.{AreBytes}
use Rattle.tb_engine_streams.specs.Uses.{Use}
use Rattle.tb_engines.specs.Outcomes.{Outcome, Product}
use Rattle.tb_engine_streams.specs.declared.outcome.Outcome.TheVariants.{Ended, Refused, ReadFault, WriteFault, NoMemory}
use Rattle.tb_engine_play.specs.Lines.{AreBytes}
use Rattle.tb_engine_play.specs.Plays.{quietly, RunsTyped, Shows}
use Rattle.tb_basic_text.specs.declared.notation.Notation.TheVariants.{Plain}
use Rattle.tb_engine_sources.specs.Output.{RunsKept, ShowsSources}
use Rattle.tb_engine_sources.proofs.Output.{runs_source}

all_bytes : (xs : List ℕ) → AreBytes xs → AreBytes xs
all_bytes [] h = tt
all_bytes (x ∷ xs) (small, h) = (small, all_bytes xs h)

-- what is shown of the runs of a file is shown of the source if each run of the file is one of the source
shows_as : (p q : List ℕ → Product → Type 0) → ((text : List ℕ) (x : Product) → p text x → q text x) → (outcome : Outcome) (typed : List ℕ) (writer : Use)
    → Shows p outcome typed writer → Shows q outcome typed writer
shows_as p q wider (Ended end) typed writer (text, runs, written) = (text, wider _ _ runs, written)
shows_as p q wider (Refused e) typed writer (runs, kept) = (wider _ _ runs, kept)
shows_as p q wider ReadFault typed writer (so_far, text, runs, written) = (so_far, text, wider _ _ runs, written)
shows_as p q wider WriteFault typed writer (so_far, text, end, runs, written) = (so_far, text, end, wider _ _ runs, written)
shows_as p q wider NoMemory typed writer (inl kept) = inl kept
shows_as p q wider NoMemory typed writer (inr (so_far, text, end, runs, written)) = inr (so_far, text, end, wider _ _ runs, written)

-- what playing a file that keeps its source shows is what the source shows
pub shows_source : (file : List ℕ) → AreBytes file → (outcome : Outcome) (typed : List ℕ) (writer : Use)
    → Shows (RunsTyped file) outcome typed writer → ShowsSources file outcome typed writer
shows_source file small outcome typed writer shown settings source kept =
    shows_as (RunsTyped file) (λ text product. RunsKept settings Plain text [] source product)
    (λ text x (bytes, (limit, runs)). runs_source (quietly text [] limit) settings source file kept small (all_bytes text bytes) tt x runs)
    outcome typed writer shown

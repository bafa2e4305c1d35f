-- What a page says of a run besides its figures.
use Rattle.std.specs.Prelude.{ℕ, ◌≡◌, Bool, true, false, List, [], ◌∷◌, codes}
use Rattle.tb_compiled.specs.declared.settings.CompileSettings.{CompileSettings}
use Rattle.tb_compiled.specs.declared.settings.SizeLimit.{SizeLimit}
use Rattle.tb_compiled.specs.declared.settings.SizeLimit.TheVariants.{Cost, Memory}
use Rattle.tb_kernal.specs.declared.machine.Keyboard.{Keyboard}
use Rattle.tb_engines.specs.Programs.{Settings}
use Rattle.tb_engines.specs.Texts.{end_text}
use Rattle.tb_engines.specs.declared.outcome.End.{End}
use Rattle.tb_engine_profile_table.specs.About.{Facts}
use Rattle.tb_engine_profile.specs.declared.engine.Named.{Named}

-- whether the size of a program alone is limited
abbrev pub fits : SizeLimit → Bool
fits Cost = false
fits Memory = true

-- the text of an end, or `returned` if it has none
abbrev pub in_words : List ℕ → List ℕ
in_words [] = codes "returned"
in_words (c ∷ text) = c ∷ text

-- how a run ended
abbrev pub ended_text : End → List ℕ
ended_text end = in_words (end_text end)

-- how a program was named, what it was compiled with, what the run was given, and how it ended
abbrev pub facts_of : Named → CompileSettings → List ℕ → List ℕ → ℕ → End → Facts
facts_of named settings keys answers limit end =
    record {
      name = named.name.now;
      seed = settings.seed;
      fits = fits settings.size;
      limit = limit;
      keys = keys;
      answers = answers;
      rude = named.rude;
      end = ended_text end;
    }

-- how a program was named and compiled, what the run was given, and how it ended, by what an engine is called with
abbrev pub facts_on : {O : Type 0} → Named → CompileSettings → Settings O → End → Facts
facts_on named settings s end = facts_of named settings s.text s.answers s.limit end

-- a keyboard types and answers what another one does
abbrev pub IsCopy : Keyboard → Keyboard → Type 0
IsCopy old new = (new.text.items ≡ old.text.items) × (new.answers.items ≡ old.answers.items)

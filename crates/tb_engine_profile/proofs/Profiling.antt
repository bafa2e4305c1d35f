-- The run of a program from its start machine, and the profile of the source that makes it.
use Rattle.std.proofs.Common.{◌≡◌, ℕ, ◌+◌, ◌<◌, ◌≤◌, false, ◌||◌, List, [], ◌∷◌, Result, Ok, Err, map, refl, subst, ap, ◌∙◌, arith}
use Rattle.std.specs.Prelude.{◌==◌}
use Rattle.std.proofs.lemmas.Bool.Decides.{nat_tests}
use Rattle.tb_kernal.specs.Machine.{Content}
use Rattle.tb_memmap.specs.Regions.{BASIC_START}
use Rattle.tb_basic_syntax.specs.Source.{Program, numbers}
use Rattle.tb_parser.specs.Files.{Outcome as FileOutcome}
use Rattle.tb_compiled_kept.specs.Addresses.{LINES_AT}
use Rattle.tb_compiled.specs.Answers.{HasOutcome, OutcomeAnswer, SourceMakes}
use Rattle.tb_compiled.specs.Compiled.{loaded_of, starts_of, AddressesRise, IsCompiled}
use Rattle.tb_compiled.specs.declared.compiled.Compiled.{Compiled}
use Rattle.tb_compiled.specs.declared.settings.CompileSettings.{CompileSettings}
use Rattle.tb_engines.specs.Programs.{start, Settings}
use Rattle.tb_engines.specs.declared.delivery.NoText.{NoText}
use Rattle.tb_engines.specs.declared.delivery.NoText.TheVariants.{Refused, NoMemory}
use Rattle.tb_engine_sources.specs.Starting.{StartsLoadable}
use Rattle.tb_machine_profile.specs.Steps.{Step, begins_line}
use Rattle.tb_engine_profile_table.specs.declared.rows.Row.{Row}
use Rattle.tb_engine_profile_table.specs.declared.texts.Texts.{Texts}
use Rattle.tb_engine_profile_table.specs.Rows.{AreApart, row_of}
use Rattle.tb_engine_profile_table.specs.About.{Facts}
use Rattle.tb_engine_profile_table.specs.Texts.{Shows}
use Rattle.tb_engines.specs.declared.outcome.End.{End}
use Rattle.tb_engine_profile.specs.declared.running.Ran.{Ran}
use Rattle.tb_engine_profile.specs.declared.engine.Made.{Made}
use Rattle.tb_engine_profile.specs.Running.{RunsFrom, IsProfile, ComesTo}
use Rattle.tb_engine_profile.specs.Profiles.{IsProfileOf, Profiles}
use Rattle.tb_compiled.specs.Promise.{Own}

-- ---- the machine

-- a run of the machine that was started is a profile
pub started : {O : Type 0} (s : Settings O) (program : Compiled) (m : Content) (result : Result Ran NoText)
    → m ≡ start BASIC_START (loaded_of program) s.text s.answers
    → ComesTo (RunsFrom s.gives s.outside s.limit program m) result → ComesTo (IsProfile s program) result
started s program m result machine ran = subst (λ x. ComesTo (RunsFrom s.gives s.outside s.limit program x) result) machine ran

-- where the machine of a loadable program is not started, memory is wanting
pub not_started : {O : Type 0} (s : Settings O) (program : Compiled) (stop : NoText)
    → StartsLoadable s.text s.answers program (Err stop) → ComesTo (IsProfile s program) (Err stop)
not_started s program (Refused e) none = absurd none
not_started s program NoMemory none = tt

-- ---- lines begin at addresses of their own

-- no line begins at an address below the lowest start
below : (low a : ℕ) (starts : List (ℕ × ℕ)) → a < low → AddressesRise low starts → begins_line (map (λ s. s.1) starts) a ≡ false
below low a [] less rise = refl
below low a (s ∷ starts) less rise =
    let from : low ≤ s.1 = rise.0 in
    let e : (a == s.1) ≡ false = grind (arith, nat_tests) in
    ap (λ b. b || begins_line (map (λ (x : ℕ × ℕ). x.1) starts) a) e ∙ below (s.1 + 1) a starts (omega arith) rise.1

apart : (low : ℕ) (starts : List (ℕ × ℕ)) → 0 < low → AddressesRise low starts → AreApart (map (λ s. s.1) starts)
apart low [] above rise = tt
apart low (s ∷ starts) above rise =
    let from : low ≤ s.1 = rise.0 in
    (omega arith, below (s.1 + 1) s.1 starts (omega arith) rise.1, apart (s.1 + 1) starts (omega arith) rise.1)

-- ---- the profile

row_lines : (ts : List Step) (starts : List (ℕ × ℕ)) → map (λ r. r.line) (map (λ s. row_of ts s.0 s.1) starts) ≡ map (λ s. s.0) starts
row_lines ts [] = refl
row_lines ts (s ∷ starts) = ap (λ ns. s.0 ∷ ns) (row_lines ts starts)

-- lines with addresses have their numbers
numbered : (at : ℕ → ℕ) (ns : List ℕ) → map (λ (s : ℕ × ℕ). s.0) (map (λ n. (n, at n)) ns) ≡ ns
numbered at [] = refl
numbered at (n ∷ ns) = ap (λ ms. n ∷ ms) (numbered at ns)

module _ {O : Type 0} (own : Own) (facts : End → Facts) (settings : CompileSettings) (s : Settings O) (source : List ℕ) (c : Compiled) where
  of_program : (program : Program) (ran : Ran) (texts : Texts) → SourceMakes settings.notation source (Ok program) → IsCompiled own settings.seed program c
      → IsProfile s c ran → Shows (facts ran.end) source ran.table texts
      → IsProfileOf facts settings.notation s source c texts.page.items texts.table.items ran
  of_program program ran texts made compiled is shows =
      record {
        program = program;
        made = made;
        is = is;
        lines = ap (map (λ (r : Row). r.line)) is.tabled.is.rows ∙ row_lines is.tabled.taken (starts_of c)
            ∙ ap (map (λ (s : ℕ × ℕ). s.0)) compiled.of.starts ∙ numbered compiled.of.at (numbers program);
        adds_up = is.tabled.adds_up (apart LINES_AT (starts_of c) (omega arith) compiled.of.rising);
        table = shows.table;
        page = shows.page;
      }

  of_outcome : (outcome : FileOutcome) (ran : Ran) (texts : Texts) → SourceMakes settings.notation source outcome → OutcomeAnswer own settings outcome (Ok c)
      → IsProfile s c ran → Shows (facts ran.end) source ran.table texts
      → IsProfileOf facts settings.notation s source c texts.page.items texts.table.items ran
  of_outcome (Ok program) ran texts made answer is shows = of_program program ran texts made answer.1 is shows
  of_outcome (Err r) ran texts made answer is shows = absurd answer

  -- the texts of a profiled run are the profile of the source that makes the program
  pub profiles : (ran : Ran) (made : Made) → HasOutcome own settings source (Ok c) → IsProfile s c ran
      → Shows (facts ran.end) source ran.table made.texts → made.end ≡ ran.end
      → Profiles facts settings.notation s source c made.texts made.end
  profiles ran made found is shows ends = (ran, of_outcome found.outcome ran made.texts found.made found.answer is shows, ends)

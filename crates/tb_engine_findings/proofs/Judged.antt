-- What becomes of a source and what is told of it, by what was read.
use Rattle.std.proofs.Common.{◌≡◌, ◌≢◌, ℕ, ◌<◌, List, [], Result, Ok, Err, ap, sym, ◌∙◌, subst}
use Rattle.std.specs.Prelude.{IfOk}
use Rattle.tb_basic_syntax.specs.PlainData.{lines_of}
use Rattle.tb_basic_syntax.specs.Source.{Program}
use Rattle.tb_basic_syntax.specs.declared.statements.Statement.{Statement}
use Rattle.tb_basic_meaning.specs.Cost.{cost}
use Rattle.tb_parser.specs.Files.{at_end}
use Rattle.tb_basic_text.specs.declared.notation.Notation.{Notation}
use Rattle.tb_basic_text.specs.Lines.{lines_of_file}
use Rattle.tb_compiled.specs.Answers.{SourceMakes}
use Rattle.tb_engine_findings.specs.declared.settings.CheckSettings.{CheckSettings}
use Rattle.tb_engine_findings.specs.BadLines.{BadLinesAre, FirstIs}
use Rattle.tb_engine_findings.specs.Entries.{DeepLinesAre}
use Rattle.tb_engine_findings.specs.Findings.{AreFindings, Tells, WarningsAre}
use Rattle.tb_engine_findings.specs.Lines.{AreRead, texts_of}
use Rattle.tb_engine_findings.specs.Remaining.{remaining}
use Rattle.tb_engine_findings.specs.Verdicts.{Judges, JudgesLines, deep_lines}
use Rattle.tb_engine_findings.specs.Warnings.{warnings_on}
use Rattle.tb_engine_findings.specs.declared.examination.Findings.{Findings}
use Rattle.tb_engine_findings.specs.declared.examination.Findings.TheVariants as findings
use Rattle.tb_engine_findings.specs.declared.judging.Verdict.{Verdict}
use Rattle.tb_engine_findings.specs.declared.judging.Verdict.TheVariants.{BadLines, Empty, Refused, Accepted}
use Rattle.tb_engine_findings.specs.declared.lines.NumberedLine.{NumberedLine}
use Rattle.tb_engine_findings.specs.declared.lines.SourceLines.{SourceLines}
use Rattle.tb_engine_findings.specs.declared.warnings.LineWarning.{LineWarning}
use Rattle.tb_engine_findings.proofs.Checked.{first_is}
use Rattle.tb_engine_findings.proofs.Depth.{deep_of_file}
use Rattle.tb_engine_findings.proofs.Makes.{made, made_small, some_left}
use Rattle.tb_compiled.specs.Promise.{Own}

module _ (notation : Notation) (source : List ℕ) (lines : SourceLines) (read : AreRead notation source lines) where
  -- the cost of the program can be counted
  pub small : lines.bad.items ≡ [] → cost (lines_of lines.program) < 4294967296
  small none = made_small notation source (lines_of lines.program) (made notation source lines read none)

  -- if no line is bad and one is left, the lines make the program
  pub made_some : lines.bad.items ≡ [] → lines.program ≢ [] → SourceMakes notation source (Ok (lines_of lines.program))
  made_some none some = some_left notation source lines.program some (made notation source lines read none)

module _ (own : Own) (settings : CheckSettings) (source : List ℕ) (lines : SourceLines) (read : AreRead settings.notation source lines) where
  judged : (v : Verdict) → JudgesLines own settings.size lines.bad.items lines.program v → Judges own settings source v
  judged (BadLines found) j = (
    subst (BadLinesAre settings.notation 1 (lines_of_file source)) (sym j.0) read.bad,
    subst (FirstIs settings.notation source) (sym j.0) (first_is settings.notation source lines.bad.items read.bad),
    λ none. j.1 (sym j.0 ∙ none),
  )
  judged Empty j =
      let Family : List (ℕ × Statement) → Type 0 = λ p. SourceMakes settings.notation source (at_end (lines_of p)) in
      subst Family j.1 (made settings.notation source lines read j.0)
  judged (Refused f) j = (lines_of lines.program, made_some settings.notation source lines read j.0 j.1, j.2)
  judged (Accepted p) j = (lines_of lines.program, made_some settings.notation source lines read j.0 j.1, j.2)

  -- the clause `judged` of `judge`
  pub judged_on : {E : Type 0} (r : Result Verdict E) → IfOk r (JudgesLines own settings.size lines.bad.items lines.program) → IfOk r (Judges own settings source)
  judged_on (Ok v) j = judged v j
  judged_on (Err e) j = tt

  -- the deep lines of the program, as lines of the file
  deep : (numbers found : List ℕ) → numbers ≡ deep_lines (lines_of lines.program) → found ≡ remaining numbers lines.numbered.items → DeepLinesAre settings.notation source found
  deep numbers found are remain = (read.entries, read.entered, remain ∙ rw (are, read.program, read.numbered) (sym (deep_of_file read.entries)))

  -- the warnings on the program, as those on the source
  warned : (p : Program) (found : List LineWarning) → found ≡ warnings_on p lines.numbered.items → WarningsAre settings.notation source p found
  warned p found are = (read.entries, read.entered, are ∙ ap (warnings_on p) read.numbered)

  abbrev Remain : List ℕ → List ℕ → Type 0
  Remain numbers found = found ≡ remaining numbers lines.numbered.items

  abbrev AreDeep : List ℕ → List ℕ → Type 0
  AreDeep numbers found = DeepLinesAre settings.notation source found

  abbrev Warned : Program → List LineWarning → Type 0
  Warned p found = found ≡ warnings_on p lines.numbered.items

  told : (v : Verdict) (f : Findings) → JudgesLines own settings.size lines.bad.items lines.program v → Tells settings.notation (lines_of_file source) Remain Warned v f
      → Tells settings.notation (lines_of_file source) AreDeep (WarningsAre settings.notation source) v f
  told (BadLines errors) (findings.BadLines bad) j t = t
  told (BadLines errors) findings.Empty j t = t
  told (BadLines errors) (findings.Refused found large) j t = t
  told (BadLines errors) (findings.Accepted warnings) j t = t
  told Empty (findings.BadLines bad) j t = t
  told Empty findings.Empty j t = t
  told Empty (findings.Refused found large) j t = t
  told Empty (findings.Accepted warnings) j t = t
  told (Refused faults) (findings.BadLines bad) j t = t
  told (Refused faults) findings.Empty j t = t
  told (Refused faults) (findings.Refused found large) j t = (t.0, deep faults.deep.items found.items j.2.0.deep t.1)
  told (Refused faults) (findings.Accepted warnings) j t = t
  told (Accepted p) (findings.BadLines bad) j t = t
  told (Accepted p) findings.Empty j t = t
  told (Accepted p) (findings.Refused found large) j t = t
  told (Accepted p) (findings.Accepted warnings) j t = warned (lines_of p) warnings.items t

  abbrev ToldBy : List (List ℕ) → List NumberedLine → Verdict → Findings → Type 0
  ToldBy texts numbered = Tells settings.notation texts (λ numbers found. found ≡ remaining numbers numbered) (λ p found. found ≡ warnings_on p numbered)

  -- the clause `findings` of `examine`
  pub found_on : (v : Verdict) (f : Findings) (texts : List (List ℕ)) (numbered : List NumberedLine) → texts ≡ texts_of lines → numbered ≡ lines.numbered.items
      → JudgesLines own settings.size lines.bad.items lines.program v → ToldBy texts numbered v f → AreFindings own settings source f
  found_on v f texts numbered written same j t =
      let here = subst (λ ls. ToldBy ls numbered v f) (written ∙ read.texts) t in
      (v, judged v j, told v f j (subst (λ ns. ToldBy (lines_of_file source) ns v f) same here))

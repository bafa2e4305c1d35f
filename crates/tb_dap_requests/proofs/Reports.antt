-- What `check` says of one source that is held.
use Rattle.std.proofs.Common.{◌≡◌, ◌⊎◌, inl, inr, ℕ, List, [], ◌∷◌, ◌++◌, map, flat_map, Some, Result, Ok, Err, sym, ap, subst, ◌∙◌, append-nil}
use Rattle.tb_engine_findings.specs.Findings.{AreFindings}
use Rattle.tb_engine_check.specs.Checks.{Checks, IsLook, Look, Looks, Missed, Saw, Told, Turn, said}
use Rattle.tb_engine_findings.specs.Fitted.{TellsFits, excess_in}
use Rattle.tb_engine_check.specs.Options.{settings_for}
use Rattle.tb_engine_check.specs.Reports.{told_of}
use Rattle.tb_engine_check.specs.Outcomes.{CheckOutcome}
use Rattle.tb_engine_check.specs.declared.outcome.Checked.{Checked}
use Rattle.tb_engine_streams.specs.declared.outcome.NoRefusal.{NoRefusal}
use Rattle.tb_engine_streams.specs.declared.outcome.Outcome.TheVariants as outcome
use Rattle.tb_engine_findings.specs.declared.settings.CheckSettings.{CheckSettings}
use Rattle.tb_engine_streams.specs.declared.stream.InputError.{InputError}
use Rattle.tb_engine_streams.specs.declared.stream.InputError.TheVariants.{Fault, NoMemory}
use Rattle.tb_dap_requests.specs.Loading.{IsHeld, IsReport}
use Rattle.tb_compiled.specs.Promise.{Own}

module _ {S : Type 0} (own : Own) (reads : S → List ℕ → Result (List ℕ) InputError → S → Type 0) (settings : CheckSettings) (path text : List ℕ) (s : S)
    (held : (name : List ℕ) (given : Result (List ℕ) InputError) (t : S) → reads s name given t → IsHeld text given) where
  -- what is said of it
  one_said : (name : List ℕ) (look : Look) (t : S) → name ≡ path → IsLook own reads settings s name look t → IsReport own settings path text (said (record { name = name; look = look }))
  one_said name (Saw source found fits) t named (given, are, tells) =
      let is : source ≡ text = held name (Ok source) t given in (
        found,
        fits,
        subst (λ x. AreFindings own (settings_for settings x) x found) is are,
        subst (λ x. TellsFits own (settings_for settings x).notation x (excess_in found) fits) is tells,
        ap (λ n. told_of n source found fits) named ∙ ap (λ x. told_of path x found fits) is,
      )
  one_said name Missed t named given = let never : Fault ≡ NoMemory = held name (Err Fault) t given in absurd (cc)

  turns_said : (turns : List Turn) (t : S) (new : List ℕ) → map (λ turn. turn.name) turns ≡ path ∷ [] → Looks own reads settings s turns t
      → new ≡ flat_map said turns → IsReport own settings path text new
  turns_said [] t new named looks wrote = absurd (cc)
  turns_said (turn ∷ []) t new named (u, look, rest) wrote =
      let is : turn.name ≡ path = cc in
      subst (IsReport own settings path text) (sym (wrote ∙ append-nil (said turn))) (one_said turn.name turn.look u is look)
  turns_said (turn ∷ next ∷ turns) t new named looks wrote = absurd (cc)

  -- the text that a writer has which had none
  pub is_report : (names : List (List ℕ)) (t : S) (old new : List ℕ) → names ≡ path ∷ [] → old ≡ [] → Told own reads settings s names (Some old) t (Some new)
      → IsReport own settings path text new
  is_report names t old new named unwritten told =
      turns_said told.turns t new (told.named ∙ named) told.looks (told.wrote ∙ ap (λ xs. xs ++ flat_map said told.turns) unwritten)

  -- the text that a writer has which had none, if neither the writer nor want of memory ended the check, is the report
  pub is_report_of : (how : CheckOutcome) (names : List (List ℕ)) (t : S) (old new : List ℕ)
      → ((end : Checked) × (how ≡ outcome.Ended end)) ⊎ ((e : NoRefusal) × (how ≡ outcome.Refused e)) ⊎ (how ≡ outcome.ReadFault) → names ≡ path ∷ [] → old ≡ []
      → Checks own reads settings s names (Some old) how t (Some new) → IsReport own settings path text new
  is_report_of (outcome.Ended end) names t old new ended named unwritten (told, is) = is_report names t old new named unwritten told
  is_report_of (outcome.Refused e) names t old new ended named unwritten (told, is) = is_report names t old new named unwritten told
  is_report_of outcome.ReadFault names t old new ended named unwritten (told, is) = is_report names t old new named unwritten told
  is_report_of outcome.WriteFault names t old new (inl (end, never)) named unwritten checks = absurd (cc)
  is_report_of outcome.WriteFault names t old new (inr (inl (e, never))) named unwritten checks = absurd (cc)
  is_report_of outcome.WriteFault names t old new (inr (inr never)) named unwritten checks = absurd (cc)
  is_report_of outcome.NoMemory names t old new (inl (end, never)) named unwritten checks = absurd (cc)
  is_report_of outcome.NoMemory names t old new (inr (inl (e, never))) named unwritten checks = absurd (cc)
  is_report_of outcome.NoMemory names t old new (inr (inr never)) named unwritten checks = absurd (cc)

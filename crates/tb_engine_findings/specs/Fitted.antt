-- What is told of a source to whoever takes any that fits the memory.
use Rattle.std.specs.Prelude.{◌≡◌, ℕ, Bool, true, false, List, Option, Some, None}
use Rattle.tb_basic_text.specs.declared.notation.Notation.{Notation}
use Rattle.tb_engine_findings.specs.Findings.{AreFindings}
use Rattle.tb_engine_findings.specs.Settings.{by_cost, by_memory}
use Rattle.tb_engine_findings.specs.declared.examination.Findings.{Findings}
use Rattle.tb_engine_findings.specs.declared.examination.Findings.TheVariants.{BadLines, Empty, Refused, Accepted}
use Rattle.tb_compiled.specs.Promise.{Own}

-- what a program costs that is refused for it
abbrev pub excess_in : Findings → Option ℕ
excess_in (BadLines bad) = None
excess_in Empty = None
excess_in (Refused deep too_large) = too_large
excess_in (Accepted warnings) = None

-- findings by what is found by the cost: those, or where the cost is too much, those by the memory
abbrev pub AreByExcess : Own → Notation → List ℕ → Findings → Option ℕ → Findings → Type 0
AreByExcess own notation source by_its_cost None f = f ≡ by_its_cost
AreByExcess own notation source by_its_cost (Some cost) f = AreFindings own (by_memory notation) source f

-- findings of a source that may take the memory, with its program's cost if that is too much
abbrev pub AreFitted : Own → Notation → List ℕ → Option ℕ → Findings → Type 0
AreFitted own notation source cost f =
    (c : Findings) × AreFindings own (by_cost notation) source c × (cost ≡ excess_in c) × AreByExcess own notation source c cost f

-- whether a source is compiled, by its findings
abbrev pub is_accepted : Findings → Bool
is_accepted (BadLines bad) = false
is_accepted Empty = false
is_accepted (Refused deep too_large) = false
is_accepted (Accepted warnings) = true

-- whether the memory holds a program that is refused for this size, if it is refused for that
abbrev pub TellsFits : Own → Notation → List ℕ → Option ℕ → Bool → Type 0
TellsFits own notation source None fits = fits ≡ false
TellsFits own notation source (Some size) fits = (f : Findings) × AreFindings own (by_memory notation) source f × (fits ≡ is_accepted f)

-- The goals of `slot_code` in src/compiler.rt.
use Rattle.std.proofs.Common.{◌≡◌, ℕ, None, Result, Ok, Err}
use Rattle.std.specs.Prelude.{IfOk}
use Rattle.tb_basic_syntax.specs.PlainData.{lines_of}
use Rattle.tb_basic_syntax.specs.Source.{Program, numbers, Rises}
use Rattle.tb_basic_syntax.specs.Texts.{HasShortTexts}
use Rattle.tb_basic_meaning.specs.declared.needs.LowerError.{LowerError}
use Rattle.tb_lower.specs.declared.slot_code.SlotCode.{SlotCode}
use Rattle.tb_lower.specs.Follows.{Follows}
use Rattle.tb_lower.specs.Lowered.{program_code}
use Rattle.tb_basic_meaning.specs.Need.{too_deep}
use Rattle.tb_lower.specs.PlainData.{code_of}
use Rattle.tb_lower.specs.Ranges.{IsCodeInRange}
use Rattle.tb_parser.specs.Files.{AreStated}
use Rattle.tb_codegen.specs.Coded.{IsSlotCode}
use Rattle.tb_codegen.proofs.Sized.{listed}
use Rattle.tb_codegen.proofs.compiler.slot_code.Goals as goal

coded : (p : Program) (r : Result SlotCode LowerError) → AreStated p → Rises 1 32768 (numbers p) → IfOk r (λ code. code_of code ≡ program_code p)
    → IfOk r (λ code. Follows p (code_of code)) → IfOk r (λ code. (limit : ℕ) → HasShortTexts limit p → IsCodeInRange limit (code_of code))
    → IfOk r (λ code. too_deep p ≡ None) → IfOk r (λ code. IsSlotCode p (code_of code))
coded p (Ok code) stated rises same follows ranges shallow =
    record { lowered = same; follows = follows; shallow = shallow; listed = listed p same stated rises ranges }
coded p (Err e) stated rises same follows ranges shallow = tt

pub returns-clause-code : goal.returns-clause-code
returns-clause-code c =
    let e = c.lower.ensures in
    coded (lines_of c.args.program.now) c.lower.result c.requires.stated c.requires.rising e.lowered e.follows e.in_range e.accepted

-- The goals of `tidy_texts_stay` in src/laws.rt.
use Rattle.std.proofs.Common.{false, refl}
use Rattle.tb_basic_format.proofs.Twice.{text_stays}
use Rattle.tb_basic_format.proofs.laws.tidy_texts_stay.Goals as goal

pub returns : goal.returns
returns c = λ notation text tidy again first second. text_stays notation false text tidy tidy again first second refl

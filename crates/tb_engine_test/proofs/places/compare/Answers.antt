-- The goal of `compare` in src/places.rt.
use Rattle.std.proofs.Common.{rules, ◌≡◌, ◌∙◌, Some, refl, sym, ap, subst}
use Rattle.std.specs.Prelude.{option_map}
use Rattle.tb_engine_transcripts.specs.Contents.{content_of}
use Rattle.tb_engine_transcripts.specs.Differing.{difference, found}
use Rattle.tb_engine_test.specs.Places.{LineBeside}
use Rattle.tb_engine_test.proofs.Past.{typed_before}
use Rattle.tb_engine_test.proofs.places.compare.Goals as goal

pub returns : goal.returns
returns c =
    let it = c.in-Some.found in
    let differs : difference (content_of c.args.wanted.now) (content_of c.args.ran.now) ≡ Some (it.turn, it.alike, it.text.items) =
    sym c.in_ok-found.ensures.value ∙ ap (option_map found) c.in-Some.is in
    let lines = typed_before (λ v. v.items) c.args.lines.now it.turn in
    let line = subst (λ typed. LineBeside c.args.wanted.now.options.rude c.args.program.now typed c.args.manner.now it.alike c.in_ok-line.line) lines (search rules) in
    rw differs (refl, line)

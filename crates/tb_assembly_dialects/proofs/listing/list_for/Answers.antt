-- The goals of `list_for` in src/listing.rt.
use Rattle.std.proofs.Common.{◌≡◌, ◌∙◌, ℕ, ap, subst}
use Rattle.std.specs.declared.alloc.Global.{Global}
use Rattle.std.specs.declared.vec.Vec.{Vec}
use Rattle.std.proofs.lemmas.Result.{IfOk-weaker}
use Rattle.tb_disasm.specs.Back.{GivesBack}
use Rattle.tb_assembly_dialects.specs.BasicLine.{behind_basic}
use Rattle.tb_assembly_dialects.specs.Listings.{Lists, spelled}
use Rattle.tb_assembly_dialects.specs.Named.{IsNamed}
use Rattle.tb_assembly_dialects.proofs.listing.list_for.Goals as goal

pub returns : goal.returns
returns c =
    let d = c.args.dialect in
    let at = c.args.at in
    let bs = c.args.bytes.now in
    let text = c.in_ok-source.source.items in
    let place = c.behind_basic-start.ensures.place in
    let rest = c.behind_basic-start.ensures.rest in
    IfOk-weaker c.spell.result (λ (shown : Vec ℕ Global). shown.items ≡ spelled d at bs c.as_slice.result.now)
    (λ (shown : Vec ℕ Global). Lists d at bs shown.items)
    (λ shown e. record {
      text = text;
      named = subst (λ a. IsNamed a (behind_basic at bs) text) place
          (subst (λ b. IsNamed c.behind_basic-start.result.0 b text) rest c.in_ok-source.ensures.either);
      back = subst (λ a. GivesBack a text (behind_basic at bs)) place
          (subst (λ b. GivesBack c.behind_basic-start.result.0 text b) rest c.in_ok-source.ensures.back);
      spells = e ∙ ap (spelled d at bs) c.as_slice.ensures.value;
    })
    c.spell.ensures

-- The goals of `write_text` in src/texts.rt.
use Rattle.std.proofs.Common.{◌≡◌, true, arith, ap, sym, ◌∙◌, take}
use Rattle.std.specs.Prelude.{flat_map}
use Rattle.std.specs.List.{list_all}
use Rattle.std.proofs.lemmas.List.{take_all}
use Rattle.tb_basic_signs.specs.Characters.{may_hold}
use Rattle.tb_basic_signs.specs.Texts.{bytes_of, written}
use Rattle.tb_basic_signs.proofs.Back.{are_bytes, back}
use Rattle.tb_basic_signs.proofs.texts.write_text.Goals as goal

pub returns-clause-back : goal.returns-clause-back
returns-clause-back c =
    let bytes = c.args.bytes.now in
    let all : take c.loop-byte.byte-index bytes ≡ bytes = take_all c.loop-byte.byte-index bytes (omega arith) in
    let text : c.loop-byte.text.items ≡ flat_map written bytes = c.loop-byte.invariant.text ∙ ap (λ bs. flat_map written bs) all in
    let held : list_all may_hold bytes ≡ true = sym (ap (λ bs. list_all may_hold bs) all) ∙ c.loop-byte.invariant.held in
    ap bytes_of text ∙ back bytes (are_bytes bytes (λ i. let f = c.type_inv.bytes i in omega arith)) held

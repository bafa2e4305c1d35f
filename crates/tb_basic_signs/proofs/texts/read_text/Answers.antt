-- The goals of `read_text` in src/texts.rt.
use Rattle.std.proofs.Common.{◌≡◌, ◌-◌, length, take, drop, arith, sym, List, ℕ}
use Rattle.std.proofs.lemmas.List.{take_all, length-drop}
use Rattle.tb_basic_signs.specs.Texts.{bytes_of}
use Rattle.tb_basic_signs.proofs.Turns.{one_more}
use Rattle.tb_basic_signs.proofs.texts.read_text.Goals as goal

-- nothing of the rest is left out if a slice goes to the end
rest_of : (text : List ℕ) (n : ℕ) → take (length text - n) (drop n text) ≡ drop n text
rest_of text n = take_all (length text - n) (drop n text) (omega (arith, length-drop n text))

pub loop-rest-preserved : goal.loop-rest-preserved
loop-rest-preserved c =
    let rest = c.loop-rest.rest.now in
    let character = c.in-Some.character in
    let turn = one_more c.loop-rest.bytes.items c.push_times.new.bytes.items rest character (bytes_of c.args.text.now)
    (sym c.in-Some.ensures.value) c.in-Some.ensures.within.0 c.in_ok-push_times.ensures c.loop-rest.invariant in
    rw (rest_of rest character.length) turn

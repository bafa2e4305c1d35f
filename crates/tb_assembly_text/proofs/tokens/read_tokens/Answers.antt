-- The goals of `read_tokens` in src/tokens.rt.
use Rattle.std.proofs.Common.{◌≡◌, ◌+◌, ◌-◌, ◌<◌, ◌≤◌, ◌++◌, ◌∷◌, [], length, map, drop, arith, sym, ap, ◌∙◌, length-drop}
use Rattle.tb_assembly_text.specs.Tokens.{token_of, lexed_of, tokens_from}
use Rattle.tb_assembly_text.proofs.Passing.{after_all, on_found}
use Rattle.tb_assembly_text.proofs.tokens.read_tokens.Goals as goal

pub loop-rest-preserved : goal.loop-rest-preserved
loop-rest-preserved c =
    let rest = c.loop-rest.rest.now in
    let ts = map token_of c.loop-rest.tokens.items in
    let l = lexed_of c.in-Found.lexeme in
    let n = c.in-Found.size in
    let one : 0 < n = c.in-Found.ensures.fits.0 in
    let within : n ≤ length rest = c.in-Found.ensures.fits.1 in
    let some : 0 < length rest = omega arith in
    let f : after_all (ts ++ (c.loop-rest.column, l) ∷ []) (tokens_from 0 (c.loop-rest.column + n) (drop n rest)) ≡ tokens_from 0 1 c.args.line.now =
    on_found ts c.loop-rest.column rest _ some c.loop-rest.invariant.0 l n (sym c.in-Found.ensures.lead) one within in
    let s : length (drop n rest) ≡ length rest - n = length-drop n rest in
    let added : map token_of c.push.new.tokens.items ≡ ts ++ (c.loop-rest.column, l) ∷ [] = c.in_ok-push-in-Found.ensures.added in
    let left : c.behind-rest-in-Found.result.now ≡ drop n rest = c.behind-rest-in-Found.ensures in (
      (λ i. after_all (added i) (tokens_from 0 (c.loop-rest.column + n) (left i))) ∙ f,
      let e : length c.behind-rest-in-Found.result.now ≡ length (drop n rest) = ap length left in omega arith,
    )

-- The goals of `RudeOutside::takes_go` in src/outsides.rt.
use Rattle.std.proofs.Common.{rules, ◌≡◌, ◌/◌, ◌%◌, false, nat_eq, refl}
use Rattle.tb_words.specs.Words.{seed_after}
use Rattle.tb_kernal.specs.Outsides.{rude_clobber}
use Rattle.tb_kernal.proofs.outsides.RudeOutside.takes_go.Goals as goal

pub returns-then-is_go-clause-taken : goal.returns-then-is_go-clause-taken
returns-then-is_go-clause-taken c =
    let seed = c.next_seed-seed.result in
    let after : seed ≡ seed_after c.args.self.now = search rules in
    let go : nat_eq (seed % 256 % 4) 0 ≡ false = search rules in
    λ _ m. (rude_clobber m.regs.s (seed / 256) (seed % 256), (after, rw go refl))

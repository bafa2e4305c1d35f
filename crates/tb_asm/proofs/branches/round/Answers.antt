-- The goals of `round` in src/branches.rt.
use Rattle.std.proofs.Common.{◌≡◌, ◌<◌, ◌+◌, drop, map, false, ◌||◌, ◌++◌, ◌∷◌, [], length, get_or, sym, subst, arith, rules}
use Rattle.tb_asm.specs.Layout.{entry_of}
use Rattle.tb_asm.specs.Marks.{marks_from, new_mark}
use Rattle.tb_asm.proofs.Passes.{behind}
use Rattle.tb_asm.proofs.Rounds.{round_item, RoundTo}
use Rattle.tb_asm.proofs.branches.round.Goals as goal

pub loop-index-preserved : goal.loop-index-preserved
loop-index-preserved c =
    let i = c.loop-index.index in
    let below : i < length c.args.items.now = c.loop-index-test.true in
    let marked : i < length c.args.long.now = omega arith in
    let grown : c.push.new.self.items ≡ c.loop-index.next.items ++ (get_or c.args.long.now i false || c.is_new-far.result) ∷ [] = search rules in
    subst (λ a. RoundTo c.args.labels.now.entries (behind c.args.items.now (i + 1)) (drop (i + 1) c.args.long.now) c.push.new.self.items (c.loop-index.changed || c.is_new-far.result) a
    (marks_from c.args.labels.now.entries c.args.at (map entry_of c.args.items.now) c.args.long.now) (new_mark c.args.labels.now.entries c.args.at
    (map entry_of c.args.items.now) c.args.long.now)) (sym c.behind-address.ensures)
    (round_item c.args.labels.now.entries c.args.items.now c.args.long.now i c.index-items-index.result below c.index-items-index.is marked
    c.loop-index.next.items c.push.new.self.items c.loop-index.changed c.is_new-far.result c.loop-index.address c.size.result c.loop-index.invariant
    c.is_new-far.ensures grown c.size.ensures)

-- The goals of `all_wanted` in src/building.rt.
use Rattle.std.proofs.Common.{map}
use Rattle.tb_program_files.proofs.Built.{put_in_order}
use Rattle.tb_program_files.proofs.building.all_wanted.Goals as goal

pub returns : goal.returns
returns c =
    put_in_order c.args.names c.args.prg.now c.args.made c.in_ok-from_slice.field-0.items c.in_ok-watch.watch.items
    (map (λ t. t.items) c.in_ok-texts.texts.items) (map (λ t. t.items) c.in_ok-texts-2.texts.items)
    (map (λ t. t.items) c.in_ok-texts-3.texts.items) (map (λ t. t.items) c.in_ok-texts-4.texts.items) c.in_ok-texts-3.ensures.0
    c.in_ok-from_slice.ensures.items c.in_ok-texts.ensures c.in_ok-texts-2.ensures c.in_ok-texts-3.ensures.1
    c.in_ok-texts-3.ensures.2 c.in_ok-texts-4.ensures c.in_ok-watch.ensures c.with_text-3.result c.with_text-3.ensures

-- The goals of `push_block` in src/label_file.rt.
use Rattle.std.proofs.Common.{◌++◌, map}
use Rattle.std.specs.Prelude.{codes}
use Rattle.tb_runtime16.specs.Addresses.{PROLOGUE_AT, SEND_AT}
use Rattle.tb_engine_listing.specs.Labels.{routine_label, all_routines, label_text, labels_text}
use Rattle.tb_engine_listing.proofs.Appending.{before}
use Rattle.tb_engine_listing.proofs.label_file.push_block.Goals as goal

pub returns : goal.returns
returns c =
    let t0 = c.args.text.now.items in let t1 = c.push_label.new.text.items in let t2 = c.push_label-2.new.text.items in let t3 = c.push_routines.new.text.items in
    let p = label_text (codes "prologue", PROLOGUE_AT) in let s = label_text (codes "send", SEND_AT) in let r = labels_text (map routine_label all_routines) in
    before t0 t1 t3 p (s ++ r) c.in_ok-push_label.ensures (before t1 t2 t3 s r c.in_ok-push_label-2.ensures c.in_ok-push_routines.ensures)

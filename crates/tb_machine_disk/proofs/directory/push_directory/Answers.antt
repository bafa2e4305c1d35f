-- The goals of `push_directory` in src/directory.rt.
use Rattle.std.proofs.Common.{ℕ, ◌++◌, ◌-◌, length, ap, ◌∙◌, append_assoc}
use Rattle.std.specs.Prelude.{flat_map}
use Rattle.std.specs.List.{range_with_len, concat}
use Rattle.tb_machine_disk.specs.Layout.{entries, no_entry}
use Rattle.tb_machine_disk.proofs.Listing.{fits, are_named_more, are_named_all, range_more, range_all}
use Rattle.tb_machine_disk.proofs.directory.push_directory.Goals as goal

pub push_entry-requires : goal.push_entry-requires
push_entry-requires c = fits c.args.files.now c.named.index c.named.block c.index-files-index.result c.named.invariant.count c.named-test.true c.index-files-index.is c.requires.small

pub named-preserved : goal.named-preserved
named-preserved c =
    are_named_more c.args.files.now c.args.directory.now.items c.named.index c.named.block c.further_blocks.result c.named.directory.items
    c.push_prefix.new.directory.items c.push_entry.new.directory.items c.index-files-index.result c.named.invariant c.named-test.true c.index-files-index.is c.further_blocks.ensures
    c.in_ok-push_prefix.ensures c.in_ok-push_entry.ensures

pub unused-preserved : goal.unused-preserved
unused-preserved c =
    range_more (no_entry (length c.args.files.now)) c.unused.index 144 c.unused.directory.items c.push_no_entry.new.directory.items _
    c.unused-test.true c.unused.invariant c.in_ok-push_no_entry.ensures

pub returns : goal.returns
returns c =
    let n : ℕ = length c.args.files.now in
    let unused = flat_map (no_entry n) (range_with_len n (144 - n)) in
    range_all (no_entry n) c.unused.index 144 c.unused.directory.items _ c.unused-test.false c.unused.invariant
    ∙ ap (λ x. x ++ unused) (are_named_all c.args.files.now c.args.directory.now.items c.named.index c.named.block c.named.directory.items c.named.invariant c.named-test.false)
    ∙ append_assoc c.args.directory.now.items (concat (entries n 0 0 c.args.files.now)) unused

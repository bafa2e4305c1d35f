-- What holds at each turn of the loops of `push_directory` in src/directory.rt.
use Rattle.std.proofs.Common.{◌≡◌, ◌-◌, ◌++◌, length, flat_map}
use Rattle.std.specs.List.{range_with_len}
use Rattle.tb_machine_disk.specs.Layout.{no_entry}
use Rattle.tb_machine_disk.proofs.Listing.{AreNamed}
use Rattle.tb_machine_disk.proofs.directory.push_directory.Given as goal

abbrev pub invariant-named : goal.invariant-named
invariant-named l = AreNamed l.files l.initial.directory.items l.index l.block l.directory.items

abbrev pub invariant-unused : goal.invariant-unused
invariant-unused l =
    let n = length l.files in
    l.directory.items ++ flat_map (no_entry n) (range_with_len l.index (144 - l.index))
    ≡ l.initial.directory.items ++ flat_map (no_entry n) (range_with_len n (144 - n))

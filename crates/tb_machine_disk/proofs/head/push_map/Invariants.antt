-- What holds at each turn of the loop of `push_map` in src/head.rt.
use Rattle.std.proofs.Common.{◌≡◌, ◌-◌, ◌++◌, flat_map}
use Rattle.std.specs.List.{range_with_len}
use Rattle.tb_machine_disk.specs.Layout.{track_map}
use Rattle.tb_machine_disk.proofs.head.push_map.Given as goal

abbrev pub invariant-tracks : goal.invariant-tracks
invariant-tracks l =
    let tracks = track_map l.used.files l.used.directory in
    l.head.items ++ flat_map tracks (range_with_len l.track (36 - l.track))
    ≡ l.initial.head.items ++ flat_map tracks (range_with_len 1 35)

-- The goals of `push_map` in src/head.rt.
use Rattle.tb_machine_disk.specs.Layout.{track_map}
use Rattle.tb_machine_disk.proofs.Listing.{range_more, range_all}
use Rattle.tb_machine_disk.proofs.head.push_map.Goals as goal

pub tracks-preserved : goal.tracks-preserved
tracks-preserved c =
    range_more (track_map c.args.used.files c.args.used.directory) c.tracks.track 36 c.tracks.head.items c.push_track.new.head.items _
    c.tracks-test.true c.tracks.invariant c.in_ok-push_track.ensures

pub returns : goal.returns
returns c =
    range_all (track_map c.args.used.files c.args.used.directory) c.tracks.track 36 c.tracks.head.items _ c.tracks-test.false c.tracks.invariant

-- The goals of `disk` in src/image.rt.
use Rattle.std.proofs.Common.{◌≡◌, take, drop, refl, ap, ◌∙◌, arith}
use Rattle.std.proofs.lemmas.Slice.{pushed}
use Rattle.tb_machine_disk.specs.Layout.{image_of}
use Rattle.tb_machine_disk.proofs.Joining.{put_together}
use Rattle.tb_machine_disk.proofs.DiskOfFiles.{whole}
use Rattle.tb_machine_disk.proofs.image.disk.Goals as goal

pub returns : goal.returns
returns c =
    let is : c.extend_from_slice-2.new.self.items ≡ image_of c.args.name.now c.args.files.now =
    put_together c.args.name.now c.args.files.now _ c.split_at.result.0.now c.split_at.result.1.now
    c.extend_from_slice.new.self.items c.push_head.new.head.items c.push_directory.new.directory.items c.extend_from_slice-2.new.self.items
    c.in-Some.used c.directory_blocks.result
    c.in_ok-blocks.ensures.items (c.split_at.ensures.front ∙ ap (take 91392) c.as_slice.ensures.value) (c.split_at.ensures.back ∙ ap (drop 91392) c.as_slice.ensures.value)
    c.in-Some.ensures.0 c.directory_blocks.ensures
    (pushed c.split_at.result.0.now c.new-image.ensures.items c.in_ok-extend_from_slice.was c.extend_from_slice.ensures.items)
    c.in_ok-push_head.ensures c.in_ok-push_directory.ensures
    (pushed c.split_at.result.1.now refl c.in_ok-extend_from_slice-2.was c.extend_from_slice-2.ensures.items) in
    let few = c.if-files-gt-MOST_FILES.false in
    let same = c.in-Some.ensures.0 in
    let small = c.in-Some.ensures.1 in
    whole c.args.name.now c.args.files.now c.extend_from_slice-2.new.self.items few (omega (arith, same, small)) is

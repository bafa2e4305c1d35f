-- The goals of `push_head` in src/head.rt.
use Rattle.std.proofs.Common.{[], ◌∷◌, ◌++◌, refl, ap, ◌∙◌, append_assoc}
use Rattle.std.proofs.lemmas.Slice.{pushed}
use Rattle.tb_machine_disk.specs.Layout.{free_map, title, head_block}
use Rattle.tb_machine_disk.proofs.head.push_head.Goals as goal

pub returns : goal.returns
unfolding head_block
returns c =
    let map = free_map c.args.used.files c.args.used.directory in
    let end = title c.args.name.now.field in
    c.in_ok-push_title.ensures
    ∙ ap (λ x. x ++ end) (c.in_ok-push_map.ensures
    ∙ ap (λ x. x ++ map) (pushed (18 ∷ 1 ∷ 65 ∷ 0 ∷ []) refl c.in_ok-extend_from_slice.was c.extend_from_slice.ensures.items))
    ∙ append_assoc (c.args.head.now.items ++ 18 ∷ 1 ∷ 65 ∷ 0 ∷ []) map end
    ∙ append_assoc c.args.head.now.items (18 ∷ 1 ∷ 65 ∷ 0 ∷ []) (map ++ end)

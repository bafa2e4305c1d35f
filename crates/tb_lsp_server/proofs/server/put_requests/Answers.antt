-- The goal of `put_requests` in src/server.rt.
use Rattle.std.proofs.Common.{true, ap, ◌∙◌}
use Rattle.std.specs.Prelude.{codes}
use Rattle.serde_json.specs.Data.{put}
use Rattle.serde_json.specs.View.{members_view}
use Rattle.tb_lsp_server.proofs.Members.{put_same, view-Bool}
use Rattle.tb_lsp_server.proofs.server.put_requests.Goals as goal

pub returns : goal.returns
returns c =
    c.in_ok-put-7.ensures.ok
    ∙ put_same _ _ _ _ _ (view-Bool true) (c.in_ok-put-6.ensures.ok
    ∙ put_same _ _ _ _ _ (view-Bool true) (c.in_ok-put-5.ensures.ok
    ∙ put_same _ _ _ _ _ (view-Bool true) (c.in_ok-put-4.ensures.ok
    ∙ put_same _ _ _ _ _ (view-Bool true) (c.in_ok-put-3.ensures.ok
    ∙ put_same _ _ _ _ _ (view-Bool true) (c.in_ok-put-2.ensures.ok
    ∙ put_same _ _ _ _ _ (view-Bool true) (c.in_ok-put.ensures.ok
    ∙ ap (λ v. put (codes "definitionProvider") v (members_view c.args.members.now.entries)) (view-Bool true)))))))

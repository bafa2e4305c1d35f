-- The goal of `put_options` in src/server.rt.
use Rattle.std.proofs.Common.{ap, ◌∙◌}
use Rattle.std.specs.Prelude.{codes}
use Rattle.serde_json.specs.Data.{put}
use Rattle.serde_json.specs.View.{members_view}
use Rattle.tb_lsp_server.proofs.Members.{put_same}
use Rattle.tb_lsp_server.proofs.server.put_options.Goals as goal

pub returns : goal.returns
returns c =
    c.in_ok-put-5.ensures.ok
    ∙ put_same _ _ _ _ _ c.in_ok-synchronization.ensures (c.in_ok-put-4.ensures.ok
    ∙ put_same _ _ _ _ _ c.in_ok-tokens.ensures (c.in_ok-put-3.ensures.ok
    ∙ put_same _ _ _ _ _ c.in_ok-renaming.ensures (c.in_ok-put-2.ensures.ok
    ∙ put_same _ _ _ _ _ c.in_ok-completion.ensures (c.in_ok-put.ensures.ok
    ∙ ap (λ v. put (codes "codeActionProvider") v (members_view c.args.members.now.entries)) c.in_ok-fixes.ensures))))

-- The goal of `capabilities_value` in src/server.rt.
use Rattle.std.proofs.Common.{ap, ◌∙◌}
use Rattle.serde_json.specs.Data.{object}
use Rattle.serde_json.proofs.Views.{view-Object}
use Rattle.tb_lsp_server.specs.Replies.{with_options, with_requests}
use Rattle.tb_lsp_server.proofs.server.capabilities_value.Goals as goal

pub returns : goal.returns
returns c =
    view-Object _ ∙ ap object (c.in_ok-put_options.ensures ∙ ap with_options (c.in_ok-put_requests.ensures ∙ ap with_requests c.in_ok-members.ensures))

-- The life of a server.
use Rattle.std.specs.Prelude.{ℕ, List, codes, Option, Some, None, if◌then◌else◌}
use Rattle.std.specs.Str.{bytes_eq}
use Rattle.serde_json.specs.Data.{Data}
use Rattle.tb_lsp_answers.specs.Requests.{request_of}
use Rattle.tb_lsp_answers.specs.declared.requests.Request.{Request}
use Rattle.tb_editor_messages.specs.declared.refusals.Refusal.TheVariants.{NotInitialized, Initialized, ShutDown, UnknownMethod}
use Rattle.tb_lsp_server.specs.declared.life.Decision.{Decision}
use Rattle.tb_lsp_server.specs.declared.life.Decision.TheVariants.{Begin, End, Answer, Refuse}
use Rattle.tb_lsp_server.specs.declared.life.Stage.{Stage}
use Rattle.tb_lsp_server.specs.declared.life.Stage.TheVariants.{New, Ready, Shut}

-- what is done with a request on a text, if it is known
abbrev pub answered : Option Request → Decision
answered (Some asked) = Answer asked
answered None = Refuse UnknownMethod

-- what is done with a request at a stage, by its method and params
abbrev pub decision_of : Stage → List ℕ → Data → Decision
decision_of New method params = if bytes_eq method (codes "initialize") then Begin else Refuse NotInitialized
decision_of Ready method params =
    if bytes_eq method (codes "initialize") then Refuse Initialized
    else if bytes_eq method (codes "shutdown") then End
    else answered (request_of method params)
decision_of Shut method params = Refuse ShutDown

-- The goal of `decide` in src/life.rt that a search leaves.
use Rattle.std.proofs.Common.{rules, ◌≡◌, ℕ, List, false, ap, refl, ◌∙◌}
use Rattle.std.specs.Prelude.{codes}
use Rattle.std.specs.Str.{bytes_eq}
use Rattle.serde_json.specs.Data.{Data}
use Rattle.serde_json.specs.View.{view}
use Rattle.tb_lsp_answers.specs.Requests.{request_of}
use Rattle.tb_lsp_server.specs.declared.life.Stage.{Stage}
use Rattle.tb_lsp_server.specs.declared.life.Stage.TheVariants.{Ready}
use Rattle.tb_lsp_server.specs.Life.{answered, decision_of}
use Rattle.tb_lsp_server.proofs.life.decide.Goals as goal

-- a request that neither begins nor ends a server is asked of a text
asked : (stage : Stage) (method : List ℕ) (params : Data) → stage ≡ Ready → bytes_eq method (codes "initialize") ≡ false
    → bytes_eq method (codes "shutdown") ≡ false → answered (request_of method params) ≡ decision_of stage method params
asked stage method params ready a b = rw ready (rw a (rw b refl))

pub returns-in_default-method : goal.returns-in_default-method
returns-in_default-method c =
    let initializes : bytes_eq c.args.method.now (codes "initialize") ≡ false = search rules in
    let shuts : bytes_eq c.args.method.now (codes "shutdown") ≡ false = search rules in
    c.answered.ensures ∙ ap answered c.request_of.ensures ∙ asked c.args.stage c.args.method.now (view c.args.params.now) c.in-Ready.is initializes shuts

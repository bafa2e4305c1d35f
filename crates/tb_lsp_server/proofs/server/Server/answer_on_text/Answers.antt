-- The goal of `answer_on_text` in src/server.rt.
use Rattle.std.proofs.Common.{subst}
use Rattle.std.proofs.lemmas.Result.{IfOk-weaker}
use Rattle.serde_json.specs.View.{view}
use Rattle.tb_lsp_answers.specs.Answers.{Answers}
use Rattle.tb_lsp_server.specs.Replies.{AnswersOnText}
use Rattle.tb_lsp_server.proofs.server.Server.answer_on_text.Goals as goal

pub returns-in_ok-answer-in-Some : goal.returns-in_ok-answer-in-Some
returns-in_ok-answer-in-Some g c =
    let given = c.in_ok-answer-in-Some.answer in
    let answers =
    subst (λ text. Answers g.K.Compile.own c.args.self.now.notation c.args.request c.args.uri.now text given) c.as_bytes-text.ensures.value
    c.in_ok-answer-in-Some.ensures in
    IfOk-weaker c.said.result _ _ (λ content says.
    subst (λ text. AnswersOnText g.K.Compile.own c.args.self.now.notation c.args.request (view c.args.id.now) c.args.uri.now text content.items)
    c.in-Some.ensures (given, answers, says))
    c.said.ensures

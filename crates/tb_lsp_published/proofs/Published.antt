-- What was published last of each text.
use Rattle.std.proofs.Common.{◌≡◌, ℕ, ℤ, Bool, true, false, List, [], ◌∷◌, Option, Some, None, Result, Ok, Err, Vec, codes, refl, sym, ap, subst, ◌∙◌, inl, inr, if◌then◌else◌}
use Rattle.std.specs.Prelude.{unwrap_or}
use Rattle.std.specs.declared.alloc.Global.{Global}
use Rattle.std.specs.Str.{bytes_eq}
use Rattle.serde_json.specs.Data.{Data, null}
use Rattle.serde_json.specs.View.{view}
use Rattle.serde_json.specs.declared.value.Value.{Value}
use Rattle.tb_basic_text.specs.declared.notation.Notation.{Notation}
use Rattle.tb_editor_messages.specs.Messages.{Says, seen}
use Rattle.tb_editor_messages.specs.declared.messages.Message.{Message}
use Rattle.tb_editor_messages.specs.declared.messages.Message.TheVariants as message
use Rattle.tb_editor_messages.specs.declared.refusals.Refusal.{Refusal}
use Rattle.tb_editor_messages.specs.declared.refusals.Refusal.TheVariants.{NoJson, TooLarge, NoMessage, NotOpen, BadParams}
use Rattle.tb_lsp_answers.specs.declared.requests.Request.{Request}
use Rattle.tb_editor_dialogue.specs.Dialogue.{Moment, Talks, more as goes_on, none as begins}
use Rattle.tb_editor_dialogue.specs.Dialogue as dialogue
use Rattle.tb_editor_dialogue.specs.declared.hearing.Heard.{Heard}
use Rattle.tb_editor_dialogue.specs.declared.hearing.Heard.TheVariants as heard
use Rattle.tb_editor_dialogue.specs.declared.talking.Turn.{Turn}
use Rattle.tb_lsp_server.specs.Dialogue.{Answers, IsTurn, RepliesTo}
use Rattle.tb_lsp_server.specs.declared.outcome.Served.{Served}
use Rattle.tb_lsp_published.specs.LastPublished.{IsAnswer, IsReplied, OpenTextsArePublished, Publication, Publishing, Tells, answers, closes, ends, finds, is_silent, last_of, more, none, opens, with_one}
use Rattle.tb_lsp_server.specs.Life.{decision_of}
use Rattle.tb_lsp_server.specs.Notices.{Told, open_text, change_text, close_text, notice_of, uri_in}
use Rattle.tb_lsp_server.specs.Replies.{AnswersBy, AnswersOnText, AnswersText, DropsText, Exits, Ignores, IsNew, Refuses, TakesAt, TakesChange, TakesClose, TakesMessage, TakesNotice, TakesOther, TakesRequest, TakesText, TakesTold, initialized, said}
use Rattle.tb_lsp_server.specs.Texts.{has, text_of}
use Rattle.tb_lsp_server.specs.declared.texts.OpenText.{OpenText}
use Rattle.tb_lsp_server.specs.declared.life.Decision.{Decision}
use Rattle.tb_lsp_server.specs.declared.life.Decision.TheVariants.{Begin, End, Answer, Refuse}
use Rattle.tb_lsp_server.specs.declared.life.Stage.{Stage}
use Rattle.tb_lsp_server.specs.declared.life.Stage.TheVariants.{New, Ready, Shut}
use Rattle.tb_lsp_server.specs.declared.server.Reply.{Reply}
use Rattle.tb_lsp_server.specs.declared.server.Reply.TheVariants.{Nothing, Content, Exit}
use Rattle.tb_lsp_server.specs.declared.server.Server.{Server}
use Rattle.tb_lsp_published.proofs.Opened.{Once, once_closed, once_opened, text_closed, text_opened}
use Rattle.tb_compiled.specs.Promise.{Own}

-- what a reply publishes, and that the notation stays; where it ends the dialogue nothing is asked
abbrev PublishesIf : Own → Server → Reply → Server → Type 0
PublishesIf own old Nothing new = (p : Option Publication) × Publishing own old.notation old new Nothing p × (new.notation ≡ old.notation)
PublishesIf own old (Content content) new = (p : Option Publication) × Publishing own old.notation old new (Content content) p × (new.notation ≡ old.notation)
PublishesIf own old Exit new = Unit {0}

-- ── what is said to messages ──
refuses : (own : Own) (id : Data) (why : Refusal) (old : Server) (reply : Reply) (new : Server) → Refuses id why old reply new → PublishesIf own old reply new
refuses own id why old Nothing new never = absurd never
refuses own id why old (Content content) new (same, says) = (None, answers content same.texts (id, inr (why, says)), same.notation)
refuses own id why old Exit new never = absurd never

ignores : (own : Own) (old : Server) (reply : Reply) (new : Server) → Ignores old reply new → PublishesIf own old reply new
ignores own old Nothing new same = (None, is_silent same.texts, same.notation)
ignores own old (Content content) new never = absurd never
ignores own old Exit new never = absurd never

takes_text : (own : Own) (uri text : List ℕ) (version : Option ℤ) (old : Server) (reply : Reply) (new : Server) → TakesText own uri text version old reply new → PublishesIf own old reply new
takes_text own uri text version old Nothing new never = absurd never
takes_text own uri text version old (Content content) new (taken, published) = (Some (finds uri text), opens uri text version content taken.texts published, taken.notation)
takes_text own uri text version old Exit new never = absurd never

drops_text : (own : Own) (uri : List ℕ) (old : Server) (reply : Reply) (new : Server) → DropsText uri old reply new → PublishesIf own old reply new
drops_text own uri old Nothing new never = absurd never
drops_text own uri old (Content content) new (closed, says) = (Some (ends uri), closes uri content closed.texts says, closed.notation)
drops_text own uri old Exit new never = absurd never

changes : (own : Own) (is : Bool) (uri text : List ℕ) (version : Option ℤ) (old : Server) (reply : Reply) (new : Server) → TakesChange own is uri text version old reply new
    → PublishesIf own old reply new
changes own true uri text version old reply new h = takes_text own uri text version old reply new h
changes own false uri text version old reply new h = ignores own old reply new h

closed : (own : Own) (is : Bool) (uri : List ℕ) (old : Server) (reply : Reply) (new : Server) → TakesClose is uri old reply new → PublishesIf own old reply new
closed own true uri old reply new h = drops_text own uri old reply new h
closed own false uri old reply new h = ignores own old reply new h

notices : (own : Own) (t : Told) (old : Server) (reply : Reply) (new : Server) → TakesNotice own t old reply new → PublishesIf own old reply new
notices own (open_text uri text version) old reply new h = takes_text own uri text version old reply new h
notices own (change_text uri text version) old reply new h = changes own (has uri old.texts.all.items) uri text version old reply new h
notices own (close_text uri) old reply new h = closed own (has uri old.texts.all.items) uri old reply new h

told_to : (own : Own) (t : Option Told) (old : Server) (reply : Reply) (new : Server) → TakesTold own t old reply new → PublishesIf own old reply new
told_to own None old reply new h = ignores own old reply new h
told_to own (Some t) old reply new h = notices own t old reply new h

at_stage : (own : Own) (stage : Stage) (t : Option Told) (old : Server) (reply : Reply) (new : Server) → TakesAt own stage t old reply new → PublishesIf own old reply new
at_stage own New t old reply new h = ignores own old reply new h
at_stage own Ready t old reply new h = told_to own t old reply new h
at_stage own Shut t old reply new h = ignores own old reply new h

exits : (own : Own) (old : Server) (reply : Reply) (new : Server) → Exits old reply new → PublishesIf own old reply new
exits own old Nothing new never = absurd never
exits own old (Content content) new never = absurd never
exits own old Exit new h = tt

others : (own : Own) (is : Bool) (method : List ℕ) (params : Option Data) (old : Server) (reply : Reply) (new : Server) → TakesOther own is method params old reply new
    → PublishesIf own old reply new
others own true method params old reply new h = exits own old reply new h
others own false method params old reply new h = at_stage own old.stage (notice_of method params) old reply new h

-- ── answers ──
said_so : (id : Data) (r : Result Value Refusal) (content : List ℕ) → Says content (said id r) → IsAnswer content
said_so id (Ok v) content says = (id, inl (view v, says))
said_so id (Err why) content says = (id, inr (why, says))

on_text : (own : Own) (notation : Notation) (asked : Request) (id : Data) (uri : List ℕ) (text : Option (List ℕ)) (content : List ℕ) → AnswersOnText own notation asked id uri text content
    → IsAnswer content
on_text own notation asked id uri (Some text) content (r, found, says) = said_so id r content says
on_text own notation asked id uri None content says = (id, inr (NotOpen, says))

by_name : (own : Own) (notation : Notation) (asked : Request) (id : Data) (uri : Option (List ℕ)) (texts : List OpenText) (content : List ℕ)
    → AnswersText own notation asked id uri texts content → IsAnswer content
by_name own notation asked id (Some uri) texts content h = on_text own notation asked id uri (text_of uri texts) content h
by_name own notation asked id None texts content says = (id, inr (BadParams, says))

decided : (own : Own) (d : Decision) (id : Data) (uri : Option (List ℕ)) (old : Server) (content : Vec ℕ Global) (new : Server) → AnswersBy own d id uri old content new
    → Publishing own old.notation old new (Content content) None × (new.notation ≡ old.notation)
decided own Begin id uri old content new (became, says) = (answers content became.texts (id, inl (initialized old.version.now, says)), became.notation)
decided own End id uri old content new (became, says) = (answers content became.texts (id, inl (null, says)), became.notation)
decided own (Answer asked) id uri old content new (same, h) = (answers content same.texts (by_name own old.notation asked id uri old.texts.all.items content.items h), same.notation)
decided own (Refuse why) id uri old content new (same, says) = (answers content same.texts (id, inr (why, says)), same.notation)

requests : (own : Own) (id : Data) (method : List ℕ) (params : Data) (old : Server) (reply : Reply) (new : Server) → TakesRequest own id method params old reply new
    → PublishesIf own old reply new
requests own id method params old Nothing new never = absurd never
requests own id method params old (Content content) new h =
    let (published, kept) = decided own (decision_of old.stage method params) id (uri_in params) old content new h in (None, published, kept)
requests own id method params old Exit new never = absurd never

messages : (own : Own) (m : Message) (old : Server) (reply : Reply) (new : Server) → TakesMessage own m old reply new → PublishesIf own old reply new
messages own (message.Request id method params) old reply new h = requests own (view id.now) method.now (unwrap_or (seen params) null) old reply new h
messages own (message.Notification method params) old reply new h = others own (bytes_eq method.now (codes "exit")) method.now (seen params) old reply new h
messages own message.Answer old reply new h = ignores own old reply new h
messages own (message.NoMessage id) old reply new h = refuses own (unwrap_or (seen id) null) NoMessage old reply new h

heard_so : (own : Own) (h : Heard) (old : Server) (reply : Reply) (new : Server) → RepliesTo own h old reply new → PublishesIf own old reply new
heard_so own (heard.Value v) old reply new (m, tells, taken) = messages own m old reply new taken
heard_so own heard.NoJson old reply new refused = refuses own null NoJson old reply new refused
heard_so own heard.TooLarge old reply new refused = refuses own null TooLarge old reply new refused

-- ── over the dialogue ──
once_after : {notation : Notation} (own : Own) (old new : Server) (reply : Reply) (p : Option Publication) → Publishing own notation old new reply p → Once old.texts.all.items → Once new.texts.all.items
once_after own old new _ _ (opens uri source version content opened published) once = once_opened uri source old.texts.all.items new.texts.all.items once opened
once_after own old new _ _ (closes uri content is says) once = subst Once (sym is) (once_closed uri old.texts.all.items once)
once_after own old new _ _ (answers content same is) once = subst Once (sym same) once
once_after own old new _ _ (is_silent same) once = subst Once (sym same) once

last_after : {notation : Notation} (own : Own) (old new : Server) (reply : Reply) (p : Option Publication) (ps : List Publication) (v : List ℕ)
    → Publishing own notation old new reply p → Once old.texts.all.items → text_of v old.texts.all.items ≡ last_of v ps → text_of v new.texts.all.items ≡ last_of v (with_one p ps)
last_after own old new _ _ ps v (opens uri source version content opened published) once is =
    text_opened uri source v old.texts.all.items new.texts.all.items once opened ∙ ap (λ r. if bytes_eq uri v then Some source else r) is
last_after own old new _ _ ps v (closes uri content gone says) once is =
    ap (λ ts. text_of v ts) gone ∙ (text_closed uri v old.texts.all.items once ∙ ap (λ r. if bytes_eq uri v then None else r) is)
last_after own old new _ _ ps v (answers content same answer) once is = ap (λ ts. text_of v ts) same ∙ is
last_after own old new _ _ ps v (is_silent same) once is = ap (λ ts. text_of v ts) same ∙ is

-- what was told up to a moment: all texts are open once, what is open was published last, and the notation is the first
-- one
abbrev TellsTo : Own → Notation → Moment Server → Moment Server → Type 0
TellsTo own notation a b = (ps : List Publication) × Tells own notation a b ps
    × (Once b.talker.texts.all.items × ((uri : List ℕ) → text_of uri b.talker.texts.all.items ≡ last_of uri ps)) × (b.talker.notation ≡ notation)

-- a dialogue that goes on was not ended
not_ended : {A : Type 0} (end : Option A) (x : A) → end ≡ None → end ≡ Some x → ⊥
not_ended end x goes is = let both : Some x ≡ None = sym is ∙ goes in cc

further : (own : Own) (notation : Notation) (a b c : Moment Server) (reply : Reply) (p : Option Publication) → TellsTo own notation a b
    → IsReplied own b reply c → Publishing own b.talker.notation b.talker c.talker reply p → c.talker.notation ≡ b.talker.notation → TellsTo own notation a c
further own notation a b c reply p (ps, tells, (once, is), same) replied publishing kept =
    let now = subst (λ n. Publishing own n b.talker c.talker reply p) same publishing in (
      with_one p ps,
      more a b c ps reply p tells replied now,
      (once_after own b.talker c.talker reply p now once, λ uri. last_after own b.talker c.talker reply p ps uri now once (is uri)),
      kept ∙ same,
    )

replied_so : (own : Own) (notation : Notation) (a b c : Moment Server) (reply : Reply) (turn : Turn Served) → TellsTo own notation a b
    → IsReplied own b reply c → IsTurn reply c.talker.stage turn → turn.end ≡ None → PublishesIf own b.talker reply c.talker → TellsTo own notation a c
replied_so own notation a b c Nothing turn told replied is_turn goes (p, publishing, kept) = further own notation a b c Nothing p told replied publishing kept
replied_so own notation a b c (Content content) turn told replied is_turn goes (p, publishing, kept) =
    further own notation a b c (Content content) p told replied publishing kept
replied_so own notation a b c Exit turn told replied (silent, ended) goes published = absurd (not_ended turn.end _ goes ended)

one_more : (own : Own) (notation : Notation) (a b c : Moment Server) (done : Unit {0}) → TellsTo own notation a b → dialogue.Answers (Answers own) b (Ok done) c
    → TellsTo own notation a c
one_more own notation a b c done told (h, is_heard, (turn, (reply, replies, is_turn), goes, wrote)) =
    replied_so own notation a b c reply turn told (h, turn, is_heard, replies, is_turn, wrote) is_turn goes (heard_so own h b.talker reply c.talker replies)

talked : (own : Own) (version : List ℕ) (notation : Notation) (a b : Moment Server) → IsNew version notation a.talker → Talks (Answers own) a b → TellsTo own notation a b
talked own version notation a _ new (begins _) = ([], none a, (subst Once (sym new.texts) tt, λ uri. ap (λ ts. text_of uri ts) new.texts), new.reads)
talked own version notation a _ new (goes_on _ b c done talks leads) = one_more own notation a b c done (talked own version notation a b new talks) leads

-- the law
pub open_texts_are_published : (own : Own) → OpenTextsArePublished own
open_texts_are_published own version notation a b new talks = let (ps, tells, (once, is), same) = talked own version notation a b new talks in (ps, tells, is)

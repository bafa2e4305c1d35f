-- What a server says to messages.
use Rattle.std.specs.Prelude.{ℕ, ℤ, ◌≡◌, Bool, true, false, List, [], codes, Option, Some, None, Result, Ok, Err, unwrap_or}
use Rattle.std.specs.Str.{bytes_eq}
use Rattle.std.specs.declared.alloc.Global.{Global}
use Rattle.std.specs.declared.vec.Vec.{Vec}
use Rattle.serde_json.specs.Data.{Data, Members, array, boolean, item, member, no_items, no_members, null, number, object, put, string, unsigned}
use Rattle.serde_json.specs.View.{view}
use Rattle.serde_json.specs.declared.value.Value.{Value}
use Rattle.tb_editor_navigation.specs.Tokens.{legend}
use Rattle.tb_basic_text.specs.declared.notation.Notation.{Notation}
use Rattle.tb_lsp_answers.specs.Answers.{Answers}
use Rattle.tb_lsp_answers.specs.declared.requests.Request.{Request}
use Rattle.tb_editor_messages.specs.Messages.{Says, Tells, failure_of, seen, success_of}
use Rattle.tb_editor_messages.specs.declared.messages.Message.{Message}
use Rattle.tb_editor_messages.specs.declared.messages.Message.TheVariants as message
use Rattle.tb_editor_messages.specs.declared.refusals.Refusal.{Refusal}
use Rattle.tb_editor_messages.specs.declared.refusals.Refusal.TheVariants.{NoMessage, BadParams, NotOpen}
use Rattle.tb_lsp_diagnostics.specs.Published.{Publishes, published_of}
use Rattle.tb_lsp_server.specs.Life.{decision_of}
use Rattle.tb_lsp_server.specs.Notices.{Told, open_text, change_text, close_text, notice_of, uri_in}
use Rattle.tb_lsp_server.specs.Texts.{Opens, has, text_of, without}
use Rattle.tb_lsp_server.specs.declared.texts.OpenText.{OpenText}
use Rattle.tb_lsp_server.specs.declared.life.Decision.{Decision}
use Rattle.tb_lsp_server.specs.declared.life.Decision.TheVariants.{Begin, End, Answer, Refuse}
use Rattle.tb_lsp_server.specs.declared.life.Stage.{Stage}
use Rattle.tb_lsp_server.specs.declared.life.Stage.TheVariants.{New, Ready, Shut}
use Rattle.tb_lsp_server.specs.declared.server.Reply.{Reply}
use Rattle.tb_lsp_server.specs.declared.server.Reply.TheVariants.{Nothing, Content, Exit}
use Rattle.tb_lsp_server.specs.declared.server.Server.{Server}
use Rattle.tb_compiled.specs.Promise.{Own}

-- ── what it can do ──
-- texts are told of as a whole
abbrev pub synchronization : Data
synchronization = object (member (codes "change") (number (unsigned 1)) (member (codes "openClose") (boolean true) no_members))

-- of actions it offers fixes
abbrev pub fixes : Data
fixes = object (member (codes "codeActionKinds") (array (item (string (codes "quickfix")) no_items)) no_members)

-- it completes behind a space too
abbrev pub completion : Data
completion = object (member (codes "triggerCharacters") (array (item (string (codes " ")) no_items)) no_members)

-- it tells what can be renamed
abbrev pub renaming : Data
renaming = object (member (codes "prepareProvider") (boolean true) no_members)

-- it tells of all tokens of a text
abbrev pub tokens : Data
tokens = object (member (codes "full") (boolean true) (member (codes "legend") legend no_members))

-- which requests it answers, where there is nothing more to say of them
abbrev pub with_requests : Members → Members
with_requests ms =
    put (codes "referencesProvider") (boolean true) (put (codes "hoverProvider") (boolean true) (put (codes "foldingRangeProvider") (boolean true)
    (put (codes "documentSymbolProvider") (boolean true) (put (codes "documentHighlightProvider") (boolean true)
    (put (codes "documentFormattingProvider") (boolean true) (put (codes "definitionProvider") (boolean true) ms))))))

-- what there is more to say of
abbrev pub with_options : Members → Members
with_options ms =
    put (codes "textDocumentSync") synchronization (put (codes "semanticTokensProvider") tokens (put (codes "renameProvider") renaming
    (put (codes "completionProvider") completion (put (codes "codeActionProvider") fixes ms))))

-- how it counts places
abbrev pub with_encoding : Members
with_encoding = put (codes "positionEncoding") (string (codes "utf-16")) no_members

-- what it can do
abbrev pub capabilities : Data
capabilities = object (with_options (with_requests with_encoding))

-- what it is, with its version
abbrev pub information : List ℕ → Data
information version = object (member (codes "name") (string (codes "tbc")) (member (codes "version") (string version) no_members))

-- what it answers when it is initialized
abbrev pub initialized : List ℕ → Data
initialized version = object (member (codes "capabilities") capabilities (member (codes "serverInfo") (information version) no_members))

-- ── states ──
-- a new server, which has a notation
pub record IsNew (version : List ℕ) (notation : Notation) (s : Server) : Type 0 where
  pub stage : s.stage ≡ New
  pub texts : s.texts.all.items ≡ []
  pub named : s.version.now ≡ version
  pub reads : s.notation ≡ notation

-- nothing changed
pub record IsSame (old new : Server) : Type 0 where
  pub stage : new.stage ≡ old.stage
  pub texts : new.texts.all.items ≡ old.texts.all.items
  pub version : new.version.now ≡ old.version.now
  pub notation : new.notation ≡ old.notation

-- the stage changed, and nothing else
pub record Becomes (stage : Stage) (old new : Server) : Type 0 where
  pub now : new.stage ≡ stage
  pub texts : new.texts.all.items ≡ old.texts.all.items
  pub version : new.version.now ≡ old.version.now
  pub notation : new.notation ≡ old.notation

-- a text was opened, and nothing else
pub record OpensText (uri text : List ℕ) (old new : Server) : Type 0 where
  pub stage : new.stage ≡ old.stage
  pub texts : Opens uri text old.texts.all.items new.texts.all.items
  pub version : new.version.now ≡ old.version.now
  pub notation : new.notation ≡ old.notation

-- a text was closed, and nothing else
pub record ClosesText (uri : List ℕ) (old new : Server) : Type 0 where
  pub stage : new.stage ≡ old.stage
  pub texts : new.texts.all.items ≡ without uri old.texts.all.items
  pub version : new.version.now ≡ old.version.now
  pub notation : new.notation ≡ old.notation

-- ── requests ──
-- the answer to a request on a text, or why it is refused
abbrev pub said : Data → Result Value Refusal → Data
said id (Ok v) = success_of id (view v)
said id (Err refusal) = failure_of id refusal

-- what a request on a text is answered, where that is open
abbrev pub AnswersOnText : Own → Notation → Request → (id : Data) → (uri : List ℕ) → Option (List ℕ) → (content : List ℕ) → Type 0
AnswersOnText own notation asked id uri (Some text) content = (r : Result Value Refusal) × Answers own notation asked uri text r × Says content (said id r)
AnswersOnText own notation asked id uri None content = Says content (failure_of id NotOpen)

-- what a request on a text is answered, by the name of the text, if it is given
abbrev pub AnswersText : Own → Notation → Request → (id : Data) → Option (List ℕ) → List OpenText → (content : List ℕ) → Type 0
AnswersText own notation asked id (Some uri) texts content = AnswersOnText own notation asked id uri (text_of uri texts) content
AnswersText own notation asked id None texts content = Says content (failure_of id BadParams)

-- what a request with this id on this text is answered, by what is done with it
abbrev pub AnswersBy : Own → Decision → Data → Option (List ℕ) → Server → Vec ℕ Global → Server → Type 0
AnswersBy own Begin id uri old content new = Becomes Ready old new × Says content.items (success_of id (initialized old.version.now))
AnswersBy own End id uri old content new = Becomes Shut old new × Says content.items (success_of id null)
AnswersBy own (Answer asked) id uri old content new = IsSame old new × AnswersText own old.notation asked id uri old.texts.all.items content.items
AnswersBy own (Refuse refusal) id uri old content new = IsSame old new × Says content.items (failure_of id refusal)

-- ── notifications ──
-- a text is taken, and what is said of it is published
abbrev pub TakesText : (own : Own) (uri text : List ℕ) → Option ℤ → Server → Reply → Server → Type 0
TakesText own uri text version old (Content content) new = OpensText uri text old new × Publishes own old.notation uri version text content.items
TakesText own uri text version old Nothing new = ⊥
TakesText own uri text version old Exit new = ⊥

-- nothing is said, and nothing changes
abbrev pub Ignores : Server → Reply → Server → Type 0
Ignores old Nothing new = IsSame old new
Ignores old (Content content) new = ⊥
Ignores old Exit new = ⊥

-- a text is closed, and nothing is published of it any more
abbrev pub DropsText : List ℕ → Server → Reply → Server → Type 0
DropsText uri old (Content content) new = ClosesText uri old new × Says content.items (published_of uri None [])
DropsText uri old Nothing new = ⊥
DropsText uri old Exit new = ⊥

-- a text was changed, by whether it is open: one that isn't is not taken
abbrev pub TakesChange : Own → Bool → (uri text : List ℕ) → Option ℤ → Server → Reply → Server → Type 0
TakesChange own true uri text version old reply new = TakesText own uri text version old reply new
TakesChange own false uri text version old reply new = Ignores old reply new

-- a text is open no more, by whether it was
abbrev pub TakesClose : Bool → List ℕ → Server → Reply → Server → Type 0
TakesClose true uri old reply new = DropsText uri old reply new
TakesClose false uri old reply new = Ignores old reply new

-- what is told of a text is done
abbrev pub TakesNotice : Own → Told → Server → Reply → Server → Type 0
TakesNotice own (open_text uri text version) old reply new = TakesText own uri text version old reply new
TakesNotice own (change_text uri text version) old reply new = TakesChange own (has uri old.texts.all.items) uri text version old reply new
TakesNotice own (close_text uri) old reply new = TakesClose (has uri old.texts.all.items) uri old reply new

-- what is told of a text is done, if something is told
abbrev pub TakesTold : Own → Option Told → Server → Reply → Server → Type 0
TakesTold own None old reply new = Ignores old reply new
TakesTold own (Some t) old reply new = TakesNotice own t old reply new

-- what is told at a stage
abbrev pub TakesAt : Own → Stage → Option Told → Server → Reply → Server → Type 0
TakesAt own New t old reply new = Ignores old reply new
TakesAt own Ready t old reply new = TakesTold own t old reply new
TakesAt own Shut t old reply new = Ignores old reply new

-- it ends
abbrev pub Exits : Server → Reply → Server → Type 0
Exits old Exit new = IsSame old new
Exits old Nothing new = ⊥
Exits old (Content content) new = ⊥

-- a notification, by whether it asks for the end
abbrev pub TakesOther : Own → Bool → List ℕ → Option Data → Server → Reply → Server → Type 0
TakesOther own true method params old reply new = Exits old reply new
TakesOther own false method params old reply new = TakesAt own old.stage (notice_of method params) old reply new

-- a notification
abbrev pub TakesNotification : Own → List ℕ → Option Data → Server → Reply → Server → Type 0
TakesNotification own method params old reply new = TakesOther own (bytes_eq method (codes "exit")) method params old reply new

-- ── messages ──
-- a request is answered
abbrev pub TakesRequest : Own → Data → List ℕ → Data → Server → Reply → Server → Type 0
TakesRequest own id method params old (Content content) new = AnswersBy own (decision_of old.stage method params) id (uri_in params) old content new
TakesRequest own id method params old Nothing new = ⊥
TakesRequest own id method params old Exit new = ⊥

-- a message is refused, and nothing changes
abbrev pub Refuses : Data → Refusal → Server → Reply → Server → Type 0
Refuses id refusal old (Content content) new = IsSame old new × Says content.items (failure_of id refusal)
Refuses id refusal old Nothing new = ⊥
Refuses id refusal old Exit new = ⊥

-- what is said to a message
abbrev pub TakesMessage : Own → Message → Server → Reply → Server → Type 0
TakesMessage own (message.Request id method params) old reply new = TakesRequest own (view id.now) method.now (unwrap_or (seen params) null) old reply new
TakesMessage own (message.Notification method params) old reply new = TakesNotification own method.now (seen params) old reply new
TakesMessage own message.Answer old reply new = Ignores old reply new
TakesMessage own (message.NoMessage id) old reply new = Refuses (unwrap_or (seen id) null) NoMessage old reply new

-- what is said to a value: what is told of it is done
abbrev pub Takes : Own → Data → Server → Reply → Server → Type 0
Takes own d old reply new = (m : Message) × Tells d m × TakesMessage own m old reply new

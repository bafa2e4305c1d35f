-- What was published last of each text.
use Rattle.std.specs.Prelude.{ℕ, ℤ, ◌≡◌, ◌⊎◌, List, [], ◌∷◌, Option, Some, None, if◌then◌else◌}
use Rattle.std.specs.Str.{bytes_eq}
use Rattle.std.specs.declared.alloc.Global.{Global}
use Rattle.std.specs.declared.vec.Vec.{Vec}
use Rattle.serde_json.specs.Data.{Data}
use Rattle.tb_basic_text.specs.declared.notation.Notation.{Notation}
use Rattle.tb_editor_messages.specs.Messages.{Says, failure_of, success_of}
use Rattle.tb_editor_messages.specs.declared.refusals.Refusal.{Refusal}
use Rattle.tb_lsp_diagnostics.specs.Published.{Publishes, published_of}
use Rattle.tb_editor_dialogue.specs.Dialogue.{IsHeard, Moment, Talks, Writes}
use Rattle.tb_editor_dialogue.specs.declared.hearing.Heard.{Heard}
use Rattle.tb_editor_dialogue.specs.declared.talking.Turn.{Turn}
use Rattle.tb_lsp_server.specs.Dialogue.{Answers, IsTurn, RepliesTo}
use Rattle.tb_lsp_server.specs.declared.outcome.Served.{Served}
use Rattle.tb_lsp_server.specs.Replies.{IsNew}
use Rattle.tb_lsp_server.specs.Texts.{Opens, text_of, without}
use Rattle.tb_lsp_server.specs.declared.server.Reply.{Reply}
use Rattle.tb_lsp_server.specs.declared.server.Reply.TheVariants.{Nothing, Content, Exit}
use Rattle.tb_lsp_server.specs.declared.server.Server.{Server}
use Rattle.tb_compiled.specs.Promise.{Own}

-- what is published of a text: what `check` says of this source, or that nothing is said of the text any more
pub data Publication : Type 0 where
  finds : (uri source : List ℕ) → Publication
  ends : (uri : List ℕ) → Publication

-- a content that answers a request, or refuses a message
abbrev pub IsAnswer : List ℕ → Type 0
IsAnswer content = (id : Data) × (((answer : Data) × Says content (success_of id answer)) ⊎ ((refusal : Refusal) × Says content (failure_of id refusal)))

-- What a reply publishes of sources in a notation, and what becomes of the texts that are open: they change only where
-- something is published.
pub data Publishing (own : Own) (notation : Notation) (old : Server) (new : Server) : Reply → Option Publication → Type 0 where
  opens : (uri source : List ℕ) (version : Option ℤ) (content : Vec ℕ Global) → Opens uri source old.texts.all.items new.texts.all.items
      → Publishes own notation uri version source content.items → Publishing own notation old new (Content content) (Some (finds uri source))
  closes : (uri : List ℕ) (content : Vec ℕ Global) → new.texts.all.items ≡ without uri old.texts.all.items
      → Says content.items (published_of uri None []) → Publishing own notation old new (Content content) (Some (ends uri))
  answers : (content : Vec ℕ Global) → new.texts.all.items ≡ old.texts.all.items → IsAnswer content.items
      → Publishing own notation old new (Content content) None
  is_silent : new.texts.all.items ≡ old.texts.all.items → Publishing own notation old new Nothing None

-- a list with one more at the front, if there is one
abbrev pub with_one : Option Publication → List Publication → List Publication
with_one None ps = ps
with_one (Some p) ps = p ∷ ps

-- a frame was read, what it holds was replied to, and the reply was written
abbrev pub IsReplied : Own → Moment Server → Reply → Moment Server → Type 0
IsReplied own a reply b =
    (h : Heard) × (turn : Turn Served) × IsHeard h a.at b.at × RepliesTo own h a.talker reply b.talker × IsTurn reply b.talker.stage turn
    × Writes turn.frames a.at.written b.at.written a.at.wrote b.at.wrote

-- Frames lead from one moment to another, each answered before the next one is read, and this was published, the last first.
pub data Tells (own : Own) (notation : Notation) : Moment Server → Moment Server → List Publication → Type 0 where
  none : (a : Moment Server) → Tells own notation a a []
  more : (a b c : Moment Server) (ps : List Publication) (reply : Reply) (p : Option Publication) → Tells own notation a b ps
      → IsReplied own b reply c → Publishing own notation b.talker c.talker reply p → Tells own notation a c (with_one p ps)

-- the source of a text whose findings were published last, if nothing else of it was after that
abbrev pub last_of : List ℕ → List Publication → Option (List ℕ)
last_of uri [] = None
last_of uri (finds u source ∷ ps) = if bytes_eq u uri then Some source else last_of uri ps
last_of uri (ends u ∷ ps) = if bytes_eq u uri then None else last_of uri ps

-- In a dialogue of a new server the findings of each text that is open were published last, in its notation, and of no
-- other text any.
abbrev pub OpenTextsArePublished : Own → Type 0
OpenTextsArePublished own = (version : List ℕ) (notation : Notation) (a b : Moment Server) → IsNew version notation a.talker → Talks (Answers own) a b
    → (ps : List Publication) × Tells own notation a b ps × ((uri : List ℕ) → text_of uri b.talker.texts.all.items ≡ last_of uri ps)

-- The answers to requests on texts.
use Rattle.std.specs.Prelude.{ℕ, ◌≡◌, nat_lt, List, [], length, Option, Some, None, Result, Ok, Err, if◌then◌else◌}
use Rattle.serde_json.specs.Data.{Data, array, no_items}
use Rattle.serde_json.specs.View.{view}
use Rattle.serde_json.specs.declared.value.Value.{Value}
use Rattle.tb_engine_streams.specs.Streams.{most_input}
use Rattle.tb_basic_text.specs.declared.notation.Notation.{Notation}
use Rattle.tb_basic_options.specs.Options.{notation_for}
use Rattle.tb_basic_names.specs.Sources.{AreLinesOf}
use Rattle.tb_basic_names.specs.declared.lines.Line.{Line as SourceLine}
use Rattle.tb_editor_navigation.specs.Places.{definition, highlights, references}
use Rattle.tb_editor_navigation.specs.Symbols.{symbols}
use Rattle.tb_editor_navigation.specs.Folds.{folds}
use Rattle.tb_editor_navigation.specs.Tokens.{semantic_tokens}
use Rattle.tb_lsp_edits.specs.Items.{Completes}
use Rattle.tb_lsp_edits.specs.Rename.{Renames, prepared}
use Rattle.tb_lsp_edits.specs.Edits.{Tidies}
use Rattle.tb_lsp_hover.specs.Shown.{Hovers}
use Rattle.tb_lsp_fixes.specs.Actions.{AreActions}
use Rattle.tb_lsp_fixes.specs.declared.offers.LineRange.{LineRange}
use Rattle.tb_editor_messages.specs.declared.refusals.Refusal.{Refusal}
use Rattle.tb_editor_messages.specs.declared.refusals.Refusal.TheVariants.{BadParams}
use Rattle.tb_lsp_answers.specs.declared.requests.Request.{Request}
use Rattle.tb_lsp_answers.specs.declared.requests.Request.TheVariants as request
use Rattle.tb_compiled.specs.Promise.{Own}

-- what is read of a text: nothing of one that has too many bytes
abbrev pub readable : List ℕ → List ℕ
readable text = if nat_lt most_input (length text) then [] else text

-- the fixes on lines, if any are asked for
abbrev pub AnswersRange : Own → Notation → Option LineRange → List ℕ → List ℕ → List SourceLine → Data → Type 0
AnswersRange own notation (Some range) uri text lines v = AreActions own notation uri text lines range v
AnswersRange own notation None uri text lines v = v ≡ array no_items

-- what is never refused
abbrev pub Answered : (Data → Type 0) → Result Value Refusal → Type 0
Answered Is (Ok v) = Is (view v)
Answered Is (Err refusal) = ⊥

-- what is answered to a request on a text that is read in a notation as these lines
abbrev pub AnswersFrom : Own → Notation → Request → List ℕ → List ℕ → List SourceLine → Result Value Refusal → Type 0
AnswersFrom own notation (request.Hover at) uri text lines r = Answered (λ v. Hovers own notation text lines at.line at.character v) r
AnswersFrom own notation (request.Definition at) uri text lines r = Answered (λ v. v ≡ definition uri at.line at.character lines) r
AnswersFrom own notation (request.References at declared) uri text lines r = Answered (λ v. v ≡ references uri at.line at.character declared lines) r
AnswersFrom own notation (request.Highlights at) uri text lines r = Answered (λ v. v ≡ highlights at.line at.character lines) r
AnswersFrom own notation request.Symbols uri text lines r = Answered (λ v. v ≡ symbols lines) r
AnswersFrom own notation (request.Actions range) uri text lines r = Answered (λ v. AnswersRange own notation range uri text lines v) r
AnswersFrom own notation request.Formatting uri text lines r = Answered (λ v. Tidies notation text v) r
AnswersFrom own notation (request.Completion at) uri text lines r = Answered (λ v. Completes notation lines at.line at.character v) r
AnswersFrom own notation (request.Prepare at) uri text lines r = Answered (λ v. v ≡ prepared at.line at.character lines) r
AnswersFrom own notation (request.Rename at letter) uri text lines r = Renames notation uri at.line at.character letter lines r
AnswersFrom own notation request.Folds uri text lines r = Answered (λ v. v ≡ folds lines) r
AnswersFrom own notation request.Tokens uri text lines r = Answered (λ v. v ≡ semantic_tokens lines) r
AnswersFrom own notation request.Unfit uri text lines r = r ≡ Err BadParams

-- what is answered to a request on a text that is read in a notation, by the lines of the text
abbrev pub AnswersIn : Own → Notation → Request → List ℕ → List ℕ → Result Value Refusal → Type 0
AnswersIn own notation asked uri text r = (lines : List SourceLine) × AreLinesOf notation text lines × AnswersFrom own notation asked uri text lines r

-- what is answered to a request on a text that is read in a notation, or as its own words ask for
abbrev pub Answers : Own → Notation → Request → List ℕ → List ℕ → Result Value Refusal → Type 0
Answers own notation asked uri text r = AnswersIn own (notation_for notation text) asked uri (readable text) r

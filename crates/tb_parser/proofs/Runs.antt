-- A file read line by line: what is left decides the whole.
use Rattle.std.proofs.Common.{◌≡◌, ℕ, ◌+◌, false, true, List, [], ◌∷◌, Ok, Err, refl, sym, subst}
use Rattle.tb_basic_syntax.specs.declared.statements.Statement.{Statement}
use Rattle.tb_basic_syntax.specs.Source.{Program}
use Rattle.tb_basic_syntax.specs.PlainData.{lines_of}
use Rattle.tb_parser.specs.declared.errors.LineFault.{LineFault}
use Rattle.tb_parser.specs.declared.errors.SourceError.{SourceError}
use Rattle.tb_parser.specs.Answers.{Answers, Says, edit_of, refusal_of}
use Rattle.tb_basic_text.specs.declared.notation.Notation.{Notation}
use Rattle.tb_parser.specs.Files.{Outcome, refused_at, edited, at_end, LinesIn, end, bad, good}
use Rattle.tb_basic_text.specs.Lines.{lines_from, lines_of_file}
use Rattle.tb_parser.specs.Readings.{Edit, LineIn}
use Rattle.tb_parser.specs.Refusals.{at_line}
use Rattle.tb_parser.proofs.Outcomes.{answers_at}
use Rattle.tb_parser.proofs.ReaderAnswers.{passes}

module _ (notation : Notation) (n : ℕ) (p : Program) (text : List ℕ) (Total : Outcome → Type 0) where
  abbrev pub Decides : Type 0
  Decides = (outcome : Outcome) → LinesIn notation n p (lines_of_file text) outcome → Total outcome

  -- a bad line is the answer for the file
  pub bad_line : (line behind : List ℕ) (fault : LineFault) (error : SourceError) → lines_of_file text ≡ line ∷ lines_of_file behind
      → Says edit_of (Err fault) (LineIn notation line) → error ≡ at_line n fault → Decides → Answers lines_of (Err error) Total
  bad_line line behind fault error first said is decides =
      let Family : SourceError → Type 0 = λ e. Answers lines_of (Err e) Total in
      subst Family (sym is) (answers_at lines_of Total fault.kind fault.column n
      (passes (refusal_of fault.kind fault.column) (λ r. LineIn notation line (Err r)) (λ r. Total (Err (refused_at n r)))
      (λ r h. decides (Err (refused_at n r)) (rw first (bad n p line (lines_of_file behind) r h))) said))

  -- a good line goes on to the next
  pub good_line : (line behind : List ℕ) (edit : Edit) → lines_of_file text ≡ line ∷ lines_of_file behind → LineIn notation line (Ok edit) → Decides
      → (outcome : Outcome) → LinesIn notation (n + 1) (edited edit p) (lines_of_file behind) outcome → Total outcome
  good_line line behind edit first is decides outcome rest = decides outcome (rw first (good n p line (lines_of_file behind) edit outcome is rest))

  -- at the end of the file the program is the answer
  pub no_line : text ≡ [] → Decides → Total (at_end p)
  unfolding lines_from
  no_line none decides = decides (at_end p) (rw none (end n p))

-- a program with a line is accepted at the end of the file
pub ended : (es : List (ℕ × Statement)) → (es ≡ [] → false ≡ true) → at_end (lines_of es) ≡ Ok (lines_of es)
ended [] some = let no_match : false ≡ true = some refl in absurd cc
ended (e ∷ es) some = refl

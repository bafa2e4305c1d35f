-- The goals of `parse_in` in src/parser.rt.
use Rattle.std.proofs.Common.{◌≡◌, ℕ, List, [], Ok, Err, refl, arith, subst}
use Rattle.tb_basic_syntax.specs.declared.statements.Statement.{Statement}
use Rattle.tb_basic_syntax.specs.PlainData.{lines_of}
use Rattle.tb_parser.specs.Answers.{edit_of}
use Rattle.tb_basic_text.specs.declared.notation.Notation.{Notation}
use Rattle.tb_basic_text.specs.declared.notation.Notation.TheVariants.{Plain}
use Rattle.tb_parser.specs.Files.{Outcome, LinesAre, LinesIn, at_end}
use Rattle.tb_basic_text.specs.Lines.{lines_of_file}
use Rattle.tb_parser.specs.Signed.{LackSigns}
use Rattle.tb_parser.proofs.Alike.{lines_alike}
use Rattle.tb_parser.proofs.Outcomes.{answers_pass, only_one}
use Rattle.tb_parser.proofs.Rising.{lines_rise}
use Rattle.tb_parser.proofs.Runs.{bad_line, good_line, no_line, ended}
use Rattle.tb_parser.proofs.Texts.{lines_stated}
use Rattle.tb_parser.proofs.Unique.{lines_one}
use Rattle.tb_parser.proofs.parser.parse_in.Goals as goal

abbrev Whole : Notation → List ℕ → Outcome → Type 0
Whole notation source outcome = LinesIn notation 1 [] (lines_of_file source) outcome

whole_one : (notation : Notation) (source : List ℕ) (a b : Outcome) → Whole notation source a → Whole notation source b → a ≡ b
whole_one notation source a b h k = lines_one 1 [] (lines_of_file source) a b h k

whole_plain : (notation : Notation) (source : List ℕ) → LackSigns (lines_of_file source) → (outcome : Outcome) → Whole notation source outcome → LinesAre 1 [] (lines_of_file source) outcome
whole_plain notation source lack outcome h = lines_alike notation Plain 1 [] (lines_of_file source) outcome lack h

empty_end : (notation : Notation) (source : List ℕ) (es : List (ℕ × Statement)) → es ≡ [] → Whole notation source (at_end (lines_of es)) → Whole notation source (at_end [])
empty_end notation source es e h = let Family : List (ℕ × Statement) → Type 0 = λ t. Whole notation source (at_end (lines_of t)) in subst Family e h

pub returns-in-Err-clause-found : goal.returns-in-Err-clause-found
returns-in-Err-clause-found c =
    let l = c.loop-line in
    bad_line c.args.notation l.number (lines_of l.program) l.rest.now (Whole c.args.notation c.args.source.now) c.in-Some.line.now c.in-Some.behind.now c.in-Err.fault c.at_line.result
    c.in-Some.ensures.0 c.in-Err.ensures c.at_line.ensures l.invariant.so_far

pub returns-in-Err-clause-only : goal.returns-in-Err-clause-only
returns-in-Err-clause-only c =
    only_one lines_of (Whole c.args.notation c.args.source.now) (Err c.at_line.result) (whole_one c.args.notation c.args.source.now) (returns-in-Err-clause-found c)

pub returns-in-Err-clause-plain : goal.returns-in-Err-clause-plain
returns-in-Err-clause-plain c = λ lack. answers_pass lines_of (Whole c.args.notation c.args.source.now) (Err c.at_line.result)
    (LinesAre 1 [] (lines_of_file c.args.source.now)) (whole_plain c.args.notation c.args.source.now lack) (returns-in-Err-clause-found c)

pub loop-line-preserved : goal.loop-line-preserved
loop-line-preserved c =
    let l = c.loop-line in
    let next = good_line c.args.notation l.number (lines_of l.program) l.rest.now (Whole c.args.notation c.args.source.now) c.in-Some.line.now c.in-Some.behind.now (edit_of c.in-Ok.edit)
    c.in-Some.ensures.0 c.in-Ok.ensures l.invariant.so_far in
    record { so_far = rw (c.in_ok-apply-in-Ok.ensures.ok) next; count = omega (arith, c.in-Some.ensures.1) }

pub returns-then-is_empty-clause-found : goal.returns-then-is_empty-clause-found
returns-then-is_empty-clause-found c =
    let l = c.loop-line in
    empty_end c.args.notation c.args.source.now l.program (c.if-is_empty.ensures.0 refl) (no_line c.args.notation l.number (lines_of l.program) l.rest.now (Whole c.args.notation c.args.source.now) c.in_default.ensures l.invariant.so_far)

pub returns-then-is_empty-clause-only : goal.returns-then-is_empty-clause-only
returns-then-is_empty-clause-only c = λ outcome is. whole_one c.args.notation c.args.source.now _ outcome (returns-then-is_empty-clause-found c) is

pub returns-then-is_empty-clause-plain : goal.returns-then-is_empty-clause-plain
returns-then-is_empty-clause-plain c = λ lack. whole_plain c.args.notation c.args.source.now lack _ (returns-then-is_empty-clause-found c)

pub returns-clause-found : goal.returns-clause-found
returns-clause-found c =
    let l = c.loop-line in
    rw (ended l.program c.if-is_empty.ensures.1) at (no_line c.args.notation l.number (lines_of l.program) l.rest.now (Whole c.args.notation c.args.source.now) c.in_default.ensures l.invariant.so_far)

pub returns-clause-only : goal.returns-clause-only
returns-clause-only c = λ outcome is. whole_one c.args.notation c.args.source.now _ outcome (returns-clause-found c) is

pub returns-clause-plain : goal.returns-clause-plain
returns-clause-plain c = λ lack. whole_plain c.args.notation c.args.source.now lack _ (returns-clause-found c)

pub returns-clause-rising : goal.returns-clause-rising
returns-clause-rising c = lines_rise 1 [] (lines_of_file c.args.source.now) (Ok (lines_of c.loop-line.program)) tt (returns-clause-found c)

pub returns-clause-stated : goal.returns-clause-stated
returns-clause-stated c = lines_stated 1 [] (lines_of_file c.args.source.now) (Ok (lines_of c.loop-line.program)) tt (returns-clause-found c)

-- What may be offered.
use Rattle.std.specs.Prelude.{ℕ, ◌+◌, List, [], ◌∷◌, ◌++◌, codes, Option, Some, None, if◌then◌else◌}
use Rattle.std.specs.Fmt.{decimal}
use Rattle.tb_parser.specs.Readings.{Edit}
use Rattle.tb_basic_names.specs.Lines.{does, number_in}
use Rattle.tb_basic_names.specs.Sources.{edits_of, stands}
use Rattle.tb_basic_names.specs.declared.lines.Line.{Line as SourceLine}
use Rattle.tb_lsp_edits.specs.declared.candidates.Candidate.{Candidate}
use Rattle.tb_lsp_edits.specs.declared.candidates.Candidate.TheVariants as candidate
use Rattle.tb_lsp_edits.specs.declared.candidates.Word.{Word}
use Rattle.tb_lsp_edits.specs.declared.candidates.Word.TheVariants.{Let, Print, Input, If, Then, Goto, Gosub, Return, End, Rem, Random}

-- how a word is spelled
abbrev pub spelling : Word → List ℕ
spelling Let = codes "LET"
spelling Print = codes "PRINT"
spelling Input = codes "INPUT"
spelling If = codes "IF"
spelling Then = codes "THEN"
spelling Goto = codes "GOTO"
spelling Gosub = codes "GOSUB"
spelling Return = codes "RETURN"
spelling End = codes "END"
spelling Rem = codes "REM"
spelling Random = codes "RND"

-- what is written of it
abbrev pub written : Word → List ℕ
written Let = codes "LET "
written Print = codes "PRINT "
written Input = codes "INPUT "
written If = codes "IF "
written Then = codes "THEN "
written Goto = codes "GOTO "
written Gosub = codes "GOSUB "
written Return = codes "RETURN"
written End = codes "END"
written Rem = codes "REM "
written Random = codes "RND("

-- all words
abbrev pub words : List Candidate
words =
    candidate.Word Let ∷ candidate.Word Print ∷ candidate.Word Input ∷ candidate.Word If ∷ candidate.Word Then ∷ candidate.Word Goto
    ∷ candidate.Word Gosub ∷ candidate.Word Return ∷ candidate.Word End ∷ candidate.Word Rem ∷ candidate.Word Random ∷ []

-- a number, if the line at a place stands by it
abbrev pub number_by : List Edit → ℕ → Option ℕ → List Candidate
number_by all place None = []
number_by all place (Some n) = if stands place n all then candidate.Number n ∷ [] else []

-- the number of the line at a place
abbrev pub number_at : List Edit → ℕ → Edit → List Candidate
number_at all place e = number_by all place (number_in e)

-- the numbers of these lines that stand, of which the first is at place i
abbrev pub numbers_from : List Edit → ℕ → List SourceLine → List Candidate
numbers_from all i [] = []
numbers_from all i (l ∷ ls) = number_at all i (does l.edit) ++ numbers_from all (i + 1) ls

-- the words, and the numbers of the lines that stand
abbrev pub candidates : List SourceLine → List Candidate
candidates lines = words ++ numbers_from (edits_of lines) 0 lines

-- how a candidate is spelled
abbrev pub spelled : Candidate → List ℕ
spelled (candidate.Word w) = spelling w
spelled (candidate.Number n) = decimal n

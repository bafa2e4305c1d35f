-- What the words of the language do.
use Rattle.std.specs.Prelude.{ℕ, List, []}
use Rattle.tb_basic_grammar.specs.declared.keywords.Keyword.{Keyword}
use Rattle.tb_basic_grammar.specs.declared.keywords.Keyword.TheVariants as keyword
use Rattle.tb_parser.specs.declared.lexer.TokenKind.{TokenKind}
use Rattle.tb_parser.specs.declared.lexer.TokenKind.TheVariants as kind
use Rattle.tb_lsp_hover.specs.declared.words.TheConstants.{END_TEXT, GOSUB_TEXT, GOTO_TEXT, IF_TEXT, INPUT_TEXT, LET_TEXT, PRINT_TEXT, PR_TEXT, RANDOM_TEXT}
use Rattle.tb_lsp_hover.specs.declared.words.TheConstants.{REM_TEXT, RETURN_TEXT, THEN_TEXT}

-- what the first word of a statement does
abbrev pub help_of_word : Keyword → List ℕ
help_of_word keyword.Let = LET_TEXT.now
help_of_word keyword.Print = PRINT_TEXT.now
help_of_word keyword.Pr = PR_TEXT.now
help_of_word keyword.Input = INPUT_TEXT.now
help_of_word keyword.If = IF_TEXT.now
help_of_word keyword.Goto = GOTO_TEXT.now
help_of_word keyword.Gosub = GOSUB_TEXT.now
help_of_word keyword.Return = RETURN_TEXT.now
help_of_word keyword.End = END_TEXT.now
help_of_word keyword.Rem = REM_TEXT.now

-- what a token that is a word does
abbrev pub help_of : TokenKind → List ℕ
help_of (kind.Keyword word) = help_of_word word
help_of kind.Then = THEN_TEXT.now
help_of kind.Random = RANDOM_TEXT.now
help_of _ = []

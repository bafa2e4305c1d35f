-- The texts of notes and warnings.
use Rattle.std.specs.Prelude.{ℕ, ◌*◌, ◌/◌, ◌==◌, if◌then◌else◌, List, [], ◌++◌, codes}
use Rattle.std.specs.Option.{option_map_or}
use Rattle.std.specs.Fmt.{decimal, signed_decimal}
use Rattle.tb_words.specs.Words.{signed}
use Rattle.tb_engine_findings.specs.ForeignWords.{name_of}
use Rattle.tb_engine_findings.specs.NearWords.{spelling_of}
use Rattle.tb_basic_signs.specs.Names as signs
use Rattle.tb_engine_findings.specs.declared.foreign_words.ForeignWord.{ForeignWord}
use Rattle.tb_engine_findings.specs.declared.foreign_words.ForeignWord.TheVariants as foreign
use Rattle.tb_engine_findings.specs.declared.notes.Note.{Note}
use Rattle.tb_engine_findings.specs.declared.notes.Note.TheVariants as note
use Rattle.tb_engine_findings.specs.declared.warnings.Warning.{Warning}
use Rattle.tb_engine_findings.specs.declared.warnings.Warning.TheVariants as warning
use Rattle.tb_engine_check.specs.declared.texts.TheConstants.{ABS_ADVICE, AND_ADVICE, APOSTROPHE, AT_LEAST, AT_MOST, BAD_COUNT, BOUND_OF_ONE, BRACE_IN_TEXT}
use Rattle.tb_engine_check.specs.declared.texts.TheConstants.{BYTE_ORDER_MARK, CHR_ADVICE, CLS_ADVICE, COLON, COLON_AT_END, COUNT_WITHOUT_SPACE, CURLY_QUOTE}
use Rattle.tb_engine_check.specs.declared.texts.TheConstants.{DEF_ADVICE, ELSE_ADVICE, EXTRA_PARENTHESIS, FOR_ADVICE, FRACTION, GET_ADVICE, HEXADECIMAL}
use Rattle.tb_engine_check.specs.declared.texts.TheConstants.{INT_ADVICE, LINE_NAME, LONG_NAME, MOD_ADVICE, NEW_ADVICE, NOTHING_BEHIND, NOT_ADVICE, NOT_CLOSED}
use Rattle.tb_engine_check.specs.declared.texts.TheConstants.{NO_ARRAYS, NO_INTERPRETER, NO_ITEM, NO_NUMBER, NO_RELATION, NO_SEPARATOR, ONE_EQUAL_SIGN}
use Rattle.tb_engine_check.specs.declared.texts.TheConstants.{ON_ADVICE, OPEN_TEXT, OR_ADVICE, POKE_ADVICE, POWER, QUESTION_MARK, READ_ADVICE}
use Rattle.tb_engine_check.specs.declared.texts.TheConstants.{RELATION_AS_VALUE, REMAINDER, REMARK_BEHIND, RUNS_PAST, SGN_ADVICE, SHORTHAND, SIGNED_OPERAND}
use Rattle.tb_engine_check.specs.declared.texts.TheConstants.{SIGN_IN_TEXT, STOP_ADVICE, SYS_ADVICE, TAB, TAB_ADVICE, TEXT_IN_INPUT, TEXT_NAME, THEN_NUMBER}
use Rattle.tb_engine_check.specs.declared.texts.TheConstants.{UNEQUAL, WHILE_ADVICE, WHOLE_NAME, WIDE_MARK, ZERO_DIVISOR}

-- what helps in place of a word of other BASICs
abbrev pub advice : ForeignWord → List ℕ
advice foreign.For = FOR_ADVICE.now
advice foreign.Next = FOR_ADVICE.now
advice foreign.Step = FOR_ADVICE.now
advice foreign.Poke = POKE_ADVICE.now
advice foreign.Peek = POKE_ADVICE.now
advice foreign.Dim = NO_ARRAYS.now
advice foreign.Get = GET_ADVICE.now
advice foreign.On = ON_ADVICE.now
advice foreign.Read = READ_ADVICE.now
advice foreign.Data = READ_ADVICE.now
advice foreign.Def = DEF_ADVICE.now
advice foreign.Else = ELSE_ADVICE.now
advice foreign.And = AND_ADVICE.now
advice foreign.Or = OR_ADVICE.now
advice foreign.Not = NOT_ADVICE.now
advice foreign.Stop = STOP_ADVICE.now
advice foreign.Cls = CLS_ADVICE.now
advice foreign.Abs = ABS_ADVICE.now
advice foreign.Tab = TAB_ADVICE.now
advice foreign.Chr = CHR_ADVICE.now
advice foreign.Mod = MOD_ADVICE.now
advice foreign.Int = INT_ADVICE.now
advice foreign.Sgn = SGN_ADVICE.now
advice foreign.While = WHILE_ADVICE.now
advice foreign.Sys = SYS_ADVICE.now
advice foreign.New = NEW_ADVICE.now

-- the text of a note
abbrev pub note_text : Note → List ℕ
note_text (note.ForeignWord m) = codes "Tiny BASIC has no " ++ (name_of m ++ (codes "; " ++ advice m))
note_text note.QuestionMark = QUESTION_MARK.now
note_text note.Apostrophe = APOSTROPHE.now
note_text note.Colon = COLON.now
note_text note.ColonAtEnd = COLON_AT_END.now
note_text note.LongName = LONG_NAME.now
note_text note.TextName = TEXT_NAME.now
note_text note.Hexadecimal = HEXADECIMAL.now
note_text note.ThenNumber = THEN_NUMBER.now
note_text note.OpenText = OPEN_TEXT.now
note_text note.Tab = TAB.now
note_text note.ByteOrderMark = BYTE_ORDER_MARK.now
note_text note.WideMark = WIDE_MARK.now
note_text note.NoNumber = NO_NUMBER.now
note_text note.MachineCode = SYS_ADVICE.now
note_text note.NoInterpreter = NO_INTERPRETER.now
note_text note.CurlyQuote = CURLY_QUOTE.now
note_text (note.Near word) = codes "did you mean " ++ spelling_of word
note_text note.SignInText = SIGN_IN_TEXT.now
note_text note.BraceInText = BRACE_IN_TEXT.now
note_text note.CountWithoutSpace = COUNT_WITHOUT_SPACE.now
note_text note.BadCount = BAD_COUNT.now
note_text (note.NearSign byte) = codes "did you mean {" ++ (option_map_or (λ name. name) (signs.name_of byte) [] ++ codes "}")
note_text note.UnknownSign = codes "a sign in a text is a name, as {clr} and {3 down}, or two hexadecimal digits, as {C1}"
note_text note.TextInInput = TEXT_IN_INPUT.now
note_text note.Power = POWER.now
note_text note.SignedOperand = SIGNED_OPERAND.now
note_text note.AtLeast = AT_LEAST.now
note_text note.AtMost = AT_MOST.now
note_text note.OneEqualSign = ONE_EQUAL_SIGN.now
note_text note.Unequal = UNEQUAL.now
note_text note.ExtraParenthesis = EXTRA_PARENTHESIS.now
note_text note.RelationAsValue = RELATION_AS_VALUE.now
note_text note.NotClosed = NOT_CLOSED.now
note_text note.NothingBehind = NOTHING_BEHIND.now
note_text note.Array = NO_ARRAYS.now
note_text note.Fraction = FRACTION.now
note_text note.Shorthand = SHORTHAND.now
note_text note.Remainder = REMAINDER.now
note_text note.WholeName = WHOLE_NAME.now
note_text note.NoRelation = NO_RELATION.now
note_text note.RemarkBehind = REMARK_BEHIND.now
note_text note.LineName = LINE_NAME.now
note_text note.NoItem = NO_ITEM.now
note_text note.NoSeparator = NO_SEPARATOR.now

-- how often a bound of RND goes into 32,767
abbrev pub times_of : ℕ → ℕ
times_of bound = if bound == 0 then 1 else 32767 / bound

-- what is said of a bound: the largest multiple up to 32,767 is better
abbrev pub bound_text : ℕ → List ℕ
bound_text bound =
    codes "RND(" ++ (decimal bound ++ (codes ") is odd and even in turns; RND("
    ++ (decimal (times_of bound * bound) ++ (codes ")/" ++ (decimal (times_of bound) ++ codes " is better")))))

-- the text of a warning
abbrev pub warning_text : Warning → List ℕ
warning_text (warning.NoLine target) = codes "no line " ++ signed_decimal target
warning_text (warning.Replaced number by) = codes "line " ++ (decimal number ++ (codes " is replaced by line " ++ (decimal by ++ codes " of the file")))
warning_text (warning.TakenOut number by) = codes "line " ++ (decimal number ++ (codes " is taken out by line " ++ (decimal by ++ codes " of the file")))
warning_text warning.RunsPast = RUNS_PAST.now
warning_text (warning.EvenBound bound) = bound_text bound
warning_text (warning.HighTarget target) = decimal target ++ codes " is read as a negative number; line numbers end at 32767"
warning_text warning.BoundOfOne = BOUND_OF_ONE.now
warning_text (warning.BadBound bound) = codes "fault 3: the bound of RND is " ++ signed_decimal bound
warning_text warning.ZeroDivisor = ZERO_DIVISOR.now
warning_text (warning.HighNumber number) = decimal number ++ (codes " is read as " ++ (signed_decimal (signed number) ++ codes "; numbers end at 32767"))
warning_text (warning.KeyCharacter number) =
    codes "{F" ++ (decimal number ++ (codes "} is the character {B" ++ (decimal number ++ codes "}, and no function key")))

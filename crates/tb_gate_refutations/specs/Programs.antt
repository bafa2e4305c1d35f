-- The programs of the images.
use Rattle.std.specs.Prelude.{ℕ, false, [], ◌∷◌}
use Rattle.tb_words.specs.declared.Rel.TheVariants.{Eq, Gt, Lt}
use Rattle.tb_basic_syntax.specs.declared.expressions.Operator.TheVariants.{Add, Subtract, Multiply, Divide}
use Rattle.tb_basic_syntax.specs.Source.{Program, Numbered, Statement, Number, Variable, Binary, Text, Value, Zone}
use Rattle.tb_basic_syntax.specs.Source.{Let, Print, Input, If, Goto, Gosub, Return, End}

-- a line by its number and its statement
abbrev pub line : ℕ → Statement → Numbered Statement
line n c = record { number = n; content = c }

-- PRINT "A";
abbrev pub print_a : Statement
print_a = Print (Text (65 ∷ []) ∷ []) false

-- 10 END
abbrev pub ends : Program
ends = line 10 End ∷ []

-- 10 GOTO 10
abbrev pub goto_itself : Program
goto_itself = line 10 (Goto (Number 10)) ∷ []

-- 10 GOTO 20
abbrev pub goes_nowhere : Program
goes_nowhere = line 10 (Goto (Number 20)) ∷ []

-- 10 PRINT A;
-- 20 END
abbrev pub prints_variable : Program
prints_variable = line 10 (Print (Value (Variable 0) ∷ []) false) ∷ line 20 End ∷ []

-- 10 PRINT "A";
-- 20 END
abbrev pub prints_a : Program
prints_a = line 10 print_a ∷ line 20 End ∷ []

-- 10 PRINT "AA";
-- 20 END
abbrev pub prints_two : Program
prints_two = line 10 (Print (Text (65 ∷ 65 ∷ []) ∷ []) false) ∷ line 20 End ∷ []

-- 10 PRINT 1/0;
abbrev pub faults : Program
faults = line 10 (Print (Value (Binary Divide (Number 1) (Number 0)) ∷ []) false) ∷ []

-- 10 PRINT "AA";1/0;
abbrev pub prints_and_faults : Program
prints_and_faults = line 10 (Print (Text (65 ∷ 65 ∷ []) ∷ Value (Binary Divide (Number 1) (Number 0)) ∷ []) false) ∷ []

-- 10 PRINT 1/(A+1);
abbrev pub prints_quotient : Program
prints_quotient = line 10 (Print (Value (Binary Divide (Number 1) (Binary Add (Variable 0) (Number 1))) ∷ []) false) ∷ []

-- 10 PRINT (A-1)/(A+2);
abbrev pub prints_negative_quotient : Program
prints_negative_quotient =
    line 10 (Print (Value (Binary Divide (Binary Subtract (Variable 0) (Number 1)) (Binary Add (Variable 0) (Number 2))) ∷ []) false) ∷ []

-- 10 INPUT A,B
abbrev pub inputs_two : Program
inputs_two = line 10 (Input (0 ∷ 1 ∷ [])) ∷ []

-- 10 GOSUB 10
abbrev pub calls_itself : Program
calls_itself = line 10 (Gosub (Number 10)) ∷ []

-- 10 GOSUB 30
-- 20 END
-- 30 RETURN
abbrev pub calls_and_returns : Program
calls_and_returns = line 10 (Gosub (Number 30)) ∷ line 20 End ∷ line 30 Return ∷ []

-- 10 GOTO A+20
-- 20 END
abbrev pub goes_to_sum : Program
goes_to_sum = line 10 (Goto (Binary Add (Variable 0) (Number 20))) ∷ line 20 End ∷ []

-- 10 PRINT "A";
-- 20 GOTO 10
abbrev pub prints_forever : Program
prints_forever = line 10 print_a ∷ line 20 (Goto (Number 10)) ∷ []

-- 10 IF A=0 THEN PRINT "AA";
-- 20 END
abbrev pub prints_if_zero : Program
prints_if_zero = line 10 (If (Variable 0) Eq (Number 0) (Print (Text (65 ∷ 65 ∷ []) ∷ []) false)) ∷ line 20 End ∷ []

-- 10 IF A-20000<A+20000 THEN PRINT "A";
-- 20 END
abbrev pub compares_far : Program
compares_far = line 10 (If (Binary Subtract (Variable 0) (Number 20000)) Lt (Binary Add (Variable 0) (Number 20000)) print_a) ∷ line 20 End ∷ []

-- 10 PRINT (A-1)/256;
abbrev pub prints_quotient_by_256 : Program
prints_quotient_by_256 =
    line 10 (Print (Value (Binary Divide (Binary Subtract (Variable 0) (Number 1)) (Number 256)) ∷ []) false) ∷ []

-- 10 IF A-256=0 THEN PRINT "A";
-- 20 END
abbrev pub prints_if_256 : Program
prints_if_256 = line 10 (If (Binary Subtract (Variable 0) (Number 256)) Eq (Number 0) print_a) ∷ line 20 End ∷ []

-- 10 IF A>0 THEN PRINT "A";
-- 20 END
abbrev pub prints_if_positive : Program
prints_if_positive = line 10 (If (Variable 0) Gt (Number 0) print_a) ∷ line 20 End ∷ []

-- 10 IF A-1<256 THEN PRINT "A";
-- 20 END
abbrev pub prints_if_below_256 : Program
prints_if_below_256 = line 10 (If (Binary Subtract (Variable 0) (Number 1)) Lt (Number 256) print_a) ∷ line 20 End ∷ []

-- 10 LET A=A-1
-- 20 PRINT A-A/4*4;
abbrev pub prints_rest : Program
prints_rest =
    line 10 (Let 0 (Binary Subtract (Variable 0) (Number 1)))
    ∷ line 20 (Print (Value (Binary Subtract (Variable 0) (Binary Multiply (Binary Divide (Variable 0) (Number 4)) (Number 4))) ∷ []) false) ∷ []

-- 10 LET A=A-1
-- 20 PRINT A-A/3*3;
abbrev pub prints_rest_by_three : Program
prints_rest_by_three =
    line 10 (Let 0 (Binary Subtract (Variable 0) (Number 1)))
    ∷ line 20 (Print (Value (Binary Subtract (Variable 0) (Binary Multiply (Binary Divide (Variable 0) (Number 3)) (Number 3))) ∷ []) false) ∷ []

-- 10 LET A=A+25
-- 20 LET B=B+4
-- 30 PRINT A-A/B*B;
abbrev pub prints_rest_of_bytes : Program
prints_rest_of_bytes =
    line 10 (Let 0 (Binary Add (Variable 0) (Number 25))) ∷ line 20 (Let 1 (Binary Add (Variable 1) (Number 4)))
    ∷ line 30 (Print (Value (Binary Subtract (Variable 0) (Binary Multiply (Binary Divide (Variable 0) (Variable 1)) (Variable 1))) ∷ []) false) ∷ []

-- 10 PRINT "A",1;
abbrev pub prints_in_zones : Program
prints_in_zones = line 10 (Print (Text (65 ∷ []) ∷ Zone ∷ Value (Number 1) ∷ []) false) ∷ []

-- 10 LET A=1
-- 20 PRINT A;
abbrev pub stores_and_prints : Program
stores_and_prints = line 10 (Let 0 (Number 1)) ∷ line 20 (Print (Value (Variable 0) ∷ []) false) ∷ []

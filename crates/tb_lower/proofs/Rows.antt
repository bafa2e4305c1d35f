-- Worked rows: what small programs send and how they end, by the meaning and by the slot code.
use Rattle.std.specs.Prelude.{◌≡◌, ℕ, ◌*◌, ◌+◌, true, false, List, [], ◌∷◌, ◌++◌, refl, codes, replicate, Some, None, suc, zero}
use Rattle.tb_words.specs.declared.Rel.TheVariants.{Eq, Lt}
use Rattle.tb_basic_syntax.specs.declared.expressions.Operator.TheVariants.{Add, Subtract, Multiply, Divide}
use Rattle.tb_basic_syntax.specs.Source.{Expression, Number, Variable, Binary, Random, Text, Value, Zone, Statement, Let, Print, Input, If, Goto, Gosub, Return, End, Remark, Numbered, Program}
use Rattle.tb_basic_meaning.specs.Steps as steps
use Rattle.tb_basic_meaning.specs.Steps.{Over, Ended, Faulted, Waits, sent_by}
use Rattle.tb_basic_meaning.specs.Meaning.{source_run}
use Rattle.tb_basic_meaning.specs.Need.{need, too_deep}
use Rattle.tb_basic_meaning.specs.Cost.{cost}
use Rattle.tb_lower.specs.Slots as slots
use Rattle.tb_lower.specs.Slots.{slot_run, Slots}
use Rattle.tb_lower.specs.Lowered.{program_code}

abbrev line : ℕ → Statement → Numbered Statement
line n c = record { number = n; content = c }

abbrev cr : List ℕ
cr = 13 ∷ []

-- slots with anything in them
abbrev any_slots : Slots
any_slots = record { words = replicate 16 12345; held = 7 }

-- after n lines the run is over, with this output; and so is the slot code's run, after twelve times as many steps
abbrev Sends : Program → ℕ → List ℕ → List ℕ → ℕ → steps.End → List ℕ → Type 0
Sends program seed text answers m why out =
    (source_run program seed text answers m ≡ Over why out)
    × (slot_run (program_code program) seed text answers any_slots (m * 12) ≡ Over why out)

-- 10 PRINT "HELLO" / 20 END
hello : Sends (line 10 (Print ((Text (codes "HELLO")) ∷ []) true) ∷ line 20 End ∷ []) 1 ([]) ([]) 2 Ended (codes "HELLO" ++ cr)
hello = (refl, refl)

-- 10 PRINT "a b"
spaced_text : Sends (line 10 (Print ((Text (codes "A B")) ∷ []) true) ∷ []) 1 ([]) ([]) 2 Faulted (codes "A B" ++ cr ++ cr ++ codes "!7 AT 10" ++ cr)
spaced_text = (refl, refl)

-- 10 PRINT 1,2,3 / 20 PRINT 1;2;3 / 30 PRINT "AB", / 40 PRINT "C" / 50 END
separators : Sends (line 10 (Print ((Value (Number 1)) ∷ Zone ∷ (Value (Number 2)) ∷ Zone ∷ (Value (Number 3)) ∷ []) true)
    ∷ line 20 (Print ((Value (Number 1)) ∷ (Value (Number 2)) ∷ (Value (Number 3)) ∷ []) true)
    ∷ line 30 (Print ((Text (codes "AB")) ∷ Zone ∷ []) false) ∷ line 40 (Print ((Text (codes "C")) ∷ []) true) ∷ line 50 End ∷ []) 1 ([]) ([]) 5 Ended
    (codes "1       2       3" ++ cr ++ codes "123" ++ cr ++ codes "AB      C" ++ cr)
separators = (refl, refl)

-- 10 PRINT "12345678",9 / 20 END
zone_behind_eight : Sends (line 10 (Print ((Text (codes "12345678")) ∷ Zone ∷ (Value (Number 9)) ∷ []) true) ∷ line 20 End ∷ []) 1 ([]) ([]) 2 Ended (codes "12345678        9" ++ cr)
zone_behind_eight = (refl, refl)

-- 10 PRINT 32767+1 / 20 END
sum_wraps : Sends (line 10 (Print ((Value (Binary Add (Number 32767) (Number 1))) ∷ []) true) ∷ line 20 End ∷ []) 1 ([]) ([]) 2 Ended (codes "-32768" ++ cr)
sum_wraps = (refl, refl)

-- 10 PRINT (0-32768)/(0-1) / 20 PRINT (0-7)/2 / 30 END
quotients : Sends (line 10 (Print ((Value (Binary Divide (Binary Subtract (Number 0) (Number 32768)) (Binary Subtract (Number 0) (Number 1)))) ∷ [])
    true) ∷ line 20 (Print ((Value (Binary Divide (Binary Subtract (Number 0) (Number 7)) (Number 2))) ∷ []) true) ∷ line 30 End ∷ []) 1 ([])
    ([]) 3 Ended (codes "-32768" ++ cr ++ codes "-3" ++ cr)
quotients = (refl, refl)

-- 10 IF 0-32768<32767 PRINT "YES" / 20 END
signed_comparison : Sends (line 10 (If (Binary Subtract (Number 0) (Number 32768)) Lt (Number 32767) (Print ((Text (codes "YES")) ∷ []) true))
    ∷ line 20 End ∷ []) 1 ([]) ([]) 2 Ended (codes "YES" ++ cr)
signed_comparison = (refl, refl)

-- 10 PRINT "A";1/0 / 20 END
fault_keeps_items_sent : Sends (line 10 (Print ((Text (codes "A")) ∷ (Value (Binary Divide (Number 1) (Number 0))) ∷ []) true) ∷ line 20 End ∷ []) 1
    ([]) ([]) 1 Faulted (codes "A" ++ cr ++ codes "!2 AT 10" ++ cr)
fault_keeps_items_sent = (refl, refl)

-- 10 PRINT RND(10);RND(10) / 20 END
random_numbers : Sends (line 10 (Print ((Value (Random (Number 10))) ∷ (Value (Random (Number 10))) ∷ []) true) ∷ line 20 End ∷ []) 1 ([]) ([]) 2 Ended (codes "27" ++ cr)
random_numbers = (refl, refl)

-- 10 PRINT RND(0)
random_below_one : Sends (line 10 (Print ((Value (Random (Number 0))) ∷ []) true) ∷ []) 1 ([]) ([]) 1 Faulted (cr ++ codes "!3 AT 10" ++ cr)
random_below_one = (refl, refl)

-- 10 A=4 / 20 GOTO 10*A / 30 PRINT "NO" / 40 END
computed_goto : Sends (line 10 (Let 0 (Number 4)) ∷ line 20 (Goto (Binary Multiply (Number 10) (Variable 0)))
    ∷ line 30 (Print ((Text (codes "NO")) ∷ []) true) ∷ line 40 End ∷ []) 1 ([]) ([]) 3 Ended ([])
computed_goto = (refl, refl)

-- 10 A=5 / 20 GOTO 10*A / 30 PRINT "NO" / 40 END
computed_goto_missing : Sends (line 10 (Let 0 (Number 5)) ∷ line 20 (Goto (Binary Multiply (Number 10) (Variable 0)))
    ∷ line 30 (Print ((Text (codes "NO")) ∷ []) true) ∷ line 40 End ∷ []) 1 ([]) ([]) 2 Faulted (cr ++ codes "!1 AT 20" ++ cr)
computed_goto_missing = (refl, refl)

-- 10 A=4 / 20 GOTO 10-20 / 30 PRINT "NO" / 40 END
negative_goto : Sends (line 10 (Let 0 (Number 4)) ∷ line 20 (Goto (Binary Subtract (Number 10) (Number 20)))
    ∷ line 30 (Print ((Text (codes "NO")) ∷ []) true) ∷ line 40 End ∷ []) 1 ([]) ([]) 2 Faulted (cr ++ codes "!1 AT 20" ++ cr)
negative_goto = (refl, refl)

-- 10 INPUT A,B / 20 PRINT A+B / 30 END
input_two : Sends (line 10 (Input (0 ∷ 1 ∷ [])) ∷ line 20 (Print ((Value (Binary Add (Variable 0) (Variable 1))) ∷ []) true) ∷ line 30 End ∷ []) 1
    (codes "3, -4" ++ cr) ([]) 3 Ended (codes "? " ++ cr ++ codes "-1" ++ cr)
input_two = (refl, refl)

-- 10 INPUT A,B / 20 PRINT A+B / 30 END
input_wraps : Sends (line 10 (Input (0 ∷ 1 ∷ [])) ∷ line 20 (Print ((Value (Binary Add (Variable 0) (Variable 1))) ∷ []) true) ∷ line 30 End ∷ []) 1
    (codes "70000,0" ++ cr) ([]) 3 Ended (codes "? " ++ cr ++ codes "4464" ++ cr)
input_wraps = (refl, refl)

-- 10 INPUT A,B / 20 PRINT A+B / 30 END
input_waits_for_second : Sends (line 10 (Input (0 ∷ 1 ∷ [])) ∷ line 20 (Print ((Value (Binary Add (Variable 0) (Variable 1))) ∷ []) true)
    ∷ line 30 End ∷ []) 1 (codes "5" ++ cr) ([]) 1 Waits (codes "? " ++ cr ++ codes "? ")
input_waits_for_second = (refl, refl)

-- 10 INPUT A,B / 20 PRINT A+B / 30 END
input_letter : Sends (line 10 (Input (0 ∷ 1 ∷ [])) ∷ line 20 (Print ((Value (Binary Add (Variable 0) (Variable 1))) ∷ []) true) ∷ line 30 End ∷ []) 1
    (codes "X") ([]) 1 Faulted (codes "? " ++ cr ++ codes "!6 AT 10" ++ cr)
input_letter = (refl, refl)

-- 10 INPUT A,B / 20 PRINT A+B / 30 END
input_empty_line : Sends (line 10 (Input (0 ∷ 1 ∷ [])) ∷ line 20 (Print ((Value (Binary Add (Variable 0) (Variable 1))) ∷ []) true) ∷ line 30 End
    ∷ []) 1 (cr) ([]) 1 Faulted (codes "? " ++ cr ++ codes "!6 AT 10" ++ cr)
input_empty_line = (refl, refl)

-- 10 INPUT A,B / 20 PRINT A+B / 30 END
input_waits_in_number : Sends (line 10 (Input (0 ∷ 1 ∷ [])) ∷ line 20 (Print ((Value (Binary Add (Variable 0) (Variable 1))) ∷ []) true) ∷ line 30 End
    ∷ []) 1 (codes "1") ([]) 1 Waits (codes "? ")
input_waits_in_number = (refl, refl)

-- 10 INPUT A / 20 INPUT B / 30 PRINT B / 40 END
input_line_stays_open : Sends (line 10 (Input (0 ∷ [])) ∷ line 20 (Input (1 ∷ [])) ∷ line 30 (Print ((Value (Variable 1)) ∷ []) true) ∷ line 40 End
    ∷ []) 1 (codes "1,2" ++ cr) ([]) 4 Ended (codes "? " ++ cr ++ codes "2" ++ cr)
input_line_stays_open = (refl, refl)

-- 10 A=A+1 / 20 IF A=65 END / 30 GOSUB 10
gosub_65 : Sends (line 10 (Let 0 (Binary Add (Variable 0) (Number 1))) ∷ line 20 (If (Variable 0) Eq (Number 65) End) ∷ line 30 (Gosub (Number 10)) ∷ []) 1 ([]) ([]) 200 Ended ([])
gosub_65 = (refl, refl)

-- 10 A=A+1 / 20 IF A=66 END / 30 GOSUB 10
gosub_66 : Sends (line 10 (Let 0 (Binary Add (Variable 0) (Number 1))) ∷ line 20 (If (Variable 0) Eq (Number 66) End) ∷ line 30 (Gosub (Number 10)) ∷ []) 1 ([]) ([]) 200 Ended ([])
gosub_66 = (refl, refl)

-- 10 A=A+1 / 20 IF A=501 END / 30 GOSUB 10
gosub_501 : Sends (line 10 (Let 0 (Binary Add (Variable 0) (Number 1))) ∷ line 20 (If (Variable 0) Eq (Number 501) End) ∷ line 30 (Gosub (Number 10)) ∷ []) 1 ([]) ([]) 1502 Ended ([])
gosub_501 = (refl, refl)

-- 10 A=A+1 / 20 IF A=502 END / 30 GOSUB 10
gosub_502 : Sends (line 10 (Let 0 (Binary Add (Variable 0) (Number 1))) ∷ line 20 (If (Variable 0) Eq (Number 502) End) ∷ line 30 (Gosub (Number 10))
    ∷ []) 1 ([]) ([]) 1503 Faulted (cr ++ codes "!4 AT 30" ++ cr)
gosub_502 = (refl, refl)

-- 10 RETURN
return_without_gosub : Sends (line 10 Return ∷ []) 1 ([]) ([]) 1 Faulted (cr ++ codes "!5 AT 10" ++ cr)
return_without_gosub = (refl, refl)

-- 10 GOTO 30 / 20 RETURN / 30 GOSUB 20
return_past_last : Sends (line 10 (Goto (Number 30)) ∷ line 20 Return ∷ line 30 (Gosub (Number 20)) ∷ []) 1 ([]) ([]) 4 Faulted (cr ++ codes "!7 AT 30" ++ cr)
return_past_last = (refl, refl)

-- 30 END / 10 PRINT 1 / 10 PRINT 2 / 20 PRINT 3 / 20
replaced_line : Sends (line 10 (Print ((Value (Number 2)) ∷ []) true) ∷ line 30 End ∷ []) 1 ([]) ([]) 2 Ended (codes "2" ++ cr)
replaced_line = (refl, refl)

-- 5 GOTO100 / 10 PRINT 1 / 100 END
goto_skips : Sends (line 5 (Goto (Number 100)) ∷ line 10 (Print ((Value (Number 1)) ∷ []) true) ∷ line 100 End ∷ []) 1 ([]) ([]) 2 Ended ([])
goto_skips = (refl, refl)

-- 10 I=1 / 20 IF I=I F=5 / 30 PRINT F / 40 IF P=P REM / 50 END
variable_before_word : Sends (line 10 (Let 8 (Number 1)) ∷ line 20 (If (Variable 8) Eq (Variable 8) (Let 5 (Number 5)))
    ∷ line 30 (Print ((Value (Variable 5)) ∷ []) true) ∷ line 40 (If (Variable 15) Eq (Variable 15) Remark) ∷ line 50 End ∷ []) 1 ([]) ([]) 5 Ended (codes "5" ++ cr)
variable_before_word = (refl, refl)

-- 10 PRINT 1+(1+( .. 1 .. )), sixteen deep / 20 END
nested_sixteen : Sends (line 10
    (Print ((Value (Binary Add (Number 1)
    (Binary Add (Number 1) (Binary Add (Number 1)
    (Binary Add (Number 1) (Binary Add (Number 1)
    (Binary Add (Number 1) (Binary Add (Number 1)
    (Binary Add (Number 1) (Binary Add (Number 1)
    (Binary Add (Number 1) (Binary Add (Number 1)
    (Binary Add (Number 1) (Binary Add (Number 1) (Binary Add (Number 1) (Binary Add (Number 1) (Number 1))))))))))))))))) ∷ []) true) ∷ line 20 End
    ∷ []) 1 ([]) ([]) 2 Ended (codes "16" ++ cr)
nested_sixteen = (refl, refl)

-- 10 PRINT 1/0*0
division_kept : Sends (line 10 (Print ((Value (Binary Multiply (Binary Divide (Number 1) (Number 0)) (Number 0))) ∷ []) true) ∷ []) 1 ([]) ([]) 1 Faulted (cr ++ codes "!2 AT 10" ++ cr)
division_kept = (refl, refl)

-- 10 PRINT 0*RND(0)
random_kept : Sends (line 10 (Print ((Value (Binary Multiply (Number 0) (Random (Number 0)))) ∷ []) true) ∷ []) 1 ([]) ([]) 1 Faulted (cr ++ codes "!3 AT 10" ++ cr)
random_kept = (refl, refl)

-- 10 PRINT 0*RND(10);RND(10) / 20 END
seed_kept : Sends (line 10 (Print ((Value (Binary Multiply (Number 0) (Random (Number 10)))) ∷ (Value (Random (Number 10))) ∷ []) true) ∷ line 20 End
    ∷ []) 1 ([]) ([]) 2 Ended (codes "07" ++ cr)
seed_kept = (refl, refl)

-- 10 IF 1=1 GOTO 10*3 / 20 PRINT "NO" / 30 PRINT 6*7 / 40 END
constant_goto : Sends (line 10 (If (Number 1) Eq (Number 1) (Goto (Binary Multiply (Number 10) (Number 3))))
    ∷ line 20 (Print ((Text (codes "NO")) ∷ []) true) ∷ line 30 (Print ((Value (Binary Multiply (Number 6) (Number 7))) ∷ []) true) ∷ line 40 End
    ∷ []) 1 ([]) ([]) 3 Ended (codes "42" ++ cr)
constant_goto = (refl, refl)

-- 10 PRINT "HELLO" / 20 END
break_first : Sends (line 10 (Print ((Text (codes "HELLO")) ∷ []) true) ∷ line 20 End ∷ []) 1 ([]) (3 ∷ []) 1 Faulted (cr ++ codes "!0 AT 10" ++ cr)
break_first = (refl, refl)

-- 10 PRINT "HELLO" / 20 END
answers_lost : Sends (line 10 (Print ((Text (codes "HELLO")) ∷ []) true) ∷ line 20 End ∷ []) 1 ([]) (65 ∷ 0 ∷ 3 ∷ []) 2 Ended (codes "HELLO" ++ cr)
answers_lost = (refl, refl)

-- 10 PRINT "A"; / 20 GOTO 10
break_later : Sends (line 10 (Print ((Text (codes "A")) ∷ []) false) ∷ line 20 (Goto (Number 10)) ∷ []) 1 ([]) (0 ∷ 0 ∷ 0 ∷ 3 ∷ []) 4 Faulted (codes "AA" ++ cr ++ codes "!0 AT 20" ++ cr)
break_later = (refl, refl)

-- 10 PRINT "A"
break_unmet_past_last : Sends (line 10 (Print ((Text (codes "A")) ∷ []) true) ∷ []) 1 ([]) (0 ∷ 3 ∷ []) 2 Faulted (codes "A" ++ cr ++ cr ++ codes "!7 AT 10" ++ cr)
break_unmet_past_last = (refl, refl)

-- this many lines from n on, a step apart, which do the same, and then the rest
abbrev repeated : ℕ → ℕ → ℕ → Statement → Program → Program
repeated zero n apart c rest = rest
repeated (suc k) n apart c rest = line n c ∷ repeated k (n + apart) apart c rest

-- 10 INPUT A / 20 GOTO A / lines 30, 40, .. 2990 each END / 3000 PRINT "Z"
abbrev long_program : Program
long_program = line 10 (Input (0 ∷ [])) ∷ line 20 (Goto (Variable 0)) ∷ repeated 297 30 10 End (line 3000 (Print (Text (codes "Z") ∷ []) true) ∷ [])

-- line 3000
goto_last : Sends long_program 1 (codes "3000" ++ cr) [] 4 Faulted (codes "? " ++ cr ++ codes "Z" ++ cr ++ cr ++ codes "!7 AT 3000" ++ cr)
goto_last = (refl, refl)

-- line 30
goto_first : Sends long_program 1 (codes "30" ++ cr) [] 3 Ended (codes "? " ++ cr)
goto_first = (refl, refl)

-- line 2990
goto_last_but_one : Sends long_program 1 (codes "2990" ++ cr) [] 3 Ended (codes "? " ++ cr)
goto_last_but_one = (refl, refl)

-- line 25
goto_between : Sends long_program 1 (codes "25" ++ cr) [] 2 Faulted (codes "? " ++ cr ++ cr ++ codes "!1 AT 20" ++ cr)
goto_between = (refl, refl)

-- line 3001
goto_above : Sends long_program 1 (codes "3001" ++ cr) [] 2 Faulted (codes "? " ++ cr ++ cr ++ codes "!1 AT 20" ++ cr)
goto_above = (refl, refl)

-- line 0
goto_zero : Sends long_program 1 (codes "0" ++ cr) [] 2 Faulted (codes "? " ++ cr ++ cr ++ codes "!1 AT 20" ++ cr)
goto_zero = (refl, refl)

-- line -1
goto_minus_one : Sends long_program 1 (codes "-1" ++ cr) [] 2 Faulted (codes "? " ++ cr ++ cr ++ codes "!1 AT 20" ++ cr)
goto_minus_one = (refl, refl)

-- 10 PRINT "A"; / 20 GOTO 10, which doesn't end: ten lines send five letters
endless : sent_by (source_run (line 10 (Print (Text (codes "A") ∷ []) false) ∷ line 20 (Goto (Number 10)) ∷ []) 1 [] [] 10) ≡ codes "AAAAA"
endless = refl

-- 1+(1+( .. 1 .. )), this many parentheses deep
abbrev nested : ℕ → Expression
nested zero = Number 1
nested (suc k) = Binary Add (Number 1) (nested k)

-- ((( .. 1+1)+1) .. +1), this many parentheses deep
abbrev nested_left : ℕ → Expression
nested_left zero = Number 1
nested_left (suc k) = Binary Add (nested_left k) (Number 1)

accepted : too_deep (line 10 (Print (Value (nested 15) ∷ []) true) ∷ line 20 End ∷ []) ≡ None
accepted = refl

refused : too_deep (line 10 (Print (Value (nested 16) ∷ []) true) ∷ line 20 End ∷ []) ≡ Some 10
refused = refl

two_sides : too_deep (line 10 (If (nested 15) Eq (nested 15) End) ∷ []) ≡ None
two_sides = refl

left_needs_two : need (nested_left 40) ≡ 2
left_needs_two = refl

-- 2+3*4 has the code of 14, and 10*3 is a direct jump
folded : program_code (line 10 (Print (Value (Binary Add (Number 2) (Binary Multiply (Number 3) (Number 4))) ∷ []) true) ∷ [])
    ≡ program_code (line 10 (Print (Value (Number 14) ∷ []) true) ∷ [])
folded = refl

direct : program_code (line 10 (Goto (Binary Multiply (Number 10) (Number 3))) ∷ []) ≡ record { number = 10; content = slots.Poll ∷ slots.JumpTo 30 ∷ [] } ∷ []
direct = refl

-- 1 PRINT "" and lines 2 to 1050 END; then with "A"; then lines 100 to 299, each PRINT of a text of 240 letters
cost_at_limit : cost (line 1 (Print (Text [] ∷ []) true) ∷ repeated 1049 2 1 End []) ≡ 37888
cost_at_limit = refl

cost_above_limit : cost (line 1 (Print (Text (codes "A") ∷ []) true) ∷ repeated 1049 2 1 End []) ≡ 37889
cost_above_limit = refl

cost_of_texts : cost (repeated 200 100 1 (Print (Text (replicate 240 65) ∷ []) true) []) ≡ 60064
cost_of_texts = refl

-- What each request leads to.
use Rattle.std.proofs.Common.{codes, ◌≡◌, ℕ, Bool, max, drop, true, false, ◌&&◌, List, [], ◌∷◌, ◌++◌, length, Some, None, Option, Result, Ok, Err, inl, inr, refl, sym, ap, subst, ◌∙◌}
use Rattle.serde_json.specs.Data.{Data}
use Rattle.tb_dap_messages.specs.Refusals.{text_of}
use Rattle.tb_dap_messages.specs.declared.refusals.Refusal.{Refusal}
use Rattle.tb_dap_messages.specs.declared.refusals.Refusal.TheVariants as refusal
use Rattle.tb_dap_values.specs.Arguments.{number_in, text_in}
use Rattle.tb_dap_values.specs.declared.requests.Command.{Command}
use Rattle.tb_dap_values.specs.declared.requests.Command.TheVariants as command
use Rattle.tb_dap_values.specs.declared.requests.Movement.{Movement}
use Rattle.tb_dap_values.specs.declared.requests.Movement.TheVariants as movement
use Rattle.tb_dap_views.specs.Evaluation.{seen as value_seen}
use Rattle.tb_dap_views.specs.Scopes.{scope_of}
use Rattle.tb_dap_views.specs.Sources.{is_same_file}
use Rattle.tb_dap_views.specs.declared.code.CodeRange.{CodeRange}
use Rattle.tb_dap_views.specs.declared.sources.SourceFile.{SourceFile}
use Rattle.tb_debug.specs.Debuggers.{KeepsRun, KeepsRunTyped}
use Rattle.tb_debug.specs.declared.causes.Cause.{Cause}
use Rattle.tb_debug.specs.declared.causes.Cause.TheVariants as cause
use Rattle.tb_debug.specs.declared.debugger.Debugger.{Debugger}
use Rattle.tb_engine_play.specs.Lines.{keys_of_text}
use Rattle.tb_engine_streams.specs.HostForm.{host_form_of}
use Rattle.tb_words.specs.declared.Letter.{Letter}
use Rattle.tb_dap_requests.specs.Asking.{Evaluation, bad, code_by, expression, memory_by, needed, place_in, question_in, range_in, stack_by, typed, variables_by, watchable_by, with_body}
use Rattle.tb_dap_requests.specs.Said.{Saying, done, refused}
use Rattle.tb_dap_adapter.specs.Sessions.{Begins, BeginsAt, BeginsBy, EndsForGood, Evaluates, GoesOnOrEnds, Moves, MovesTo, PlacesAsked, PlacesIn, Resumes, Stays, TakesBy, TakesKeys, Takes, TypesLine, WatchesAsked, Breaks, Terminates, Watches, barred_move, barred_start, begun, by_instruction, cause_here, end_of, has_events, is_over, look, movement_answer, resumed, status_of, typed_and_continued, valued, waits}
use Rattle.tb_dap_requests.specs.Setting.{Asked, breakpoints_in, watches_in}
use Rattle.tb_dap_requests.specs.Stops.{leads_back}
use Rattle.tb_dap_adapter.specs.declared.session.Session.{Session}
use Rattle.tb_dap_adapter.specs.declared.session.Stage.{Stage}
use Rattle.tb_dap_adapter.specs.declared.session.Stage.TheVariants.{Loaded, Started, Terminated}
use Rattle.tb_dap_stopped.specs.Told.{AreStopsOf, has_rest, keys_at, keys_by, keys_for, keys_unless, output_in}
use Rattle.tb_dap_stopped.proofs.Effects.{IsPlain, Leads, Rests, goes_ahead, goes_behind, stays_on, stops_there, typed_on, untyped}

-- ── answers ──
-- an answer is no event
data IsAnswer : Saying → Type 0 where
  with_value : (body : Option Data) → IsAnswer (done body)
  with_refusal : (why : List ℕ) (is_shown : Bool) → IsAnswer (refused why is_shown)

one_plain : (one : Saying) → IsAnswer one → IsPlain (one ∷ [])
one_plain _ (with_value body) = record { silent = refl; restless = refl; stopless = λ d. (tt, tt) }
one_plain _ (with_refusal why is_shown) = record { silent = refl; restless = refl; stopless = λ d. (tt, tt) }

-- nothing changes, and this is said
pub stays : (s t : Session) (told : List Saying) → IsPlain told → t ≡ s → Leads [] told s t
stays s t told plain same = record {
  run = untyped s.debugger t.debugger (stays_on s.debugger t.debugger (ap (λ x. x.debugger) same));
  stops = plain.stopless t.debugger;
  output = inr (
      record {
        silent = plain.silent;
        shown = ap (λ x. x.debugger.shown) same;
        events = ap (λ x. x.debugger.present.events) same;
        stage = λ started. sym (ap (λ x. x.stage) same) ∙ started;
        rests = inl plain.restless;
      }
      );
}

stays_so : (s t : Session) (one : Saying) (told : List Saying) → IsAnswer one → Stays s one told t → Leads [] told s t
stays_so s t one told answer h = stays s t told (subst IsPlain (sym h.said) (one_plain one answer)) h.now

refuses : (s t : Session) (why : Refusal) (told : List Saying) → Stays s (refused (text_of why) false) told t → Leads [] told s t
refuses s t why told h = stays_so s t _ told (with_refusal (text_of why) false) h

-- ── what is looked at ──
with_a_body : (body : Option Data) → IsAnswer (with_body body)
with_a_body (Some body) = with_value (Some body)
with_a_body None = with_refusal _ false

stack_answers : (f : SourceFile) (d : Debugger) (start levels : Option ℕ) → IsAnswer (stack_by f d start levels)
stack_answers f d (Some start) (Some levels) = with_value _
stack_answers f d (Some start) None = with_refusal _ false
stack_answers f d None (Some levels) = with_refusal _ false
stack_answers f d None None = with_refusal _ false

variables_answer : (d : Debugger) (scope : Option ℕ) → IsAnswer (variables_by d scope)
variables_answer d (Some scope) = with_a_body (scope_of d scope)
variables_answer d None = with_refusal _ false

memory_answers : (d : Debugger) (place : Option (Option ℕ)) (count : Option ℕ) → IsAnswer (memory_by d place count)
memory_answers d (Some place) (Some count) = with_value _
memory_answers d (Some place) None = with_refusal _ false
memory_answers d None (Some count) = with_refusal _ false
memory_answers d None None = with_refusal _ false

code_answers : (f : SourceFile) (d : Debugger) (range : Option CodeRange) → IsAnswer (code_by f d range)
code_answers f d (Some range) = with_value _
code_answers f d None = with_refusal _ false

watchable_answers : (name : Option (List ℕ)) (scope : Option ℕ) → IsAnswer (watchable_by name scope)
watchable_answers (Some name) (Some scope) = with_value _
watchable_answers (Some name) None = with_refusal _ false
watchable_answers None (Some scope) = with_refusal _ false
watchable_answers None None = with_refusal _ false

looks : (c : Command) (a : Data) (s : Session) → IsAnswer (look c a s)
looks command.Threads a s = with_value _
looks command.StackTrace a s = stack_answers s.file s.debugger (number_in a (codes "startFrame") 0) (number_in a (codes "levels") 0)
looks command.Scopes a s = with_value _
looks command.Variables a s = variables_answer s.debugger (number_in a (codes "variablesReference") 0)
looks command.ReadMemory a s = memory_answers s.debugger (place_in a) (needed a (codes "count"))
looks command.Disassemble a s = code_answers s.file s.debugger (range_in a)
looks command.DataBreakpointInfo a s = watchable_answers (text_in a (codes "name")) (number_in a (codes "variablesReference") 0)
looks command.Initialize a s = with_value None
looks command.Launch a s = with_value None
looks command.ConfigurationDone a s = with_value None
looks command.Disconnect a s = with_value None
looks command.Terminate a s = with_value None
looks command.Pause a s = with_value None
looks (command.Move m) a s = with_value None
looks command.SetBreakpoints a s = with_value None
looks command.SetDataBreakpoints a s = with_value None
looks command.SetExceptionBreakpoints a s = with_value None
looks command.Evaluate a s = with_value None
looks command.Change a s = with_value None

-- ── movements ──
-- a run that moved
moved : (s t : Session) (told : List Saying) → KeepsRun s.debugger t.debugger × AreStopsOf t.debugger told × Rests told s t → Leads [] told s t
moved s t told (run, stops, rests) = record { run = untyped s.debugger t.debugger run; stops = stops; output = inl rests }

movement_plain : (m : Movement) → IsPlain (movement_answer m ∷ [])
movement_plain movement.Continue = one_plain _ (with_value _)
movement_plain movement.StepIn = one_plain _ (with_value None)
movement_plain movement.Next = one_plain _ (with_value None)
movement_plain movement.StepOut = one_plain _ (with_value None)
movement_plain movement.StepBack = one_plain _ (with_value None)
movement_plain movement.ReverseContinue = one_plain _ (with_value None)

-- a run that has ended ends for good
ends : (s t : Session) (one : Saying) (told : List Saying) → IsAnswer one → s.stage ≡ Started → EndsForGood s (one ∷ []) told t → Leads [] told s t
ends s t one told answer started h = record {
  run = untyped s.debugger t.debugger (stays_on s.debugger t.debugger (ap (λ x. x.debugger) h.now));
  stops = subst (AreStopsOf t.debugger) (sym h.said) (go_stops one answer t.debugger);
  output = inr (
      record {
        silent = ap output_in h.said ∙ go_silent one answer;
        shown = ap (λ x. x.debugger.shown) h.now;
        events = ap (λ x. x.debugger.present.events) h.now;
        stage = λ again. started;
        rests = inr started;
      }
      );
}
  where
    go_stops : (one : Saying) → IsAnswer one → (d : Debugger) → AreStopsOf d ((one ∷ []) ++ end_of (status_of s))
    go_stops _ (with_value body) d = (tt, (tt, (tt, tt)))
    go_stops _ (with_refusal why is_shown) d = (tt, (tt, (tt, tt)))

    go_silent : (one : Saying) → IsAnswer one → output_in ((one ∷ []) ++ end_of (status_of s)) ≡ []
    go_silent _ (with_value body) = refl
    go_silent _ (with_refusal why is_shown) = refl

is_answered : (m : Movement) → IsAnswer (movement_answer m)
is_answered movement.Continue = with_value _
is_answered movement.StepIn = with_value None
is_answered movement.Next = with_value None
is_answered movement.StepOut = with_value None
is_answered movement.StepBack = with_value None
is_answered movement.ReverseContinue = with_value None

goes_or_ends : (over : Bool) (m : Movement) (events : Bool) (s t : Session) (told : List Saying) → s.stage ≡ Started
    → GoesOnOrEnds over m events s (movement_answer m ∷ []) told t → Leads [] told s t
goes_or_ends true m events s t told started h = ends s t (movement_answer m) told (is_answered m) started h
goes_or_ends false m events s t told started h = moved s t told (goes_ahead s t (movement_answer m ∷ []) told (movement_plain m) m events h)

moves_to : (back : Bool) (m : Movement) (events : Bool) (s t : Session) (told : List Saying) → s.stage ≡ Started
    → MovesTo back m events s (movement_answer m ∷ []) told t → Leads [] told s t
moves_to true m events s t told started h = moved s t told (goes_behind s t (movement_answer m ∷ []) told (movement_plain m) m h)
moves_to false m events s t told started h = goes_or_ends (is_over (status_of s)) m events s t told started h

moves : (instructions : Option Bool) (m : Movement) (s t : Session) (told : List Saying) → s.stage ≡ Started → Moves instructions m s told t → Leads [] told s t
moves (Some instructions) m s t told started h = moves_to (leads_back m) m (instructions && has_events m) s t told started h
moves None m s t told started h = stays_so s t bad told (with_refusal _ false) h

-- ── the beginning ──
begins_by : (c : Option Cause) (s t : Session) (told : List Saying) → BeginsBy c s (done None ∷ []) told t
    → KeepsRun s.debugger t.debugger × AreStopsOf t.debugger told × Rests told s t
begins_by (Some (cause.Breakpoint line)) s t told h = stops_there s t (done None ∷ []) told (one_plain _ (with_value None)) _ h
begins_by (Some (cause.Watch letter)) s t told h = goes_ahead s t (done None ∷ []) told (one_plain _ (with_value None)) movement.Continue false h
begins_by None s t told h = goes_ahead s t (done None ∷ []) told (one_plain _ (with_value None)) movement.Continue false h

begins_at : (entry : Bool) (s t : Session) (told : List Saying) → BeginsAt entry s (done None ∷ []) told t
    → KeepsRun s.debugger t.debugger × AreStopsOf t.debugger told × Rests told s t
begins_at true s t told h = stops_there s t (done None ∷ []) told (one_plain _ (with_value None)) _ h
begins_at false s t told h = begins_by (cause_here s) s t told h

begins : (plain : Bool) (s t : Session) (told : List Saying) → Begins plain s (done None ∷ []) told t
    → KeepsRun s.debugger t.debugger × AreStopsOf t.debugger told × Rests told s t
begins true s t told h = goes_ahead s t (done None ∷ []) told (one_plain _ (with_value None)) movement.Continue false h
begins false s t told h = begins_at s.plan.stops_on_entry s t told h

starts : (s t : Session) (told : List Saying) → Begins s.plan.is_plain (begun s) (done None ∷ []) told t → Leads [] told s t
starts s t told h =
    let (run, stops, rests) = begins s.plan.is_plain (begun s) t told h in
    record { run = untyped s.debugger t.debugger run; stops = stops; output = inl (record { output = rests.output; rests = rests.rests; shown = rests.shown }) }

-- ── typing ──
both_plain : IsPlain typed_and_continued
both_plain = record { silent = refl; restless = refl; stopless = λ d. (tt, (tt, tt)) }

resumes : (waited : Bool) (keys : List ℕ) (s u t : Session) (told : List Saying) → s.stage ≡ Started → KeepsRunTyped keys s.debugger u.debugger
    → u.debugger.shown ≡ s.debugger.shown → u.debugger.present.events ≡ s.debugger.present.events → Resumes waited u told t → Leads keys told s t
resumes true keys s u t told started run shown events h =
    let (on, stops, rests) = goes_ahead u t typed_and_continued told both_plain (resumed u.steps) false h in
    record {
      run = typed_on keys s.debugger u.debugger t.debugger run on;
      stops = stops;
      output = inl (
          record {
            output = rests.output ∙ ap (λ n. host_form_of (drop n t.debugger.present.machine.sent)) shown;
            rests = rests.rests;
            shown = rests.shown ∙ ap (λ n. max n (length t.debugger.present.machine.sent)) shown;
          }
          );
    }
resumes false keys s u t told started run shown events h =
    let same = ap (λ x. x.debugger) h.now in
    let plain = subst IsPlain (sym h.said) (one_plain _ (with_value _)) in
    record {
      run = subst (λ d. KeepsRunTyped keys s.debugger d) (sym same) run;
      stops = plain.stopless t.debugger;
      output = inr (
          record {
            silent = plain.silent;
            shown = ap (λ d. d.shown) same ∙ shown;
            events = ap (λ d. d.present.events) same ∙ events;
            stage = λ again. started;
            rests = inl plain.restless;
          }
          );
    }

takes_keys : (much : Bool) (keys : List ℕ) (s t : Session) (told : List Saying) → s.stage ≡ Started → TakesKeys much keys s told t
    → Leads (keys_unless much keys) told s t
takes_keys true keys s t told started h = refuses s t refusal.TooMuchTyped told h
takes_keys false keys s t told started (u, types, h) =
    resumes (waits (status_of s)) keys s u t told started types.run types.shown types.point h

types_line : (why : Option Refusal) (line : List ℕ) (s t : Session) (told : List Saying) → (why ≡ None → s.stage ≡ Started) → TypesLine why line s told t
    → Leads (keys_at why line s) told s t
types_line (Some why) line s t told started h = refuses s t why told h
types_line None line s t told started h = takes_keys _ (keys_of_text line) s t told (started refl) h

is_started : (stage : Stage) → barred_move stage ≡ None → stage ≡ Started
is_started Loaded e = cc
is_started Started e = refl
is_started Terminated e = cc

value_answers : (r : Result Data (List ℕ)) → IsAnswer (valued r)
value_answers (Ok body) = with_value (Some body)
value_answers (Err why) = with_refusal why false

evaluates : (question : Option Evaluation) (s t : Session) (told : List Saying) → Evaluates question s told t → Leads (keys_by question s) told s t
evaluates (Some (typed line)) s t told h = types_line (barred_move s.stage) line s t told (is_started s.stage) h
evaluates (Some (expression text)) s t told (e, value, h) = stays_so s t (valued (value_seen e)) told (value_answers (value_seen e)) h
evaluates None s t told h = stays_so s t bad told (with_refusal _ false) h

-- ── breakpoints and watches ──
-- only what stops a run was set
sets : (s t : Session) (one : Saying) (told : List Saying) → IsAnswer one → told ≡ one ∷ [] → t.debugger ≡ record s.debugger { stops = t.debugger.stops }
    → t ≡ record s { debugger = t.debugger } → Leads [] told s t
sets s t one told answer said only others =
    let plain = subst IsPlain (sym said) (one_plain one answer) in
    let keeps : KeepsRun s.debugger t.debugger = subst (λ d. KeepsRun s.debugger d) (sym only) (refl, refl, λ start on. on) in
    record {
      run = untyped s.debugger t.debugger keeps;
      stops = plain.stopless t.debugger;
      output = inr (
          record {
            silent = plain.silent;
            shown = ap (λ d. d.shown) only;
            events = ap (λ d. d.present.events) only;
            stage = λ started. sym (ap (λ x. x.stage) others) ∙ started;
            rests = inl plain.restless;
          }
          );
    }

breaks : (plain : Bool) (lines : List ℕ) (s t : Session) (one : Saying) (told : List Saying) → IsAnswer one → told ≡ one ∷ [] → Breaks plain lines s t
    → Leads [] told s t
breaks true lines s t one told answer said same = stays s t told (subst IsPlain (sym said) (one_plain one answer)) same
breaks false lines s t one told answer said (set, others) = sets s t one told answer said set.4 others

places_in : (same : Bool) (a : Asked) (s t : Session) (told : List Saying) → PlacesIn same a s told t → Leads [] told s t
places_in true a s t told h = breaks s.plan.is_plain _ s t _ told (with_value _) h.said h.set
places_in false a s t told h = stays_so s t _ told (with_value _) h

places : (a : Option Asked) (s t : Session) (told : List Saying) → PlacesAsked a s told t → Leads [] told s t
places (Some a) s t told h = places_in (is_same_file a.path s.file.path.now) a s t told h
places None s t told h = stays_so s t bad told (with_refusal _ false) h

watches : (plain : Bool) (letters : List Letter) (s t : Session) (one : Saying) (told : List Saying) → IsAnswer one → told ≡ one ∷ [] → Watches plain letters s t
    → Leads [] told s t
watches true letters s t one told answer said same = stays s t told (subst IsPlain (sym said) (one_plain one answer)) same
watches false letters s t one told answer said (set, others) = sets s t one told answer said set.3 others

watches_asked : (indices : Option (List (Option ℕ))) (s t : Session) (told : List Saying) → WatchesAsked indices s told t → Leads [] told s t
watches_asked (Some indices) s t told (letters, named, h) = watches s.plan.is_plain _ s t _ told (with_value _) h.said h.set
watches_asked None s t told h = stays_so s t bad told (with_refusal _ false) h

-- ── requests ──
terminates : (s t : Session) (told : List Saying) → Terminates s told t → Leads [] told s t
terminates s t told h = record {
  run = untyped s.debugger t.debugger (stays_on s.debugger t.debugger (ap (λ x. x.debugger) h.now));
  stops = subst (AreStopsOf t.debugger) (sym h.said) (tt, (tt, tt));
  output = inr (
      record {
        silent = ap output_in h.said;
        shown = ap (λ x. x.debugger.shown) h.now;
        events = ap (λ x. x.debugger.present.events) h.now;
        stage = λ started. let never : Terminated ≡ Started = sym (ap (λ x. x.stage) h.now) ∙ started in absurd (cc);
        rests = inl (ap has_rest h.said);
      }
      );
}

-- a movement at a stage
moves_at : (stage : Stage) (m : Movement) (a : Data) (s t : Session) (told : List Saying) → s.stage ≡ stage
    → TakesBy (barred_move stage) (Some (command.Move m)) a s told t → Leads [] told s t
moves_at Loaded m a s t told is h = refuses s t refusal.NotStarted told h
moves_at Started m a s t told is h = moves (by_instruction a) m s t told is h
moves_at Terminated m a s t told is h = refuses s t refusal.Terminated told h

-- the beginning of a run at a stage
starts_at : (stage : Stage) (a : Data) (s t : Session) (told : List Saying) → TakesBy (barred_start stage) (Some command.ConfigurationDone) a s told t
    → Leads [] told s t
starts_at Loaded a s t told h = starts s t told h
starts_at Started a s t told h = refuses s t refusal.Started told h
starts_at Terminated a s t told h = refuses s t refusal.Started told h

looks_so : (c : Command) (a : Data) (s t : Session) (told : List Saying) → Stays s (look c a s) told t → Leads [] told s t
looks_so c a s t told h = stays_so s t (look c a s) told (looks c a s) h

pub takes : (c : Option Command) (a : Data) (s t : Session) (told : List Saying) → Takes c a s told t → Leads (keys_for c a s) told s t
takes None a s t told h = refuses s t refusal.UnknownCommand told h
takes (Some command.Initialize) a s t told h = refuses s t refusal.Initialized told h
takes (Some command.Launch) a s t told h = refuses s t refusal.Launched told h
takes (Some command.Change) a s t told h = refuses s t refusal.NoChange told h
takes (Some command.ConfigurationDone) a s t told h = starts_at s.stage a s t told h
takes (Some (command.Move m)) a s t told h = moves_at s.stage m a s t told refl h
takes (Some command.Terminate) a s t told h = terminates s t told h
takes (Some command.Evaluate) a s t told h = evaluates (question_in a) s t told h
takes (Some command.SetBreakpoints) a s t told h = places (breakpoints_in a) s t told h
takes (Some command.SetDataBreakpoints) a s t told h = watches_asked (watches_in a) s t told h
takes (Some command.Disconnect) a s t told h = looks_so command.Disconnect a s t told h
takes (Some command.Pause) a s t told h = looks_so command.Pause a s t told h
takes (Some command.DataBreakpointInfo) a s t told h = looks_so command.DataBreakpointInfo a s t told h
takes (Some command.SetExceptionBreakpoints) a s t told h = looks_so command.SetExceptionBreakpoints a s t told h
takes (Some command.Threads) a s t told h = looks_so command.Threads a s t told h
takes (Some command.StackTrace) a s t told h = looks_so command.StackTrace a s t told h
takes (Some command.Scopes) a s t told h = looks_so command.Scopes a s t told h
takes (Some command.Variables) a s t told h = looks_so command.Variables a s t told h
takes (Some command.ReadMemory) a s t told h = looks_so command.ReadMemory a s t told h
takes (Some command.Disassemble) a s t told h = looks_so command.Disassemble a s t told h

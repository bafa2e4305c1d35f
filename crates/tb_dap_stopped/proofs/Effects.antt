-- What a frame leads to: the keys that are typed, the stops that are told, and what is told of the program's output.
use Rattle.std.proofs.Common.{◌≡◌, ◌⊎◌, ℕ, Bool, true, false, ◌||◌, ◌==◌, max, List, [], ◌∷◌, ◌++◌, drop, length, refl, sym, ap, subst, ◌∙◌, if◌then◌else◌, append-nil, append_assoc}
use Rattle.std.proofs.lemmas.List.{nil_from_length}
use Rattle.std.proofs.lemmas.Bool.{eqb-true}
use Rattle.tb_dap_values.specs.declared.requests.Movement.{Movement}
use Rattle.tb_debug.specs.Debuggers.{KeepsRun, KeepsRunTyped, OnRun}
use Rattle.tb_debug.specs.Runs.{Point, typed as typed_to}
use Rattle.tb_debug.specs.declared.debugger.Debugger.{Debugger}
use Rattle.tb_kernal.specs.declared.status.Status.{Status}
use Rattle.tb_editor_navigation.specs.Remarks.{shown}
use Rattle.tb_engine_streams.specs.HostForm.{host_form_of}
use Rattle.tb_dap_requests.specs.Said.{Saying}
use Rattle.tb_dap_adapter.specs.Sessions.{GoesBack, GoesOn, Settles, all_told, end_of, ends_at_once, fresh_output, noted, output_by as output_of_bytes, sent_output, settled, settled_told, status_of, stop_told}
use Rattle.tb_dap_adapter.specs.declared.session.Session.{Session}
use Rattle.tb_dap_adapter.specs.declared.session.Stage.TheVariants.{Started, Terminated}
use Rattle.tb_dap_requests.specs.declared.stops.Stop.{Stop}
use Rattle.tb_dap_requests.specs.Stops.{stop_of}
use Rattle.tb_dap_stopped.specs.Told.{AreStopsOf, has_rest, is_rest, output_by, output_in}
use Rattle.tb_dap_stopped.proofs.Shown.{shown_form}

-- ── what is said ──
-- nothing of a stop, and nothing of output
pub record IsPlain (told : List Saying) : Type 0 where
  pub silent : output_in told ≡ []
  pub restless : has_rest told ≡ false
  pub stopless : (d : Debugger) → AreStopsOf d told

-- all that was sent was told before, or is told now, and the run rests
pub record Rests (told : List Saying) (s t : Session) : Type 0 where
  pub output : output_in told ≡ host_form_of (drop s.debugger.shown t.debugger.present.machine.sent)
  pub rests : has_rest told ≡ true
  pub shown : t.debugger.shown ≡ max s.debugger.shown (length t.debugger.present.machine.sent)

-- the run rests where it was, or it is not said that it rests; nothing is told of output
pub record Keeps (told : List Saying) (s t : Session) : Type 0 where
  pub silent : output_in told ≡ []
  pub shown : t.debugger.shown ≡ s.debugger.shown
  pub events : t.debugger.present.events ≡ s.debugger.present.events
  pub stage : t.stage ≡ Started → s.stage ≡ Started
  pub rests : (has_rest told ≡ false) ⊎ (s.stage ≡ Started)

-- what a frame leads to
pub record Leads (keys : List ℕ) (told : List Saying) (s t : Session) : Type 0 where
  pub run : KeepsRunTyped keys s.debugger t.debugger
  pub stops : AreStopsOf t.debugger told
  pub output : Rests told s t ⊎ Keeps told s t

-- ── lists of what is said ──
pub output_append : (xs ys : List Saying) → output_in (xs ++ ys) ≡ output_in xs ++ output_in ys
output_append [] ys = refl
output_append (x ∷ xs) ys = ap (λ rest. output_by x ++ rest) (output_append xs ys) ∙ sym (append_assoc (output_by x) (output_in xs) (output_in ys))

-- what holds of the rest holds of all, if nothing holds here
after_none : (here rest more wanted : Bool) → (here || rest) ≡ false → (rest ≡ false → more ≡ wanted) → (here || more) ≡ wanted
after_none true rest more wanted never later = absurd (cc)
after_none false rest more wanted none later = later none

pub rest_append : (xs ys : List Saying) → has_rest xs ≡ false → has_rest (xs ++ ys) ≡ has_rest ys
rest_append [] ys none = refl
rest_append (x ∷ xs) ys none = after_none (is_rest x) (has_rest xs) (has_rest (xs ++ ys)) (has_rest ys) none (rest_append xs ys)

pub stops_append : (d : Debugger) (xs ys : List Saying) → AreStopsOf d xs → AreStopsOf d ys → AreStopsOf d (xs ++ ys)
stops_append d [] ys h g = g
stops_append d (x ∷ xs) ys (one, rest) g = (one, stops_append d xs ys rest g)

-- ── where a run stops ──
-- what tells that a run has ended tells no stop, and nothing of output
end_plain : (s : Status) (d : Debugger) → (output_in (end_of s) ≡ []) × (has_rest (end_of s) ≡ true) × AreStopsOf d (end_of s)
end_plain s d = (refl, refl, (tt, (tt, tt)))

-- a stop tells itself
stop_plain : (why : Stop) (d : Debugger) → (output_in (stop_of why d ∷ []) ≡ []) × (has_rest (stop_of why d ∷ []) ≡ true) × AreStopsOf d (stop_of why d ∷ [])
stop_plain why d = (refl, refl, ((why, refl), tt))

rest_told : (why : Stop) (s : Session) → (output_in (stop_told why s) ≡ []) × (has_rest (stop_told why s) ≡ true) × AreStopsOf s.debugger (stop_told why s)
rest_told why s = go (ends_at_once s)
  where
    told : Bool → List Saying
    told b = if b then end_of (status_of s) else stop_of why s.debugger ∷ []

    go : (b : Bool) → (output_in (told b) ≡ []) × (has_rest (told b) ≡ true) × AreStopsOf s.debugger (told b)
    go true = end_plain (status_of s) s.debugger
    go false = stop_plain why s.debugger

-- what was sent is told
sent_told : (bytes : List ℕ) → output_in (output_of_bytes bytes) ≡ host_form_of bytes
sent_told bytes = go (length bytes == 0) refl
  where
    go : (none : Bool) → (length bytes == 0) ≡ none → output_in (if none then [] else sent_output bytes ∷ []) ≡ host_form_of bytes
    go true e = sym (ap host_form_of (nil_from_length bytes (eqb-true (length bytes) 0 e)))
    go false e = append-nil (shown (host_form_of bytes)) ∙ shown_form bytes

sent_restless : (bytes : List ℕ) → has_rest (output_of_bytes bytes) ≡ false
sent_restless bytes = go (length bytes == 0)
  where
    go : (none : Bool) → has_rest (if none then [] else sent_output bytes ∷ []) ≡ false
    go true = refl
    go false = refl

sent_stopless : (d : Debugger) (bytes : List ℕ) → AreStopsOf d (output_of_bytes bytes)
sent_stopless d bytes = go (length bytes == 0)
  where
    go : (none : Bool) → AreStopsOf d (if none then [] else sent_output bytes ∷ [])
    go true = tt
    go false = (tt, tt)

-- a run that stops has the debugger that it had, all of whose output is told
same_debugger : (s : Session) → (settled s).debugger ≡ (all_told s).debugger
same_debugger s = go (ends_at_once (all_told s))
  where
    go : (b : Bool) → (if b then record (all_told s) { stage = Terminated } else all_told s).debugger ≡ (all_told s).debugger
    go true = refl
    go false = refl

-- what is told where a run stops
pub settles : (why : Stop) (s t : Session) (before told : List Saying) → IsPlain before → Settles why s before told t
    → Rests told s t × AreStopsOf t.debugger told × (t.debugger ≡ (all_told s).debugger)
settles why s t before told plain h =
    let same : t.debugger ≡ (all_told s).debugger = ap (λ x. x.debugger) h.now ∙ same_debugger s in
    let bytes = drop s.debugger.shown s.debugger.present.machine.sent in
    let (silent, rests, stops) = rest_told why (all_told s) in
    let all : output_in (before ++ settled_told why s) ≡ host_form_of bytes =
    output_append before (settled_told why s) ∙ ap (λ xs. xs ++ output_in (settled_told why s)) plain.silent
    ∙ output_append (fresh_output s) (stop_told why (all_told s)) ∙ ap (λ xs. output_in (fresh_output s) ++ xs) silent
    ∙ append-nil (output_in (fresh_output s)) ∙ sent_told bytes in
    let here : AreStopsOf (all_told s).debugger (before ++ settled_told why s) =
    stops_append (all_told s).debugger before (settled_told why s) (plain.stopless (all_told s).debugger)
    (stops_append (all_told s).debugger (fresh_output s) (stop_told why (all_told s)) (sent_stopless (all_told s).debugger bytes) stops) in (
      record {
        output = ap output_in h.said ∙ all ∙ ap (λ d. host_form_of (drop s.debugger.shown d.present.machine.sent)) (sym same);
        rests = ap has_rest h.said ∙ rest_append before (settled_told why s) plain.restless
            ∙ rest_append (fresh_output s) (stop_told why (all_told s)) (sent_restless bytes) ∙ rests;
        shown = ap (λ d. d.shown) same ∙ ap (λ d. max s.debugger.shown (length d.present.machine.sent)) (sym same);
      },
      subst (λ d. AreStopsOf d told) (sym same) (subst (AreStopsOf (all_told s).debugger) (sym h.said) here),
      same,
    )

-- ── the run ──
-- no more keys
none_typed : (start : Point) → typed_to [] start ≡ start
none_typed start = ap (λ text. record start { state = record start.state { text = text } }) (append-nil start.state.text)

-- nothing but what is told of a debugger changes
pub told_keeps : (d : Debugger) (n : ℕ) → KeepsRun d (record d { shown = n })
told_keeps d n = (refl, refl, λ start on. on)

pub stays_on : (d e : Debugger) → e ≡ d → KeepsRun d e
stays_on d e same = subst (λ x. KeepsRun d x) (sym same) (refl, refl, λ start on. on)

pub goes_on : (d e f : Debugger) → KeepsRun d e → KeepsRun e f → KeepsRun d f
goes_on d e f one other = (other.0 ∙ one.0, other.1 ∙ one.1, λ start on. other.2 start (one.2 start on))

pub untyped : (d e : Debugger) → KeepsRun d e → KeepsRunTyped [] d e
untyped d e keeps = (keeps.0, keeps.1, λ start on. subst (λ p. OnRun p e) (sym (none_typed start)) (keeps.2 start on))

pub typed_on : (keys : List ℕ) (d e f : Debugger) → KeepsRunTyped keys d e → KeepsRun e f → KeepsRunTyped keys d f
typed_on keys d e f one other = (other.0 ∙ one.0, other.1 ∙ one.1, λ start on. other.2 (typed_to keys start) (one.2 start on))

-- ── movements ──
module _ (s t : Session) (before told : List Saying) (plain : IsPlain before) where
  -- a way ends in a stop
  way_ends : (there u : Session) (why : Stop) → KeepsRun s.debugger there.debugger → there.debugger.shown ≡ s.debugger.shown
      → u.debugger ≡ there.debugger → Settles why u before told t
      → KeepsRun s.debugger t.debugger × AreStopsOf t.debugger told × Rests told s t
  way_ends there u why run shown here stops =
      let (rests, are, same) = settles why u t before told plain stops in
      let from : u.debugger.shown ≡ s.debugger.shown = ap (λ d. d.shown) here ∙ shown in
      let told_all : KeepsRun u.debugger t.debugger =
      subst (KeepsRun u.debugger) (sym same) (told_keeps u.debugger (max u.debugger.shown (length u.debugger.present.machine.sent))) in (
        goes_on s.debugger there.debugger t.debugger run (subst (λ d. KeepsRun d t.debugger) here told_all),
        are,
        record {
          output = rests.output ∙ ap (λ n. host_form_of (drop n t.debugger.present.machine.sent)) from;
          rests = rests.rests;
          shown = rests.shown ∙ ap (λ n. max n (length t.debugger.present.machine.sent)) from;
        },
      )

  pub goes_ahead : (m : Movement) (events : Bool) → GoesOn m events s before told t
      → KeepsRun s.debugger t.debugger × AreStopsOf t.debugger told × Rests told s t
  goes_ahead m events h = way_ends h.there (noted m h.there) _ h.way.walked.run h.way.walked.shown refl h.stops

  pub goes_behind : (m : Movement) → GoesBack m s before told t
      → KeepsRun s.debugger t.debugger × AreStopsOf t.debugger told × Rests told s t
  goes_behind m h = way_ends h.there h.there _ h.way.walked.run h.way.walked.shown refl h.stops

  pub stops_there : (why : Stop) → Settles why s before told t → KeepsRun s.debugger t.debugger × AreStopsOf t.debugger told × Rests told s t
  stops_there why h = way_ends s s why (refl, refl, λ start on. on) refl refl h

-- What was told up to a moment of a dialogue.
use Rattle.std.proofs.Common.{◌≡◌, ◌⊎◌, ℕ, ◌≤◌, Bool, true, false, max, List, [], ◌∷◌, ◌++◌, take, drop, length, Some, None, Option, Result, Ok, Err, inl, inr, refl, sym, ap, subst, ◌∙◌, if◌then◌else◌, append-nil, append_assoc, arith}
use Rattle.std.proofs.lemmas.List.{drop_all, length-take, take-append-drop}
use Rattle.std.proofs.lemmas.Bool.Decides.{nat_tests}
use Rattle.std.specs.Io.KnownBytes.{Appends}
use Rattle.std.specs.Prelude.{◌≢◌, nat_le}
use Rattle.std.specs.declared.alloc.AllocError.{AllocError}
use Rattle.std.specs.declared.alloc.Global.{Global}
use Rattle.std.specs.declared.vec.Vec.{Vec}
use Rattle.serde_json.specs.View.{view}
use Rattle.tb_dap_messages.specs.Requests.{Asked, asked_in, no_message, passed, request}
use Rattle.tb_dap_messages.specs.declared.refusals.Refusal.{Refusal}
use Rattle.tb_dap_messages.specs.declared.refusals.Refusal.TheVariants.{NoJson, NoMessage, TooLarge}
use Rattle.tb_dap_values.specs.Requests.{command_of}
use Rattle.tb_compiled.specs.Compiled.{prg_of}
use Rattle.tb_debug.specs.Debuggees.{program_of}
use Rattle.tb_debug.specs.Debuggers.{OnRun}
use Rattle.tb_debug.specs.Runs.{Point, RunsUpTo, first_point, point_at, typed as typed_to}
use Rattle.tb_debug.specs.declared.rom.Rom.{Rom}
use Rattle.tb_debug.proofs.Running.{at_start, sent_before}
use Rattle.tb_debug.proofs.Sources.{shows_some}
use Rattle.tb_debug.proofs.Typing.{typed_at}
use Rattle.tb_engine_sources.specs.declared.reading.CompiledSource.{CompiledSource}
use Rattle.tb_engines.specs.Programs.{StartsContent, StartsPrg}
use Rattle.tb_kernal.specs.Machine.{State, state_of, status}
use Rattle.tb_kernal.specs.declared.machine.Machine.{Machine}
use Rattle.tb_kernal.specs.declared.status.Status.TheVariants.{Running, Waits}
use Rattle.tb_kernal.proofs.Typing.{status_kept}
use Rattle.tb_prg.specs.Prg.{content_of}
use Rattle.tb_prg.specs.declared.PrgError.{PrgError}
use Rattle.tb_basic_text.specs.declared.notation.Notation.{Notation}
use Rattle.tb_engine_streams.specs.HostForm.{host_form_of}
use Rattle.tb_editor_dialogue.specs.Dialogue.{Answers, Moment, Talks, Writes, more as goes_on, none as begins}
use Rattle.tb_editor_dialogue.specs.declared.hearing.Heard.{Heard}
use Rattle.tb_editor_dialogue.specs.declared.hearing.Heard.TheVariants as heard
use Rattle.tb_editor_dialogue.specs.declared.talking.Turn.{Turn}
use Rattle.tb_engine_streams.specs.declared.outcome.Done.{Done}
use Rattle.tb_dap_adapter.specs.Dialogue.{IsSession, TakesHeard, TakesMessage}
use Rattle.tb_dap_adapter.specs.Talking.{Says, given, silence}
use Rattle.tb_dap_adapter.specs.declared.dialogue.Debugging.{Debugging}
use Rattle.tb_dap_requests.specs.Said.{Saying, complaint_of, none as no_frames}
use Rattle.tb_dap_requests.specs.declared.launching.Plan.{Plan}
use Rattle.tb_dap_adapter.specs.declared.session.Session.{Session}
use Rattle.tb_dap_adapter.specs.declared.session.Stage.TheVariants.{Loaded, Started}
use Rattle.tb_dap_stopped.specs.Told.{IsWritten, SaysAsked, SaysTo, Tells, WhatIsToldIsOfTheRun, command_asked, has_rest, keys_asked, keys_of, more as tells_more, name_of, none, number_asked, number_of, output_in, rests_after, run_of, start_of}
use Rattle.tb_dap_stopped.proofs.Effects.{IsPlain, Keeps, Leads, Rests, output_append}
use Rattle.tb_dap_stopped.proofs.Requests.{stays, takes}
use Rattle.tb_dap_stopped.proofs.Shown.{form_append}

-- ── one frame ──
-- what was said was written
written_so : (asked : ℕ) (c : List ℕ) (told : List Saying) (frames : Option (Vec ℕ Global)) (next next' : ℕ) (old new : Option (List ℕ)) (wrote wrote' : ℕ)
    → Says asked c told frames next next' → Writes frames old new wrote wrote' → IsWritten asked c told next next' old new wrote wrote'
written_so asked c told None next next' old new wrote wrote' never unwritten = absurd never
written_so asked c told (Some frames) next next' old new wrote wrote' (are, counted) (appended, sound) = (frames.items, are, appended, sound, counted)

complaint_plain : (why : Refusal) → IsPlain (complaint_of why ∷ [])
complaint_plain why = record { silent = refl; restless = refl; stopless = λ d. (tt, tt) }

nothing_plain : IsPlain []
nothing_plain = record { silent = refl; restless = refl; stopless = λ d. tt }

nothing_added : (xs : Option (List ℕ)) → Appends xs xs []
nothing_added None = tt
nothing_added (Some xs) = sym (append-nil xs)

-- a silent turn
same_turn : (r : Result (Turn Done) AllocError) (x y : Turn Done) → r ≡ Ok x → r ≡ Ok y → x ≡ y
same_turn r x y a b = let is : Ok x ≡ Ok y = sym a ∙ b in cc

nothing_written : (next next' : ℕ) (old new : Option (List ℕ)) (wrote wrote' : ℕ) → next' ≡ next → Writes None old new wrote wrote'
    → IsWritten 0 [] [] next next' old new wrote wrote'
nothing_written next next' old new wrote wrote' same (is, sound) =
    ([], no_frames, subst (λ xs. Appends old xs []) (sym is) (nothing_added old), sound, omega (arith, same))

-- what is said to a message, and what that leads to
abbrev AskedLeads : Asked → Debugging → Debugging → (old new : Option (List ℕ)) → (wrote wrote_after : ℕ) → Type 0
AskedLeads q s t old new wrote wrote' =
    (one : List Saying) × SaysAsked q s.session one t.session × IsWritten (number_asked q) (command_asked q) one s.next t.next old new wrote wrote'
    × Leads (keys_asked q s.session) one s.session t.session

asked_leads : (q : Asked) (s t : Debugging) (turn : Turn Done) (old new : Option (List ℕ)) (wrote wrote' : ℕ) → TakesMessage q s (Ok turn) t
    → Writes turn.frames old new wrote wrote' → AskedLeads q s t old new wrote wrote'
asked_leads (request seq c arguments) s t turn old new wrote wrote' (told, takes_it, (says, end)) written = (
  told,
  takes_it,
  written_so seq c told turn.frames s.next t.next old new wrote wrote' says written,
  takes (command_of c) (given arguments) s.session t.session told takes_it,
)
asked_leads passed s t turn old new wrote wrote' (silent, same) written =
    let is : turn ≡ silence = same_turn (Ok turn) turn silence refl silent in (
      [],
      (refl, ap (λ d. d.session) same),
      nothing_written s.next t.next old new wrote wrote' (ap (λ d. d.next) same) (subst (λ x. Writes x.frames old new wrote wrote') is written),
      stays s.session t.session [] nothing_plain (ap (λ d. d.session) same),
    )
asked_leads no_message s t turn old new wrote wrote' ((says, end), same) written = (
  complaint_of NoMessage ∷ [],
  (refl, same),
  written_so 0 [] (complaint_of NoMessage ∷ []) turn.frames s.next t.next old new wrote wrote' says written,
  stays s.session t.session (complaint_of NoMessage ∷ []) (complaint_plain NoMessage) same,
)

-- what is said to what is heard, and what that leads to
abbrev HeardLeads : Heard → Debugging → Debugging → (old new : Option (List ℕ)) → (wrote wrote_after : ℕ) → Type 0
HeardLeads h s t old new wrote wrote' =
    (one : List Saying) × SaysTo h s.session one t.session × IsWritten (number_of h) (name_of h) one s.next t.next old new wrote wrote'
    × Leads (keys_of h s.session) one s.session t.session

heard_leads : (h : Heard) (s t : Debugging) (turn : Turn Done) (old new : Option (List ℕ)) (wrote wrote' : ℕ) → TakesHeard s h (Ok turn) t
    → Writes turn.frames old new wrote wrote' → HeardLeads h s t old new wrote wrote'
heard_leads (heard.Value v) s t turn old new wrote wrote' takes_it written = asked_leads (asked_in (view v)) s t turn old new wrote wrote' takes_it written
heard_leads heard.NoJson s t turn old new wrote wrote' ((says, end), same) written = (
  complaint_of NoJson ∷ [],
  (refl, same),
  written_so 0 [] (complaint_of NoJson ∷ []) turn.frames s.next t.next old new wrote wrote' says written,
  stays s.session t.session (complaint_of NoJson ∷ []) (complaint_plain NoJson) same,
)
heard_leads heard.TooLarge s t turn old new wrote wrote' ((says, end), same) written = (
  complaint_of TooLarge ∷ [],
  (refl, same),
  written_so 0 [] (complaint_of TooLarge ∷ []) turn.frames s.next t.next old new wrote wrote' says written,
  stays s.session t.session (complaint_of TooLarge ∷ []) (complaint_plain TooLarge) same,
)

-- ── numbers and lists ──
not_after : (a b : ℕ) → b ≤ a → max a b ≡ a
not_after a b few = omega (arith, few)

not_before : (a b : ℕ) → a ≤ b → max a b ≡ b
not_before a b few = omega (arith, few)

itself : (n : ℕ) → n ≤ n
itself n = omega arith

-- what is a beginning of a list is no longer
no_longer : (xs ys : List ℕ) → take (length xs) ys ≡ xs → length xs ≤ length ys
no_longer xs ys cut = omega (arith, length-take (length xs) ys, ap length cut)

grown : (xs ys : List ℕ) → take (length xs) ys ≡ xs → host_form_of xs ++ host_form_of (drop (length xs) ys) ≡ host_form_of ys
grown xs ys cut =
    sym (form_append xs (drop (length xs) ys)) ∙ ap (λ zs. host_form_of (zs ++ drop (length xs) ys)) (sym cut)
    ∙ ap host_form_of (take-append-drop (length xs) ys)

never_both : (s : State) → status s ≡ Running → status s ≢ Waits
never_both s runs waits = let no : Running ≡ Waits = sym runs ∙ waits in absurd (cc)

-- ── a dialogue ──
module _ (source : CompiledSource) (machine : Machine) (rom : Rom) (marks : List Bool) where
  abbrev on_keys : List ℕ → Point
  on_keys keys = run_of machine rom keys

  abbrev sent_after : List ℕ → ℕ → List ℕ
  sent_after keys n = (point_at marks (on_keys keys) n).state.sent

  -- how a session stands on whose run these keys were typed and this was said, and that rested after so many events at most
  record Stands (keys : List ℕ) (told : List Saying) (farthest : ℕ) (s : Session) : Type 0 where
    marked : s.debugger.starts ≡ marks
    program : program_of s.debugger.debuggee ≡ Some source.program
    run : OnRun (on_keys keys) s.debugger
    ran : RunsUpTo marks (on_keys keys) farthest
    output : output_in told ≡ host_form_of (sent_after keys farthest)
    shown : s.debugger.shown ≡ length (sent_after keys farthest)
    rested : s.stage ≡ Started → s.debugger.present.events ≤ farthest

  more_typed : (keys more : List ℕ) → typed_to more (on_keys keys) ≡ on_keys (keys ++ more)
  more_typed keys more =
      ap (λ text. record (on_keys keys) { state = record (on_keys keys).state { text = text } }) (append_assoc (state_of machine).text keys more)

  -- more keys change nothing up to where it ran
  typed_status : (keys more : List ℕ) (n : ℕ) → RunsUpTo marks (on_keys keys) n → RunsUpTo marks (on_keys (keys ++ more)) n
  typed_status keys more n ran k below =
      let s = (point_at marks (on_keys keys) k).state in
      ap (λ p. status (point_at marks p k).state) (sym (more_typed keys more))
      ∙ ap (λ p. status p.state) (typed_at marks (on_keys keys) more k (λ j before. ran j (omega (arith, before, below))))
      ∙ status_kept s more (never_both s (ran k below)) ∙ ran k below

  typed_sent : (keys more : List ℕ) (n : ℕ) → RunsUpTo marks (on_keys keys) n → sent_after (keys ++ more) n ≡ sent_after keys n
  typed_sent keys more n ran =
      ap (λ p. (point_at marks p n).state.sent) (sym (more_typed keys more)) ∙ ap (λ p. p.state.sent) (typed_at marks (on_keys keys) more n ran)

  module _ (keys more : List ℕ) (told one : List Saying) (farthest : ℕ) (s t : Session) (stands : Stands keys told farthest s) (leads : Leads more one s t) where
    marked_then : t.debugger.starts ≡ marks
    marked_then = leads.run.1 ∙ stands.marked

    run_then : OnRun (on_keys (keys ++ more)) t.debugger
    run_then = subst (λ p. OnRun p t.debugger) (more_typed keys more) (leads.run.2 (on_keys keys) stands.run)

    before : sent_after (keys ++ more) farthest ≡ sent_after keys farthest
    before = typed_sent keys more farthest stands.ran

    ran_then : RunsUpTo marks (on_keys (keys ++ more)) farthest
    ran_then = typed_status keys more farthest stands.ran

    -- where nothing new was told
    as_far : (n : ℕ) → n ≡ farthest → output_in (told ++ one) ≡ output_in told → t.debugger.shown ≡ s.debugger.shown
        → (t.stage ≡ Started → t.debugger.present.events ≤ farthest) → Stands (keys ++ more) (told ++ one) n t
    as_far n same silent shown rested = subst (λ k. Stands (keys ++ more) (told ++ one) k t) (sym same) (
        record {
          marked = marked_then;
          program = ap program_of leads.run.0 ∙ stands.program;
          run = run_then;
          ran = ran_then;
          output = silent ∙ stands.output ∙ ap host_form_of (sym before);
          shown = shown ∙ stands.shown ∙ ap length (sym before);
          rested = rested;
        }
        )

    kept : Keeps one s t → Stands (keys ++ more) (told ++ one) (max farthest (rests_after one t)) t
    kept keeps = as_far (max farthest (rests_after one t)) (go (has_rest one) keeps.rests)
        (output_append told one ∙ ap (λ xs. output_in told ++ xs) keeps.silent ∙ append-nil (output_in told)) keeps.shown
        (λ started. subst (λ n. n ≤ farthest) (sym keeps.events) (stands.rested (keeps.stage started)))
      where
        go : (rests : Bool) → (rests ≡ false) ⊎ (s.stage ≡ Started) → max farthest (if rests then t.debugger.present.events else 0) ≡ farthest
        go false why = omega arith
        go true (inl never) = absurd (cc)
        go true (inr started) = not_after farthest t.debugger.present.events (subst (λ n. n ≤ farthest) (sym keeps.events) (stands.rested started))

    module _ (rests : Rests one s t) where
      abbrev n : ℕ
      n = t.debugger.present.events

      sent_now : t.debugger.present.machine.sent ≡ sent_after (keys ++ more) n
      sent_now = ap (λ p. p.state.sent) run_then.of_run.stands ∙ ap (λ ms. (point_at ms (on_keys (keys ++ more)) n).state.sent) marked_then

      shown_before : s.debugger.shown ≡ length (sent_after (keys ++ more) farthest)
      shown_before = stands.shown ∙ ap length (sym before)

      told_now : output_in (told ++ one) ≡ host_form_of (sent_after (keys ++ more) farthest)
          ++ host_form_of (drop (length (sent_after (keys ++ more) farthest)) (sent_after (keys ++ more) n))
      told_now =
          output_append told one ∙ ap (λ xs. xs ++ output_in one) (stands.output ∙ ap host_form_of (sym before))
          ∙ ap (λ xs. host_form_of (sent_after (keys ++ more) farthest) ++ xs) (rests.output
          ∙ ap (λ k. host_form_of (drop k t.debugger.present.machine.sent)) shown_before
          ∙ ap (λ xs. host_form_of (drop (length (sent_after (keys ++ more) farthest)) xs)) sent_now)

      shown_now : t.debugger.shown ≡ max (length (sent_after (keys ++ more) farthest)) (length (sent_after (keys ++ more) n))
      shown_now = rests.shown ∙ ap (λ k. max k (length t.debugger.present.machine.sent)) shown_before
          ∙ ap (λ xs. max (length (sent_after (keys ++ more) farthest)) (length xs)) sent_now

      -- it was farther before
      behind : n ≤ farthest → Stands (keys ++ more) (told ++ one) farthest t
      behind few =
          let cut = sent_before marks (on_keys (keys ++ more)) n farthest few in
          let longer = no_longer (sent_after (keys ++ more) n) (sent_after (keys ++ more) farthest) cut in
          record {
            marked = marked_then;
            program = ap program_of leads.run.0 ∙ stands.program;
            run = run_then;
            ran = ran_then;
            output = told_now ∙ ap (λ xs. host_form_of (sent_after (keys ++ more) farthest) ++ host_form_of xs)
                (drop_all (length (sent_after (keys ++ more) farthest)) (sent_after (keys ++ more) n) longer)
                ∙ append-nil (host_form_of (sent_after (keys ++ more) farthest));
            shown = shown_now ∙ not_after _ _ longer;
            rested = λ started. few;
          }

      -- it is farther now
      ahead : farthest ≤ n → Stands (keys ++ more) (told ++ one) n t
      ahead few =
          let cut = sent_before marks (on_keys (keys ++ more)) farthest n few in
          let longer = no_longer (sent_after (keys ++ more) farthest) (sent_after (keys ++ more) n) cut in
          record {
            marked = marked_then;
            program = ap program_of leads.run.0 ∙ stands.program;
            run = run_then;
            ran = subst (λ ms. RunsUpTo ms (on_keys (keys ++ more)) n) marked_then run_then.of_run.ran;
            output = told_now ∙ grown (sent_after (keys ++ more) farthest) (sent_after (keys ++ more) n) cut;
            shown = shown_now ∙ not_before _ _ longer;
            rested = λ started. itself n;
          }

      rested_then : Stands (keys ++ more) (told ++ one) (max farthest (rests_after one t)) t
      rested_then = subst (λ b. Stands (keys ++ more) (told ++ one) (max farthest (if b then n else 0)) t) (sym rests.rests) (go (nat_le n farthest) refl)
        where
          go : (b : Bool) → nat_le n farthest ≡ b → Stands (keys ++ more) (told ++ one) (max farthest n) t
          go true e =
              let few : n ≤ farthest = grind (arith, nat_tests) in
              subst (λ k. Stands (keys ++ more) (told ++ one) k t) (sym (not_after farthest n few)) (behind few)
          go false e =
              let few : farthest ≤ n = grind (arith, nat_tests) in
              subst (λ k. Stands (keys ++ more) (told ++ one) k t) (sym (not_before farthest n few)) (ahead few)

    goes : Rests one s t ⊎ Keeps one s t → Stands (keys ++ more) (told ++ one) (max farthest (rests_after one t)) t
    goes (inl rests) = rested_then rests
    goes (inr keeps) = kept keeps

  -- what was told up to a moment
  abbrev ToldTo : Moment Debugging → Moment Debugging → Type 0
  ToldTo a b = (keys : List ℕ) × (told : List Saying) × (farthest : ℕ) × Tells a b keys told farthest × Stands keys told farthest b.talker.session

  one_more : (a b c : Moment Debugging) (done : Unit {0}) → ToldTo a b → Answers TakesHeard b (Ok done) c → ToldTo a c
  one_more a b c done (keys, told, farthest, tells, stands) (h, is_heard, (turn, takes_it, goes_on_then, wrote)) =
      let (one, says, written, leads) = heard_leads h b.talker c.talker turn b.at.written c.at.written b.at.wrote c.at.wrote takes_it wrote in (
        keys ++ keys_of h b.talker.session,
        told ++ one,
        max farthest (rests_after one c.talker.session),
        tells_more a b c keys told one farthest h tells is_heard says written leads.stops,
        goes keys (keys_of h b.talker.session) told one farthest b.talker.session c.talker.session stands leads leads.output,
      )

  talked : (a b : Moment Debugging) → ToldTo a a → Talks TakesHeard a b → ToldTo a b
  talked a _ first (begins _) = first
  talked a _ first (goes_on _ b c done talks leads) = one_more a b c done (talked a b first talks) leads

-- ── the law ──
nothing_sent : (text answers file : List ℕ) (machine : Machine) → StartsPrg text answers file (Ok machine) → machine.sent ≡ []
nothing_sent text answers file machine = go (content_of file)
  where
    go : (content : Result (ℕ × List ℕ) PrgError) → StartsContent text answers content (Ok machine) → machine.sent ≡ []
    go (Ok p) (in_range, is) = ap (λ m. m.sent) is
    go (Err e) never = absurd never

no_keys : (machine : Machine) (rom : Rom) → first_point (state_of machine) rom ≡ run_of machine rom []
no_keys machine rom =
    ap (λ text. record (first_point (state_of machine) rom) { state = record (state_of machine) { text = text } }) (sym (append-nil (state_of machine).text))

begun_so : (source : CompiledSource) (notation : Notation) (path : List ℕ) (machine : Machine) (rom : Rom) (plan : Plan) (a : Moment Debugging) → machine.sent ≡ []
    → IsSession path source notation machine rom plan a.talker.session → ToldTo source machine rom a.talker.session.debugger.starts a a
begun_so source notation path machine rom plan a unsent h =
    let first : (point_at a.talker.session.debugger.starts (run_of machine rom []) 0).state.sent ≡ [] =
    ap (λ p. p.state.sent) (at_start a.talker.session.debugger.starts (run_of machine rom [])) ∙ unsent in (
      [],
      [],
      0,
      none a,
      record {
        marked = refl;
        program = h.debugs;
        run = subst (λ p. OnRun p a.talker.session.debugger) (no_keys machine rom) h.run;
        ran = λ k below. absurd (omega (arith, below));
        output = sym (ap host_form_of first);
        shown = h.opens.bare.shown ∙ sym (ap length first);
        rested = λ started. let never : Loaded ≡ Started = sym h.stage ∙ started in absurd (cc);
      },
    )

pub what_is_told_is_of_the_run : WhatIsToldIsOfTheRun
what_is_told_is_of_the_run path source notation text answers machine rom plan a b starts h talks =
    let unsent = nothing_sent text answers (prg_of source.program) machine starts in
    let (keys, told, farthest, tells, stands) =
    talked source machine rom a.talker.session.debugger.starts a b (begun_so source notation path machine rom plan a unsent h) talks in (
      keys,
      told,
      farthest,
      tells,
      record {
        program = stands.program;
        run = stands.run;
        shows = λ p seed made begins_there. shows_some p seed (start_of machine keys) rom source.program b.talker.session.debugger _
            (record { of = stands.program; made = made; starts = begins_there; on = stands.run }) refl;
      },
      stands.output ∙ ap (λ ms. host_form_of (point_at ms (run_of machine rom keys) farthest).state.sent) (sym stands.marked),
      stands.rested,
    )

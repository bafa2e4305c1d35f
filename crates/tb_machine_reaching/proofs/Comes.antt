-- From view to view: one instruction, n instructions by computation, one piece after another.
use Rattle.std.proofs.Common.{◌≡◌, ℕ, zero, suc, ◌+◌, ◌≤◌, Bool, true, false, List, [], ◌++◌, length, refl, sym, ap, ◌∙◌, subst}
use Rattle.std.proofs.Common.{arith, leb, Option, Some, None, append-nil, length-append, inr}
use Rattle.std.specs.Prelude.{◌==◌, Ok}
use Rattle.std.proofs.lemmas.Bool.{leb-true}
use Rattle.tb_memmap.specs.Bytes.{written}
use Rattle.tb_opcodes.specs.Opcodes.{find_row, rows}
use Rattle.tb_cpu.specs.Operands.{reading}
use Rattle.tb_cpu.specs.Instructions.{Outcome, instruction}
use Rattle.tb_kernal.specs.declared.events.Clobber.{Clobber}
use Rattle.tb_kernal.specs.declared.events.Event.TheVariants.{Go}
use Rattle.tb_kernal.specs.declared.status.Status.TheVariants.{Running}
use Rattle.tb_kernal.specs.Machine.{State, status, happens, is_lawful}
use Rattle.tb_machine_reaching.specs.View.{View, Setup, At, Part, Holds, Fits, OnCode, UnderWay, Among, Comes, with_s, view}
use Rattle.tb_machine_reaching.proofs.Acting.{act, run_view, the, is_there}
use Rattle.tb_machine_reaching.proofs.Laws.{step, chain, widen}
use Rattle.tb_machine_reaching.proofs.Act.{acts, goes_by, fetched_here, code_at, runs, kept_by_interrupt, pc_here, some_eq}

-- one view
abbrev pub Just : View → View → Type 0
Just v w = w ≡ v

module _ (f : Setup) where
  under_way : (room : ℕ) → Fits f room → (v : View) (s : State) → length v.stack ≤ room → At f v s → status s ≡ Running → OnCode f s → UnderWay f s
  under_way room fits v s h at run on =
      let len = length-append v.stack f.rest in
      record { runs = run; not_below = omega (arith, at.depth, len); not_above = omega (arith, at.depth, len); on_code = on }

  -- one event
  pub comes_by : (v : View) (q : View → Type 0) (t : List ℕ) (room : ℕ) → Fits f room → length v.stack ≤ room
      → ((s : State) → At f v s → status s ≡ Running) → ((s : State) → At f v s → OnCode f s) → ((s : State) → At f v s → (k : Clobber)
      → is_lawful s (Go k) ≡ true → Among f q (happens s (Go k)) × ((happens s (Go k)).sent ≡ s.sent ++ t)) → Comes f v q t 1
  comes_by v q t room fits small run on g = record {
    reaches = step (UnderWay f) (At f v) _ t (record {
      inside = λ s at. under_way room fits v s small at (run s at) (on s at);
      keeps = λ s at ws l. kept_by_interrupt f v s at ws l;
      goes_on = λ s at k l. g s at k l;
    });
  }

  -- one event at an opcode of the program
  pub comes_at : (v w : View) (q : View → Type 0) (room b : ℕ) → Fits f room → length v.stack ≤ room → f.code v.regs.pc ≡ Some b
      → ((s : State) → At f v s → (k : Clobber) → At f w (happens s (Go k)) × ((happens s (Go k)).sent ≡ s.sent)) → q w → Comes f v q [] 1
  comes_at v w q room b fits small here g x =
      comes_by v q [] room fits small
      (λ s at. runs f v s at (code_at f v s at v.regs.pc b here).0)
      (λ s at. inr (b, ap f.code (pc_here f v s at) ∙ here))
      (λ s at k l. let a = g s at k in ((w, a.0, x), a.1 ∙ sym (append-nil s.sent)))

  -- one law after another
  pub chained : (v : View) (p q : View → Type 0) (t u : List ℕ) (n m : ℕ) → Comes f v p t n → ((w : View) → p w → Comes f w q u m) → Comes f v q (t ++ u) (n + m)
  chained v p q t u n m a b = record { reaches = chain (UnderWay f) (At f v) (Among f p) (Among f q) t u n m a.reaches (record { leads = λ s h es l. (b h.0 h.2).reaches.leads s h.1 es l }) }

  -- one law after another, through one view
  pub chained_at : (v w : View) (q : View → Type 0) (t u : List ℕ) (n m : ℕ) → Comes f v (Just w) t n → Comes f w q u m → Comes f v q (t ++ u) (n + m)
  chained_at v w q t u n m a b = chained v (Just w) q t u n m a (λ x e. subst (λ x. Comes f x q u m) (sym e) b)

  -- a larger bound, and a larger goal
  pub looser : (v : View) (p q : View → Type 0) (t : List ℕ) (n m : ℕ) → n ≤ m → ((w : View) → p w → q w) → Comes f v p t n → Comes f v q t m
  looser v p q t n m le g a = record { reaches = widen (UnderWay f) (At f v) _ _ t n m le (λ s h. (h.0, h.1, g h.0 h.2)) a.reaches }

  module _ (room : ℕ) (fits : Fits f room) (part : Part) (holds : Holds part f.code) where
    -- one instruction
    pub one : (v w : View) (q : View → Type 0) → leb (length v.stack) room ≡ true → act part room v ≡ Some w → q w → Comes f v q [] 1
    one v w q small h x =
        let here = fetched_here part room v w h in
        comes_at v w q room here.0 fits (leb-true _ _ small) (holds v.regs.pc here.0 here.1) (λ s at k. acts f room fits v s at part holds w h k) x

    record First (n : ℕ) (v w : View) : Type 0 where
      small : leb (length v.stack) room ≡ true
      next : View
      acted : act part room v ≡ Some next
      rest : run_view part room n next ≡ Some w

    first : (n : ℕ) (v w : View) → run_view part room (suc n) v ≡ Some w → First n v w
    first n v w h = at_depth (leb (length v.stack) room) refl h
      where
        at_act : leb (length v.stack) room ≡ true → (x : Option View) → act part room v ≡ x
            → (elim x as (λ _. Option View) [ None ↦ None | Some w ↦ run_view part room n w ]) ≡ Some w → First n v w
        at_act d None a h = cc
        at_act d (Some u) a h = record { small = d; next = u; acted = a; rest = h }

        at_depth : (t : Bool) → leb (length v.stack) room ≡ t
            → (elim t as (λ _. Option View) [ false ↦ None | true ↦ elim (act part room v) [ None ↦ None | Some w ↦ run_view part room n w ] ]) ≡ Some w → First n v w
        at_depth true d h = at_act d (act part room v) refl h
        at_depth false d h = cc

    -- instructions one after the other
    several_from : (q : View → Type 0) (n : ℕ) (v w : View) → run_view part room (suc n) v ≡ Some w → q w → Comes f v q [] (suc n)
    several_from q zero v w h x =
        let a = first zero v w h in one v a.next q a.small a.acted (subst q (sym (some_eq a.rest)) x)
    several_from q (suc n) v w h x =
        let a = first (suc n) v w h in
        looser v q q [] (1 + suc n) (suc (suc n)) (omega arith) (λ w x. x)
        (chained_at v a.next q [] [] 1 (suc n) (one v a.next (Just a.next) a.small a.acted refl) (several_from q n a.next w a.rest x))

    there_is : (v : View) (o : Option View) → is_there o ≡ true → o ≡ Some (the v o)
    there_is v None h = cc
    there_is v (Some w) h = refl

    -- n + 1 instructions that lead to a view, and then a law
    pub through : (n : ℕ) (v w : View) (q : View → Type 0) (t : List ℕ) (m : ℕ) → run_view part room (suc n) v ≡ Some w → Comes f w q t m → Comes f v q t (suc n + m)
    through n v w q t m h c = chained_at v w q [] t (suc n) m (several_from (Just w) n v w h refl) c

    -- n + 1 instructions that lead to a view that is computed, and then a law
    pub after : (n : ℕ) (v : View) (q : View → Type 0) (t : List ℕ) (m : ℕ) → is_there (run_view part room (suc n) v) ≡ true
        → Comes f (the v (run_view part room (suc n) v)) q t m → Comes f v q t (suc n + m)
    after n v q t m h c = through n v (the v (run_view part room (suc n) v)) q t m (there_is v (run_view part room (suc n) v) h) c

    -- n + 1 instructions, as the last piece
    pub ending : (n : ℕ) (v : View) (q : View → Type 0) → is_there (run_view part room (suc n) v) ≡ true → q (the v (run_view part room (suc n) v)) → Comes f v q [] (suc n)
    ending n v q h x = several_from q n v (the v (run_view part room (suc n) v)) (there_is v (run_view part room (suc n) v) h) x

  -- an instruction at PC whose outcome is shown by hand, and then a law
  pub by_hand : (room : ℕ) → Fits f room → (v w : View) (b : ℕ) (q : View → Type 0) (t : List ℕ) (m : ℕ) → leb (length v.stack) room ≡ true
      → f.code v.regs.pc ≡ Some b → (b == 0) ≡ false → ((s : State) → At f v s → (e : Outcome)
      × (instruction (find_row rows b) (with_s s.regs.s v.regs) (reading s.mem) ≡ Ok e) × At f w (record s { regs = e.0; mem = written s.mem e.1 }))
      → Comes f w q t m → Comes f v q t (1 + m)
  by_hand room fits v w b q t m small here some g next =
      chained_at v w q [] t 1 m (comes_at v w (Just w) room b fits (leb-true _ _ small) here (λ s at k. goes_by f room fits v s at b here some w (g s at) k) refl) next

-- ---- views that are known by their parts
-- S is not looked at
any_s : (f : Setup) (v : View) (k : ℕ) (q : View → Type 0) (t : List ℕ) (n : ℕ) → Comes f (record v { regs = with_s k v.regs }) q t n → Comes f v q t n
any_s f v k q t n c = record {
  reaches = record {
    leads = λ s at. c.reaches.leads s (record {
      regs = at.regs;
      depth = at.depth;
      stack = at.stack;
      bytes = at.bytes;
      text = at.text;
      answers = at.answers;
      stays = at.stays;
    });
  };
}

-- a view whose PC, stack and keyboard are known, with D clear
pub known : (f : Setup) (w : View) (pc : ℕ) (stack text answers : List ℕ) (q : View → Type 0) (t : List ℕ) (n : ℕ) → w.regs.pc ≡ pc → w.stack ≡ stack
    → w.regs.flags.d ≡ false → w.text ≡ text → w.answers ≡ answers
    → Comes f (view w.regs.a w.regs.x w.regs.y w.regs.flags.n w.regs.flags.v w.regs.flags.i w.regs.flags.z w.regs.flags.c pc stack w.mem text answers) q t n → Comes f w q t n
known f w pc stack text answers q t n p k d h e c = any_s f w 0 q t n (subst (λ u. Comes f u q t n) same c)
  where
    same : view w.regs.a w.regs.x w.regs.y w.regs.flags.n w.regs.flags.v w.regs.flags.i w.regs.flags.z w.regs.flags.c pc stack w.mem text answers ≡ record w { regs = with_s 0 w.regs }
    same = λ j. record {
      regs = record {
        a = w.regs.a;
        x = w.regs.x;
        y = w.regs.y;
        s = 0;
        pc = sym p j;
        flags = record {
          n = w.regs.flags.n;
          v = w.regs.flags.v;
          d = sym d j;
          i = w.regs.flags.i;
          z = w.regs.flags.z;
          c = w.regs.flags.c;
        };
      };
      stack = sym k j;
      mem = w.mem;
      text = sym h j;
      answers = sym e j;
    }

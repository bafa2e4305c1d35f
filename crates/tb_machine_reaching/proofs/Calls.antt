-- A routine that is called, with what its caller keeps on the stack.
use Rattle.std.proofs.Common.{◌≡◌, ℕ, ◌+◌, List, ◌++◌, length, refl, sym, subst, inl, inr, ⊎_elim, append_assoc, arith, length-append}
use Rattle.tb_kernal.specs.Machine.{State}
use Rattle.tb_machine_reaching.specs.View.{View, Setup, At, Stacked, Comes}
use Rattle.tb_machine_reaching.proofs.Comes.{chained}

-- the callee's setup: the caller's part of the stack belongs to what is kept
abbrev pub under : Setup → List ℕ → Setup
under f own = record f { rest = own ++ f.rest }

abbrev pub stacked_on : List ℕ → View → View
stacked_on own v = record v { stack = v.stack ++ own }

module _ (f : Setup) (own : List ℕ) where
  -- a stack divided differently into the view's part and the rest
  parted : (a b xs ys : List ℕ) (v : View) (s : State) → xs ++ a ≡ ys ++ b → At (record f { rest = a }) (record v { stack = xs }) s → At (record f { rest = b }) (record v { stack = ys }) s
  parted a b xs ys v s e at =
      let st = at.stays in
      record {
        regs = at.regs;
        depth = subst (λ l. s.regs.s + length l ≡ 255) e at.depth;
        stack = subst (Stacked s.mem (0x0101 + s.regs.s)) e at.stack;
        bytes = at.bytes;
        text = at.text;
        answers = at.answers;
        stays = record { whole = st.whole; inner = st.inner; right = st.right; home = st.home; home_s = st.home_s; far = st.far; apart = st.apart };
      }

  into : (v : View) (s : State) → At f (stacked_on own v) s → At (under f own) v s
  into v s = parted f.rest (own ++ f.rest) (v.stack ++ own) v.stack v s (append_assoc v.stack own f.rest)

  out_of : (v : View) (s : State) → At (under f own) v s → At f (stacked_on own v) s
  out_of v s = parted (own ++ f.rest) f.rest v.stack (v.stack ++ own) v s (sym (append_assoc v.stack own f.rest))

  -- a routine's law, within its caller
  pub framed : (v : View) (q : View → Type 0) (t : List ℕ) (n : ℕ) → Comes (under f own) v q t n → Comes f (stacked_on own v) (λ w. (u : View) × q u × (stacked_on own u ≡ w)) t n
  framed v q t n c = record {
    reaches = record {
      leads = λ s at es l.
          ⊎_elim
          (λ a. let h = a.there in inl (record {
            before = a.before;
            after = a.after;
            split = a.split;
            some = a.some;
            few = a.few;
            there = (stacked_on own h.0, out_of h.0 _ h.1, (h.0, h.2, refl));
            sent = a.sent;
          }))
          (λ a. let k = a.kept in inr (record {
            few = a.few;
            kept = record { runs = k.runs; not_below = k.not_below; not_above = omega (arith, k.not_above, length-append own f.rest); on_code = k.on_code };
            so_far = a.so_far;
            to_come = a.to_come;
            sent = a.sent;
            whole = a.whole;
          }))
          (c.reaches.leads s (into v s at) es l);
    };
  }

  -- a call, and then a law
  pub calling : (v : View) (q r : View → Type 0) (t u : List ℕ) (n m : ℕ) → Comes (under f own) v q t n
      → ((w : View) → q w → Comes f (stacked_on own w) r u m) → Comes f (stacked_on own v) r (t ++ u) (n + m)
  calling v q r t u n m c next = chained f (stacked_on own v) (λ w. (u : View) × q u × (stacked_on own u ≡ w)) r t u n m (framed v q t n c)
      (λ w h. subst (λ w. Comes f w r u m) h.2 (next h.0 h.1))

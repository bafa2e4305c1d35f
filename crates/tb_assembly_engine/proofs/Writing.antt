-- Files that are written one after the other.
use Rattle.std.proofs.Common.{◌≡◌, inr, List, [], ◌∷◌, ◌++◌, ℕ, Option, subst, sym, Result, Ok, Err}
use Rattle.tb_engine_files.specs.Deeds.{Deed, Saves}
use Rattle.tb_engine_files.proofs.Orders.{breaks_front}
use Rattle.tb_assembly_engine.specs.Outcomes.{TextFailure}
use Rattle.tb_engine_streams.specs.declared.outcome.Outcome.TheVariants.{Ended, Refused, ReadFault, WriteFault, NoMemory}
use Rattle.tb_assembly_engine.specs.Deeds.{Puts, save_of}

module _ {F : Type 0} (does : F → Deed → F → Type 0) where
  -- one thing was done, and then others
  puts_more : (r : Result Unit TextFailure) (f h g : F) (d : Deed) (ds : List Deed) → does f d h → Puts does h ds r g → Puts does f (d ∷ ds) r g
  puts_more (Ok u) f h g d ds first others = (h, first, others)
  puts_more (Err WriteFault) f h g d ds first breaks = inr (h, first, breaks)
  puts_more (Err NoMemory) f h g d ds first breaks = inr (h, first, breaks)
  puts_more (Err (Refused x)) f h g d ds first others = others
  puts_more (Err (Ended never)) f h g d ds first others = others
  puts_more (Err ReadFault) f h g d ds first others = others

  -- some files were written, and then others
  pub puts_then : (r : Result Unit TextFailure) (f h g : F) (ds es : List Deed) → Puts does f ds (Ok tt) h → Puts does h es r g → Puts does f (ds ++ es) r g
  puts_then r f h g [] es same others = subst (λ x. Puts does x es r g) same others
  puts_then r f h g (d ∷ ds) es (m, first, rest) others = puts_more r f m g d (ds ++ es) first (puts_then r m h g ds es rest others)

  -- it broke off before others were written
  pub puts_front : (e : TextFailure) (f g : F) (ds es : List Deed) → Puts does f ds (Err e) g → Puts does f (ds ++ es) (Err e) g
  puts_front WriteFault f g ds es breaks = breaks_front does _ f g ds es breaks
  puts_front NoMemory f g ds es breaks = breaks_front does _ f g ds es breaks
  puts_front (Refused x) f g ds es none = none
  puts_front (Ended never) f g ds es none = none
  puts_front ReadFault f g ds es none = none

  -- the PRG file was written, and then it broke off at the labels
  pub broken_off : (r : Result Unit TextFailure) (e : TextFailure) (f h g : F) (out prg given : List ℕ) (labels : Option (List ℕ)) (text held : List ℕ) (es : List Deed)
      → given ≡ prg → held ≡ text → r ≡ Err e → Puts does f (Saves out given (Ok tt) ∷ []) (Ok tt) h → Puts does h (save_of labels held) (Err e) g
      → Puts does f (Saves out prg (Ok tt) ∷ (save_of labels text ++ es)) r g
  broken_off r e f h g out prg given labels text held es same also is first second =
      subst (λ r. Puts does f (Saves out prg (Ok tt) ∷ (save_of labels text ++ es)) r g) (sym is)
      (subst (λ p. Puts does f (Saves out p (Ok tt) ∷ (save_of labels text ++ es)) (Err e) g) same
      (subst (λ t. Puts does f (Saves out given (Ok tt) ∷ (save_of labels t ++ es)) (Err e) g) also
      (puts_then (Err e) f h g (Saves out given (Ok tt) ∷ []) (save_of labels held ++ es) first (puts_front e h g (save_of labels held) es second))))

  -- the PRG file and the labels were written, and then the listing
  pub all_saved : (r : Result Unit TextFailure) (f h k g : F) (out prg given : List ℕ) (labels : Option (List ℕ)) (text held : List ℕ) (listing : Option (List ℕ)) (rows shown : List ℕ)
      → given ≡ prg → held ≡ text → shown ≡ rows → Puts does f (Saves out given (Ok tt) ∷ []) (Ok tt) h → Puts does h (save_of labels held) (Ok tt) k
      → Puts does k (save_of listing shown) r g → Puts does f (Saves out prg (Ok tt) ∷ (save_of labels text ++ save_of listing rows)) r g
  all_saved r f h k g out prg given labels text held listing rows shown same also too first second third =
      subst (λ p. Puts does f (Saves out p (Ok tt) ∷ (save_of labels text ++ save_of listing rows)) r g) same
      (subst (λ t. Puts does f (Saves out given (Ok tt) ∷ (save_of labels t ++ save_of listing rows)) r g) also
      (subst (λ l. Puts does f (Saves out given (Ok tt) ∷ (save_of labels held ++ save_of listing l)) r g) too
      (puts_then r f h g (Saves out given (Ok tt) ∷ []) (save_of labels held ++ save_of listing shown) first
      (puts_then r h k g (save_of labels held) (save_of listing shown) second third))))

-- TSX and TXS, when the stack's length gives S.
use Rattle.std.proofs.Common.{◌≡◌, ℕ, ◌+◌, true, List, [], ◌∷◌, ◌++◌, length, refl, ap, ◌∙◌, subst, arith, leb, Some, append_assoc, length-append}
use Rattle.std.specs.Prelude.{Ok}
use Rattle.tb_opcodes.specs.declared.Mode.TheVariants.{Implied}
use Rattle.tb_cpu.specs.Effects.{loaded_x}
use Rattle.tb_cpu.specs.Instructions.{advanced}
use Rattle.tb_machine_reaching.specs.View.{View, Setup, Fits, Stacked, Comes, with_s}
use Rattle.tb_machine_reaching.proofs.Act.{with_regs}
use Rattle.tb_machine_reaching.proofs.Comes.{by_hand}

stacked_drop : (m : ℕ → ℕ) (at : ℕ) (xs ys : List ℕ) → Stacked m at (xs ++ ys) → Stacked m (at + length xs) ys
stacked_drop m at [] ys h = subst (λ n. Stacked m n ys) (let e : at ≡ at + 0 = omega arith in e) h
stacked_drop m at (x ∷ xs) ys h =
    subst (λ n. Stacked m n ys) (let e : at + 1 + length xs ≡ at + length (x ∷ xs) = omega arith in e) (stacked_drop m (at + 1) xs ys h.1)

module _ (f : Setup) (room : ℕ) (fits : Fits f room) where
  -- TSX
  pub taking_s : (v : View) (x : ℕ) (q : View → Type 0) (t : List ℕ) (m : ℕ) → f.code v.regs.pc ≡ Some 0xba → leb (length v.stack) room ≡ true
      → x + length (v.stack ++ f.rest) ≡ 255 → Comes f (record v { regs = loaded_x (advanced v.regs Implied) x }) q t m → Comes f v q t (1 + m)
  taking_s v x q t m here small deep next =
      by_hand f room fits v (record v { regs = loaded_x (advanced v.regs Implied) x }) 0xba q t m small here refl (λ s at.
      let same : s.regs.s ≡ x = omega (arith, at.depth, deep) in (
        (with_s s.regs.s (loaded_x (advanced v.regs Implied) x), []),
        ap (λ y. Ok (with_s s.regs.s (loaded_x (advanced v.regs Implied) y), [])) same,
        with_regs f v s at (loaded_x (advanced v.regs Implied) x),
      )) next

  -- TXS, back over a part of the stack
  pub putting_s : (v : View) (above kept : List ℕ) (q : View → Type 0) (t : List ℕ) (m : ℕ) → f.code v.regs.pc ≡ Some 0x9a → leb (length v.stack) room
      ≡ true → v.stack ≡ above ++ kept → v.regs.x + length (kept ++ f.rest) ≡ 255
      → Comes f (record v { regs = advanced v.regs Implied; stack = kept }) q t m → Comes f v q t (1 + m)
  putting_s v above kept q t m here small split deep next =
      by_hand f room fits v (record v { regs = advanced v.regs Implied; stack = kept }) 0x9a q t m small here refl (λ s at.
      let parts : v.stack ++ f.rest ≡ above ++ (kept ++ f.rest) = ap (λ l. l ++ f.rest) split ∙ append_assoc above kept f.rest in
      let size : s.regs.s + length (above ++ (kept ++ f.rest)) ≡ 255 = subst (λ l. s.regs.s + length l ≡ 255) parts at.depth in
      let there : 0x0101 + s.regs.s + length above ≡ 0x0101 + v.regs.x = omega (arith, size, deep, length-append above (kept ++ f.rest)) in (
        (with_s v.regs.x (advanced v.regs Implied), []),
        refl,
        record {
          regs = refl;
          depth = deep;
          stack = subst (λ n. Stacked s.mem n (kept ++ f.rest)) there (stacked_drop s.mem (0x0101 + s.regs.s) above (kept ++ f.rest) (subst (Stacked s.mem (0x0101 + s.regs.s)) parts at.stack));
          bytes = at.bytes;
          text = at.text;
          answers = at.answers;
          stays = at.stays;
        },
      )) next

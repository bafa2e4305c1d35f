-- The goals of `Greeter::lead` in src/waiting.rt.
use Rattle.std.proofs.Common.{◌≡◌, refl, ◌∙◌, subst}
use Rattle.tb_editor_dialogue.proofs.Parts.{converses}
use Rattle.tb_dap_adapter.specs.Waiting.{EndsUnlaunched, GreetsHeard, early_of}
use Rattle.tb_dap_adapter.proofs.waiting.Greeter.lead.Goals as goal

pub returns-clause-same_reference : goal.returns-clause-same_reference
returns-clause-same_reference g c = (
    converses early_of (λ s. (s.usual ≡ c.args.self.now.usual) × (s.sources.ghost_name ≡ c.args.self.now.sources.ghost_name)) _
    (GreetsHeard g.K.Compile.own g.S.Sources.reads c.args.self.now.usual) _ (λ s end. EndsUnlaunched end)
    (λ s h r t (usual, name) ((same, kept), greets). (same ∙ usual, kept ∙ name))
    (λ s h r t (usual, name) (kept, greets). subst (λ u. GreetsHeard g.K.Compile.own g.S.Sources.reads u (early_of s) h r (early_of t)) usual greets)
    (λ s e so ends. ends) _ _ _ (refl, refl) c.converse.ensures
    ).0.1

pub returns-clause-leads : goal.returns-clause-leads
returns-clause-leads g c = (
  c.converse.new.talker.initialized,
  (
      converses early_of (λ s. (s.usual ≡ c.args.self.now.usual) × (s.sources.ghost_name ≡ c.args.self.now.sources.ghost_name)) _
      (GreetsHeard g.K.Compile.own g.S.Sources.reads c.args.self.now.usual) _ (λ s end. EndsUnlaunched end)
      (λ s h r t (usual, name) ((same, kept), greets). (same ∙ usual, kept ∙ name))
      (λ s h r t (usual, name) (kept, greets). subst (λ u. GreetsHeard g.K.Compile.own g.S.Sources.reads u (early_of s) h r (early_of t)) usual greets)
      (λ s e so ends. ends) _ _ _ (refl, refl) c.converse.ensures
      ).1,
)

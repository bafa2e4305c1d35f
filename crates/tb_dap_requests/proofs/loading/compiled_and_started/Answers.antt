-- The goals of `compiled_and_started` in src/loading.rt.
use Rattle.std.proofs.Common.{◌≡◌, ap, inl, inr, refl, subst, ◌∙◌}
use Rattle.tb_dap_requests.specs.Loading.{CompilesTo, compile_settings}
use Rattle.tb_dap_requests.specs.declared.loading.Compiling.TheVariants.{Fit, Unfit}
use Rattle.tb_dap_requests.proofs.loading.compiled_and_started.Goals as goal

pub returns-in_ok-loading-in-Fit : goal.returns-in_ok-loading-in-Fit
returns-in_ok-loading-in-Fit g c =
    let text = c.args.text.items in
    let is : c.settings_for-settings.result ≡ compile_settings c.args.launch.now.manner text =
    c.settings_for-settings.ensures ∙ ap (compile_settings c.args.launch.now.manner) c.deref.ensures.value in
    let compiles = rw c.in-Fit.is at c.in_ok-source.ensures in
    inl (
      c.in-Fit.source,
      subst (λ s. CompilesTo g.K.Compile.own s c.args.launch.now.path.now text (Fit c.in-Fit.source)) is compiles,
      c.in_ok-loading-in-Fit.ensures,
    )

pub returns-in-Unfit : goal.returns-in-Unfit
returns-in-Unfit g c =
    let text = c.args.text.items in
    let is : c.settings_for-settings.result ≡ compile_settings c.args.launch.now.manner text =
    c.settings_for-settings.ensures ∙ ap (compile_settings c.args.launch.now.manner) c.deref.ensures.value in
    let compiles = rw c.in-Unfit.is at c.in_ok-source.ensures in
    inr (
      c.in-Unfit.said,
      subst (λ s. CompilesTo g.K.Compile.own s c.args.launch.now.path.now text (Unfit c.in-Unfit.said)) is compiles,
      refl,
    )

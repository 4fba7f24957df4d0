use Rattle.std.proofs.Common.{All, sym, ◌∙◌, subst, arith}
use Rattle.pb_norm.specs.Constraints.{AreVarsWithin}
use Rattle.pb_steps.specs.Operations.{IsNarrow}
use Rattle.pb_check.proofs.Loading.{loaded_within, loaded_narrow}
use Rattle.tests_calls.proofs.derivations.rules.database_with.Goals as goal

pub new-requires-clause-within : goal.new-requires-clause-within
new-requires-clause-within c =
    subst (AreVarsWithin c.args.vars) (sym (c.as_slice.ensures ∙ c.requires.loaded))
    (loaded_within c.args.problem.now c.args.vars (omega (arith, c.if-originals-vars.false, c.originals.ensures)) c.requires.within)

pub new-requires-clause-narrow : goal.new-requires-clause-narrow
new-requires-clause-narrow c = subst (All IsNarrow) (sym (c.as_slice.ensures ∙ c.requires.loaded)) (loaded_narrow c.args.problem.now c.requires.within)

use Rattle.std.proofs.Common.{◌≡◌, ◌∙◌, ◌∷◌, List, if◌then◌else◌, map, pos, rules}
use Rattle.std.proofs.lemmas.Result.{IfOk-from_err}
use Rattle.pb_base.specs.declared.literal.Term.{Term}
use Rattle.pb_norm.specs.Constraints.{weights, terms_of}
use Rattle.pb_norm.specs.Reduction.{opposite}
use Rattle.pb_family.proofs.TermSlices.{light_terms, turned_terms}
use Rattle.pb_family.proofs.reification.redundant_step.Goals as goal

pub with_head-requires : goal.with_head-requires
with_head-requires c = record { fits = light_terms c.args.terms.now c.requires.light }

pub returns-in_err-all : goal.returns-in_err-all
returns-in_err-all c = IfOk-from_err _ _ c.from_residual.ensures.0

pub returns-in_err-sets : goal.returns-in_err-sets
returns-in_err-sets c = IfOk-from_err _ _ c.from_residual-in_err-sets.ensures.0

pub returns : goal.returns
returns c =
    let ts : List Term = terms_of (if c.args.value then map opposite (weights c.args.terms.now) else weights c.args.terms.now) in
    let made : c.in_ok-all.all.items ≡ record { coef = pos c.args.right; lit = record { var = c.args.var; positive = c.args.value } } ∷ ts = c.in_ok-all.ensures ∙ (λ i. c.weighing.ensures i ∷ turned_terms c.args.value c.args.terms.now i) in
    search rules

use Rattle.std.proofs.Common.{◌∙◌, ap, ◌-◌, ℕ}
use Rattle.pb_operations.proofs.Parts.{gained-room, degree-left}
use Rattle.pb_operations.proofs.substitution.degree_left.Goals as goal

pub gained-gained-requires : goal.gained-gained-requires
gained-gained-requires c = gained-room c.args.sets.now c.args.constraint.now _ c.terms.ensures.weights c.terms.ensures.linear

pub returns : goal.returns
returns c =
    degree-left c.args.sets.now c.args.constraint.now c.terms.result.now c.gained-gained.result c.saturating_sub.result c.terms.ensures.weights c.gained-gained.ensures
    (c.saturating_sub.ensures ∙ ap (λ (n : ℕ). n - c.gained-gained.result) c.degree.ensures.value)

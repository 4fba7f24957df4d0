use Rattle.std.proofs.Common.{ap, sym, ◌∙◌, ◌≡◌}
use Rattle.pb_norm.specs.declared.reduction.Rest.TheVariants.{Clause}
use Rattle.pb_norm.specs.Reduction.{lits_of}
use Rattle.pb_norm.proofs.KeptTerms.{lits-weights}
use Rattle.pb_norm.proofs.reduction.split.Goals as goal

pub returns-then-is_tight : goal.returns-then-is_tight
returns-then-is_tight c =
    let lits : c.from_vec.result ≡ lits_of c.args.constraint.now.terms =
    c.from_vec.ensures ∙ c.in_ok-lits_of.ensures ∙ lits-weights c.terms.result.now ∙ ap lits_of c.terms.ensures.weights in
    let made = c.is_tight.ensures c.if-is_tight.true in
    (λ i. record { units = c.new.ensures i; rest = Clause (lits i) }) ∙ sym made

use Rattle.std.proofs.Common.{◌≡◌, ◌∙◌, ◌<◌, ◌^◌, ℕ, List, ap, subst, sym}
use Rattle.pb_base.specs.declared.literal.Term.{Term}
use Rattle.pb_norm.specs.Constraints.{weight, weights}
use Rattle.pb_norm.specs.BoundedSums.{BoundedSum, IsProper, sum_within}
use Rattle.pb_diagram.specs.Clauses.{diagram_size, node_count}
use Rattle.pb_diagram.specs.Levels.{levels_of}
use Rattle.pb_diagram.proofs.diagram.Diagram.of_nodes.Goals as goal

-- a sum of terms that were copied
copied : (of : BoundedSum) (items terms : List Term) (bound : ℕ) → items ≡ terms → weights terms ≡ of.terms → bound ≡ of.bound → sum_within items bound ≡ of
copied of items terms bound all same value = let whole = ap weights all ∙ same in λ i. record { terms = whole i; bound = value i }

pub returns : goal.returns
returns c = copied c.args.of.now _ _ _ c.in_ok-terms.ensures.items c.terms.ensures.weights c.bound-bound.ensures.value

pub invariant_of-result : goal.invariant_of-result
invariant_of-result c =
    let same = copied c.args.of.now _ _ _ c.in_ok-terms.ensures.items c.terms.ensures.weights c.bound-bound.ensures.value in
    let nodes = c.in_ok-levels.ensures ∙ c.requires.all ∙ ap levels_of (sym same) in
    record {
      proper = subst IsProper (sym same) c.terms.ensures.proper;
      light = subst (λ (m : BoundedSum). weight m.terms < 2 ^ 100) (sym same) c.requires.light;
      nodes = nodes;
      fresh_is = c.count_nodes-fresh.ensures ∙ ap node_count (c.as_slice.ensures.value ∙ nodes);
      clauses_is = c.count_clauses-clauses.ensures ∙ ap (λ (ts : List Term). diagram_size (sum_within ts c.bound-bound.result)) c.as_slice-2.ensures.value;
    }

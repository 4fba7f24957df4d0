use Rattle.std.proofs.Common.{◌≡◌, ◌≤◌, ◌+◌, ◌++◌, ◌∙◌, List, arith, ap, length, subst, sym}
use Rattle.std.proofs.lemmas.List.{length-map}
use Rattle.pb_base.specs.declared.literal.Term.{Term}
use Rattle.pb_norm.specs.BoundedSums.{BoundedSum, IsProper, sum_within}
use Rattle.pb_norm.specs.Constraints.{weight, weighted, weights}
use Rattle.pb_tree.specs.Tree.{tree_of}
use Rattle.pb_tree.specs.Scheme.{fresh_of}
use Rattle.pb_tree.proofs.Numbers.{square_fits}
use Rattle.pb_gentot.specs.Generalized.{generalized, generalized_clauses, generalized_fresh, generalized_size}
use Rattle.pb_gentot.proofs.Bounds.{bounds, clauses_modest, some_terms}
use Rattle.pb_gentot.proofs.weighted.Weighted.build.Goals.{In-Some, In_ok-part, In_ok-extend_from_slice}
use Rattle.pb_gentot.proofs.weighted.Weighted.build.Goals as goal

-- there is a term
some : (c : In-Some) → 1 ≤ length c.terms.result.now
some c = omega (arith, length-map c.terms.result.now weighted, ap length c.terms.ensures.weights, some_terms c.args.of.now.bound c.args.of.now.terms c.bound-bound.ensures.proper.heavy)

pub overflow_add-result : goal.overflow_add-result
overflow_add-result c =
    let ts = c.terms.result.now in
    let one = some (goal.at.overflow_add-result c).In-Some in
    let t = tree_of (weights ts) in
    let part = rw c.in-Some.is at c.in_ok-part.ensures in
    let b = bounds c.bound-bound.result ts one in
    let fits : fresh_of (generalized c.bound-bound.result) t ≤ c.args.budget = part.fits in
    let square = square_fits (fresh_of (generalized c.bound-bound.result) t + length ts) (omega (arith, c.requires.modest, c.bound-bound.ensures.few)) in
    omega (arith, b.clauses, part.clauses_are)

-- the constraint by terms that have its weights
same : (c : In_ok-part) (ts : List Term) → weights ts ≡ c.args.of.now.terms → sum_within ts c.bound-bound.result ≡ c.args.of.now
same c ts is = λ i. record { terms = is i; bound = c.bound-bound.ensures.value i }

-- as those that are kept
kept : (c : In_ok-extend_from_slice) → weights c.extend_from_slice.new.self.items ≡ c.args.of.now.terms
kept c = ap weights (c.in_ok-extend_from_slice.ensures.items ∙ ap (λ (ts : List Term). ts ++ c.terms-2.result.now) c.new-terms.ensures.items) ∙ c.terms-2.ensures.weights

pub invariant_of-result : goal.invariant_of-result
invariant_of-result c =
    let own = kept (goal.at.invariant_of-result c).In_ok-extend_from_slice in
    let is = same (goal.at.invariant_of-result c).In_ok-part _ own in
    let given = same (goal.at.invariant_of-result c).In_ok-part _ c.terms.ensures.weights ∙ sym is in
    let part = rw c.in-Some.is at c.in_ok-part.ensures in
    let all = clauses_modest c.bound-bound.result c.terms.result.now (some (goal.at.invariant_of-result c).In-Some) (omega (arith, part.fits, c.requires.modest)) in
    record {
      proper = subst IsProper (sym is) c.bound-bound.ensures.proper;
      small = omega (arith, c.bound-bound.ensures.proper.heavy, c.bound-bound.ensures.value, c.requires.light);
      fresh_is = part.fresh_is ∙ ap generalized_fresh given;
      clauses_is = omega (arith, part.clauses_are, ap generalized_size given);
      light = omega (arith, ap weight own, c.requires.light);
      modest = omega (arith, all, part.clauses_are);
    }

pub returns-in-None-clause-over : goal.returns-in-None-clause-over
returns-in-None-clause-over c = omega (arith, rw c.in-None.is at c.in_ok-part.ensures, ap generalized_fresh (same (goal.at.returns-in-None-clause-over c).In_ok-part _ c.terms.ensures.weights))

pub returns : goal.returns
returns c =
    let is = same (goal.at.returns c).In_ok-part _ (kept (goal.at.returns c).In_ok-extend_from_slice) in
    let fits = (rw c.in-Some.is at c.in_ok-part.ensures).fits in
    let measured = same (goal.at.returns c).In_ok-part _ c.terms.ensures.weights in
    record {
      over = omega (arith, fits, ap generalized_fresh measured);
      constraint = is;
      fresh = ap generalized_fresh is;
      clauses = ap generalized_size is;
      list = λ first. ap (λ (m : BoundedSum). generalized_clauses m first) is;
    }

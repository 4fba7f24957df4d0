use Rattle.std.proofs.Common.{◌≡◌, ◌+◌, ℕ, List, length, map, ap, ◌∙◌, arith}
use Rattle.std.proofs.lemmas.Result.{IfOk-from_err}
use Rattle.std.proofs.lemmas.List.{length-map}
use Rattle.pb_base.specs.declared.literal.Term.{Term}
use Rattle.pb_norm.specs.BoundedSums.{BoundedSum, sum_within}
use Rattle.pb_totalizer.specs.Exact.{at_least, exact_clauses, exact_fresh, exact_size, literals_within}
use Rattle.pb_totalizer.specs.laws.ExactLaws.{exact_outputs}
use Rattle.pb_totalizer.specs.laws.UnitTerms.{unit_term, sum_is, sum_proper, units_weigh}
use Rattle.pb_totalizer.specs.declared.polarity.Polarity.TheVariants.{Both}
use Rattle.pb_totalizer.proofs.PartsCounted.{few_clauses}
use Rattle.pb_totalizer.proofs.exact.Exact.build.Goals as goal

pub size_of-size-requires : goal.size_of-size-requires
size_of-size-requires c =
    let same : c.in_ok-terms.terms.items ≡ map unit_term c.args.lits.now = c.in_ok-terms.ensures ∙ ap (map unit_term) c.as_slice.ensures in
    let long : length c.as_slice-2.result.now ≡ length c.args.lits.now = ap length c.as_slice-2.ensures.value ∙ ap length same ∙ length-map c.args.lits.now unit_term in
    record { some = omega (arith, long, c.requires.not_all); few = omega (arith, long, c.requires.few); small = omega (arith, c.requires.not_all, c.requires.few) }

pub returns-then-size-budget-clause-over : goal.returns-then-size-budget-clause-over
returns-then-size-budget-clause-over c =
    let ts = c.in_ok-terms.terms.items in
    let same : ts ≡ map unit_term c.args.lits.now = c.in_ok-terms.ensures ∙ ap (map unit_term) c.as_slice.ensures in
    let sum = sum_is ts c.args.lits.now c.args.number same in
    let here = ap (λ (us : List Term). exact_fresh (sum_within us c.args.number)) c.as_slice-2.ensures.value in
    omega (arith, c.size_of-size.ensures.fresh, here, ap exact_fresh sum, c.if-size-budget.true)

pub returns-in_err-terms : goal.returns-in_err-terms
returns-in_err-terms c =
    let is = c.from_residual.ensures.0 in
    record { over = IfOk-from_err _ _ is; most = IfOk-from_err _ _ is; least = IfOk-from_err _ _ is; fresh = IfOk-from_err _ _ is; clauses = IfOk-from_err _ _ is; list = IfOk-from_err _ _ is; outputs = IfOk-from_err _ _ is }

pub overflow_add-result : goal.overflow_add-result
overflow_add-result c =
    let ts = c.as_slice-2.result.now in
    let same : c.in_ok-terms.terms.items ≡ map unit_term c.args.lits.now = c.in_ok-terms.ensures ∙ ap (map unit_term) c.as_slice.ensures in
    let long : length ts ≡ length c.args.lits.now = ap length c.as_slice-2.ensures.value ∙ ap length same ∙ length-map c.args.lits.now unit_term in
    omega (arith, few_clauses Both c.args.number ts (omega (arith, long, c.requires.not_all)) (omega (arith, long, c.requires.few)), c.size_of-size.ensures.clauses)

pub invariant_of-result : goal.invariant_of-result
invariant_of-result c =
    let ts = c.in_ok-terms.terms.items in
    let ls = c.args.lits.now in
    let same : ts ≡ map unit_term ls = c.in_ok-terms.ensures ∙ ap (map unit_term) c.as_slice.ensures in
    let fresh = ap (λ (us : List Term). exact_fresh (sum_within us c.args.number)) c.as_slice-2.ensures.value in
    let size = ap (λ (us : List Term). exact_size (sum_within us c.args.number)) c.as_slice-2.ensures.value in
    record {
      units = units_weigh ts ls same;
      proper = sum_proper ts ls c.args.number same c.requires.distinct c.requires.some c.requires.not_all c.requires.few;
      few = omega (arith, ap length same, length-map ls unit_term, c.requires.few);
      fresh_is = c.size_of-size.ensures.fresh ∙ fresh;
      clauses_is = ap (λ (n : ℕ). n + 2) c.size_of-size.ensures.clauses ∙ size;
    }

pub returns : goal.returns
returns c =
    let ts = c.in_ok-terms.terms.items in
    let same : ts ≡ map unit_term c.args.lits.now = c.in_ok-terms.ensures ∙ ap (map unit_term) c.as_slice.ensures in
    let sum = sum_is ts c.args.lits.now c.args.number same in
    let here = ap (λ (us : List Term). exact_fresh (sum_within us c.args.number)) c.as_slice-2.ensures.value in
    record {
      over = omega (arith, c.size_of-size.ensures.fresh, here, ap exact_fresh sum, c.if-size-budget.false);
      most = sum;
      least = ap at_least sum;
      fresh = ap exact_fresh sum;
      clauses = ap exact_size sum;
      list = λ first. ap (λ (m : BoundedSum). exact_clauses m first) sum;
      outputs = λ first. exact_outputs (literals_within c.args.lits.now c.args.number) first;
    }

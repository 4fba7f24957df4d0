use Rattle.std.proofs.Common.{◌≡◌, ◌-◌, [], replicate, refl, sym, ap, ◌∙◌, length, arith}
use Rattle.std.specs.Int.RustNames.{unsigned_abs}
use Rattle.pb_norm.specs.Constraints.{weight, weighted}
use Rattle.std.proofs.lemmas.List.{length-map}
use Rattle.std.proofs.lemmas.Result.{IfOk-from_err}
use Rattle.pb_diagram.proofs.DiagramSteps.{weight_after}
use Rattle.pb_diagram.specs.Clauses.{node_count}
use Rattle.pb_diagram.proofs.SearchReads.{none_known, some_terms, starts}
use Rattle.pb_diagram.proofs.WantSteps.{begun}
use Rattle.pb_diagram.proofs.search.Search.start.Goals as goal

pub returns-clause-going : goal.returns-clause-going
returns-clause-going c =
    let of = c.args.of.now in
    let terms = c.terms-terms.result.now in
    let same = c.terms-terms.ensures.weights in
    let t = c.index-terms-0.result in
    let left = c.weight_of.result - c.weight.result in
    let none = c.in_ok-levels.ensures ∙ ap (λ n. replicate n []) (sym (length-map terms weighted) ∙ ap length same) in
    let left_is : left ≡ weight of.terms - unsigned_abs t.coef = ap (λ n. n - c.weight.result) (c.weight_of.ensures ∙ ap weight same) ∙ ap (λ n. weight of.terms - n) c.weight.ensures in
    let levels = c.in_ok-levels.levels.items in
    let first = begun of levels c.in_ok-wanted.wanted.items _ left c.in_ok-wanted.ensures.items c.bound.ensures.value refl (starts of levels left terms t same c.index-terms-0.is c.terms-terms.ensures.proper.heavy none left_is) in
    record { searching = first.0; kept = first.1 }

pub returns-in_err-levels : goal.returns-in_err-levels
returns-in_err-levels c = let no = c.from_residual.ensures.0 in record { going = IfOk-from_err _ _ no; none = IfOk-from_err _ _ no }

pub returns-in_err-wanted : goal.returns-in_err-wanted
returns-in_err-wanted c = let no = c.from_residual-in_err-wanted.ensures.0 in record { going = IfOk-from_err _ _ no; none = IfOk-from_err _ _ no }

pub bounds-terms-0 : goal.bounds-terms-0
bounds-terms-0 c = some_terms c.terms-terms.result.now _ c.args.of.now.bound c.terms-terms.ensures.weights c.terms-terms.ensures.proper.heavy

pub overflow_sub-left : goal.overflow_sub-left
overflow_sub-left c =
    let some = some_terms c.terms-terms.result.now _ c.args.of.now.bound c.terms-terms.ensures.weights c.terms-terms.ensures.proper.heavy in
    omega (arith, weight_after c.terms-terms.result.now 0 c.index-terms-0.result c.weight.result c.weight_of.result some c.index-terms-0.is c.weight.ensures c.weight_of.ensures)

pub returns-clause-none : goal.returns-clause-none
returns-clause-none c = ap node_count c.in_ok-levels.ensures ∙ none_known (length c.terms-terms.result.now)

pub weight_of-requires : goal.weight_of-requires
weight_of-requires c = omega (arith, ap weight c.terms-terms.ensures.weights, c.requires)

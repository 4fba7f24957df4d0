use Rattle.std.proofs.Common.{◌≡◌, ◌≤◌, ◌+◌, ◌-◌, List, length, sym, ap, ◌∙◌, subst, arith}
use Rattle.pb_norm.specs.Constraints.{Weighted, weights}
use Rattle.pb_gentot.specs.BoundTable.{table_values, table_output, table_fresh}
use Rattle.pb_gentot.proofs.KeptTables.{fresh_output, root_fresh, single_output}
use Rattle.pb_gentot.proofs.bound_table.BoundTable.outputs.Goals.{After-as_slice-terms}
use Rattle.pb_gentot.proofs.bound_table.BoundTable.outputs.Goals as goal

-- the terms as the code has them
view : (c : After-as_slice-terms) → weights c.as_slice-terms.result.now ≡ c.args.self.now
view c = ap weights c.as_slice-terms.ensures.value ∙ c.self.view_is

some : (c : After-as_slice-terms) → 1 ≤ length (table_values (weights c.as_slice-terms.result.now))
some c = subst (λ (us : List Weighted). 1 ≤ length (table_values us)) (sym (view c)) c.requires.some

pub returns-then-terms-eq1-clause-literals : goal.returns-then-terms-eq1-clause-literals
returns-then-terms-eq1-clause-literals c =
    single_output c.as_slice-terms.result.now c.index-terms-0.result c.args.first (table_values c.args.self.now) c.if-terms-eq1.true
    ∙ ap (λ (ws : List Weighted). table_output ws c.args.first) (view (goal.at.returns-then-terms-eq1-clause-literals c).After-as_slice-terms)

pub overflow_sub-result : goal.overflow_sub-result
overflow_sub-result c =
    let at = (goal.at.overflow_sub-result c).After-as_slice-terms in
    omega (arith, root_fresh c.as_slice-terms.result.now (some at) c.if-terms-eq1.false, c.len.ensures, ap (λ (us : List Weighted). length (table_values us)) (view at), ap table_fresh (view at), ap table_fresh c.self.view_is, c.self.invariant.fresh_is)

pub returns-clause-room : goal.returns-clause-room
returns-clause-room c =
    let at = (goal.at.returns-clause-room c).After-as_slice-terms in
    let within = root_fresh c.as_slice-terms.result.now (some at) c.if-terms-eq1.false in
    let count = ap (λ (us : List Weighted). length (table_values us)) (view at) in
    (omega (arith, c.requires.low), omega (arith, within, count, ap table_fresh (view at), ap table_fresh c.self.view_is, c.len.ensures, c.self.invariant.fresh_is, c.requires.fits))

pub returns-clause-literals : goal.returns-clause-literals
returns-clause-literals c =
    let ts = c.as_slice-terms.result.now in
    let at = (goal.at.returns-clause-literals c).After-as_slice-terms in
    let count = ap (λ (us : List Weighted). length (table_values us)) (view at) in
    let base = c.args.first + (c.self.inside.fresh - c.len.result) in
    let is : base ≡ c.args.first + (table_fresh (weights ts) - length (table_values (weights ts))) =
    omega (arith, count, c.len.ensures, ap table_fresh (view at), ap table_fresh c.self.view_is, c.self.invariant.fresh_is) in
    fresh_output ts c.args.first base (table_values c.args.self.now) (some at) c.if-terms-eq1.false (ap table_values (sym (view at))) is ∙ ap (λ (us : List Weighted). table_output us c.args.first) (view at)

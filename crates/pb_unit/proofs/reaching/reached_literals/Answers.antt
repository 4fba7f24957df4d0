use Rattle.std.proofs.Common.{sym, subst}
use Rattle.pb_unit.specs.Reaching.{AreSorted}
use Rattle.pb_unit.proofs.Probed.{clauses_answer}
use Rattle.pb_unit.proofs.reaching.reached_literals.Goals as goal

pub reached_over-requires : goal.reached_over-requires
reached_over-requires c =
    let is_sorted : AreSorted c.args.lits.now c.as_slice.result.now = subst (AreSorted c.args.lits.now) (sym c.as_slice.ensures.value) (rw c.in-Some.is at c.in_ok-sorted.ensures) in
    record { ascending = is_sorted.ascending }

pub returns : goal.returns
returns c = λ clauses are.
    let is_sorted : AreSorted c.args.lits.now c.as_slice.result.now = subst (AreSorted c.args.lits.now) (sym c.as_slice.ensures.value) (rw c.in-Some.is at c.in_ok-sorted.ensures) in
    clauses_answer c.args.forms clauses are c.args.lits.now c.as_slice.result.now is_sorted c.reached_over.result (λ v. v.items) c.reached_over.ensures

use Rattle.std.proofs.Common.{ℕ, List, [], ◌<◌, length, ap, arith, eqb-true, false-eqb, length-set, subst, sym, ◌∙◌}
use Rattle.std.specs.Prelude.{OnOk}
use Rattle.std.proofs.lemmas.Result.{on_ok_weaker}
use Rattle.std.proofs.lemmas.List.{nil_from_length}
use Rattle.pb_diagram.specs.declared.interval.Interval.{Interval}
use Rattle.pb_diagram.specs.inner.Known.{AreRuns, intervals_in}
use Rattle.pb_diagram.specs.laws.Search.{IsGrown}
use Rattle.pb_diagram.proofs.KnownFacts.{IsAt, is_at, run_elsewhere, run_grown, run_joined, run_kept}
use Rattle.pb_diagram.proofs.known.Known.insert.Goals.{After-index_mut}
use Rattle.pb_diagram.proofs.known.Known.insert.Goals as goal

pub run_of-place-requires : goal.run_of-place-requires
run_of-place-requires c = subst AreRuns (sym c.as_slice.ensures.value) c.self.invariant

-- the run in which the interval goes
at : (c : After-index_mut) → IsAt c.self.inside.runs.items c.args.interval c.run_of-place.result c.index_mut.result.now
at c =
    let some = false-eqb c.self.inside.runs.len 0 (sym c.if-is_empty.false ∙ c.is_empty.ensures) in
    is_at c.self.inside.runs.items c.as_slice.result.now c.args.self.now c.index_mut.result.now c.args.interval c.run_of-place.result c.self.invariant c.as_slice.ensures.value c.self.view_is (omega (arith, some, c.self.inside.runs.ok.0)) c.run_of-place.ensures c.index_mut.ensures.value c.requires.rises c.requires.elsewhere

pub index_mut-requires : goal.index_mut-requires
index_mut-requires c =
    let some = false-eqb c.self.inside.runs.len 0 (sym c.if-is_empty.false ∙ c.is_empty.ensures) in
    omega (arith, c.run_of-place.ensures.within (omega (arith, some, ap length c.as_slice.ensures.value, c.self.inside.runs.ok.0)), ap length c.as_slice.ensures.value, c.self.inside.runs.ok.0)

pub insert-requires-clause-elsewhere : goal.insert-requires-clause-elsewhere
insert-requires-clause-elsewhere c = run_elsewhere _ _ _ _ [] (at (goal.at.insert-requires-clause-elsewhere c).After-index_mut)

pub invariant_of-self-in_err-insert : goal.invariant_of-self-in_err-insert
invariant_of-self-in_err-insert c = run_kept _ _ _ _ c.insert.new.self (at (goal.at.invariant_of-self-in_err-insert c).After-index_mut) c.in_err-insert.ensures.kept

pub split-requires-clause-runs : goal.split-requires-clause-runs
split-requires-clause-runs c = run_joined _ _ _ _ c.insert.new.self (at (goal.at.split-requires-clause-runs c).After-index_mut) c.in_ok-insert.ensures.grown

pub split-requires-clause-within : goal.split-requires-clause-within
split-requires-clause-within c =
    subst (λ (n : ℕ). c.run_of-place.result < n) (sym (length-set c.self.inside.runs.items c.run_of-place.result c.insert.new.self)) (at (goal.at.split-requires-clause-within c).After-index_mut).within

pub returns : goal.returns
returns c =
    let grown = run_grown _ _ _ _ c.insert.new.self (at (goal.at.returns c).After-index_mut) c.in_ok-insert.ensures.grown in
    on_ok_weaker c.split.result (λ same. subst (λ (l : List Interval). IsGrown l c.args.interval (intervals_in c.split.new.runs.items)) c.self.view_is (subst (IsGrown (intervals_in c.self.inside.runs.items) c.args.interval) (sym same) grown)) c.split.ensures.same

pub begin-requires-clause-none : goal.begin-requires-clause-none
begin-requires-clause-none c = nil_from_length c.self.inside.runs.items (omega (arith, eqb-true c.self.inside.runs.len 0 (sym c.is_empty.ensures ∙ c.if-is_empty.true), c.self.inside.runs.ok.0))

pub returns-then-is_empty : goal.returns-then-is_empty
returns-then-is_empty c = subst (λ (l : List Interval). OnOk c.begin.result (IsGrown l c.args.interval (intervals_in c.begin.new.runs.items))) c.self.view_is c.begin.ensures.grown

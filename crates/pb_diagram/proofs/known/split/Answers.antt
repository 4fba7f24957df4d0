use Rattle.std.proofs.Common.{◌≡◌, ℕ, List, get_or, set, subst, sym, ap, arith, ◌∙◌}
use Rattle.std.proofs.lemmas.List.{set-get_or}
use Rattle.pb_diagram.specs.declared.interval.Interval.{Interval}
use Rattle.pb_diagram.specs.inner.Known.{AreRuns, intervals_in}
use Rattle.pb_diagram.proofs.KnownFacts.{runs_cut, runs_split, same_split}
use Rattle.pb_diagram.proofs.known.split.Goals as goal

pub returns-in_err-insert-clause-runs : goal.returns-in_err-insert-clause-runs
returns-in_err-insert-clause-runs c = subst AreRuns (sym c.in_err-insert.ensures.items) (runs_cut _ _ _ _ _ c.requires.within c.index_mut-run.ensures.value c.in_ok-lower.ensures.parts c.requires.runs)

pub returns-clause-same : goal.returns-clause-same
returns-clause-same c = ap intervals_in c.in_ok-insert.ensures.items ∙ same_split _ _ _ _ _ c.requires.within c.index_mut-run.ensures.value c.in_ok-lower.ensures.parts

pub returns-clause-runs : goal.returns-clause-runs
returns-clause-runs c = subst AreRuns (sym c.in_ok-insert.ensures.items) (runs_split _ _ _ _ _ c.requires.within c.index_mut-run.ensures.value c.in_ok-lower.ensures.parts c.requires.runs)

-- a run that was looked at is as it was
same : (rs : List (List Interval)) (place : ℕ) (run : List Interval) → run ≡ get_or rs place run → set rs place run ≡ rs
same rs place run is = ap (set rs place) is ∙ set-get_or rs place run

pub returns-then-len-le-MOST-clause-same : goal.returns-then-len-le-MOST-clause-same
returns-then-len-le-MOST-clause-same c = ap intervals_in (same c.args.runs.now.items c.args.place c.index_mut-run.result.now c.index_mut-run.ensures.value)

pub returns-then-len-le-MOST-clause-runs : goal.returns-then-len-le-MOST-clause-runs
returns-then-len-le-MOST-clause-runs c = subst AreRuns (sym (same c.args.runs.now.items c.args.place c.index_mut-run.result.now c.index_mut-run.ensures.value)) c.requires.runs

pub split_off-requires-clause-others : goal.split_off-requires-clause-others
split_off-requires-clause-others c = omega (arith, c.len.ensures, c.if-len-le-MOST.false)

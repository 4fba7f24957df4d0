use Rattle.std.proofs.Common.{◌≡◌, ◌++◌, take}
use Rattle.pb_model.specs.SolutionText.{value_words}
use Rattle.pb_model.proofs.solution.push_values.Given as goal

abbrev pub invariant-loop-place : goal.invariant-loop-place
invariant-loop-place l = l.out.items ≡ l.initial.out.items ++ value_words l.problem 1 (take l.place l.values)

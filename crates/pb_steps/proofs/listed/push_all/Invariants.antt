use Rattle.std.proofs.Common.{◌≡◌, ◌++◌, take}
use Rattle.std.specs.List.{flat_map}
use Rattle.pb_steps.specs.StepText.{with_blanks}
use Rattle.pb_steps.proofs.listed.push_all.Given as goal

abbrev pub invariant-loop-item : goal.invariant-loop-item
invariant-loop-item g l = l.out.items ≡ l.initial.out.items ++ flat_map (λ x. with_blanks (g.T.Listed.symbols x)) (take l.item-index l.items)

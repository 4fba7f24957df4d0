use Rattle.std.proofs.Common.{◌^◌, ◌∙◌, ◌∷◌, List, All, rules, sym, subst, arith}
use Rattle.std.proofs.lemmas.List.Elements.{All-head}
use Rattle.pb_base.specs.declared.problem.Raw.{Raw}
use Rattle.pb_base.specs.Problems.{IsWithinLimits, StaysBelow}
use Rattle.tests_calls.proofs.samples.linear.Goals as goal

pub normalize-requires : goal.normalize-requires
normalize-requires c =
    let within : IsWithinLimits c.in_ok-problem.problem = search rules in
    let first = c.in-Ok-true.ensures.more c.in-Ok-true.field-0-test in
    let all : All (StaysBelow (2 ^ 100)) (c.next_into.new.raw ∷ c.next_into.new.self) = subst (λ (ss : List Raw). All (StaysBelow (2 ^ 100)) ss) (sym c.iter.ensures ∙ first) within.numbers in
    let small = All-head (StaysBelow (2 ^ 100)) c.next_into.new.raw c.next_into.new.self all in
    omega (arith, small)

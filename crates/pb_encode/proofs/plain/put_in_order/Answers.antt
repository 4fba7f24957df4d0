use Rattle.std.proofs.Common.{rules, nat_lt, subst, List}
use Rattle.std.proofs.lemmas.List.Sorted.{answers_always}
use Rattle.pb_base.specs.declared.literal.Lit.{Lit}
use Rattle.pb_norm.specs.ClauseForm.{one_of}
use Rattle.pb_norm.specs.Constraints.{IsAscending, weights}
use Rattle.std.specs.Prelude.{map}
use Rattle.pb_encode.proofs.PlainClauses.{ones-from_answer}
use Rattle.pb_encode.proofs.plain.put_in_order.Goals as goal

pub returns-clause-once : goal.returns-clause-once
returns-clause-once c = λ holds.
    subst (λ (ls : List Lit). IsAscending (weights (map one_of ls))) c.deref.ensures.value
    (ones-from_answer c.deref.result.now c.is_sorted_by.result (c.is_sorted_by.ensures.cases (λ k l. nat_lt k.var l.var) (answers_always _ _ _ (λ f a r q k. search rules))) holds)

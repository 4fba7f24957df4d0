use Rattle.std.proofs.Common.{rules, nat_lt}
use Rattle.std.proofs.lemmas.List.Sorted.{answers_always}
use Rattle.pb_rules.proofs.Gone.{ascending_from_answer}
use Rattle.pb_rules.proofs.del.ascend.Goals as goal

pub returns : goal.returns
returns c = ascending_from_answer c.args.ids.now c.is_sorted_by.result (c.is_sorted_by.ensures.cases (λ i j. nat_lt i j) (answers_always _ _ _ (λ f a r q k. search rules)))

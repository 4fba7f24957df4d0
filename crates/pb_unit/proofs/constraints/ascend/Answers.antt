use Rattle.std.proofs.Common.{rules, nat_lt}
use Rattle.std.proofs.lemmas.List.Sorted.{answers_always}
use Rattle.pb_unit.proofs.Clausal.{ascending_answer}
use Rattle.pb_unit.proofs.constraints.ascend.Goals as goal

pub returns : goal.returns
returns c = ascending_answer c.args.lits.now c.is_sorted_by.result (c.is_sorted_by.ensures.cases (λ k l. nat_lt k.var l.var) (answers_always _ _ _ (λ f a r q k. search rules)))

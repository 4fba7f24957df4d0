use Rattle.std.proofs.Common.{◌^◌, List, All, subst}
use Rattle.std.proofs.lemmas.List.Elements.{All-tail}
use Rattle.pb_base.specs.declared.problem.Raw.{Raw}
use Rattle.pb_base.specs.Problems.{StaysBelow}
use Rattle.pb_norm.proofs.Loaded.{loaded_first}
use Rattle.pb_norm.proofs.loading.load_statements.Goals as goal

pub loop-statement-preserved : goal.loop-statement-preserved
loop-statement-preserved c =
    let first = c.in_ok-next_into.ensures.more c.if-branch.true in
    let left : List Raw = c.loop-statement.left in
    record {
      numbers = All-tail (StaysBelow (2 ^ 126)) c.next_into.new.raw c.next_into.new.self (subst (λ (ss : List Raw). All (StaysBelow (2 ^ 126)) ss) first c.loop-statement.invariant.numbers);
      whole = loaded_first left c.next_into.new.self c.next_into.new.raw c.loop-statement.list.items c.load_statement.new.list.items _ first c.loop-statement.invariant.whole c.in_ok-load_statement.ensures;
    }

use Rattle.std.proofs.Common.{ltb, rules}
use Rattle.std.proofs.lemmas.List.Sorted.{IsPartitionPoint-from_clause}
use Rattle.pb_base.specs.declared.literal.Term.{Term}
use Rattle.pb_operations.proofs.Zeroed.{vars-part, part-point}
use Rattle.pb_operations.proofs.terms.place_for.Goals as goal

pub returns-clause-point : goal.returns-clause-point
returns-clause-point c =
    let terms = c.args.terms.now in
    let var = c.args.var in
    part-point terms var c.partition_point.result
    (IsPartitionPoint-from_clause (λ (t : Term). ltb t.lit.var var) terms c.partition_point.result c.partition_point.ensures.partitioned (vars-part terms var c.requires) (λ a r f q. search rules))

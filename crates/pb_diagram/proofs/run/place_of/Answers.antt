use Rattle.std.proofs.Common.{ltb, rules}
use Rattle.std.proofs.lemmas.List.Sorted.{IsPartitionPoint-from_clause}
use Rattle.pb_diagram.specs.declared.interval.Interval.{Interval}
use Rattle.pb_diagram.proofs.RunFacts.{begins_part, place_found}
use Rattle.pb_diagram.proofs.run.place_of.Goals as goal

pub returns : goal.returns
returns c =
    let falling = c.args.falling.now in
    let residue = c.args.residue in
    place_found falling residue c.partition_point.result c.partition_point.ensures.bound
    (IsPartitionPoint-from_clause (λ (g : Interval). ltb residue g.low) falling c.partition_point.result c.partition_point.ensures.partitioned (begins_part falling residue c.requires) (λ a r f q. search rules))

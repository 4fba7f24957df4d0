use Rattle.std.proofs.Common.{leb, rules}
use Rattle.std.proofs.lemmas.List.Sorted.{IsPartitionPoint-from_clause}
use Rattle.pb_diagram.specs.declared.interval.Interval.{Interval}
use Rattle.pb_diagram.proofs.Places.{ends_part, place_is}
use Rattle.pb_diagram.proofs.layer.Layer.child.Goals as goal

pub returns : goal.returns
returns c =
    let nodes = c.args.self.now.next.now in
    let residue = c.args.residue in
    place_is nodes residue c.partition_point.result c.args.self.now.order c.requires c.partition_point.ensures.bound
    (IsPartitionPoint-from_clause (λ (g : Interval). leb g.top residue) nodes c.partition_point.result c.partition_point.ensures.partitioned (ends_part nodes residue c.args.self.now.order) (λ a r f q. search rules))

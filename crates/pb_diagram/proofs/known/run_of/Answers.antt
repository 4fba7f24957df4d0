use Rattle.std.proofs.Common.{List, rules, subst, sym, ℕ}
use Rattle.std.proofs.lemmas.List.Sorted.{IsPartitionPoint-from_clause}
use Rattle.pb_diagram.specs.declared.interval.Interval.{Interval}
use Rattle.pb_diagram.specs.inner.Known.{IsRunOf, begins_by}
use Rattle.pb_diagram.proofs.KnownFacts.{begins_part, run_found}
use Rattle.pb_diagram.proofs.known.run_of.Goals as goal

pub returns : goal.returns
returns c =
    let runs = c.args.runs.now in
    let residue = c.args.residue in
    let point = c.partition_point.result in
    subst (λ (n : ℕ). IsRunOf runs residue n) (sym c.saturating_sub.ensures)
    (run_found runs residue point c.partition_point.ensures.bound
    (IsPartitionPoint-from_clause (λ (run : List Interval). begins_by run residue) runs point c.partition_point.ensures.partitioned (begins_part runs residue c.requires) (λ a r f q. search rules)))

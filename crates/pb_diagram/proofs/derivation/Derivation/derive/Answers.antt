use Rattle.std.proofs.Common.{◌≡◌, ◌+◌, ◌*◌, ◌∙◌, ℕ, List, length, sym, ap, subst, arith, map}
use Rattle.pb_base.specs.declared.literal.Term.{Term}
use Rattle.pb_norm.specs.Constraints.{weights}
use Rattle.pb_norm.specs.BoundedSums.{sum_within}
use Rattle.pb_derive.specs.Deletions.{deletion_steps}
use Rattle.pb_derive.specs.Reifications.{Reification, reification_steps}
use Rattle.pb_derive.specs.Phases.{phases}
use Rattle.pb_derive.specs.Justifications.{by_justification}
use Rattle.pb_family.specs.StepSinks.{StepState, TakesSteps}
use Rattle.pb_family.proofs.Deriving.{steps_same}
use Rattle.pb_family.proofs.FlatPieces.{justifications_next}
use Rattle.pb_family.proofs.HandedPhases.{stopped_in_reifications, stopped_in_claims, ended_by_deletions}
use Rattle.pb_family.proofs.SameSteps.{HaveSameSteps}
use Rattle.pb_family.proofs.Sequence.{reifications_ids}
use Rattle.pb_diagram.specs.declared.interval.Interval.{Interval}
use Rattle.pb_diagram.specs.Clauses.{diagram_fresh, node_count}
use Rattle.pb_diagram.specs.DiagramSteps.{node_reifications, justifications_over}
use Rattle.pb_diagram.specs.Levels.{levels_of}
use Rattle.pb_diagram.specs.laws.DiagramDerives.{count_reifications}
use Rattle.pb_diagram.proofs.WholeSteps.{diagram_same, justifications_few}
use Rattle.pb_diagram.proofs.derivation.Derivation.derive.Goals as goal

-- all steps, over levels and a first id that are given another way
same_phases : (ts : List Term) (bound : ℕ) (ls : List (List Interval)) (first own next : ℕ) → ls ≡ levels_of (sum_within ts bound)
    → phases next (node_reifications first (weights ts) ls) (map by_justification (justifications_over (weights ts) ls first next own)) ≡ phases next (node_reifications first (weights ts) (levels_of (sum_within ts bound))) (map by_justification (justifications_over (weights ts) (levels_of (sum_within ts bound)) first next own))
same_phases ts bound ls first own next e = λ x. phases next (node_reifications first (weights ts) (e x)) (map by_justification (justifications_over (weights ts) (e x) first next own))

same_at : (ts : List Term) (ls : List (List Interval)) (first own base next : ℕ) → base ≡ next → HaveSameSteps (justifications_over (weights ts) ls 0 base own) (justifications_over (weights ts) ls first next own)
same_at ts ls first own base next e = subst (λ (b : ℕ). HaveSameSteps (justifications_over (weights ts) ls 0 base own) (justifications_over (weights ts) ls first b own)) e (diagram_same 0 first base own (weights ts) ls)

count_of : (ts : List Term) (bound first : ℕ) (ls : List (List Interval)) → ls ≡ levels_of (sum_within ts bound) → length (node_reifications first (weights ts) ls) ≡ diagram_fresh (sum_within ts bound)
count_of ts bound first ls e = ap (λ (l : List (List Interval)). length (node_reifications first (weights ts) l)) e ∙ count_reifications (sum_within ts bound) first

meant_next : {R : Type 0} (ms : List Reification) (old mid : StepState R) → TakesSteps (reification_steps old.next ms) old mid → mid.next ≡ old.next + 2 * length ms
meant_next ms old mid h = omega (arith, h.ids, reifications_ids old.next ms)

pub returns-in_err-define_nodes : goal.returns-in_err-define_nodes
returns-in_err-define_nodes g c =
    let self = c.args.self.now in
    let old = g.T.StepSink.state c.args.sink.now in
    let after = g.T.StepSink.state c.define_nodes.new.sink in
    steps_same c.from_residual.result _ _ old after (same_phases self.shape.terms.now self.shape.bound self.shape.levels.now self.first self.own old.next self.shape.nodes)
    (stopped_in_reifications c.from_residual.result _ _ _ (same_at self.shape.terms.now self.shape.levels.now self.first self.own self.base old.next c.requires) old _ after c.from_residual.ensures.1 c.in_err-define_nodes.ensures)

pub derive_clauses-requires : goal.derive_clauses-requires
derive_clauses-requires g c =
    let ts = c.args.self.now.shape.terms.now in
    let ls = c.args.self.now.shape.levels.now in
    let next = meant_next (node_reifications c.args.self.now.first (weights ts) ls) (g.T.StepSink.state c.args.sink.now) (g.T.StepSink.state c.define_nodes.new.sink) c.in_ok-define_nodes.ensures in
    record { few = omega (arith, next, count_of ts c.args.self.now.shape.bound c.args.self.now.first ls c.args.self.now.shape.nodes, c.args.self.now.fits, c.args.self.now.modest, c.requires) }

pub returns-in_err-derive_clauses : goal.returns-in_err-derive_clauses
returns-in_err-derive_clauses g c =
    let self = c.args.self.now in
    let old = g.T.StepSink.state c.args.sink.now in
    let after = g.T.StepSink.state c.derive_clauses.new.sink in
    let stopped = c.from_residual-in_err-derive_clauses in
    steps_same stopped.result _ _ old after (same_phases self.shape.terms.now self.shape.bound self.shape.levels.now self.first self.own old.next self.shape.nodes)
    (stopped_in_claims stopped.result _ _ _ (same_at self.shape.terms.now self.shape.levels.now self.first self.own self.base old.next c.requires) old _ (g.T.StepSink.state c.define_nodes.new.sink) after stopped.ensures.1 c.in_ok-define_nodes.ensures c.in_err-derive_clauses.ensures)

pub derive_deletions-requires-clause-few : goal.derive_deletions-requires-clause-few
derive_deletions-requires-clause-few g c =
    let ts = c.args.self.now.shape.terms.now in
    let ls = c.args.self.now.shape.levels.now in
    let mid = g.T.StepSink.state c.define_nodes.new.sink in
    let next = meant_next (node_reifications c.args.self.now.first (weights ts) ls) (g.T.StepSink.state c.args.sink.now) mid c.in_ok-define_nodes.ensures in
    let rs = justifications_over (weights ts) ls 0 c.args.self.now.base c.args.self.now.own in
    let last = justifications_next rs mid (g.T.StepSink.state c.derive_clauses.new.sink) c.in_ok-derive_clauses.ensures in
    omega (arith, next, last, count_of ts c.args.self.now.shape.bound c.args.self.now.first ls c.args.self.now.shape.nodes, ap node_count c.args.self.now.shape.nodes, justifications_few 0 c.args.self.now.base c.args.self.now.own (weights ts) ls, c.args.self.now.fits, c.args.self.now.modest, c.requires)

pub returns : goal.returns
returns g c =
    let self = c.args.self.now in
    let old = g.T.StepSink.state c.args.sink.now in
    let last = g.T.StepSink.state c.derive_clauses.new.sink in
    let new = g.T.StepSink.state c.derive_deletions.new.sink in
    let r = c.derive_deletions.result in
    let count = count_of self.shape.terms.now self.shape.bound self.first self.shape.levels.now self.shape.nodes in
    steps_same r _ _ old new (same_phases self.shape.terms.now self.shape.bound self.shape.levels.now self.first self.own old.next self.shape.nodes)
    (ended_by_deletions r _ _ _ (same_at self.shape.terms.now self.shape.levels.now self.first self.own self.base old.next c.requires) old (g.T.StepSink.state c.define_nodes.new.sink) last new c.in_ok-define_nodes.ensures c.in_ok-derive_clauses.ensures
    (steps_same r _ _ last new (λ x. deletion_steps 2 (c.requires x) ((self.shape.count ∙ sym count) x)) c.derive_deletions.ensures))

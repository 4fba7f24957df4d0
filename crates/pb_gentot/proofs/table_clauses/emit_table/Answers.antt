use Rattle.std.proofs.Common.{◌≡◌, List, length, refl, subst, sym, ◌∙◌, arith, eqb-true, false-eqb}
use Rattle.pb_base.specs.declared.literal.Lit.{Lit}
use Rattle.pb_norm.specs.Constraints.{weights}
use Rattle.pb_family.specs.Handing.{Hands}
use Rattle.pb_family.proofs.Emission.{emitting_starts, emitting_step, hands_if_memory, hands_last}
use Rattle.pb_family.proofs.Stopping.{stops_fault}
use Rattle.pb_family.proofs.Taking.{takes_nothing}
use Rattle.pb_tree.specs.Tree.{tree_of}
use Rattle.pb_tree.specs.Scheme.{values, output, clauses_of}
use Rattle.pb_gentot.specs.inner.KeptTables.{clauses_by}
use Rattle.pb_gentot.specs.inner.Nodes.{part_output}
use Rattle.pb_gentot.specs.Generalized.{generalized}
use Rattle.pb_gentot.proofs.KeptTables.{no_clauses}
use Rattle.pb_gentot.proofs.Neighbours.{clauses_between}
use Rattle.pb_gentot.proofs.table_clauses.emit_table.Goals as goal

pub returns-then-is_empty : goal.returns-then-is_empty
returns-then-is_empty g c =
    let none : length c.args.terms.now ≡ 0 = eqb-true _ 0 (sym c.is_empty.ensures ∙ c.if-is_empty.true) in
    rw (no_clauses c.args.bound c.args.terms.now c.args.first none) (takes_nothing (g.S.ClauseSink.state c.args.sink.now))

pub invariant_of-whole : goal.invariant_of-whole
invariant_of-whole g c =
    let some = false-eqb (length c.args.terms.now) 0 (sym c.if-is_empty.false ∙ c.is_empty.ensures) in
    record { whole = record { some = omega (arith, some); small = c.requires.small; positive = c.requires.positive; light = c.requires.light; low = c.requires.low; fits = c.requires.fits } }

pub returns-in_err-root : goal.returns-in_err-root
returns-in_err-root g c =
    let s = generalized c.args.bound in
    let t = tree_of (weights c.args.terms.now) in
    stops_fault {all = clauses_by c.args.bound c.args.terms.now c.args.first} c.from_residual.result _ (clauses_of s t c.args.first) _ _ c.from_residual.ensures.1 (emitting_starts _ _) c.in_err-root.ensures.hands

pub returns : goal.returns
returns g c =
    let s = generalized c.args.bound in
    let t = tree_of (weights c.args.terms.now) in
    let mid = g.S.ClauseSink.state c.emit_nodes.new.sink in
    let new = g.S.ClauseSink.state c.emit_neighbours.new.sink in
    let between = clauses_between (output s t c.args.first) (values s t) in
    let same : clauses_between (part_output c.in_ok-root.root) c.in_ok-root.root.values.items ≡ between = λ i. clauses_between (c.in_ok-root.ensures.emitted.outputs_are i) (c.in_ok-root.ensures.emitted.values_are i) in
    let handed = subst (λ (cs : List (List Lit)). Hands cs c.emit_neighbours.result mid new) same c.emit_neighbours.ensures in
    let nodes = emitting_step {all = clauses_by c.args.bound c.args.terms.now c.args.first} (clauses_of s t c.args.first) _ (emitting_starts _ _) c.in_ok-root.ensures.hands in
    hands_if_memory _ _ _ _ _ _ c.sink_result.ensures refl (hands_last c.emit_neighbours.result between new nodes handed)

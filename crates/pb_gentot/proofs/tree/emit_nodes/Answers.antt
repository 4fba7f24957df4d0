use Rattle.std.proofs.Common.{◌≡◌, ◌+◌, [], List, sym, ap, ◌∙◌, arith, append-nil}
use Rattle.pb_base.specs.declared.literal.Lit.{Lit}
use Rattle.pb_norm.specs.Constraints.{weights}
use Rattle.pb_family.proofs.Emission.{emitting_from, takes_as}
use Rattle.pb_family.proofs.Stopping.{stops_fault}
use Rattle.pb_tree.specs.Scheme.{output, own_of, clauses_of}
use Rattle.pb_tree.specs.Tree.{tree_of}
use Rattle.pb_tree.proofs.Walking.{from_first}
use Rattle.pb_gentot.specs.Generalized.{generalized}
use Rattle.pb_gentot.proofs.Emitting.{stops_as}
use Rattle.pb_gentot.proofs.WholeTrees.{whole_suits}
use Rattle.pb_gentot.proofs.tree.emit_nodes.Goals as goal

pub walk_along-requires-clause-suits : goal.walk_along-requires-clause-suits
walk_along-requires-clause-suits g c = whole_suits c.args.whole.now.whole

pub returns-in_err-root-clause-hands : goal.returns-in_err-root-clause-hands
returns-in_err-root-clause-hands g c =
    let w = c.args.whole.now in
    let s = generalized w.bound in
    let t = tree_of (weights w.terms.now) in
    let old = g.S.ClauseSink.state c.args.sink.now in
    let new = g.S.ClauseSink.state c.walk_along.new.sink in
    let all : List (List Lit) = clauses_of s t w.first in
    stops_fault {all = all} c.from_residual.result _ all [] new c.from_residual.ensures.1 (emitting_from old (sym (append-nil all)))
    (stops_as _ all _ old new (from_first s (own_of s) t w.first) c.in_err-root.ensures.hands)

pub returns-clause-hands : goal.returns-clause-hands
returns-clause-hands g c =
    let w = c.args.whole.now in
    let s = generalized w.bound in
    takes_as _ _ (g.S.ClauseSink.state c.args.sink.now) (g.S.ClauseSink.state c.walk_along.new.sink) (from_first s (own_of s) (tree_of (weights w.terms.now)) w.first) c.in_ok-root.ensures.hands

pub returns-clause-emitted : goal.returns-clause-emitted
returns-clause-emitted g c =
    let w = c.args.whole.now in
    let root = c.in_ok-root.ensures.leaves in
    let start : w.first + 0 ≡ w.first = omega arith in
    record { values_are = root.values_are; outputs_are = root.outputs_are ∙ ap (output (generalized w.bound) (tree_of (weights w.terms.now))) start; within = root.within }

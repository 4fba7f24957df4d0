use Rattle.std.proofs.Common.{◌+◌, [], List, refl, sym, ◌∙◌, arith, append-nil}
use Rattle.pb_base.specs.declared.literal.Lit.{Lit}
use Rattle.pb_norm.specs.Constraints.{weights}
use Rattle.pb_family.proofs.Emission.{emitting_from, takes_as}
use Rattle.pb_family.proofs.Stopping.{stops_fault}
use Rattle.pb_tree.specs.Scheme.{own_of}
use Rattle.pb_tree.specs.Tree.{tree_of}
use Rattle.pb_gentot.specs.Generalized.{generalized}
use Rattle.pb_gentot.proofs.Emitting.{parts_own, parts_output, stops_as}
use Rattle.pb_gentot.proofs.Parts.{all_within, node_of}
use Rattle.pb_gentot.proofs.tree.ClausesWalk.node.Goals as goal

pub emit_over-requires-clause-fits : goal.emit_over-requires-clause-fits
emit_over-requires-clause-fits g c =
    let own = node_of c.requires.parts c.requires.suits c.requires.left.values_are c.requires.right.values_are refl in
    omega (arith, own.within, c.args.self.now.whole.now.whole.fits)

pub returns-in_err-part-clause-hands : goal.returns-in_err-part-clause-hands
returns-in_err-part-clause-hands g c =
    let parts = c.args.parts.now in
    let w = c.args.self.now.whole.now in
    let old = g.S.ClauseSink.state c.args.sink.now in
    let new = g.S.ClauseSink.state c.emit_over.new.sink in
    let all : List (List Lit) = own_of (generalized w.bound) (tree_of (weights parts.lefts.now)) (tree_of (weights parts.rights.now)) (w.first + parts.before) in
    let same = parts_own w.bound c.requires.parts w.first parts.left.now parts.right.now c.requires.left c.requires.right in
    stops_fault {all = all} c.from_residual.result _ all [] new c.from_residual.ensures.1 (emitting_from old (sym (append-nil all)))
    (stops_as _ all _ old new same c.in_err-part.ensures.hands)

pub overflow_add-next : goal.overflow_add-next
overflow_add-next g c =
    let own = node_of c.requires.parts c.requires.suits c.requires.left.values_are c.requires.right.values_are c.in_ok-part.ensures.made.values_are in
    omega (arith, own.within, c.args.self.now.whole.now.whole.fits)

pub returns : goal.returns
returns g c =
    let parts = c.args.parts.now in
    let w = c.args.self.now.whole.now in
    let own = node_of c.requires.parts c.requires.suits c.requires.left.values_are c.requires.right.values_are c.in_ok-part.ensures.made.values_are in
    let same = parts_own w.bound c.requires.parts w.first parts.left.now parts.right.now c.requires.left c.requires.right in
    record {
      hands = takes_as _ _ (g.S.ClauseSink.state c.args.sink.now) (g.S.ClauseSink.state c.emit_over.new.sink) same c.in_ok-part.ensures.hands;
      next = omega (arith, own.after);
      leaves = record {
        values_are = own.values_are;
        outputs_are = c.in_ok-part.ensures.made.outputs_are ∙ parts_output w.bound c.requires.parts w.first parts.left.now parts.right.now c.requires.left c.requires.right;
        within = all_within w.bound (tree_of (weights parts.terms.now)) c.in_ok-part.part.values.items own.values_are;
      };
    }

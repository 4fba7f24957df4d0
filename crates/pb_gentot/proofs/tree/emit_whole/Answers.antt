use Rattle.std.proofs.Common.{◌≡◌, ◌+◌, ℕ, List, [], ◌∷◌, length, ap, arith, sym, ◌∙◌, subst, refl}
use Rattle.std.specs.Prelude.{Contains}
use Rattle.pb_base.specs.declared.literal.Lit.{Lit}
use Rattle.pb_base.specs.Literals.{negated}
use Rattle.pb_norm.specs.Constraints.{weights}
use Rattle.pb_family.specs.Handing.{Hands}
use Rattle.pb_family.proofs.Emission.{emitting_starts, emitting_step, hands_if_memory, hands_last}
use Rattle.pb_family.proofs.Stopping.{stops_fault}
use Rattle.pb_tree.specs.Places.{place_of}
use Rattle.pb_tree.specs.Tree.{tree_of}
use Rattle.pb_tree.specs.Scheme.{output, clauses_of, tree_clauses}
use Rattle.pb_tree.proofs.Places.{place_within}
use Rattle.pb_gentot.specs.inner.Outputs.{output_at}
use Rattle.pb_gentot.specs.Generalized.{generalized}
use Rattle.pb_gentot.proofs.Emitting.{room_fewer}
use Rattle.pb_gentot.proofs.tree.emit_whole.Goals as goal

pub returns-in_err-root : goal.returns-in_err-root
returns-in_err-root g c =
    let s = generalized c.args.whole.now.bound in
    let t = tree_of (weights c.args.whole.now.terms.now) in
    stops_fault {all = tree_clauses s t c.args.whole.now.first} c.from_residual.result _ (clauses_of s t c.args.whole.now.first) _ _ c.from_residual.ensures.1 (emitting_starts _ _) c.in_err-root.ensures.hands

pub place_in-place-requires-clause-has : goal.place_in-place-requires-clause-has
place_in-place-requires-clause-has g c =
    subst (λ (us : List ℕ). Contains us (c.args.whole.now.bound + 1)) (sym (c.as_slice.ensures.value ∙ c.in_ok-root.ensures.emitted.values_are)) c.requires

pub at-top-requires : goal.at-top-requires
at-top-requires g c =
    let root = c.in_ok-root.root in
    let values = c.in_ok-root.ensures.emitted.values_are in
    let place = c.place_in-place.ensures ∙ ap (place_of (c.args.whole.now.bound + 1)) (c.as_slice.ensures.value ∙ values) in
    room_fewer root.outputs (length root.values.items) _ (omega (arith, place, place_within (c.args.whole.now.bound + 1) _ c.requires, ap length values)) root.room

pub returns : goal.returns
returns g c =
    let s = generalized c.args.whole.now.bound in
    let t = tree_of (weights c.args.whole.now.terms.now) in
    let sink = g.S.ClauseSink in
    let top : Lit = negated (output s t c.args.whole.now.first s.cap) in
    let place = c.place_in-place.ensures ∙ ap (place_of (c.args.whole.now.bound + 1)) c.as_slice.ensures.value in
    let same : c.not.result ≡ top = c.not.ensures ∙ ap negated (c.at-top.ensures ∙ ap (output_at c.in_ok-root.root.outputs) place ∙ ap (λ (f : ℕ → Lit). f (c.args.whole.now.bound + 1)) c.in_ok-root.ensures.emitted.outputs_are) in
    let handed = subst (λ (l : Lit). Hands ((l ∷ []) ∷ []) c.clause.result (sink.state c.emit_nodes.new.sink) (sink.state c.clause.new.self)) same c.clause.ensures in
    let nodes = emitting_step {all = tree_clauses s t c.args.whole.now.first} (clauses_of s t c.args.whole.now.first) _ (emitting_starts _ _) c.in_ok-root.ensures.hands in
    hands_if_memory _ _ _ _ _ _ c.sink_result.ensures refl (hands_last c.clause.result ((top ∷ []) ∷ []) (sink.state c.clause.new.self) nodes handed)

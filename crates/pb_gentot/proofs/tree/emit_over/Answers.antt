use Rattle.std.proofs.Common.{length, ap, sym, refl, arith, append-nil}
use Rattle.std.proofs.lemmas.Result.{IfOk-from_err}
use Rattle.pb_family.specs.declared.sink.SinkFault.TheVariants as fault
use Rattle.pb_family.proofs.Emission.{emitting_from, emitting_starts, fails_as, takes_as}
use Rattle.pb_family.proofs.Stopping.{stops_between, stops_fault}
use Rattle.pb_gentot.specs.declared.outputs.Outputs.TheVariants.{Fresh}
use Rattle.pb_gentot.specs.inner.Outputs.{output_in}
use Rattle.pb_gentot.specs.inner.Parts.{clauses_over_parts}
use Rattle.pb_gentot.proofs.Over.{values_made, clauses_made}
use Rattle.pb_gentot.proofs.tree.emit_over.Goals as goal

pub ranked_over-requires-clause-fits : goal.ranked_over-requires-clause-fits
ranked_over-requires-clause-fits g c =
    let same = ap length (values_made c.args.cap _ _ _ c.args.left.now.values.items c.args.right.now.values.items c.as_slice-lefts.ensures.value c.as_slice-rights.ensures.value refl) in
    omega (arith, same, c.requires.fits, c.requires.low)

pub invariant_of-node : goal.invariant_of-node
invariant_of-node g c =
    let made = values_made c.args.cap _ _ _ c.args.left.now.values.items c.args.right.now.values.items c.as_slice-lefts.ensures.value c.as_slice-rights.ensures.value c.in_ok-own.ensures in
    record { left_within = c.requires.left; right_within = c.requires.right; made = made; few = c.requires.few; low = c.requires.low; high = omega (arith, ap length made, c.requires.fits) }

pub invariant_of-result : goal.invariant_of-result
invariant_of-result g c =
    let made = values_made c.args.cap _ _ _ c.args.left.now.values.items c.args.right.now.values.items c.as_slice-lefts.ensures.value c.as_slice-rights.ensures.value c.in_ok-own.ensures in
    record { rising = c.in_ok-own.own.rising; room = (c.requires.low, omega (arith, ap length made, c.requires.fits)) }

pub returns-in_err-own : goal.returns-in_err-own
returns-in_err-own g c =
    record {
      hands = stops_between c.from_residual.result c.from_residual.ensures.1 (emitting_starts (clauses_over_parts c.args.cap c.args.first c.args.left.now c.args.right.now) (g.S.ClauseSink.state c.args.sink.now));
      made = IfOk-from_err _ _ c.from_residual.ensures.0;
    }

pub returns-in_err-emit_node : goal.returns-in_err-emit_node
returns-in_err-emit_node g c =
    let sink = g.S.ClauseSink in
    let all = clauses_over_parts c.args.cap c.args.first c.args.left.now c.args.right.now in
    let made = values_made c.args.cap _ _ _ c.args.left.now.values.items c.args.right.now.values.items c.as_slice-lefts.ensures.value c.as_slice-rights.ensures.value c.in_ok-own.ensures in
    let same = clauses_made c.args.cap c.args.first c.args.left.now c.args.right.now _ made in
    record {
      hands = stops_fault {all = all} c.from_residual-in_err-emit_node.result fault.Failed all _ _ c.from_residual-in_err-emit_node.ensures.1 (emitting_from _ (sym (append-nil all)))
          (fails_as _ all (sink.state c.args.sink.now) (sink.state c.emit_node.new.sink) same c.in_err-emit_node.ensures);
      made = IfOk-from_err _ _ c.from_residual-in_err-emit_node.ensures.0;
    }

pub returns : goal.returns
returns g c =
    let sink = g.S.ClauseSink in
    let made = values_made c.args.cap _ _ _ c.args.left.now.values.items c.args.right.now.values.items c.as_slice-lefts.ensures.value c.as_slice-rights.ensures.value c.in_ok-own.ensures in
    let same = clauses_made c.args.cap c.args.first c.args.left.now c.args.right.now _ made in
    record {
      hands = takes_as _ _ (sink.state c.args.sink.now) (sink.state c.emit_node.new.sink) same c.in_ok-emit_node.ensures;
      made = record { values_are = made; outputs_are = ap (output_in (Fresh c.args.first)) made };
    }

use Rattle.std.proofs.Common.{◌≡◌, ◌+◌, ◌*◌, ◌∙◌, length, ap, refl, arith}
use Rattle.pb_gentot.proofs.Over.{values_made}
use Rattle.pb_gentot.proofs.measure.measure_node.Goals as goal

pub returns-in-None : goal.returns-in-None
returns-in-None c =
    let over = rw c.in-None.is at c.in_ok-found.ensures in
    omega (arith, over, ap length (values_made (c.args.bound + 1) _ _ _ c.args.left.now.values.items c.args.right.now.values.items c.as_slice-lefts.ensures.value c.as_slice-rights.ensures.value refl))

pub overflow_add-result-4 : goal.overflow_add-result-4
overflow_add-result-4 c =
    let lefts : c.len.result ≡ length c.args.left.now.values.items = omega arith in
    let rights : c.len-2.result ≡ length c.args.right.now.values.items = omega arith in
    let own = c.node_clauses-own.ensures ∙ (λ i. lefts i * rights i + lefts i + rights i) in
    omega (arith, own, c.requires.fit)

pub returns : goal.returns
returns c =
    let joined = rw c.in-Some.is at c.in_ok-found.ensures in
    let lefts : c.len.result ≡ length c.args.left.now.values.items = omega arith in
    let rights : c.len-2.result ≡ length c.args.right.now.values.items = omega arith in
    let own = c.node_clauses-own.ensures ∙ (λ i. lefts i * rights i + lefts i + rights i) in
    record {
      values_are = values_made (c.args.bound + 1) _ _ _ c.args.left.now.values.items c.args.right.now.values.items c.as_slice-lefts.ensures.value c.as_slice-rights.ensures.value joined.0;
      fresh_is = omega arith;
      clauses_are = omega (arith, own);
      within = joined.1;
    }

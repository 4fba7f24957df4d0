use Rattle.std.proofs.Common.{◌+◌, ◌-◌, ◌∙◌, length, ap, arith}
use Rattle.pb_norm.specs.Constraints.{Weighted, weighted}
use Rattle.pb_diagram.specs.declared.node.Node.{Node}
use Rattle.pb_diagram.specs.Guards.{last_top}
use Rattle.pb_diagram.specs.inner.Ladders.{terms_of}
use Rattle.pb_diagram.proofs.GuardedLevels.{coef_at, end_at, level_as, level_at, weighted_at}
use Rattle.std.proofs.lemmas.List.{length-map}
use Rattle.pb_diagram.proofs.guarded.Guarded.tier.Goals as goal

pub invariant_of-result : goal.invariant_of-result
invariant_of-result c =
    let s = c.args.self.now in
    let i = c.args.place in
    let ts = terms_of s in
    let ls = s.levels.now in
    let t = c.index-terms-place.result in
    let is = weighted_at s.terms.now i t c.requires.within c.index-terms-place.is in
    let coef = c.weight-coef.ensures ∙ ap (λ (u : Weighted). u.coef) is in
    let here = c.nodes_from-nodes.ensures in
    let there = c.nodes_from-next.ensures in
    let size = ap (length {A = Node}) here in
    let next_size = ap (length {A = Node}) there in
    record {
      low = omega (arith, c.requires.low, size);
      follows = omega (arith, c.requires.low, size);
      high = omega (arith, c.requires.high, next_size);
      counts_fit = omega (arith, c.requires.counts, size);
      order_fits = omega (arith, c.requires.order, next_size);
      light = omega (arith, coef, coef_at ts i, s.light);
      ends = omega (arith, ap last_top here, end_at ts ls i s.shape, s.light);
      next_ends = omega (arith, ap last_top there, end_at ts ls (i + 1) s.shape, s.light);
      level = level_as coef here there (level_at ts ls i (omega (arith, c.requires.within, length-map s.terms.now weighted)) s.shape);
    }

pub returns : goal.returns
returns c =
    let s = c.args.self.now in
    let i = c.args.place in
    let t = c.index-terms-place.result in
    let is = (λ x. record { coef = c.weight-coef.ensures x; lit = t.lit }) ∙ weighted_at s.terms.now i t c.requires.within c.index-terms-place.is in
    λ x. record {
      term = is x;
      nodes = c.nodes_from-nodes.ensures x;
      next = c.nodes_from-next.ensures x;
      var = c.args.after - length (c.nodes_from-nodes.ensures x);
      after = c.args.after;
      counts = c.args.counts;
      order = c.args.order;
    }

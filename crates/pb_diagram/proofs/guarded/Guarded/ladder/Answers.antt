use Rattle.std.proofs.Common.{◌≡◌, ◌+◌, ◌-◌, ◌*◌, ◌∙◌, ℕ, cond, drop, length, ap, refl, subst, sym, arith}
use Rattle.std.specs.Prelude.{◌==◌}
use Rattle.std.proofs.lemmas.Result.{IfOk-from_err}
use Rattle.pb_diagram.specs.declared.tier.Tier.{Tier}
use Rattle.pb_diagram.specs.Guards.{Rung}
use Rattle.pb_diagram.specs.GuardedSteps.{count_nodes}
use Rattle.pb_diagram.specs.inner.Ladders.{IsLadder}
use Rattle.pb_diagram.proofs.GuardedLevels.{count_left, fresh_is, ladder_next, ladder_none, length_push, lengths, room-counts, room-end, room-high, room-low, room-order, some_terms}
use Rattle.std.proofs.lemmas.List.{drop_all}
use Rattle.pb_diagram.proofs.guarded.Guarded.ladder.Goals as goal

pub loop-k-init : goal.loop-k-init
loop-k-init c =
    let s = c.args.self.now in
    let n : ℕ = length s.terms.now in
    record {
      size = omega (arith, ap (length {A = Tier}) c.new-tiers.ensures.items);
      is = ladder_none s (n + 1 - 1) _ _ _ c.new-tiers.result.items c.new-tiers.ensures.items (omega arith) (omega arith) c.orders-order.ensures c.orders-order.ensures;
      counts = omega (arith, ap count_nodes (drop_all (n + 1 - 1) s.levels.now (omega (arith, lengths s))));
    }

pub tier-tier-requires : goal.tier-tier-requires
tier-tier-requires c =
    let s = c.args.self.now in
    let k : ℕ = c.loop-k.k in
    let i : ℕ = length s.terms.now - k in
    let at : length s.terms.now + 1 - k ≡ i + 1 = omega (arith, c.loop-k-test.true) in
    let h = subst (λ (j : ℕ). IsLadder s j c.loop-k.tiers.items c.loop-k.empty c.loop-k.order c.loop-k.end c.loop-k.after) at c.loop-k.invariant.is in
    let counts : c.loop-k.counts ≡ s.base + 2 * count_nodes (drop (i + 1) s.levels.now) = c.loop-k.invariant.counts ∙ ap (λ (j : ℕ). s.base + 2 * count_nodes (drop j s.levels.now)) at in
    record {
      within = omega (arith, c.loop-k-test.true, c.loop-k.invariant.size);
      low = room-low s i c.loop-k.after h.var;
      high = room-high s i c.loop-k.after h.var;
      counts = room-counts s i c.loop-k.counts counts;
      order = room-order s i c.loop-k.order h.order;
    }

pub overflow_add-end : goal.overflow_add-end
overflow_add-end c =
    let s = c.args.self.now in
    let k : ℕ = c.loop-k.k in
    let i : ℕ = length s.terms.now - k in
    let at : length s.terms.now + 1 - k ≡ i + 1 = omega (arith, c.loop-k-test.true) in
    let h = subst (λ (j : ℕ). IsLadder s j c.loop-k.tiers.items c.loop-k.empty c.loop-k.order c.loop-k.end c.loop-k.after) at c.loop-k.invariant.is in
    let counts : c.loop-k.counts ≡ s.base + 2 * count_nodes (drop (i + 1) s.levels.now) = c.loop-k.invariant.counts ∙ ap (λ (j : ℕ). s.base + 2 * count_nodes (drop j s.levels.now)) at in
    omega (arith, c.saturating_sub-end.ensures, room-end s i c.loop-k.end h.end, ap (λ (x : Rung). length x.nodes) c.tier-tier.ensures)

pub overflow_mul-counts : goal.overflow_mul-counts
overflow_mul-counts c =
    let s = c.args.self.now in
    let k : ℕ = c.loop-k.k in
    let i : ℕ = length s.terms.now - k in
    let at : length s.terms.now + 1 - k ≡ i + 1 = omega (arith, c.loop-k-test.true) in
    let h = subst (λ (j : ℕ). IsLadder s j c.loop-k.tiers.items c.loop-k.empty c.loop-k.order c.loop-k.end c.loop-k.after) at c.loop-k.invariant.is in
    let counts : c.loop-k.counts ≡ s.base + 2 * count_nodes (drop (i + 1) s.levels.now) = c.loop-k.invariant.counts ∙ ap (λ (j : ℕ). s.base + 2 * count_nodes (drop j s.levels.now)) at in
    omega (arith, room-counts s i c.loop-k.counts counts, ap (λ (x : Rung). length x.nodes) c.tier-tier.ensures)

pub overflow_add-counts : goal.overflow_add-counts
overflow_add-counts c =
    let s = c.args.self.now in
    let k : ℕ = c.loop-k.k in
    let i : ℕ = length s.terms.now - k in
    let at : length s.terms.now + 1 - k ≡ i + 1 = omega (arith, c.loop-k-test.true) in
    let h = subst (λ (j : ℕ). IsLadder s j c.loop-k.tiers.items c.loop-k.empty c.loop-k.order c.loop-k.end c.loop-k.after) at c.loop-k.invariant.is in
    let counts : c.loop-k.counts ≡ s.base + 2 * count_nodes (drop (i + 1) s.levels.now) = c.loop-k.invariant.counts ∙ ap (λ (j : ℕ). s.base + 2 * count_nodes (drop j s.levels.now)) at in
    omega (arith, room-counts s i c.loop-k.counts counts, ap (λ (x : Rung). length x.nodes) c.tier-tier.ensures)

pub returns-in_err-push : goal.returns-in_err-push
returns-in_err-push c = IfOk-from_err _ _ c.from_residual.ensures.0

pub loop-k-preserved : goal.loop-k-preserved
loop-k-preserved c =
    let s = c.args.self.now in
    let k : ℕ = c.loop-k.k in
    let i : ℕ = length s.terms.now - k in
    let at : length s.terms.now + 1 - k ≡ i + 1 = omega (arith, c.loop-k-test.true) in
    let h = subst (λ (j : ℕ). IsLadder s j c.loop-k.tiers.items c.loop-k.empty c.loop-k.order c.loop-k.end c.loop-k.after) at c.loop-k.invariant.is in
    let counts : c.loop-k.counts ≡ s.base + 2 * count_nodes (drop (i + 1) s.levels.now) = c.loop-k.invariant.counts ∙ ap (λ (j : ℕ). s.base + 2 * count_nodes (drop j s.levels.now)) at in
    let t = c.tier-tier.result in
    let told = c.tier-tier.ensures in
    let size = ap (λ (x : Rung). length x.nodes) told in
    let next : length s.terms.now + 1 - (k + 1) ≡ i = omega (arith, c.loop-k-test.true) in
    let more : length c.push.new.self.items ≡ k = omega (arith, ap (length {A = Tier}) c.in_ok-push.ensures.items, length_push c.loop-k.tiers.items t, c.loop-k.invariant.size) in
    record {
      size = omega (arith, more);
      is =
          ladder_next s c.loop-k.tiers.items c.loop-k.empty c.loop-k.order c.loop-k.end c.loop-k.after c.loop-k.counts i (omega (arith, c.loop-k-test.true, c.loop-k.invariant.size)) h t told counts
          _ _ _ _ c.push.new.self.items next c.in_ok-push.ensures.items (c.empty_after-empty.ensures ∙ ap (λ (n : ℕ). cond (length t.nodes.now == 0) n c.loop-k.empty) (sym more)) (omega (arith, c.saturating_sub-end.ensures)) refl;
      counts = omega (arith, counts, size, count_left s.levels.now i, ap (λ (j : ℕ). count_nodes (drop j s.levels.now)) next);
    }

pub returns : goal.returns
returns c =
    let s = c.args.self.now in
    let k : ℕ = c.loop-k.k in
    let at : length s.terms.now + 1 - k ≡ 1 = omega (arith, c.loop-k.auto.k-end, c.loop-k-test.false, some_terms s) in
    let h = subst (λ (j : ℕ). IsLadder s j c.loop-k.tiers.items c.loop-k.empty c.loop-k.order c.loop-k.end c.loop-k.after) at c.loop-k.invariant.is in
    subst (λ (p : ℕ). IsLadder s 1 c.loop-k.tiers.items c.loop-k.empty c.loop-k.order c.loop-k.end p) (let e : c.loop-k.after ≡ s.first + 1 = omega (arith, h.var, fresh_is s) in e) h

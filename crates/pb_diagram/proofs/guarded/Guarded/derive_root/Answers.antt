use Rattle.std.proofs.Common.{◌≡◌, ◌+◌, ◌-◌, ◌∙◌, ◌++◌, [], ◌∷◌, ℕ, List, ap, length, subst, arith}
use Rattle.pb_steps.specs.declared.step.Step.{Step}
use Rattle.pb_derive.specs.Claims.{claim_steps}
use Rattle.pb_derive.specs.Deletions.{deletion_steps}
use Rattle.pb_derive.specs.Reifications.{reification_steps}
use Rattle.pb_family.specs.StepSinks.{TakesSteps}
use Rattle.pb_family.proofs.Deriving.{steps_same}
use Rattle.pb_family.proofs.Sequence.{reification_ids}
use Rattle.pb_diagram.specs.Guards.{child_reification}
use Rattle.pb_diagram.specs.inner.Ladders.{claims_in, held_of, root_node, root_term, rung_at, terms_of}
use Rattle.pb_diagram.specs.declared.node.Node.{Node}
use Rattle.pb_diagram.proofs.GuardedHanding.{first_fault, stops_as, then_others}
use Rattle.pb_diagram.proofs.GuardedLevels.{fresh_is, room-high, room-order, some_terms}
use Rattle.pb_diagram.proofs.GuardedPhases.{claims_count, few, meaning_is, root_nodes, small}
use Rattle.pb_diagram.proofs.guarded.Guarded.derive_root.Goals as goal

pub overflow_sub-before : goal.overflow_sub-before
overflow_sub-before g c = omega (arith, c.next_id-next.ensures, c.requires.next)

pub overflow_add-after : goal.overflow_add-after
overflow_add-after g c = omega (arith, c.args.self.now.fits, fresh_is c.args.self.now)

pub tier-root-requires : goal.tier-root-requires
tier-root-requires g c =
    let s = c.args.self.now in
    let l = c.args.ladder.now in
    let h = c.requires.is in
    let bound = small s l.tiers.items l.empty l.order l.end h in
    record {
      within = omega (arith, some_terms s);
      low = omega (arith, s.root, s.low);
      high = room-high s 0 (s.first + 1) h.var;
      counts = omega (arith, c.next_id-next.ensures, c.requires.next, s.root, bound.1, few s l.tiers.items l.empty l.order l.end h, s.modest);
      order = room-order s 0 l.order h.order;
    }

pub derive_node-requires : goal.derive_node-requires
derive_node-requires g c =
    let s = c.args.self.now in
    let l = c.args.ladder.now in
    let h = c.requires.is in
    let old = (g.T.StepSink.state c.args.sink.now) in
    let root = c.tier-root.result in
    let at : c.next_id-next.result ≡ held_of s + 1 = c.next_id-next.ensures ∙ c.requires.next in
    let is = c.tier-root.ensures ∙ ap (λ (k : ℕ). rung_at (terms_of s) s.levels.now 0 (s.first + 1) k l.order) at in
    let one : List Step = reification_steps (held_of s + 1) (child_reification (root_term s).lit (s.first + 1) s.first (root_node s) ∷ []) in
    let two : List Step = claim_steps (held_of s + 3) (claims_in s) in
    let three : List Step = deletion_steps 3 (held_of s) 1 in
    let bound = small s l.tiers.items l.empty l.order l.end h in
    record {
      within = omega (arith, ap (length {A = Node}) (root_nodes s l.tiers.items l.empty l.order l.end h root is));
      few = omega (arith, c.requires.next, bound.1, few s l.tiers.items l.empty l.order l.end h, s.modest);
    }

pub returns-in_err-derive_node : goal.returns-in_err-derive_node
returns-in_err-derive_node g c =
    let s = c.args.self.now in
    let l = c.args.ladder.now in
    let h = c.requires.is in
    let old = (g.T.StepSink.state c.args.sink.now) in
    let root = c.tier-root.result in
    let at : c.next_id-next.result ≡ held_of s + 1 = c.next_id-next.ensures ∙ c.requires.next in
    let is = c.tier-root.ensures ∙ ap (λ (k : ℕ). rung_at (terms_of s) s.levels.now 0 (s.first + 1) k l.order) at in
    let one : List Step = reification_steps (held_of s + 1) (child_reification (root_term s).lit (s.first + 1) s.first (root_node s) ∷ []) in
    let two : List Step = claim_steps (held_of s + 3) (claims_in s) in
    let three : List Step = deletion_steps 3 (held_of s) 1 in
    let same_one = meaning_is s l.tiers.items l.empty l.order l.end h root is old.next ∙ ap (λ (k : ℕ). reification_steps k (child_reification (root_term s).lit (s.first + 1) s.first (root_node s) ∷ [])) c.requires.next in
    first_fault c.from_residual.result one (two ++ three) old _ (g.T.StepSink.state c.derive_node.new.sink) c.from_residual.ensures.1 (stops_as same_one c.in_err-derive_node.ensures)

pub derive_clauses-requires : goal.derive_clauses-requires
derive_clauses-requires g c =
    let s = c.args.self.now in
    let l = c.args.ladder.now in
    let h = c.requires.is in
    let old = (g.T.StepSink.state c.args.sink.now) in
    let root = c.tier-root.result in
    let at : c.next_id-next.result ≡ held_of s + 1 = c.next_id-next.ensures ∙ c.requires.next in
    let is = c.tier-root.ensures ∙ ap (λ (k : ℕ). rung_at (terms_of s) s.levels.now 0 (s.first + 1) k l.order) at in
    let one : List Step = reification_steps (held_of s + 1) (child_reification (root_term s).lit (s.first + 1) s.first (root_node s) ∷ []) in
    let two : List Step = claim_steps (held_of s + 3) (claims_in s) in
    let three : List Step = deletion_steps 3 (held_of s) 1 in
    let same_one = meaning_is s l.tiers.items l.empty l.order l.end h root is old.next ∙ ap (λ (k : ℕ). reification_steps k (child_reification (root_term s).lit (s.first + 1) s.first (root_node s) ∷ [])) c.requires.next in
    let taken = subst (λ (ss : List Step). TakesSteps ss old (g.T.StepSink.state c.derive_node.new.sink)) same_one c.in_ok-derive_node.ensures in
    let at_1 : (g.T.StepSink.state c.derive_node.new.sink).next ≡ held_of s + 3 = omega (arith, taken.ids, reification_ids (held_of s + 1) (child_reification (root_term s).lit (s.first + 1) s.first (root_node s)), c.requires.next) in
    let same_two = ap (λ (k : ℕ). claim_steps k (claims_in s)) at_1 in
    record { is = h; root = is; next = at_1 }

pub returns-in_err-derive_clauses : goal.returns-in_err-derive_clauses
returns-in_err-derive_clauses g c =
    let s = c.args.self.now in
    let l = c.args.ladder.now in
    let h = c.requires.is in
    let old = (g.T.StepSink.state c.args.sink.now) in
    let root = c.tier-root.result in
    let at : c.next_id-next.result ≡ held_of s + 1 = c.next_id-next.ensures ∙ c.requires.next in
    let is = c.tier-root.ensures ∙ ap (λ (k : ℕ). rung_at (terms_of s) s.levels.now 0 (s.first + 1) k l.order) at in
    let one : List Step = reification_steps (held_of s + 1) (child_reification (root_term s).lit (s.first + 1) s.first (root_node s) ∷ []) in
    let two : List Step = claim_steps (held_of s + 3) (claims_in s) in
    let three : List Step = deletion_steps 3 (held_of s) 1 in
    let same_one = meaning_is s l.tiers.items l.empty l.order l.end h root is old.next ∙ ap (λ (k : ℕ). reification_steps k (child_reification (root_term s).lit (s.first + 1) s.first (root_node s) ∷ [])) c.requires.next in
    let taken = subst (λ (ss : List Step). TakesSteps ss old (g.T.StepSink.state c.derive_node.new.sink)) same_one c.in_ok-derive_node.ensures in
    let at_1 : (g.T.StepSink.state c.derive_node.new.sink).next ≡ held_of s + 3 = omega (arith, taken.ids, reification_ids (held_of s + 1) (child_reification (root_term s).lit (s.first + 1) s.first (root_node s)), c.requires.next) in
    let same_two = ap (λ (k : ℕ). claim_steps k (claims_in s)) at_1 in
    let e = c.from_residual-in_err-derive_clauses in
    then_others e.result one (two ++ three) old (g.T.StepSink.state c.derive_node.new.sink) (g.T.StepSink.state c.derive_clauses.new.sink) taken (first_fault e.result two three (g.T.StepSink.state c.derive_node.new.sink) _ (g.T.StepSink.state c.derive_clauses.new.sink) e.ensures.1 (stops_as same_two c.in_err-derive_clauses.ensures))

pub derive_deletions-requires : goal.derive_deletions-requires
derive_deletions-requires g c =
    let s = c.args.self.now in
    let l = c.args.ladder.now in
    let h = c.requires.is in
    let old = (g.T.StepSink.state c.args.sink.now) in
    let root = c.tier-root.result in
    let at : c.next_id-next.result ≡ held_of s + 1 = c.next_id-next.ensures ∙ c.requires.next in
    let is = c.tier-root.ensures ∙ ap (λ (k : ℕ). rung_at (terms_of s) s.levels.now 0 (s.first + 1) k l.order) at in
    let one : List Step = reification_steps (held_of s + 1) (child_reification (root_term s).lit (s.first + 1) s.first (root_node s) ∷ []) in
    let two : List Step = claim_steps (held_of s + 3) (claims_in s) in
    let three : List Step = deletion_steps 3 (held_of s) 1 in
    let same_one = meaning_is s l.tiers.items l.empty l.order l.end h root is old.next ∙ ap (λ (k : ℕ). reification_steps k (child_reification (root_term s).lit (s.first + 1) s.first (root_node s) ∷ [])) c.requires.next in
    let taken = subst (λ (ss : List Step). TakesSteps ss old (g.T.StepSink.state c.derive_node.new.sink)) same_one c.in_ok-derive_node.ensures in
    let at_1 : (g.T.StepSink.state c.derive_node.new.sink).next ≡ held_of s + 3 = omega (arith, taken.ids, reification_ids (held_of s + 1) (child_reification (root_term s).lit (s.first + 1) s.first (root_node s)), c.requires.next) in
    let same_two = ap (λ (k : ℕ). claim_steps k (claims_in s)) at_1 in
    let bound = small s l.tiers.items l.empty l.order l.end h in
    let f = few s l.tiers.items l.empty l.order l.end h in
    record {
      fits = omega (arith, at, bound.1, f, s.modest);
      few = omega (arith, at_1, c.in_ok-derive_clauses.ensures.ids, claims_count s (g.T.StepSink.state c.derive_node.new.sink).next, bound.1, f, s.modest);
    }

pub returns : goal.returns
returns g c =
    let s = c.args.self.now in
    let l = c.args.ladder.now in
    let h = c.requires.is in
    let old = (g.T.StepSink.state c.args.sink.now) in
    let root = c.tier-root.result in
    let at : c.next_id-next.result ≡ held_of s + 1 = c.next_id-next.ensures ∙ c.requires.next in
    let is = c.tier-root.ensures ∙ ap (λ (k : ℕ). rung_at (terms_of s) s.levels.now 0 (s.first + 1) k l.order) at in
    let one : List Step = reification_steps (held_of s + 1) (child_reification (root_term s).lit (s.first + 1) s.first (root_node s) ∷ []) in
    let two : List Step = claim_steps (held_of s + 3) (claims_in s) in
    let three : List Step = deletion_steps 3 (held_of s) 1 in
    let same_one = meaning_is s l.tiers.items l.empty l.order l.end h root is old.next ∙ ap (λ (k : ℕ). reification_steps k (child_reification (root_term s).lit (s.first + 1) s.first (root_node s) ∷ [])) c.requires.next in
    let taken = subst (λ (ss : List Step). TakesSteps ss old (g.T.StepSink.state c.derive_node.new.sink)) same_one c.in_ok-derive_node.ensures in
    let at_1 : (g.T.StepSink.state c.derive_node.new.sink).next ≡ held_of s + 3 = omega (arith, taken.ids, reification_ids (held_of s + 1) (child_reification (root_term s).lit (s.first + 1) s.first (root_node s)), c.requires.next) in
    let same_two = ap (λ (k : ℕ). claim_steps k (claims_in s)) at_1 in
    let r = c.derive_deletions.result in
    let same_three = ap (λ (k : ℕ). deletion_steps 3 k 1) (let e : c.next_id-next.result - 1 ≡ held_of s = omega (arith, at) in e) in
    then_others r one (two ++ three) old (g.T.StepSink.state c.derive_node.new.sink) (g.T.StepSink.state c.derive_deletions.new.sink) taken
    (then_others r two three (g.T.StepSink.state c.derive_node.new.sink) (g.T.StepSink.state c.derive_clauses.new.sink) (g.T.StepSink.state c.derive_deletions.new.sink) (subst (λ (ss : List Step). TakesSteps ss (g.T.StepSink.state c.derive_node.new.sink) (g.T.StepSink.state c.derive_clauses.new.sink)) same_two c.in_ok-derive_clauses.ensures) (steps_same r _ _ (g.T.StepSink.state c.derive_clauses.new.sink) (g.T.StepSink.state c.derive_deletions.new.sink) same_three c.derive_deletions.ensures))

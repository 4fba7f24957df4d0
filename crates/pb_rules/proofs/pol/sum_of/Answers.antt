use Rattle.std.proofs.Common.{◌≡◌, ◌∙◌, reverse, Some, [], sym, inl, ap, List, ◌∷◌, length, refl, arith}
use Rattle.pb_norm.specs.Constraints.{Constraint}
use Rattle.pb_steps.specs.Stacks.{after_ops}
use Rattle.pb_rules.proofs.Fits.{IsOneLeft, seen_denial-early, early-vars, left_from, left-fit, left-allowed, no_one_left, outcome_true}
use Rattle.pb_rules.proofs.pol.sum_of.Goals as goal

no_items : (xs : List Constraint) → length xs ≡ 0 → xs ≡ []
no_items [] e = refl
no_items (x ∷ xs) e = absurd (omega arith)

pub returns-in-Some-clause-fault : goal.returns-in-Some-clause-fault
returns-in-Some-clause-fault c = λ clause. inl (seen_denial-early c.args.db.now c.args.ops.now clause c.in-Some.denied c.in-Some.ensures.value)

pub apply_ops-requires-clause-known : goal.apply_ops-requires-clause-known
apply_ops-requires-clause-known c = early-vars c.args.db.now c.args.ops.now c.in_default.ensures.value

pub returns-in-Some-pop-clause-fit : goal.returns-in-Some-pop-clause-fit
returns-in-Some-pop-clause-fit c =
    let done : after_ops c.args.db.now.live c.args.ops.now [] ≡ Some (reverse c.apply_ops.new.stack.items) = ap (λ (s : List Constraint). after_ops c.args.db.now.live c.args.ops.now (reverse s)) (sym c.new-stack.ensures.items) ∙ outcome_true c.in_ok-apply_ops.field-0 _ _ c.if-not-branch.false c.in_ok-apply_ops.ensures in
    let left : IsOneLeft c.args.db.now c.args.ops.now c.in-Some-pop.made = left_from c.args.db.now c.args.ops.now c.apply_ops.new.stack.items c.pop.new.self.items c.in-Some-pop.made c.in_default.ensures.value done c.in-Some-pop.ensures.items in
    left-fit c.args.db.now c.args.ops.now c.in-Some-pop.made c.early_denial.ensures.sound left

pub returns-in-Some-pop-clause-allowed : goal.returns-in-Some-pop-clause-allowed
returns-in-Some-pop-clause-allowed c =
    let done : after_ops c.args.db.now.live c.args.ops.now [] ≡ Some (reverse c.apply_ops.new.stack.items) = ap (λ (s : List Constraint). after_ops c.args.db.now.live c.args.ops.now (reverse s)) (sym c.new-stack.ensures.items) ∙ outcome_true c.in_ok-apply_ops.field-0 _ _ c.if-not-branch.false c.in_ok-apply_ops.ensures in
    let left : IsOneLeft c.args.db.now c.args.ops.now c.in-Some-pop.made = left_from c.args.db.now c.args.ops.now c.apply_ops.new.stack.items c.pop.new.self.items c.in-Some-pop.made c.in_default.ensures.value done c.in-Some-pop.ensures.items in
    λ clause. left-allowed c.args.db.now c.args.ops.now c.in-Some-pop.made clause c.requires left

pub returns-clause-fault : goal.returns-clause-fault
returns-clause-fault c =
    let done : after_ops c.args.db.now.live c.args.ops.now [] ≡ Some (reverse c.apply_ops.new.stack.items) = ap (λ (s : List Constraint). after_ops c.args.db.now.live c.args.ops.now (reverse s)) (sym c.new-stack.ensures.items) ∙ outcome_true c.in_ok-apply_ops.field-0 _ _ c.if-not-branch.false c.in_ok-apply_ops.ensures in
    absurd (no_one_left c.args.db.now c.args.ops.now c.apply_ops.new.stack.items c.in_default.ensures.value done (no_items c.apply_ops.new.stack.items (omega (arith, c.in-None.ensures.cases.0, c.apply_ops.new.stack.ok.0))))

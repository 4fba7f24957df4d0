use Rattle.std.proofs.Common.{◌∙◌, ◌++◌, [], ◌∷◌, ℤ, FitsSigned, ap, append-nil, arith, refl, rules, sym}
use mir.Syntax.{w32}
use Rattle.std.proofs.lemmas.Int.{to_z-of_z}
use Rattle.std.proofs.lemmas.List.Elements.{All-nil}
use Rattle.pbcnf_c.specs.Integers.{IsSmall}
use Rattle.pbcnf_c.proofs.Pushed.{front, front_more, last, next, still, still_more}
use Rattle.pbcnf_c.proofs.integers.push_integers.Goals as goal

pub loop-lit-init : goal.loop-lit-init
loop-lit-init c = ([], sym (append-nil c.args.out.now.items), refl, All-nil IsSmall)

pub returns-in_err-push-clause-before : goal.returns-in_err-push-clause-before
returns-in_err-push-clause-before c = front c.args.clause.now c.loop-lit.lit-index c.args.out.now.items c.loop-lit.out.items c.push.new.self.items c.loop-lit.invariant c.in_err-push.ensures.items

pub loop-lit-preserved : goal.loop-lit-preserved
loop-lit-preserved c =
    let fits : FitsSigned w32 c.integer_of.result = search rules in
    let kept = to_z-of_z w32 c.integer_of.result fits in
    next c.args.clause.now c.loop-lit.lit-index c.lit-item.result c.args.out.now.items c.loop-lit.out.items c.push.new.self.items c.integer_of.result (omega arith) c.lit-item.is c.loop-lit.invariant c.integer_of.ensures.text fits
    (c.in_ok-push.ensures.items ∙ ap (λ (z : ℤ). c.loop-lit.out.items ++ z ∷ []) kept)

pub returns-in_err-push-2-clause-before : goal.returns-in_err-push-2-clause-before
returns-in_err-push-2-clause-before c = front c.args.clause.now c.loop-lit.lit-index c.args.out.now.items c.loop-lit.out.items c.push-2.new.self.items c.loop-lit.invariant c.in_err-push-2.ensures.items

pub returns-clause-ok : goal.returns-clause-ok
returns-clause-ok c = last c.args.clause.now c.loop-lit.lit-index c.args.out.now.items c.loop-lit.out.items c.push-2.new.self.items (omega arith) c.loop-lit.invariant c.in_ok-push-2.ensures.items

pub returns-clause-before : goal.returns-clause-before
returns-clause-before c = front_more c.args.clause.now c.loop-lit.lit-index c.args.out.now.items c.loop-lit.out.items c.push-2.new.self.items _ c.loop-lit.invariant c.in_ok-push-2.ensures.items

pub returns-in_err-push-clause-small : goal.returns-in_err-push-clause-small
returns-in_err-push-clause-small c = still c.args.clause.now c.loop-lit.lit-index c.args.out.now.items c.loop-lit.out.items c.push.new.self.items c.loop-lit.invariant c.in_err-push.ensures.items

pub returns-in_err-push-2-clause-small : goal.returns-in_err-push-2-clause-small
returns-in_err-push-2-clause-small c = still c.args.clause.now c.loop-lit.lit-index c.args.out.now.items c.loop-lit.out.items c.push-2.new.self.items c.loop-lit.invariant c.in_err-push-2.ensures.items

pub returns-clause-small : goal.returns-clause-small
returns-clause-small c = still_more c.args.clause.now c.loop-lit.lit-index c.args.out.now.items c.loop-lit.out.items c.push-2.new.self.items c.loop-lit.invariant c.in_ok-push-2.ensures.items

use Rattle.std.proofs.Common.{◌≡◌, ◌+◌, ◌-◌, ℕ, Bool, true, false, cond, [], ◌∷◌, pos, arith, ltb, sym, subst}
use Rattle.std.specs.Prelude.{IfOk}
use Rattle.std.proofs.lemmas.Bool.{le-ltb}
use Rattle.pb_norm.specs.Constraints.{weight, weights}
use Rattle.pb_steps.specs.declared.step.Step.{Step}
use Rattle.pb_steps.specs.declared.step.Step.TheVariants.{Rup}
use Rattle.pb_derive.specs.Reifications.{reverse_of, redundant}
use Rattle.pb_family.specs.inner.Parts.{headed, reification_of}
use Rattle.pb_family.proofs.reification.reverse_step.Goals as goal

pub returns : goal.returns
returns c =
    let ts = weights c.args.terms.now in
    let reaches : ltb (weight ts) c.args.least ≡ false = le-ltb (weight ts) c.args.least (omega (arith, c.weight_of-whole.ensures, c.if-whole-least.false)) in
    subst (λ (b : Bool). IfOk c.redundant_step.result (λ step. step ≡ cond {A = Step} b (Rup [] (pos 0) (c.args.id ∷ [])) (redundant (reverse_of (reification_of c.args.var ts c.args.least)) c.args.var true))) (sym reaches)
    (subst (λ (n : ℕ). IfOk c.redundant_step.result (λ step. step ≡ redundant (headed c.args.var true (n + 1 - c.args.least) ts) c.args.var true)) c.weight_of-whole.ensures c.redundant_step.ensures)

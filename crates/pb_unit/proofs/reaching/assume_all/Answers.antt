use Rattle.std.proofs.Common.{◌≤◌, ◌∙◌, ℕ, arith, refl, subst, sym}
use Rattle.pb_base.specs.declared.literal.Lit.{Lit}
use Rattle.pb_unit.specs.States.{EngineState}
use Rattle.pb_unit.proofs.Assuming.{assume_step, same_after}
use Rattle.pb_unit.proofs.reaching.assume_all.Goals as goal

pub assume-requires : goal.assume-requires
assume-requires c =
    let within = c.requires.within c.loop-lit.lit-index c.lit-item.result (omega arith) in
    let near = subst (λ (l : Lit). l.var ≤ c.args.engine.now.vars) (sym c.lit-item.is) within in
    record { within = subst (λ (vars : ℕ). c.lit-item.result.var ≤ vars) (sym c.loop-lit.invariant.vars) near }

pub loop-lit-preserved : goal.loop-lit-preserved
loop-lit-preserved c =
    let x = c.lit-item.result in
    let s = c.loop-lit.engine in
    let after = c.assume.new.self in
    let done = c.assume.result in
    record {
      vars = same_after (λ (t : EngineState). t.vars) done x s after refl c.assume.ensures.after ∙ c.loop-lit.invariant.vars;
      places = same_after (λ (t : EngineState). t.places) done x s after refl c.assume.ensures.after ∙ c.loop-lit.invariant.places;
      so_far = assume_step c.args.lits.now c.loop-lit.lit-index x s after done c.requires.ascending (omega arith) c.lit-item.is c.assume.ensures.answer c.assume.ensures.after c.loop-lit.invariant.so_far;
    }

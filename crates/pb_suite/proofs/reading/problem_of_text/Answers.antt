use Rattle.std.proofs.Common.{◌≡◌, ◌≤◌, ◌<◌, ◌^◌, ◌∙◌, rules, FitsSigned, to_z, of_z, ℕ, ℤ, List, Option, Some, None, Err, ap, inl, inr, refl, sym, subst}
use mir.Syntax.{w128}
use Rattle.std.proofs.lemmas.Int.{to_z-of_z}
use Rattle.pb_base.specs.declared.problem.Problem.{Problem}
use Rattle.pb_opb.specs.Bounded.{bound_weight, bounded}
use Rattle.pb_opb.specs.declared.bound.BoundFault.{BoundFault}
use Rattle.pb_opb.specs.declared.bound.BoundFault.TheVariants as bound
use Rattle.pb_opb.specs.declared.fault.OpbFault.{OpbFault}
use Rattle.pb_opb.specs.declared.fault.OpbFault.TheVariants as opb
use Rattle.pb_opb.specs.Faults.{IsFirstFault, Reads}
use Rattle.pb_opb.proofs.BoundedLemmas.{reads_few}
use Rattle.pb_suite.specs.Denoted.{Denotes}
use Rattle.pb_suite.specs.Refusals.RefusesOpb.{token, limit, heavy}
use Rattle.pb_suite.specs.inner.Runs.{bound_refusal, opb_refusal}
use Rattle.pb_suite.proofs.DenotedProblems.{GivenUp}
use Rattle.pb_suite.proofs.reading.problem_of_text.Goals as goal

by_fault : (most : Option ℤ) (text : List ℕ) (fault : OpbFault) → IsFirstFault text fault → GivenUp most text (opb_refusal fault)
by_fault most text (opb.Token place e) first = inr (token place e first)
by_fault most text (opb.Limit place which) first = inr (limit place which first)
by_fault most text opb.NoMemory first = inl refl

-- the bound that is given, as it is passed to a call
module _ (most : Option ℤ) (text : List ℕ) (p : Problem) (b passed : ℤ) (given : most ≡ Some b) (same : passed ≡ b) (reads : Reads text p) where
  is_posed : (q : Problem) → bound_weight p passed < 2 ^ 100 → q ≡ bounded p passed → Denotes most text q
  is_posed q light is =
      subst (λ (o : Option ℤ). Denotes o text q) (sym given)
      (record { plain = p; reads = reads; light = subst (λ (n : ℤ). bound_weight p n < 2 ^ 100) same light; is = is ∙ ap (bounded p) same })

  is_given_up : (fault : BoundFault) → (fault ≡ bound.Weight → 2 ^ 100 ≤ bound_weight p passed) → GivenUp most text (bound_refusal fault)
  is_given_up bound.Weight weight = inr (heavy p b given reads (subst (λ (n : ℤ). 2 ^ 100 ≤ bound_weight p n) same (weight refl)))
  is_given_up bound.NoMemory weight = inl refl

pub returns-in-Err-clause-stopped : goal.returns-in-Err-clause-stopped
returns-in-Err-clause-stopped c =
    subst (GivenUp c.args.bound c.args.text.now) (sym c.opb_refusal.ensures) (by_fault c.args.bound c.args.text.now c.in-Err.fault c.in-Err.ensures.fault)

pub returns-in-None-clause-denotes : goal.returns-in-None-clause-denotes
returns-in-None-clause-denotes c =
    subst (λ (o : Option ℤ). Denotes o c.args.text.now c.in-Ok.problem) (sym c.in-None.is) (record { plain = c.in-Ok.problem; reads = c.in-Ok.ensures.reads; light = tt; is = refl })

pub returns-in-None-clause-few : goal.returns-in-None-clause-few
returns-in-None-clause-few c = λ is. reads_few c.args.text.now c.in-Ok.problem c.in-Ok.ensures.reads

pub returns-in-Ok-bounded-clause-few : goal.returns-in-Ok-bounded-clause-few
returns-in-Ok-bounded-clause-few c = λ is.
    let no : Some c.in-Some.most ≡ None = sym c.in-Some.is ∙ is in
    cc

pub bounded-requires-clause-room : goal.bounded-requires-clause-room
bounded-requires-clause-room c = reads_few c.args.text.now c.in-Ok.problem c.in-Ok.ensures.reads

pub returns-in-Ok-bounded-clause-denotes : goal.returns-in-Ok-bounded-clause-denotes
returns-in-Ok-bounded-clause-denotes c =
    let fits : FitsSigned w128 c.in-Some.most = search rules in
    is_posed c.args.bound c.args.text.now c.in-Ok.problem c.in-Some.most (to_z w128 (of_z w128 c.in-Some.most)) c.in-Some.is (to_z-of_z w128 c.in-Some.most fits) c.in-Ok.ensures.reads
    c.in-Ok-bounded.problem c.in-Ok-bounded.ensures.light c.in-Ok-bounded.ensures.ok

pub returns-in-Err-bounded-clause-stopped : goal.returns-in-Err-bounded-clause-stopped
returns-in-Err-bounded-clause-stopped c =
    let fits : FitsSigned w128 c.in-Some.most = search rules in
    subst (GivenUp c.args.bound c.args.text.now) (sym c.bound_refusal.ensures)
    (is_given_up c.args.bound c.args.text.now c.in-Ok.problem c.in-Some.most (to_z w128 (of_z w128 c.in-Some.most)) c.in-Some.is (to_z-of_z w128 c.in-Some.most fits) c.in-Ok.ensures.reads
    c.in-Err-bounded.fault (λ is. c.in-Err-bounded.ensures.heavy (ap Err is)))

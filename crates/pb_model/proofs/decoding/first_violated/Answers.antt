use Rattle.std.proofs.Common.{◌≡◌, ◌^◌, true, false, refl, List, [], ◌∷◌, ◌++◌, All, length, ap, sym, subst, ◌∙◌, arith, append_assoc, length-append}
use Rattle.std.proofs.lemmas.List.{append-nil}
use Rattle.std.proofs.lemmas.List.Elements.{All-tail, All-cons, All-nil, All-append}
use Rattle.pb_base.specs.declared.problem.Raw.{Raw}
use Rattle.pb_base.specs.Literals.{assigned_by}
use Rattle.pb_base.specs.Problems.{Satisfies, StaysBelow}
use Rattle.pb_base.specs.Statements.{raw_of}
use Rattle.pb_model.specs.Decoding.{AreVarsWithin}
use Rattle.pb_model.proofs.decoding.first_violated.Goals as goal

pub returns-then-not-satisfies : goal.returns-then-not-satisfies
returns-then-not-satisfies c =
    let before = c.loop-statement.invariant.before in
    let s = raw_of c.in-Some.statement in
    record {
      before = before.0;
      statement = s;
      after = c.next.new.self;
      cut = before.1.0 ∙ ap (λ (ss : List Raw). before.0 ++ ss) c.in-Some.ensures.steps;
      counted = omega (arith, before.1.1.0);
      kept = before.1.1.1;
      violated = λ holds. let never : false ≡ true = c.if-not-satisfies.ensures.1 holds in cc;
    }

pub loop-statement-preserved : goal.loop-statement-preserved
loop-statement-preserved c =
    let vars = length c.args.values.now in
    let a = assigned_by c.args.values.now in
    let s = raw_of c.in-Some.statement in
    let rest : List Raw = c.next.new.self in
    let first : c.loop-statement.statement-iterator ≡ s ∷ rest = c.in-Some.ensures.steps in
    let before = c.loop-statement.invariant.before in
    let holds : Satisfies a s = c.if-not-satisfies.ensures.0 refl in
    record {
      vars = All-tail (λ (t : Raw). AreVarsWithin vars t.terms) s rest (subst (λ (ss : List Raw). All (λ (t : Raw). AreVarsWithin vars t.terms) ss) first c.loop-statement.invariant.vars);
      numbers = All-tail (StaysBelow (2 ^ 100)) s rest (subst (λ (ss : List Raw). All (StaysBelow (2 ^ 100)) ss) first c.loop-statement.invariant.numbers);
      before = (
        before.0 ++ s ∷ [],
        (
          before.1.0 ∙ ap (λ (ss : List Raw). before.0 ++ ss) first ∙ sym (append_assoc before.0 (s ∷ []) rest),
          (omega (arith, before.1.1.0, length-append before.0 (s ∷ [])), All-append (Satisfies a) before.0 (s ∷ []) before.1.1.1 (All-cons (Satisfies a) s [] holds (All-nil (Satisfies a)))),
        ),
      );
    }

pub returns : goal.returns
returns c =
    let a = assigned_by c.args.values.now in
    let before = c.loop-statement.invariant.before in
    let all = before.1.0 ∙ ap (λ (ss : List Raw). before.0 ++ ss) c.in-None.ensures.steps.0 ∙ append-nil before.0 in
    subst (All (Satisfies a)) (sym all) before.1.1.1

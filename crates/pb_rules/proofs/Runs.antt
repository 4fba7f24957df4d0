-- Operations that weaken, done at once.
use Rattle.std.proofs.Common.{◌≡◌, ℕ, List, [], ◌∷◌, ◌++◌, Bool, true, false, refl, ap, sym, ◌∙◌, subst, Option, Some, None, reverse, take, drop}
use Rattle.std.specs.Prelude.{All, option_and_then, flat_map}
use Rattle.std.proofs.lemmas.Bool.{false≢true}
use Rattle.std.proofs.lemmas.List.{take-append-drop}
use Rattle.std.proofs.lemmas.List.Elements.{All-head, All-tail}
use Rattle.std.proofs.lemmas.Grind.{flat_map-append}
use Rattle.pb_base.proofs.Members.{All-append_both}
use Rattle.pb_norm.specs.Constraints.{Constraint}
use Rattle.pb_operations.specs.Weakenings.{weakened}
use Rattle.pb_steps.specs.declared.op.PolOp.{PolOp}
use Rattle.pb_steps.specs.declared.op.PolOp.TheVariants.{Push, Axiom, Add, Mul, Div, Saturate, Weaken}
use Rattle.pb_steps.specs.Operations.{IsNarrow, weakening}
use Rattle.pb_steps.specs.Database.{Entry}
use Rattle.pb_steps.specs.Steps.{vars_of_op}
use Rattle.pb_steps.specs.Stacks.{after_ops}
use Rattle.pb_rules.specs.inner.Tops.{done_op, topped, IsWeakening, IsOutcome}
use Rattle.pb_rules.proofs.Fits.{reverse_top, top_has, with_room-narrow, weakening-narrow}

-- the topmost constraint is weakened, and keeps its room
run-done : (live : List Entry) (run : List PolOp) (c : Constraint) (stack : List Constraint) → All IsWeakening run → IsNarrow c → after_ops live run (c ∷ stack) ≡ Some (weakened run c ∷ stack)
run-done live [] c stack h narrow = refl
run-done live (Weaken v ∷ run) c stack h narrow =
    ap (option_and_then (after_ops live run)) (with_room-narrow (weakening v c) stack (weakening-narrow v c narrow)) ∙
    run-done live run (weakening v c) stack (All-tail IsWeakening (Weaken v) run h) (weakening-narrow v c narrow)
run-done live (Push id ∷ run) c stack h narrow = absurd (false≢true (All-head IsWeakening (Push id) run h))
run-done live (Axiom l ∷ run) c stack h narrow = absurd (false≢true (All-head IsWeakening (Axiom l) run h))
run-done live (Add ∷ run) c stack h narrow = absurd (false≢true (All-head IsWeakening Add run h))
run-done live (Mul n ∷ run) c stack h narrow = absurd (false≢true (All-head IsWeakening (Mul n) run h))
run-done live (Div n ∷ run) c stack h narrow = absurd (false≢true (All-head IsWeakening (Div n) run h))
run-done live (Saturate ∷ run) c stack h narrow = absurd (false≢true (All-head IsWeakening Saturate run h))

pub run-weakened : (live : List Entry) (run : List PolOp) (old new after : List Constraint) (c made : Constraint) (done : Bool) → old ≡ new ++ c ∷ [] → All IsWeakening run → All IsNarrow (reverse old) → made ≡ weakened run c →
    IsOutcome done (topped (Some made) (reverse new)) (reverse after) → IsOutcome done (after_ops live run (reverse old)) (reverse after)
run-weakened live run old new after c made done e h narrow is outcome =
    let same : after_ops live run (reverse old) ≡ topped (Some made) (reverse new) =
    ap (after_ops live run) (reverse_top old new c e) ∙ (run-done live run c (reverse new) h (top_has IsNarrow old new c e narrow) ∙ ap (λ (d : Constraint). topped (Some d) (reverse new)) (sym is)) in
    subst (λ (o : Option (List Constraint)). IsOutcome done o (reverse after)) (sym same) outcome

-- ---- a run, and the operations behind it

pub run-parts : (rest run others : List PolOp) (n : ℕ) → run ≡ take n rest → others ≡ drop n rest → rest ≡ run ++ others
run-parts rest run others n e f = sym (ap (λ (ops : List PolOp). ops ++ others) e ∙ (ap (λ (ops : List PolOp). take n rest ++ ops) f ∙ take-append-drop n rest))

after_ops-append : (live : List Entry) (run others : List PolOp) (stack : List Constraint) → after_ops live (run ++ others) stack ≡ option_and_then (after_ops live others) (after_ops live run stack)
after_ops-append live [] others stack = refl
after_ops-append live (op ∷ run) others stack = step (done_op live op stack) (λ next. after_ops-append live run others next) where
  step : (o : Option (List Constraint)) → ((next : List Constraint) → after_ops live (run ++ others) next ≡ option_and_then (after_ops live others) (after_ops live run next)) →
      option_and_then (after_ops live (run ++ others)) o ≡ option_and_then (after_ops live others) (option_and_then (after_ops live run) o)
  step None rest = refl
  step (Some next) rest = rest next

pub run-behind : (live : List Entry) (rest run others : List PolOp) (stack : List Constraint) (o : Option (List Constraint)) → rest ≡ run ++ others → after_ops live run stack ≡ o → after_ops live rest stack ≡ option_and_then (after_ops live others) o
run-behind live rest run others stack o e f = ap (λ (ops : List PolOp). after_ops live ops stack) e ∙ (after_ops-append live run others stack ∙ ap (option_and_then (after_ops live others)) f)

pub outcome_false : (done : Bool) (after : Option (List Constraint)) (stack : List Constraint) → done ≡ false → IsOutcome done after stack → after ≡ None
outcome_false true after stack e h = absurd (false≢true (sym e))
outcome_false false after stack e h = h

-- what their variables are, those of both are
pub known-both : (P : ℕ → Type 0) (run others : List PolOp) → All P (flat_map vars_of_op (run ++ others)) → All P (flat_map vars_of_op run) × All P (flat_map vars_of_op others)
known-both P run others h = All-append_both P (flat_map vars_of_op run) (flat_map vars_of_op others) (subst (All P) (flat_map-append vars_of_op run others) h)

-- What a line can say, the grammar of rules can spell.
use Rattle.std.proofs.Common.{◌≡◌, ◌≤◌, ◌<◌, ℕ, List, [], ◌∷◌, arith}
use Rattle.std.specs.Prelude.{All, AllPairs, Result, Ok, Err, IfOk, flat_map}
use Rattle.std.specs.List.{AllByRecursion}
use Rattle.std.proofs.lemmas.List.Elements.{All-nil, All-cons, All-append, All-weaker}
use Rattle.std.proofs.lemmas.List.Kept.{AllPairs-cons}
use Rattle.pb_base.proofs.Pairs.{AllPairs-nil}
use Rattle.pb_steps.specs.declared.op.Set.{Set}
use Rattle.pb_steps.specs.declared.op.PolOp.{PolOp}
use Rattle.pb_steps.specs.declared.op.PolOp.TheVariants.{Push, Axiom, Add, Mul, Div, Saturate, Weaken}
use Rattle.pb_steps.specs.declared.fault.StepFault.{StepFault}
use Rattle.pb_steps.specs.declared.step.Step.{Step}
use Rattle.pb_steps.specs.declared.step.Step.TheVariants.{Blank, Head, Loaded, Pol, Rup, Red, Del, Out, End}
use Rattle.pb_steps.specs.Steps.{HasFactor, AreFrom1, ids_of_op, IsSpelled}
use Rattle.pb_steps.specs.Sayable.{IsId, IsOp, Ascend, IsSayable}
use Rattle.pb_steps.specs.LineSteps.{step_of}
use Rattle.pb_steps.proofs.LineLaws.{read_is_sayable}

abbrev none_named : AreFrom1 []
none_named = All-nil (λ id. 1 ≤ id)

from1 : (ids : List ℕ) → AllByRecursion IsId ids → AreFrom1 ids
from1 [] h = none_named
from1 (id ∷ ids) h = All-cons (λ i. 1 ≤ i) id ids h.0.0 (from1 ids h.1)

op_spelled : (op : PolOp) → IsOp op → HasFactor op × AreFrom1 (ids_of_op op)
op_spelled (Push id) h = (tt, All-cons (λ i. 1 ≤ i) id [] h.0 none_named)
op_spelled (Axiom l) h = (tt, none_named)
op_spelled Add h = (tt, none_named)
op_spelled (Mul n) h = (h.0, none_named)
op_spelled (Div n) h = (h.0, none_named)
op_spelled Saturate h = (tt, none_named)
op_spelled (Weaken v) h = (tt, none_named)

ops_spelled : (ops : List PolOp) → AllByRecursion IsOp ops → All HasFactor ops × AreFrom1 (flat_map ids_of_op ops)
ops_spelled [] h = (All-nil HasFactor, none_named)
ops_spelled (op ∷ ops) h =
    let here = op_spelled op h.0 in
    let rest = ops_spelled ops h.1 in
    (All-cons HasFactor op ops here.0 rest.0, All-append (λ i. 1 ≤ i) (ids_of_op op) (flat_map ids_of_op ops) here.1 rest.1)

-- sets above a variable, ascending
sets_ascend : (above : ℕ) (sets : List Set) → Ascend above sets → All (λ s. above < s.var) sets × AllPairs (λ s t. s.var < t.var) sets
sets_ascend above [] h = (All-nil {X = Set} (λ s. above < s.var), AllPairs-nil {X = Set} (λ s t. s.var < t.var))
sets_ascend above (s ∷ sets) h =
    let rest = sets_ascend s.var sets h.2 in (
      All-cons {X = Set} (λ t. above < t.var) s sets h.0 (All-weaker {X = Set} (λ t. s.var < t.var) (λ t. above < t.var) (λ t k. omega (arith, k, h.0)) sets rest.0),
      AllPairs-cons {X = Set} (λ t u. t.var < u.var) s sets rest.0 rest.1,
    )

pub sayable-spelled : (s : Step) → IsSayable s → IsSpelled s
sayable-spelled Blank h = tt
sayable-spelled Head h = tt
sayable-spelled (Loaded n) h = tt
sayable-spelled (Pol ops) h = ops_spelled ops h
sayable-spelled (Rup ts right ids) h = from1 ids h.2
sayable-spelled (Red ts right sets) h = (sets_ascend 0 sets h.2).1
sayable-spelled (Del ids) h = (from1 ids h.0, h.1)
sayable-spelled (Out id) h = h.0
sayable-spelled End h = tt

-- a line that is read as a step spells one
pub all_spelled : (r : Result Step StepFault) (line : List ℕ) → IfOk r (λ s. step_of line ≡ Ok s) → IfOk r IsSpelled
all_spelled (Ok s) line is = sayable-spelled s (read_is_sayable line s is)
all_spelled (Err fault) line is = tt

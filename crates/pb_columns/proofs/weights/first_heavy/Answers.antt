use Rattle.std.proofs.Common.{◌≡◌, ◌≤◌, ◌<◌, ◌∙◌, [], ◌∷◌, ◌++◌, List, ℕ, ℤ, FitsSigned, ap, append_assoc, arith, get_or, length, length-append, of_z, refl, rules, subst, sym, take, to_z}
use mir.Syntax.{w32}
use Rattle.std.proofs.lemmas.Bool.{false≢true}
use Rattle.std.proofs.lemmas.Int.{to_z-of_z}
use Rattle.std.proofs.lemmas.List.{append-nil, length-map, length-take, take_all}
use Rattle.pb_base.specs.declared.problem.Raw.{Raw}
use Rattle.pb_base.specs.Statements.{raw_of}
use Rattle.pb_columns.specs.declared.sum.PbcnfSum.{PbcnfSum}
use Rattle.pb_columns.specs.Columns.{conditions_in, IsLight}
use Rattle.pb_columns.specs.Conditions.{AllUnder}
use Rattle.pb_columns.proofs.Conditioned.{under_more}
use Rattle.pb_columns.proofs.Standing.{map_more, no_sum, stands_here}
use Rattle.pb_columns.proofs.weights.first_heavy.Goals as goal

-- there is a sum for the next statement
next_sum : (sums : List PbcnfSum) (ss before rest : List Raw) (s : Raw) (i : ℕ) → length ss ≡ length sums → ss ≡ before ++ s ∷ rest → i ≡ length before → i < length sums
next_sum sums ss before rest s i same cut at =
    let size = ap (λ (xs : List Raw). length xs) cut ∙ length-append before (s ∷ rest) in
    omega (arith, same, at, size)

pub loop-statement-init : goal.loop-statement-init
loop-statement-init c = ([], (sym (c.into_iter-statement-iterator.ensures.into_iter_gives ∙ c.iter-statement-items.ensures), (refl, tt)))

pub bounds-sums-place : goal.bounds-sums-place
bounds-sums-place c =
    let before = c.loop-statement.invariant in
    next_sum c.args.sums.now c.args.statements.now before.0 c.next.new.self (raw_of c.in-Some.statement) c.loop-statement.place c.requires
    (before.1.0 ∙ ap (λ (ss : List Raw). before.0 ++ ss) c.in-Some.ensures.steps) before.1.1.0

pub returns-then-not-is_light : goal.returns-then-not-is_light
returns-then-not-is_light c =
    let before = c.loop-statement.invariant in
    let sums = c.args.sums.now in
    let i = c.loop-statement.place in
    let m : PbcnfSum = get_or sums i no_sum in
    let s = raw_of c.in-Some.statement in
    let cut = before.1.0 ∙ ap (λ (ss : List Raw). before.0 ++ ss) c.in-Some.ensures.steps in
    let within = next_sum sums c.args.statements.now before.0 c.next.new.self s i c.requires cut before.1.1.0 in
    let fits : FitsSigned w32 m.condition = search rules in
    let kept : to_z w32 (of_z w32 m.condition) ≡ m.condition = to_z-of_z w32 m.condition fits in (
      m,
      (
        s,
        (
          stands_here sums i no_sum within,
          (
            record { before = before.0; behind = c.next.new.self; cut = cut; counted = omega (arith, before.1.1.0) },
            λ light. false≢true (c.if-not-is_light.ensures.1 (subst (λ (z : ℤ). IsLight z s) (sym kept) light)),
          ),
        ),
      ),
    )

pub loop-statement-preserved : goal.loop-statement-preserved
loop-statement-preserved c =
    let before = c.loop-statement.invariant in
    let sums = c.args.sums.now in
    let i = c.loop-statement.place in
    let m : PbcnfSum = get_or sums i no_sum in
    let s = raw_of c.in-Some.statement in
    let rest : List Raw = c.next.new.self in
    let cut = before.1.0 ∙ ap (λ (ss : List Raw). before.0 ++ ss) c.in-Some.ensures.steps in
    let within = next_sum sums c.args.statements.now before.0 rest s i c.requires cut before.1.1.0 in
    let fits : FitsSigned w32 m.condition = search rules in
    let kept : to_z w32 (of_z w32 m.condition) ≡ m.condition = to_z-of_z w32 m.condition fits in
    let light : IsLight m.condition s = subst (λ (z : ℤ). IsLight z s) kept (c.if-not-is_light.ensures.0 refl) in
    let many : length (conditions_in (take i sums)) ≡ length before.0 = omega (arith, within, before.1.1.0, length-map (take i sums) (λ (m : PbcnfSum). m.condition), length-take i sums) in (
      before.0 ++ s ∷ [],
      (
        cut ∙ sym (append_assoc before.0 (s ∷ []) rest),
        (
          omega (arith, before.1.1.0, length-append before.0 (s ∷ [])),
          subst (λ (zs : List ℤ). AllUnder IsLight zs (before.0 ++ s ∷ [])) (sym (map_more (λ (m : PbcnfSum). m.condition) sums i no_sum within))
              (under_more IsLight (conditions_in (take i sums)) before.0 m.condition s many before.1.1.1 light),
        ),
      ),
    )

pub returns : goal.returns
returns c =
    let before = c.loop-statement.invariant in
    let sums = c.args.sums.now in
    let i = c.loop-statement.place in
    let all = before.1.0 ∙ ap (λ (ss : List Raw). before.0 ++ ss) c.in-None.ensures.steps.0 ∙ append-nil before.0 in
    let done : length sums ≤ i = omega (arith, c.requires, before.1.1.0, ap (λ (ss : List Raw). length ss) all) in
    subst (λ (ms : List PbcnfSum). AllUnder IsLight (conditions_in ms) c.args.statements.now) (take_all i sums done)
    (subst (AllUnder IsLight (conditions_in (take i sums))) (sym all) before.1.1.1)

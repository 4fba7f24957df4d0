use Rattle.std.proofs.Common.{◌≡◌, ◌^◌, ◌∙◌, ◌++◌, [], ◌∷◌, All, List, ℤ, FitsSigned, ap, append_assoc, arith, get_or, length, length-append, of_z, rules, subst, sym, take, to_z}
use mir.Syntax.{w32}
use Rattle.std.proofs.lemmas.Int.{to_z-of_z}
use Rattle.std.proofs.lemmas.List.{length-map, length-take}
use Rattle.std.proofs.lemmas.List.Elements.{All-tail}
use Rattle.pb_base.specs.declared.problem.Raw.{Raw}
use Rattle.pb_base.specs.Problems.{StaysBelow}
use Rattle.pb_columns.specs.declared.sum.PbcnfSum.{PbcnfSum}
use Rattle.pb_columns.specs.Columns.{conditions_in}
use Rattle.pb_columns.specs.Conditions.{posed, posed_under}
use Rattle.pb_columns.proofs.Conditioned.{posed_more}
use Rattle.pb_columns.proofs.Standing.{map_more, no_sum}
use Rattle.pb_columns.proofs.posing.pose_all.Goals as goal

pub loop-place-preserved : goal.loop-place-preserved
loop-place-preserved c =
    let sums = c.args.sums.now in
    let i = c.loop-place.place in
    let within = c.loop-place-test.true in
    let m : PbcnfSum = get_or sums i no_sum in
    let fits : FitsSigned w32 m.condition = search rules in
    let kept : to_z w32 (of_z w32 m.condition) ≡ m.condition = to_z-of_z w32 m.condition fits in
    let more = c.in_ok-pose_next.ensures in
    let before : List Raw = c.loop-place.invariant.passed.0 in
    let passed = c.loop-place.invariant.passed.1 in
    let s : Raw = more.taken in
    let rest : List Raw = c.pose_next.new.left in
    let zs : List ℤ = conditions_in (take i sums) in
    let count : length before ≡ i = passed.1.0 in
    let many : length zs ≡ length before = omega (arith, within, count, length-map (take i sums) (λ (m : PbcnfSum). m.condition), length-take i sums) in
    record {
      light = All-tail (StaysBelow (2 ^ 100)) s rest (subst (All (StaysBelow (2 ^ 100))) more.next c.loop-place.invariant.light);
      passed = (
        before ++ s ∷ [],
        (
          passed.0 ∙ ap (λ (ss : List Raw). before ++ ss) more.next ∙ sym (append_assoc before (s ∷ []) rest),
          (
            omega (arith, count, length-append before (s ∷ [])),
            more.pushed ∙ ap (λ (ss : List Raw). ss ++ posed_under (to_z w32 (of_z w32 m.condition)) s) passed.1.1 ∙ ap (λ (z : ℤ). posed zs before ++ posed_under z s) kept
                ∙ sym (posed_more zs before m.condition s many) ∙ ap (λ (ys : List ℤ). posed ys (before ++ s ∷ [])) (sym (map_more (λ (m : PbcnfSum). m.condition) sums i no_sum within)),
          ),
        ),
      );
    }

-- Where equalities are encoded half by half, the groups are encoded as their constraints are one after another.
use Rattle.std.proofs.Common.{◌≡◌, ◌==◌, ◌+◌, ◌++◌, ℕ, Bool, false, cond, List, [], ◌∷◌, refl, ap, ◌∙◌, arith, append_assoc}
use Rattle.std.specs.Prelude.{sum_by}
use Rattle.std.proofs.lemmas.Bool.{cond-false}
use Rattle.std.proofs.lemmas.List.Sums.{sum_by-cons}
use Rattle.pb_base.specs.declared.literal.Lit.{Lit}
use Rattle.pb_base.specs.declared.problem.Problem.{Problem}
use Rattle.pb_base.specs.Problems.{originals}
use Rattle.pb_norm.specs.Constraints.{Constraint}
use Rattle.pb_norm.specs.Reduction.{rest_of}
use Rattle.pb_totalizer.specs.Exact.{exact_clauses, exact_fresh, exact_size}
use Rattle.pb_base.specs.declared.options.EqualMode.TheVariants as mode
use Rattle.pb_base.specs.declared.options.Options.{Options}
use Rattle.pb_choice.specs.declared.treatment.Treatment.{Treatment}
use Rattle.pb_choice.specs.Choice.{treatment_of}
use Rattle.pb_choice.specs.Clauses.{constraint_clauses, constraint_count, constraint_fresh}
use Rattle.pb_choice.specs.Equals.{equality_clauses, equality_count, equality_fresh, is_joining, is_joint, literals_asked}
use Rattle.pb_choice.proofs.JointSums.{not_joining}
use Rattle.pb_encode.specs.Clauses.{clause_total, clauses_from, fresh_total}
use Rattle.pb_encode.specs.declared.groups.Group.{Group}
use Rattle.pb_encode.specs.Groups.{all_members, group_count, group_fresh, groups_of, singles}
use Rattle.pb_encode.specs.declared.groups.Group.TheVariants.{Alone, Paired}
use Rattle.pb_encode.specs.Summaries.{counted_at, joint_at, place_of, treated, treated_in}
use Rattle.pb_encode.specs.Apart.{AreApart}
use Rattle.pb_encode.proofs.GroupLists.{members_loaded}

-- no treatment has the place behind them
none_there : (t : Treatment) → (place_of t == 11) ≡ false
none_there x = grind arith

singles_none : (o : Options) (cs : List Constraint) → treated o 11 (singles cs) ≡ 0
singles_none o [] = refl
singles_none o (c ∷ cs) =
    let here : counted_at o 11 c ≡ 0 = ap (λ (b : Bool). cond {A = ℕ} b 1 0) (none_there (treatment_of o (rest_of c))) in
    omega (arith, sum_by-cons (treated_in o 11) (Alone c) (singles cs), here, singles_none o cs)

-- what is added up over groups, where a pair has as much as both of it
total-apart : (f : Group → ℕ) → ((c d : Constraint) → f (Paired c d) ≡ f (Alone c) + f (Alone d)) → (gs : List Group) → sum_by f gs ≡ sum_by f (singles (all_members gs))
total-apart f parts [] = refl
total-apart f parts (Alone c ∷ gs) = omega (arith, sum_by-cons f (Alone c) gs, sum_by-cons f (Alone c) (singles (all_members gs)), total-apart f parts gs)
total-apart f parts (Paired c d ∷ gs) =
    omega (
      arith,
      sum_by-cons f (Paired c d) gs,
      sum_by-cons f (Alone c) (Alone d ∷ singles (all_members gs)),
      sum_by-cons f (Alone d) (singles (all_members gs)),
      parts c d,
      total-apart f parts gs,
    )

module _ (o : Options) (apart : o.equal ≡ mode.Split) where
  never_joint : (c : Constraint) → is_joint o c ≡ false
  never_joint c = not_joining o c (ap is_joining apart)

  fresh_parts : (c d : Constraint) → equality_fresh o c d ≡ constraint_fresh o c + constraint_fresh o d
  fresh_parts c d = cond-false (is_joint o c) (exact_fresh (literals_asked c)) (constraint_fresh o c + constraint_fresh o d) (never_joint c)

  count_parts : (c d : Constraint) → equality_count o c d ≡ constraint_count o c + constraint_count o d
  count_parts c d = cond-false (is_joint o c) (exact_size (literals_asked c)) (constraint_count o c + constraint_count o d) (never_joint c)

  treated_parts : (place : ℕ) (c d : Constraint) → treated_in o place (Paired c d) ≡ counted_at o place c + counted_at o place d
  treated_parts place c d = cond-false (is_joint o c) (joint_at place) (counted_at o place c + counted_at o place d) (never_joint c)

  clauses-apart : (gs : List Group) (first : ℕ) → clauses_from o first gs ≡ clauses_from o first (singles (all_members gs))
  clauses-apart [] first = refl
  clauses-apart (Alone c ∷ gs) first = ap (λ (xs : List (List Lit)). constraint_clauses o c first ++ xs) (clauses-apart gs (first + constraint_fresh o c))
  clauses-apart (Paired c d ∷ gs) first =
      let after : ℕ = first + constraint_fresh o c in
      let last : ℕ = after + constraint_fresh o d in
      let front : List (List Lit) = constraint_clauses o c first in
      let back : List (List Lit) = constraint_clauses o d after in
      let rest : List (List Lit) = clauses_from o last (singles (all_members gs)) in
      let own : equality_clauses o c d first ≡ front ++ back = cond-false (is_joint o c) (exact_clauses (literals_asked c) first) (front ++ back) (never_joint c) in
      let next : first + equality_fresh o c d ≡ last = omega (arith, fresh_parts c d) in
      (λ i. own i ++ clauses_from o (next i) gs) ∙ ap (λ (xs : List (List Lit)). (front ++ back) ++ xs) (clauses-apart gs last) ∙ append_assoc front back rest

  pub groups_apart : (p : Problem) → AreApart o p
  groups_apart p =
      let first = originals p + 1 in
      let gs = groups_of p in
      let same = members_loaded p in
      let each : (place : ℕ) → treated o place gs ≡ treated o place (singles (all_members gs)) = λ place. total-apart (treated_in o place) (treated_parts place) gs in
      record {
        clauses = clauses-apart gs first ∙ ap (λ (cs : List Constraint). clauses_from o first (singles cs)) same;
        vars = ap (λ (n : ℕ). originals p + n) (total-apart (group_fresh o) fresh_parts gs ∙ ap (λ (cs : List Constraint). fresh_total o (singles cs)) same);
        count = total-apart (group_count o) count_parts gs ∙ ap (λ (cs : List Constraint). clause_total o (singles cs)) same;
        each = λ place. each place ∙ ap (λ (cs : List Constraint). treated o place (singles cs)) same;
        none = each 11 ∙ singles_none o (all_members gs);
      }

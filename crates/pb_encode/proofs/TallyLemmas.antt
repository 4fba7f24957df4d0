-- What a tally counts.
use Rattle.std.proofs.Common.{◌≡◌, ◌≤◌, ◌<◌, ◌==◌, ◌+◌, ◌*◌, ◌^◌, ◌++◌, ℕ, Bool, true, false, cond, List, [], ◌∷◌, length, map, refl, ap, sym, ◌∙◌, arith, inl, inr}
use Rattle.std.specs.Prelude.{Option, Some, None, slice_index_or, slice_set, sum_by}
use Rattle.std.proofs.lemmas.Bool.{cases_eq, cond-false, cond-true, eq-eqb, ne_eqb}
use Rattle.std.proofs.lemmas.List.{length-append, get_or-set_same, get_or-set_other, length-set}
use Rattle.std.proofs.lemmas.List.Sums.{sum_by_push, sum_by-cons}
use Rattle.pb_base.specs.declared.problem.Relation.{Relation}
use Rattle.pb_base.specs.declared.problem.Relation.TheVariants.{AtLeast, AtMost, Equal}
use Rattle.pb_base.specs.declared.problem.Raw.{Raw}
use Rattle.pb_base.specs.declared.problem.Problem.{Problem}
use Rattle.pb_base.specs.Problems.{originals, IsWithinLimits}
use Rattle.pb_norm.specs.Constraints.{Constraint}
use Rattle.pb_norm.specs.Halves.{half_of, halves_of, constraints_of, loaded}
use Rattle.pb_norm.specs.Products.{defining}
use Rattle.pb_norm.specs.Reduction.{rest_of}
use Rattle.pb_norm.proofs.ProductForms.{length-defining}
use Rattle.pb_base.specs.declared.options.Options.{Options}
use Rattle.pb_choice.specs.Choice.{treatment_of}
use Rattle.pb_choice.specs.Clauses.{constraint_count, constraint_fresh}
use Rattle.pb_choice.specs.Equals.{equality_count, equality_fresh, is_joint, literals_asked}
use Rattle.pb_totalizer.specs.Exact.{exact_fresh, exact_size}
use Rattle.pb_encode.specs.declared.tally.Tally.{Tally}
use Rattle.pb_encode.specs.declared.summary.Treatments.{Treatments}
use Rattle.pb_encode.specs.declared.summary.Summary.{Summary}
use Rattle.pb_gentot.specs.BoundTable.{table_fresh, table_size}
use Rattle.pb_encode.specs.Clauses.{clause_total, fresh_total, loaded_vars, problem_count, problem_vars, table_first}
use Rattle.pb_encode.specs.declared.groups.Group.{Group}
use Rattle.pb_encode.specs.Groups.{group_count, group_fresh, group_size, groups_of, size_total}
use Rattle.pb_encode.specs.declared.groups.Group.TheVariants.{Alone, Paired}
use Rattle.pb_encode.specs.Summaries.{IsEncodable, counted_at, joint_at, place_of, treated, treated_in, treatments_of, summary_of}
use Rattle.pb_encode.specs.Tables.{table_terms}
use Rattle.pb_encode.specs.inner.Tallies.{capped, AddsJoint, IsTally}
use Rattle.pb_encode.proofs.GroupLists.{size_loaded}

capped-sum : (a b n : ℕ) → n ≡ a + b → capped n ≡ capped (capped a + b)
capped-sum a b n e = omega (arith, e)

-- one or none
one_if : Bool → ℕ
one_if b = cond b 1 0

treated-push : (o : Options) (place : ℕ) (gs : List Group) (g : Group) → treated o place (gs ++ g ∷ []) ≡ treated o place gs + treated_in o place g
treated-push o place gs g = sum_by_push (treated_in o place) gs g

-- the counts of the treatments, with more at a place
places_more : (o : Options) (gs : List Group) (g : Group) (old new : List ℕ) (p more : ℕ) → length old ≡ 12 → p < 12 → new ≡ slice_set old p (capped (slice_index_or old p 0 + more))
    → ((place : ℕ) → treated_in o place g ≡ cond (p == place) more 0)
    → ((place : ℕ) → place < 12 → slice_index_or old place 0 ≡ capped (treated o place gs)) → (place : ℕ) → place < 12 → slice_index_or new place 0 ≡ capped (treated o place (gs ++ g ∷ []))
places_more o gs g old new p more size lt is at before place within =
    elim (cases_eq p place) as (λ _. slice_index_or new place 0 ≡ capped (treated o place (gs ++ g ∷ []))) [
      | inl same ↦
          let here : treated_in o place g ≡ more = at place ∙ cond-true (p == place) more 0 (eq-eqb p place same) in
          let sum : treated o place (gs ++ g ∷ []) ≡ treated o place gs + more = treated-push o place gs g ∙ ap (λ (n : ℕ). treated o place gs + n) here in
          let read : slice_index_or new p 0 ≡ capped (slice_index_or old p 0 + more) = ap (λ (xs : List ℕ). slice_index_or xs p 0) is ∙ get_or-set_same old p (capped (slice_index_or old p 0 + more)) 0 (omega (arith, size, lt)) in
          let was : slice_index_or old p 0 ≡ capped (treated o place gs) = before p lt ∙ ap (λ (n : ℕ). capped (treated o n gs)) same in
          ap (λ (n : ℕ). slice_index_or new n 0) (sym same) ∙ read ∙ ap (λ (n : ℕ). capped (n + more)) was ∙ sym (capped-sum (treated o place gs) more _ sum)
      | inr other ↦
          let not_here : treated_in o place g ≡ 0 = at place ∙ cond-false (p == place) more 0 (ne_eqb p place other) in
          let same : treated o place (gs ++ g ∷ []) ≡ treated o place gs = omega (arith, treated-push o place gs g, not_here) in
          ap (λ (xs : List ℕ). slice_index_or xs place 0) is ∙ get_or-set_other old p place (capped (slice_index_or old p 0 + more)) 0 (λ e. other (sym e)) ∙ before place within ∙ ap capped (sym same)
    ]

-- a group with more at one place was counted
group_more : (o : Options) (gs : List Group) (g : Group) (old new : Tally) (p more fresh count : ℕ) → fresh ≡ group_fresh o g → count ≡ group_count o g → new.fresh ≡ capped (old.fresh + fresh) → new.clauses ≡ capped (old.clauses + count) → p < 12
    → new.treated ≡ slice_set old.treated p (capped (slice_index_or old.treated p 0 + more)) → ((place : ℕ) → treated_in o place g ≡ cond (p == place) more 0) → IsTally o gs old → IsTally o (gs ++ g ∷ []) new
group_more o gs g old new p more fresh count fresh_is count_is fresh_to clauses_to lt is at h = record {
  fresh = fresh_to ∙ (λ i. capped (h.fresh i + fresh_is i)) ∙ sym (capped-sum (fresh_total o gs) (group_fresh o g) _ (sum_by_push (group_fresh o) gs g));
  clauses = clauses_to ∙ (λ i. capped (h.clauses i + count_is i)) ∙ sym (capped-sum (clause_total o gs) (group_count o g) _ (sum_by_push (group_count o) gs g));
  size = ap length is ∙ length-set old.treated p (capped (slice_index_or old.treated p 0 + more)) ∙ h.size;
  treated = places_more o gs g old.treated new.treated p more h.size lt is at h.treated;
}

-- one more constraint was counted
pub tally_more : (o : Options) (gs : List Group) (c : Constraint) (old new : Tally) (p : ℕ) → new.fresh ≡ capped (old.fresh + constraint_fresh o c) → new.clauses ≡ capped (old.clauses + constraint_count o c)
    → p ≡ place_of (treatment_of o (rest_of c)) → p < 12 → new.treated ≡ slice_set old.treated p (capped (slice_index_or old.treated p 0 + 1)) → IsTally o gs old → IsTally o (gs ++ Alone c ∷ []) new
tally_more o gs c old new p fresh clauses at lt is h =
    group_more o gs (Alone c) old new p 1 (constraint_fresh o c) (constraint_count o c) refl refl fresh clauses lt is (λ place. ap (λ (n : ℕ). cond {A = ℕ} (n == place) 1 0) (sym at)) h

-- an equality was counted that is encoded as one
pub tally_joint : (o : Options) (gs : List Group) (c d : Constraint) (old new : Tally) (fresh count : ℕ) → is_joint o c ≡ true → fresh ≡ equality_fresh o c d → count ≡ equality_count o c d → AddsJoint fresh count old new → IsTally o gs old → IsTally o (gs ++ Paired c d ∷ []) new
tally_joint o gs c d old new fresh count joint fresh_is count_is adds h =
    group_more o gs (Paired c d) old new 11 2 fresh count fresh_is count_is adds.fresh_is adds.clauses_are (omega arith) adds.treated_are
    (λ place. cond-true (is_joint o c) (joint_at place) (counted_at o place c + counted_at o place d) joint) h

-- one was counted that is encoded half by half
pub tally_split : (o : Options) (gs : List Group) (c d : Constraint) (t : Tally) → is_joint o c ≡ false → IsTally o ((gs ++ Alone c ∷ []) ++ Alone d ∷ []) t → IsTally o (gs ++ Paired c d ∷ []) t
tally_split o gs c d t split h = record {
  fresh = h.fresh ∙ ap capped (total (group_fresh o) (cond-false (is_joint o c) (exact_fresh (literals_asked c)) (constraint_fresh o c + constraint_fresh o d) split));
  clauses = h.clauses ∙ ap capped (total (group_count o) (cond-false (is_joint o c) (exact_size (literals_asked c)) (constraint_count o c + constraint_count o d) split));
  size = h.size;
  treated = λ place within. h.treated place within ∙ ap capped (total (treated_in o place) (cond-false (is_joint o c) (joint_at place) (counted_at o place c + counted_at o place d) split));
}
  where
    total : (f : Group → ℕ) → f (Paired c d) ≡ f (Alone c) + f (Alone d) → sum_by f ((gs ++ Alone c ∷ []) ++ Alone d ∷ []) ≡ sum_by f (gs ++ Paired c d ∷ [])
    total f parts = omega (arith, sum_by_push f (gs ++ Alone c ∷ []) (Alone d), sum_by_push f gs (Alone c), sum_by_push f gs (Paired c d), parts)

-- at most two for each statement
pub length-loaded : (ss : List Raw) → length (loaded ss) ≤ 2 * length ss
length-loaded [] = omega arith
length-loaded (s ∷ ss) = omega (arith, length-loaded ss, length-append (constraints_of s) (loaded ss), of_relation s.relation)
  where
    of_relation : (r : Relation) → length (map (λ half. half_of half s) (halves_of r)) ≤ 2
    of_relation AtLeast = omega arith
    of_relation AtMost = omega arith
    of_relation Equal = omega arith

pub few_groups : (p : Problem) → IsWithinLimits p → size_total (groups_of p) < 2 ^ 53
few_groups p within =
    let products = defining (p.vars + 1) p.products in
    omega (arith, size_loaded p, length-append products (loaded p.statements), length-defining p.vars (p.vars + 1) p.products within.products, within.vars, length-loaded p.statements, within.count)

one_if-le : (b : Bool) → one_if b ≤ 1
unfolding one_if
one_if-le b = grind arith

-- no more than the group has constraints
treated_in-le : (o : Options) (place : ℕ) (g : Group) → treated_in o place g ≤ group_size g
unfolding one_if
treated_in-le o place (Alone c) = one_if-le (place_of (treatment_of o (rest_of c)) == place)
treated_in-le o place (Paired c d) = by_tests (is_joint o c) (11 == place) (place_of (treatment_of o (rest_of c)) == place) (place_of (treatment_of o (rest_of d)) == place)
  where
    by_tests : (joint here lower upper : Bool) → cond {A = ℕ} joint (cond {A = ℕ} here 2 0) (cond {A = ℕ} lower 1 0 + cond {A = ℕ} upper 1 0) ≤ 2
    by_tests joint here lower upper = grind arith

treated-le : (o : Options) (place : ℕ) (gs : List Group) → treated o place gs ≤ size_total gs
treated-le o place [] = omega arith
treated-le o place (g ∷ gs) = omega (arith, sum_by-cons (treated_in o place) g gs, sum_by-cons group_size g gs, treated_in-le o place g, treated-le o place gs)

-- a count that is not too great is exact
pub exact : (o : Options) (gs : List Group) (t : Tally) (place n : ℕ) → size_total gs < 2 ^ 64 → IsTally o gs t → place < 12 → n ≡ slice_index_or t.treated place 0 → n ≡ treated o place gs
exact o gs t place n few h within is = omega (arith, is, h.treated place within, treated-le o place gs, few)

-- the table's numbers are added
pub summary_is : (o : Options) (p : Problem) (t : Tally) (n l v c f s q : ℕ) (ts : Treatments) (first : Option ℕ) → IsTally o (groups_of p) t → n ≡ originals p → q ≡ length p.products → f ≡ table_fresh (table_terms o p) → s ≡ table_size (table_terms o p)
    → l ≡ capped (n + t.fresh) → v ≡ capped (l + f) → v < 2 ^ 31 → c ≡ capped (t.clauses + s) → c ≤ 2 ^ 36 → ts ≡ treatments_of o (groups_of p) → first ≡ cond {A = Option ℕ} o.table (Some (l + 1)) None
    → ◌≡◌ {A = Summary} (record { vars = v; original = p.vars; products = q; clauses = c; treatments = ts; table = first }) (summary_of o p)
summary_is o p t n l v c f s q ts first h is products fresh size sum vars small clauses le same at = λ i. record { vars = all i; original = p.vars; products = products i; clauses = total i; treatments = same i; table = table i }
  where
    before : l ≡ loaded_vars o p
    before = omega (arith, sum, is, h.fresh, vars, small)

    all : v ≡ problem_vars o p
    all = omega (arith, vars, before, fresh, small)

    total : c ≡ problem_count o p
    total = omega (arith, h.clauses, clauses, size, le)

    table : first ≡ cond {A = Option ℕ} o.table (Some (table_first o p)) None
    table = at ∙ ap (λ (k : ℕ). cond {A = Option ℕ} o.table (Some (k + 1)) None) before

pub encodable_is : (o : Options) (p : Problem) (t : Tally) (n l v c f s : ℕ) → IsTally o (groups_of p) t → n ≡ originals p → f ≡ table_fresh (table_terms o p) → s ≡ table_size (table_terms o p)
    → l ≡ capped (n + t.fresh) → v ≡ capped (l + f) → v < 2 ^ 31 → c ≡ capped (t.clauses + s) → c ≤ 2 ^ 36 → table_fresh (table_terms o p) ≤ o.budget → IsEncodable o p
encodable_is o p t n l v c f s h is fresh size sum vars small clauses le bounds = record {
  bounds = bounds;
  vars = omega (arith, sum, is, h.fresh, vars, small, fresh);
  clauses = omega (arith, h.clauses, clauses, size, le);
}

-- what is too great, with the table's numbers
pub over_variables : (o : Options) (p : Problem) (t : Tally) (n l v f : ℕ) → IsTally o (groups_of p) t → n ≡ originals p → f ≡ table_fresh (table_terms o p) → l ≡ capped (n + t.fresh) → v ≡ capped (l + f) → 2 ^ 31 ≤ v → 2 ^ 31 ≤ problem_vars o p
over_variables o p t n l v f h is fresh sum vars great = omega (arith, h.fresh, is, fresh, sum, vars, great)

pub within_variables : (o : Options) (p : Problem) (t : Tally) (n l v f : ℕ) → IsTally o (groups_of p) t → n ≡ originals p → f ≡ table_fresh (table_terms o p) → l ≡ capped (n + t.fresh) → v ≡ capped (l + f) → v < 2 ^ 31 → problem_vars o p < 2 ^ 31
within_variables o p t n l v f h is fresh sum vars small = omega (arith, h.fresh, is, fresh, sum, vars, small)

pub over_clauses : (o : Options) (p : Problem) (t : Tally) (c s : ℕ) → IsTally o (groups_of p) t → s ≡ table_size (table_terms o p) → c ≡ capped (t.clauses + s) → 2 ^ 36 < c → 2 ^ 36 < problem_count o p
over_clauses o p t c s h size clauses great = omega (arith, h.clauses, size, clauses, great)

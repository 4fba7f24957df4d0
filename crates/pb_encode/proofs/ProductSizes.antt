-- How many terms and clauses the constraints of products have.
use Rattle.std.proofs.Common.{◌≡◌, ◌≤◌, ◌<◌, ◌+◌, ◌*◌, ℕ, List, [], ◌∷◌, length, map, take, get_or, All, refl, ap, subst, sym, arith, length-append}
use Rattle.std.specs.Prelude.{sum_by}
use Rattle.std.proofs.lemmas.List.{length-map}
use Rattle.std.proofs.lemmas.List.Elements.{All-append, All-cons, All-head, All-map, All-nil, All-tail, All-weaker}
use Rattle.std.proofs.lemmas.List.Sums.{sum_by-append, sum_by-cons}
use Rattle.pb_base.specs.declared.literal.Lit.{Lit}
use Rattle.pb_base.specs.Literals.{negated, IsModel}
use Rattle.pb_norm.specs.ClauseForm.{clause_form}
use Rattle.pb_norm.specs.Constraints.{Constraint}
use Rattle.pb_norm.specs.Products.{plain, implied, implying, product_clauses, product_constraints, defining}
use Rattle.pb_norm.proofs.ClauseTerms.{form-short}
use Rattle.pb_norm.proofs.ProductForms.{IsFormOver}
use Rattle.pb_norm.proofs.ProductLemmas.{defining_more, length-product}
use Rattle.pb_base.specs.declared.options.Options.{Options}
use Rattle.pb_choice.specs.Clauses.{constraint_clauses, constraint_count}
use Rattle.pb_choice.proofs.Encoded.{clauses-count, clauses-sound}
use Rattle.pb_choice.proofs.RestLaws.{IsTrueClause}
use Rattle.pb_encode.specs.Clauses.{clause_total}
use Rattle.pb_encode.specs.Groups.{group_count, singles}
use Rattle.pb_encode.specs.declared.groups.Group.TheVariants.{Alone}
use Rattle.pb_encode.proofs.ChoiceLaws.{HasFewTerms}
use Rattle.pb_encode.proofs.GroupDerivations.{term_total}

-- ---- terms

terms-clauses : (clauses : List (List Lit)) → term_total (map clause_form clauses) ≤ sum_by (λ (ls : List Lit). length ls) clauses
terms-clauses [] = omega arith
terms-clauses (ls ∷ clauses) =
    omega (
      arith,
      sum_by-cons (λ (c : Constraint). length c.terms) (clause_form ls) (map clause_form clauses),
      sum_by-cons (λ (ks : List Lit). length ks) ls clauses,
      form-short ls,
      terms-clauses clauses,
    )

literals-implied : (z : Lit) (ls : List Lit) → sum_by (λ (ks : List Lit). length ks) (map (implied z) ls) ≡ 2 * length ls
literals-implied z [] = refl
literals-implied z (l ∷ ls) = omega (arith, sum_by-cons (λ (ks : List Lit). length ks) (implied z l) (map (implied z) ls), literals-implied z ls)

terms-product : (z : Lit) (ls : List Lit) → term_total (product_constraints z ls) ≤ 3 * length (product_constraints z ls)
terms-product z ls =
    omega (
      arith,
      terms-clauses (product_clauses z ls),
      sum_by-append (λ (ks : List Lit). length ks) (map (implied z) ls) (implying z ls ∷ []),
      literals-implied z ls,
      length-map ls negated,
      length-product z ls,
    )

-- three for each constraint
pub terms-defining : (v : ℕ) (products : List (List Lit)) → term_total (defining v products) ≤ 3 * length (defining v products)
terms-defining v [] = omega arith
terms-defining v (ls ∷ products) =
    let here = product_constraints (plain v) ls in
    let rest = defining (v + 1) products in
    omega (arith, sum_by-append (λ (c : Constraint). length c.terms) here rest, length-append here rest, terms-product (plain v) ls, terms-defining (v + 1) products)

-- no clause of a product has more literals than the product and one more
clauses_short : (most : ℕ) (z : Lit) (ls : List Lit) → 2 ≤ length ls → length ls < most → All (λ ks. length ks ≤ most) (product_clauses z ls)
clauses_short most z ls some few =
    let Few : List Lit → Type 0 = λ ks. length ks ≤ most in
    All-append Few (map (implied z) ls) (implying z ls ∷ []) (All-map Few (implied z) ls (λ i d w. omega (arith, some, few)))
    (All-cons Few (implying z ls) [] (omega (arith, few, length-map ls negated)) (All-nil Few))

-- so no constraint has more terms
pub defining_few : (most v : ℕ) (products : List (List Lit)) → All (λ ls. 2 ≤ length ls) products → All (λ ls. length ls < most) products → All (HasFewTerms most) (defining v products)
defining_few most v [] some few = All-nil (HasFewTerms most)
defining_few most v (ls ∷ products) some few =
    let Some : List Lit → Type 0 = λ ks. 2 ≤ length ks in
    let Few : List Lit → Type 0 = λ ks. length ks < most in
    let clauses = product_clauses (plain v) ls in
    All-append (HasFewTerms most) (product_constraints (plain v) ls) (defining (v + 1) products)
    (All-map (HasFewTerms most) clause_form clauses (All-weaker (λ ks. length ks ≤ most) (λ ks. HasFewTerms most (clause_form ks)) (λ ks h. omega (arith, h, form-short ks)) clauses (clauses_short most (plain v) ls (All-head Some ls products some) (All-head Few ls products few))))
    (defining_few most (v + 1) products (All-tail Some ls products some) (All-tail Few ls products few))

-- those of one product more
pub length-more : (v i : ℕ) (products : List (List Lit)) (ls : List Lit) → i < length products → ls ≡ get_or products i ls → length (defining v (take (i + 1) products)) ≡ length (defining v (take i products)) + (length ls + 1)
length-more v i products ls lt is =
    let z = plain (v + i) in
    omega (
      arith,
      ap (λ (cs : List Constraint). length cs) (defining_more v i z products ls lt refl is),
      length-append (defining v (take i products)) (product_constraints z ls),
      length-product z ls,
    )

-- ---- clauses

-- a constraint that excludes some values has a clause
form_clauses : (o : Options) (Q : ℕ → Type 0) (c : Constraint) → IsFormOver Q c → 1 ≤ constraint_count o c
form_clauses o Q c form = by_clauses (constraint_clauses o c 1) refl
  where
    by_clauses : (clauses : List (List Lit)) → constraint_clauses o c 1 ≡ clauses → 1 ≤ constraint_count o c
    by_clauses [] none = absurd (form.excludes.1 (clauses-sound o c 1 form.linear form.excludes.0 (subst (IsModel form.excludes.0) (sym none) (All-nil (IsTrueClause form.excludes.0)))))
    by_clauses (ls ∷ clauses) some = omega (arith, clauses-count o c 1 form.linear, ap (λ (xs : List (List Lit)). length xs) some)

-- so these have no fewer clauses than they are
pub forms_clauses : (o : Options) (Q : ℕ → Type 0) (cs : List Constraint) → All (IsFormOver Q) cs → length cs ≤ clause_total o (singles cs)
forms_clauses o Q [] forms = omega arith
forms_clauses o Q (c ∷ cs) forms =
    omega (arith, sum_by-cons (group_count o) (Alone c) (singles cs), form_clauses o Q c (All-head (IsFormOver Q) c cs forms), forms_clauses o Q cs (All-tail (IsFormOver Q) c cs forms))

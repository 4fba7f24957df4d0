-- A walk over the groups of a problem: the next one, and what is left.
use Rattle.std.proofs.Common.{◌≡◌, ◌≤◌, ◌+◌, ◌++◌, ℕ, suc, List, [], ◌∷◌, length, drop, drop-cons, get_or, sym, ap, subst, ◌∙◌, ◌^◌, All, arith}
use Rattle.std.proofs.lemmas.List.{drop-append-le, drop_at}
use Rattle.std.proofs.lemmas.List.Elements.{All-tail}
use Rattle.pb_base.specs.declared.literal.Lit.{Lit}
use Rattle.pb_base.specs.declared.problem.Raw.{Raw}
use Rattle.pb_base.specs.Problems.{StaysBelow}
use Rattle.pb_norm.specs.Constraints.{Constraint}
use Rattle.pb_norm.specs.ClauseForm.{clause_form}
use Rattle.pb_norm.specs.Products.{plain, defining, product_clauses, product_constraints}
use Rattle.pb_norm.proofs.ProductLemmas.{length-product, product-at}
use Rattle.pb_encode.specs.declared.groups.Group.TheVariants.{Alone}
use Rattle.pb_encode.specs.Groups.{singles, statement_groups}
use Rattle.pb_encode.specs.inner.Walks.{groups_left, MayGoOn}

-- the next constraint of the first product that is left
module _ (vars : ℕ) (products rest : List (List Lit)) (ls : List Lit) (parts : products ≡ ls ∷ rest) (place : ℕ) (le : place ≤ length ls) (c : Constraint) (is : c ≡ clause_form (get_or (product_clauses (plain (vars + 1)) ls) place [])) (statements : List Raw) where
  abbrev here : List Constraint
  here = product_constraints (plain (vars + 1)) ls

  abbrev behind : List Constraint
  behind = defining (vars + 1 + 1) rest

  first_of_here : drop place here ≡ c ∷ drop (place + 1) here
  first_of_here =
      let next : suc place ≡ place + 1 = omega arith in
      drop-cons here place c (omega (arith, le, length-product (plain (vars + 1)) ls))
      ∙ ap (λ (d : Constraint). d ∷ drop (suc place) here) (sym (product-at (plain (vars + 1)) ls place c le is))
      ∙ ap (λ (n : ℕ). c ∷ drop n here) next

  first_of_all : drop place (defining (vars + 1) products) ≡ c ∷ drop (place + 1) (here ++ behind)
  first_of_all =
      ap (λ (ps : List (List Lit)). drop place (defining (vars + 1) ps)) parts
      ∙ drop-append-le place here behind (omega (arith, le, length-product (plain (vars + 1)) ls))
      ∙ ap (λ (cs : List Constraint). cs ++ behind) first_of_here
      ∙ ap (λ (cs : List Constraint). c ∷ cs) (sym (drop-append-le (place + 1) here behind (omega (arith, le, length-product (plain (vars + 1)) ls))))

  -- others of it are left
  pub product_stays : groups_left vars products place statements ≡ Alone c ∷ groups_left vars products (place + 1) statements
  product_stays =
      ap (λ (cs : List Constraint). singles cs ++ statement_groups statements)
      (first_of_all ∙ ap (λ (ps : List (List Lit)). c ∷ drop (place + 1) (defining (vars + 1) ps)) (sym parts))

  -- it was the last one
  pub product_ends : length ls ≤ place → groups_left vars products place statements ≡ Alone c ∷ groups_left (vars + 1) rest 0 statements
  product_ends last =
      ap (λ (cs : List Constraint). singles cs ++ statement_groups statements)
      (first_of_all ∙ ap (λ (cs : List Constraint). c ∷ cs) (drop_at here behind (place + 1) (omega (arith, le, last, length-product (plain (vars + 1)) ls))))

-- what is left behind the first statement
pub goes_on : (vars : ℕ) (products : List (List Lit)) (place : ℕ) (left rest : List Raw) (s : Raw) → left ≡ s ∷ rest → MayGoOn vars products place left → MayGoOn vars products place rest
goes_on vars products place left rest s first h = record {
  named = h.named;
  inside = h.inside;
  numbers = All-tail (StaysBelow (2 ^ 126)) s rest (subst (All (StaysBelow (2 ^ 126))) first h.numbers);
}

use Rattle.std.proofs.Common.{◌≡◌, ◌≤◌, ◌+◌, [], ◌∷◌, ◌∙◌, List, length, sym, ap, subst, arith}
use Rattle.std.specs.Prelude.{slice_index_or}
use Rattle.pb_base.specs.declared.literal.Lit.{Lit}
use Rattle.pb_norm.specs.ClauseForm.{clause_form}
use Rattle.pb_norm.specs.Products.{plain, product_clauses}
use Rattle.pb_encode.specs.declared.groups.Group.{Group}
use Rattle.pb_encode.specs.declared.groups.Group.TheVariants.{Alone}
use Rattle.pb_encode.proofs.Walks.{goes_on, product_ends, product_stays}
use Rattle.pb_encode.proofs.groups.Groups.next.Goals as goal
use Rattle.pb_encode.proofs.groups.Groups.next.Goals.{then-self-len, else-self-len}

pub returns-in-Some-clause-some : goal.returns-in-Some-clause-some
returns-in-Some-clause-some c =
    let one = c.in_ok-constraint.constraint in
    let left = c.self.inside in
    let ls : List Lit = c.in-Some.literals.now in
    let parts = c.in-Some.ensures.cases.0 in
    let le : left.place ≤ length ls = subst (λ (ps : List (List Lit)). left.place ≤ length (slice_index_or ps 0 [])) parts c.self.invariant.inside in
    let number : left.vars + 1 + 0 ≡ left.vars + 1 = omega arith in
    let product : c.product_variable-product.result ≡ plain (left.vars + 1) = c.product_variable-product.ensures ∙ ap plain number in
    let is : one ≡ clause_form (slice_index_or (product_clauses (plain (left.vars + 1)) ls) left.place []) = c.in_ok-constraint.ensures ∙ (λ i. clause_form (slice_index_or (product_clauses (product i) (c.as_slice.ensures i)) left.place [])) in
    elim c.if-self-len.branch as (λ _. c.args.self.now ≡ Alone one ∷ c.if-self-len.self) [
      | then-self-len w ↦ sym c.self.view_is ∙ product_stays left.vars left.products.now c.in-Some.rest.now ls parts left.place le one is left.statements ∙ ap (λ (gs : List Group). Alone one ∷ gs) (sym w.self-is)
      | else-self-len w ↦
          sym c.self.view_is ∙ product_ends left.vars left.products.now c.in-Some.rest.now ls parts left.place le one is left.statements (omega (arith, w.if-self-len.false, c.len.ensures))
          ∙ ap (λ (gs : List Group). Alone one ∷ gs) (sym w.self-is)
    ]

pub invariant_of-self-in_err-statement : goal.invariant_of-self-in_err-statement
invariant_of-self-in_err-statement c =
    let gone = c.in_err-statement.ensures.err in
    goes_on c.self.inside.vars c.self.inside.products.now c.self.inside.place c.self.inside.statements c.read_next.new.statements gone.0 gone.1 c.self.invariant

pub invariant_of-self-in_err-group : goal.invariant_of-self-in_err-group
invariant_of-self-in_err-group c =
    goes_on c.self.inside.vars c.self.inside.products.now c.self.inside.place c.self.inside.statements c.read_next.new.statements c.in-Some-2.statement (rw c.in-Some-2.is at c.in_ok-statement.ensures.some) c.self.invariant

pub invariant_of-self-2 : goal.invariant_of-self-2
invariant_of-self-2 c =
    goes_on c.self.inside.vars c.self.inside.products.now c.self.inside.place c.self.inside.statements c.read_next.new.statements c.in-Some-2.statement (rw c.in-Some-2.is at c.in_ok-statement.ensures.some) c.self.invariant

-- A constraint whose terms are literals of a clause, with the coefficient 1, gives the clause.
use Rattle.std.proofs.Common.{◌≤◌, ℕ, arith}
use Rattle.std.specs.Prelude.{All, Contains}
use Rattle.std.specs.Prelude.{List}
use Rattle.pb_base.specs.declared.literal.Lit.{Lit}
use Rattle.pb_norm.specs.Constraints.{Weighted, Constraint, AllPositive}
use Rattle.pb_steps.specs.Database.{Database}
use Rattle.pb_derive.specs.Forms.{AreApartTerms}
use Rattle.pb_derive.specs.Later.{Knows}
use Rattle.pb_derive.proofs.Closed.{units-imply}
use Rattle.pb_derive.proofs.FormOperations.{form_all}
use Rattle.pb_derive.proofs.Holding.{IsOutput}

-- terms of the clause
pub record IsOfClause (clause : List Lit) (s : Constraint) : Type 0 where
  pub apart : AreApartTerms s.terms
  pub positive : AllPositive s.terms
  pub among : All (λ t. (t.coef ≤ 1) × Contains clause t.lit) s.terms
  pub some : 1 ≤ s.degree

pub clause_given : (db : Database) (id : ℕ) (clause : List Lit) (s : Constraint) → IsOfClause clause s → Knows db id s → IsOutput db (record { id = id; clause = clause })
clause_given db id clause s of known =
    let c : Constraint = known.0 in
    let Among : Weighted → Type 0 = λ t. (t.coef ≤ 1) × Contains clause t.lit in
    (c, known.1, units-imply c clause (form_all Among s c of.apart of.positive known.2 of.among) (λ plain. omega (arith, of.some, known.2.degree)))

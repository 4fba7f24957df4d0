-- Worked examples of names, which the check computes.
use Rattle.std.specs.Prelude.{◌≡◌, ℕ, [], ◌∷◌, pos, Some, None, true, false, refl, codes}
use Rattle.pb_base.specs.declared.literal.Lit.{Lit}
use Rattle.pb_base.specs.declared.problem.Relation.TheVariants.{AtLeast}
use Rattle.pb_named.specs.declared.named.NamedLit.{NamedLit}
use Rattle.pb_named.specs.Names.{name_of}
use Rattle.pb_named.specs.Names.Name.{index, free}
use Rattle.pb_named.specs.NamedProblems.{problem_of}

pub an_index : name_of (codes "x007") ≡ Some (index 7)
an_index = refl

pub no_index : name_of (codes "x0") ≡ None
no_index = refl

-- `x` without digits, or with more than digits, is free
pub x_alone : name_of (codes "x") ≡ Some (free (codes "x"))
x_alone = refl

pub x_and_more : name_of (codes "x1_{2}^[-3]") ≡ Some (free (codes "x1_{2}^[-3]"))
x_and_more = refl

pub a_digit_first : name_of (codes "2a") ≡ None
a_digit_first = refl

-- free names are numbered behind the greatest index
pub rain_and_sun : problem_of 0 (record {
  objective = None;
  statements = record {
    terms = record { coef = pos 1; lit = record { name = free (codes "rain"); positive = true }; more = [] } ∷ record { coef = pos 1; lit = record { name = index 2; positive = true }; more = [] } ∷ record { coef = pos 1; lit = record { name = free (codes "sun"); positive = false }; more = [] } ∷ [];
    relation = AtLeast;
    right = pos 2;
  } ∷ [];
}) ≡ record {
  vars = 4;
  numbered = 2;
  names = codes "rain" ∷ codes "sun" ∷ [];
  products = [];
  objective = None;
  statements = record {
    terms = record { coef = pos 1; lit = record { var = 3; positive = true } } ∷ record { coef = pos 1; lit = record { var = 2; positive = true } } ∷ record { coef = pos 1; lit = record { var = 4; positive = false } } ∷ [];
    relation = AtLeast;
    right = pos 2;
  } ∷ [];
}
rain_and_sun = refl

abbrev x : ℕ → NamedLit
x n = record { name = index n; positive = true }

abbrev no : ℕ → NamedLit
no n = record { name = index n; positive = false }

abbrev plus : ℕ → Lit
plus n = record { var = n; positive = true }

abbrev minus : ℕ → Lit
minus n = record { var = n; positive = false }

-- a product, one that is 0, and one that is a single literal
pub three_kinds : problem_of 0 (record {
  objective = None;
  statements = record {
    terms = record { coef = pos 2; lit = x 1; more = no 2 ∷ [] } ∷ record { coef = pos 1; lit = x 2; more = no 2 ∷ [] } ∷ record { coef = pos 1; lit = x 1; more = x 1 ∷ [] } ∷ [];
    relation = AtLeast;
    right = pos 3;
  } ∷ [];
}) ≡ record {
  vars = 2;
  numbered = 2;
  names = [];
  products = (plus 1 ∷ minus 2 ∷ []) ∷ [];
  objective = None;
  statements = record { terms = record { coef = pos 2; lit = plus 3 } ∷ record { coef = pos 1; lit = plus 1 } ∷ []; relation = AtLeast; right = pos 3 } ∷ [];
}
three_kinds = refl

-- the same literals in another order are the same product, and the objective's products come first
pub shared : problem_of 0 (record {
  objective = Some (record { coef = pos 1; lit = record { name = free (codes "b"); positive = true }; more = x 1 ∷ [] } ∷ []);
  statements = record { terms = record { coef = pos 1; lit = x 1; more = record { name = free (codes "b"); positive = true } ∷ x 1 ∷ [] } ∷ []; relation = AtLeast; right = pos 1 } ∷ [];
}) ≡ record {
  vars = 2;
  numbered = 1;
  names = codes "b" ∷ [];
  products = (plus 1 ∷ plus 2 ∷ []) ∷ [];
  objective = Some (record { coef = pos 1; lit = plus 3 } ∷ []);
  statements = record { terms = record { coef = pos 1; lit = plus 3 } ∷ []; relation = AtLeast; right = pos 1 } ∷ [];
}
shared = refl

-- Worked examples, which the check computes.
use Rattle.std.specs.Prelude.{◌≡◌, [], ◌∷◌, ℕ, List, pos, negsuc, Some, None, true, false, refl, codes}
use Rattle.pb_base.specs.declared.problem.Relation.TheVariants.{AtLeast}
use Rattle.pb_base.specs.Problems.{originals}
use Rattle.pb_named.specs.declared.named.NamedLit.{NamedLit}
use Rattle.pb_named.specs.Names.Name.{index, free}
use Rattle.pb_named.specs.NamedProblems.{problem_of}
use Rattle.pb_named.specs.declared.named.NamedProblem.{NamedProblem}
use Rattle.pb_opb.specs.FirstLine.{told}
use Rattle.pb_opb.specs.Grammar.{kind_of}
use Rattle.pb_opb.specs.Grammar.Kind.{integer, literal, relation, semicolon, other, end}
use Rattle.pb_opb.specs.Faults.{Says, kinds, symbols_of}

abbrev small : List ℕ
small = codes "* #variable= 3 #constraint= 1 #equal= 0\nmin:+1 x1;\n* note\n2 x1 03 ~x02>=+2;"

abbrev meant : NamedProblem
meant = record {
  objective = Some (record { coef = pos 1; lit = record { name = index 1; positive = true }; more = [] } ∷ []);
  statements = record {
    terms = record { coef = pos 2; lit = record { name = index 1; positive = true }; more = [] } ∷ record { coef = pos 3; lit = record { name = index 2; positive = false }; more = [] } ∷ [];
    relation = AtLeast;
    right = pos 2;
  } ∷ [];
}

-- comments, words without blanks, and a first line that tells more variables than are named
pub what_a_text_says : Says small (problem_of 3 meant)
what_a_text_says = record { written = meant; spells = refl; means = refl }

pub the_variables_told : originals (problem_of 3 meant) ≡ 3
the_variables_told = refl

pub the_variables_named : originals (problem_of 0 meant) ≡ 2
the_variables_named = refl

-- free names, the objective's before the statements', and a name that comes again
pub free_names : Says (codes "min: +1 ~sun; +1 rain +1 x2 +1 ~sun >= 2 ;") (record {
  vars = 4;
  numbered = 2;
  names = codes "sun" ∷ codes "rain" ∷ [];
  products = [];
  objective = Some (record { coef = pos 1; lit = record { var = 3; positive = false } } ∷ []);
  statements = record {
    terms = record { coef = pos 1; lit = record { var = 4; positive = true } } ∷ record { coef = pos 1; lit = record { var = 2; positive = true } } ∷ record { coef = pos 1; lit = record { var = 3; positive = false } } ∷ [];
    relation = AtLeast;
    right = pos 2;
  } ∷ [];
})
free_names = record {
  written = record {
    objective = Some (record { coef = pos 1; lit = record { name = free (codes "sun"); positive = false }; more = [] } ∷ []);
    statements = record {
      terms = record { coef = pos 1; lit = record { name = free (codes "rain"); positive = true }; more = [] } ∷ record { coef = pos 1; lit = record { name = index 2; positive = true }; more = [] } ∷ record { coef = pos 1; lit = record { name = free (codes "sun"); positive = false }; more = [] } ∷ [];
      relation = AtLeast;
      right = pos 2;
    } ∷ [];
  };
  spells = refl;
  means = refl;
}

-- one `~` stands before a name, and no blank between
pub two_signs : kind_of (codes "~~a") ≡ other
two_signs = refl

pub no_name : kind_of (codes "~x00") ≡ other
no_name = refl

-- a comment may stand inside a statement
pub a_comment_inside : kinds (symbols_of (codes "+1 x1 * c\n>= 1;")) ≡ integer (pos 1) ∷ literal (record { name = index 1; positive = true }) ∷ relation AtLeast ∷ integer (pos 1) ∷ semicolon ∷ end ∷ []
a_comment_inside = refl

-- leading zeros and blanks are allowed in the first line, and other words behind
pub a_first_line : told (codes " * #variable= 007 x\n") ≡ Some (record { column = 15; vars = 7 })
a_first_line = refl

-- any other first line tells nothing
pub no_first_line : told (codes "* #variable=7\n") ≡ None
no_first_line = refl

abbrev x : ℕ → NamedLit
x n = record { name = index n; positive = true }

-- a product
pub two_literals : Says (codes "+1 x1 x2 >= 1 ;") (record {
  vars = 2;
  numbered = 2;
  names = [];
  products = (record { var = 1; positive = true } ∷ record { var = 2; positive = true } ∷ []) ∷ [];
  objective = None;
  statements = record { terms = record { coef = pos 1; lit = record { var = 3; positive = true } } ∷ []; relation = AtLeast; right = pos 1 } ∷ [];
})
two_literals = record {
  written = record { objective = None; statements = record { terms = record { coef = pos 1; lit = x 1; more = x 2 ∷ [] } ∷ []; relation = AtLeast; right = pos 1 } ∷ [] };
  spells = refl;
  means = refl;
}

-- the first line's number counts before the products' variables
pub told_first : Says (codes "* #variable= 7\nmin: -1 a b;") (record {
  vars = 9;
  numbered = 7;
  names = codes "a" ∷ codes "b" ∷ [];
  products = (record { var = 8; positive = true } ∷ record { var = 9; positive = true } ∷ []) ∷ [];
  objective = Some (record { coef = negsuc 0; lit = record { var = 10; positive = true } } ∷ []);
  statements = [];
})
told_first = record {
  written = record {
    objective = Some (record { coef = negsuc 0; lit = record { name = free (codes "a"); positive = true }; more = record { name = free (codes "b"); positive = true } ∷ [] } ∷ []);
    statements = [];
  };
  spells = refl;
  means = refl;
}

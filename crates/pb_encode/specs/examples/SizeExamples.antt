-- Worked examples of the bounds on texts: at least one of six literals, at most two of five, and a sum of five terms with weights.
use Rattle.std.specs.Prelude.{◌≡◌, ℕ, None, refl}
use Rattle.pb_encode.specs.declared.summary.Summary.{Summary}
use Rattle.pb_encode.specs.declared.summary.Treatments.{Treatments}
use Rattle.pb_encode.specs.Sizes.{cnf_most, constraints_in, derivation_most}

-- a clause, and two constraints more
abbrev ways : ℕ → ℕ → Treatments
ways diagrams adders = record {
  nothing = 0;
  empty = 0;
  clause = 1;
  pairwise = 0;
  ladder = 0;
  product = 0;
  counter = 1;
  totalizer = 0;
  diagram = diagrams;
  tree = 0;
  adder = adders;
  joint = 0;
}

-- the sum as a diagram, and sent to the adder
abbrev by_diagram : Summary
by_diagram = record { vars = 23; original = 6; products = 0; clauses = 33; treatments = ways 1 0; table = None }

abbrev by_adder : Summary
by_adder = record { vars = 26; original = 6; products = 0; clauses = 91; treatments = ways 0 1; table = None }

pub three_constraints : constraints_in (ways 1 0) ≡ 3
three_constraints = refl

-- the texts have 310 bytes and 3,641
pub cnf_with_diagram : cnf_most 6 by_diagram ≡ 1786
cnf_with_diagram = refl

pub derivation_with_diagram : derivation_most 6 by_diagram ≡ 69270528
derivation_with_diagram = refl

-- the texts have 1,062 bytes and 7,214
pub cnf_with_adder : cnf_most 6 by_adder ≡ 135758
cnf_with_adder = refl

pub derivation_with_adder : derivation_most 6 by_adder ≡ 133242880
derivation_with_adder = refl

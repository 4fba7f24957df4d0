-- The table of bounds that stands behind the clauses of a problem, where one is asked for. Our own.
use Rattle.std.specs.Prelude.{List, [], if◌then◌else◌}
use Rattle.pb_base.specs.declared.problem.Problem.{Problem}
use Rattle.pb_norm.specs.Constraints.{Weighted}
use Rattle.pb_norm.specs.Reduction.{by_weight}
use Rattle.pb_base.specs.declared.options.Options.{Options}
use Rattle.pb_encode.specs.Costs.{objective_form}

-- what the objective costs beside its offset, the greatest first, and of equal ones that of the lower variable; nothing where no table is asked for
abbrev pub table_terms : Options → Problem → List Weighted
table_terms o p = if o.table then by_weight (objective_form p).terms else []

-- How large an encoding is. Our own.
use Rattle.std.specs.Prelude.{ℕ}
use Rattle.pb_base.specs.declared.problem.Problem.{Problem}
use Rattle.pb_base.specs.declared.options.Options.{Options}
use Rattle.pb_encode.specs.Clauses.{problem_count, problem_vars}
use Rattle.pb_encode.specs.declared.summary.Summary.{Summary}
use Rattle.pbcnf_c.specs.declared.size.PbcnfSize.{PbcnfSize}

-- where nothing is made
abbrev pub no_size : PbcnfSize
no_size = record { vars = 0; original = 0; clauses = 0; length = 0 }

-- the numbers of an encoding, and how long what is put is
abbrev pub size_of : Summary → ℕ → PbcnfSize
size_of m count = record { vars = m.vars; original = m.original; clauses = m.clauses; length = count }

abbrev pub problem_size : Options → Problem → ℕ → PbcnfSize
problem_size o p count = record { vars = problem_vars o p; original = p.vars; clauses = problem_count o p; length = count }

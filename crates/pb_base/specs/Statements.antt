-- Statements whose terms stand in one list, one statement's behind another's (our own).
use Rattle.std.specs.Prelude.{ℕ, List, [], ◌∷◌, take, drop, sum_by}
use Rattle.pb_base.specs.declared.literal.Term.{Term}
use Rattle.pb_base.specs.declared.problem.Raw.{Raw}
use Rattle.pb_base.specs.declared.heads.Head.{Head}
use Rattle.pb_base.specs.declared.statements.Statement.{Statement}

-- a statement that is read in place
abbrev pub raw_of : Statement → Raw
raw_of s = record { terms = s.terms; relation = s.relation; right = s.right }

-- how many terms the statements have
abbrev pub term_count : List Head → ℕ
term_count heads = sum_by (λ h. h.terms) heads

-- the statements of these heads, each with its number of the next terms
abbrev pub statements_in : List Head → List Term → List Raw
statements_in [] terms = []
statements_in (h ∷ hs) terms = record { terms = take h.terms terms; relation = h.relation; right = h.right } ∷ statements_in hs (drop h.terms terms)

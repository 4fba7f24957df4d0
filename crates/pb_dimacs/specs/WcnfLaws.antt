-- That weighted CNF text says what it was written of.
use Rattle.std.specs.Prelude.{◌<◌, ◌≤◌, ◌^◌, ℤ, List, All, unsigned_abs}
use Rattle.pb_base.specs.declared.literal.Lit.{Lit}
use Rattle.pb_norm.specs.Constraints.{Weighted}
use Rattle.pb_dimacs.specs.WcnfReading.{WcnfReads, hard_and_soft}
use Rattle.pb_dimacs.specs.WcnfText.{wcnf_text}

-- a weight that is written, and a variable
pub record IsSoftWithin (s : Weighted) : Type 0 where
  pub low : 1 ≤ s.coef
  pub high : s.coef < 2 ^ 126
  pub var : s.lit.var < 2 ^ 64

-- a text that is written says these hard clauses and soft literals, and nothing else
abbrev pub WrittenWcnfReads : Type 0
WrittenWcnfReads = (offset : ℤ) (clauses : List (List Lit)) (softs : List Weighted) → unsigned_abs offset < 2 ^ 126 → All (All (λ l. l.var < 2 ^ 64)) clauses → All IsSoftWithin softs → WcnfReads (wcnf_text offset clauses softs) (hard_and_soft clauses softs)

-- What stands for coefficients, terms and heads of statements in little room.
use Rattle.std.specs.Prelude.{ℕ, ◌+◌, ◌-◌, ◌<◌, ◌^◌, nat_lt, ℤ, pos, ◌-ℤ◌, List, if◌then◌else◌, slice_index_or, length, All}
use Rattle.pb_base.specs.declared.literal.Term.{Term}
use Rattle.pb_base.specs.declared.packed.PackedTerm.{PackedTerm}
use Rattle.pb_base.specs.declared.heads.Head.{Head}
use Rattle.pb_base.specs.declared.heads.PackedHead.{PackedHead}

-- a small number stands there itself, moved up by 2^30, and of any other its place among the wide ones, behind 2^31
abbrev pub number_in : List ℤ → ℕ → ℤ
number_in wide code = if nat_lt code (2 ^ 31) then pos code -ℤ pos (2 ^ 30) else slice_index_or wide (code - 2 ^ 31) (pos 0)

-- the number is small, or among the first so many wide ones
abbrev pub IsKept : ℕ → ℕ → Type 0
IsKept count code = code < 2 ^ 31 + count

abbrev pub term_in : List ℤ → PackedTerm → Term
term_in wide t = record { coef = number_in wide t.coef; lit = t.lit }

abbrev pub AreTermsKept : List ℤ → List PackedTerm → Type 0
AreTermsKept wide terms = All (λ t. IsKept (length wide) t.coef) terms

abbrev pub head_in : List ℤ → PackedHead → Head
head_in wide h = record { terms = h.terms; relation = h.relation; right = number_in wide h.right }

abbrev pub AreHeadsKept : List ℤ → List PackedHead → Type 0
AreHeadsKept wide heads = All (λ h. IsKept (length wide) h.right) heads

-- How great a problem may be (our own).
use Rattle.std.specs.Prelude.{◌≡◌, ℕ, ◌+◌, ◌<◌, ◌≤◌, ◌^◌, List, ◌++◌, sum_by, length, unsigned_abs, IfSome}
use Rattle.std.specs.List.{AllByRecursion}
use Rattle.pb_named.specs.declared.named.NamedLit.{NamedLit}
use Rattle.pb_named.specs.NamedTerms.{NamedTerm, lits_of}
use Rattle.pb_named.specs.declared.named.NamedProblem.{NamedProblem}
use Rattle.pb_base.specs.declared.limit.LimitKind.{LimitKind}
use Rattle.pb_base.specs.declared.limit.LimitKind.TheVariants.{Statements, Terms, Weight, Variables, Name}
use Rattle.pb_named.specs.Names.{Name as NameOf}
use Rattle.pb_named.specs.Names.Name.{index, free}
use Rattle.pb_named.specs.NamedProblems.{index_in}
use Rattle.pb_opb.specs.Grammar.{Kind, text_kinds}

-- the absolute values of the coefficients, added up
abbrev pub named_magnitude : List NamedTerm → ℕ
named_magnitude ts = sum_by (λ t. unsigned_abs t.coef) ts

-- how many literals there are; each term has one at least
abbrev pub literal_count : List NamedTerm → ℕ
literal_count ts = sum_by (λ t. length (lits_of t)) ts

-- how many bytes a free name has, and 0 for an index
abbrev pub name_len : NameOf → ℕ
name_len (index n) = 0
name_len (free text) = length text

abbrev pub IsNear : NamedLit → Type 0
IsNear l = index_in l.name < 2 ^ 31

abbrev pub IsModest : NamedLit → Type 0
IsModest l = name_len l.name ≤ 255

abbrev pub AllLits : (NamedLit → Type 0) → List NamedTerm → Type 0
AllLits P ts = AllByRecursion (λ t. AllByRecursion P (lits_of t)) ts

-- what a limit allows of the number of statements
abbrev pub CountKeeps : LimitKind → ℕ → Type 0
CountKeeps Statements count = count ≤ 2 ^ 24
CountKeeps _ count = Unit {0}

-- what a limit allows of a sum, beside a right side of this absolute value
abbrev pub SumKeeps : LimitKind → List NamedTerm → ℕ → Type 0
SumKeeps Terms ts right = literal_count ts ≤ 2 ^ 20
SumKeeps Weight ts right = named_magnitude ts + right < 2 ^ 100
SumKeeps Variables ts right = AllLits IsNear ts
SumKeeps Name ts right = AllLits IsModest ts
SumKeeps _ ts right = Unit {0}

-- what is written is within the limit
pub record Keeps (which : LimitKind) (w : NamedProblem) : Type 0 where
  pub count : CountKeeps which (length w.statements)
  pub objective : IfSome w.objective (λ ts. SumKeeps which ts 0)
  pub statements : AllByRecursion (λ s. SumKeeps which s.terms (unsigned_abs s.right)) w.statements

-- some text within the limit begins with these tokens
abbrev pub BeginsWithin : LimitKind → List Kind → Type 0
BeginsWithin which ks = (w : NamedProblem) × (rest : List Kind) × Keeps which w × (text_kinds w ≡ ks ++ rest)

-- each limit is kept so far
abbrev pub IsWithinEach : List Kind → Type 0
IsWithinEach ks = (which : LimitKind) → BeginsWithin which ks

-- which limit is told first of those that one token passes
abbrev pub rank : LimitKind → ℕ
rank Statements = 0
rank Terms = 1
rank Weight = 2
rank Variables = 3
rank Name = 4
rank _ = 5

-- What is proved of tables of bounds.
use Rattle.std.specs.Prelude.{◌≡◌, ◌≤◌, ◌<◌, ◌+◌, ◌*◌, ◌^◌, ◌⊎◌, ◌↔◌, ℕ, false, leb, List, ◌∷◌, All, Contains, length}
use Rattle.pb_base.specs.declared.literal.Lit.{Lit}
use Rattle.pb_base.specs.Literals.{Assignment, AgreeBelow, IsModel, lit_value, negated}
use Rattle.pb_norm.specs.BoundedSums.{StaysWithin}
use Rattle.pb_norm.specs.ClausePropagation.{ClauseConflict, ClausesReach}
use Rattle.pb_norm.specs.Constraints.{Weighted, value, weight}
use Rattle.pb_norm.specs.Forced.{Forces, IsConsistent, IsEmpty}
use Rattle.pb_steps.specs.Database.{Database}
use Rattle.pb_steps.specs.Sayable.{IsSayable}
use Rattle.pb_derive.specs.Derivations.{Derives, HasRoom}
use Rattle.pb_derive.specs.Short.{AreShort}
use Rattle.pb_family.specs.Derivations.{AreOriginal}
use Rattle.pb_family.specs.Families.{NamesOnly, VarsBelow}
use Rattle.pb_gentot.specs.BoundTable.{IsTable, below, table_values, table_output, table_clauses, table_fresh, table_size}
use Rattle.pb_gentot.specs.BoundTableSteps.{table_steps}
use Rattle.pb_gentot.specs.Rising.{Rising}

-- the values of the rows ascend, and are what the sum can be, beside 0
abbrev pub RowsAreSums : Type 0
RowsAreSums = (ts : List Weighted) → IsTable ts → Rising (table_values ts) × ((u : ℕ) → Contains (table_values ts) u ↔ ((1 ≤ u) × ((a : Assignment) × (value a ts ≡ u))))

-- where a row's literal is false in a model, the sum is less than its value
abbrev pub RowsAreSound : Type 0
RowsAreSound = (ts : List Weighted) → IsTable ts → (first u : ℕ) → Contains (table_values ts) u → (a : Assignment) → IsModel a (table_clauses ts first)
    → lit_value a (table_output ts first u) ≡ false → value a ts < u

-- the assignment with values for the fresh variables, so that each row's literal says whether the sum reaches its value
pub record TableModel (ts : List Weighted) (first : ℕ) (a : Assignment) : Type 0 where
  pub now : Assignment
  pub agrees : AgreeBelow first a now
  pub model : IsModel now (table_clauses ts first)
  pub rows : (u : ℕ) → Contains (table_values ts) u → lit_value now (table_output ts first u) ≡ leb u (value a ts)

-- each assignment extends to one model for all rows
abbrev pub TablesExtend : Type 0
TablesExtend = (ts : List Weighted) → IsTable ts → (first : ℕ) → VarsBelow first ts → (a : Assignment) → TableModel ts first a

-- from literals and one more, propagation reaches all that is forced, or a conflict
pub record PropagatesUnder (cs : List (List Lit)) (assumed : Lit) (P : Assignment → Type 0) : Type 0 where
  pub conflict : (given : List Lit) → IsConsistent given → IsEmpty P given → ClauseConflict cs (assumed ∷ given)
  pub forced : (given : List Lit) (l : Lit) → IsConsistent given → Forces P given l → ClausesReach cs (assumed ∷ given) l ⊎ ClauseConflict cs (assumed ∷ given)

-- the negation of a row's literal is as good as the constraint that the sum is less than its value
abbrev pub RowsPropagate : Type 0
RowsPropagate = (ts : List Weighted) → IsTable ts → (first u : ℕ) → Contains (table_values ts) u
    → PropagatesUnder (table_clauses ts first) (negated (table_output ts first u)) (λ a. StaysWithin a (below ts u))

-- the clauses are as many as it says
abbrev pub TablesCount : Type 0
TablesCount = (ts : List Weighted) (first : ℕ) → length (table_clauses ts first) ≡ table_size ts

-- each literal is of a variable of the sum or of a fresh one
abbrev pub TablesNameOnly : Type 0
TablesNameOnly = (ts : List Weighted) (first : ℕ) → NamesOnly ts first (table_fresh ts) (table_clauses ts first)

-- ---- derivations

-- from any database with room the steps are allowed one after the other and put out the clauses
abbrev pub TablesAreDerived : Type 0
TablesAreDerived = (ts : List Weighted) → IsTable ts → weight ts < 2 ^ 100 → (first : ℕ) (db : Database) → VarsBelow first ts → HasRoom first (table_fresh ts) db
    → Derives db (table_steps ts first db.next) (table_clauses ts first) (first + table_fresh ts)

-- the steps are few
abbrev pub TableStepsAreFew : Type 0
TableStepsAreFew = (ts : List Weighted) → IsTable ts → (first next : ℕ) → length (table_steps ts first next) ≤ 8 * (table_fresh ts + table_size ts)

-- where a derivation may begin: the first fresh variable and how many there are, and the next id
pub record MayBegin (first fresh next : ℕ) : Type 0 where
  pub low : 1 ≤ first
  pub fits : first + fresh ≤ 2 ^ 31
  pub some : 1 ≤ next
  pub few : next ≤ 2 ^ 61

-- what the numbers of a table are to be, so that lines can say its steps
pub record IsSmallTable (ts : List Weighted) (first next : ℕ) : Type 0 where
  pub table : IsTable ts
  pub light : weight ts < 2 ^ 100
  pub modest : table_size ts < 5 * 2 ^ 60
  pub original : AreOriginal first ts
  pub begins : MayBegin first (table_fresh ts) next

-- lines can say them: all numbers are within their limits
abbrev pub TableStepsAreSayable : Type 0
TableStepsAreSayable = (ts : List Weighted) (first next : ℕ) → IsSmallTable ts first next → All IsSayable (table_steps ts first next)

-- these lines are short
abbrev pub TableStepsAreShort : Type 0
TableStepsAreShort = (ts : List Weighted) (first next : ℕ) → IsSmallTable ts first next → length ts ≤ 2 ^ 21 → AreShort (length ts) (table_fresh ts) (table_size ts) (table_steps ts first next)

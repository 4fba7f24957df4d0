-- What was read of a text so far, as its tokens.
use Rattle.std.specs.Prelude.{◌≡◌, ℕ, ◌+◌, ◌<◌, ◌≤◌, ◌^◌, length, unsigned_abs, List, [], ◌∷◌, ◌++◌, Option, Some, None, ℤ, pos, true}
use Rattle.std.specs.List.{flat_map}
use Rattle.pb_named.specs.NamedTerms.{NamedTerm}
use Rattle.pb_base.specs.declared.problem.Relation.{Relation}
use Rattle.pb_base.specs.declared.problem.Relation.TheVariants.{AtLeast}
use Rattle.pb_named.specs.declared.named.NamedStatement.{NamedStatement}
use Rattle.pb_named.specs.declared.named.NamedProblem.{NamedProblem}
use Rattle.pb_opb.specs.declared.stage.Part.{Part}
use Rattle.pb_opb.specs.declared.stage.Part.TheVariants.{Objective, Statement}
use Rattle.pb_opb.specs.declared.stage.Stage.{Stage}
use Rattle.pb_opb.specs.declared.stage.Stage.TheVariants.{Start, Next, Minimised, Coefficient, Literals, Related, Right}
use Rattle.pb_base.specs.declared.limit.LimitKind.{LimitKind}
use Rattle.pb_opb.specs.declared.reader.Reader.{Reader}
use Rattle.pb_opb.specs.Limits.{named_magnitude, literal_count, IsNear, IsModest, AllLits, Keeps}
use Rattle.pb_opb.specs.Grammar.{Kind, sum_kinds, objective_kinds, statement_kinds}
use Rattle.pb_named.specs.Names.Name.{index}
use Rattle.pb_opb.specs.Grammar.Kind.{minimise, integer, relation}
use Rattle.pb_opb.specs.reader.Automaton.{ReaderState, run}
use Rattle.pb_opb.specs.reader.Automaton.ReaderState.{start, next, minimised, coefficient, literals, related, right}

abbrev pub part_kinds : Part → List Kind
part_kinds Objective = minimise ∷ []
part_kinds Statement = []

abbrev pub stage_kinds : Stage → List NamedTerm → List Kind
stage_kinds Start ts = []
stage_kinds Next ts = []
stage_kinds Minimised ts = minimise ∷ []
stage_kinds (Coefficient part c) ts = part_kinds part ++ sum_kinds ts ++ integer c ∷ []
stage_kinds (Literals part) ts = part_kinds part ++ sum_kinds ts
stage_kinds (Related r) ts = sum_kinds ts ++ relation r ∷ []
stage_kinds (Right r n) ts = sum_kinds ts ++ relation r ∷ integer n ∷ []

abbrev pub front_kinds : Option (List NamedTerm) → List NamedStatement → Stage → List NamedTerm → List Kind
front_kinds o ss stage ts = objective_kinds o ++ flat_map statement_kinds ss ++ stage_kinds stage ts

abbrev pub written_of : Option (List NamedTerm) → List NamedStatement → NamedProblem
written_of o ss = record { objective = o; statements = ss }

abbrev pub raw : List NamedTerm → Relation → ℤ → NamedStatement
raw ts r n = record { terms = ts; relation = r; right = n }

abbrev pub first : ℤ → NamedTerm
first c = record { coef = c; lit = record { name = index 1; positive = true }; more = [] }

-- the shortest end of what was read
abbrev pub complete : Option (List NamedTerm) → List NamedStatement → Stage → List NamedTerm → NamedProblem
complete o ss Start ts = written_of o ss
complete o ss Next ts = written_of o ss
complete o ss Minimised ts = written_of (Some ts) ss
complete o ss (Literals Objective) ts = written_of (Some ts) ss
complete o ss (Literals Statement) ts = written_of o (ss ++ raw ts AtLeast (pos 0) ∷ [])
complete o ss (Coefficient Objective c) ts = written_of (Some (ts ++ first c ∷ [])) ss
complete o ss (Coefficient Statement c) ts = written_of o (ss ++ raw (ts ++ first c ∷ []) AtLeast (pos 0) ∷ [])
complete o ss (Related r) ts = written_of o (ss ++ raw ts r (pos 0) ∷ [])
complete o ss (Right r n) ts = written_of o (ss ++ raw ts r n ∷ [])

abbrev pub state_of : Stage → ReaderState
state_of Start = start
state_of Next = next
state_of Minimised = minimised
state_of (Coefficient part c) = coefficient part
state_of (Literals part) = literals part
state_of (Related r) = related
state_of (Right r n) = right

-- nothing stands before the objective
abbrev pub IsOpen : Option (List NamedTerm) → List NamedStatement → Part → Type 0
IsOpen o ss Objective = (o ≡ None) × (ss ≡ [])
IsOpen o ss Statement = Unit {0}

-- there is a last term
pub record Ends (ts : List NamedTerm) : Type 0 where
  pub front : List NamedTerm
  pub last : NamedTerm
  pub is : ts ≡ front ++ last ∷ []

-- what stands before an open sum, and where the sum has no term or one at least
abbrev pub IsPlaced : Option (List NamedTerm) → List NamedStatement → Stage → List NamedTerm → Type 0
IsPlaced o ss Start ts = (o ≡ None) × (ss ≡ []) × (ts ≡ [])
IsPlaced o ss Next ts = ts ≡ []
IsPlaced o ss Minimised ts = (o ≡ None) × (ss ≡ []) × (ts ≡ [])
IsPlaced o ss (Coefficient part c) ts = IsOpen o ss part
IsPlaced o ss (Literals part) ts = IsOpen o ss part × Ends ts
IsPlaced o ss _ ts = Unit {0}

pub record IsFront (o : Option (List NamedTerm)) (ss : List NamedStatement) (stage : Stage) (ts : List NamedTerm) : Type 0 where
  pub placed : IsPlaced o ss stage ts
  pub runs : run start (front_kinds o ss stage ts) ≡ Some (state_of stage)

-- what was read of the open sum, with what the stage keeps of it
abbrev pub open_weight : Stage → List NamedTerm → ℕ
open_weight (Coefficient part c) ts = named_magnitude ts + unsigned_abs c
open_weight (Right r n) ts = named_magnitude ts + unsigned_abs n
open_weight _ ts = named_magnitude ts

-- how many statements and literals a stage has begun
abbrev pub begun_statements : Stage → ℕ
begun_statements Start = 0
begun_statements Next = 0
begun_statements Minimised = 0
begun_statements (Coefficient Objective c) = 0
begun_statements (Literals Objective) = 0
begun_statements _ = 1

abbrev pub begun_literals : Stage → ℕ
begun_literals (Coefficient part c) = 1
begun_literals _ = 0

-- the tokens that a reader took
abbrev pub read_kinds : Reader → List Kind
read_kinds r = front_kinds r.objective r.statements r.stage r.terms

-- what a reader keeps
pub record IsRead (r : Reader) : Type 0 where
  pub front : IsFront r.objective r.statements r.stage r.terms
  pub closed : (which : LimitKind) → Keeps which (written_of r.objective r.statements)
  pub near : AllLits IsNear r.terms
  pub modest : AllLits IsModest r.terms
  pub few : length r.statements + begun_statements r.stage ≤ 2 ^ 24
  pub counted : r.literals ≡ literal_count r.terms
  pub short : r.literals + begun_literals r.stage ≤ 2 ^ 20
  pub weighed : r.weight ≡ open_weight r.stage r.terms
  pub light : r.weight < 2 ^ 100

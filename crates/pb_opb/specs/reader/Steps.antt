-- Where a token leads, from each stage of reading.
use Rattle.std.specs.Prelude.{◌≡◌, ℕ, ◌+◌, ◌≤◌, ◌^◌, unsigned_abs, List, [], ◌∷◌, ◌++◌, Option, Some, None, Bool, true, false}
use Rattle.pb_named.specs.declared.named.NamedLit.{NamedLit}
use Rattle.pb_named.specs.NamedTerms.{NamedTerm}
use Rattle.pb_named.specs.declared.named.NamedStatement.{NamedStatement}
use Rattle.pb_opb.specs.declared.stage.Part.TheVariants.{Objective, Statement}
use Rattle.pb_opb.specs.declared.stage.Stage.{Stage}
use Rattle.pb_opb.specs.declared.stage.Stage.TheVariants.{Minimised, Coefficient, Literals, Right}
use Rattle.pb_opb.specs.declared.stage.Spot.{Spot}
use Rattle.pb_opb.specs.declared.stage.Spot.TheVariants.{First, Further, Elsewhere}
use Rattle.pb_opb.specs.declared.stage.Ending.{Ending}
use Rattle.pb_opb.specs.declared.stage.Ending.TheVariants as ending
use Rattle.pb_opb.specs.Grammar.{Kind}
use Rattle.pb_opb.specs.Grammar.Kind.{literal, semicolon}
use Rattle.pb_opb.specs.reader.Automaton.{takes, move}
use Rattle.pb_opb.specs.reader.Front.{state_of, front_kinds, open_weight, begun_statements, begun_literals, IsPlaced}

-- how much a stage adds to the sum's weight
abbrev pub stage_weight : Stage → ℕ
stage_weight (Coefficient part c) = unsigned_abs c
stage_weight (Right r n) = unsigned_abs n
stage_weight _ = 0

abbrev pub is_open_sum : Stage → Bool
is_open_sum (Literals Statement) = true
is_open_sum _ = false

-- the token alone leads from one stage to another
pub record Leads (from : Stage) (k : Kind) (to : Stage) : Type 0 where
  pub kinds : (o : Option (List NamedTerm)) (ss : List NamedStatement) (ts : List NamedTerm) → IsPlaced o ss from ts → front_kinds o ss to ts ≡ front_kinds o ss from ts ++ k ∷ []
  pub placed : (o : Option (List NamedTerm)) (ss : List NamedStatement) (ts : List NamedTerm) → IsPlaced o ss from ts → IsPlaced o ss to ts
  pub taken : takes (state_of from) k ≡ true
  pub moves : move (state_of from) k ≡ state_of to
  pub weighs : (ts : List NamedTerm) → open_weight to ts ≡ open_weight from ts + stage_weight to
  pub shown : is_open_sum to ≡ false

-- an integer too wide, which would lead to a stage as this one is, but for its number
pub record LeadsAs (from : Stage) (k : Kind) (to : Stage) : Type 0 where
  pub stage : Stage
  pub leads : Leads from k stage
  pub heavy : 2 ^ 126 ≤ stage_weight stage
  pub statements : begun_statements stage ≡ begun_statements to
  pub literals : begun_literals stage ≡ begun_literals to

-- where a literal may stand
abbrev pub TakesLiteral : Stage → Type 0
TakesLiteral (Coefficient part c) = Unit {0}
TakesLiteral (Literals part) = Unit {0}
TakesLiteral _ = ⊥

-- where an objective may end
abbrev pub MayEndObjective : Stage → Type 0
MayEndObjective Minimised = Unit {0}
MayEndObjective (Literals Objective) = Unit {0}
MayEndObjective _ = ⊥

-- where the token alone leads to, if it may stand there
abbrev pub MayLead : Stage → Kind → Option Stage → Type 0
MayLead from k None = takes (state_of from) k ≡ false
MayLead from k (Some to) = Leads from k to

abbrev pub MayLeadAs : Stage → Kind → Option Stage → Type 0
MayLeadAs from k None = takes (state_of from) k ≡ false
MayLeadAs from k (Some to) = LeadsAs from k to

-- where a literal would stand
abbrev pub IsSpot : Stage → Spot → Type 0
IsSpot stage (First part c) = stage ≡ Coefficient part c
IsSpot stage (Further part) = stage ≡ Literals part
IsSpot stage Elsewhere = (l : NamedLit) → takes (state_of stage) (literal l) ≡ false

-- what a `;` would end
abbrev pub IsEnding : Stage → Ending → Type 0
IsEnding stage ending.Objective = MayEndObjective stage
IsEnding stage (ending.Statement r n) = stage ≡ Right r n
IsEnding stage ending.Nothing = takes (state_of stage) semicolon ≡ false

-- What a reader is after a token.
use Rattle.std.specs.Prelude.{◌≡◌, ℕ, ◌+◌, ◌<◌, ◌≤◌, ◌^◌, nat_lt, ℤ, List, [], ◌∷◌, ◌++◌, Some, if◌then◌else◌}
use Rattle.pb_named.specs.declared.named.NamedLit.{NamedLit}
use Rattle.pb_named.specs.NamedTerms.{NamedTerm, with_literal}
use Rattle.pb_base.specs.declared.limit.LimitKind.{LimitKind}
use Rattle.pb_base.specs.declared.limit.LimitKind.TheVariants.{Terms}
use Rattle.pb_base.specs.declared.problem.Relation.{Relation}
use Rattle.pb_opb.specs.declared.reader.Reader.{Reader}
use Rattle.pb_opb.specs.declared.fault.Refusal.{Refusal}
use Rattle.pb_opb.specs.declared.fault.Refusal.TheVariants.{Limit, Memory}
use Rattle.pb_opb.specs.declared.stage.Part.{Part}
use Rattle.pb_opb.specs.declared.stage.Stage.{Stage}
use Rattle.pb_opb.specs.declared.stage.Stage.TheVariants.{Next, Literals}
use Rattle.pb_opb.specs.reader.Front.{raw}
use Rattle.pb_opb.specs.reader.Takes.{PassesAt}

abbrev pub IsStopped : Reader → Stage → ℕ → Refusal → Type 0
IsStopped r reached weight (Limit which) = PassesAt (Some which) r reached weight
IsStopped r reached weight _ = ⊥

abbrev pub moved : Reader → Stage → ℕ → Reader
moved r reached weight = record { objective = r.objective; statements = r.statements; stage = reached; terms = r.terms; literals = r.literals; weight = weight }

-- one literal more, with these terms
abbrev pub with_terms : Reader → Part → List NamedTerm → Reader
with_terms r part ts = record { objective = r.objective; statements = r.statements; stage = Literals part; terms = ts; literals = r.literals + 1; weight = r.weight }

abbrev pub with_term : Reader → Part → NamedTerm → Reader
with_term r part t = with_terms r part (r.terms ++ t ∷ [])

-- the last term has one literal more
pub record IsLonger (ts : List NamedTerm) (l : NamedLit) (us : List NamedTerm) : Type 0 where
  pub front : List NamedTerm
  pub last : NamedTerm
  pub was : ts ≡ front ++ last ∷ []
  pub is : us ≡ front ++ with_literal last l ∷ []

pub record HasFurther (old new : Reader) (part : Part) (l : NamedLit) : Type 0 where
  pub few : old.literals < 2 ^ 20
  pub longer : IsLonger old.terms l new.terms
  pub is : new ≡ with_terms old part new.terms

-- the limit that a literal passes first: that of their number, or another
abbrev pub first_passed : ℕ → LimitKind → LimitKind
first_passed literals which = if nat_lt literals (2 ^ 20) then which else Terms

-- a further literal is one too many
abbrev pub IsFull : Reader → Refusal → Type 0
IsFull r (Limit which) = (which ≡ Terms) × (2 ^ 20 ≤ r.literals)
IsFull r Memory = Unit {0}
IsFull r _ = ⊥

abbrev pub with_statement : Reader → Relation → ℤ → Reader
with_statement r sign right = record { objective = r.objective; statements = r.statements ++ raw r.terms sign right ∷ []; stage = Next; terms = []; literals = 0; weight = 0 }

abbrev pub with_objective : Reader → Reader
with_objective r = record { objective = Some r.terms; statements = r.statements; stage = Next; terms = []; literals = 0; weight = 0 }

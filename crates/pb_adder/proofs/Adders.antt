-- An adder, as the code reads it.
use Rattle.std.proofs.Common.{◌≡◌, ◌∙◌, ℕ, List, [], ◌∷◌, refl, sym, ap}
use Rattle.pb_base.specs.declared.literal.Lit.{Lit}
use Rattle.pb_derive.specs.Reifications.{Reification}
use Rattle.pb_adder.specs.GateReifications.{adder_reifications, gate_reifications}
use Rattle.pb_adder.specs.Gates.{full_clauses, half_clauses, gate_clauses}
use Rattle.pb_adder.specs.inner.GateLits.{gate_lits}
use Rattle.pb_adder.specs.declared.gate.Gate.{Gate}
use Rattle.pb_adder.specs.declared.gate.Gate.TheVariants.{Full, Half}
use Rattle.pb_adder.specs.declared.gate.GateLits.{GateLits}
use Rattle.pb_adder.specs.declared.gate.GateLits.TheVariants.{Three, Two}

abbrev pub clauses_of : GateLits → List (List Lit)
clauses_of (Three x) = full_clauses x.a x.b x.c x.sum x.carry
clauses_of (Two x) = half_clauses x.a x.b x.sum x.carry

abbrev pub meanings_of : GateLits → List Reification
meanings_of (Three x) = adder_reifications (x.a ∷ x.b ∷ x.c ∷ []) x.sum.var x.carry.var
meanings_of (Two x) = adder_reifications (x.a ∷ x.b ∷ []) x.sum.var x.carry.var

own_clauses : (first : ℕ) (g : Gate) → clauses_of (gate_lits first g) ≡ gate_clauses first g
own_clauses first (Full a b c made) = refl
own_clauses first (Half a b made) = refl

own_meanings : (first : ℕ) (g : Gate) → meanings_of (gate_lits first g) ≡ gate_reifications first g
own_meanings first (Full a b c made) = refl
own_meanings first (Half a b made) = refl

-- by the literals that the code has read
module _ (first : ℕ) (g : Gate) (x y : GateLits) (is : x ≡ gate_lits first g) (read : x ≡ y) where
  pub same_clauses : clauses_of y ≡ gate_clauses first g
  same_clauses = ap clauses_of (sym read ∙ is) ∙ own_clauses first g

  pub same_meanings : meanings_of y ≡ gate_reifications first g
  same_meanings = ap meanings_of (sym read ∙ is) ∙ own_meanings first g

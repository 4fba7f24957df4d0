-- Clauses of which two literals can still be true.
use Rattle.std.proofs.Common.{◌≡◌, ◌≤◌, ◌<◌, ◌+◌, ◌-◌, ℕ, cond, List, arith, ap, length, get_or, map, take}
use Rattle.std.specs.Prelude.{sum_by}
use Rattle.std.proofs.lemmas.List.Elements.{All-map}
use Rattle.std.proofs.lemmas.List.Sums.{sum_by_more, sum_by-take-le}
use Rattle.pb_base.specs.declared.literal.Lit.{Lit}
use Rattle.pb_base.specs.Literals.{negated, is_among}
use Rattle.pb_base.proofs.Sums.{sum_by-map}
use Rattle.pb_norm.specs.Constraints.{Weighted}
use Rattle.pb_norm.specs.Propagation.{room}
use Rattle.pb_unit.specs.Steps.{IsAtRest, IsCalm}
use Rattle.pb_unit.specs.inner.Slots.{unit, clause_of}

module _ (held : List Lit) where
  -- what a literal with the coefficient 1 can still add
  abbrev left : Lit → ℕ
  left l = cond (is_among held (negated l)) 0 1

  room_left : (ls : List Lit) → room held (map unit ls) ≡ sum_by left ls
  room_left ls = sum_by-map {X = Lit} {Y = Weighted} (λ t. cond (is_among held (negated t.lit)) 0 t.coef) unit ls

  pub room_next : (ls : List Lit) (i : ℕ) (l : Lit) → i < length ls → l ≡ get_or ls i l → room held (map unit (take (i + 1) ls)) ≡ room held (map unit (take i ls)) + cond (is_among held (negated l)) 0 1
  room_next ls i l below at = omega (arith, room_left (take (i + 1) ls), room_left (take i ls), sum_by_more left ls i l below, ap left at)

  pub room_part : (ls : List Lit) (k : ℕ) → room held (map unit (take k ls)) ≤ room held (map unit ls)
  room_part ls k = omega (arith, room_left (take k ls), room_left ls, sum_by-take-le left ls k)

  pub easy_clause : (ls : List Lit) → 2 ≤ room held (map unit ls) → IsCalm (room held (map unit ls)) held (clause_of ls)
  easy_clause ls two = record {
    enough = omega (arith, two);
    closed = All-map {X = Weighted} (IsAtRest held (room held (map unit ls) - 1)) unit ls (λ k d below more. absurd (omega (arith, more, two)));
  }

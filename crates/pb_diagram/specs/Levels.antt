-- The nodes of an interval diagram, level by level (Abío and others 2012). A level stands before a term; a residue there is the
-- bound less the sum of some of the coefficients before it. Residues between which no sum of the others lies share a node.
use Rattle.std.specs.Prelude.{ℕ, ◌-◌, ◌&&◌, Bool, nat_lt, nat_le, List, [], ◌∷◌, map}
use Rattle.std.specs.List.{filter, list_any}
use Rattle.pb_norm.specs.Constraints.{Weighted}
use Rattle.pb_norm.specs.BoundedSums.{BoundedSum}
use Rattle.pb_diagram.specs.declared.interval.Interval.{Interval}
use Rattle.pb_diagram.specs.Sums.{sums}

abbrev pub interval_from : ℕ → ℕ → Interval
interval_from low top = record { low = low; top = top }

-- whether a residue lies between the two sums, the lower one included
abbrev pub lies_in : ℕ → Interval → Bool
lies_in residue g = nat_le g.low residue && nat_lt residue g.top

abbrev pub intervals_after : ℕ → List ℕ → List Interval
intervals_after x [] = []
intervals_after x (y ∷ ys) = interval_from x y ∷ intervals_after y ys

-- each sum with the next greater one
abbrev pub intervals : List ℕ → List Interval
intervals [] = []
intervals (x ∷ xs) = intervals_after x xs

-- whether the bound, less some sum of the coefficients before, lies in the interval
abbrev pub is_reached : ℕ → List ℕ → Interval → Bool
is_reached bound before g = list_any (λ s. nat_le s bound && lies_in (bound - s) g) (sums before)

-- the nodes of the level at which some coefficients are decided and the rest is not
abbrev pub level : ℕ → List ℕ → List ℕ → List Interval
level bound before rest = filter (is_reached bound before) (intervals (sums rest))

-- the nodes of each level from there on
abbrev pub levels_from : ℕ → List ℕ → List ℕ → List (List Interval)
levels_from bound before [] = []
levels_from bound before (a ∷ rest) = level bound before (a ∷ rest) ∷ levels_from bound (a ∷ before) rest

abbrev pub coefs_of : List Weighted → List ℕ
coefs_of ts = map (λ t. t.coef) ts

-- the nodes of each level of a bounded sum's diagram
abbrev pub levels_of : BoundedSum → List (List Interval)
levels_of m = levels_from m.bound [] (coefs_of m.terms)

-- Items of lists and their places.
use Rattle.std.proofs.Common.{◌≡◌, ◌<◌, ◌+◌, ◌∙◌, ◌++◌, [], ◌∷◌, ℕ, suc, List, ap, arith, drop, get_or, length, map, pos, sym, take}
use Rattle.std.proofs.Math.Seq.{drop-cons}
use Rattle.std.proofs.lemmas.List.{length-take, map_push, take-append-drop, take_more}
use Rattle.pb_columns.specs.declared.sum.PbcnfSum.{PbcnfSum}
use Rattle.pb_columns.specs.Columns.{StandsAt}

-- what stands behind the end of a column
abbrev pub no_sum : PbcnfSum
no_sum = record { relation = 0; condition = pos 0; terms = 0; right_low = 0; right_high = 0 }

abbrev pub stands_here : {X : Type 0} (xs : List X) (i : ℕ) (d : X) → i < length xs → StandsAt xs (i + 1) (get_or xs i d)
stands_here xs i d within = record {
  before = take i xs;
  behind = drop (suc i) xs;
  cut = sym (take-append-drop i xs) ∙ ap (λ ys. take i xs ++ ys) (drop-cons xs i d within);
  counted = omega (arith, within, length-take i xs);
}

-- what is mapped has one item more
pub map_more : {X Y : Type 0} (f : X → Y) (xs : List X) (i : ℕ) (d : X) → i < length xs → map f (take (i + 1) xs) ≡ map f (take i xs) ++ f (get_or xs i d) ∷ []
map_more f xs i d within = ap (map f) (take_more xs i d within) ∙ map_push f (take i xs) (get_or xs i d)

-- A bound on the objective, in words. Our own.
use Rattle.std.specs.Prelude.{◌-◌, ◌^◌, ℕ, ℤ, pos, neg_ℤ, List, [], ◌∷◌, Option, Some, None, codes, map, option_map}
use Rattle.clap.specs.Words.{Row, Rule, Text, first_of}
use Rattle.pb_words.specs.Digits.{number_within}
use Rattle.pb_words.specs.Rules.{option_rule}

abbrev pub bound_rules : List Rule
bound_rules = map option_rule (codes "at-most" ∷ codes "at-most-minus" ∷ [])

-- digits alone, below 2 ^ 100
abbrev pub magnitude_of : Text → Option ℕ
magnitude_of = number_within 0 (2 ^ 100 - 1)

-- a bound, if one is given; both options are too many
abbrev pub bound_from : Option Text → Option Text → Option (Option ℤ)
bound_from None None = Some None
bound_from (Some word) None = option_map (λ n. Some (pos n)) (magnitude_of word)
bound_from None (Some word) = option_map (λ n. Some (neg_ℤ (pos n))) (magnitude_of word)
bound_from (Some word) (Some other) = None

-- the bound of a command to which these arguments were given, if it has one
abbrev pub bound_in : List Row → Option (Option ℤ)
bound_in given = bound_from (first_of (codes "at-most") given) (first_of (codes "at-most-minus") given)

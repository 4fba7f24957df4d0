-- What `bench N SEED [CNF]` asks for. Our own.
use Rattle.std.specs.Prelude.{ℕ, List, [], ◌∷◌, Option, Some, None, codes, option_and_then, option_map}
use Rattle.clap.specs.Words.{App, Row, Text, first_of, new_rule as optional_rule}
use Rattle.pb_words.specs.declared.bench.BenchArgs.{BenchArgs}
use Rattle.pb_words.specs.Digits.{number_within}
use Rattle.pb_words.specs.Rules.{command_of, name_rule}

abbrev pub bench_app : App
bench_app = command_of (codes "bench") (name_rule (codes "n") ∷ name_rule (codes "seed") ∷ optional_rule (codes "cnf") ∷ [])

pub record BenchWords : Type 0 where
  pub count : ℕ
  pub seed : ℕ
  pub cnf : Option Text

-- digits alone, up to a number
abbrev pub number_in : ℕ → Text → List Row → Option ℕ
number_in most id given = option_and_then (number_within 0 most) (first_of id given)

abbrev pub bench_from : Option ℕ → Option ℕ → Option Text → Option BenchWords
bench_from (Some count) (Some seed) cnf = Some (record { count = count; seed = seed; cnf = cnf })
bench_from _ _ cnf = None

abbrev pub bench_in : List Row → Option BenchWords
bench_in given = bench_from (number_in 1000000 (codes "n") given) (number_in 4294967295 (codes "seed") given) (first_of (codes "cnf") given)

-- what a `BenchArgs` says
abbrev pub as_bench_words : BenchArgs → BenchWords
as_bench_words b = record { count = b.count; seed = b.seed; cnf = option_map (λ name. name.now) b.cnf }

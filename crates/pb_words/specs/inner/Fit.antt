-- What holds of all that is asked for. Our own.
use Rattle.std.specs.Prelude.{◌≢◌, ◌≤◌}
use Rattle.std.specs.Option.{ForSome}
use Rattle.pb_words.specs.BenchWords.{BenchWords}
use Rattle.pb_words.specs.EncodeWords.{EncodeWords}
use Rattle.pb_words.specs.Parsed.{Wanted}
use Rattle.pb_words.specs.Parsed.Wanted.{Encode, Check, Decode, Probe, Bench, Refute, Map, Wcnf, Optimum}

-- different names
pub record IsFitEncode (w : EncodeWords) : Type 0 where
  pub different : w.opb ≢ w.cnf
  pub other : ForSome w.proof (λ proof. (w.opb ≢ proof) × (w.cnf ≢ proof))

-- a number of statements and a seed within their ranges
pub record IsFitBench (w : BenchWords) : Type 0 where
  pub count : w.count ≤ 1000000
  pub seed : w.seed ≤ 4294967295

abbrev pub IsFit : Wanted → Type 0
IsFit (Encode w) = IsFitEncode w
IsFit (Check w) = Unit {0}
IsFit (Decode w) = Unit {0}
IsFit (Probe w) = Unit {0}
IsFit (Bench w) = IsFitBench w
IsFit (Refute w) = Unit {0}
IsFit (Map w) = Unit {0}
IsFit (Wcnf w) = Unit {0}
IsFit (Optimum w) = Unit {0}

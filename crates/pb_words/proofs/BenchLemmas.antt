-- What the words of `bench` keep.
use Rattle.std.proofs.Common.{◌≡◌, ◌≤◌, ℕ, List, Option, Some, None, codes, option_and_then, refl}
use Rattle.clap.specs.Words.{Row, Text, first_of}
use Rattle.pb_words.specs.BenchWords.{bench_from, bench_in, number_in, BenchWords}
use Rattle.pb_words.specs.Digits.{number_within}
use Rattle.pb_words.specs.inner.Fit.{IsFitBench}
use Rattle.pb_words.proofs.DigitLemmas.{in_range}

word_most : (most : ℕ) (o : Option Text) (m : ℕ) → option_and_then (number_within 0 most) o ≡ Some m → m ≤ most
word_most most None m e = cc
word_most most (Some word) m e = (in_range 0 most word m e).1

fit_from : (count seed : Option ℕ) (cnf : Option Text) (w : BenchWords) → ((n : ℕ) → count ≡ Some n → n ≤ 1000000) → ((n : ℕ) → seed ≡ Some n → n ≤ 4294967295)
    → bench_from count seed cnf ≡ Some w → IsFitBench w
fit_from (Some count) (Some seed) cnf w few near e =
    let same : w ≡ record { count = count; seed = seed; cnf = cnf } = cc in
    rw same (record { count = few count refl; seed = near seed refl })
fit_from None seed cnf w few near e = cc
fit_from (Some count) None cnf w few near e = cc

pub bench_fit : (given : List Row) (w : BenchWords) → bench_in given ≡ Some w → IsFitBench w
bench_fit given w =
    fit_from (number_in 1000000 (codes "n") given) (number_in 4294967295 (codes "seed") given) (first_of (codes "cnf") given) w
    (word_most 1000000 (first_of (codes "n") given)) (word_most 4294967295 (first_of (codes "seed") given))

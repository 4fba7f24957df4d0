-- What is read as a number within a range is in it.
use Rattle.std.proofs.Common.{◌≡◌, ◌≤◌, ◌&&◌, ℕ, nat_le, Option, Some, None, option_and_then, arith}
use Rattle.std.specs.Bool.{then_some}
use Rattle.std.proofs.lemmas.Bool.Decides.{nat_tests}
use Rattle.clap.specs.Words.{Text}
use Rattle.pb_base.specs.Numbers.{natural_of}
use Rattle.pb_words.specs.Digits.{number_within}

least_kept : (least most n m : ℕ) → then_some (nat_le least n && nat_le n most) n ≡ Some m → least ≤ m
least_kept least most n m e = grind (arith, nat_tests, e)

most_kept : (least most n m : ℕ) → then_some (nat_le least n && nat_le n most) n ≡ Some m → m ≤ most
most_kept least most n m e = grind (arith, nat_tests, e)

kept : (least most : ℕ) (o : Option ℕ) (m : ℕ) → option_and_then (λ n. then_some (nat_le least n && nat_le n most) n) o ≡ Some m → (least ≤ m) × (m ≤ most)
kept least most (Some n) m e = (least_kept least most n m e, most_kept least most n m e)
kept least most None m e = cc

pub in_range : (least most : ℕ) (word : Text) (m : ℕ) → number_within least most word ≡ Some m → (least ≤ m) × (m ≤ most)
in_range least most word m e = kept least most (natural_of word) m e

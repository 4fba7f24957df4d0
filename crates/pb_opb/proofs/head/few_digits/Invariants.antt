use Rattle.std.proofs.Common.{◌≡◌, ℕ, ◌<◌, true, get_or, take}
use Rattle.std.specs.Char.{is_ascii_digit}
use Rattle.std.specs.Str.Parse.{AllDigits, digits_value}
use Rattle.pb_opb.proofs.head.few_digits.Given as goal

abbrev pub invariant-loop-i : goal.invariant-loop-i
invariant-loop-i l = record {
  digits : AllDigits 10 (take l.i l.bytes);
  value : l.value ≡ digits_value 10 (take l.i l.bytes);
  each : (k : ℕ) → k < l.i → is_ascii_digit (get_or l.bytes k 0) ≡ true;
}

use Rattle.std.proofs.Common.{◌≡◌, ◌-◌, ◌^◌, take, min}
use Rattle.std.specs.Str.Parse.{AllDigits, digits_value}
use Rattle.pb_base.proofs.number.read_long.Given as goal

abbrev pub invariant-loop-digit : goal.invariant-loop-digit
invariant-loop-digit l = record {
  digits : AllDigits 10 (take l.digit-index l.word);
  value : l.value ≡ min (digits_value 10 (take l.digit-index l.word)) (2 ^ 128 - 1);
}

-- No words ask for two things.
use Rattle.pb_words.specs.Parsed.{Wanted}
use Rattle.pb_words.specs.Parsed.Wanted.{Encode, Check, Decode, Probe, Bench, Refute, Map, Wcnf, Optimum}
use Rattle.pb_suite.specs.CommandSpec.{Shelf}
use Rattle.pb_suite.specs.CommandSpecs.{spec_of}
use Rattle.pb_suite.specs.Derivations.{Derivations}
use Rattle.pb_suite.specs.OneDue.{SpecifiesOne}
use Rattle.pb_suite.proofs.OneDues.{one_bench, one_check, one_decode, one_encode, one_map, one_probe, one_refute, one_wcnf}
use Rattle.pb_suite.proofs.OneOptima.{one_optimum}

pub no_two_due : (derive : Derivations) (w : Wanted) (shelf : Shelf) → SpecifiesOne (spec_of derive w) shelf
no_two_due derive (Encode w) shelf = one_encode derive w shelf
no_two_due derive (Check w) shelf = one_check w shelf
no_two_due derive (Decode w) shelf = one_decode w shelf
no_two_due derive (Probe w) shelf = one_probe w shelf
no_two_due derive (Bench w) shelf = one_bench w shelf
no_two_due derive (Refute w) shelf = one_refute w shelf
no_two_due derive (Map w) shelf = one_map w shelf
no_two_due derive (Wcnf w) shelf = one_wcnf w shelf
no_two_due derive (Optimum w) shelf = one_optimum w shelf

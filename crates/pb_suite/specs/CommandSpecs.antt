-- The specification of each command. Our own.
use Rattle.std.specs.Prelude.{ℕ, List}
use Rattle.std.specs.Option.{ForSome}
use Rattle.pb_desk.specs.View.{Told}
use Rattle.pb_desk.specs.Desk.{DeskState, IsFresh, IsSteady}
use Rattle.pb_words.specs.Parsed.{Wanted, parsed_of}
use Rattle.pb_words.specs.Parsed.Wanted.{Encode, Check, Decode, Probe, Bench, Refute, Map, Wcnf, Optimum}
use Rattle.pb_suite.specs.CommandSpec.{CommandSpec, Suffices}
use Rattle.pb_suite.specs.BenchSpec.{bench_spec}
use Rattle.pb_suite.specs.CheckSpec.{check_spec}
use Rattle.pb_suite.specs.DecodeSpec.{decode_spec}
use Rattle.pb_suite.specs.Derivations.{Derivations}
use Rattle.pb_suite.specs.EncodeSpec.{encode_spec}
use Rattle.pb_suite.specs.MapSpec.{map_spec}
use Rattle.pb_suite.specs.OptimumSpec.{optimum_spec}
use Rattle.pb_suite.specs.ProbeSpec.{probe_spec}
use Rattle.pb_suite.specs.RefuteSpec.{refute_spec}
use Rattle.pb_suite.specs.WcnfSpec.{wcnf_spec}

abbrev pub spec_of : Derivations → Wanted → CommandSpec
spec_of derive (Encode w) = encode_spec derive w
spec_of derive (Check w) = check_spec w
spec_of derive (Decode w) = decode_spec w
spec_of derive (Probe w) = probe_spec w
spec_of derive (Bench w) = bench_spec w
spec_of derive (Refute w) = refute_spec w
spec_of derive (Map w) = map_spec w
spec_of derive (Wcnf w) = wcnf_spec w
spec_of derive (Optimum w) = optimum_spec w

-- a fresh and steady desk with what the words call for
pub record IsAmple (derive : Derivations) (t : Told) (words : List (List ℕ)) (desk : DeskState) : Type 0 where
  pub fresh : IsFresh t desk
  pub steady : IsSteady desk
  pub enough : ForSome (parsed_of words) (λ w. Suffices (spec_of derive w) t.shelf desk.view.room)

-- Which words the program takes, and what they ask for: those in which clap finds no fault, by its own definitions.
use Rattle.std.specs.Prelude.{◌≡◌, List, [], ◌∷◌, ◌==◌, length, Option, Some, None, if◌then◌else◌, codes, option_map, option_and_then, Result, IfOk, IsErrOf}
use Rattle.std.specs.Str.{bytes_eq}
use Rattle.clap.specs.Words.{App, Row, Text, fault_of, subcommand_of}
use Rattle.pb_words.specs.declared.fault.WordsFault.{WordsFault}
use Rattle.pb_words.specs.declared.fault.WordsFault.TheVariants.{Usage}
use Rattle.pb_words.specs.declared.request.Request.{Request}
use Rattle.pb_words.specs.declared.request.Request.TheVariants as request
use Rattle.pb_words.specs.EncodeWords.{as_encode_words, encode_app, encode_in, EncodeWords}
use Rattle.pb_words.specs.BenchWords.{as_bench_words, bench_app, bench_in, BenchWords}
use Rattle.pb_words.specs.CheckWords.{as_check_words, check_app, check_in, CheckWords}
use Rattle.pb_words.specs.DecodeWords.{as_decode_words, decode_app, decode_in, DecodeWords}
use Rattle.pb_words.specs.MapWords.{as_map_words, map_app, map_in, MapWords}
use Rattle.pb_words.specs.OptimumWords.{as_optimum_words, optimum_app, optimum_in, OptimumWords}
use Rattle.pb_words.specs.ProbeWords.{as_probe_words, probe_app, probe_in, ProbeWords}
use Rattle.pb_words.specs.RefuteWords.{as_refute_words, refute_app, refute_in, RefuteWords}
use Rattle.pb_words.specs.Rules.{program_of}
use Rattle.pb_words.specs.WcnfWords.{as_wcnf_words, wcnf_app, wcnf_in, WcnfWords}

-- the commands
abbrev pub program_app : App
program_app = program_of (codes "pbcnf") (encode_app ∷ check_app ∷ decode_app ∷ probe_app ∷ bench_app ∷ refute_app ∷ map_app ∷ wcnf_app ∷ optimum_app ∷ [])

-- what is asked for
pub data Wanted : Type 0 where
  Encode : EncodeWords → Wanted
  Check : CheckWords → Wanted
  Decode : DecodeWords → Wanted
  Probe : ProbeWords → Wanted
  Bench : BenchWords → Wanted
  Refute : RefuteWords → Wanted
  Map : MapWords → Wanted
  Wcnf : WcnfWords → Wanted
  Optimum : OptimumWords → Wanted

-- what the command of this name is asked for, to which these arguments were given
abbrev pub wanted_in : Text × List Row → Option Wanted
wanted_in (name, given) =
    if bytes_eq name (codes "encode") then option_map Encode (encode_in given)
    else (if bytes_eq name (codes "check") then option_map Check (check_in given)
    else (if bytes_eq name (codes "decode") then option_map Decode (decode_in given)
    else (if bytes_eq name (codes "probe") then option_map Probe (probe_in given)
    else (if bytes_eq name (codes "bench") then option_map Bench (bench_in given)
    else (if bytes_eq name (codes "refute") then option_map Refute (refute_in given)
    else (if bytes_eq name (codes "map") then option_map Map (map_in given)
    else (if bytes_eq name (codes "wcnf") then option_map Wcnf (wcnf_in given)
    else (if bytes_eq name (codes "optimum") then option_map Optimum (optimum_in given) else None))))))))

-- what the words ask for, the program's name first, where clap finds no fault in them
unfoldable pub parsed_of : List Text → Option Wanted
parsed_of words =
    if length (fault_of program_app words) == 0 then option_and_then wanted_in (subcommand_of program_app words) else None

-- what a request says
abbrev pub wanted_as : Request → Wanted
wanted_as (request.Encode e) = Encode (as_encode_words e)
wanted_as (request.Check c) = Check (as_check_words c)
wanted_as (request.Decode d) = Decode (as_decode_words d)
wanted_as (request.Probe p) = Probe (as_probe_words p)
wanted_as (request.Bench b) = Bench (as_bench_words b)
wanted_as (request.Refute r) = Refute (as_refute_words r)
wanted_as (request.Map m) = Map (as_map_words m)
wanted_as (request.Wcnf w) = Wcnf (as_wcnf_words w)
wanted_as (request.Optimum o) = Optimum (as_optimum_words o)

-- an answer gives what is asked for, and says `Usage` only where nothing is
abbrev pub Tells : Option Wanted → Result Request WordsFault → Type 0
Tells wanted answer = IfOk answer (λ r. wanted ≡ Some (wanted_as r)) × (IsErrOf answer Usage → wanted ≡ None)

-- What the requests keep that are taken.
use Rattle.std.proofs.Common.{◌≡◌, Bool, true, false, List, [], ◌∷◌, Option, Some, None, cond, codes, length, option_and_then, option_map, ◌==◌, refl, subst, sym, ◌∙◌}
use Rattle.std.specs.Str.{bytes_eq}
use Rattle.clap.specs.Words.{Kinds, Row, Text, fault_of, subcommand_of}
use Rattle.pb_words.specs.BenchWords.{bench_in}
use Rattle.pb_words.specs.CheckWords.{check_in}
use Rattle.pb_words.specs.DecodeWords.{decode_in}
use Rattle.pb_words.specs.EncodeWords.{encode_in}
use Rattle.pb_words.specs.inner.Fit.{IsFit}
use Rattle.pb_words.specs.Parsed.{program_app, parsed_of, wanted_in, Wanted}
use Rattle.pb_words.specs.Parsed.Wanted.{Encode, Check, Decode, Probe, Bench, Refute, Map, Wcnf, Optimum}
use Rattle.pb_words.specs.MapWords.{map_in}
use Rattle.pb_words.specs.OptimumWords.{optimum_in}
use Rattle.pb_words.specs.ProbeWords.{probe_in}
use Rattle.pb_words.specs.RefuteWords.{refute_in}
use Rattle.pb_words.specs.WcnfWords.{wcnf_in}
use Rattle.pb_words.proofs.BenchLemmas.{bench_fit}
use Rattle.pb_words.proofs.EncodeLemmas.{encode_fit}
use Rattle.pb_words.proofs.TakenLemmas.{found}

-- the command of one name, or one of the others
one_or : (named : Bool) (own others : Option Wanted) (w : Wanted) → (own ≡ Some w → IsFit w) → (others ≡ Some w → IsFit w)
    → cond named own others ≡ Some w → IsFit w
one_or true own others w fits _ e = fits e
one_or false own others w _ fits e = fits e

none_left : (w : Wanted) → None ≡ Some w → IsFit w
none_left w e = cc

-- what one command keeps
fit_as : {X : Type 0} (make : X → Wanted) (o : Option X) (w : Wanted) → ((x : X) → o ≡ Some x → IsFit (make x)) → option_map make o ≡ Some w → IsFit w
fit_as make (Some x) w fits e =
    let same : w ≡ make x = cc in
    subst IsFit (sym same) (fits x refl)
fit_as make None w fits e = cc

fit_in : (name : Text) (given : List Row) (w : Wanted) → wanted_in (name, given) ≡ Some w → IsFit w
fit_in name given w =
    one_or (bytes_eq name (codes "encode")) _ _ w (fit_as Encode (encode_in given) w (encode_fit given))
    (one_or (bytes_eq name (codes "check")) _ _ w (fit_as Check (check_in given) w (λ x is. tt))
    (one_or (bytes_eq name (codes "decode")) _ _ w (fit_as Decode (decode_in given) w (λ x is. tt))
    (one_or (bytes_eq name (codes "probe")) _ _ w (fit_as Probe (probe_in given) w (λ x is. tt))
    (one_or (bytes_eq name (codes "bench")) _ _ w (fit_as Bench (bench_in given) w (bench_fit given))
    (one_or (bytes_eq name (codes "refute")) _ _ w (fit_as Refute (refute_in given) w (λ x is. tt))
    (one_or (bytes_eq name (codes "map")) _ _ w (fit_as Map (map_in given) w (λ x is. tt))
    (one_or (bytes_eq name (codes "wcnf")) _ _ w (fit_as Wcnf (wcnf_in given) w (λ x is. tt))
    (one_or (bytes_eq name (codes "optimum")) _ _ w (fit_as Optimum (optimum_in given) w (λ x is. tt)) (none_left w)))))))))

fit_by : (command : Option (Text × List Row)) (w : Wanted) → option_and_then wanted_in command ≡ Some w → IsFit w
fit_by None w e = cc
fit_by (Some (name, given)) w e = fit_in name given w e

faultless : (kinds : Kinds) (o : Option Wanted) (w : Wanted) → cond (length kinds == 0) o None ≡ Some w → o ≡ Some w
faultless [] o w e = e
faultless (kind ∷ kinds) o w e = let none : None ≡ Some w = sym (found kind kinds o) ∙ e in cc

-- the names of what is asked for are different, and its numbers are within their ranges
pub taken_is_fit : (words : List Text) (w : Wanted) → parsed_of words ≡ Some w → IsFit w
unfolding parsed_of
taken_is_fit words w e = fit_by (subcommand_of program_app words) w (faultless (fault_of program_app words) _ w e)

-- Worked examples of command lines with a bound on the objective, which the check computes.
use Rattle.std.specs.Prelude.{◌≡◌, ◌-◌, ◌^◌, ℤ, pos, negsuc, Option, Some, None, codes, refl}
use Rattle.clap.proofs.OnLiterals.{clap_on_literals}
use Rattle.pb_base.specs.declared.options.Amo.TheVariants as amo
use Rattle.pb_base.specs.declared.options.Options.{Options}
use Rattle.pb_base.specs.Defaults.{default_options}
use Rattle.pb_words.specs.Parsed.{Wanted, parsed_of}
use Rattle.pb_words.specs.Parsed.Wanted.{Encode, Check, Decode, Refute, Wcnf}
use Rattle.pb_words.proofs.Lines.{said}

-- ---- bounds that are taken

abbrev encode_within : Option ℤ → Option Wanted
encode_within bound = Some (Encode (record { opb = codes "a"; cnf = codes "b"; proof = None; options = default_options; bound = bound }))

a_bound : said (codes "pbcnf encode a b --at-most=2") ≡ encode_within (Some (pos 2))
unfolding parsed_of clap_on_literals
a_bound = refl

a_bound_below_zero : said (codes "pbcnf encode --at-most-minus 2 a b") ≡ encode_within (Some (negsuc 1))
unfolding parsed_of clap_on_literals
a_bound_below_zero = refl

zero_from_below : said (codes "pbcnf encode a b --at-most-minus=0") ≡ encode_within (Some (pos 0))
unfolding parsed_of clap_on_literals
zero_from_below = refl

the_greatest_bound : said (codes "pbcnf encode a b --at-most=001267650600228229401496703205375") ≡ encode_within (Some (pos (2 ^ 100 - 1)))
unfolding parsed_of clap_on_literals
the_greatest_bound = refl

a_bound_to_check : said (codes "pbcnf check a b c --at-most 7") ≡ Some (Check (record { opb = codes "a"; cnf = codes "b"; proof = codes "c"; bound = Some (pos 7) }))
unfolding parsed_of clap_on_literals
a_bound_to_check = refl

a_bound_to_decode : said (codes "pbcnf decode a --at-most=2 b") ≡ Some (Decode (record { opb = codes "a"; model = codes "b"; bound = Some (pos 2) }))
unfolding parsed_of clap_on_literals
a_bound_to_decode = refl

a_bound_to_refute : said (codes "pbcnf refute a b c d --at-most-minus=1") ≡ Some (Refute (record { checked = record { opb = codes "a"; cnf = codes "b"; proof = codes "c"; bound = Some (negsuc 0) }; lrat = codes "d" }))
unfolding parsed_of clap_on_literals
a_bound_to_refute = refl

-- ---- `wcnf`

abbrev wcnf : Options → Option ℤ → Option Wanted
wcnf options bound = Some (Wcnf (record { opb = codes "a"; wcnf = codes "b"; options = options; bound = bound }))

a_weighted_file : said (codes "pbcnf wcnf a b") ≡ wcnf default_options None
unfolding parsed_of clap_on_literals
a_weighted_file = refl

options_and_a_bound : said (codes "pbcnf wcnf a --amo ladder b --at-most=3") ≡ wcnf (record default_options { amo = amo.Ladder }) (Some (pos 3))
unfolding parsed_of clap_on_literals
options_and_a_bound = refl

a_text_as_its_weighted_file : said (codes "pbcnf wcnf a a") ≡ None
unfolding parsed_of clap_on_literals
a_text_as_its_weighted_file = refl

a_derivation_of_a_weighted_file : said (codes "pbcnf wcnf a b c") ≡ None
unfolding parsed_of clap_on_literals
a_derivation_of_a_weighted_file = refl

-- ---- bounds that are not taken

both_bounds : said (codes "pbcnf encode a b --at-most=2 --at-most-minus=2") ≡ None
unfolding parsed_of clap_on_literals
both_bounds = refl

a_bound_twice : said (codes "pbcnf check a b c --at-most=2 --at-most=2") ≡ None
unfolding parsed_of clap_on_literals
a_bound_twice = refl

a_sign : said (codes "pbcnf encode a b --at-most=-2") ≡ None
unfolding parsed_of clap_on_literals
a_sign = refl

too_great_a_bound : said (codes "pbcnf encode a b --at-most=1267650600228229401496703205376") ≡ None
unfolding parsed_of clap_on_literals
too_great_a_bound = refl

too_low_a_bound : said (codes "pbcnf encode a b --at-most-minus=1267650600228229401496703205376") ≡ None
unfolding parsed_of clap_on_literals
too_low_a_bound = refl

a_bound_to_map : said (codes "pbcnf map a --at-most=2") ≡ None
unfolding parsed_of clap_on_literals
a_bound_to_map = refl

a_bound_to_bench : said (codes "pbcnf bench 1 0 --at-most=2") ≡ None
unfolding parsed_of clap_on_literals
a_bound_to_bench = refl

a_bound_to_probe : said (codes "pbcnf probe c --at-most=2") ≡ None
unfolding parsed_of clap_on_literals
a_bound_to_probe = refl

-- Worked examples of command lines with a table of bounds, which the check computes.
use Rattle.std.specs.Prelude.{◌≡◌, ℤ, pos, Bool, true, false, Option, Some, None, codes, refl}
use Rattle.clap.proofs.OnLiterals.{clap_on_literals}
use Rattle.pb_base.specs.Defaults.{default_options}
use Rattle.pb_words.specs.Parsed.{Wanted, parsed_of}
use Rattle.pb_words.specs.Parsed.Wanted.{Encode}
use Rattle.pb_words.proofs.Lines.{said}

abbrev encode_with : Bool → Option ℤ → Option Wanted
encode_with table bound = Some (Encode (record { opb = codes "a"; cnf = codes "b"; proof = None; options = record default_options { table = table }; bound = bound }))

no_table : said (codes "pbcnf encode a b") ≡ encode_with false None
unfolding parsed_of clap_on_literals
no_table = refl

a_table : said (codes "pbcnf encode a b --table") ≡ encode_with true None
unfolding parsed_of clap_on_literals
a_table = refl

a_table_before_the_names : said (codes "pbcnf encode --table a b --at-most=2") ≡ encode_with true (Some (pos 2))
unfolding parsed_of clap_on_literals
a_table_before_the_names = refl

-- ---- tables that are not taken

a_table_twice : said (codes "pbcnf encode a b --table --table") ≡ None
unfolding parsed_of clap_on_literals
a_table_twice = refl

a_table_with_a_value : said (codes "pbcnf encode a b --table=true") ≡ None
unfolding parsed_of clap_on_literals
a_table_with_a_value = refl

a_table_in_a_weighted_file : said (codes "pbcnf wcnf a b --table") ≡ None
unfolding parsed_of clap_on_literals
a_table_in_a_weighted_file = refl

a_table_to_check : said (codes "pbcnf check a b c --table") ≡ None
unfolding parsed_of clap_on_literals
a_table_to_check = refl

a_table_to_bench : said (codes "pbcnf bench 1 0 --table") ≡ None
unfolding parsed_of clap_on_literals
a_table_to_bench = refl

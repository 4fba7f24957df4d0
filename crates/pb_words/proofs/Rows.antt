-- Worked examples of command lines, which the check computes.
use Rattle.std.specs.Prelude.{◌≡◌, ℕ, List, [], ◌∷◌, true, false, Option, Some, None, codes, refl}
use Rattle.std.proofs.Common.{lit≤}
use Rattle.clap.specs.Words.{Text}
use Rattle.clap.proofs.OnLiterals.{clap_on_literals}
use Rattle.pb_base.specs.declared.options.Amo.TheVariants as amo
use Rattle.pb_base.specs.declared.options.Card.TheVariants as card
use Rattle.pb_base.specs.declared.options.EqualMode.TheVariants as equal
use Rattle.pb_base.specs.declared.options.General.TheVariants as general
use Rattle.pb_base.specs.declared.options.Options.{Options}
use Rattle.pb_base.specs.Defaults.{default_options}
use Rattle.pb_base.specs.declared.literal.Lit.{Lit}
use Rattle.pb_words.specs.Parsed.{Wanted, parsed_of}
use Rattle.pb_words.specs.Parsed.Wanted.{Encode, Check, Decode, Probe, Bench, Refute, Map, Optimum}
use Rattle.pb_words.proofs.Lines.{said}

abbrev encode : Text → Text → Options → Option Wanted
encode opb cnf options = Some (Encode (record { opb = opb; cnf = cnf; proof = None; options = options; bound = None }))

abbrev encode_a_b : Options → Option Wanted
encode_a_b = encode (codes "a") (codes "b")

abbrev encode_a_b_c : Options → Option Wanted
encode_a_b_c options = Some (Encode (record { opb = codes "a"; cnf = codes "b"; proof = Some (codes "c"); options = options; bound = None }))

abbrev check : Text → Text → Text → Option Wanted
check opb cnf proof = Some (Check (record { opb = opb; cnf = cnf; proof = proof; bound = None }))

abbrev probe : Text → List Lit → Option Wanted
probe cnf lits = Some (Probe (record { cnf = cnf; lits = lits }))

abbrev bench : ℕ → ℕ → Option Text → Option Wanted
bench count seed cnf = Some (Bench (record { count = count; seed = seed; cnf = cnf }))

abbrev plain : ℕ → Lit
plain n = record { var = n; positive = true }

abbrev negative : ℕ → Lit
negative n = record { var = n; positive = false }

-- ---- words that are taken

two_names : said (codes "pbcnf encode a b")
    ≡ encode_a_b (record { amo = amo.Auto; card = card.Auto; general = general.Diagram; equal = equal.Split; budget = 50000; low = lit≤ tt; high = lit≤ tt; table = false })
unfolding parsed_of clap_on_literals
two_names = refl

options_behind_the_names : said (codes "pbcnf encode a b --budget 9 --amo pairwise")
    ≡ encode_a_b (record default_options { budget = 9; low = lit≤ tt; high = lit≤ tt; amo = amo.Pairwise })
unfolding parsed_of clap_on_literals
options_behind_the_names = refl

options_before_the_names : said (codes "pbcnf encode --card counter --general=tree a b")
    ≡ encode_a_b (record default_options { card = card.Counter; general = general.Tree })
unfolding parsed_of clap_on_literals
options_before_the_names = refl

options_between_the_names : said (codes "pbcnf encode a --amo=product --card totalizer b")
    ≡ encode_a_b (record default_options { amo = amo.Product; card = card.Totalizer })
unfolding parsed_of clap_on_literals
options_between_the_names = refl

all_options : said (codes "pbcnf encode --amo ladder a --card=totalizer b --budget=7 --equal joint --general adder")
    ≡ encode_a_b (record { amo = amo.Ladder; card = card.Totalizer; general = general.Adder; equal = equal.Joint; budget = 7; low = lit≤ tt; high = lit≤ tt; table = false })
unfolding parsed_of clap_on_literals
all_options = refl

the_defaults_named : said (codes "pbcnf encode a b --amo=auto --card=auto --general=diagram --equal=split --budget=50000")
    ≡ encode_a_b default_options
unfolding parsed_of clap_on_literals
the_defaults_named = refl

leading_zeros : said (codes "pbcnf encode a b --budget=0000000000000000000000000000000000000000009")
    ≡ encode_a_b (record default_options { budget = 9; low = lit≤ tt; high = lit≤ tt })
unfolding parsed_of clap_on_literals
leading_zeros = refl

the_least_budget : said (codes "pbcnf encode a b --budget=1") ≡ encode_a_b (record default_options { budget = 1; low = lit≤ tt; high = lit≤ tt })
unfolding parsed_of clap_on_literals
the_least_budget = refl

the_greatest_budget : said (codes "pbcnf encode a b --budget 10000000")
    ≡ encode_a_b (record default_options { budget = 10000000; low = lit≤ tt; high = lit≤ tt })
unfolding parsed_of clap_on_literals
the_greatest_budget = refl

-- behind `--` each word is a name
names_behind_dashes : said (codes "pbcnf encode --amo=ladder -- --budget=9 --")
    ≡ encode (codes "--budget=9") (codes "--") (record default_options { amo = amo.Ladder })
unfolding parsed_of clap_on_literals
names_behind_dashes = refl

a_dash_alone : said (codes "pbcnf encode - b") ≡ encode (codes "-") (codes "b") default_options
unfolding parsed_of clap_on_literals
a_dash_alone = refl

an_empty_name : parsed_of (codes "pbcnf" ∷ codes "encode" ∷ [] ∷ codes "b" ∷ [])
    ≡ encode [] (codes "b") default_options
unfolding parsed_of clap_on_literals
an_empty_name = refl

a_third_name : said (codes "pbcnf encode a b c") ≡ encode_a_b_c default_options
unfolding parsed_of clap_on_literals
a_third_name = refl

options_between_three_names : said (codes "pbcnf encode a --budget=9 b --amo ladder c") ≡ encode_a_b_c (record default_options { amo = amo.Ladder; budget = 9; low = lit≤ tt; high = lit≤ tt })
unfolding parsed_of clap_on_literals
options_between_three_names = refl

another_program_name : said (codes "x encode a b") ≡ encode_a_b default_options
unfolding parsed_of clap_on_literals
another_program_name = refl

abbrev decode : Text → Text → Option Wanted
decode opb model = Some (Decode (record { opb = opb; model = model; bound = None }))

a_text_and_a_model : said (codes "pbcnf decode a b") ≡ decode (codes "a") (codes "b")
unfolding parsed_of clap_on_literals
a_text_and_a_model = refl

a_text_as_its_model : said (codes "pbcnf decode a a") ≡ None
unfolding parsed_of clap_on_literals
a_text_as_its_model = refl

three_texts : said (codes "pbcnf check a b c") ≡ check (codes "a") (codes "b") (codes "c")
unfolding parsed_of clap_on_literals
three_texts = refl

abbrev refute : Text → Text → Text → Text → Option Wanted
refute opb cnf proof lrat = Some (Refute (record { checked = record { opb = opb; cnf = cnf; proof = proof; bound = None }; lrat = lrat }))

four_texts : said (codes "pbcnf refute a b c d") ≡ refute (codes "a") (codes "b") (codes "c") (codes "d")
unfolding parsed_of clap_on_literals
four_texts = refl

a_derivation_as_its_refutation : said (codes "pbcnf refute a b c c") ≡ None
unfolding parsed_of clap_on_literals
a_derivation_as_its_refutation = refl

three_of_four_texts : said (codes "pbcnf refute a b c") ≡ None
unfolding parsed_of clap_on_literals
three_of_four_texts = refl

five_texts : said (codes "pbcnf optimum a b c d e") ≡ Some (Optimum (record { opb = codes "a"; model = codes "b"; cnf = codes "c"; proof = codes "d"; lrat = codes "e" }))
unfolding parsed_of clap_on_literals
five_texts = refl

a_model_as_its_refutation : said (codes "pbcnf optimum a b c d b") ≡ None
unfolding parsed_of clap_on_literals
a_model_as_its_refutation = refl

four_of_five_texts : said (codes "pbcnf optimum a b c d") ≡ None
unfolding parsed_of clap_on_literals
four_of_five_texts = refl

a_bound_on_an_optimum : said (codes "pbcnf optimum a b c d e --at-most=1") ≡ None
unfolding parsed_of clap_on_literals
a_bound_on_an_optimum = refl

one_text : said (codes "pbcnf map a") ≡ Some (Map (record { opb = codes "a" }))
unfolding parsed_of clap_on_literals
one_text = refl

no_text : said (codes "pbcnf map") ≡ None
unfolding parsed_of clap_on_literals
no_text = refl

two_texts_to_map : said (codes "pbcnf map a b") ≡ None
unfolding parsed_of clap_on_literals
two_texts_to_map = refl

option_of_encode_behind_map : said (codes "pbcnf map a --budget 9") ≡ None
unfolding parsed_of clap_on_literals
option_of_encode_behind_map = refl

texts_behind_dashes : said (codes "pbcnf check a -- --b -") ≡ check (codes "a") (codes "--b") (codes "-")
unfolding parsed_of clap_on_literals
texts_behind_dashes = refl

no_literals : said (codes "pbcnf probe c") ≡ probe (codes "c") []
unfolding parsed_of clap_on_literals
no_literals = refl

two_literals : said (codes "pbcnf probe c x1 ~x02") ≡ probe (codes "c") (plain 1 ∷ negative 2 ∷ [])
unfolding parsed_of clap_on_literals
two_literals = refl

the_greatest_literal : said (codes "pbcnf probe c x2147483647") ≡ probe (codes "c") (plain 2147483647 ∷ [])
unfolding parsed_of clap_on_literals
the_greatest_literal = refl

-- behind `--` each word is a name or a literal
literals_behind_dashes : said (codes "pbcnf probe -- --c x1") ≡ probe (codes "--c") (plain 1 ∷ [])
unfolding parsed_of clap_on_literals
literals_behind_dashes = refl

no_file : said (codes "pbcnf bench 1 0") ≡ bench 1 0 None
unfolding parsed_of clap_on_literals
no_file = refl

the_greatest_numbers : said (codes "pbcnf bench 1000000 4294967295 c") ≡ bench 1000000 4294967295 (Some (codes "c"))
unfolding parsed_of clap_on_literals
the_greatest_numbers = refl

leading_zeros_of_numbers : said (codes "pbcnf bench 0000001000 007 c") ≡ bench 1000 7 (Some (codes "c"))
unfolding parsed_of clap_on_literals
leading_zeros_of_numbers = refl

-- ---- words that are not taken

no_words : parsed_of [] ≡ None
unfolding parsed_of clap_on_literals
no_words = refl

only_the_program : said (codes "pbcnf") ≡ None
unfolding parsed_of clap_on_literals
only_the_program = refl

no_names : said (codes "pbcnf encode") ≡ None
unfolding parsed_of clap_on_literals
no_names = refl

one_name : said (codes "pbcnf encode a") ≡ None
unfolding parsed_of clap_on_literals
one_name = refl

four_names : said (codes "pbcnf encode a b c d") ≡ None
unfolding parsed_of clap_on_literals
four_names = refl

the_first_name_again : said (codes "pbcnf encode a b a") ≡ None
unfolding parsed_of clap_on_literals
the_first_name_again = refl

the_second_name_again : said (codes "pbcnf encode a b b") ≡ None
unfolding parsed_of clap_on_literals
the_second_name_again = refl

equal_names : said (codes "pbcnf encode a a") ≡ None
unfolding parsed_of clap_on_literals
equal_names = refl

two_texts : said (codes "pbcnf check a b") ≡ None
unfolding parsed_of clap_on_literals
two_texts = refl

a_text_too_many : said (codes "pbcnf check a b c d") ≡ None
unfolding parsed_of clap_on_literals
a_text_too_many = refl

the_first_text_again : said (codes "pbcnf check a b a") ≡ None
unfolding parsed_of clap_on_literals
the_first_text_again = refl

the_second_text_again : said (codes "pbcnf check a b b") ≡ None
unfolding parsed_of clap_on_literals
the_second_text_again = refl

option_of_encode : said (codes "pbcnf check a b c --budget 9") ≡ None
unfolding parsed_of clap_on_literals
option_of_encode = refl

unknown_command : said (codes "pbcnf decide a b") ≡ None
unfolding parsed_of clap_on_literals
unknown_command = refl

part_of_a_command : said (codes "pbcnf enc a b") ≡ None
unfolding parsed_of clap_on_literals
part_of_a_command = refl

two_commands : said (codes "pbcnf encode encode a b c") ≡ None
unfolding parsed_of clap_on_literals
two_commands = refl

unknown_option : said (codes "pbcnf encode a b --budgets 9") ≡ None
unfolding parsed_of clap_on_literals
unknown_option = refl

part_of_an_option : said (codes "pbcnf encode a b --budg=9") ≡ None
unfolding parsed_of clap_on_literals
part_of_an_option = refl

short_option : said (codes "pbcnf encode a b -b 9") ≡ None
unfolding parsed_of clap_on_literals
short_option = refl

option_before_the_command : said (codes "pbcnf --budget=9 encode a b") ≡ None
unfolding parsed_of clap_on_literals
option_before_the_command = refl

option_twice : said (codes "pbcnf encode a b --budget=9 --budget=9") ≡ None
unfolding parsed_of clap_on_literals
option_twice = refl

no_budget : said (codes "pbcnf encode a b --budget=0") ≡ None
unfolding parsed_of clap_on_literals
no_budget = refl

too_great_a_budget : said (codes "pbcnf encode a b --budget=10000001") ≡ None
unfolding parsed_of clap_on_literals
too_great_a_budget = refl

-- this is 1 more than 2^64
too_wide_a_budget : said (codes "pbcnf encode a b --budget=18446744073709551617") ≡ None
unfolding parsed_of clap_on_literals
too_wide_a_budget = refl

budget_with_plus : said (codes "pbcnf encode a b --budget +5") ≡ None
unfolding parsed_of clap_on_literals
budget_with_plus = refl

budget_with_minus : said (codes "pbcnf encode a b --budget -5") ≡ None
unfolding parsed_of clap_on_literals
budget_with_minus = refl

joined_budget_with_minus : said (codes "pbcnf encode a b --budget=-5") ≡ None
unfolding parsed_of clap_on_literals
joined_budget_with_minus = refl

empty_budget : said (codes "pbcnf encode a b --budget=") ≡ None
unfolding parsed_of clap_on_literals
empty_budget = refl

no_digits : said (codes "pbcnf encode a b --budget 5x") ≡ None
unfolding parsed_of clap_on_literals
no_digits = refl

missing_value : said (codes "pbcnf encode a b --budget") ≡ None
unfolding parsed_of clap_on_literals
missing_value = refl

option_as_value : said (codes "pbcnf encode a b --budget --amo") ≡ None
unfolding parsed_of clap_on_literals
option_as_value = refl

card_as_amo : said (codes "pbcnf encode a b --amo counter") ≡ None
unfolding parsed_of clap_on_literals
card_as_amo = refl

general_as_card : said (codes "pbcnf encode a b --card=tree") ≡ None
unfolding parsed_of clap_on_literals
general_as_card = refl

card_as_equal : said (codes "pbcnf encode a b --equal auto") ≡ None
unfolding parsed_of clap_on_literals
card_as_equal = refl

equal_twice : said (codes "pbcnf encode a b --equal split --equal joint") ≡ None
unfolding parsed_of clap_on_literals
equal_twice = refl

amo_as_general : said (codes "pbcnf encode a b --general auto") ≡ None
unfolding parsed_of clap_on_literals
amo_as_general = refl

in_capitals : said (codes "pbcnf encode a b --amo Ladder") ≡ None
unfolding parsed_of clap_on_literals
in_capitals = refl

help_option : said (codes "pbcnf --help") ≡ None
unfolding parsed_of clap_on_literals
help_option = refl

help_option_of_encode : said (codes "pbcnf encode a b --help") ≡ None
unfolding parsed_of clap_on_literals
help_option_of_encode = refl

short_help : said (codes "pbcnf -h") ≡ None
unfolding parsed_of clap_on_literals
short_help = refl

version_option : said (codes "pbcnf --version") ≡ None
unfolding parsed_of clap_on_literals
version_option = refl

help_command : said (codes "pbcnf help") ≡ None
unfolding parsed_of clap_on_literals
help_command = refl

no_variable : said (codes "pbcnf probe c x0") ≡ None
unfolding parsed_of clap_on_literals
no_variable = refl

no_literal : said (codes "pbcnf probe c x1 y1") ≡ None
unfolding parsed_of clap_on_literals
no_literal = refl

too_great_a_literal : said (codes "pbcnf probe c x2147483648") ≡ None
unfolding parsed_of clap_on_literals
too_great_a_literal = refl

number_as_literal : said (codes "pbcnf probe c -1") ≡ None
unfolding parsed_of clap_on_literals
number_as_literal = refl

nothing_to_probe : said (codes "pbcnf probe") ≡ None
unfolding parsed_of clap_on_literals
nothing_to_probe = refl

option_of_another_command : said (codes "pbcnf probe c --budget 9") ≡ None
unfolding parsed_of clap_on_literals
option_of_another_command = refl

too_many_statements : said (codes "pbcnf bench 1000001 0") ≡ None
unfolding parsed_of clap_on_literals
too_many_statements = refl

too_great_a_seed : said (codes "pbcnf bench 1 4294967296") ≡ None
unfolding parsed_of clap_on_literals
too_great_a_seed = refl

seed_with_plus : said (codes "pbcnf bench 1 +1") ≡ None
unfolding parsed_of clap_on_literals
seed_with_plus = refl

no_seed : said (codes "pbcnf bench 1") ≡ None
unfolding parsed_of clap_on_literals
no_seed = refl

two_files : said (codes "pbcnf bench 1 0 c d") ≡ None
unfolding parsed_of clap_on_literals
two_files = refl

option_of_encode_behind_bench : said (codes "pbcnf bench 1 0 --budget 9") ≡ None
unfolding parsed_of clap_on_literals
option_of_encode_behind_bench = refl

equal_behind_bench : said (codes "pbcnf bench 1 0 --equal joint") ≡ None
unfolding parsed_of clap_on_literals
equal_behind_bench = refl

equal_behind_check : said (codes "pbcnf check a b c --equal joint") ≡ None
unfolding parsed_of clap_on_literals
equal_behind_check = refl

-- The options of an encoding, in words. Our own.
use Rattle.std.specs.Prelude.{ℕ, false, List, [], ◌∷◌, Option, Some, None, if◌then◌else◌, codes, map}
use Rattle.std.specs.Option.{option_map_or}
use Rattle.std.specs.Str.{bytes_eq}
use Rattle.clap.specs.Words.{Row, Rule, Text, first_of}
use Rattle.pb_base.specs.declared.options.Amo.{Amo}
use Rattle.pb_base.specs.declared.options.Amo.TheVariants as amo
use Rattle.pb_base.specs.declared.options.Card.{Card}
use Rattle.pb_base.specs.declared.options.Card.TheVariants as card
use Rattle.pb_base.specs.declared.options.EqualMode.{EqualMode}
use Rattle.pb_base.specs.declared.options.EqualMode.TheVariants as equal
use Rattle.pb_base.specs.declared.options.General.{General}
use Rattle.pb_base.specs.declared.options.General.TheVariants as general
use Rattle.pb_base.specs.declared.options.Options.{Options}
use Rattle.pb_base.specs.Budgets.{options_with}
use Rattle.pb_base.specs.Defaults.{default_options}
use Rattle.pb_words.specs.Digits.{number_within}
use Rattle.pb_words.specs.Rules.{option_rule}

abbrev pub option_rules : List Rule
option_rules = map option_rule (codes "amo" ∷ codes "card" ∷ codes "general" ∷ codes "equal" ∷ codes "budget" ∷ [])

-- what stands beside a word
abbrev pub find_word : {X : Type 0} → List (Text × X) → Text → Option X
find_word [] word = None
find_word ((name, x) ∷ rows) word = if bytes_eq word name then Some x else find_word rows word

abbrev pub amo_of : Text → Option Amo
amo_of = find_word ((codes "auto", amo.Auto) ∷ (codes "pairwise", amo.Pairwise) ∷ (codes "ladder", amo.Ladder) ∷ (codes "product", amo.Product) ∷ [])

abbrev pub card_of : Text → Option Card
card_of = find_word ((codes "auto", card.Auto) ∷ (codes "counter", card.Counter) ∷ (codes "totalizer", card.Totalizer) ∷ [])

abbrev pub general_of : Text → Option General
general_of = find_word ((codes "diagram", general.Diagram) ∷ (codes "tree", general.Tree) ∷ (codes "adder", general.Adder) ∷ [])

abbrev pub equal_of : Text → Option EqualMode
equal_of = find_word ((codes "split", equal.Split) ∷ (codes "joint", equal.Joint) ∷ [])

-- what the option of this name says, or the default where it is not given
abbrev pub option_in : {X : Type 0} → Text → (Text → Option X) → X → List Row → Option X
option_in id reads default given = option_map_or reads (first_of id given) (Some default)

abbrev pub options_from : Option Amo → Option Card → Option General → Option EqualMode → Option ℕ → Option Options
options_from (Some amo) (Some card) (Some general) (Some equal) (Some budget) =
    options_with amo card general equal false budget
options_from _ _ _ _ _ = None

-- the options of a command to which these arguments were given; a budget is digits alone
abbrev pub options_in : List Row → Option Options
options_in given = options_from
    (option_in (codes "amo") amo_of default_options.amo given)
    (option_in (codes "card") card_of default_options.card given)
    (option_in (codes "general") general_of default_options.general given)
    (option_in (codes "equal") equal_of default_options.equal given)
    (option_in (codes "budget") (number_within 1 10000000) default_options.budget given)

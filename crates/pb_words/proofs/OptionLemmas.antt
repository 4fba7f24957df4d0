-- What the options' words keep.
use Rattle.std.proofs.Common.{◌≡◌, ℕ, Bool, false, List, Option, Some, None, codes, arith, ap, subst, sym, ◌∙◌}
use Rattle.std.specs.Option.{option_map_or}
use Rattle.clap.specs.Words.{Row, Text, first_of}
use Rattle.pb_base.specs.Budgets.{IsBudget, options_with}
use Rattle.pb_base.specs.Defaults.{default_options}
use Rattle.pb_base.specs.declared.options.Amo.{Amo}
use Rattle.pb_base.specs.declared.options.Card.{Card}
use Rattle.pb_base.specs.declared.options.EqualMode.{EqualMode}
use Rattle.pb_base.specs.declared.options.General.{General}
use Rattle.pb_base.specs.declared.options.Options.{Options}
use Rattle.pb_base.proofs.BudgetLemmas.{options_with-own, same_options}
use Rattle.pb_words.specs.Digits.{number_within}
use Rattle.pb_words.specs.OptionWords.{amo_of, card_of, equal_of, general_of, option_in, options_from, options_in}
use Rattle.pb_words.specs.TableWords.{table_in, tabled_in}
use Rattle.pb_words.proofs.DigitLemmas.{in_range}

budget_or : (o : Option Text) (m : ℕ) → option_map_or (number_within 1 10000000) o (Some 50000) ≡ Some m → IsBudget m
budget_or None m e = grind (arith, e)
budget_or (Some word) m e = in_range 1 10000000 word m e

-- what the words give as a budget is one
pub budget_range : (given : List Row) (m : ℕ) → option_in (codes "budget") (number_within 1 10000000) default_options.budget given ≡ Some m → IsBudget m
budget_range given m e = budget_or (first_of (codes "budget") given) m e

from_words : {amo : Option Amo} {card : Option Card} {general : Option General} {equal : Option EqualMode} {budget : Option ℕ} (o : Options)
    → amo ≡ Some o.amo → card ≡ Some o.card → general ≡ Some o.general → equal ≡ Some o.equal → budget ≡ Some o.budget → o.table ≡ false
    → Some o ≡ options_from amo card general equal budget
from_words o amo card general equal budget table =
    rw (amo, card, general, equal, budget) (sym (ap (λ (t : Bool). options_with o.amo o.card o.general o.equal t o.budget) (sym table) ∙ options_with-own o))

-- options are what their words say, or the defaults
pub options_read : (given : List Row) (usual o : Options) → usual ≡ default_options
    → option_in (codes "amo") amo_of usual.amo given ≡ Some o.amo → option_in (codes "card") card_of usual.card given ≡ Some o.card
    → option_in (codes "general") general_of usual.general given ≡ Some o.general → option_in (codes "equal") equal_of usual.equal given ≡ Some o.equal
    → option_in (codes "budget") (number_within 1 10000000) default_options.budget given ≡ Some o.budget → o.table ≡ false → Some o ≡ options_in given
options_read given usual o is amo card general equal budget table = from_words o
    (subst (λ (u : Options). option_in (codes "amo") amo_of u.amo given ≡ Some o.amo) is amo)
    (subst (λ (u : Options). option_in (codes "card") card_of u.card given ≡ Some o.card) is card)
    (subst (λ (u : Options). option_in (codes "general") general_of u.general given ≡ Some o.general) is general)
    (subst (λ (u : Options). option_in (codes "equal") equal_of u.equal given ≡ Some o.equal) is equal) budget table

-- the same with a table, if it is asked for
pub tabled_read : (given : List Row) (o tabled : Options) → options_in given ≡ Some o → tabled.amo ≡ o.amo → tabled.card ≡ o.card → tabled.general ≡ o.general → tabled.equal ≡ o.equal
    → tabled.table ≡ table_in given → tabled.budget ≡ o.budget → Some tabled ≡ tabled_in given
tabled_read given o tabled read amo card general equal table budget =
    rw read (ap Some (same_options tabled (record o { table = table_in given }) amo card general equal table budget))

-- Each treatment is chosen for sums that it serves.
use Rattle.std.proofs.Common.{ℕ, Bool, true, false, cond}
use Rattle.std.specs.Prelude.{length, nat_le, nat_lt}
use Rattle.pb_norm.specs.declared.reduction.Rest.{Rest}
use Rattle.pb_norm.specs.declared.reduction.Rest.TheVariants as rest
use Rattle.pb_norm.specs.BoundedSums.{BoundedSum, IsProper}
use Rattle.pb_norm.specs.Classes.{IsCardinality, IsAtMostOne, RestIs}
use Rattle.pb_base.specs.declared.options.Amo.{Amo}
use Rattle.pb_base.specs.declared.options.Amo.TheVariants as amo
use Rattle.pb_base.specs.declared.options.Card.{Card}
use Rattle.pb_base.specs.declared.options.Card.TheVariants as card
use Rattle.pb_base.specs.declared.options.General.{General}
use Rattle.pb_base.specs.declared.options.General.TheVariants as general
use Rattle.pb_base.specs.declared.options.Options.{Options}
use Rattle.pb_choice.specs.declared.treatment.Treatment.{Treatment}
use Rattle.pb_choice.specs.declared.treatment.Treatment.TheVariants as treatment
use Rattle.pb_choice.specs.inner.Suits.{Suits, RestSuits}
use Rattle.pb_choice.specs.Sums.{sum_fresh}
use Rattle.pb_choice.specs.Choice.{amo_treatment, card_treatment, general_treatment, within_budget, treatment_of}

amo_suits : (a : Amo) (m : BoundedSum) → IsAtMostOne m → Suits (amo_treatment a (length m.terms)) m
amo_suits amo.Auto m h = by_tests (nat_le (length m.terms) 6) (nat_le (length m.terms) 30)
  where
    by_tests : (few some : Bool) → Suits (cond few treatment.Pairwise (cond some treatment.Ladder treatment.Product)) m
    by_tests true some = h
    by_tests false true = h
    by_tests false false = h
amo_suits amo.Pairwise m h = h
amo_suits amo.Ladder m h = h
amo_suits amo.Product m h = h

card_suits : (k : Card) (m : BoundedSum) → IsCardinality m → Suits (card_treatment k m.bound) m
card_suits card.Auto m h = by_test (nat_le m.bound 8)
  where
    by_test : (low : Bool) → Suits (cond low treatment.Counter treatment.Totalizer) m
    by_test true = h
    by_test false = h
card_suits card.Counter m h = h
card_suits card.Totalizer m h = h

-- the adder is for each sum
within_suits : (budget : ℕ) (m : BoundedSum) (t : Treatment) → Suits t m → Suits (within_budget budget m t) m
within_suits budget m t h = by_test (nat_lt budget (sum_fresh t m))
  where
    by_test : (over : Bool) → Suits (cond over treatment.Adder t) m
    by_test true = tt
    by_test false = h

general_suits : (g : General) (m : BoundedSum) → IsProper m → Suits (general_treatment g) m
general_suits general.Diagram m h = h
general_suits general.Tree m h = h
general_suits general.Adder m h = tt

pub treatment_suits : (o : Options) (r : Rest) → RestIs r → RestSuits (treatment_of o r) r
treatment_suits o (rest.One m) h = amo_suits o.amo m h
treatment_suits o (rest.Card m) h = within_suits o.budget m (card_treatment o.card m.bound) (card_suits o.card m h)
treatment_suits o (rest.General m) h = within_suits o.budget m (general_treatment o.general) (general_suits o.general m h)
treatment_suits o other h = tt

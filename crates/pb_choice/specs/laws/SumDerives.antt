-- The laws of the steps of a sum, by its treatment.
use Rattle.std.proofs.Common.{◌≤◌, ◌+◌, ◌*◌, ◌^◌, ℕ, length, All}
use Rattle.pb_norm.specs.BoundedSums.{BoundedSum}
use Rattle.pb_steps.specs.Database.{Database}
use Rattle.pb_steps.specs.Sayable.{IsSayable}
use Rattle.pb_derive.specs.Derivations.{Derives, IsReadyFor}
use Rattle.pb_derive.specs.Short.{AreShort}
use Rattle.pb_family.specs.Derivations.{AreOriginal, MayStart}
use Rattle.pb_family.specs.Families.{VarsBelow}
use Rattle.pb_amo.specs.laws.PairwiseDerives.{pairwise_derives, pairwise_few}
use Rattle.pb_amo.specs.laws.PairwiseShort.{pairwise_sayable, pairwise_short}
use Rattle.pb_amo.specs.laws.LadderDerives.{ladder_derives, ladder_few}
use Rattle.pb_amo.specs.laws.LadderShort.{ladder_sayable, ladder_short}
use Rattle.pb_amo.specs.laws.ProductDerives.{product_derives}
use Rattle.pb_amo.specs.laws.ProductShort.{product_few, product_sayable, product_short}
use Rattle.pb_counter.specs.laws.RowsDerive.{rows_derive}
use Rattle.pb_counter.specs.laws.RowsShort.{rows_lines, rows_sayable, rows_short}
use Rattle.pb_totalizer.specs.laws.TotalizerDerives.{totalizer_derives, totalizer_lines}
use Rattle.pb_totalizer.specs.laws.TotalizerShort.{totalizer_sayable, totalizer_short}
use Rattle.pb_gentot.specs.laws.GeneralizedDerives.{generalized_derives, generalized_lines}
use Rattle.pb_gentot.specs.laws.GeneralizedShort.{generalized_sayable, generalized_short}
use Rattle.pb_diagram.specs.laws.DerivationLaws.{derivation_derives, derivation_lines, derivation_sayable, derivation_short}
use Rattle.pb_adder.specs.laws.AdderDerives.{adder_derives, suits_adder}
use Rattle.pb_adder.specs.laws.AdderShort.{adder_sayable, adder_short}
use Rattle.pb_adder.specs.laws.StepCounts.{adder_lines}
use Rattle.pb_choice.specs.declared.treatment.Treatment.{Treatment}
use Rattle.pb_choice.specs.declared.treatment.Treatment.TheVariants as treatment
use Rattle.pb_choice.specs.Sums.{sum_clauses, sum_count, sum_fresh}
use Rattle.pb_choice.specs.SumSteps.{sum_steps}
use Rattle.pb_choice.specs.inner.Suits.{HasRoom, IsDerivable}

-- from a database in which the sum stands, the steps are allowed one after the other and put out the clauses
pub sum_derives : (t : Treatment) (m : BoundedSum) → IsDerivable t m → (first id : ℕ) (db : Database) → VarsBelow first m.terms → IsReadyFor m first (sum_fresh t m) id db
    → Derives db (sum_steps t m first id db.next) (sum_clauses t m first) (first + sum_fresh t m)
sum_derives treatment.Pairwise m h first id db below ready = pairwise_derives m h.suits.one h.suits.units h.proper.distinct first id db below ready
sum_derives treatment.Ladder m h first id db below ready = ladder_derives m h.suits.one h.suits.units h.proper.distinct h.suits.three h.few first id db below ready
sum_derives treatment.Product m h first id db below ready = product_derives m h.suits.one h.suits.units h.proper.distinct h.few first id db below ready
sum_derives treatment.Counter m h first id db below ready = rows_derive m h.suits.units h.proper h.few first id db below ready
sum_derives treatment.Totalizer m h first id db below ready = totalizer_derives m h.suits.units h.proper h.few first id db below ready
sum_derives treatment.Diagram m h first id db below ready = derivation_derives m h.proper h.light first below id db ready
sum_derives treatment.Tree m h first id db below ready = generalized_derives m h.proper h.light first id db below ready
sum_derives treatment.Adder m h first id db below ready = adder_derives m first id db (suits_adder m h.proper h.light) below ready
sum_derives t m h first id db below ready = absurd h.suits

-- they are few
pub sum_few : (t : Treatment) (m : BoundedSum) → IsDerivable t m → (first id next : ℕ) → length (sum_steps t m first id next) ≤ 8 * (sum_fresh t m + sum_count t m)
sum_few treatment.Pairwise m h first id next = pairwise_few m.terms id next
sum_few treatment.Ladder m h first id next = ladder_few m.terms first id next h.suits.three
sum_few treatment.Product m h first id next = product_few m.terms first id next
sum_few treatment.Counter m h first id next = rows_lines m h.suits.units h.proper h.few first id next
sum_few treatment.Totalizer m h first id next = totalizer_lines m h.suits.units h.proper first id next
sum_few treatment.Diagram m h first id next = derivation_lines m h.proper first id next
sum_few treatment.Tree m h first id next = generalized_lines m h.proper first id next
sum_few treatment.Adder m h first id next = adder_lines m.terms m.bound first id next
sum_few t m h first id next = absurd h.suits

-- lines can say them
pub sum_sayable : (t : Treatment) (m : BoundedSum) → IsDerivable t m → HasRoom t m → (first id next : ℕ) → AreOriginal first m.terms → MayStart first (sum_fresh t m) id next
    → All IsSayable (sum_steps t m first id next)
sum_sayable treatment.Pairwise m h room first id next original start = pairwise_sayable m.terms first id next original start h.few
sum_sayable treatment.Ladder m h room first id next original start = ladder_sayable m.terms h.suits.three h.few first id next original start
sum_sayable treatment.Product m h room first id next original start = product_sayable m.terms first id next original start h.few
sum_sayable treatment.Counter m h room first id next original start = rows_sayable m h.suits.units h.proper h.few first id next original start
sum_sayable treatment.Totalizer m h room first id next original start = totalizer_sayable m h.suits.units h.proper h.few first id next original start
sum_sayable treatment.Diagram m h room first id next original start = derivation_sayable m h.proper h.light first id next original start
sum_sayable treatment.Tree m h room first id next original start = generalized_sayable m h.proper h.light room first id next original start
sum_sayable treatment.Adder m h room first id next original start = adder_sayable m first id next (suits_adder m h.proper h.light) original start
sum_sayable t m h room first id next original start = absurd h.suits

-- and these lines are short
pub sum_short : (t : Treatment) (m : BoundedSum) → IsDerivable t m → HasRoom t m → (first id next : ℕ) → AreOriginal first m.terms → MayStart first (sum_fresh t m) id next → length m.terms ≤ 2 ^ 21
    → AreShort (length m.terms) (sum_fresh t m) (sum_count t m) (sum_steps t m first id next)
sum_short treatment.Pairwise m h room first id next original start short = pairwise_short m.terms first id next original start h.few short
sum_short treatment.Ladder m h room first id next original start short = ladder_short m.terms h.suits.three h.few first id next original start short
sum_short treatment.Product m h room first id next original start short = product_short m.terms first id next original start h.few short
sum_short treatment.Counter m h room first id next original start short = rows_short m h.suits.units h.proper h.few first id next original start short
sum_short treatment.Totalizer m h room first id next original start short = totalizer_short m h.suits.units h.proper h.few first id next original start short
sum_short treatment.Diagram m h room first id next original start short = derivation_short m h.proper h.light first id next original start short
sum_short treatment.Tree m h room first id next original start short = generalized_short m h.proper h.light room first id next original start short
sum_short treatment.Adder m h room first id next original start short = adder_short m first id next (suits_adder m h.proper h.light) original start
sum_short t m h room first id next original start short = absurd h.suits

use Rattle.std.proofs.Common.{◌++◌, [], ◌∷◌, ◌∙◌, subst}
use Rattle.pb_norm.specs.Constraints.{Constraint}
use Rattle.pb_base.specs.declared.options.Options.{Options}
use Rattle.pb_choice.specs.EqualPlans.{IsEqualPlan}
use Rattle.pb_encode.specs.declared.groups.Group.TheVariants.{Alone}
use Rattle.pb_encode.specs.inner.Tallies.{Counts}
use Rattle.pb_encode.proofs.TallyLemmas.{tally_joint, tally_split}
use Rattle.pb_encode.proofs.tally.Tally.add_equal.Goals as goal

pub returns-in-Joint : goal.returns-in-Joint
returns-in-Joint c = λ o lower upper is parts before h.
    let choice = subst (IsEqualPlan o lower upper) c.in-Joint.is is in
    tally_joint o before lower upper c.args.self.now c.add_joint.new.self c.counts-counts.result.fresh c.counts-counts.result.clauses choice.0 (c.counts-counts.ensures.fresh ∙ parts.fresh_is) (c.counts-counts.ensures.clauses ∙ parts.count_is)
    c.add_joint.ensures h

pub returns-in-Split : goal.returns-in-Split
returns-in-Split c = λ o lower upper is parts before h.
    let choice = subst (IsEqualPlan o lower upper) c.in-Split.is is in
    let old = c.args.self.now in
    let mid = c.add.new.self in
    let new = c.add-in-Split.new.self in
    let first : Counts o old mid (Alone lower ∷ []) = subst (λ (q : Options). Counts q old mid (Alone lower ∷ [])) choice.1.options_are
    (subst (λ (d : Constraint). Counts c.in-Split.lower.options old mid (Alone d ∷ [])) choice.1.constraint_is c.add.ensures) in
    let second : Counts o mid new (Alone upper ∷ []) = subst (λ (q : Options). Counts q mid new (Alone upper ∷ [])) choice.2.options_are
    (subst (λ (d : Constraint). Counts c.in-Split.upper.options mid new (Alone d ∷ [])) choice.2.constraint_is c.add-in-Split.ensures) in
    tally_split o before lower upper new choice.0 (second (before ++ Alone lower ∷ []) (first before h))

use Rattle.std.proofs.Common.{arith, ◌≡◌, Bool, true, false, not, None, refl, ap, sym, ◌∙◌, subst, ◌++◌, ◌∷◌, []}
use Rattle.std.proofs.lemmas.Grind.{common_steps}
use Rattle.pb_base.specs.Literals.{negated}
use Rattle.pb_model.specs.declared.meaning.Meaning.{Meaning}
use Rattle.pb_model.specs.ModelLines.Symbol.{word}
use Rattle.pb_model.specs.ModelReading.{word_fault, is_listed}
use Rattle.pb_model.specs.inner.Reading.{Knows}
use Rattle.pb_model.proofs.Taking.{fine_one, word_fine, literal_fine, takes_end, takes_beyond, takes_literal}
use Rattle.pb_model.proofs.reader.Reader.note_meaning.Goals as goal

not_injective : (b : Bool) → not b ≡ true → b ≡ false
not_injective true e = cc
not_injective false e = refl

pub returns-in-End : goal.returns-in-End
returns-in-End c = λ vars ss k. (
  fine_one ss (word c.args.place c.args.meaning) (word_fine ss c.args.place c.args.meaning (sym k.ended ∙ c.requires.going) (ap (word_fault ss c.args.place) c.in-End.is)),
  subst (λ (m : Meaning). Knows vars (ss ++ word c.args.place m ∷ []) (record c.args.self.now { ended = true })) (sym c.in-End.is) (takes_end vars ss c.args.place c.args.self.now k),
)

pub returns-else-not-take : goal.returns-else-not-take
returns-else-not-take c = λ vars ss k.
    let none : is_listed ss (negated c.in-Literal.lit) ≡ false = not_injective (is_listed ss (negated c.in-Literal.lit)) (sym (c.take.ensures.tells ss k.listed) ∙ c.if-not-take.false) in
    let fine : word_fault ss c.args.place c.args.meaning ≡ None = ap (word_fault ss c.args.place) c.in-Literal.is ∙ literal_fine ss c.args.place c.in-Literal.lit none in (
      fine_one ss (word c.args.place c.args.meaning) (word_fine ss c.args.place c.args.meaning (sym k.ended ∙ c.requires.going) fine),
      subst (λ (m : Meaning). Knows vars (ss ++ word c.args.place m ∷ []) (record c.args.self.now { listing = c.take.new.self })) (sym c.in-Literal.is)
          (takes_literal vars ss c.args.place c.in-Literal.lit c.args.self.now c.take.new.self k c.take.ensures.vars (c.take.ensures.lists c.if-not-take.false ss c.args.place k.listed)),
    )

pub returns-then-not-take : goal.returns-then-not-take
returns-then-not-take c = grind (arith, common_steps)

pub returns-in-Beyond : goal.returns-in-Beyond
returns-in-Beyond c = λ vars ss k. (
  fine_one ss (word c.args.place c.args.meaning) (word_fine ss c.args.place c.args.meaning (sym k.ended ∙ c.requires.going) (ap (word_fault ss c.args.place) c.in-Beyond.is)),
  subst (λ (m : Meaning). Knows vars (ss ++ word c.args.place m ∷ []) c.args.self.now) (sym c.in-Beyond.is) (takes_beyond vars ss c.args.place c.args.self.now k),
)

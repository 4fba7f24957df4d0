use Rattle.std.proofs.Common.{◌∙◌, ◌++◌, ◌∷◌, [], sym, ap, length, arith}
use Rattle.pb_named.specs.NamedTerms.{NamedTerm}
use Rattle.pb_opb.proofs.Longer.{some-term}
use Rattle.pb_opb.proofs.reader.with_further.Goals as goal

pub returns-in_default : goal.returns-in_default
returns-in_default c =
    absurd (some-term c.args.terms c.requires (omega (arith, c.in_default.ensures.cases.0, c.into_vec-items.result.ok.0, ap length c.into_vec-items.ensures)))

pub returns : goal.returns
returns c = record {
  front = c.pop.new.self.items;
  last = c.in-Some.last;
  was = sym c.into_vec-items.ensures ∙ c.in-Some.ensures.items;
  is = c.from_vec-2.ensures ∙ c.in_ok-push-2.ensures.items ∙ ap (λ (t : NamedTerm). c.pop.new.self.items ++ t ∷ []) c.in_ok-push.ensures;
}

use Rattle.std.proofs.Common.{List, refl, sym, subst, arith}
use Rattle.pb_named.specs.NamedTerms.{NamedTerm}
use Rattle.pb_opb.specs.reader.Moves.{IsLonger}
use Rattle.pb_opb.proofs.reader.Reader.add_further.Goals as goal

pub returns-clause-ok : goal.returns-clause-ok
returns-clause-ok c = record {
  few = omega (arith, c.if-self-ge-MAX_TERMS.false);
  longer = subst (IsLonger c.args.self.now.terms c.args.lit) (sym c.replace.ensures.after)
      (subst (λ (ts : List NamedTerm). IsLonger ts c.args.lit c.in_ok-longer.longer) c.replace-terms.ensures.value c.in_ok-longer.ensures);
  is = refl;
}

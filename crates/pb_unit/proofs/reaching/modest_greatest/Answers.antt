use Rattle.std.proofs.Common.{arith}
use Rattle.std.proofs.lemmas.List.Elements.{All-weaker}
use Rattle.pb_unit.specs.Reaching.{IsUpTo, OfLit}
use Rattle.pb_unit.proofs.UpTo.{up_to}
use Rattle.pb_unit.proofs.reaching.modest_greatest.Goals as goal

pub returns : goal.returns
returns c =
    let found = c.greatest-most.ensures in
    record {
      few = found.few;
      modest = omega (arith, c.clause_lits.ensures, c.saturating_add.ensures);
      constraints = found.within;
      lits = All-weaker (OfLit (IsUpTo c.greatest.result)) (OfLit (IsUpTo c.greatest-most.result)) (λ l h. up_to c.greatest.result c.greatest-most.result found.no_less l.var h) c.args.given.now c.greatest.ensures.within;
    }

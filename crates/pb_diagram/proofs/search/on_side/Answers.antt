use Rattle.std.proofs.Common.{refl, arith}
use Rattle.pb_diagram.proofs.search.on_side.Goals as goal

pub returns-then-top-coef : goal.returns-then-top-coef
returns-then-top-coef c = record { ends = λ _. (refl, refl); node = λ room. absurd (omega (arith, room, c.if-top-coef.true)) }

pub returns-in-None : goal.returns-in-None
returns-in-None c = (c.if-top-coef.false, c.in-None.ensures)

pub returns-in-Some : goal.returns-in-Some
returns-in-Some c = record {
  ends = λ under. absurd (omega (arith, under, c.if-top-coef.false));
  node = λ _. (c.in-Some.interval, c.in-Some.ensures.0, c.in-Some.ensures.1, refl, refl);
}

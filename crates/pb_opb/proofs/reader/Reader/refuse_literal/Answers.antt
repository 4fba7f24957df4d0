use Rattle.std.proofs.Common.{◌≡◌, sym, subst}
use Rattle.pb_base.specs.declared.expected.Expected.{Expected}
use Rattle.pb_base.specs.declared.limit.LimitKind.{LimitKind}
use Rattle.pb_base.specs.declared.limit.LimitKind.TheVariants.{Variables, Name}
use Rattle.pb_named.specs.declared.named.NamedLit.{NamedLit}
use Rattle.pb_opb.specs.declared.fault.Refusal.TheVariants.{Unexpected, Limit}
use Rattle.pb_opb.specs.declared.reader.Reader.{Reader}
use Rattle.pb_opb.specs.declared.stage.Spot.{Spot}
use Rattle.pb_opb.specs.declared.stage.Spot.TheVariants.{First, Further, Elsewhere}
use Rattle.pb_opb.specs.declared.stage.Stage.{Stage}
use Rattle.pb_opb.specs.Grammar.Kind.{literal}
use Rattle.pb_opb.specs.reader.Front.{IsRead, read_kinds}
use Rattle.pb_opb.specs.reader.Moves.{first_passed}
use Rattle.pb_opb.specs.reader.Steps.{IsSpot, TakesLiteral}
use Rattle.pb_opb.specs.reader.Takes.{PassesBy, Refuses}
use Rattle.pb_opb.proofs.Kept.{far-refused, long-refused, unexpected}
use Rattle.pb_opb.proofs.reader.Reader.refuse_literal.Goals as goal
use Rattle.std.specs.Prelude.{refl}

-- a literal may stand where one is not elsewhere
takes-literal : (stage : Stage) (spot : Spot) → IsSpot stage spot → (spot ≡ Elsewhere → ⊥) → TakesLiteral stage
takes-literal stage (First part c) is here = subst TakesLiteral (sym is) tt
takes-literal stage (Further part) is here = subst TakesLiteral (sym is) tt
takes-literal stage Elsewhere is here = absurd (here refl)

refused-by : (r : Reader) → IsRead r → (l : NamedLit) → TakesLiteral r.stage → (which : LimitKind) → PassesBy which l → Refuses (read_kinds r) (literal l) (Limit (first_passed r.literals which))
refused-by r read l takes Variables far = far-refused r read (literal l) l takes refl far
refused-by r read l takes Name long = long-refused r read (literal l) l takes refl long
refused-by r read l takes _ passes = absurd passes

pub returns-in-Elsewhere-clause-err : goal.returns-in-Elsewhere-clause-err
returns-in-Elsewhere-clause-err c = λ l passes.
    subst (λ (e : Expected). Refuses (read_kinds c.args.self.now) (literal l) (Unexpected e)) (sym c.expected.ensures) (unexpected c.args.self.now c.requires (literal l) (c.in-Elsewhere.ensures l))

pub returns-in_default : goal.returns-in_default
returns-in_default c = record {
  ok = tt;
  err = λ l passes.
      subst (λ (w : LimitKind). Refuses (read_kinds c.args.self.now) (literal l) (Limit w)) (sym c.first_passed.ensures)
      (refused-by c.args.self.now c.requires l (takes-literal c.args.self.now.stage c.spot.result c.spot.ensures c.in_default.not-Elsewhere) c.args.which passes);
}

use Rattle.std.proofs.Common.{ap, arith, rules, subst, sym}
use mir.Val.{SFits}
use mir.Syntax.{w128}
use Rattle.std.proofs.lemmas.Int.{to_z-of_z}
use Rattle.std.specs.Prelude.{Contains}
use Rattle.pb_base.specs.declared.literal.Lit.{Lit}
use Rattle.pb_base.specs.declared.literal.Term.{Term}
use Rattle.pb_unit.specs.Renaming.{number_in, renamed_lit}
use Rattle.pb_unit.proofs.Pushed.{map_next}
use Rattle.pb_unit.proofs.numbering.numbered_terms.Goals as goal

pub numbered_literal-requires : goal.numbered_literal-requires
numbered_literal-requires c = subst (λ (t : Term). Contains c.args.names.now t.lit.var) (sym c.term-item.is) (c.requires c.loop-term.term-index c.term-item.result (omega arith))

pub loop-term-preserved : goal.loop-term-preserved
loop-term-preserved c =
    let t = c.term-item.result in
    let fits : SFits w128 t.coef = search rules in
    let with_lit : Lit → Term = λ l. record { coef = t.coef; lit = l } in
    let f : Term → Term = λ u. record { coef = u.coef; lit = renamed_lit (number_in c.args.names.now) u.lit } in
    map_next f c.args.terms.now c.loop-term.term-index t c.loop-term.made.items c.push.new.self.items (with_lit c.numbered_literal.result) (omega arith) c.term-item.is c.loop-term.invariant (simp to_z-of_z at c.in_ok-push.ensures.items) (ap with_lit c.numbered_literal.ensures)

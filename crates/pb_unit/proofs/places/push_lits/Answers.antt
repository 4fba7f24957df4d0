use Rattle.std.proofs.Common.{◌≡◌, ◌∙◌, ◌++◌, ◌∷◌, [], List, map, take, length, ap}
use Rattle.std.proofs.lemmas.Bool.{cond-true, cond-false}
use Rattle.std.proofs.Math.Seq.{take-append_seam}
use Rattle.std.proofs.lemmas.List.{take_all}
use Rattle.pb_base.specs.declared.literal.Lit.{Lit}
use Rattle.pb_base.specs.declared.literal.Term.{Term}
use Rattle.pb_unit.proofs.Slotting.{copied_more}
use Rattle.pb_unit.proofs.places.push_lits.Goals as goal

pub loop-term-preserved : goal.loop-term-preserved
loop-term-preserved c =
    c.push.ensures.items ∙
    (cond-true _ (c.loop-term.lits.items ++ c.term-item.result.lit ∷ []) c.loop-term.lits.items c.if-is_err.ensures.negation ∙
    (ap (λ (ls : List Lit). ls ++ c.term-item.result.lit ∷ []) c.loop-term.invariant ∙
    copied_more (λ (t : Term). t.lit) c.args.lits.now.items c.args.terms.now c.loop-term.term-index c.term-item.result c.loop-term-test.true c.term-item.is))

pub returns-then-is_err-clause-longer : goal.returns-then-is_err-clause-longer
returns-then-is_err-clause-longer c =
    let same : c.push.new.self.items ≡ c.loop-term.lits.items = c.push.ensures.items ∙ cond-false _ (c.loop-term.lits.items ++ c.term-item.result.lit ∷ []) c.loop-term.lits.items c.if-is_err.ensures.negation in
    ap (λ (ls : List Lit). take (length c.args.lits.now.items) ls) (same ∙ c.loop-term.invariant) ∙ take-append_seam c.args.lits.now.items _

pub returns-clause-pushed : goal.returns-clause-pushed
returns-clause-pushed c =
    c.loop-term.invariant ∙
    ap (λ (ts : List Term). c.args.lits.now.items ++ map (λ (t : Term). t.lit) ts) (take_all c.loop-term.term-index c.args.terms.now c.loop-term-test.false)

pub returns-clause-longer : goal.returns-clause-longer
returns-clause-longer c = ap (λ (ls : List Lit). take (length c.args.lits.now.items) ls) c.loop-term.invariant ∙ take-append_seam c.args.lits.now.items _

use Rattle.std.proofs.Common.{◌≡◌, ◌<◌, ◌∙◌, false, List, ap, sym, subst}
use Rattle.pb_base.specs.Literals.{is_among, negated}
use Rattle.pb_base.specs.declared.literal.Lit.{Lit}
use Rattle.pb_unit.proofs.Visits.{needed_joins}
use Rattle.pb_unit.proofs.visit.join.Goals as goal

pub push-requires-clause-undecided : goal.push-requires-clause-undecided
push-requires-clause-undecided c = ap (is_among c.args.held.now.lits) (sym c.not.ensures) ∙ sym c.if-not-holds-2.ensures

pub returns-then-not-holds-2 : goal.returns-then-not-holds-2
returns-then-not-holds-2 c =
    let undecided : is_among c.args.held.now.lits (negated c.args.term.now.lit) ≡ false = ap (is_among c.args.held.now.lits) (sym c.not.ensures) ∙ sym c.if-not-holds-2.ensures in
    let h = c.weight.ensures in
    c.push.ensures ∙
    ap (λ (ls : List Lit). record c.args.held.now { lits = ls })
    (sym (needed_joins c.args.slack _ c.args.held.now.lits (subst (λ n. c.args.slack < n) c.weight.ensures c.if-weight-slack.true) (sym c.if-not-holds.ensures) undecided))

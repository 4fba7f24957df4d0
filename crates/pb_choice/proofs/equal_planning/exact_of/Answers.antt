use Rattle.std.proofs.Common.{◌≡◌, ◌≢◌, length, ap, sym, ◌∙◌, subst, arith}
use Rattle.std.specs.List.{AllPairs}
use Rattle.std.proofs.lemmas.List.{length-map}
use Rattle.pb_base.specs.declared.literal.Lit.{Lit}
use Rattle.pb_norm.specs.Constraints.{Weighted}
use Rattle.pb_norm.specs.Reduction.{lits_of}
use Rattle.pb_choice.proofs.NumbersAsked.{asks}
use Rattle.pb_choice.proofs.JointSums.{lits_apart, not_asking, not_joining}
use Rattle.pb_choice.proofs.equal_planning.exact_of.Goals as goal

pub returns-then-not-is_joining : goal.returns-then-not-is_joining
returns-then-not-is_joining c = not_joining c.args.options.now c.args.lower.now (sym c.if-not-is_joining.ensures)

pub returns-then-not-asks_for_number : goal.returns-then-not-asks_for_number
returns-then-not-asks_for_number c = not_asking c.args.options.now c.args.lower.now (sym c.if-not-asks_for_number.ensures)

pub overflow_cast-number : goal.overflow_cast-number
overflow_cast-number c =
    let asked = asks c.args.lower.now c.lits_under.ensures.linear (sym c.if-not-asks_for_number.ensures) in
    omega (arith, c.number_asked-number.ensures, asked.not_all, c.lits_under.ensures.few)

pub build-requires : goal.build-requires
build-requires c =
    let d = c.args.lower.now in
    let asked = asks d c.lits_under.ensures.linear (sym c.if-not-asks_for_number.ensures) in
    let lits : c.in_ok-lits.lits ≡ lits_of d.terms = c.in_ok-lits.ensures.lits in
    let count : length c.in_ok-lits.lits ≡ length d.terms = ap length lits ∙ length-map d.terms (λ (t : Weighted). t.lit) in
    record {
      distinct = subst (AllPairs (λ (k l : Lit). k.var ≢ l.var)) (sym lits) (lits_apart d.terms c.lits_under.ensures.linear.ascending);
      some = omega (arith, c.number_asked-number.ensures, asked.some);
      not_all = omega (arith, c.number_asked-number.ensures, asked.not_all, count);
      few = omega (arith, count, c.lits_under.ensures.few);
    }

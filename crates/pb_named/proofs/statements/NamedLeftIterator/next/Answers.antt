use Rattle.std.proofs.Common.{◌≡◌, ◌∙◌, ◌∷◌, ◌≤◌, List, ap, sym, subst, length, arith, rules, to_z, of_z}
use Rattle.std.specs.Int.{w128}
use Rattle.std.proofs.lemmas.Int.{to_z-of_z}
use Rattle.pb_base.specs.declared.literal.Term.{Term}
use Rattle.pb_named.specs.inner.Columns.{named_terms, named_in}
use Rattle.pb_named.proofs.ColumnLemmas.{reads-plain, reads-enough}
use Rattle.pb_named.proofs.statements.NamedLeftIterator.next.Goals as goal

pub take_front-front-requires : goal.take_front-front-requires
take_front-front-requires c =
    let s = c.self.inside in
    reads-enough s.heads c.in_ok-terms.field-0 c.next.new.self s.plain s.names.now s.whole.now c.in_ok-terms.ensures.steps c.self.invariant.0

pub take_front-requires : goal.take_front-requires
take_front-requires c =
    let s = c.self.inside in
    subst (λ (us : List Term). c.in_ok-terms.field-0.terms ≤ length us) (sym c.self.invariant.2)
    (reads-enough s.heads c.in_ok-terms.field-0 c.next.new.self s.plain s.names.now s.whole.now c.in_ok-terms.ensures.steps c.self.invariant.0)

pub invariant_of-self-then-terms-gt0 : goal.invariant_of-self-then-terms-gt0
invariant_of-self-then-terms-gt0 c =
    let s = c.self.inside in
    (reads-plain s.heads c.in_ok-terms.field-0 c.next.new.self s.plain s.ahead c.take_front-front.result c.take_front-front.new.self c.take_front.result c.take_front.new.self s.names.now c.names_behind-self-inside.result.now s.whole.now
    c.in_ok-terms.ensures.steps c.self.invariant c.if-terms-gt0.true c.take_front-front.ensures.front c.take_front-front.ensures.rest c.take_front.ensures.front c.take_front.ensures.rest c.names_behind-self-inside.ensures).rest

pub returns-then-terms-gt0-clause-steps : goal.returns-then-terms-gt0-clause-steps
returns-then-terms-gt0-clause-steps c =
    let s = c.self.inside in
    let h = c.in_ok-terms.field-0 in
    let right : to_z w128 (of_z w128 h.right) ≡ h.right = to_z-of_z w128 h.right (search rules) in
    sym c.self.view_is
    ∙ (reads-plain s.heads h c.next.new.self s.plain s.ahead c.take_front-front.result c.take_front-front.new.self c.take_front.result c.take_front.new.self s.names.now c.names_behind-self-inside.result.now s.whole.now
    c.in_ok-terms.ensures.steps c.self.invariant c.if-terms-gt0.true c.take_front-front.ensures.front c.take_front-front.ensures.rest c.take_front.ensures.front c.take_front.ensures.rest c.names_behind-self-inside.ensures).steps
    ∙ (λ i. record { terms = named_terms c.take_front-front.result s.names.now; relation = h.relation; right = sym right i } ∷ named_in c.next.new.self (named_terms c.take_front-front.new.self c.names_behind-self-inside.result.now) s.whole.now)

pub returns-then-terms-gt0-clause-goes : goal.returns-then-terms-gt0-clause-goes
returns-then-terms-gt0-clause-goes c =
    let less = ap length (returns-then-terms-gt0-clause-steps c) in
    record {
      on = λ finite. (tt, tt, omega (arith, less));
      keeps = tt;
      rests = λ finite. tt;
    }

use Rattle.std.proofs.Common.{◌∙◌, ℕ, List, take, refl, subst, sym, arith}
use Rattle.std.proofs.lemmas.List.{take_all}
use Rattle.pb_base.specs.declared.literal.Term.{Term}
use Rattle.pb_norm.specs.Constraints.{Weighted, weighted, weights}
use Rattle.pb_unit.specs.Index.{size_of}
use Rattle.pb_unit.specs.inner.Filling.{AddsPlace, AddsTerm}
use Rattle.pb_unit.proofs.Entering.{weights-more}
use Rattle.pb_unit.proofs.Fillings.{added_none, added_then, numbered_at}
use Rattle.pb_unit.proofs.filling.enter_terms.Goals as goal

pub loop-term-init : goal.loop-term-init
loop-term-init c = record { size = refl; added = added_none c.args.codes.low c.args.codes.high c.args.place c.args.lists.now }

pub enter_term-requires : goal.enter_term-requires
enter_term-requires c =
    omega (arith, numbered_at (size_of c.args.lists.now) c.args.terms.now c.loop-term.term-index c.term-item.result c.loop-term-test.true c.term-item.is c.requires, c.loop-term.invariant.size)

pub loop-term-preserved : goal.loop-term-preserved
loop-term-preserved c = record {
  size = c.enter_term.ensures.size ∙ c.loop-term.invariant.size;
  added =
      let term : AddsTerm c.args.codes.low c.args.codes.high c.args.place (weighted c.term-item.result) c.loop-term.lists c.enter_term.new.lists =
      subst (λ (n : ℕ). AddsTerm c.args.codes.low c.args.codes.high c.args.place (record { coef = n; lit = c.term-item.result.lit }) c.loop-term.lists c.enter_term.new.lists) c.weight.ensures c.if-not-enter_term.ensures.added in
      subst (λ (ts : List Weighted). AddsPlace c.args.codes.low c.args.codes.high c.args.place ts c.args.lists.now c.enter_term.new.lists)
      (sym (weights-more c.args.terms.now c.loop-term.term-index c.term-item.result c.loop-term-test.true c.term-item.is))
      (added_then c.args.codes.low c.args.codes.high c.args.place (weights (take c.loop-term.term-index c.args.terms.now)) (weighted c.term-item.result) c.args.lists.now c.loop-term.lists c.enter_term.new.lists c.loop-term.invariant.added term);
}

pub returns : goal.returns
returns c = record {
  size = c.loop-term.invariant.size;
  added = subst (λ (ts : List Term). AddsPlace c.args.codes.low c.args.codes.high c.args.place (weights ts) c.args.lists.now c.loop-term.lists) (take_all c.loop-term.term-index c.args.terms.now c.loop-term-test.false) c.loop-term.invariant.added;
}

use Rattle.std.proofs.Common.{◌≡◌, ◌+◌, ◌∙◌, ◌++◌, ◌∷◌, [], List, take, map, refl, ap, subst, sym, arith}
use Rattle.std.proofs.lemmas.List.{map_more, take_all}
use Rattle.pb_base.specs.declared.literal.Lit.{Lit}
use Rattle.pb_norm.specs.Constraints.{Weighted}
use Rattle.pb_unit.specs.Index.{code}
use Rattle.pb_unit.specs.inner.Slots.{unit}
use Rattle.pb_unit.specs.inner.Filling.{AddsPlace}
use Rattle.pb_unit.proofs.Fillings.{added_none, added_then}
use Rattle.pb_unit.proofs.filling.enter_clause.Goals as goal

pub loop-lit-init : goal.loop-lit-init
loop-lit-init c = record { size = refl; added = added_none c.args.codes.low c.args.codes.high c.args.place c.args.lists.now }

pub enter_term-requires : goal.enter_term-requires
enter_term-requires c =
    omega (arith, ap code c.lit-item.is, c.requires c.loop-lit.lit-index c.lit-item.result c.loop-lit-test.true, c.loop-lit.invariant.size)

pub loop-lit-preserved : goal.loop-lit-preserved
loop-lit-preserved c = record {
  size = c.enter_term.ensures.size ∙ c.loop-lit.invariant.size;
  added =
      let t : Weighted = unit c.lit-item.result in
      let more : map unit (take (c.loop-lit.lit-index + 1) c.args.lits.now) ≡ map unit (take c.loop-lit.lit-index c.args.lits.now) ++ t ∷ [] =
      map_more unit c.args.lits.now c.loop-lit.lit-index c.lit-item.result c.loop-lit-test.true ∙ ap (λ (l : Lit). map unit (take c.loop-lit.lit-index c.args.lits.now) ++ unit l ∷ []) (sym c.lit-item.is) in
      subst (λ (ts : List Weighted). AddsPlace c.args.codes.low c.args.codes.high c.args.place ts c.args.lists.now c.enter_term.new.lists) (sym more)
      (added_then c.args.codes.low c.args.codes.high c.args.place (map unit (take c.loop-lit.lit-index c.args.lits.now)) t c.args.lists.now c.loop-lit.lists c.enter_term.new.lists c.loop-lit.invariant.added c.if-not-enter_term.ensures.added);
}

pub returns : goal.returns
returns c = record {
  size = c.loop-lit.invariant.size;
  added = subst (λ (ls : List Lit). AddsPlace c.args.codes.low c.args.codes.high c.args.place (map unit ls) c.args.lists.now c.loop-lit.lists) (take_all c.loop-lit.lit-index c.args.lits.now c.loop-lit-test.false) c.loop-lit.invariant.added;
}

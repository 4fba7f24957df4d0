use Rattle.std.proofs.Common.{◌∙◌, ℕ, ap, arith, subst}
use Rattle.pb_base.specs.declared.literal.Lit.{Lit}
use Rattle.pb_unit.specs.Renaming.{AreNames}
use Rattle.pb_unit.proofs.Numbers.{names_found, names_hit}
use Rattle.pb_unit.proofs.numbering.Names.numbered_literal.Goals as goal

pub unreachable-requires : goal.unreachable-requires
unreachable-requires c = names_hit c.args.self.now c.deref.result.now c.args.lit.var c.index.result (c.deref.ensures.value ∙ c.self.view_is) (subst AreNames c.self.view_is c.self.invariant) c.requires c.index.ensures.value c.binary_search.result c.binary_search.ensures.position c.in_default.field-0 c.in_default.is

pub overflow_cast-place : goal.overflow_cast-place
overflow_cast-place c = omega (arith, (names_found c.args.self.now c.deref.result.now c.args.lit.var c.index.result (c.deref.ensures.value ∙ c.self.view_is) (subst AreNames c.self.view_is c.self.invariant) c.requires c.index.ensures.value c.binary_search.result c.binary_search.ensures.position c.in-Ok.place c.in-Ok.is).0)

pub overflow_add-place : goal.overflow_add-place
overflow_add-place c = omega (arith, (names_found c.args.self.now c.deref.result.now c.args.lit.var c.index.result (c.deref.ensures.value ∙ c.self.view_is) (subst AreNames c.self.view_is c.self.invariant) c.requires c.index.ensures.value c.binary_search.result c.binary_search.ensures.position c.in-Ok.place c.in-Ok.is).0)

pub lit_at-requires-clause-high : goal.lit_at-requires-clause-high
lit_at-requires-clause-high c = omega (arith, (names_found c.args.self.now c.deref.result.now c.args.lit.var c.index.result (c.deref.ensures.value ∙ c.self.view_is) (subst AreNames c.self.view_is c.self.invariant) c.requires c.index.ensures.value c.binary_search.result c.binary_search.ensures.position c.in-Ok.place c.in-Ok.is).0)

pub returns : goal.returns
returns c =
    let lit : ℕ → Lit = λ n. record { var = n; positive = c.args.lit.positive } in
    c.lit_at.ensures ∙ ap lit (names_found c.args.self.now c.deref.result.now c.args.lit.var c.index.result (c.deref.ensures.value ∙ c.self.view_is) (subst AreNames c.self.view_is c.self.invariant) c.requires c.index.ensures.value c.binary_search.result c.binary_search.ensures.position c.in-Ok.place c.in-Ok.is).1

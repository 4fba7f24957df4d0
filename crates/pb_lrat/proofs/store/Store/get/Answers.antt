use Rattle.std.proofs.Common.{ap, sym, ◌∙◌, List, Some, refl, arith, length}
use Rattle.pb_base.specs.declared.literal.Lit.{Lit}
use Rattle.pb_lrat.specs.Hints.{clause_at}
use Rattle.pb_lrat.specs.inner.Stores.{Library, clause_in}
use Rattle.pb_lrat.proofs.Storing.{none_kept, some_kept, span_within}
use Rattle.pb_lrat.proofs.store.Store.get.Goals as goal

pub returns-in_default-clause-none : goal.returns-in_default-clause-none
returns-in_default-clause-none c = λ _.
    ap (λ (x : Library). clause_at x.live c.args.id) (sym c.self.view_is) ∙
    none_kept c.self.inside.lits.items c.self.inside.ids.items c.self.inside.spans.items c.args.id c.deref.result.now c.deref.ensures.value (c.in_default.ensures.none refl)

pub literals_at-requires : goal.literals_at-requires
literals_at-requires c =
    let h = span_within _ _ _ _ c.deref.result.now c.in-Some.place c.index.result.now c.in-Some-index.span c.deref.ensures.value c.self.invariant c.in-Some.ensures.within c.index.ensures c.in-Some-index.is in
    record { order = h.0; within = omega (arith, h.1, ap (λ (ls : List Lit). length ls) c.deref-in-Some-index.ensures.value) }

pub returns-in-None-clause-none : goal.returns-in-None-clause-none
returns-in-None-clause-none c = λ _.
    ap (λ (x : Library). clause_at x.live c.args.id) (sym c.self.view_is) ∙
    (some_kept _ _ _ _ c.args.id c.deref.result.now c.in-Some.place c.index.result.now c.deref.ensures.value c.self.invariant c.in-Some.ensures.within c.in-Some.ensures.at c.index.ensures ∙
    ap (clause_in c.self.inside.lits.items) c.in-None.is)

pub returns-in-Some-index-clause-some : goal.returns-in-Some-index-clause-some
returns-in-Some-index-clause-some c =
    ap (λ (x : Library). clause_at x.live c.args.id) (sym c.self.view_is) ∙
    (some_kept _ _ _ _ c.args.id c.deref.result.now c.in-Some.place c.index.result.now c.deref.ensures.value c.self.invariant c.in-Some.ensures.within c.in-Some.ensures.at c.index.ensures ∙
    (ap (clause_in c.self.inside.lits.items) c.in-Some-index.is ∙
    (ap (λ (ls : List Lit). clause_in ls (Some c.in-Some-index.span)) (sym c.deref-in-Some-index.ensures.value) ∙ ap (λ (ls : List Lit). Some ls) (sym c.literals_at.ensures))))

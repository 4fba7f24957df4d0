use Rattle.std.proofs.Common.{rules, ◌≡◌, ap, ◌∙◌, ℕ, List, [], ◌∷◌, ◌++◌, Some, length, Option}
use Rattle.pb_base.specs.declared.literal.Lit.{Lit}
use Rattle.pb_lrat.specs.declared.store.Span.{Span}
use Rattle.pb_lrat.specs.Hints.{Kept}
use Rattle.pb_lrat.specs.inner.Stores.{Library, kept_in}
use Rattle.pb_lrat.proofs.Storing.{kept_more}
use Rattle.pb_lrat.proofs.store.Store.push.Goals as goal

abbrev library : ℕ → List Kept → Library
library last live = record { last = last; live = live }

pub returns-clause-ok : goal.returns-clause-ok
returns-clause-ok c =
    let lits : c.extend_from_slice.new.self.items ≡ c.self.inside.lits.items ++ c.args.clause.now = search rules in
    let ids : c.append_id.new.ids.items ≡ c.self.inside.ids.items ++ c.args.id ∷ [] = c.append_id.ensures ∙ ap (λ (xs : List ℕ). xs ++ c.args.id ∷ []) c.reserve.ensures.items in
    let span : Span = record { start = c.len-start.result; end = c.len-end.result } in
    let spans : c.append_span.new.spans.items ≡ c.self.inside.spans.items ++ Some span ∷ [] = c.append_span.ensures ∙ ap (λ (xs : List (Option Span)). xs ++ Some span ∷ []) c.reserve-2.ensures.items in
    let low : span.start ≡ length c.self.inside.lits.items = search rules in
    let high : span.end ≡ length (c.self.inside.lits.items ++ c.args.clause.now) = let e : span.end ≡ length c.extend_from_slice.new.self.items = search rules in e ∙ ap (λ (ls : List Lit). length ls) lits in
    ap (library c.args.id) (
    ap (λ (ls : List Lit). kept_in ls c.append_id.new.ids.items c.append_span.new.spans.items) lits ∙
    (ap (λ (xs : List ℕ). kept_in (c.self.inside.lits.items ++ c.args.clause.now) xs c.append_span.new.spans.items) ids ∙
    (ap (kept_in (c.self.inside.lits.items ++ c.args.clause.now) (c.self.inside.ids.items ++ c.args.id ∷ [])) spans ∙
    (kept_more c.self.inside.lits.items c.args.clause.now c.self.inside.ids.items c.self.inside.spans.items c.args.id span c.self.invariant.even c.self.invariant.within low high ∙
    ap (λ (x : Library). x.live ++ record { id = c.args.id; clause = c.args.clause.now } ∷ []) c.self.view_is)))
    )

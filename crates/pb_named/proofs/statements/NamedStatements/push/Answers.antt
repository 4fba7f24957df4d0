use Rattle.std.proofs.Common.{◌≡◌, ◌∙◌, ◌++◌, ◌∷◌, [], List, refl, rules, to_z, of_z, OnOk, Ok, Err, Result, sym, subst, length}
use Rattle.std.specs.Int.{w128}
use Rattle.std.proofs.lemmas.Int.{to_z-of_z}
use Rattle.pb_base.specs.declared.heads.Head.{Head}
use Rattle.pb_named.specs.NamedTerms.{NamedTerm}
use Rattle.pb_named.specs.declared.named.NamedStatement.{NamedStatement}
use Rattle.pb_named.specs.inner.Columns.{named_terms, named_in, AreColumns}
use Rattle.pb_named.proofs.ColumnLemmas.{adds-named, adds-counted, plain-push, whole-push, plain-columns}
use Rattle.pb_named.proofs.statements.NamedStatements.push.Goals as goal

both : {M : Type 0} (r : Result (Unit {0}) M) → (hs gs : List Head) (ts : List NamedTerm) (ws vs : List (List NamedTerm)) (ss : List NamedStatement) →
    OnOk r (hs ≡ gs) → OnOk r (ws ≡ vs) → named_in gs ts vs ≡ ss → OnOk r (named_in hs ts ws ≡ ss)
both (Ok u) hs gs ts ws vs ss heads wholes made = (λ i. named_in (heads i) ts (wholes i)) ∙ made
both (Err e) hs gs ts ws vs ss heads wholes made = tt

pub returns-then-push_plain-clause-ok : goal.returns-then-push_plain-clause-ok
returns-then-push_plain-clause-ok c =
    let s = c.self.inside in
    let right : to_z w128 (of_z w128 c.args.right) ≡ c.args.right = to_z-of_z w128 c.args.right (search rules) in
    let made = adds-named s.plain c.push_plain.new.plain s.names.items c.push_plain.new.names.items _ c.self.invariant.1 c.if-push_plain.ensures.added in
    (λ i. named_in (c.if-push_plain.ensures.head i) (made i) s.whole.items)
    ∙ plain-push s.heads _ (named_terms s.plain s.names.items) s.whole.items _ c.self.invariant.0 c.if-push_plain.ensures.some refl
    ∙ (λ i. c.self.view_is i ++ record { terms = c.as_slice.ensures.value i; relation = c.args.relation; right = right i } ∷ [])

pub returns-clause-ok : goal.returns-clause-ok
returns-clause-ok c =
    let s = c.self.inside in
    let right : to_z w128 (of_z w128 c.args.right) ≡ c.args.right = to_z-of_z w128 c.args.right (search rules) in
    let heads = c.if-push_plain.ensures.heads in
    let plain = c.if-push_plain.ensures.plain in
    let names = c.if-push_plain.ensures.names in
    let old = (λ i. named_in (heads i) (named_terms (plain i) (names i)) s.whole.items) ∙ c.self.view_is in
    let are : AreColumns c.push_plain.new.heads (named_terms c.push_plain.new.plain c.push_plain.new.names.items) s.whole.items = rw (heads, plain, names) c.self.invariant.0 in
    let pushed = whole-push c.push_plain.new.heads record { terms = 0; relation = c.args.relation; right = to_z w128 (of_z w128 c.args.right) } (named_terms c.push_plain.new.plain c.push_plain.new.names.items) s.whole.items c.in_ok-kept.kept are refl in
    let made = pushed ∙ (λ i. old i ++ record { terms = c.in_ok-kept.ensures.terms i; relation = c.args.relation; right = right i } ∷ []) in
    both c.push_whole.result _ _ _ _ _ _ c.push_whole.ensures.head c.push_whole.ensures.whole made

pub invariant_of-self : goal.invariant_of-self
invariant_of-self c =
    let s = c.self.inside in
    let adds = c.if-push_plain.ensures.added in
    let made = adds-named s.plain c.push_plain.new.plain s.names.items c.push_plain.new.names.items _ c.self.invariant.1 adds in
    let head : Head = record { terms = length c.as_slice.result.now; relation = c.args.relation; right = to_z w128 (of_z w128 c.args.right) } in
    let are = plain-columns s.heads head (named_terms s.plain s.names.items) _ s.whole.items c.self.invariant.0 c.if-push_plain.ensures.some refl in (
      subst (λ (hs : List Head). AreColumns hs (named_terms c.push_plain.new.plain c.push_plain.new.names.items) s.whole.items) (sym c.if-push_plain.ensures.head)
          (subst (λ (ns : List NamedTerm). AreColumns (s.heads ++ head ∷ []) ns s.whole.items) (sym made) are),
      adds-counted s.plain c.push_plain.new.plain s.names.items c.push_plain.new.names.items _ c.self.invariant.1 adds,
    )

use Rattle.std.proofs.Common.{◌≡◌, ◌∙◌, ◌+◌, ◌-◌, ◌++◌, List, ap, append-nil, arith, drop, length, length-drop, sym}
use Rattle.std.specs.Prelude.{map}
use Rattle.std.proofs.lemmas.List.{take_all, drop_all}
use Rattle.pb_base.specs.declared.literal.Lit.{Lit}
use Rattle.pb_base.specs.declared.literal.Term.{Term}
use Rattle.pb_base.specs.Literals.{is_among}
use Rattle.pb_norm.specs.ClauseForm.{one_of, distinct}
use Rattle.pb_family.proofs.Gathered.{once_pushed, once_passed}
use Rattle.pb_family.proofs.claim.each_once.Goals as goal
use Rattle.pb_family.proofs.claim.each_once.Goals.{then-not-contains+in_ok-push, else-not-contains}

pub loop-place-init : goal.loop-place-init
loop-place-init c = ap (λ (ts : List Term). ts ++ map one_of (distinct c.args.clause.now)) c.new-terms.ensures.items

pub loop-place-preserved : goal.loop-place-preserved
loop-place-preserved c =
    let ls = c.args.clause.now in
    let i = c.loop-place.place in
    let l = c.index-clause-place.result in
    let made = c.loop-place.terms.items in
    let next = c.if-not-contains.terms.items in
    let all = map one_of (distinct ls) in
    let among : c.contains.result ≡ is_among (drop (i + 1) ls) l = c.contains.ensures.value ∙ ap (λ (ks : List Lit). is_among ks l) (take_all (length ls - (i + 1)) (drop (i + 1) ls) (omega (arith, length-drop (i + 1) ls))) in
    elim c.if-not-contains.branch [
      | then-not-contains+in_ok-push w ↦
          once_pushed ls i l made next all (omega arith) c.index-clause-place.is c.loop-place.invariant (sym among ∙ w.if-not-contains.true) (ap (λ t. t.items) w.terms-is ∙ w.in_ok-push.ensures.items)
      | else-not-contains w ↦
          once_passed ls i l made next all (omega arith) c.index-clause-place.is c.loop-place.invariant (sym among ∙ w.if-not-contains.false) (ap (λ t. t.items) w.terms-is)
    ]

pub returns : goal.returns
returns c =
    let made = c.loop-place.terms.items in
    sym (ap (λ (ls : List Lit). made ++ map one_of (distinct ls)) (drop_all c.loop-place.place c.args.clause.now (omega arith)) ∙ append-nil made) ∙ c.loop-place.invariant

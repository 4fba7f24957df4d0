use Rattle.std.proofs.Common.{rules, ◌∙◌}
use Rattle.std.specs.Int.{w128}
use Rattle.std.proofs.lemmas.Int.{to_z-of_z}
use Rattle.std.proofs.lemmas.List.Elements.{All-push}
use Rattle.pb_base.specs.inner.Packing.{IsKept}
use Rattle.pb_base.proofs.Packs.{all-kept, all-pushed, terms-stay, term-by_number}
use Rattle.pb_base.proofs.term_column.push_term.Goals as goal
use Rattle.std.proofs.Common.{length}
use Rattle.pb_base.specs.declared.packed.PackedTerm.{PackedTerm}
use Rattle.pb_base.specs.inner.Packing.{term_in}

pub returns-in_err-coef-clause-err : goal.returns-in_err-coef-clause-err
returns-in_err-coef-clause-err c = let same = terms-stay _ _ _ c.pack.ensures.longer c.requires in search rules

pub returns-in_err-push-clause-err : goal.returns-in_err-push-clause-err
returns-in_err-push-clause-err c = let same = terms-stay _ _ _ c.pack.ensures.longer c.requires in rw c.in_err-push.ensures.items (search rules)

pub returns-clause-kept : goal.returns-clause-kept
returns-clause-kept c =
    rw c.in_ok-push.ensures.items (All-push (λ (t : PackedTerm). IsKept (length c.pack.new.wide.items) t.coef) _ _ (all-kept (λ (t : PackedTerm). t.coef) term_in term-by_number _ _ _ c.pack.ensures.longer c.requires) c.in_ok-coef.ensures.kept)

pub returns-clause-ok : goal.returns-clause-ok
returns-clause-ok c =
    let number = c.in_ok-coef.ensures.number ∙ to_z-of_z w128 c.args.term.now.coef (search rules) in
    rw c.in_ok-push.ensures.items (all-pushed (λ (t : PackedTerm). t.coef) term_in term-by_number _ _ _ _ _ c.pack.ensures.longer c.requires (λ i. record { coef = number i; lit = c.new.ensures i }))

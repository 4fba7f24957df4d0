use Rattle.std.proofs.Common.{rules, ◌∙◌}
use Rattle.std.specs.Int.{w128}
use Rattle.std.proofs.lemmas.Int.{to_z-of_z}
use Rattle.std.proofs.lemmas.List.Elements.{All-push}
use Rattle.pb_base.specs.inner.Packing.{IsKept}
use Rattle.pb_base.proofs.Packs.{all-kept, all-pushed, heads-stay, head-by_number}
use Rattle.pb_base.proofs.heads.push_head.Goals as goal
use Rattle.std.proofs.Common.{length}
use Rattle.pb_base.specs.declared.heads.PackedHead.{PackedHead}
use Rattle.pb_base.specs.inner.Packing.{head_in}

pub returns-in_err-right-clause-err : goal.returns-in_err-right-clause-err
returns-in_err-right-clause-err c = let same = heads-stay _ _ _ c.pack.ensures.longer c.requires in search rules

pub returns-in_err-push-clause-err : goal.returns-in_err-push-clause-err
returns-in_err-push-clause-err c = let same = heads-stay _ _ _ c.pack.ensures.longer c.requires in rw c.in_err-push.ensures.items (search rules)

pub returns-clause-kept : goal.returns-clause-kept
returns-clause-kept c =
    rw c.in_ok-push.ensures.items (All-push (λ (h : PackedHead). IsKept (length c.pack.new.wide.items) h.right) _ _ (all-kept (λ (h : PackedHead). h.right) head_in head-by_number _ _ _ c.pack.ensures.longer c.requires) c.in_ok-right.ensures.kept)

pub returns-clause-ok : goal.returns-clause-ok
returns-clause-ok c =
    let number = c.in_ok-right.ensures.number ∙ to_z-of_z w128 c.args.head.right (search rules) in
    rw c.in_ok-push.ensures.items (all-pushed (λ (h : PackedHead). h.right) head_in head-by_number _ _ _ _ _ c.pack.ensures.longer c.requires (λ i. record { terms = c.args.head.terms; relation = c.args.head.relation; right = number i }))

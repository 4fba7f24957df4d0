use Rattle.std.proofs.Common.{◌<◌, sym, subst, List, ℕ}
use Rattle.std.specs.Prelude.{Contains}
use Rattle.std.proofs.lemmas.List.Elements.{Contains-append_left, Contains-append_right}
use Rattle.pb_steps.specs.declared.op.Set.{Set}
use Rattle.pb_rules.proofs.SetVars.{sets_more, sets_named}
use Rattle.pb_rules.proofs.red.ids_to_show.Goals as goal

pub ids_of-requires : goal.ids_of-requires
ids_of-requires c = subst (λ (s : Set). c.args.db.now.original < s.var) (sym c.set-item.is) (c.requires c.loop-set.set-index c.set-item.result c.loop-set-test.true)

pub loop-set-preserved : goal.loop-set-preserved
loop-set-preserved c =
    sets_more c.args.db.now.live c.args.sets.now c.loop-set.set-index c.set-item.result c.loop-set.ids.items c.push_ids.new.list.items c.loop-set-test.true c.set-item.is
    (λ id h. subst (λ (xs : List ℕ). Contains xs id) (sym c.in_ok-push_ids.ensures) (Contains-append_left c.loop-set.ids.items c.ids_of.result.now id h))
    (λ id named. subst (λ (xs : List ℕ). Contains xs id) (sym c.in_ok-push_ids.ensures) (Contains-append_right c.loop-set.ids.items c.ids_of.result.now id (c.ids_of.ensures id named)))
    c.loop-set.invariant

pub returns : goal.returns
returns c = sets_named c.args.db.now.live c.args.sets.now c.loop-set.set-index c.loop-set.ids.items c.loop-set-test.false c.loop-set.invariant

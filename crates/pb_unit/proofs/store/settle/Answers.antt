use Rattle.std.proofs.Common.{◌≤◌, inl, ℕ, ap, sym, subst}
use Rattle.std.proofs.lemmas.List.{get_or-set_same, get_or-set_other}
use Rattle.pb_unit.specs.declared.kept.Counters.{Counters}
use Rattle.pb_unit.specs.Index.{room_at}
use Rattle.pb_unit.proofs.store.settle.Goals as goal

pub returns-else-at-alert-clause-alert : goal.returns-else-at-alert-clause-alert
returns-else-at-alert-clause-alert c = ap (λ (k : Counters). k.alert) (get_or-set_same c.args.kept.now c.args.place _ (record { room = 0; alert = 0 }) c.requires.known)

pub returns-else-at-alert-clause-others : goal.returns-else-at-alert-clause-others
returns-else-at-alert-clause-others c = λ p ne. ap (λ (k : Counters). k.alert) (get_or-set_other c.args.kept.now c.args.place p _ (record { room = 0; alert = 0 }) ne)

pub returns-else-at-alert-clause-listed : goal.returns-else-at-alert-clause-listed
returns-else-at-alert-clause-listed c =
    inl (subst (λ (a : ℕ). a ≤ room_at c.args.kept.now c.args.place) (sym (ap (λ (k : Counters). k.alert) (get_or-set_same c.args.kept.now c.args.place _ (record { room = 0; alert = 0 }) c.requires.known))) c.if-at-alert.false)

pub returns-then-at-alert-clause-alert : goal.returns-then-at-alert-clause-alert
returns-then-at-alert-clause-alert c = ap (λ (k : Counters). k.alert) (get_or-set_same c.args.kept.now c.args.place _ (record { room = 0; alert = 0 }) c.requires.known)

pub returns-then-at-alert-clause-others : goal.returns-then-at-alert-clause-others
returns-then-at-alert-clause-others c = λ p ne. ap (λ (k : Counters). k.alert) (get_or-set_other c.args.kept.now c.args.place p _ (record { room = 0; alert = 0 }) ne)

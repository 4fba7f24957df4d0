use Rattle.std.proofs.Common.{◌∙◌, ◌++◌, ap, sym, append-nil}
use Rattle.pb_named.specs.inner.Columns.{listed}
use Rattle.pb_named.proofs.sums.push_some.Goals as goal

pub returns-in-None : goal.returns-in-None
returns-in-None c = sym (append-nil c.args.list.now) ∙ ap (λ o. c.args.list.now ++ listed o) (sym c.in-None.is)

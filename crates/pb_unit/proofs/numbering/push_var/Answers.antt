use Rattle.std.proofs.Common.{◌∙◌, ◌++◌, ◌∷◌, [], ℕ, ap, arith}
use Rattle.pb_unit.proofs.Pushed.{names_push}
use Rattle.pb_unit.proofs.numbering.push_var.Goals as goal

pub returns-clause-var : goal.returns-clause-var
returns-clause-var c = c.in_ok-push.ensures.items ∙ ap (λ (v : ℕ). c.args.out.now.items ++ v ∷ []) c.index.ensures.value

pub returns-clause-names : goal.returns-clause-names
returns-clause-names c =
    names_push c.args.out.now.items c.push.new.self.items c.index.result c.in_ok-push.ensures.items c.requires
    (record { low = omega (arith, c.index.ensures.low, c.index.ensures.value); high = omega (arith, c.index.ensures.high, c.index.ensures.value) })

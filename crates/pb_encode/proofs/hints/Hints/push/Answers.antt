use Rattle.std.proofs.Common.{sym, subst}
use Rattle.pb_encode.specs.declared.hints.Hint.{Hint}
use Rattle.pb_encode.specs.inner.Hints.{AreHintsOf}
use Rattle.pb_encode.proofs.Hinting.{hints_more}
use Rattle.pb_encode.proofs.hints.Hints.push.Goals as goal

pub returns-clause-told : goal.returns-clause-told
returns-clause-told c = λ o gs rest g here told before.
    let hint : Hint = record { place = c.args.self.now.noted; tells = c.in-Some.tells } in
    subst (AreHintsOf o gs) (sym c.in_ok-push.ensures.items) (hints_more o gs rest g c.args.self.now.list.items hint here (rw c.in-Some.is at told) before)

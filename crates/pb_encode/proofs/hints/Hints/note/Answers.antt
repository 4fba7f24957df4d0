use Rattle.pb_encode.proofs.hints.Hints.note.Goals as goal

pub returns-clause-told : goal.returns-clause-told
returns-clause-told c = λ o gs rest g here planned before.
    c.in_ok-push.ensures.told o gs rest g here (c.tells_of.ensures o g planned) before

use Rattle.std.proofs.Common.{ap, ◌∙◌, drop, List, ℕ}
use Rattle.std.proofs.lemmas.List.{drop-drop}
use Rattle.pb_desk.specs.LineReading.{Held}
use Rattle.pb_desk.proofs.piece.skip_piece.Goals as goal

pub returns-then-is_ended : goal.returns-then-is_ended
returns-then-is_ended c =
    rw c.if-is_ended.true
    (c.skip-then-is_ended.ensures ∙ (ap (λ (held : Held). record { bytes = drop 1 held.bytes; over = held.over }) c.skip.ensures
    ∙ ap (λ (xs : List ℕ). record { bytes = xs; over = c.args.ahead.now.over }) (drop-drop 1 c.args.count c.args.ahead.now.bytes)))

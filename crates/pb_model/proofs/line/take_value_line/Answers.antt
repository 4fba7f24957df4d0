use Rattle.std.proofs.Common.{[], ◌∷◌, map}
use Rattle.pb_model.specs.ModelLines.{word_symbol}
use Rattle.pb_model.specs.ModelLines.Symbol.{values}
use Rattle.pb_model.proofs.Taking.{refused_then}
use Rattle.pb_model.proofs.Going.{takes_then}
use Rattle.pb_model.proofs.line.take_value_line.Goals as goal

pub returns-in-Ok : goal.returns-in-Ok
returns-in-Ok c = λ vars ss k.
    let opened = c.in-Ok.ensures vars ss k in
    takes_then vars ss (values c.args.place ∷ []) (map (word_symbol vars c.args.number) c.args.words) c.take_values.new.reader c.take_values.result opened.0 (c.take_values.ensures vars _ opened.1)

pub returns-in-Err : goal.returns-in-Err
returns-in-Err c = λ vars ss k. refused_then ss (values c.args.place ∷ []) (map (word_symbol vars c.args.number) c.args.words) c.in-Err.fault (c.in-Err.ensures vars ss k)

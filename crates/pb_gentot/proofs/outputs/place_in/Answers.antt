use Rattle.std.specs.Prelude.{Ok, Err}
use Rattle.std.proofs.lemmas.List.Sorted.{searched}
use Rattle.pb_gentot.proofs.RisingLists.{rising_monotone, found_is, never_missing}
use Rattle.pb_gentot.proofs.outputs.place_in.Goals as goal

pub returns-in-Ok : goal.returns-in-Ok
returns-in-Ok c =
    let us = c.args.values.now in
    let found = searched us c.args.value (Ok c.in-Ok.place) c.in-Ok.ensures.position (rising_monotone us c.requires.rising) in
    found_is us c.args.value c.in-Ok.place c.requires.rising found.0 found.1

pub returns-in-Err : goal.returns-in-Err
returns-in-Err c =
    let us = c.args.values.now in
    let missing = searched us c.args.value (Err c.in-Err.place) c.in-Err.ensures.position (rising_monotone us c.requires.rising) in
    absurd (never_missing us c.args.value c.in-Err.place c.requires.has missing.1 missing.2)

use Rattle.std.proofs.Common.{None, arith, refl, sym, subst}
use Rattle.std.specs.Prelude.{Some}
use Rattle.pb_base.specs.declared.limit.LimitKind.TheVariants.{Text}
use Rattle.pb_suite.specs.declared.outcome.Outcome.TheVariants as outcome
use Rattle.pb_suite.specs.Seen.{seen_from}
use Rattle.pb_suite.specs.inner.Runs.{IsTooLong, StopsReading}
use Rattle.pb_suite.specs.inner.Runs.RefusesFile.{limit as at_limit}
use Rattle.pb_suite.specs.inner.Runs.StopsReading.{not_read, no_memory, refused}
use Rattle.pb_suite.proofs.Texts.{has_longer}
use Rattle.pb_suite.proofs.reading.read_text.Goals as goal

pub returns-in-Err-Failed-clause-stopped : goal.returns-in-Err-Failed-clause-stopped
returns-in-Err-Failed-clause-stopped g c = not_read (c.in-Err-Failed.ensures.failed cc)

pub returns-in-Err-TooLong-clause-stopped : goal.returns-in-Err-TooLong-clause-stopped
returns-in-Err-TooLong-clause-stopped g c =
    let d = g.D.Desk.state c.fetch.new.desk in
    let a = seen_from d (g.D.Desk.state c.args.desk.now) in
    let file = c.args.file in
    let more = c.in-Err-TooLong.ensures.too_long cc in
    subst (StopsReading file c.args.slot c.args.name.now (IsTooLong file) a (seen_from d d)) (sym c.limited.ensures)
    (refused more.0 _ (at_limit None Text) more.2.reached
    (has_longer a c.args.name.now more.0 (λ text. IsTooLong file text (outcome.Limit (Some file) Text None)) (λ text le. (refl, omega (arith, more.1, le))) more.2.on_shelf))

pub returns-in-Err-NoMemory-clause-stopped : goal.returns-in-Err-NoMemory-clause-stopped
returns-in-Err-NoMemory-clause-stopped g c = let some = c.in-Err-NoMemory.ensures.no_memory cc in no_memory some.0 some.1.reached

pub returns-in-Err-Failed-clause-unended : goal.returns-in-Err-Failed-clause-unended
returns-in-Err-Failed-clause-unended g c = λ is. c.in-Err-Failed.ensures.unended cc

use Rattle.std.proofs.Common.{refl, subst, sym}
use Rattle.std.proofs.lemmas.Result.{IfOk-from_err}
use Rattle.pb_diagram.specs.inner.Known.{AreRuns, intervals_in}
use Rattle.pb_diagram.proofs.KnownFacts.{first_grown, first_runs}
use Rattle.pb_diagram.proofs.known.begin.Goals as goal

pub returns-in_err-push : goal.returns-in_err-push
returns-in_err-push c = record { runs = subst AreRuns (sym c.in_err-push.ensures.items) c.requires.runs; grown = IfOk-from_err _ _ c.from_residual-in_err-push.ensures.0 }

pub returns : goal.returns
returns c =
    let rs = c.args.runs.now.items in
    record {
      runs = first_runs c.push.new.self.items c.in_ok-of.field-0 c.args.interval c.in_ok-of.ensures rs c.requires.none c.in_ok-push.ensures.items c.requires.rises;
      grown = first_grown c.push.new.self.items c.in_ok-of.field-0 c.args.interval c.in_ok-of.ensures rs c.requires.none c.in_ok-push.ensures.items (intervals_in rs) refl;
    }

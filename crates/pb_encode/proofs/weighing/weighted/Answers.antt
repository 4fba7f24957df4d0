use Rattle.std.proofs.lemmas.Result.{IfOk-from_err}
use Rattle.pb_encode.specs.Weighted.WantsForWeighted.{in_text}
use Rattle.pb_encode.proofs.Residuals.{was_answered}
use Rattle.pb_encode.proofs.weighing.weighted.Goals as goal

pub returns-in_err-make_file : goal.returns-in_err-make_file
returns-in_err-make_file g c =
    let err = c.from_residual-in_err-make_file.ensures.0 in
    let given = c.from_residual-in_err-make_file.ensures.1 in
    let was = c.in_err-make_file.was in
    record {
      summary = IfOk-from_err _ _ err;
      encodable = IfOk-from_err _ _ err;
      made = IfOk-from_err _ _ err;
      limit = λ k is. absurd (c.make_file.ensures.limit k (was_answered _ _ _ _ given was is));
      write_fault = λ is. record { encodable = c.in_ok-summary.ensures.encodable; stops = c.make_file.ensures.write_fault (was_answered _ _ _ _ given was is) };
      no_memory = λ is. in_text c.in_ok-summary.ensures.encodable (c.make_file.ensures.no_memory (was_answered _ _ _ _ given was is));
      steady = λ steady is. c.make_file.ensures.steady steady (was_answered _ _ _ _ given was is);
    }

pub returns-clause-summary : goal.returns-clause-summary
returns-clause-summary g c = c.in_ok-summary.ensures.summary

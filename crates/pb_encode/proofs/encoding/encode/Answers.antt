use Rattle.std.proofs.Common.{ap, ◌∙◌}
use Rattle.std.specs.Prelude.{option_copied}
use Rattle.std.proofs.lemmas.Result.{IfOk-from_err}
use Rattle.pb_desk.specs.View.{View}
use Rattle.pb_encode.specs.Encodings.{names_of}
use Rattle.pb_encode.specs.Encodings.Lacks.{for_cnf}
use Rattle.pb_encode.specs.Encodings.StopsEncoding.{in_cnf as stops_in_cnf}
use Rattle.pb_encode.specs.Encodings.WantsMemory.{in_cnf}
use Rattle.pb_encode.proofs.EncodedFiles.{proof_cut_off, proof_lacks, proof_left_off}
use Rattle.pb_encode.proofs.Residuals.{was_answered}
use Rattle.pb_encode.proofs.encoding.encode.Goals as goal

-- ---- the CNF

pub returns-in_err-make_file : goal.returns-in_err-make_file
returns-in_err-make_file g c =
    let err = c.from_residual-in_err-make_file.ensures.0 in
    let given = c.from_residual-in_err-make_file.ensures.1 in
    let was = c.in_err-make_file.was in
    record {
      summary = IfOk-from_err _ _ err;
      encodable = IfOk-from_err _ _ err;
      made = IfOk-from_err _ _ err;
      limit = λ k is. absurd (c.make_file.ensures.limit k (was_answered _ _ _ _ given was is));
      write_fault = λ is. record { encodable = c.in_ok-summary.ensures.encodable; stops = stops_in_cnf (c.make_file.ensures.write_fault (was_answered _ _ _ _ given was is)) };
      no_memory = λ is. in_cnf c.in_ok-summary.ensures.encodable (c.make_file.ensures.no_memory (was_answered _ _ _ _ given was is));
      steady = λ steady is. for_cnf (c.make_file.ensures.steady steady (was_answered _ _ _ _ given was is));
    }

-- ---- the derivation

pub returns-in_err-make_file-2 : goal.returns-in_err-make_file-2
returns-in_err-make_file-2 g c =
    let o = c.args.options.now in
    let p = c.args.problem.now in
    let names = names_of c.args.names.now in
    let a = g.D.Desk.state c.args.desk.now in
    let b = g.D.Desk.state c.make_file.new.desk in
    let d = g.D.Desk.state c.make_file-in-Some.new.desk in
    let err = c.from_residual-in_err-make_file-2.ensures.0 in
    let given = c.from_residual-in_err-make_file-2.ensures.1 in
    let was = c.in_err-make_file-2.was in
    let whole = c.in_ok-make_file.ensures.made in
    let encodable = c.in_ok-summary.ensures.encodable in
    record {
      summary = IfOk-from_err _ _ err;
      encodable = IfOk-from_err _ _ err;
      made = IfOk-from_err _ _ err;
      limit = λ k is. absurd (c.make_file-in-Some.ensures.limit k (was_answered _ _ _ _ given was is));
      write_fault = λ is. proof_cut_off o p names a b c.in-Some.proof.now (ap option_copied c.in-Some.is) whole d encodable (c.make_file-in-Some.ensures.write_fault (was_answered _ _ _ _ given was is));
      no_memory = λ is. proof_left_off o p names a b c.in-Some.proof.now (ap option_copied c.in-Some.is) whole d encodable (c.make_file-in-Some.ensures.no_memory (was_answered _ _ _ _ given was is));
      steady = λ steady is.
          proof_lacks o p names a b c.in-Some.proof.now (ap option_copied c.in-Some.is) whole
          (c.make_file-in-Some.ensures.steady (ap (λ (v : View). v.steady) whole.view ∙ steady) (was_answered _ _ _ _ given was is));
    }

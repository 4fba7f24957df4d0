use Rattle.std.proofs.Common.{arith, sym, subst}
use Rattle.pb_desk.specs.Desk.{DeskState}
use Rattle.pb_encode.specs.Encodings.{derivation_text}
use Rattle.pb_words.specs.declared.request.Request.{Request}
use Rattle.pb_words.specs.Parsed.{wanted_as}
use Rattle.pb_words.specs.inner.Fit.{IsFit}
use Rattle.pb_suite.specs.declared.outcome.Outcome.{Outcome}
use Rattle.pb_suite.specs.Implementing.{Implements}
use Rattle.pb_suite.specs.InTurn.{OpensInTurn}
use Rattle.pb_suite.specs.CommandSpecs.{spec_of}
use Rattle.pb_suite.specs.Seen.{seen_from}
use Rattle.pb_suite.proofs.InTurn.{opens_one}
use Rattle.pb_suite.proofs.SeenLemmas.{closed_seen}
use Rattle.pb_suite.proofs.running.run_request.Goals as goal

-- what is asked for was done, and texts were opened in turn, as it is seen from the end
abbrev IsImplemented : DeskState → DeskState → Outcome → Request → Type 0
IsImplemented a d answer r = Implements (spec_of derivation_text (wanted_as r)) (seen_from d a) (seen_from d d) answer

abbrev OpensAsked : DeskState → DeskState → Request → Type 0
OpensAsked a d r = OpensInTurn (wanted_as r) (seen_from d a) (seen_from d d)

-- ---- what is done

pub encode_file-requires-clause-fit : goal.encode_file-requires-clause-fit
encode_file-requires-clause-fit g c = subst (λ (r : Request). IsFit (wanted_as r)) c.in-Encode.is c.requires.fit

pub returns-in-Encode-clause-implements : goal.returns-in-Encode-clause-implements
returns-in-Encode-clause-implements g c = subst (IsImplemented (g.D.Desk.state c.args.desk.now) (g.D.Desk.state c.encode_file.new.desk) c.encode_file.result) (sym c.in-Encode.is) c.encode_file.ensures.implements

pub returns-in-Check-clause-implements : goal.returns-in-Check-clause-implements
returns-in-Check-clause-implements g c = subst (IsImplemented (g.D.Desk.state c.args.desk.now) (g.D.Desk.state c.check_file.new.desk) c.check_file.result) (sym c.in-Check.is) c.check_file.ensures.implements

pub returns-in-Decode-clause-implements : goal.returns-in-Decode-clause-implements
returns-in-Decode-clause-implements g c = subst (IsImplemented (g.D.Desk.state c.args.desk.now) (g.D.Desk.state c.decode_file.new.desk) c.decode_file.result) (sym c.in-Decode.is) c.decode_file.ensures.implements

pub returns-in-Probe-clause-implements : goal.returns-in-Probe-clause-implements
returns-in-Probe-clause-implements g c = subst (IsImplemented (g.D.Desk.state c.args.desk.now) (g.D.Desk.state c.probe_file.new.desk) c.probe_file.result) (sym c.in-Probe.is) c.probe_file.ensures.implements

pub bench_file-requires-clause-fit : goal.bench_file-requires-clause-fit
bench_file-requires-clause-fit g c = subst (λ (r : Request). IsFit (wanted_as r)) c.in-Bench.is c.requires.fit

pub returns-in-Bench-clause-implements : goal.returns-in-Bench-clause-implements
returns-in-Bench-clause-implements g c = subst (IsImplemented (g.D.Desk.state c.args.desk.now) (g.D.Desk.state c.bench_file.new.desk) c.bench_file.result) (sym c.in-Bench.is) c.bench_file.ensures.implements

pub returns-in-Refute-clause-implements : goal.returns-in-Refute-clause-implements
returns-in-Refute-clause-implements g c = subst (IsImplemented (g.D.Desk.state c.args.desk.now) (g.D.Desk.state c.refute_file.new.desk) c.refute_file.result) (sym c.in-Refute.is) c.refute_file.ensures.implements

pub returns-in-Map-clause-implements : goal.returns-in-Map-clause-implements
returns-in-Map-clause-implements g c = subst (IsImplemented (g.D.Desk.state c.args.desk.now) (g.D.Desk.state c.map_file.new.desk) c.map_file.result) (sym c.in-Map.is) c.map_file.ensures.implements

pub returns-in-Wcnf-clause-implements : goal.returns-in-Wcnf-clause-implements
returns-in-Wcnf-clause-implements g c = subst (IsImplemented (g.D.Desk.state c.args.desk.now) (g.D.Desk.state c.wcnf_file.new.desk) c.wcnf_file.result) (sym c.in-Wcnf.is) c.wcnf_file.ensures.implements

pub returns-in-Optimum-clause-implements : goal.returns-in-Optimum-clause-implements
returns-in-Optimum-clause-implements g c = subst (IsImplemented (g.D.Desk.state c.args.desk.now) (g.D.Desk.state c.optimum_file.new.desk) c.optimum_file.result) (sym c.in-Optimum.is) c.optimum_file.ensures.implements

-- ---- what is opened

pub returns-in-Encode-clause-in_turn : goal.returns-in-Encode-clause-in_turn
returns-in-Encode-clause-in_turn g c =
    let a = g.D.Desk.state c.args.desk.now in
    let d = g.D.Desk.state c.encode_file.new.desk in
    subst (OpensAsked a d) (sym c.in-Encode.is) (opens_one _ (seen_from d a) (seen_from d d) _ (omega arith) (closed_seen a d c.requires.closed) c.encode_file.ensures.implements)

pub returns-in-Check-clause-in_turn : goal.returns-in-Check-clause-in_turn
returns-in-Check-clause-in_turn g c = subst (OpensAsked (g.D.Desk.state c.args.desk.now) (g.D.Desk.state c.check_file.new.desk)) (sym c.in-Check.is) c.check_file.ensures.in_turn

pub returns-in-Decode-clause-in_turn : goal.returns-in-Decode-clause-in_turn
returns-in-Decode-clause-in_turn g c = subst (OpensAsked (g.D.Desk.state c.args.desk.now) (g.D.Desk.state c.decode_file.new.desk)) (sym c.in-Decode.is) c.decode_file.ensures.in_turn

pub returns-in-Probe-clause-in_turn : goal.returns-in-Probe-clause-in_turn
returns-in-Probe-clause-in_turn g c =
    let a = g.D.Desk.state c.args.desk.now in
    let d = g.D.Desk.state c.probe_file.new.desk in
    subst (OpensAsked a d) (sym c.in-Probe.is) (opens_one _ (seen_from d a) (seen_from d d) _ (omega arith) (closed_seen a d c.requires.closed) c.probe_file.ensures.implements)

pub returns-in-Bench-clause-in_turn : goal.returns-in-Bench-clause-in_turn
returns-in-Bench-clause-in_turn g c =
    let a = g.D.Desk.state c.args.desk.now in
    let d = g.D.Desk.state c.bench_file.new.desk in
    subst (OpensAsked a d) (sym c.in-Bench.is) (opens_one _ (seen_from d a) (seen_from d d) _ (omega arith) (closed_seen a d c.requires.closed) c.bench_file.ensures.implements)

pub returns-in-Refute-clause-in_turn : goal.returns-in-Refute-clause-in_turn
returns-in-Refute-clause-in_turn g c = subst (OpensAsked (g.D.Desk.state c.args.desk.now) (g.D.Desk.state c.refute_file.new.desk)) (sym c.in-Refute.is) c.refute_file.ensures.in_turn

pub returns-in-Map-clause-in_turn : goal.returns-in-Map-clause-in_turn
returns-in-Map-clause-in_turn g c =
    let a = g.D.Desk.state c.args.desk.now in
    let d = g.D.Desk.state c.map_file.new.desk in
    subst (OpensAsked a d) (sym c.in-Map.is) (opens_one _ (seen_from d a) (seen_from d d) _ (omega arith) (closed_seen a d c.requires.closed) c.map_file.ensures.implements)

pub returns-in-Wcnf-clause-in_turn : goal.returns-in-Wcnf-clause-in_turn
returns-in-Wcnf-clause-in_turn g c =
    let a = g.D.Desk.state c.args.desk.now in
    let d = g.D.Desk.state c.wcnf_file.new.desk in
    subst (OpensAsked a d) (sym c.in-Wcnf.is) (opens_one _ (seen_from d a) (seen_from d d) _ (omega arith) (closed_seen a d c.requires.closed) c.wcnf_file.ensures.implements)

pub returns-in-Optimum-clause-in_turn : goal.returns-in-Optimum-clause-in_turn
returns-in-Optimum-clause-in_turn g c = subst (OpensAsked (g.D.Desk.state c.args.desk.now) (g.D.Desk.state c.optimum_file.new.desk)) (sym c.in-Optimum.is) c.optimum_file.ensures.in_turn

use Rattle.std.proofs.Common.{◌∙◌, Err, [], ap, inl, refl}
use Rattle.pb_words.specs.EncodeWords.{as_encode_words}
use Rattle.pb_encode.specs.Encodings.{derivation_text}
use Rattle.pb_suite.specs.EncodeSpec.{names_in, encode_spec}
use Rattle.pb_suite.specs.Denoted.{Denotes}
use Rattle.pb_suite.specs.Seen.{seen_from}
use Rattle.pb_suite.proofs.SeenLemmas.{stays_then, writing_seen}
use Rattle.pb_suite.proofs.SeenSteps.{fetched_seen, stored_stays, storing_seen, telling_desk, text_on}
use Rattle.pb_suite.proofs.Going.{keeps}
use Rattle.pb_suite.proofs.EncodeSpecs.{encoded_due, names_differ, over_due}
use Rattle.pb_suite.proofs.Posed.{goes_on, posed, read_first, unread_ends}
use Rattle.pb_suite.proofs.Stores.{storing_implements}
use Rattle.pb_suite.proofs.commands.encode.encode_file.Goals as goal

pub returns-in-Err-clause-implements : goal.returns-in-Err-clause-implements
returns-in-Err-clause-implements g c =
    let w = as_encode_words c.args.asked.now in
    unread_ends (encode_spec derivation_text w) w.opb [] refl w.bound (λ shelf answer is. inl is) c.in-Err.outcome c.in-Err.ensures.stopped (λ steady is. c.in-Err.ensures.steady steady (ap Err is)) (λ is. c.in-Err.ensures.unended (ap Err is)) (λ keeps unended. unended)

pub returns-in-Ok-clause-implements : goal.returns-in-Ok-clause-implements
returns-in-Ok-clause-implements g c =
    let w = as_encode_words c.args.asked.now in
    let p = c.in-Ok.problem in
    let a = g.D.Desk.state c.args.desk.now in
    let b = g.D.Desk.state c.read_problem.new.desk in
    let d = g.D.Desk.state c.store.new.desk in
    let before = (stored_stays w.options p (names_in w) b d c.store.result c.store.ensures).kept in
    let read = fetched_seen 0 w.opb a b d c.in-Ok.ensures.read in
    let denoted = posed (encode_spec derivation_text w) w.opb [] refl w.bound read p (text_on w.opb (λ text. Denotes w.bound text p) a b d before c.in-Ok.ensures.denotes) in
    read_first (encode_spec derivation_text w) w.opb [] refl w.bound read _ _
    (storing_implements (encode_spec derivation_text w) w.options p (names_in w) (seen_from d b) (seen_from d d) (telling_desk b d (g.met.D.Desk.steady_tells c.read_problem.new.desk)) (names_differ w c.requires.fit) (encoded_due w p (seen_from d b) denoted) (over_due w p (seen_from d b) denoted)
    (λ slot. keeps _ _ (goes_on (encode_spec derivation_text w) w.opb [] refl w.bound read) slot ∙ writing_seen slot a d (c.requires.closed.writing slot)) c.store.result (storing_seen w.options p (names_in w) b d c.store.result c.store.ensures))

pub returns-in-Ok-clause-stays : goal.returns-in-Ok-clause-stays
returns-in-Ok-clause-stays g c =
    let w = as_encode_words c.args.asked.now in
    let b = g.D.Desk.state c.read_problem.new.desk in
    let d = g.D.Desk.state c.store.new.desk in
    stays_then (g.D.Desk.state c.args.desk.now) b d c.in-Ok.ensures.stays (stored_stays w.options c.in-Ok.problem (names_in w) b d c.store.result c.store.ensures)

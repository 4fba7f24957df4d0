use Rattle.std.proofs.Common.{ℕ, List, Option, None, ap, subst, sym}
use Rattle.pb_base.specs.Defaults.{default_options}
use Rattle.pb_base.specs.declared.options.Options.{Options}
use Rattle.pb_words.specs.BenchWords.{as_bench_words}
use Rattle.pb_suite.specs.BenchSpec.{bench_output, bench_spec}
use Rattle.pb_encode.specs.Encodings.{derivation_text, FileNames}
use Rattle.pb_suite.specs.EncodeSpec.{encoded_output}
use Rattle.pb_suite.specs.inner.Runs.{EndsStoring}
use Rattle.pb_suite.specs.Seen.{seen_from}
use Rattle.pb_suite.proofs.SeenLemmas.{writing_seen}
use Rattle.pb_suite.proofs.SeenSteps.{stored_stays, storing_seen, telling_desk}
use Rattle.pb_suite.proofs.BenchSpecs.{bench_due, bench_over}
use Rattle.pb_suite.proofs.Stores.{storing_implements}
use Rattle.pb_suite.proofs.commands.bench.store_generated.Goals as goal

pub returns-clause-implements : goal.returns-clause-implements
returns-clause-implements g c =
    let w = as_bench_words c.args.asked.now in
    let p = c.args.problem.now in
    let name = c.args.name.now in
    let a = g.D.Desk.state c.args.desk.now in
    let b = g.D.Desk.state c.store.new.desk in
    let names : FileNames = record { cnf = name; proof = None } in
    storing_implements (bench_spec w) default_options p names (seen_from b a) (seen_from b b) (telling_desk a b (g.met.D.Desk.steady_tells c.args.desk.now)) (λ e. cc)
    (bench_due w p (seen_from b a) c.requires.reads (encoded_output derivation_text names default_options p) (ap (λ (n : Option (List ℕ)). bench_output n p) (sym c.requires.named)))
    (bench_over w p (seen_from b a) c.requires.reads)
    (λ slot. writing_seen slot a b (c.requires.closed.writing slot)) c.store.result (storing_seen default_options p names a b c.store.result (subst (λ (o : Options). EndsStoring o p names a b c.store.result) c.default.ensures c.store.ensures))

pub returns-clause-stays : goal.returns-clause-stays
returns-clause-stays g c = stored_stays _ _ _ _ _ _ c.store.ensures

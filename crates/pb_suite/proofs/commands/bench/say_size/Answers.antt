use Rattle.pb_encode.specs.BoundLines.{words_of}
use Rattle.std.proofs.Common.{ℕ, List, Option, None, Err, ap, subst, sym}
use Rattle.pb_base.specs.declared.limit.LimitKind.{LimitKind}
use Rattle.pb_base.specs.declared.options.Options.{Options}
use Rattle.pb_base.specs.Defaults.{default_options}
use Rattle.pb_encode.specs.Summaries.{IsOver}
use Rattle.pb_words.specs.BenchWords.{as_bench_words}
use Rattle.pb_suite.specs.declared.outcome.Outcome.TheVariants as outcome
use Rattle.pb_suite.specs.Implementing.{Implements}
use Rattle.pb_suite.specs.Outputs.{only_words}
use Rattle.pb_suite.specs.BenchSpec.{bench_output, bench_spec}
use Rattle.pb_suite.specs.inner.Saying.{EndsTelling}
use Rattle.pb_suite.specs.Seen.{seen_from}
use Rattle.pb_suite.proofs.SeenLemmas.{stays_same}
use Rattle.pb_suite.proofs.SeenSteps.{telling_desk, telling_seen, told_stays}
use Rattle.pb_suite.proofs.Endings.{bare_memory, is_refused}
use Rattle.pb_suite.proofs.Going.{stays}
use Rattle.pb_suite.proofs.BenchSpecs.{bench_due, bench_over}
use Rattle.pb_suite.proofs.Says.{telling_implements}
use Rattle.pb_suite.proofs.commands.bench.say_size.Goals as goal

pub returns-in-Err-NoMemory-clause-implements : goal.returns-in-Err-NoMemory-clause-implements
returns-in-Err-NoMemory-clause-implements g c = bare_memory (bench_spec (as_bench_words c.args.asked.now)) (seen_from (g.D.Desk.state c.args.desk.now) (g.D.Desk.state c.args.desk.now)) (seen_from (g.D.Desk.state c.args.desk.now) (g.D.Desk.state c.args.desk.now)) (stays 0 (seen_from (g.D.Desk.state c.args.desk.now) (g.D.Desk.state c.args.desk.now)))

pub returns-in-Err-Limit-clause-implements : goal.returns-in-Err-Limit-clause-implements
returns-in-Err-Limit-clause-implements g c =
    let w = as_bench_words c.args.asked.now in
    let p = c.args.problem.now in
    let a = seen_from (g.D.Desk.state c.args.desk.now) (g.D.Desk.state c.args.desk.now) in
    let which = c.in-Err-Limit.which in
    let over = subst (λ (o : Options). IsOver which o p) c.default-options.ensures (c.in-Err-Limit.ensures.limit which (ap Err c.in-Err-Limit.field-0-is)) in
    subst (λ (k : LimitKind). Implements (bench_spec w) a a (outcome.Limit None k None)) (sym c.in-Err-Limit.which-is)
    (is_refused (bench_spec w) a a (outcome.Limit None which None) (stays 0 a) tt (bench_over w p a c.requires.reads which over))

pub say_summary-requires-clause-encodable : goal.say_summary-requires-clause-encodable
say_summary-requires-clause-encodable g c = c.in-Ok.ensures.encodable

pub say_summary-requires-clause-summary : goal.say_summary-requires-clause-summary
say_summary-requires-clause-summary g c = c.in-Ok.ensures.summary

pub returns-in-Ok-clause-implements : goal.returns-in-Ok-clause-implements
returns-in-Ok-clause-implements g c =
    let w = as_bench_words c.args.asked.now in
    let p = c.args.problem.now in
    let a = g.D.Desk.state c.args.desk.now in
    let d = g.D.Desk.state c.say_summary.new.desk in
    let line = words_of default_options p in
    let told = subst (λ (o : Options). EndsTelling (words_of o p) a d c.say_summary.result) c.default-options.ensures c.say_summary.ensures in
    let due = bench_due w p (seen_from d a) c.requires.reads (only_words line) (ap (λ (n : Option (List ℕ)). bench_output n p) (sym c.requires.unnamed)) (rw (sym c.default-options.ensures) c.in-Ok.ensures.encodable) in
    telling_implements (bench_spec w) line (seen_from d a) (seen_from d d) (telling_desk a d (g.met.D.Desk.steady_tells c.args.desk.now)) due c.say_summary.result (telling_seen line a d c.say_summary.result told)

-- ---- what stays

pub returns-in-Err-NoMemory-clause-stays : goal.returns-in-Err-NoMemory-clause-stays
returns-in-Err-NoMemory-clause-stays g c = stays_same (g.D.Desk.state c.args.desk.now)

pub returns-in-Err-Limit-clause-stays : goal.returns-in-Err-Limit-clause-stays
returns-in-Err-Limit-clause-stays g c = stays_same (g.D.Desk.state c.args.desk.now)

pub returns-in-Ok-clause-stays : goal.returns-in-Ok-clause-stays
returns-in-Ok-clause-stays g c = told_stays _ _ _ _ c.say_summary.ensures

use Rattle.std.proofs.Common.{refl}
use Rattle.pb_desk.specs.Desk.{same}
use Rattle.pb_desk.proofs.Steps.{begin}
use Rattle.pb_words.specs.BenchWords.{as_bench_words}
use Rattle.pb_suite.specs.Outputs.{nothing}
use Rattle.pb_suite.specs.BenchSpec.{bench_spec}
use Rattle.pb_suite.specs.Seen.{seen_from}
use Rattle.pb_suite.proofs.Endings.{bare_memory}
use Rattle.pb_suite.proofs.Going.{by_same, goes_by}
use Rattle.pb_suite.proofs.SeenLemmas.{stays_same}
use Rattle.pb_suite.proofs.commands.bench.bench_file.Goals as goal

pub returns-in_default-clause-implements : goal.returns-in_default-clause-implements
returns-in_default-clause-implements g c =
    let a = seen_from (g.D.Desk.state c.args.desk.now) (g.D.Desk.state c.args.desk.now) in
    bare_memory (bench_spec (as_bench_words c.args.asked.now)) a a (goes_by 0 nothing same a a (by_same 0) (begin same a (λ v. refl)))

pub returns-in_default-clause-stays : goal.returns-in_default-clause-stays
returns-in_default-clause-stays g c = stays_same (g.D.Desk.state c.args.desk.now)

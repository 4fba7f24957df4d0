-- What is due of a generated text.
use Rattle.std.proofs.Common.{◌≡◌, None}
use Rattle.pb_base.specs.declared.limit.LimitKind.{LimitKind}
use Rattle.pb_base.specs.declared.problem.Problem.{Problem}
use Rattle.pb_base.specs.Defaults.{default_options}
use Rattle.pb_desk.specs.Desk.{DeskState, IfTold}
use Rattle.pb_encode.specs.Summaries.{IsEncodable, IsOver}
use Rattle.pb_gen.specs.Generated.{generated}
use Rattle.pb_opb.specs.Faults.{Reads}
use Rattle.pb_words.specs.BenchWords.{BenchWords}
use Rattle.pb_suite.specs.declared.outcome.Outcome.TheVariants as outcome
use Rattle.pb_suite.specs.Outputs.{Output}
use Rattle.pb_suite.specs.BenchSpec.{bench_output, bench_spec}
use Rattle.pb_suite.specs.EncodeSpec.PassesLimit.{over}
use Rattle.pb_suite.proofs.Endings.{always}

module _ (w : BenchWords) (p : Problem) (b : DeskState) (reads : Reads (generated w.count w.seed) p) where
  pub bench_due : (out : Output) → out ≡ bench_output w.cnf p → IsEncodable default_options p → IfTold b (λ t. (bench_spec w).done t.shelf out)
  bench_due out is encodable = always b (λ t. (bench_spec w).done t.shelf out) (λ t. (p, reads, encodable, is))

  pub bench_over : (which : LimitKind) → IsOver which default_options p → IfTold b (λ t. (bench_spec w).stops t.shelf (outcome.Limit None which None))
  bench_over which is = always b (λ t. (bench_spec w).stops t.shelf (outcome.Limit None which None)) (λ t. over p which reads is)

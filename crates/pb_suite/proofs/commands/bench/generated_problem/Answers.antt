use Rattle.std.proofs.Common.{◌≡◌, ◌≤◌, ◌^◌, ◌∙◌, ℕ, List, subst}
use Rattle.pb_opb.specs.declared.fault.OpbFault.{OpbFault}
use Rattle.pb_opb.specs.declared.fault.OpbFault.TheVariants.{NoMemory}
use Rattle.pb_opb.specs.Faults.{IsFirstFault, Reads}
use Rattle.pb_opb.proofs.Reading.{reads-no_fault}
use Rattle.pb_gen.specs.Generated.{generated, generated_problem}
use Rattle.pb_gen.proofs.Reading.{generated_reads}
use Rattle.pb_suite.proofs.commands.bench.generated_problem.Goals as goal

pub returns-in-Ok-clause-reads : goal.returns-in-Ok-clause-reads
returns-in-Ok-clause-reads c = subst (λ (text : List ℕ). Reads text c.in-Ok.problem) (c.as_slice.ensures ∙ c.in_ok-text.ensures) c.in-Ok.ensures.reads

-- the only fault that a generated text may be given
only_memory : (n seed : ℕ) (text : List ℕ) (fault : OpbFault) → n ≤ 2 ^ 24 → text ≡ generated n seed → IsFirstFault text fault → fault ≡ NoMemory
only_memory n seed text fault few is first = reads-no_fault (generated n seed) (generated_problem n seed) fault (generated_reads n seed few) (subst (λ (t : List ℕ). IsFirstFault t fault) is first)

pub unreachable-requires : goal.unreachable-requires
unreachable-requires c =
    let memory : c.in-Err-Token.field-0 ≡ NoMemory = only_memory c.args.count c.args.seed c.as_slice.result.now c.in-Err-Token.field-0 c.requires (c.as_slice.ensures ∙ c.in_ok-text.ensures) c.in-Err-Token.ensures.fault in
    cc

pub unreachable-requires-in-Err-Limit : goal.unreachable-requires-in-Err-Limit
unreachable-requires-in-Err-Limit c =
    let memory : c.in-Err-Limit.field-0 ≡ NoMemory = only_memory c.args.count c.args.seed c.as_slice.result.now c.in-Err-Limit.field-0 c.requires (c.as_slice.ensures ∙ c.in_ok-text.ensures) c.in-Err-Limit.ensures.fault in
    cc

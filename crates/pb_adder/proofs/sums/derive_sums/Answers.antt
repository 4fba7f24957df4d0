use Rattle.std.proofs.Common.{◌≡◌, ◌<◌, ◌∙◌, ◌^◌, refl, sym, ap, arith}
use Rattle.pb_family.proofs.Deriving.{deriving_from, deriving_as, deriving_ends}
use Rattle.pb_adder.specs.AdderSteps.{blocks, last_sum}
use Rattle.pb_adder.proofs.SumSteps.{block_counted, block_fault, block_taken, last_moved, left_all, left_sums}
use Rattle.pb_adder.proofs.Walks.{no_blocks}
use Rattle.pb_adder.proofs.sums.derive_sums.Goals as goal

pub loop-rest-init : goal.loop-rest-init
loop-rest-init g c = record {
  steps = (let old = g.T.StepSink.state c.args.sink.now in deriving_from old (left_all c.args.of.id c.args.running old.next (blocks c.args.of.levels.now)));
  last = refl;
  next = omega arith;
  given = c.requires.given;
}

pub first_block-requires : goal.first_block-requires
first_block-requires g c = omega (arith, c.loop-rest-test.true)

pub derive_next_sum-requires : goal.derive_next_sum-requires
derive_next_sum-requires g c = record { some = c.first_block.ensures.some; few = c.first_block.ensures.few; given = c.loop-rest.invariant.given; room = omega (arith, c.loop-rest.invariant.next, c.loop-rest-test.true, c.requires.room) }

pub returns-in_err-derive_next_sum-clause-steps : goal.returns-in_err-derive_next_sum-clause-steps
returns-in_err-derive_next_sum-clause-steps g c =
    let rest = c.loop-rest.rest in
    let block = c.first_block.result.0 in
    block_fault c.loop-rest.is_later rest.id c.loop-rest.running rest.levels.now block.levels.now c.first_block.result.1.levels.now c.first_block.ensures.split c.loop-rest.invariant.steps block.id c.first_block.ensures.id
    c.from_residual.result _ (g.T.StepSink.state c.derive_next_sum.new.sink) c.from_residual.ensures.1 c.in_err-derive_next_sum.ensures

pub loop-rest-preserved : goal.loop-rest-preserved
loop-rest-preserved g c =
    let now = g.T.StepSink.state c.loop-rest.sink in
    let after = g.T.StepSink.state c.derive_next_sum.new.sink in
    let rest = c.loop-rest.rest in
    let block = c.first_block.result.0 in
    let later = c.first_block.result.1 in
    let split = c.first_block.ensures.split in
    let running = c.loop-rest.running in
    let is_later = c.loop-rest.is_later in
    let next = c.next_id-next.result in
    let handed = c.in_ok-derive_next_sum.ensures in
    let same : now.next ≡ next = sym c.next_id-next.ensures in
    let one = block_counted is_later rest.id running rest.levels.now block.levels.now later.levels.now split c.loop-rest.invariant.steps block.id c.first_block.ensures.id after handed in
    record {
      steps = block_taken is_later rest.id running rest.levels.now block.levels.now later.levels.now split c.loop-rest.invariant.steps block.id c.first_block.ensures.id later.id next after same c.first_block.ensures.later handed;
      last = c.loop-rest.invariant.last ∙ last_moved running now.next next after.next rest.levels.now block.levels.now later.levels.now split same one;
      next = omega (arith, one, c.loop-rest.invariant.next, c.first_block.ensures.size, c.first_block.ensures.some);
      given = (let h : next < 2 ^ 62 = omega (arith, same, c.loop-rest.invariant.next, c.loop-rest-test.true, c.requires.room) in h);
    }

pub returns-clause-steps : goal.returns-clause-steps
returns-clause-steps g c =
    let now = g.T.StepSink.state c.loop-rest.sink in
    let rest = c.loop-rest.rest in
    deriving_ends (deriving_as (ap (left_sums c.loop-rest.is_later rest.id c.loop-rest.running now.next) (no_blocks rest.levels.now (omega (arith, c.loop-rest-test.false)))) c.loop-rest.invariant.steps)

pub returns-clause-last : goal.returns-clause-last
returns-clause-last g c =
    let now = g.T.StepSink.state c.loop-rest.sink in
    sym (c.loop-rest.invariant.last ∙ ap (last_sum c.loop-rest.running now.next) (no_blocks c.loop-rest.rest.levels.now (omega (arith, c.loop-rest-test.false))))

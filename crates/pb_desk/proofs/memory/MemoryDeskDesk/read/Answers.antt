use Rattle.std.proofs.Common.{arith, refl, ap}
use Rattle.pb_desk.specs.MemoryState.{is_nil, state_of, desk_told}
use Rattle.pb_desk.proofs.Slots.{moved}
use Rattle.pb_desk.proofs.memory.MemoryDeskDesk.read.Goals as goal

pub returns-clause-ok : goal.returns-clause-ok
unfolding state_of
returns-clause-ok c = record {
  view = moved c.args.self.now.shelf c.args.self.now.reading c.args.slot c.min-count.result c.in-Some.reading (state_of c.args.self.now).view (desk_told c.args.self.now) (is_nil c.is_failing.new.self.fails) c.in-Some.is (omega arith) (ap is_nil c.is_failing.ensures.same);
  tells = refl;
  reads = omega arith;
  writes = omega arith;
  kept = λ k. k;
}

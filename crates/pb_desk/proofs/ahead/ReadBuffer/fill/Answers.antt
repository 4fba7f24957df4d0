use Rattle.std.proofs.Common.{◌∙◌, ◌-◌, ap, arith, length}
use Rattle.std.proofs.lemmas.List.{with_items_is}
use Rattle.pb_desk.proofs.Fills.{filled-taken, filled-bytes, filled-end}
use Rattle.pb_desk.proofs.ahead.ReadBuffer.fill.Goals as goal

pub returns-clause-taken : goal.returns-clause-taken
returns-clause-taken g c =
    filled-taken c.args.slot (c.in_ok-count.count - 0) c.in_ok-count.count _ c.read.new.room (g.D.Desk.state c.args.desk.now) (g.D.Desk.state c.read.new.self) (omega arith) (with_items_is c.self.inside.room c.read.new.room (c.read.auto.room ∙ c.as_mut_slice.ensures.len)) c.in_ok-count.ensures.count c.in_ok-count.ensures.ok c.in_ok-count.ensures.bytes

pub returns-clause-bytes : goal.returns-clause-bytes
returns-clause-bytes g c =
    filled-bytes c.args.slot (c.in_ok-count.count - 0) c.in_ok-count.count _ c.read.new.room (g.D.Desk.state c.args.desk.now) (g.D.Desk.state c.read.new.self) (omega arith) (with_items_is c.self.inside.room c.read.new.room (c.read.auto.room ∙ c.as_mut_slice.ensures.len)) c.in_ok-count.ensures.count c.in_ok-count.ensures.bytes

pub returns-clause-end : goal.returns-clause-end
returns-clause-end g c =
    filled-end c.args.slot (c.in_ok-count.count - 0) c.in_ok-count.count _ c.read.new.room (g.D.Desk.state c.args.desk.now) (g.D.Desk.state c.read.new.self) (omega arith) (with_items_is c.self.inside.room c.read.new.room (c.read.auto.room ∙ c.as_mut_slice.ensures.len)) c.in_ok-count.ensures.count (omega (arith, c.self.invariant, c.read.auto.room, ap length c.as_mut_slice.ensures.value)) c.in_ok-count.ensures.bytes

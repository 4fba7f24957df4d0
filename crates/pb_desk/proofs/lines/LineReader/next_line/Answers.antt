use Rattle.std.proofs.Common.{arith}
use Rattle.pb_desk.proofs.Nexts.{gives_nothing, gives_last, gives_ended, stops_reader}
use Rattle.pb_desk.proofs.lines.LineReader.next_line.Goals as goal

pub returns-in-Ok-Nothing-clause-line : goal.returns-in-Ok-Nothing-clause-line
returns-in-Ok-Nothing-clause-line g c = λ _.
    gives_nothing _ c.args.self.now c.in-Ok-Nothing.field-0 c.read_line.new.ahead c.read_line.new.line.items (g.D.Desk.state c.args.desk.now) (g.D.Desk.state c.read_line.new.desk) c.self.view_is c.in-Ok-Nothing.field-0-is c.in-Ok-Nothing.ensures.fits c.in-Ok-Nothing.ensures.found

pub returns-in-Ok-Last-clause-line : goal.returns-in-Ok-Last-clause-line
returns-in-Ok-Last-clause-line g c = λ _.
    gives_last _ c.args.self.now c.in-Ok-Last.field-0 c.read_line.new.ahead c.read_line.new.line.items c.len.result (g.D.Desk.state c.args.desk.now) (g.D.Desk.state c.read_line.new.desk) c.self.view_is c.in-Ok-Last.field-0-is (omega (arith, c.len.ensures)) c.in-Ok-Last.ensures.found

pub returns-in-Ok-Ended-clause-line : goal.returns-in-Ok-Ended-clause-line
returns-in-Ok-Ended-clause-line g c = λ _.
    gives_ended _ c.args.self.now c.in-Ok-Ended.field-0 c.read_line.new.ahead c.read_line.new.line.items c.len-in-Ok-Ended.result (g.D.Desk.state c.args.desk.now) (g.D.Desk.state c.read_line.new.desk) c.self.view_is c.in-Ok-Ended.field-0-is (omega (arith, c.len-in-Ok-Ended.ensures)) c.in-Ok-Ended.ensures.found

pub returns-in-Err-clause-stopped : goal.returns-in-Err-clause-stopped
returns-in-Err-clause-stopped g c = λ _.
    stops_reader _ c.args.self.now c.in-Err.stop c.fault_at-fault.result c.read_line.new.ahead c.read_line.new.line.items (g.D.Desk.state c.args.desk.now) (g.D.Desk.state c.read_line.new.desk) c.self.view_is c.fault_at-fault.ensures c.in-Err.ensures.stopped

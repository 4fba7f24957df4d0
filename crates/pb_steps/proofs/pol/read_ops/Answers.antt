use Rattle.pb_steps.proofs.Aheads.{told, begun, behind, beyond, ended, fewer_behind, fewer_beyond}
use Rattle.pb_steps.proofs.pol.read_ops.Goals as goal

pub ops-init : goal.ops-init
ops-init c = begun c.args.words c.new-ops.result c.next-ahead.result c.next-ahead.new.self c.new-ops.ensures c.next-ahead.ensures.steps

pub ops-smaller-then-takes : goal.ops-smaller-then-takes
ops-smaller-then-takes c = fewer_beyond c.ops.ahead c.ops.words c.in-Some.word c.next-ahead-in-Some.result c.next-ahead-in-Some.new.self c.next-ahead-then-takes.result c.next-ahead-then-takes.new.self c.in-Some.is c.next-ahead-in-Some.ensures.steps c.next-ahead-then-takes.ensures.steps

pub ops-preserved-then-takes : goal.ops-preserved-then-takes
ops-preserved-then-takes c = beyond c.args.words c.ops.ops c.push.new.self c.ops.ahead c.ops.words c.in-Some.word c.next-ahead-in-Some.result c.next-ahead-in-Some.new.self c.in_ok-op.op c.in_ok-op.takes c.next-ahead-then-takes.result c.next-ahead-then-takes.new.self c.ops.invariant c.in-Some.is c.next-ahead-in-Some.ensures.steps (told c.in-Some.word c.text_of.result.now c.next-ahead-in-Some.result c.op_of.result (c.in_ok-op.op, c.in_ok-op.takes) c.text_of.ensures c.op_of.ensures c.in_ok-op.was) c.in_ok-push.ensures.ok c.if-takes.true c.next-ahead-then-takes.ensures.steps

pub ops-smaller : goal.ops-smaller
ops-smaller c = fewer_behind c.ops.ahead c.ops.words c.in-Some.word c.next-ahead-in-Some.result c.next-ahead-in-Some.new.self c.in-Some.is c.next-ahead-in-Some.ensures.steps

pub ops-preserved : goal.ops-preserved
ops-preserved c = behind c.args.words c.ops.ops c.push.new.self c.ops.ahead c.ops.words c.in-Some.word c.next-ahead-in-Some.result c.next-ahead-in-Some.new.self c.in_ok-op.op c.in_ok-op.takes c.ops.invariant c.in-Some.is c.next-ahead-in-Some.ensures.steps (told c.in-Some.word c.text_of.result.now c.next-ahead-in-Some.result c.op_of.result (c.in_ok-op.op, c.in_ok-op.takes) c.text_of.ensures c.op_of.ensures c.in_ok-op.was) c.in_ok-push.ensures.ok c.if-takes.false

pub returns-clause-ok : goal.returns-clause-ok
returns-clause-ok c = ended c.args.words c.ops.ops c.ops.ahead c.ops.words c.ops.invariant c.in_default.is

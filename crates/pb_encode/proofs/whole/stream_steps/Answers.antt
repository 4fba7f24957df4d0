use Rattle.pb_encode.specs.Groups.{groups_of}
use Rattle.pb_encode.proofs.Hinting.{hints_none}
use Rattle.pb_encode.proofs.whole.stream_steps.Goals as goal

pub invariant_of-input : goal.invariant_of-input
invariant_of-input g c = record { within = c.requires.within; encodable = c.requires.encodable; told = hints_none c.args.options.now (groups_of c.args.problem.now) }

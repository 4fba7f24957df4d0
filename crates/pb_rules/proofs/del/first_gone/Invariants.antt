use Rattle.std.proofs.Common.{◌≡◌, drop, take}
use Rattle.pb_steps.specs.Database.{without}
use Rattle.pb_steps.specs.Denials.{first_gone}
use Rattle.pb_rules.proofs.Gone.{HasListed}
use Rattle.pb_rules.proofs.del.first_gone.Given as goal

abbrev pub invariant-loop-id : goal.invariant-loop-id
invariant-loop-id l = record {
  same : first_gone l.db.live l.ids ≡ first_gone (without (take l.id-index l.ids) l.db.live) (drop l.id-index l.ids);
  listed : HasListed (take l.id-index l.ids) l.before;
}

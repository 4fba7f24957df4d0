use Rattle.std.proofs.Common.{◌≡◌, ◌∷◌, ◌+◌, sym, subst, arith}
use Rattle.pb_base.specs.Problems.{originals}
use Rattle.pb_family.proofs.Deriving.{steps_lack}
use Rattle.pb_encode.specs.Groups.{groups_of}
use Rattle.pb_encode.specs.inner.Hints.{AreHintsOf}
use Rattle.pb_encode.proofs.Hinting.{gone_begin, gone_few, gone_here, gone_more, groups_few}
use Rattle.pb_encode.proofs.SoundGroups.{groups_sound}
use Rattle.pb_encode.proofs.TableStreams.{front_ready}
use Rattle.pb_encode.proofs.StepPositions.{positions_begin, positions_more, positions_ready, positions_stop}
use Rattle.pb_encode.proofs.derivation.derive_loaded.Goals as goal

pub loop-groups-init : goal.loop-groups-init
loop-groups-init g c =
    let e = c.args.input.now in
    let o = e.options.now in
    let p = e.problem.now in
    record {
      turns = positions_begin o (originals p + 1) 1 (c.originals.result + 1) (groups_of p) c.of-groups.result (g.T.StepSink.state c.args.sink.now) (omega (arith, c.originals.ensures)) c.of-groups.ensures (groups_sound o p (originals p + 1) e.within (omega arith));
      gone = gone_begin (groups_of p) c.of-groups.result c.of-hints.result.place c.of-groups.ensures c.of-hints.ensures.first (groups_few p e.within);
      told = subst (AreHintsOf o (groups_of p)) (sym c.of-hints.ensures.hints) e.told;
    }

pub returns-in_err-group-clause-hands : goal.returns-in_err-group-clause-hands
returns-in_err-group-clause-hands g c = steps_lack c.from_residual.result c.from_residual.ensures.1 c.loop-groups.invariant.turns.handed

pub next-told-requires : goal.next-told-requires
next-told-requires g c =
    let parts : c.loop-groups.groups ≡ c.in-Some.group ∷ c.next.new.self = rw c.in-Some.is at c.in_ok-group.ensures.some in
    record { few = gone_few c.in-Some.group c.next.new.self parts c.loop-groups.invariant.gone }

pub derive_group-requires : goal.derive_group-requires
derive_group-requires g c =
    let l = c.loop-groups in
    let a = g.T.StepSink.state c.args.sink.now in
    let parts : l.groups ≡ c.in-Some.group ∷ c.next.new.self = rw c.in-Some.is at c.in_ok-group.ensures.some in
    let ready = positions_ready c.in-Some.group c.next.new.self parts l.invariant.turns
    (front_ready c.args.input.now.options.now c.args.input.now.problem.now c.args.input.now.within c.args.input.now.encodable a a c.requires.next) in
    record {
      told = c.next-told.ensures.told c.args.input.now.options.now (groups_of c.args.input.now.problem.now) c.next.new.self c.in-Some.group (gone_here c.in-Some.group c.next.new.self parts l.invariant.gone) l.invariant.told;
      sound = ready.sound;
      turn = ready.turn;
    }

pub returns-in_err-next-clause-hands : goal.returns-in_err-next-clause-hands
returns-in_err-next-clause-hands g c =
    let parts : c.loop-groups.groups ≡ c.in-Some.group ∷ c.next.new.self = rw c.in-Some.is at c.in_ok-group.ensures.some in
    positions_stop c.in-Some.group c.next.new.self parts c.loop-groups.invariant.turns (g.T.StepSink.state c.derive_group.new.sink) c.from_residual-in_err-next.result c.in_err-next.field-0.0
    c.from_residual-in_err-next.ensures.1 c.in_err-next.ensures.hands

pub loop-groups-preserved : goal.loop-groups-preserved
loop-groups-preserved g c =
    let parts : c.loop-groups.groups ≡ c.in-Some.group ∷ c.next.new.self = rw c.in-Some.is at c.in_ok-group.ensures.some in
    record {
      turns = positions_more c.in-Some.group c.next.new.self parts c.loop-groups.invariant.turns c.in_ok-next.next.first c.in_ok-next.next.id (g.T.StepSink.state c.derive_group.new.sink)
          c.in_ok-next.ensures.first c.in_ok-next.ensures.id c.in_ok-next.ensures.hands;
      gone = gone_more c.in-Some.group c.next.new.self parts c.loop-groups.invariant.gone c.next-told.new.self.place c.next-told.ensures.next;
      told = c.next-told.ensures.left c.args.input.now.options.now (groups_of c.args.input.now.problem.now) c.loop-groups.invariant.told;
    }

pub invariant_of-next : goal.invariant_of-next
invariant_of-next g c = record { low = omega (arith, c.loop-groups.invariant.turns.later); given = omega (arith, c.loop-groups.invariant.turns.known) }

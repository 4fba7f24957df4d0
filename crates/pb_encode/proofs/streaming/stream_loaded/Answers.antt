use Rattle.std.proofs.Common.{◌≡◌, ◌+◌, ◌∷◌, ◌∙◌, List, ap, sym, subst, arith}
use Rattle.pb_base.specs.Problems.{originals}
use Rattle.pb_family.proofs.Stopping.{stops_between}
use Rattle.pb_encode.specs.Groups.{groups_of}
use Rattle.pb_encode.specs.declared.groups.Group.{Group}
use Rattle.pb_encode.specs.inner.Found.{found_group}
use Rattle.pb_encode.specs.inner.Hints.{AreHintsOf}
use Rattle.pb_encode.proofs.Hinting.{gone_begin, gone_few, gone_here, gone_more, groups_few}
use Rattle.pb_encode.proofs.SoundGroups.{groups_sound}
use Rattle.pb_encode.proofs.StreamSteps.{streams_begin, streams_more, streams_sound, streams_stop}
use Rattle.pb_encode.proofs.streaming.stream_loaded.Goals as goal

pub loop-groups-init : goal.loop-groups-init
loop-groups-init g c =
    let o = c.args.input.now.options.now in
    let p = c.args.input.now.problem.now in
    record {
      streams = streams_begin o (originals p + 1) (c.originals-next.result + 1) (groups_of p) c.of-groups.result (g.S.ClauseSink.state c.args.sink.now) (omega (arith, c.originals-next.ensures)) c.of-groups.ensures
          (groups_sound o p (originals p + 1) c.args.input.now.within (omega arith));
      gone = gone_begin (groups_of p) c.of-groups.result c.of-hints.result.place c.of-groups.ensures c.of-hints.ensures.first (groups_few p c.args.input.now.within);
      told = subst (AreHintsOf o (groups_of p)) (sym c.of-hints.ensures.hints) c.args.input.now.told;
    }

pub next-told-requires : goal.next-told-requires
next-told-requires g c =
    let parts : c.loop-groups.groups ≡ found_group c.in-Some.found ∷ c.next_found.new.self = rw c.in-Some.is at c.in_ok-found.ensures.some in
    record { few = gone_few (found_group c.in-Some.found) c.next_found.new.self parts c.loop-groups.invariant.gone }

pub stream_found-requires-clause-told : goal.stream_found-requires-clause-told
stream_found-requires-clause-told g c =
    let parts : c.loop-groups.groups ≡ found_group c.in-Some.found ∷ c.next_found.new.self = rw c.in-Some.is at c.in_ok-found.ensures.some in
    c.next-told.ensures.told c.args.input.now.options.now (groups_of c.args.input.now.problem.now) c.next_found.new.self (found_group c.in-Some.found) (gone_here (found_group c.in-Some.found) c.next_found.new.self parts c.loop-groups.invariant.gone) c.loop-groups.invariant.told

pub returns-in_err-found-clause-hands : goal.returns-in_err-found-clause-hands
returns-in_err-found-clause-hands g c = stops_between c.from_residual.result c.from_residual.ensures.1 c.loop-groups.invariant.streams.handed

pub stream_found-requires-clause-sound : goal.stream_found-requires-clause-sound
stream_found-requires-clause-sound g c =
    let parts : c.loop-groups.groups ≡ found_group c.in-Some.found ∷ c.next_found.new.self = rw c.in-Some.is at c.in_ok-found.ensures.some in
    streams_sound (found_group c.in-Some.found) c.next_found.new.self parts c.loop-groups.invariant.streams

pub returns-in_err-next-clause-hands : goal.returns-in_err-next-clause-hands
returns-in_err-next-clause-hands g c =
    let parts : c.loop-groups.groups ≡ found_group c.in-Some.found ∷ c.next_found.new.self = rw c.in-Some.is at c.in_ok-found.ensures.some in
    streams_stop (found_group c.in-Some.found) c.next_found.new.self parts c.loop-groups.invariant.streams (g.S.ClauseSink.state c.stream_found.new.sink) c.from_residual-in_err-next.result c.in_err-next.field-0.0
    c.from_residual-in_err-next.ensures.1 c.in_err-next.ensures.hands

pub loop-groups-preserved : goal.loop-groups-preserved
loop-groups-preserved g c =
    let one = found_group c.in-Some.found in
    let found : c.loop-groups.groups ≡ one ∷ c.next_found.new.self = rw c.in-Some.is at c.in_ok-found.ensures.some in
    let parts : c.loop-groups.groups ≡ one ∷ c.take_back.new.self = found ∙ ap (λ (gs : List Group). one ∷ gs) (sym c.take_back.ensures) in
    record {
      streams = streams_more one c.take_back.new.self parts c.loop-groups.invariant.streams c.in_ok-next.next (g.S.ClauseSink.state c.stream_found.new.sink) c.in_ok-next.ensures.next c.in_ok-next.ensures.hands;
      gone = gone_more one c.take_back.new.self parts c.loop-groups.invariant.gone c.next-told.new.self.place c.next-told.ensures.next;
      told = c.next-told.ensures.left c.args.input.now.options.now (groups_of c.args.input.now.problem.now) c.loop-groups.invariant.told;
    }

use Rattle.std.proofs.Common.{◌≡◌, ◌+◌, ◌∷◌, ◌∙◌, List, ap, sym, arith}
use Rattle.pb_base.specs.Problems.{originals}
use Rattle.pb_encode.specs.Groups.{groups_of}
use Rattle.pb_encode.specs.declared.groups.Group.{Group}
use Rattle.pb_encode.specs.inner.Found.{found_group}
use Rattle.pb_encode.proofs.CountingLoops.{counting_begin, counting_few, counting_light, counting_more}
use Rattle.pb_encode.proofs.Hinting.{gone_here, groups_few}
use Rattle.pb_encode.proofs.SoundGroups.{groups_sound}
use Rattle.pb_encode.proofs.measuring.tally_of.Goals as goal

pub loop-groups-init : goal.loop-groups-init
loop-groups-init c =
    let o = c.args.options.now in
    let p = c.args.problem.now in
    counting_begin o (originals p + 1) (groups_of p) c.of-groups.result c.new-tally.result c.args.hints.now c.of-groups.ensures (c.new-tally.ensures o) (groups_sound o p (originals p + 1) c.requires.within (omega arith)) (groups_few p c.requires.within) c.requires.none

pub count_found-requires-clause-light : goal.count_found-requires-clause-light
count_found-requires-clause-light c =
    let parts : c.loop-groups.groups ≡ found_group c.in-Some.found ∷ c.next_found.new.self = rw c.in-Some.is at c.in_ok-found.ensures.some in
    counting_light (found_group c.in-Some.found) c.next_found.new.self parts c.loop-groups.invariant

pub count_found-requires-clause-few : goal.count_found-requires-clause-few
count_found-requires-clause-few c =
    let parts : c.loop-groups.groups ≡ found_group c.in-Some.found ∷ c.next_found.new.self = rw c.in-Some.is at c.in_ok-found.ensures.some in
    counting_few (found_group c.in-Some.found) c.next_found.new.self parts c.loop-groups.invariant

pub loop-groups-preserved : goal.loop-groups-preserved
loop-groups-preserved c =
    let g = found_group c.in-Some.found in
    let found : c.loop-groups.groups ≡ g ∷ c.next_found.new.self = rw c.in-Some.is at c.in_ok-found.ensures.some in
    let parts : c.loop-groups.groups ≡ g ∷ c.take_back.new.self = found ∙ ap (λ (gs : List Group). g ∷ gs) (sym c.take_back.ensures) in
    counting_more g c.take_back.new.self parts c.loop-groups.invariant c.count_found.new.tally c.count_found.new.hints c.in_ok-count_found.ensures.counts c.in_ok-count_found.ensures.next
    (c.in_ok-count_found.ensures.told (groups_of c.args.problem.now) c.take_back.new.self (gone_here g c.take_back.new.self parts c.loop-groups.invariant.gone) c.loop-groups.invariant.told)

use Rattle.std.proofs.Common.{◌<◌, ◌+◌, ◌^◌, ◌++◌, ◌∙◌, ap, subst, sym}
use Rattle.std.specs.Prelude.{All, map}
use Rattle.std.proofs.lemmas.Result.{IfOk-equal}
use Rattle.pb_norm.specs.Constraints.{weights}
use Rattle.pb_adder.specs.Gates.{carry_wire, made_of}
use Rattle.pb_adder.specs.Network.{inputs_at}
use Rattle.pb_adder.specs.declared.gate.Gate.{Gate}
use Rattle.pb_adder.proofs.Building.{slice_whole}
use Rattle.pb_adder.proofs.network.Network.fill_queue.Goals as goal

pub push_carries-requires : goal.push_carries-requires
push_carries-requires c = subst (All (λ (g : Gate). made_of g + 1 < 2 ^ 64)) (sym (slice_whole c.args.below c.args.self.now.gates.items c.as_slice.result.now c.as_slice.ensures.value)) c.requires.numbered

pub returns : goal.returns
returns c =
    IfOk-equal c.push_carries.result _ _ _ c.push_carries.ensures
    (λ i. (c.in_ok-push_inputs.ensures ∙ ap (λ ws. ws ++ inputs_at (weights c.args.terms.now) c.args.level) c.clear.ensures.items) i ++ map carry_wire (slice_whole c.args.below c.args.self.now.gates.items c.as_slice.result.now c.as_slice.ensures.value i))

use Rattle.std.proofs.Common.{◌-◌, ◌+◌, ap, arith, length, refl}
use Rattle.std.proofs.lemmas.List.{length-map}
use Rattle.std.proofs.lemmas.Result.{IfOk-from_err}
use Rattle.pb_norm.specs.Constraints.{weighted}
use Rattle.pb_diagram.proofs.SearchReads.{child_level, coef_read}
use Rattle.pb_diagram.proofs.WantSteps.{one_more}
use Rattle.pb_diagram.proofs.search.Search.want.Goals as goal

pub overflow_sub-self : goal.overflow_sub-self
overflow_sub-self c =
    let level = child_level _ _ _ _ _ c.requires.going.searching c.requires.top c.args.child c.requires.missing in
    let read = coef_read c.args.of.now c.terms.result.now (c.args.top.place + 1) c.index-terms-top.result c.terms.ensures.weights level.0 c.index-terms-top.is in
    omega (arith, level.1, c.weight.ensures)

pub index_mut-requires : goal.index_mut-requires
index_mut-requires c = omega (arith, c.requires.top.depth, length-map c.args.self.now.wanted.items (λ w. w.residue))

pub returns : goal.returns
returns c =
    let self = c.args.self.now in
    let top = c.args.top in
    let going = c.requires.going in
    let level = child_level _ _ _ _ _ going.searching c.requires.top c.args.child c.requires.missing in
    let read = coef_read c.args.of.now c.terms.result.now (top.place + 1) c.index-terms-top.result c.terms.ensures.weights level.0 c.index-terms-top.is in
    let step = one_more c.args.of.now self.levels.items self.wanted.items self.left self.last top going.searching going.kept c.requires.top
    c.push.new.self.items c.index_mut.result.now _ _ (self.left - c.weight.result) c.requires.missing c.requires.off c.index_mut.ensures.value refl refl c.in_ok-push.ensures.items (omega (arith, level.1, c.weight.ensures)) in
    record { going = record { searching = step.0; kept = step.1 }; advanced = step.2 }

pub returns-in_err-push : goal.returns-in_err-push
returns-in_err-push c = IfOk-from_err _ _ c.from_residual.ensures.0

pub bounds-terms-top : goal.bounds-terms-top
bounds-terms-top c =
    let level = child_level _ _ _ _ _ c.requires.going.searching c.requires.top c.args.child c.requires.missing in
    omega (arith, level.0, ap length c.terms.ensures.weights, length-map c.terms.result.now weighted)

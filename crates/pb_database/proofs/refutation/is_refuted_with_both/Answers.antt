use Rattle.std.proofs.Common.{◌∷◌, refl}
use Rattle.std.proofs.lemmas.Result.{IfOk-weaker}
use Rattle.pb_unit.specs.States.{standing}
use Rattle.pb_database.specs.Refutations.{TellsConflict}
use Rattle.pb_database.proofs.Mirroring.{keeps_put, keeps_same}
use Rattle.pb_database.proofs.Refuting.{tells_placed, gone_from, stands_kept}
use Rattle.pb_database.proofs.refutation.is_refuted_with_both.Goals as goal

pub returns-in_err-place-clause-kept : goal.returns-in_err-place-clause-kept
returns-in_err-place-clause-kept c = keeps_same c.args.engine.now c.add.new.self (c.in_err-place.ensures.refused refl)

pub returns-clause-kept : goal.returns-clause-kept
returns-clause-kept c =
    let free = c.in_ok-place.ensures.ok.0 in
    let kept = c.is_refuted_with_one-found.ensures.kept in
    let gone = gone_from c.remove.result c.in_ok-place.place c.is_refuted_with_one-found.new.engine c.remove.new.self c.remove.ensures.answer c.remove.ensures.after (stands_kept c.args.engine.now c.add.new.self c.is_refuted_with_one-found.new.engine c.in_ok-place.place c.args.second.now free c.in_ok-place.ensures.ok.1 kept) in
    keeps_put c.args.engine.now c.add.new.self c.is_refuted_with_one-found.new.engine c.remove.new.self c.in_ok-place.place c.args.second.now free c.in_ok-place.ensures.ok.1 kept gone

pub returns-clause-answer : goal.returns-clause-answer
returns-clause-answer c =
    IfOk-weaker c.is_refuted_with_one-found.result (TellsConflict (c.args.first.now ∷ standing c.add.new.self.places)) (TellsConflict (c.args.first.now ∷ c.args.second.now ∷ standing c.args.engine.now.places))
    (λ found h. tells_placed c.args.engine.now c.add.new.self c.in_ok-place.place c.args.first.now c.args.second.now found c.in_ok-place.ensures.ok.0 c.in_ok-place.ensures.ok.1 h) c.is_refuted_with_one-found.ensures.answer

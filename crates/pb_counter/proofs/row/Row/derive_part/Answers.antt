use Rattle.std.proofs.Common.{◌≡◌, ◌-◌, ◌∙◌, [], ◌∷◌, ℕ, suc, ap, sym, arith}
use Rattle.pb_family.proofs.Deriving.{steps_same}
use Rattle.pb_counter.specs.inner.PlacePieces.{part_piece}
use Rattle.pb_counter.proofs.RowHanding.{part_without}
use Rattle.pb_counter.proofs.row.Row.derive_part.Goals as goal

pub returns : goal.returns
returns g c =
    let r = c.args.self.now in
    let j : ℕ = c.args.place in
    let from : j ≡ suc (j - 1) = omega (arith, c.if-place-eq0.false) in
    steps_same c.derive_line-2.result _ _ (g.T.StepSink.state c.args.sink.now) (g.T.StepSink.state c.derive_line-2.new.sink)
    (part_without r.first r.fronts r.ids.counts r.ids.falls r.ids.parts (j - 1) c.bit.ensures c.times.ensures c.times-2.ensures c.over.ensures ∙ ap (λ (k : ℕ). part_piece r.first r.fronts r.ids.counts r.ids.falls r.ids.parts k ∷ []) (sym from))
    c.derive_line-2.ensures

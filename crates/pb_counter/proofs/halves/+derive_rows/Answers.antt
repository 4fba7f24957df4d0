use Rattle.std.proofs.Common.{◌≡◌, ◌-◌, ◌^◌, ℕ, length, suc, refl, subst, arith}
use Rattle.std.specs.Prelude.{IfOk}
use Rattle.pb_norm.specs.Constraints.{weights}
use Rattle.pb_norm.specs.Reduction.{lits_of}
use Rattle.pb_family.proofs.Deriving.{steps_same}
use Rattle.pb_family.proofs.TermSlices.{literal_count}
use Rattle.pb_counter.specs.CounterHalves.{RowsEnd}
use Rattle.pb_counter.specs.inner.Ends.{Ends}
use Rattle.pb_counter.proofs.RowsHanding.{half_is, one_row, one_end, low_rows, low_end, cut_of, narrow_stopped, first_stopped, order_1, next_1, next_2, both_stopped, second_stopped, next_4, joined_stopped, joined_taken, joined_ends, one_low, other_low, room_split, back_room, back_fits, back_few, back_count, order_fits}
use Rattle.pb_counter.proofs.halves.+derive_rows.Goals as goal

pub returns-then-height-eq0-clause-hands : goal.returns-then-height-eq0-clause-hands
returns-then-height-eq0-clause-hands g t c =
    let r = c.args.rows in
    let old = g.T.StepSink.state c.args.sink.now in
    steps_same c.derive_one_row.result _ _ old (g.T.StepSink.state c.derive_one_row.new.sink) (one_row c.args.height (lits_of (weights r.terms.now)) r.first r.last r.order r.whole old.next (omega (arith, c.if-height-eq0.true))) c.derive_one_row.ensures.hands

pub returns-then-height-eq0-clause-ends : goal.returns-then-height-eq0-clause-ends
returns-then-height-eq0-clause-ends g t c =
    let r = c.args.rows in
    let old = g.T.StepSink.state c.args.sink.now in
    let after = g.T.StepSink.state c.derive_one_row.new.sink in
    subst (λ (x : RowsEnd). IfOk c.derive_one_row.result (λ e. Ends x e.order e.climb after.next)) (one_end c.args.height (length r.terms.now) r.last old.next (omega (arith, c.if-height-eq0.true))) c.derive_one_row.ensures.ends

pub returns-then-rows-half-clause-hands : goal.returns-then-rows-half-clause-hands
returns-then-rows-half-clause-hands g t c =
    let r = c.args.rows in
    let old = g.T.StepSink.state c.args.sink.now in
    let n : ℕ = c.args.height in
    let half = half_is (n - 1) (omega (arith, c.requires.high)) in
    steps_same c.derive_rows.result _ _ old (g.T.StepSink.state c.derive_rows.new.sink)
    (low_rows (n - 1) n (lits_of (weights r.terms.now)) r.first r.last r.order r.whole old.next (let e : n ≡ suc (n - 1) = omega (arith, c.if-height-eq0.false) in e) (omega (arith, half, c.if-rows-half.true, literal_count r.terms.now))) c.derive_rows.ensures.hands

pub returns-then-rows-half-clause-ends : goal.returns-then-rows-half-clause-ends
returns-then-rows-half-clause-ends g t c =
    let r = c.args.rows in
    let old = g.T.StepSink.state c.args.sink.now in
    let after = g.T.StepSink.state c.derive_rows.new.sink in
    let n : ℕ = c.args.height in
    let half = half_is (n - 1) (omega (arith, c.requires.high)) in
    subst (λ (x : RowsEnd). IfOk c.derive_rows.result (λ e. Ends x e.order e.climb after.next))
    (low_end (n - 1) n (length r.terms.now) r.last old.next (let e : n ≡ suc (n - 1) = omega (arith, c.if-height-eq0.false) in e) (omega (arith, half, c.if-rows-half.true))) c.derive_rows.ensures.ends

pub returns-in_err-derive_narrow-clause-hands : goal.returns-in_err-derive_narrow-clause-hands
returns-in_err-derive_narrow-clause-hands g t c =
    let r = c.args.rows in
    let old = g.T.StepSink.state c.args.sink.now in
    let h = cut_of c.args.height r.terms.now r.first r.last r.order r.whole old.next (omega (arith, c.requires.high)) (omega (arith, c.if-height-eq0.false)) (omega (arith, c.if-rows-half.false)) in
    let mid_1 = g.T.StepSink.state c.derive_narrow.new.sink in
    narrow_stopped h old refl c.from_residual.result _ mid_1 c.from_residual.ensures.1 c.in_err-derive_narrow.ensures

pub returns-in_err-one-clause-hands : goal.returns-in_err-one-clause-hands
returns-in_err-one-clause-hands g t c =
    let r = c.args.rows in
    let old = g.T.StepSink.state c.args.sink.now in
    let h = cut_of c.args.height r.terms.now r.first r.last r.order r.whole old.next (omega (arith, c.requires.high)) (omega (arith, c.if-height-eq0.false)) (omega (arith, c.if-rows-half.false)) in
    let mid_1 = g.T.StepSink.state c.derive_narrow.new.sink in
    let mid_2 = g.T.StepSink.state c.derive_rows-2.new.sink in
    first_stopped h old refl mid_1 c.in_ok-derive_narrow.ensures c.next_id-narrowed.result c.next_id-narrowed.ensures c.from_residual-in_err-one.result _ mid_2 c.from_residual-in_err-one.ensures.1 c.in_err-one.ensures.hands

pub derive_both-requires : goal.derive_both-requires
derive_both-requires g t c =
    let r = c.args.rows in
    let old = g.T.StepSink.state c.args.sink.now in
    let h = cut_of c.args.height r.terms.now r.first r.last r.order r.whole old.next (omega (arith, c.requires.high)) (omega (arith, c.if-height-eq0.false)) (omega (arith, c.if-rows-half.false)) in
    let mid_1 = g.T.StepSink.state c.derive_narrow.new.sink in
    let mid_2 = g.T.StepSink.state c.derive_rows-2.new.sink in
    record { few = omega (arith, c.requires.room, room_split h c.requires.few, one_low h c.requires.few, next_1 h old refl mid_1 c.in_ok-derive_narrow.ensures c.next_id-narrowed.result c.next_id-narrowed.ensures mid_2 c.in_ok-one.one.order c.in_ok-one.one.climb c.in_ok-one.ensures.hands c.in_ok-one.ensures.ends) }

pub returns-in_err-derive_both-clause-hands : goal.returns-in_err-derive_both-clause-hands
returns-in_err-derive_both-clause-hands g t c =
    let r = c.args.rows in
    let old = g.T.StepSink.state c.args.sink.now in
    let h = cut_of c.args.height r.terms.now r.first r.last r.order r.whole old.next (omega (arith, c.requires.high)) (omega (arith, c.if-height-eq0.false)) (omega (arith, c.if-rows-half.false)) in
    let mid_1 = g.T.StepSink.state c.derive_narrow.new.sink in
    let mid_2 = g.T.StepSink.state c.derive_rows-2.new.sink in
    let mid_3 = g.T.StepSink.state c.derive_both.new.sink in
    both_stopped h old refl mid_1 c.in_ok-derive_narrow.ensures c.next_id-narrowed.result c.next_id-narrowed.ensures mid_2 c.in_ok-one.one.order c.in_ok-one.one.climb c.in_ok-one.ensures.hands c.in_ok-one.ensures.ends c.from_residual-in_err-derive_both.result _ mid_3 c.from_residual-in_err-derive_both.ensures.1 c.in_err-derive_both.ensures

pub derive_rows-requires-3 : goal.derive_rows-requires-3
derive_rows-requires-3 g t c κs within =
    let r = c.args.rows in
    let old = g.T.StepSink.state c.args.sink.now in
    let h = cut_of c.args.height r.terms.now r.first r.last r.order r.whole old.next (omega (arith, c.requires.high)) (omega (arith, c.if-height-eq0.false)) (omega (arith, c.if-rows-half.false)) in
    let mid_1 = g.T.StepSink.state c.derive_narrow.new.sink in
    let mid_2 = g.T.StepSink.state c.derive_rows-2.new.sink in
    let mid_3 = g.T.StepSink.state c.derive_both.new.sink in (
      omega (arith, c.decreases, c.if-height-eq0.false),
      (
        within,
        (
          omega (arith, back_count h, h.more),
          (
            omega (arith, c.requires.high),
            (
              omega (arith, back_few h c.requires.few, back_count h),
              (
                omega (arith, c.first_after.ensures, c.requires.low),
                (
                  omega (arith, c.first_after.ensures, back_fits h c.requires.few (2 ^ 31) c.requires.fits),
                  (omega (arith, order_1 h old refl mid_1 c.in_ok-derive_narrow.ensures c.next_id-narrowed.result c.next_id-narrowed.ensures mid_2 c.in_ok-one.one.order c.in_ok-one.one.climb c.in_ok-one.ensures.hands c.in_ok-one.ensures.ends, next_2 h old refl mid_1 c.in_ok-derive_narrow.ensures c.next_id-narrowed.result c.next_id-narrowed.ensures mid_2 c.in_ok-one.one.order c.in_ok-one.one.climb c.in_ok-one.ensures.hands c.in_ok-one.ensures.ends mid_3 c.in_ok-derive_both.ensures, order_fits h c.requires.few), omega (arith, c.requires.room, room_split h c.requires.few, one_low h c.requires.few, back_room h c.requires.few, next_2 h old refl mid_1 c.in_ok-derive_narrow.ensures c.next_id-narrowed.result c.next_id-narrowed.ensures mid_2 c.in_ok-one.one.order c.in_ok-one.one.climb c.in_ok-one.ensures.hands c.in_ok-one.ensures.ends mid_3 c.in_ok-derive_both.ensures)),
                ),
              ),
            ),
          ),
        ),
      ),
    )

pub returns-in_err-other-clause-hands : goal.returns-in_err-other-clause-hands
returns-in_err-other-clause-hands g t c =
    let r = c.args.rows in
    let old = g.T.StepSink.state c.args.sink.now in
    let h = cut_of c.args.height r.terms.now r.first r.last r.order r.whole old.next (omega (arith, c.requires.high)) (omega (arith, c.if-height-eq0.false)) (omega (arith, c.if-rows-half.false)) in
    let mid_1 = g.T.StepSink.state c.derive_narrow.new.sink in
    let mid_2 = g.T.StepSink.state c.derive_rows-2.new.sink in
    let mid_3 = g.T.StepSink.state c.derive_both.new.sink in
    let mid_4 = g.T.StepSink.state c.derive_rows-3.new.sink in
    second_stopped h old refl mid_1 c.in_ok-derive_narrow.ensures c.next_id-narrowed.result c.next_id-narrowed.ensures mid_2 c.in_ok-one.one.order c.in_ok-one.one.climb c.in_ok-one.ensures.hands c.in_ok-one.ensures.ends mid_3 c.in_ok-derive_both.ensures c.next_id-middle.result c.first_after.result c.next_id-middle.ensures c.first_after.ensures c.from_residual-in_err-other.result _ mid_4 c.from_residual-in_err-other.ensures.1 c.in_err-other.ensures.hands

pub derive_joined-requires : goal.derive_joined-requires
derive_joined-requires g t c =
    let r = c.args.rows in
    let old = g.T.StepSink.state c.args.sink.now in
    let h = cut_of c.args.height r.terms.now r.first r.last r.order r.whole old.next (omega (arith, c.requires.high)) (omega (arith, c.if-height-eq0.false)) (omega (arith, c.if-rows-half.false)) in
    let mid_1 = g.T.StepSink.state c.derive_narrow.new.sink in
    let mid_2 = g.T.StepSink.state c.derive_rows-2.new.sink in
    let mid_3 = g.T.StepSink.state c.derive_both.new.sink in
    let mid_4 = g.T.StepSink.state c.derive_rows-3.new.sink in
    record { few = omega (arith, c.requires.room, room_split h c.requires.few, one_low h c.requires.few, other_low h c.requires.few, next_4 h old refl mid_1 c.in_ok-derive_narrow.ensures c.next_id-narrowed.result c.next_id-narrowed.ensures mid_2 c.in_ok-one.one.order c.in_ok-one.one.climb c.in_ok-one.ensures.hands c.in_ok-one.ensures.ends mid_3 c.in_ok-derive_both.ensures c.next_id-middle.result c.first_after.result c.next_id-middle.ensures c.first_after.ensures mid_4 c.in_ok-other.other.order c.in_ok-other.other.climb c.in_ok-other.ensures.hands c.in_ok-other.ensures.ends) }

pub returns-in_err-derive_joined-clause-hands : goal.returns-in_err-derive_joined-clause-hands
returns-in_err-derive_joined-clause-hands g t c =
    let r = c.args.rows in
    let old = g.T.StepSink.state c.args.sink.now in
    let h = cut_of c.args.height r.terms.now r.first r.last r.order r.whole old.next (omega (arith, c.requires.high)) (omega (arith, c.if-height-eq0.false)) (omega (arith, c.if-rows-half.false)) in
    let mid_1 = g.T.StepSink.state c.derive_narrow.new.sink in
    let mid_2 = g.T.StepSink.state c.derive_rows-2.new.sink in
    let mid_3 = g.T.StepSink.state c.derive_both.new.sink in
    let mid_4 = g.T.StepSink.state c.derive_rows-3.new.sink in
    let after = g.T.StepSink.state c.derive_joined.new.sink in
    joined_stopped h old refl mid_1 c.in_ok-derive_narrow.ensures c.next_id-narrowed.result c.next_id-narrowed.ensures mid_2 c.in_ok-one.one.order c.in_ok-one.one.climb c.in_ok-one.ensures.hands c.in_ok-one.ensures.ends mid_3 c.in_ok-derive_both.ensures c.next_id-middle.result c.first_after.result c.next_id-middle.ensures c.first_after.ensures mid_4 c.in_ok-other.other.order c.in_ok-other.other.climb c.in_ok-other.ensures.hands c.in_ok-other.ensures.ends c.from_residual-in_err-derive_joined.result _ after c.from_residual-in_err-derive_joined.ensures.1 c.in_err-derive_joined.ensures

pub returns-clause-hands : goal.returns-clause-hands
returns-clause-hands g t c =
    let r = c.args.rows in
    let old = g.T.StepSink.state c.args.sink.now in
    let h = cut_of c.args.height r.terms.now r.first r.last r.order r.whole old.next (omega (arith, c.requires.high)) (omega (arith, c.if-height-eq0.false)) (omega (arith, c.if-rows-half.false)) in
    let mid_1 = g.T.StepSink.state c.derive_narrow.new.sink in
    let mid_2 = g.T.StepSink.state c.derive_rows-2.new.sink in
    let mid_3 = g.T.StepSink.state c.derive_both.new.sink in
    let mid_4 = g.T.StepSink.state c.derive_rows-3.new.sink in
    let after = g.T.StepSink.state c.derive_joined.new.sink in
    joined_taken h old refl mid_1 c.in_ok-derive_narrow.ensures c.next_id-narrowed.result c.next_id-narrowed.ensures mid_2 c.in_ok-one.one.order c.in_ok-one.one.climb c.in_ok-one.ensures.hands c.in_ok-one.ensures.ends mid_3 c.in_ok-derive_both.ensures c.next_id-middle.result c.first_after.result c.next_id-middle.ensures c.first_after.ensures mid_4 c.in_ok-other.other.order c.in_ok-other.other.climb c.in_ok-other.ensures.hands c.in_ok-other.ensures.ends after c.in_ok-derive_joined.ensures

pub returns-clause-ends : goal.returns-clause-ends
returns-clause-ends g t c =
    let r = c.args.rows in
    let old = g.T.StepSink.state c.args.sink.now in
    let h = cut_of c.args.height r.terms.now r.first r.last r.order r.whole old.next (omega (arith, c.requires.high)) (omega (arith, c.if-height-eq0.false)) (omega (arith, c.if-rows-half.false)) in
    let mid_1 = g.T.StepSink.state c.derive_narrow.new.sink in
    let mid_2 = g.T.StepSink.state c.derive_rows-2.new.sink in
    let mid_3 = g.T.StepSink.state c.derive_both.new.sink in
    let mid_4 = g.T.StepSink.state c.derive_rows-3.new.sink in
    let after = g.T.StepSink.state c.derive_joined.new.sink in
    joined_ends h old refl mid_1 c.in_ok-derive_narrow.ensures c.next_id-narrowed.result c.next_id-narrowed.ensures mid_2 c.in_ok-one.one.order c.in_ok-one.one.climb c.in_ok-one.ensures.hands c.in_ok-one.ensures.ends mid_3 c.in_ok-derive_both.ensures c.next_id-middle.result c.first_after.result c.next_id-middle.ensures c.first_after.ensures mid_4 c.in_ok-other.other.order c.in_ok-other.other.climb c.in_ok-other.ensures.hands c.in_ok-other.ensures.ends after c.next_id-climb.result c.next_id-climb.ensures c.in_ok-derive_joined.ensures

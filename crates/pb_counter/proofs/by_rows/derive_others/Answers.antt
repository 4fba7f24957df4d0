use Rattle.std.proofs.Common.{◌≡◌, ◌<◌, ◌+◌, ◌-◌, ◌*◌, ℕ, length, suc, take, ap, arith}
use Rattle.pb_family.proofs.Deriving.{steps_same}
use Rattle.pb_counter.proofs.OthersHanding.{no_others, some_others, front_count, back_count, fewer}
use Rattle.pb_counter.proofs.by_rows.derive_others.Goals as goal

pub returns-then-count-eq0 : goal.returns-then-count-eq0
returns-then-count-eq0 g c =
    let r = c.args.rows in
    let old = g.T.StepSink.state c.args.sink.now in
    steps_same c.derive_last.result _ _ old (g.T.StepSink.state c.derive_last.new.sink) (no_others r.terms.now r.first r.last r.order r.whole old.next (omega (arith, c.if-count-eq0.true))) c.derive_last.ensures

pub derive_further-requires : goal.derive_further-requires
derive_further-requires g c =
    let r = c.args.rows in
    let n : ℕ = length r.terms.now in
    let some : 1 < n = omega (arith, c.if-count-eq0.false) in
    let room = fewer (8 * r.last + 10) n (omega (arith, some)) in
    let front = front_count r.terms.now (n - 1) (omega arith) in
    let all : (length (take (n - 1) r.terms.now) + 1) * suc r.last ≡ n * suc r.last = ap (λ (m : ℕ). m * suc r.last) (let e : length (take (n - 1) r.terms.now) + 1 ≡ n = omega (arith, front, some) in e) in
    let same : (8 * r.last + 10) * length (take (n - 1) r.terms.now) ≡ (8 * r.last + 10) * (n - 1) = ap (λ (m : ℕ). (8 * r.last + 10) * m) front in
    record {
      some = omega (arith, front, some);
      few = omega (arith, front, c.requires.few);
      one = omega (arith, back_count r.terms.now (omega (arith, some)));
      low = c.requires.low;
      fits = omega (arith, all, c.requires.fits);
      order = omega (arith, c.requires.order);
      room = omega (arith, room, same, c.requires.room);
    }

pub returns : goal.returns
returns g c =
    let r = c.args.rows in
    let old = g.T.StepSink.state c.args.sink.now in
    steps_same c.derive_further.result _ _ old (g.T.StepSink.state c.derive_further.new.sink) (some_others r.terms.now r.first r.last r.order r.whole old.next (omega (arith, c.if-count-eq0.false))) c.derive_further.ensures

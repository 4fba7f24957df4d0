use Rattle.std.proofs.Common.{◌≡◌, ◌-◌, ◌++◌, ◌∙◌, ℕ, [], refl, sym, ap, arith, append-nil}
use Rattle.std.specs.Prelude.{map}
use Rattle.std.specs.List.{range_with_len}
use Rattle.pb_family.proofs.Emission.{emitting_from, emitting_map, hands_fault_map}
use Rattle.pb_family.proofs.numbered.emit_all.Goals as goal

all_left : {X : Type 0} (f : ℕ → X) (n : ℕ) → map f (range_with_len 0 n) ≡ map f (range_with_len 0 (n - 0)) ++ []
all_left f n = ap (λ (m : ℕ). map f (range_with_len 0 m)) (let e : n ≡ n - 0 = omega arith in e) ∙ sym (append-nil (map f (range_with_len 0 (n - 0))))

pub loop-number-init : goal.loop-number-init
loop-number-init g c =
    let of = c.args.of.now in
    emitting_from (g.S.ClauseSink.state c.args.sink.now) (all_left (g.C.NumberedClauses.clause of) (g.C.NumberedClauses.clause_count of))

pub returns-in_err-emit_one : goal.returns-in_err-emit_one
returns-in_err-emit_one g c =
    let of = c.args.of.now in
    hands_fault_map {all = map (g.C.NumberedClauses.clause of) (range_with_len 0 (g.C.NumberedClauses.clause_count of))} c.from_residual.result _ (g.C.NumberedClauses.clause of) c.loop-number.number (g.C.NumberedClauses.clause_count of) [] _ _ c.from_residual.ensures.1 (omega arith) refl c.loop-number.invariant c.in_err-emit_one.ensures

pub loop-number-preserved : goal.loop-number-preserved
loop-number-preserved g c =
    let of = c.args.of.now in
    emitting_map {all = map (g.C.NumberedClauses.clause of) (range_with_len 0 (g.C.NumberedClauses.clause_count of))} (g.C.NumberedClauses.clause of) c.loop-number.number (g.C.NumberedClauses.clause_count of) [] _ _ (omega arith) refl c.loop-number.invariant c.in_ok-emit_one.ensures

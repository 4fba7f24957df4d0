use Rattle.std.proofs.Common.{◌≡◌, ◌<◌, ◌+◌, ◌*◌, ◌^◌, ◌∙◌, ℕ, List, [], ◌∷◌, ap, refl, arith}
use Rattle.std.proofs.Math.Nat.{mul-le-mul_left}
use Rattle.std.specs.List.{range_with_len}
use Rattle.pb_steps.specs.declared.step.Step.{Step}
use Rattle.pb_steps.specs.declared.step.Step.TheVariants.{Del}
use Rattle.pb_derive.specs.Deletions.{deletion_steps}
use Rattle.pb_family.proofs.Looping.{looping_from, ArePieces, pieces_next, pieces_fault, pieces_end}
use Rattle.pb_family.proofs.Sequence.{deletion_pieces}
use Rattle.pb_family.proofs.deletion.derive_deletions.Goals as goal

abbrev piece : ℕ → ℕ → ℕ → ℕ → List Step
piece width id next k = Del (range_with_len (id + width * k) width) ∷ []

made : (width id n : ℕ) → ArePieces (λ next. deletion_steps width id n) (piece width id) 0 n
made width id n = record {
  same = λ next. ap (λ (i : ℕ). deletion_steps width i n) (let e : id ≡ id + width * 0 = omega arith in e) ∙ deletion_pieces width id next 0 n;
  ids = λ next k. refl;
}

-- so many ids behind those of k steps
within : (id width count k : ℕ) → k < count → id + width * count < 2 ^ 64 → id + width * k + width < 2 ^ 64
within id width count k more fits = omega (arith, mul-le-mul_left {m = k + 1} {n = count} width (omega arith))

pub loop-k-init : goal.loop-k-init
loop-k-init g c = looping_from (piece c.args.width c.args.id) 0 c.args.count (g.T.StepSink.state c.args.sink.now)

pub overflow_mul-width : goal.overflow_mul-width
overflow_mul-width g c = omega (arith, within c.args.id c.args.width c.args.count c.loop-k.k (omega arith) c.requires.fits)

pub overflow_add-id : goal.overflow_add-id
overflow_add-id g c = omega (arith, within c.args.id c.args.width c.args.count c.loop-k.k (omega arith) c.requires.fits)

pub derive_deletion-requires-clause-fits : goal.derive_deletion-requires-clause-fits
derive_deletion-requires-clause-fits g c = within c.args.id c.args.width c.args.count c.loop-k.k (omega arith) c.requires.fits

pub returns-in_err-derive_deletion : goal.returns-in_err-derive_deletion
returns-in_err-derive_deletion g c =
    pieces_fault (made c.args.width c.args.id c.args.count) c.loop-k.invariant c.from_residual.result _ (g.T.StepSink.state c.derive_deletion.new.sink) (omega arith) c.from_residual.ensures.1 c.in_err-derive_deletion.ensures

pub loop-k-preserved : goal.loop-k-preserved
loop-k-preserved g c = pieces_next (made c.args.width c.args.id c.args.count) c.loop-k.invariant (g.T.StepSink.state c.derive_deletion.new.sink) (omega arith) c.in_ok-derive_deletion.ensures

pub returns : goal.returns
returns g c = pieces_end (made c.args.width c.args.id c.args.count) c.loop-k.invariant (omega arith)

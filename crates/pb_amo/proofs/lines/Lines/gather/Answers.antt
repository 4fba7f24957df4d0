use Rattle.std.proofs.Common.{refl, ◌≡◌, ◌≤◌, ◌+◌, ◌*◌, ◌++◌, ◌∙◌, ℕ, inl, inr, List, [], ◌∷◌, length, take, ap, sym, arith}
use Rattle.std.proofs.Math.Nat.{mul-le-mul_right}
use Rattle.std.proofs.lemmas.Bool.{cases_lt}
use Rattle.std.proofs.lemmas.List.{map-append}
use Rattle.std.proofs.lemmas.List.Sums.{sum_by-append}
use Rattle.pb_base.specs.declared.literal.Lit.{Lit}
use Rattle.pb_norm.specs.Constraints.{Weighted, weight, weights}
use Rattle.pb_derive.specs.Ones.{unit_of, ones}
use Rattle.pb_family.specs.Fresh.{positive_of, literal_at}
use Rattle.pb_amo.specs.Passing.{passing}
use Rattle.pb_amo.specs.inner.Source.{source_literals}
use Rattle.pb_amo.proofs.Visited.{Gathered, visits_start, visits_kept, visits_out, visits_end}
use Rattle.pb_amo.proofs.lines.Lines.gather.Goals as goal

pub loop-turn-init : goal.loop-turn-init
loop-turn-init c = record {
  light = omega (arith, ap (λ (ts : List Weighted). weight ts) (ap weights c.new-terms.ensures.items));
  met = λ p v. ap weights c.new-terms.ensures.items ∙ sym (ap ones (visits_start p (source_literals c.args.self.now.grid.literals) c.args.stride.from c.args.stride.step c.args.stride.count v));
}

pub loop-turn-preserved : goal.loop-turn-preserved
loop-turn-preserved c =
    let ms = source_literals c.args.self.now.grid.literals in
    let from = c.args.stride.from in
    let step = c.args.stride.step in
    let count = c.args.stride.count in
    let turn = c.loop-turn.turn in
    let place : ℕ = from + turn * step in
    let l : Lit = literal_at ms place in
    let before : List Weighted = weights c.loop-turn.terms.items in
    let after : List Weighted = weights c.push_at.new.terms.items in
    let light = c.loop-turn.invariant.light in
    let Goal : Type 0 = Gathered ms from step count (turn + 1) after in
    elim (cases_lt place (length ms)) as (λ _. Goal) [
      | inr out ↦
          let same : after ≡ before = c.in_ok-push_at.ensures.out out in
          record { light = omega (arith, ap weight same, light); met = λ p v. same ∙ c.loop-turn.invariant.met p v ∙ sym (ap ones (visits_out p ms from step count v turn out)) }
      | inl within ↦
          let more : after ≡ before ++ unit_of l ∷ [] = c.in_ok-push_at.ensures.kept within in
          let one : weight (unit_of l ∷ []) ≡ 1 = refl in
          record {
            light = omega (arith, ap weight more, sum_by-append (λ (t : Weighted). t.coef) before (unit_of l ∷ []), one, light);
            met = λ p v.
                more ∙ ap (λ (ts : List Weighted). ts ++ unit_of l ∷ []) (c.loop-turn.invariant.met p v)
                ∙ sym (map-append unit_of (passing p 0 (take place ms)) (l ∷ []))
                ∙ sym (ap ones (visits_kept p ms from step count v turn (positive_of 0) (omega arith) c.args.stride.some within));
          }
    ]

pub overflow_mul-turn : goal.overflow_mul-turn
overflow_mul-turn c =
    let most = mul-le-mul_right c.args.stride.step (let e : c.loop-turn.turn ≤ c.args.stride.count = omega (arith, c.loop-turn-test.true) in e) in
    omega (arith, most, c.args.stride.fits)

pub overflow_add-stride : goal.overflow_add-stride
overflow_add-stride c =
    let most = mul-le-mul_right c.args.stride.step (let e : c.loop-turn.turn ≤ c.args.stride.count = omega (arith, c.loop-turn-test.true) in e) in
    omega (arith, most, c.args.stride.fits)

pub returns : goal.returns
returns c =
    let ms = source_literals c.args.self.now.grid.literals in
    let from = c.args.stride.from in
    let step = c.args.stride.step in
    let all : c.loop-turn.turn ≡ c.args.stride.count = omega arith in
    record {
      met = λ p v.
          c.loop-turn.invariant.met p v
          ∙ ap (λ (i : ℕ). ones (passing p 0 (take (from + i * step) ms))) all
          ∙ ap ones (visits_end p ms from step c.args.stride.count v);
      light = omega (arith, c.loop-turn.invariant.light, all);
    }

use Rattle.std.proofs.Common.{◌≡◌, ◌+◌, ◌*◌, ◌∙◌, ◌++◌, ℕ, suc, List, [], ◌∷◌, map, ap, sym, arith}
use Rattle.std.specs.List.{range_with_len}
use Rattle.pb_family.proofs.Ranges.{map_split}
use Rattle.pb_counter.proofs.first_row.FirstRow.summands.Goals as goal

pub loop-place-preserved : goal.loop-place-preserved
loop-place-preserved c =
    let r = c.args.self.now in
    let k : ℕ = c.loop-place.place in
    let at : ℕ → ℕ = λ j. r.counts + 2 * j in
    c.in_ok-push.ensures.items ∙ ap (λ (is : List ℕ). is ++ (r.counts + 2 * k) ∷ []) c.loop-place.invariant
    ∙ ap (λ (is : List ℕ). r.id ∷ is) (ap (λ (i : ℕ). map at (range_with_len 0 k) ++ (at i ∷ [])) (let e : k ≡ 0 + k = omega arith in e) ∙ sym (map_split at 0 k 1))

pub returns : goal.returns
returns c =
    let r = c.args.self.now in
    c.loop-place.invariant ∙ ap (λ (n : ℕ). r.id ∷ map (λ (j : ℕ). r.counts + 2 * j) (range_with_len 0 n)) (let e : c.loop-place.place ≡ suc r.last = omega (arith, c.loop-place.auto.place-end, c.loop-place-test.false) in e)

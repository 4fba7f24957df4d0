-- What a grid's lines mean, one number after another.
use Rattle.std.proofs.Common.{◌≡◌, ◌<◌, ◌≤◌, ◌+◌, ◌-◌, ◌++◌, ◌∙◌, ℕ, List, [], ◌∷◌, map, suc, ap, sym, arith, nat_lt}
use Rattle.std.proofs.lemmas.Bool.{cond-true, cond-false, lt-ltb, le-ltb}
use Rattle.std.proofs.lemmas.List.{map-append}
use Rattle.std.specs.List.{range_with_len}
use Rattle.pb_base.specs.declared.literal.Lit.{Lit}
use Rattle.pb_derive.specs.Reifications.{Reification, reification_steps}
use Rattle.pb_derive.specs.Ones.{ones}
use Rattle.pb_family.specs.Derivations.{meant}
use Rattle.pb_family.proofs.Ranges.{map_split, range_same}
use Rattle.pb_family.proofs.Sequence.{range_more}
use Rattle.pb_amo.specs.Passing.{passing, in_line}
use Rattle.pb_amo.specs.ProductSteps.{row_of, column_of, line_reification, grid_reifications}
use Rattle.pb_amo.specs.inner.GridOrder.{line_at}

-- the steps of a line, as code has their parts
line_same : (side : ℕ → ℕ) (ms : List Lit) (first k next var : ℕ) → var ≡ first + k → meant next var (ones (passing (in_line side k) 0 ms)) 1 ≡ reification_steps next (line_reification side ms first k ∷ [])
line_same side ms first k next var same = λ x. meant next (same x) (ones (passing (in_line side k) 0 ms)) 1

module _ (ms : List Lit) (first r q : ℕ) where
  -- ---- lines

  line_row : (k : ℕ) → k < r → line_at ms first r q k ≡ line_reification (row_of q) ms first k
  line_row k within = cond-true (nat_lt k r) (line_reification (row_of q) ms first k) _ (lt-ltb k r within)

  line_column : (k : ℕ) → r ≤ k → line_at ms first r q k ≡ line_reification (column_of q) ms (first + r) (k - r)
  line_column k above = cond-false (nat_lt k r) (line_reification (row_of q) ms first k) _ (le-ltb k r above)

  pub lines_by_number : map (line_at ms first r q) (range_with_len 0 (r + q)) ≡ grid_reifications ms first r q
  lines_by_number =
      map_split (line_at ms first r q) 0 r q
      ∙ (λ x. range_same (line_at ms first r q) (line_reification (row_of q) ms first) 0 0 r (λ i h. line_row (0 + i) (omega (arith, h))) x
      ++ range_same (line_at ms first r q) (line_reification (column_of q) ms (first + r)) (0 + r) 0 q (λ i h.
      line_column (0 + r + i) (omega arith) ∙ ap (line_reification (column_of q) ms (first + r)) (let e : 0 + r + i - r ≡ 0 + i = omega arith in e)) x)

  pub row_steps : (k next var : ℕ) → k < r → var ≡ first + k → meant next var (ones (passing (in_line (row_of q) k) 0 ms)) 1 ≡ reification_steps next (line_at ms first r q k ∷ [])
  row_steps k next var within same = line_same (row_of q) ms first k next var same ∙ ap (λ (m : Reification). reification_steps next (m ∷ [])) (sym (line_row k within))

  pub column_steps : (k next var : ℕ) → r ≤ k → var ≡ first + k → meant next var (ones (passing (in_line (column_of q) (k - r)) 0 ms)) 1 ≡ reification_steps next (line_at ms first r q k ∷ [])
  column_steps k next var above same = line_same (column_of q) ms (first + r) (k - r) next var (omega (arith, same, above)) ∙ ap (λ (m : Reification). reification_steps next (m ∷ [])) (sym (line_column k above))

pub range_push : (f : ℕ → ℕ) (n : ℕ) → map f (range_with_len 0 n) ++ f n ∷ [] ≡ map f (range_with_len 0 (n + 1))
range_push f n = sym (map-append f (range_with_len 0 n) (n ∷ [])) ∙ ap (map f) (range_more 0 n n (omega arith) ∙ ap (range_with_len 0) (let e : suc n ≡ n + 1 = omega arith in e))

-- The order in which terms are written does not matter to the normal form.
use Rattle.std.proofs.Common.{◌≡◌, ℕ, cond, ◌==◌, List, pos, ℤ, sym, ◌∙◌}
use Rattle.std.specs.List.Sorted.{IsPermutation}
use Rattle.pb_base.specs.declared.literal.Term.{Term}
use Rattle.pb_base.proofs.IntSums.{int_sum_by-map, int_sum_by-IsPermutation}
use Rattle.pb_norm.specs.declared.halves.Half.{Half}
use Rattle.pb_norm.specs.Halves.{turned_term, half_terms, normal_terms}
use Rattle.pb_norm.specs.NormalForms.{signed_coef, net}
use Rattle.pb_norm.proofs.NetForm.{same_nets}
use Rattle.pb_norm.proofs.WrittenForm.{normal_terms-net, normal_terms-positive, normal_terms-ascending}

net-permutation : (half : Half) (ts us : List Term) → IsPermutation ts us → (v : ℕ) → net (half_terms half us) v ≡ net (half_terms half ts) v
net-permutation half ts us p v =
    let part : Term → ℤ = λ t. cond (t.lit.var == v) (signed_coef t) (pos 0) in
    int_sum_by-map part (turned_term half) us ∙ (int_sum_by-IsPermutation (λ t. part (turned_term half t)) ts us p ∙ sym (int_sum_by-map part (turned_term half) ts))

pub normal_terms-permutation : (half : Half) (ts us : List Term) → IsPermutation ts us → normal_terms (half_terms half us) ≡ normal_terms (half_terms half ts)
normal_terms-permutation half ts us p =
    let before = half_terms half ts in
    let after = half_terms half us in
    same_nets (normal_terms after) (normal_terms before) (normal_terms-positive after) (normal_terms-ascending after) (normal_terms-positive before) (normal_terms-ascending before)
    (λ v. normal_terms-net v after ∙ (net-permutation half ts us p v ∙ sym (normal_terms-net v before)))

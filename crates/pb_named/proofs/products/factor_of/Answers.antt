use Rattle.std.proofs.Common.{true, false, ◌≡◌, ◌∙◌, List, [], ◌∷◌, length, get_or, ap, sym, refl, arith}
use Rattle.pb_base.specs.declared.literal.Lit.{Lit}
use Rattle.pb_named.specs.declared.products.Factor.TheVariants.{Product}
use Rattle.pb_named.specs.Products.{factor_of, is_opposed}
use Rattle.pb_named.proofs.SetLemmas.{sorted-set, factor-one, factor-more}
use Rattle.pb_named.proofs.products.factor_of.Goals as goal

one-item : (ls : List Lit) (d : Lit) → length ls ≡ 1 → ls ≡ get_or ls 0 d ∷ []
one-item [] d one = absurd (omega (arith, one))
one-item (l ∷ []) d one = refl
one-item (k ∷ l ∷ ls) d one = absurd (omega (arith, one))

pub returns-then-as_slice-eq1 : goal.returns-then-as_slice-eq1
returns-then-as_slice-eq1 c =
    let zs = c.dedup.new.self.items in
    factor-one c.into_vec-set.result.items zs _ (sorted-set c.into_vec-set.result.items c.sort_unstable.new.self.items zs c.sort_unstable.ensures.permutation c.sort_unstable.ensures.sorted c.dedup.ensures.filtered)
    (one-item zs c.index.result.now (sym (ap length c.as_slice.ensures.value) ∙ c.if-as_slice-eq1.true) ∙ ap (λ (l : Lit). l ∷ []) (sym c.index.ensures)) ∙ ap factor_of c.into_vec-set.ensures

pub returns-then-is_opposed : goal.returns-then-is_opposed
returns-then-is_opposed c =
    factor-more c.into_vec-set.result.items c.dedup.new.self.items true (sorted-set c.into_vec-set.result.items c.sort_unstable.new.self.items c.dedup.new.self.items c.sort_unstable.ensures.permutation c.sort_unstable.ensures.sorted c.dedup.ensures.filtered) (λ one. c.if-as_slice-eq1.false (ap length c.as_slice.ensures.value ∙ one)) (ap is_opposed (sym c.as_slice-2.ensures.value) ∙ sym c.is_opposed.ensures ∙ c.if-is_opposed.true) ∙ ap factor_of c.into_vec-set.ensures

pub returns-else-is_opposed : goal.returns-else-is_opposed
returns-else-is_opposed c =
    ap Product c.from_vec.ensures ∙ factor-more c.into_vec-set.result.items c.dedup.new.self.items false (sorted-set c.into_vec-set.result.items c.sort_unstable.new.self.items c.dedup.new.self.items c.sort_unstable.ensures.permutation c.sort_unstable.ensures.sorted c.dedup.ensures.filtered) (λ one. c.if-as_slice-eq1.false (ap length c.as_slice.ensures.value ∙ one)) (ap is_opposed (sym c.as_slice-2.ensures.value) ∙ sym c.is_opposed.ensures ∙ c.if-is_opposed.false) ∙ ap factor_of c.into_vec-set.ensures

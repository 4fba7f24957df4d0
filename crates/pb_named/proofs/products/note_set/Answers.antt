use Rattle.std.proofs.Common.{◌∙◌, ap, map, refl}
use Rattle.pb_named.specs.Products.{same_product}
use Rattle.pb_named.proofs.FirstsLemmas.{insert-seen, place-seen, own-place}
use Rattle.pb_named.proofs.NumberLemmas.{same_product-refl}
use Rattle.pb_named.proofs.products.note_set.Goals as goal

pub returns-clause-noted : goal.returns-clause-noted
returns-clause-noted c = ap (map (λ s. s.items)) c.in_ok-place.ensures.keys ∙ insert-seen (λ s. s.items) _ same_product (λ a b. refl) c.args.sets.now.keys c.args.set

pub returns-clause-place : goal.returns-clause-place
returns-clause-place c =
    c.in_ok-place.ensures.index ∙ place-seen (λ s. s.items) _ same_product (λ a b. refl) c.args.sets.now.keys c.args.set ∙ own-place same_product same_product-refl (map (λ s. s.items) c.args.sets.now.keys) c.args.set.items

-- The bits of a level that are literals, term by term.
use Rattle.std.proofs.Common.{◌≡◌, ◌<◌, ◌≤◌, ◌+◌, ◌∙◌, ◌++◌, ◌∷◌, [], ℕ, List, append_assoc, ap, get_or, length, map, sym, take}
use Rattle.std.proofs.lemmas.List.{map-append, take_more, take_all}
use Rattle.std.proofs.lemmas.List.Elements.{filter-append}
use Rattle.pb_base.specs.declared.literal.Term.{Term}
use Rattle.pb_norm.specs.Constraints.{Weighted, weighted, weights}
use Rattle.pb_adder.specs.declared.gate.Wire.{Wire}
use Rattle.pb_adder.specs.declared.gate.Wire.TheVariants.{Input}
use Rattle.pb_adder.specs.Network.{has_bit, inputs_at}

inputs_both : (ts us : List Weighted) (level : ℕ) → inputs_at (ts ++ us) level ≡ inputs_at ts level ++ inputs_at us level
inputs_both ts us level = ap (map (λ (t : Weighted). Input t.lit)) (filter-append (has_bit level) ts us) ∙ map-append (λ (t : Weighted). Input t.lit) _ _

pub inputs_next : (ts : List Term) (i : ℕ) (t : Term) (level : ℕ) (start made next : List Wire) → i < length ts → t ≡ get_or ts i t → made ≡ start ++ inputs_at (weights (take i ts)) level → next ≡ made ++ inputs_at (weights (t ∷ [])) level
    → next ≡ start ++ inputs_at (weights (take (i + 1) ts)) level
inputs_next ts i t level start made next within is so_far added =
    let more = take_more ts i t within ∙ ap (λ (u : Term). take i ts ++ u ∷ []) (sym is) in
    let last = inputs_at (weights (t ∷ [])) level in
    added
    ∙ ap (λ (ws : List Wire). ws ++ last) so_far
    ∙ append_assoc start (inputs_at (weights (take i ts)) level) last
    ∙ ap (λ (ws : List Wire). start ++ ws)
    (sym (inputs_both (weights (take i ts)) (weights (t ∷ [])) level) ∙ ap (λ (us : List Weighted). inputs_at us level) (sym (ap weights more ∙ map-append weighted (take i ts) (t ∷ []))))

pub inputs_last : (ts : List Term) (i level : ℕ) (start made : List Wire) → length ts ≤ i → made ≡ start ++ inputs_at (weights (take i ts)) level → made ≡ start ++ inputs_at (weights ts) level
inputs_last ts i level start made all so_far = so_far ∙ ap (λ (us : List Term). start ++ inputs_at (weights us) level) (take_all i ts all)

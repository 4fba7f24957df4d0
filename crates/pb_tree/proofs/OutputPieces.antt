-- What the outputs of a node mean, one after another.
use Rattle.std.proofs.Common.{◌≡◌, ◌+◌, ℕ, suc, List, [], ◌∷◌, length, map, get_or, refl, ap, ◌∙◌, arith}
use Rattle.std.specs.Prelude.{slice_index}
use Rattle.std.specs.List.{range_with_len}
use Rattle.pb_base.specs.declared.literal.Lit.{Lit}
use Rattle.pb_norm.specs.Constraints.{Weighted}
use Rattle.pb_derive.specs.Reifications.{Reification, reification_steps}
use Rattle.pb_family.specs.Fresh.{fresh_at}
use Rattle.pb_family.proofs.Looping.{ArePieces}
use Rattle.pb_family.proofs.Sequence.{reification_ids, reification_piece, reification_pieces}
use Rattle.pb_tree.specs.TreeSteps.{reifications_from}

-- that of the value at a place
abbrev pub output_reification : ℕ → List Weighted → List ℕ → ℕ → Reification
output_reification first ts us place = record { var = first + place; sum = ts; least = slice_index us place }

outputs_from : (first : ℕ) (ts : List Weighted) (us all : List ℕ) (var a : ℕ) → var ≡ first + a → ((k : ℕ) → get_or us k 0 ≡ get_or all (a + k) 0)
    → reifications_from var ts us ≡ map (output_reification first ts all) (range_with_len a (length us))
outputs_from first ts [] all var a is same = refl
outputs_from first ts (u ∷ us) all var a is same =
    let here : u ≡ get_or all a 0 = same 0 ∙ ap (λ (n : ℕ). get_or all n 0) (let e : a + 0 ≡ a = omega arith in e) in
    let rest = outputs_from first ts us all (var + 1) (a + 1) (let e : var + 1 ≡ first + (a + 1) = omega (arith, is) in e)
    (λ k. same (suc k) ∙ ap (λ (n : ℕ). get_or all n 0) (let e : a + suc k ≡ a + 1 + k = omega arith in e)) in
    λ i. record { var = is i; sum = ts; least = here i } ∷ rest i

pub outputs_are : (first : ℕ) (ts : List Weighted) (us : List ℕ) → ArePieces (λ next. reification_steps next (reifications_from first ts us)) (reification_piece (output_reification first ts us)) 2 (length us)
outputs_are first ts us = record {
  same = λ next.
      ap (reification_steps next) (outputs_from first ts us us first 0 (let e : first ≡ first + 0 = omega arith in e) (λ k. ap (λ (n : ℕ). get_or us n 0) (let e : k ≡ 0 + k = omega arith in e)))
      ∙ reification_pieces (output_reification first ts us) next 0 (length us);
  ids = λ next k. reification_ids next (output_reification first ts us k);
}

-- as the code names its variable and its value
pub output_named : (first : ℕ) (ts : List Weighted) (us : List ℕ) (id k : ℕ) (l : Lit) (least : ℕ) → l ≡ fresh_at first k → least ≡ slice_index us k
    → reification_steps id (record { var = l.var; sum = ts; least = least } ∷ []) ≡ reification_piece (output_reification first ts us) id k
output_named first ts us id k l least at is = λ i. reification_steps id (record { var = (at i).var; sum = ts; least = is i } ∷ [])

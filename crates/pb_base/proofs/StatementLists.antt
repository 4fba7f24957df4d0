-- Statements whose terms stand in one list.
use Rattle.std.proofs.Common.{◌≡◌, ℕ, ◌+◌, List, [], ◌∷◌, ◌++◌, take, drop, length, arith, refl, ap, suc, ◌∙◌, length-drop}
use Rattle.std.proofs.lemmas.List.{take-append-le, drop-append-le, take_all}
use Rattle.std.proofs.lemmas.List.Sums.{sum_by-cons}
use Rattle.pb_base.specs.declared.literal.Term.{Term}
use Rattle.pb_base.specs.declared.problem.Raw.{Raw}
use Rattle.pb_base.specs.declared.heads.Head.{Head}
use Rattle.pb_base.specs.Statements.{statements_in, term_count}

pub statement_count : (hs : List Head) (ts : List Term) → length (statements_in hs ts) ≡ length hs
statement_count [] ts = refl
statement_count (h ∷ hs) ts = ap (λ (n : ℕ). suc n) (statement_count hs (drop h.terms ts))

-- one statement more
pub statements-push : (hs : List Head) (h : Head) (ts more : List Term) → length ts ≡ term_count hs → h.terms ≡ length more → statements_in (hs ++ h ∷ []) (ts ++ more) ≡ statements_in hs ts ++ record { terms = more; relation = h.relation; right = h.right } ∷ []
statements-push [] h [] more counted own =
    ap (λ (us : List Term). record { terms = us; relation = h.relation; right = h.right } ∷ []) (take_all h.terms more (omega (arith, own)))
statements-push [] h (t ∷ ts) more counted own = absurd (omega (arith, counted))
statements-push (k ∷ hs) h ts more counted own =
    let all : length ts ≡ k.terms + term_count hs = counted ∙ sum_by-cons (λ (g : Head). g.terms) k hs in
    let front = take-append-le k.terms ts more (omega (arith, all)) in
    let behind = drop-append-le k.terms ts more (omega (arith, all)) in
    let rest = statements-push hs h (drop k.terms ts) more (omega (arith, all, length-drop k.terms ts)) own in
    (λ i. record { terms = front i; relation = k.relation; right = k.right } ∷ statements_in (hs ++ h ∷ []) (behind i))
    ∙ ap (λ (ss : List Raw). record { terms = take k.terms ts; relation = k.relation; right = k.right } ∷ ss) rest

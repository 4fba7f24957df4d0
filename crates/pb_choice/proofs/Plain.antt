-- Literals of ascending variables are no tautology.
use Rattle.std.proofs.Common.{◌≡◌, ◌≢◌, ◌<◌, false, List, [], ◌∷◌, refl, sym, arith, get_or}
use Rattle.std.specs.Prelude.{All}
use Rattle.std.specs.List.{list_any}
use Rattle.std.proofs.lemmas.Bool.{or_from}
use Rattle.std.proofs.lemmas.List.Elements.{All-nil, All-cons, All-head, All-tail, All-weaker}
use Rattle.pb_base.specs.declared.literal.Lit.{Lit}
use Rattle.pb_base.specs.Literals.{negated, is_same, is_among}
use Rattle.pb_base.proofs.LiteralLemmas.{is_same-negated, is_same-other_var}
use Rattle.pb_base.proofs.Pairs.{AllPairs-head, AllPairs-tail}
use Rattle.pb_norm.specs.ClauseForm.{is_tautology}
use Rattle.pb_norm.specs.Constraints.{Weighted, IsAscending}
use Rattle.pb_norm.specs.Reduction.{lits_of}
use Rattle.pb_norm.proofs.AdditionOrder.{Before}

-- the negation of each literal of the first terms is not among the others
abbrev Opposed : List Weighted → List Lit → Type 0
Opposed us ls = All (λ u. is_among ls (negated u.lit) ≡ false) us

none_passes : (ls : List Lit) (us : List Weighted) → Opposed us ls → list_any {X = Lit} (λ l. is_among ls (negated l)) (lits_of us) ≡ false
none_passes ls [] h = refl
none_passes ls (u ∷ us) h =
    let Absent : Weighted → Type 0 = λ u. is_among ls (negated u.lit) ≡ false in
    or_from (is_among ls (negated u.lit)) (list_any {X = Lit} (λ l. is_among ls (negated l)) (lits_of us)) (All-head Absent u us h) (none_passes ls us (All-tail Absent u us h))

others_absent : (l : Lit) (us : List Weighted) → All (λ u. l.var ≢ u.lit.var) us → is_among (lits_of us) l ≡ false
others_absent l [] h = refl
others_absent l (u ∷ us) h =
    let Other : Weighted → Type 0 = λ u. l.var ≢ u.lit.var in
    or_from (is_same u.lit l) (is_among (lits_of us) l) (is_same-other_var u.lit l (λ e. All-head Other u us h (sym e))) (others_absent l us (All-tail Other u us h))

all_opposed : (ts : List Weighted) → IsAscending ts → Opposed ts (lits_of ts)
all_opposed [] up = All-nil (λ (u : Weighted). is_among [] (negated u.lit) ≡ false)
all_opposed (t ∷ ts) up =
    let Absent : Weighted → Type 0 = λ u. is_among (t.lit ∷ lits_of ts) (negated u.lit) ≡ false in
    let above = AllPairs-head Before t ts up in
    let later = all_opposed ts (AllPairs-tail Before t ts up) in
    All-cons Absent t ts
    (or_from (is_same t.lit (negated t.lit)) (is_among (lits_of ts) (negated t.lit)) (is_same-negated t.lit)
    (others_absent (negated t.lit) ts (All-weaker (λ (u : Weighted). t.lit.var < u.lit.var) (λ (u : Weighted). t.lit.var ≢ u.lit.var) (λ u less e. omega (arith, less, e)) ts above)))
    (λ k d w. or_from (is_same t.lit (negated (get_or ts k d).lit)) (is_among (lits_of ts) (negated (get_or ts k d).lit))
    (is_same-other_var t.lit (negated (get_or ts k d).lit) (λ e. omega (arith, above k d w, e))) (later k d w))

pub ascending_plain : (ts : List Weighted) → IsAscending ts → is_tautology (lits_of ts) ≡ false
ascending_plain ts up = none_passes (lits_of ts) ts (all_opposed ts up)

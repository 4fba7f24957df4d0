-- Statements in columns, of which some are kept whole.
use Rattle.std.proofs.Common.{◌≡◌, ℕ, zero, suc, ◌+◌, ◌<◌, ◌≤◌, Option, get_or, append_assoc, Bool, true, false, cond, List, [], ◌∷◌, ◌++◌, map, take, drop, length, arith, refl, ap, sym, ◌∙◌, subst, length-drop, append-nil}
use Rattle.std.specs.Prelude.{◌==◌}
use Rattle.std.specs.List.{flat_map}
use Rattle.std.proofs.lemmas.List.{take-append-le, drop-append-le, take_all, take_more, take-append-drop, length-append, take-map, drop-map}
use Rattle.std.proofs.Math.Seq.{drop-nil, take-append_seam}
use Rattle.std.proofs.lemmas.List.Sums.{sum_by-cons, sum_by-append}
use Rattle.std.proofs.lemmas.Bool.{eqb-true}
use Rattle.std.proofs.lemmas.Bool.Decides.{nat_tests}
use Rattle.pb_base.specs.declared.literal.Term.{Term}
use Rattle.pb_base.specs.declared.heads.Head.{Head}
use Rattle.pb_base.specs.Statements.{term_count, statements_in}
use Rattle.pb_base.specs.declared.literal.Lit.{Lit}
use Rattle.pb_base.specs.declared.problem.Raw.{Raw}
use Rattle.pb_named.specs.NamedTerms.{NamedTerm}
use Rattle.pb_named.specs.NamedProblems.{Table, terms_of, statement_of, products_in}
use Rattle.pb_named.specs.declared.named.NamedStatement.{NamedStatement}
use Rattle.pb_named.specs.inner.Columns.{listed, named_term, is_free, name_next, names_next, term_by, named_terms, one_if, free_count, StandsFor, named_statement, first_or_none, terms_next, wholes_next, named_in, whole_one, whole_count, AreColumns, AddsPlain}

-- ---- free names beside terms

pub named_terms-length : (ts : List Term) (names : List (List ℕ)) → length (named_terms ts names) ≡ length ts
named_terms-length [] names = refl
named_terms-length (t ∷ ts) names = ap (λ (n : ℕ). suc n) (named_terms-length ts (names_next (is_free t) names))

-- what more names behind those change of the first term: nothing
name-stays : (b : Bool) (n : ℕ) (names more : List (List ℕ)) → one_if b ≤ length names → (name_next b n (names ++ more) ≡ name_next b n names) × (names_next b (names ++ more) ≡ names_next b names ++ more)
name-stays false n names more enough = (refl, refl)
name-stays true n [] more enough = absurd (omega (arith, enough))
name-stays true n (text ∷ names) more enough = (refl, refl)

names-left : (b : Bool) (names : List (List ℕ)) → one_if b ≤ length names → length names ≡ one_if b + length (names_next b names)
names-left false names enough = omega arith
names-left true [] enough = absurd (omega (arith, enough))
names-left true (text ∷ names) enough = omega arith

count-cons : (t : Term) (ts : List Term) → free_count (t ∷ ts) ≡ one_if (is_free t) + free_count ts
count-cons t ts = sum_by-cons (λ (u : Term). one_if (is_free u)) t ts

count-append : (ts us : List Term) → free_count (ts ++ us) ≡ free_count ts + free_count us
count-append ts us = sum_by-append (λ (u : Term). one_if (is_free u)) ts us

pub named-append : (ts us : List Term) (names more : List (List ℕ)) → length names ≡ free_count ts → named_terms (ts ++ us) (names ++ more) ≡ named_terms ts names ++ named_terms us more
named-append [] us [] more is = refl
named-append [] us (text ∷ names) more is = absurd (omega (arith, is))
named-append (t ∷ ts) us names more is =
    let all = is ∙ count-cons t ts in
    let stays = name-stays (is_free t) t.lit.var names more (omega (arith, all)) in
    let left = names-left (is_free t) names (omega (arith, all)) in
    (λ i. record { coef = t.coef; lit = record { name = stays.0 i; positive = t.lit.positive }; more = [] } ∷ named_terms (ts ++ us) (stays.1 i))
    ∙ ap (λ (ns : List NamedTerm). term_by t names ∷ ns) (named-append ts us (names_next (is_free t) names) more (omega (arith, all, left)))

pub named-take : (n : ℕ) (ts : List Term) (names : List (List ℕ)) → named_terms (take n ts) names ≡ take n (named_terms ts names)
named-take zero [] names = refl
named-take zero (t ∷ ts) names = refl
named-take (suc n) [] names = refl
named-take (suc n) (t ∷ ts) names = ap (λ (ns : List NamedTerm). term_by t names ∷ ns) (named-take n ts (names_next (is_free t) names))

drop-next : (b : Bool) (k : ℕ) (names : List (List ℕ)) → drop (one_if b + k) names ≡ drop k (names_next b names)
drop-next false k names = let same : one_if false + k ≡ k = omega arith in ap (λ (n : ℕ). drop n names) same
drop-next true k [] = drop-nil (1 + k) ∙ sym (drop-nil k)
drop-next true k (text ∷ names) = let same : one_if true + k ≡ suc k = omega arith in ap (λ (n : ℕ). drop n (text ∷ names)) same

pub named-drop : (n : ℕ) (ts : List Term) (names : List (List ℕ)) → named_terms (drop n ts) (drop (free_count (take n ts)) names) ≡ drop n (named_terms ts names)
named-drop zero [] names = refl
named-drop zero (t ∷ ts) names = refl
named-drop (suc n) [] names = refl
named-drop (suc n) (t ∷ ts) names =
    ap (λ (k : ℕ). named_terms (drop n ts) (drop k names)) (count-cons t (take n ts))
    ∙ ap (named_terms (drop n ts)) (drop-next (is_free t) (free_count (take n ts)) names)
    ∙ named-drop n ts (names_next (is_free t) names)

count-parts : (n : ℕ) (ts : List Term) → free_count (take n ts) + free_count (drop n ts) ≡ free_count ts
count-parts n ts = sym (count-append (take n ts) (drop n ts)) ∙ ap free_count (take-append-drop n ts)

-- where no name is free, they are the terms in numbers
pub none-free : (ts : List Term) (names : List (List ℕ)) → free_count ts ≡ 0 → named_terms ts names ≡ map named_term ts
none-free [] names none = refl
none-free (t ∷ ts) names none = first (is_free t) refl (none-free ts names)
  where
    first : (b : Bool) → is_free t ≡ b → (free_count ts ≡ 0 → named_terms ts names ≡ map named_term ts) → named_terms (t ∷ ts) names ≡ map named_term (t ∷ ts)
    first true is rest = absurd (omega (arith, none, count-cons t ts, ap one_if is))
    first false is rest =
        (λ i. record { coef = t.coef; lit = record { name = name_next (is i) t.lit.var names; positive = t.lit.positive }; more = [] } ∷ named_terms ts (names_next (is i) names))
        ∙ ap (λ (ns : List NamedTerm). named_term t ∷ ns) (rest (omega (arith, none, count-cons t ts)))

-- one term more
pub adds-more : (before now after : List Term) (names names_now names_after : List (List ℕ)) (xs : List NamedTerm) (i : ℕ) (x : NamedTerm) (t : Term) (o : Option (List ℕ)) → i < length xs → x ≡ get_or xs i x →
    AddsPlain before now names names_now (take i xs) → StandsFor t o x → after ≡ now ++ t ∷ [] → names_after ≡ names_now ++ listed o → AddsPlain before after names names_after (take (i + 1) xs)
adds-more before now after names names_now names_after xs i x t o inside item adds stands terms_are names_are =
    let taken : take (i + 1) xs ≡ take i xs ++ x ∷ [] = take_more xs i x inside ∙ ap (λ (y : NamedTerm). take i xs ++ y ∷ []) (sym item) in
    record {
      added = adds.added ++ t ∷ [];
      free = adds.free ++ listed o;
      is = terms_are ∙ ap (λ (us : List Term). us ++ t ∷ []) adds.is ∙ append_assoc before adds.added (t ∷ []);
      frees = names_are ∙ ap (λ (ns : List (List ℕ)). ns ++ listed o) adds.frees ∙ append_assoc names adds.free (listed o);
      counted = omega (arith, length-append adds.free (listed o), adds.counted, stands.1, count-append adds.added (t ∷ []), count-cons t []);
      named = named-append adds.added (t ∷ []) adds.free (listed o) adds.counted ∙ (λ j. adds.named j ++ stands.0 j ∷ []) ∙ sym taken;
    }

pub adds-none : (ts : List Term) (names : List (List ℕ)) (xs : List NamedTerm) → AddsPlain ts ts names names (take 0 xs)
adds-none ts names [] = record { added = []; free = []; is = sym (append-nil ts); frees = sym (append-nil names); counted = refl; named = refl }
adds-none ts names (x ∷ xs) = record { added = []; free = []; is = sym (append-nil ts); frees = sym (append-nil names); counted = refl; named = refl }

-- what begins with a longer list begins with the shorter
pub keeps-front : {X : Type 0} (a b c d : List X) → take (length b) c ≡ b → b ≡ a ++ d → take (length a) c ≡ a
keeps-front {X} a b c d before is =
    let behind = drop (length b) c in
    let whole : c ≡ a ++ (d ++ behind) = sym (take-append-drop (length b) c) ∙ ap (λ (w : List X). w ++ behind) (before ∙ is) ∙ append_assoc a d behind in
    ap (take (length a)) whole ∙ take-append_seam a (d ++ behind)

-- terms more make those that they stand for
pub adds-named : (ts more : List Term) (names frees : List (List ℕ)) (ns : List NamedTerm) → length names ≡ free_count ts → AddsPlain ts more names frees ns → named_terms more frees ≡ named_terms ts names ++ ns
adds-named ts more names frees ns known adds = (λ i. named_terms (adds.is i) (adds.frees i)) ∙ named-append ts adds.added names adds.free known ∙ ap (λ (ms : List NamedTerm). named_terms ts names ++ ms) adds.named

pub adds-counted : (ts more : List Term) (names frees : List (List ℕ)) (ns : List NamedTerm) → length names ≡ free_count ts → AddsPlain ts more names frees ns → length frees ≡ free_count more
adds-counted ts more names frees ns known adds =
    omega (arith, known, ap length adds.frees, length-append names adds.free, adds.counted, ap free_count adds.is, count-append ts adds.added)

-- ---- statements

pub named_count : (hs : List Head) (ts : List NamedTerm) (ws : List (List NamedTerm)) → length (named_in hs ts ws) ≡ length hs
named_count [] ts ws = refl
named_count (h ∷ hs) ts ws = ap (λ (n : ℕ). suc n) (named_count hs (drop h.terms ts) (wholes_next h.terms ws))

-- what one more of either list changes of the first statement: nothing
first-stays : (empty : Bool) (n : ℕ) (ts more : List NamedTerm) (ws others : List (List NamedTerm)) → n ≤ length ts → cond empty 1 0 ≤ length ws →
    (cond empty (first_or_none (ws ++ others)) (take n (ts ++ more)) ≡ cond empty (first_or_none ws) (take n ts)) × (cond empty (drop 1 (ws ++ others)) (ws ++ others) ≡ cond empty (drop 1 ws) ws ++ others)
first-stays false n ts more ws others enough some = (take-append-le n ts more enough, refl)
first-stays true n ts more [] others enough some = absurd (omega (arith, some))
first-stays true n ts more (w ∷ ws) others enough some = (refl, refl)

-- what the first statement takes is there, and the rest is of the others
pub record HasNext (h : Head) (hs : List Head) (ts : List NamedTerm) (ws : List (List NamedTerm)) : Type 0 where
  pub terms : h.terms ≤ length ts
  pub whole : whole_one h.terms ≤ length ws
  pub rest : AreColumns hs (drop h.terms ts) (wholes_next h.terms ws)

pub columns-next : (h : Head) (hs : List Head) (ts : List NamedTerm) (ws : List (List NamedTerm)) → AreColumns (h ∷ hs) ts ws → HasNext h hs ts ws
columns-next h hs ts ws are =
    let all : length ts ≡ h.terms + term_count hs = are.counted ∙ sum_by-cons (λ (g : Head). g.terms) h hs in
    let wholes : length ws ≡ whole_one h.terms + whole_count hs = are.wholes ∙ sum_by-cons (λ (g : Head). whole_one g.terms) h hs in
    record {
      terms = omega (arith, all);
      whole = omega (arith, wholes);
      rest = record { counted = omega (arith, all, length-drop h.terms ts); wholes = left (h.terms == 0) wholes };
    }
  where
    left : (empty : Bool) → length ws ≡ cond empty 1 0 + whole_count hs → length (cond empty (drop 1 ws) ws) ≡ whole_count hs
    left true is = omega (arith, is, length-drop 1 ws)
    left false is = omega (arith, is)

-- one statement more
pub named-push : (hs : List Head) (h : Head) (ts more : List NamedTerm) (ws others : List (List NamedTerm)) → AreColumns hs ts ws →
    named_in (hs ++ h ∷ []) (ts ++ more) (ws ++ others) ≡ named_in hs ts ws ++ record { terms = terms_next h.terms more others; relation = h.relation; right = h.right } ∷ []
named-push [] h [] more [] others are = refl
named-push [] h (t ∷ ts) more ws others are = absurd (omega (arith, are.counted))
named-push [] h [] more (w ∷ ws) others are = absurd (omega (arith, are.wholes))
named-push (k ∷ hs) h ts more ws others are =
    let next = columns-next k hs ts ws are in
    let stays = first-stays (k.terms == 0) k.terms ts more ws others next.terms next.whole in
    let behind = drop-append-le k.terms ts more next.terms in
    (λ i. record { terms = stays.0 i; relation = k.relation; right = k.right } ∷ named_in (hs ++ h ∷ []) (behind i) (stays.1 i))
    ∙ ap (λ (ss : List NamedStatement). record { terms = terms_next k.terms ts ws; relation = k.relation; right = k.right } ∷ ss) (named-push hs h (drop k.terms ts) more (wholes_next k.terms ws) others next.rest)

-- one more whose terms stand in little room, or are kept whole
pub plain-push : (hs : List Head) (h : Head) (ts : List NamedTerm) (ws : List (List NamedTerm)) (ns : List NamedTerm) → AreColumns hs ts ws → 1 ≤ h.terms → h.terms ≡ length ns →
    named_in (hs ++ h ∷ []) (ts ++ ns) ws ≡ named_in hs ts ws ++ record { terms = ns; relation = h.relation; right = h.right } ∷ []
plain-push hs h ts ws ns are some own =
    (λ i. named_in (hs ++ h ∷ []) (ts ++ ns) (sym (append-nil ws) i))
    ∙ named-push hs h ts ns ws [] are
    ∙ ap (λ (ms : List NamedTerm). named_in hs ts ws ++ record { terms = ms; relation = h.relation; right = h.right } ∷ []) (here (h.terms == 0) refl)
  where
    here : (empty : Bool) → (h.terms == 0) ≡ empty → cond empty [] (take h.terms ns) ≡ ns
    here true is = absurd (omega (arith, some, eqb-true h.terms 0 is))
    here false is = take_all h.terms ns (omega (arith, own))

pub whole-push : (hs : List Head) (h : Head) (ts : List NamedTerm) (ws : List (List NamedTerm)) (ns : List NamedTerm) → AreColumns hs ts ws → h.terms ≡ 0 →
    named_in (hs ++ h ∷ []) ts (ws ++ ns ∷ []) ≡ named_in hs ts ws ++ record { terms = ns; relation = h.relation; right = h.right } ∷ []
whole-push hs h ts ws ns are none =
    ap (λ (us : List NamedTerm). named_in (hs ++ h ∷ []) us (ws ++ ns ∷ [])) (sym (append-nil ts))
    ∙ named-push hs h ts [] ws (ns ∷ []) are
    ∙ ap (λ (n : ℕ). named_in hs ts ws ++ record { terms = terms_next n [] (ns ∷ []); relation = h.relation; right = h.right } ∷ []) none

-- where none is kept whole and no name is free, all are of numbered variables
numbered-all : (hs : List Head) (ts : List Term) (ws : List (List NamedTerm)) → AreColumns hs (map named_term ts) ws → length ws ≡ 0 → map named_statement (statements_in hs ts) ≡ named_in hs (map named_term ts) ws
numbered-all [] ts ws are none = refl
numbered-all (h ∷ hs) ts ws are none =
    here (h.terms == 0) refl (λ rest. numbered-all hs (drop h.terms ts) ws (subst (λ (ns : List NamedTerm). AreColumns hs ns ws) (drop-map named_term h.terms ts) rest) none)
  where
    next : HasNext h hs (map named_term ts) ws
    next = columns-next h hs (map named_term ts) ws are

    here : (empty : Bool) → (h.terms == 0) ≡ empty → (AreColumns hs (drop h.terms (map named_term ts)) ws → map named_statement (statements_in hs (drop h.terms ts)) ≡ named_in hs (map named_term (drop h.terms ts)) ws) →
        map named_statement (statements_in (h ∷ hs) ts) ≡ record { terms = cond empty (first_or_none ws) (take h.terms (map named_term ts)); relation = h.relation; right = h.right } ∷ named_in hs (drop h.terms (map named_term ts)) (cond empty (drop 1 ws) ws)
    here true is others = absurd (omega (arith, none, subst (λ (b : Bool). cond b 1 0 ≤ length ws) is next.whole))
    here false is others =
        (λ i. record { terms = sym (take-map named_term h.terms ts) i; relation = h.relation; right = h.right } ∷ others (subst (λ (b : Bool). AreColumns hs (drop h.terms (map named_term ts)) (cond b (drop 1 ws) ws)) is next.rest) i)
        ∙ ap (λ (ns : List NamedTerm). record { terms = take h.terms (map named_term ts); relation = h.relation; right = h.right } ∷ named_in hs ns ws) (sym (drop-map named_term h.terms ts))

pub all-plain : (hs : List Head) (ts : List Term) (names : List (List ℕ)) (ws : List (List NamedTerm)) → AreColumns hs (named_terms ts names) ws → length names ≡ free_count ts → length names ≡ 0 → length ws ≡ 0 →
    map named_statement (statements_in hs ts) ≡ named_in hs (named_terms ts names) ws
all-plain hs ts names ws are known nameless none =
    let same = none-free ts names (omega (arith, known, nameless)) in
    numbered-all hs ts ws (subst (λ (ns : List NamedTerm). AreColumns hs ns ws) same are) none ∙ ap (λ (ns : List NamedTerm). named_in hs ns ws) (sym same)

-- what a reader finds at its next statement, and behind it
pub record HasPlain (n : ℕ) (ts : List Term) (names : List (List ℕ)) : Type 0 where
  pub terms : named_terms (take n ts) names ≡ take n (named_terms ts names)
  pub counted : free_count (take n ts) ≤ length names
  pub rest : named_terms (drop n ts) (drop (free_count (take n ts)) names) ≡ drop n (named_terms ts names)
  pub left : free_count (drop n ts) ≤ length (drop (free_count (take n ts)) names)

pub plain-next : (n : ℕ) (ts : List Term) (names : List (List ℕ)) → free_count ts ≤ length names → HasPlain n ts names
plain-next n ts names enough = record {
  terms = named-take n ts names;
  counted = omega (arith, enough, count-parts n ts);
  rest = named-drop n ts names;
  left = omega (arith, enough, count-parts n ts, length-drop (free_count (take n ts)) names);
}

unempty : (n : ℕ) → 1 ≤ n → (n == 0) ≡ false
unempty n some = grind (arith, nat_tests)

-- where the next statement stands in little room: what a reader that goes ahead for the names gives, and what is left
pub record ReadsPlain (heads : List Head) (h : Head) (hs : List Head) (ts front behind ahead : List Term) (names left : List (List ℕ)) (ws : List (List NamedTerm)) : Type 0 where
  pub rest : AreColumns hs (named_terms behind left) ws × (free_count behind ≤ length left) × (ahead ≡ behind)
  pub steps : named_in heads (named_terms ts names) ws ≡ record { terms = named_terms front names; relation = h.relation; right = h.right } ∷ named_in hs (named_terms behind left) ws

pub reads-plain : (heads : List Head) (h : Head) (hs : List Head) (ts ahead front behind front_ahead behind_ahead : List Term) (names left : List (List ℕ)) (ws : List (List NamedTerm)) →
    heads ≡ h ∷ hs → AreColumns heads (named_terms ts names) ws × (free_count ts ≤ length names) × (ahead ≡ ts) → 1 ≤ h.terms → front ≡ take h.terms ts → behind ≡ drop h.terms ts → front_ahead ≡ take h.terms ahead → behind_ahead ≡ drop h.terms ahead →
    left ≡ drop (free_count front_ahead) names → ReadsPlain heads h hs ts front behind behind_ahead names left ws
reads-plain heads h hs ts ahead front behind front_ahead behind_ahead names left ws is inv some front_is behind_is front_ahead_is behind_ahead_is left_is =
    let all = named_terms ts names in
    let next = columns-next h hs all ws (subst (λ (gs : List Head). AreColumns gs all ws) is inv.0) in
    let plain = plain-next h.terms ts names inv.1 in
    let full = unempty h.terms some in
    let names_is : left ≡ drop (free_count (take h.terms ts)) names = left_is ∙ ap (λ (us : List Term). drop (free_count us) names) (front_ahead_is ∙ ap (take h.terms) inv.2) in
    let rest : named_terms behind left ≡ drop h.terms all = (λ i. named_terms (behind_is i) (names_is i)) ∙ plain.rest in
    let first : terms_next h.terms all ws ≡ named_terms front names = ap (λ (b : Bool). cond b (first_or_none ws) (take h.terms all)) full ∙ sym plain.terms ∙ ap (λ (us : List Term). named_terms us names) (sym front_is) in
    let wholes : wholes_next h.terms ws ≡ ws = ap (λ (b : Bool). cond b (drop 1 ws) ws) full in
    record {
      rest = (
        subst (λ (ns : List NamedTerm). AreColumns hs ns ws) (sym rest) (subst (λ (vs : List (List NamedTerm)). AreColumns hs (drop h.terms all) vs) wholes next.rest),
        omega (arith, ap free_count behind_is, ap length names_is, plain.left),
        behind_ahead_is ∙ ap (drop h.terms) inv.2 ∙ sym behind_is,
      );
      steps = ap (λ (gs : List Head). named_in gs all ws) is ∙ (λ i. record { terms = first i; relation = h.relation; right = h.right } ∷ named_in hs (sym rest i) (wholes i));
    }

pub reads-enough : (heads : List Head) (h : Head) (hs : List Head) (ts : List Term) (names : List (List ℕ)) (ws : List (List NamedTerm)) → heads ≡ h ∷ hs → AreColumns heads (named_terms ts names) ws → h.terms ≤ length ts
reads-enough heads h hs ts names ws is are =
    let next = columns-next h hs (named_terms ts names) ws (subst (λ (gs : List Head). AreColumns gs (named_terms ts names) ws) is are) in
    omega (arith, next.terms, named_terms-length ts names)

-- the names behind a term's, and those behind the others
pub names-step : (t : Term) (ts rest : List Term) (names left : List (List ℕ)) → ts ≡ t ∷ rest → is_free t ≡ true → free_count ts ≤ length names → left ≡ drop 1 names → (free_count rest ≤ length left) × (drop (free_count rest) left ≡ drop (free_count ts) names)
names-step t ts rest names left is free enough behind = (
  omega (arith, enough, ap free_count is, count-cons t rest, ap one_if free, ap length behind, length-drop 1 names),
  ap (drop (free_count rest)) behind ∙ sym (drop-next true (free_count rest) names) ∙ ap (λ (k : ℕ). drop k names) (ap (λ (b : Bool). one_if b + free_count rest) (sym free) ∙ sym (count-cons t rest) ∙ ap free_count (sym is)),
)

pub names-some : (t : Term) (ts rest : List Term) (names : List (List ℕ)) → ts ≡ t ∷ rest → is_free t ≡ true → free_count ts ≤ length names → 1 ≤ length names
names-some t ts rest names is free enough = omega (arith, enough, ap free_count is, count-cons t rest, ap one_if free)

-- one statement more in the columns
pub plain-columns : (hs : List Head) (h : Head) (ts ns : List NamedTerm) (ws : List (List NamedTerm)) → AreColumns hs ts ws → 1 ≤ h.terms → h.terms ≡ length ns → AreColumns (hs ++ h ∷ []) (ts ++ ns) ws
plain-columns hs h ts ns ws are some own = record {
  counted = omega (arith, are.counted, own, length-append ts ns, sum_by-append (λ (g : Head). g.terms) hs (h ∷ []), sum_by-cons (λ (g : Head). g.terms) h []);
  wholes = (
      let none : whole_one h.terms ≡ 0 = ap (λ (b : Bool). cond b 1 0) (unempty h.terms some) in
      omega (arith, are.wholes, none, sum_by-append (λ (g : Head). whole_one g.terms) hs (h ∷ []), sum_by-cons (λ (g : Head). whole_one g.terms) h []));
}

-- ---- numbered variables keep their numbers

plain-terms : (t : Table) (products : List (List Lit)) (ts : List Term) → terms_of t products (map named_term ts) ≡ ts
plain-terms t products [] = refl
plain-terms t products (u ∷ ts) = ap (λ (us : List Term). u ∷ us) (plain-terms t products ts)

pub plain-statements : (t : Table) (products : List (List Lit)) (ss : List Raw) → map (statement_of t products) (map named_statement ss) ≡ ss
plain-statements t products [] = refl
plain-statements t products (s ∷ ss) =
    let terms = plain-terms t products s.terms in
    let others = plain-statements t products ss in
    λ i. record { terms = terms i; relation = s.relation; right = s.right } ∷ others i

no-products : (t : Table) (ts : List Term) (ns : List NamedTerm) → products_in t (map named_term ts ++ ns) ≡ products_in t ns
no-products t [] ns = refl
no-products t (u ∷ ts) ns = no-products t ts ns

pub plain-products : (t : Table) (ss : List Raw) → products_in t (flat_map (λ s. s.terms) (map named_statement ss)) ≡ []
plain-products t [] = refl
plain-products t (s ∷ ss) = no-products t s.terms (flat_map (λ r. r.terms) (map named_statement ss)) ∙ plain-products t ss

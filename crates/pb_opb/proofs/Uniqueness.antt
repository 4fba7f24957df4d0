-- A text has one first fault.
use Rattle.std.proofs.Common.{◌≡◌, ◌⊎◌, inl, inr, ℕ, zero, suc, ◌≤◌, ◌<◌, ◌^◌, List, [], ◌∷◌, ◌++◌, map, Bool, true, false, Option, Some, None, IsTrue, sym, refl, ap, ◌∙◌, subst, arith, append_assoc, append-nil, ℤ, pos}
use Rattle.std.specs.Prelude.{IfSome, length}
use Rattle.std.specs.List.{AllByRecursion, flat_map}
use Rattle.std.proofs.lemmas.List.{map-append}
use Rattle.pb_base.specs.declared.place.Place.{Place}
use Rattle.pb_named.specs.declared.named.NamedLit.{NamedLit}
use Rattle.pb_named.specs.NamedTerms.{NamedTerm}
use Rattle.pb_named.specs.declared.named.NamedStatement.{NamedStatement}
use Rattle.pb_base.specs.declared.problem.Relation.TheVariants.{AtLeast}
use Rattle.pb_base.specs.Places.{end_of}
use Rattle.pb_base.specs.Tokens.{Piece, tokens_of}
use Rattle.pb_base.specs.Numbers.{integer_of}
use Rattle.pb_base.specs.declared.expected.Expected.{Expected}
use Rattle.pb_base.specs.declared.expected.Expected.TheVariants.{Start, Next, TermOrRelation, TermOrSemicolon, Literal, Integer, Semicolon}
use Rattle.pb_base.specs.declared.limit.LimitKind.{LimitKind}
use Rattle.pb_base.specs.declared.limit.LimitKind.TheVariants.{Statements, Terms, Weight, Variables, Name}
use Rattle.pb_opb.specs.declared.fault.OpbFault.{OpbFault}
use Rattle.pb_opb.specs.declared.fault.OpbFault.TheVariants.{Token, NoMemory, Limit}
use Rattle.pb_opb.specs.FirstLine.{Count, told as told_count}
use Rattle.pb_opb.specs.Grammar.{Kind, kind_of, named_literal, spelled, text_kinds, objective_kinds, statement_kinds}
use Rattle.pb_named.specs.declared.named.NamedProblem.{NamedProblem}
use Rattle.pb_opb.specs.Grammar.Kind.{minimise, integer, literal, relation, semicolon, end}
use Rattle.pb_opb.specs.Limits.{BeginsWithin, rank}
use Rattle.pb_opb.specs.Faults.{Symbol, symbol, kinds, Begins, allows, tells, Expects, IsManyAt, TellsTooMany, HasTooMany, IsAt, so_far, IsWrong, IsTooGreat, IsFirstFault}
use Rattle.pb_named.proofs.Appends.{all-behind}
use Rattle.pb_opb.proofs.Reading.{too_many, spells-no_fault}
use Rattle.pb_opb.proofs.Bounds.{of-kind, is_fixed}

-- one token stands before another
pub record Earlier (b : List Symbol) (s : Symbol) (c : List Symbol) : Type 0 where
  pub more : List Symbol
  pub is : c ≡ b ++ s ∷ more

earlier-more : (x y : Symbol) (b c : List Symbol) (s : Symbol) → x ≡ y → Earlier b s c → Earlier (x ∷ b) s (y ∷ c)
earlier-more x y b c s same e = record { more = e.more; is = (λ i. sym same i ∷ e.is i) }

cuts : (b c : List Symbol) (s t : Symbol) (x y : List Symbol) → b ++ s ∷ x ≡ c ++ t ∷ y → Earlier b s c ⊎ (Earlier c t b ⊎ ((b ≡ c) × (s ≡ t)))
cuts [] [] s t x y same = inr (inr (refl, cc))
cuts [] (d ∷ c) s t x y same = inl (record { more = c; is = cc })
cuts (d ∷ b) [] s t x y same = inr (inl (record { more = b; is = cc }))
cuts (d ∷ b) (e ∷ c) s t x y same =
    let heads : d ≡ e = cc in
    let tails : b ++ s ∷ x ≡ c ++ t ∷ y = cc in
    elim (cuts b c s t x y tails) as (λ _. Earlier (d ∷ b) s (e ∷ c) ⊎ (Earlier (e ∷ c) t (d ∷ b) ⊎ ((d ∷ b ≡ e ∷ c) × (s ≡ t)))) [
      | inl before ↦ inl (earlier-more d e b c s heads before)
      | inr other ↦ elim other as (λ _. Earlier (d ∷ b) s (e ∷ c) ⊎ (Earlier (e ∷ c) t (d ∷ b) ⊎ ((d ∷ b ≡ e ∷ c) × (s ≡ t)))) [
        | inl behind ↦ inr (inl (earlier-more e d c b t (sym heads) behind))
        | inr both ↦ inr (inr ((λ i. heads i ∷ both.0 i), both.1))
      ]
    ]

-- where reading stops: some limit can no longer be kept
pub record Stops (text : List ℕ) (place : Place) : Type 0 where
  pub at : IsAt text place
  pub which : LimitKind
  pub over : BeginsWithin which (so_far at) → ⊥

abbrev stop_of : {text : List ℕ} {place : Place} → Stops text place → Symbol
stop_of {text} {place} s = record { place = place; kind = s.at.here }

abbrev wrong-stops : (text : List ℕ) (place : Place) (e : Expected) → IsWrong text place e → Stops text place
wrong-stops text place e w = record { at = w.at; which = Weight; over = λ within. (let (p, rest, keeps, same) = within in w.wrong (p, rest, same)) }

abbrev great-stops : (text : List ℕ) (place : Place) (which : LimitKind) → IsTooGreat text place which → Stops text place
great-stops text place which g = record { at = g.at; which = which; over = g.over }

kinds-earlier : (b c : List Symbol) (s : Symbol) (e : Earlier b s c) → kinds c ≡ (kinds b ++ s.kind ∷ []) ++ kinds e.more
kinds-earlier b c s e = ap kinds e.is ∙ map-append (λ (z : Symbol). z.kind) b (s ∷ e.more) ∙ sym (append_assoc (kinds b) (s.kind ∷ []) (kinds e.more))

not-earlier : (text : List ℕ) (p q : Place) (s : Stops text p) (t : Stops text q) → Earlier s.at.before (stop_of s) t.at.before → ⊥
not-earlier text p q s t e =
    let (problem, rest, keeps, same) = t.at.fine s.which in
    s.over (problem, kinds e.more ++ rest, keeps, same ∙ ap (λ (ks : List Kind). ks ++ rest) (kinds-earlier s.at.before t.at.before (stop_of s) e) ∙ append_assoc (so_far s.at) (kinds e.more) rest)

same-stop : (text : List ℕ) (p q : Place) (s : Stops text p) (t : Stops text q) → (s.at.before ≡ t.at.before) × (stop_of s ≡ stop_of t)
same-stop text p q s t =
    elim (cuts s.at.before t.at.before (stop_of s) (stop_of t) s.at.after t.at.after (sym s.at.cut ∙ t.at.cut)) as (λ _. (s.at.before ≡ t.at.before) × (stop_of s ≡ stop_of t)) [
      | inl before ↦ absurd (not-earlier text p q s t before)
      | inr other ↦ elim other as (λ _. (s.at.before ≡ t.at.before) × (stop_of s ≡ stop_of t)) [
        | inl behind ↦ absurd (not-earlier text q p t s behind)
        | inr both ↦ both
      ]
    ]

same-place : (text : List ℕ) (p q : Place) (s : Stops text p) (t : Stops text q) → p ≡ q
same-place text p q s t = ap (λ (z : Symbol). z.place) (same-stop text p q s t).1

same-so_far : (text : List ℕ) (p q : Place) (s : Stops text p) (t : Stops text q) → so_far s.at ≡ so_far t.at
same-so_far text p q s t = let both = same-stop text p q s t in λ i. kinds (both.0 i) ++ (both.1 i).kind ∷ []

-- no token but the last is the end
abbrev is_end : Kind → Bool
is_end end = true
is_end _ = false

abbrev GoesOn : Symbol → Type 0
GoesOn s = is_end s.kind ≡ false

spelled-goes : (z : Option ℤ) (l : Option NamedLit) → is_end (spelled z l) ≡ false
spelled-goes (Some z) l = refl
spelled-goes None (Some l) = refl
spelled-goes None None = refl

fixed-goes : (k : Kind) → is_fixed k ≡ true → is_end k ≡ false
fixed-goes end h = cc
fixed-goes _ h = refl

word-goes : (word : List ℕ) → is_end (kind_of word) ≡ false
word-goes word = of-kind (λ k. is_end k ≡ false) word fixed-goes (spelled-goes (integer_of word) (named_literal word))

words-go : (ts : List Piece) (last : Symbol) (b : List Symbol) (s : Symbol) (x : List Symbol) → map symbol ts ++ last ∷ [] ≡ b ++ s ∷ x → AllByRecursion GoesOn b
words-go ts last [] s x same = tt
words-go [] last (d ∷ []) s x same = cc
words-go [] last (d ∷ e ∷ b) s x same = cc
words-go (t ∷ ts) last (d ∷ b) s x same =
    let head : symbol t ≡ d = cc in
    let tails : map symbol ts ++ last ∷ [] ≡ b ++ s ∷ x = cc in
    (subst GoesOn head (word-goes t.text), words-go ts last b s x tails)

kinds-go : (b : List Symbol) → AllByRecursion GoesOn b → AllByRecursion (λ k. is_end k ≡ false) (kinds b)
kinds-go [] h = tt
kinds-go (s ∷ b) h = (h.0, kinds-go b h.1)

pub record GoesBy (before : List Kind) : Type 0 where
  pub kind : Kind
  pub begins : Begins (before ++ kind ∷ [])

goes-by : (before : List Kind) (p : NamedProblem) (rest : List Kind) → AllByRecursion (λ k. is_end k ≡ false) before → text_kinds p ≡ before ++ rest → GoesBy before
goes-by before p (k ∷ rest) going same = record { kind = k; begins = (p, rest, same ∙ sym (append_assoc before (k ∷ []) rest)) }
goes-by before p [] going same =
    let whole : AllByRecursion (λ k. is_end k ≡ false) (text_kinds p) = subst (AllByRecursion (λ k. is_end k ≡ false)) (sym (append-nil before) ∙ sym same) going in
    let bad = (all-behind (λ k. is_end k ≡ false) (objective_kinds p.objective ++ flat_map statement_kinds p.statements) (end ∷ []) whole).0 in
    cc

-- what is expected is told by what it allows, beside literals
abbrev named : (minimises integers relations semicolons ends : Bool) → Expected
named true _ _ _ _ = Start
named false true true _ true = Next
named false true true _ false = TermOrRelation
named false true false true _ = TermOrSemicolon
named false true false false _ = Integer
named false false _ true _ = Semicolon
named false false _ false _ = Literal

abbrev by_allowed : Expected → Expected
by_allowed e = named (allows e minimise) (allows e (integer (pos 0))) (allows e (relation AtLeast)) (allows e semicolon) (allows e end)

known : (e : Expected) (k : Kind) → (IsTrue (tells e k) → allows e k ≡ true) → by_allowed e ≡ e
known Start k h = refl
known Next k h = refl
known TermOrRelation k h = refl
known TermOrSemicolon k h = refl
known Literal k h = refl
known Integer k h = refl
known Semicolon k h = refl
known _ k h = let bad = h refl in cc

same-bool : (b c : Bool) → (IsTrue b → IsTrue c) → (IsTrue c → IsTrue b) → b ≡ c
same-bool true c f g = sym (f refl)
same-bool false true f g = g refl
same-bool false false f g = refl

abbrev is_literal : Kind → Bool
is_literal (literal _) = true
is_literal _ = false

-- all but literals are told
told : (e : Expected) (k : Kind) → is_literal k ≡ false → IsTrue (tells e k)
told e (literal l) h = cc
told TermOrRelation _ h = refl
told TermOrSemicolon _ h = refl
told _ _ h = refl

same-expected : (before : List Kind) (d e : Expected) → GoesBy before → Expects d before → Expects e before → d ≡ e
same-expected before d e goes ds es =
    let same = λ (k : Kind) (dk : IsTrue (tells d k)) (ek : IsTrue (tells e k)). same-bool (allows d k) (allows e k) (λ h. (es k ek).0 ((ds k dk).1 h)) (λ h. (ds k dk).0 ((es k ek).1 h)) in
    let plain = λ (k : Kind) (h : is_literal k ≡ false). same k (told d k h) (told e k h) in
    sym (known d goes.kind (λ t. (ds goes.kind t).0 goes.begins))
    ∙ (λ i. named (plain minimise refl i) (plain (integer (pos 0)) refl i) (plain (relation AtLeast) refl i) (plain semicolon refl i) (plain end refl i))
    ∙ known e goes.kind (λ t. (es goes.kind t).0 goes.begins)

-- limits told at one token are told apart by their order
abbrev by_rank : ℕ → LimitKind
by_rank zero = Statements
by_rank (suc zero) = Terms
by_rank (suc (suc zero)) = Weight
by_rank (suc (suc (suc zero))) = Variables
by_rank _ = Name

none-kept : (o : Option (List NamedTerm)) → IfSome o (λ ts. Unit {0})
none-kept None = tt
none-kept (Some ts) = tt

all-kept : (ss : List NamedStatement) → AllByRecursion (λ s. Unit {0}) ss
all-kept [] = tt
all-kept (s ∷ ss) = (tt, all-kept ss)

-- a limit of other texts is kept
ranked : (w : LimitKind) (ks : List Kind) → Begins ks → (BeginsWithin w ks → ⊥) → by_rank (rank w) ≡ w
ranked Statements ks begins over = refl
ranked Terms ks begins over = refl
ranked Weight ks begins over = refl
ranked Variables ks begins over = refl
ranked Name ks begins over = refl
ranked _ ks (p, rest, same) over = absurd (over (p, rest, record { count = tt; objective = none-kept p.objective; statements = all-kept p.statements }, same))

same-nat : (m n : ℕ) → (m < n → ⊥) → (n < m → ⊥) → m ≡ n
same-nat m n below above = omega (arith, below, above)

module _ (text : List ℕ) (p q : Place) where
  two-wrong : (d e : Expected) → IsWrong text p d → IsWrong text q e → Token p d ≡ Token q e
  two-wrong d e a b =
      let s = wrong-stops text p d a in
      let t = wrong-stops text q e b in
      let place = same-place text p q s t in
      let before = (same-stop text p q s t).0 in
      let going = kinds-go b.at.before (words-go (tokens_of text) (record { place = end_of text; kind = end }) b.at.before (record { place = q; kind = b.at.here }) b.at.after b.at.cut) in
      let (problem, rest, keeps, same) = b.at.fine Weight in
      let goes = goes-by (kinds b.at.before) problem rest going same in
      let expected = same-expected (kinds b.at.before) d e goes (subst (λ (ss : List Symbol). Expects d (kinds ss)) before a.expects) b.expects in
      λ i. Token (place i) (expected i)

  wrong-great : (e : Expected) (which : LimitKind) → IsWrong text p e → IsTooGreat text q which → ⊥
  wrong-great e which a b = a.wrong (subst Begins (sym (same-so_far text p q (wrong-stops text p e a) (great-stops text q which b))) b.accepted)

  two-great : (v w : LimitKind) → IsTooGreat text p v → IsTooGreat text q w → Limit (Some p) v ≡ Limit (Some q) w
  two-great v w a b =
      let s = great-stops text p v a in
      let t = great-stops text q w b in
      let place = same-place text p q s t in
      let here = same-so_far text p q s t in
      let below : rank v < rank w → ⊥ = λ less. a.over (subst (BeginsWithin v) (sym here) (b.first v less)) in
      let above : rank w < rank v → ⊥ = λ less. b.over (subst (BeginsWithin w) here (a.first w less)) in
      let ranks : rank v ≡ rank w = same-nat (rank v) (rank w) below above in
      let limit = sym (ranked v (so_far a.at) a.accepted a.over) ∙ ap by_rank ranks ∙ ranked w (so_far b.at) b.accepted b.over in
      λ i. Limit (Some (place i)) (limit i)

many-place : (o : Option Count) (p q : Place) → IsManyAt o p → IsManyAt o q → p ≡ q
many-place None p q a b = absurd a
many-place (Some c) p q a b = a.1 ∙ sym b.1

short : (text : List ℕ) (n : ℕ) → length text ≤ 2 ^ 32 → 2 ^ 32 < length text → ⊥
short text n bytes long = omega arith

-- what a limit at a place is
abbrev AtPlace : List ℕ → Place → LimitKind → Type 0
AtPlace text p v = ((v ≡ Variables) × (TellsTooMany text p ⊎ HasTooMany text p)) ⊎ IsTooGreat text p v

wrong-many : (text : List ℕ) (p q : Place) (e : Expected) → IsWrong text p e → HasTooMany text q → ⊥
wrong-many text p q e a b = let none = spells-no_fault text b.says.written (Token p e) b.says.spells b.keeps a in cc

great-many : (text : List ℕ) (p q : Place) (v : LimitKind) → IsTooGreat text p v → HasTooMany text q → ⊥
great-many text p q v a b = let none = spells-no_fault text b.says.written (Limit (Some p) v) b.says.spells b.keeps a in cc

wrong-at : (text : List ℕ) (p q : Place) (e : Expected) (w : LimitKind) → IsWrong text p e → AtPlace text q w → ⊥
wrong-at text p q e w a (inl (is, inl many)) = too_many text q many a.at.admitted
wrong-at text p q e w a (inl (is, inr many)) = wrong-many text p q e a many
wrong-at text p q e w a (inr great) = wrong-great text p q e w a great

bytes-at : (text : List ℕ) (q : Place) (w : LimitKind) → AtPlace text q w → length text ≤ 2 ^ 32
bytes-at text q w (inl (is, inl many)) = many.bytes
bytes-at text q w (inl (is, inr many)) = many.admitted.bytes
bytes-at text q w (inr great) = great.at.admitted.bytes

limits-at : {p q : Place} {v w : LimitKind} → p ≡ q → v ≡ w → Limit (Some p) v ≡ Limit (Some q) w
limits-at place limit = λ i. Limit (Some (place i)) (limit i)

two-at : (text : List ℕ) (p q : Place) (v w : LimitKind) → AtPlace text p v → AtPlace text q w → Limit (Some p) v ≡ Limit (Some q) w
two-at text p q v w (inl (is, inl a)) (inl (so, inl b)) = limits-at (many-place (told_count text) p q a.many b.many) (is ∙ sym so)
two-at text p q v w (inl (is, inl a)) (inl (so, inr b)) = absurd (too_many text p a b.admitted)
two-at text p q v w (inl (is, inr a)) (inl (so, inl b)) = absurd (too_many text q b a.admitted)
two-at text p q v w (inl (is, inr a)) (inl (so, inr b)) = limits-at (a.last ∙ sym b.last) (is ∙ sym so)
two-at text p q v w (inl (is, inl a)) (inr b) = absurd (too_many text p a b.at.admitted)
two-at text p q v w (inl (is, inr a)) (inr b) = absurd (great-many text q p w b a)
two-at text p q v w (inr a) (inl (so, inl b)) = absurd (too_many text q b a.at.admitted)
two-at text p q v w (inr a) (inl (so, inr b)) = absurd (great-many text p q v a b)
two-at text p q v w (inr a) (inr b) = two-great text p q v w a b

-- two faults of a text, neither of them want of memory
pub one_fault : (text : List ℕ) (f g : OpbFault) → (f ≡ NoMemory → ⊥) → (g ≡ NoMemory → ⊥) → IsFirstFault text f → IsFirstFault text g → f ≡ g
one_fault text NoMemory g nf ng a b = absurd (nf refl)
one_fault text (Token p d) NoMemory nf ng a b = absurd (ng refl)
one_fault text (Limit None v) NoMemory nf ng a b = absurd (ng refl)
one_fault text (Limit (Some p) v) NoMemory nf ng a b = absurd (ng refl)
one_fault text (Token p d) (Token q e) nf ng a b = two-wrong text p q d e a b
one_fault text (Token p d) (Limit None w) nf ng a b = absurd (short text 0 a.at.admitted.bytes b.1)
one_fault text (Token p d) (Limit (Some q) w) nf ng a b = absurd (wrong-at text p q d w a b)
one_fault text (Limit None v) (Token q e) nf ng a b = absurd (short text 0 b.at.admitted.bytes a.1)
one_fault text (Limit None v) (Limit None w) nf ng a b = ap (Limit None) (a.0 ∙ sym b.0)
one_fault text (Limit None v) (Limit (Some q) w) nf ng a b = absurd (short text 0 (bytes-at text q w b) a.1)
one_fault text (Limit (Some p) v) (Token q e) nf ng a b = absurd (wrong-at text q p e v b a)
one_fault text (Limit (Some p) v) (Limit None w) nf ng a b = absurd (short text 0 (bytes-at text p v a) b.1)
one_fault text (Limit (Some p) v) (Limit (Some q) w) nf ng a b = two-at text p q v w a b

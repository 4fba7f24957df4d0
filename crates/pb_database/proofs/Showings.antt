-- What constraints show, one after the other.
use Rattle.std.proofs.Common.{◌≡◌, ◌≤◌, ◌<◌, ◌+◌, inl, inr, ℕ, Bool, true, false, List, [], ◌∷◌, ◌++◌, length, length-append, arith, refl, ap, sym, ◌∙◌, subst, take, drop, get_or}
use Rattle.std.specs.Prelude.{Contains}
use Rattle.std.specs.Bool.{OnTrue, OnFalse}
use Rattle.std.proofs.lemmas.List.Elements.{Contains-append_left, Contains-append_right, Contains-append_cases}
use Rattle.std.proofs.lemmas.List.{take-append-drop, take_all, take_more}
use Rattle.pb_base.specs.declared.literal.Lit.{Lit}
use Rattle.pb_base.proofs.Members.{Contains-here, Contains-cons_cases, Contains-nil}
use Rattle.pb_norm.specs.Constraints.{Constraint}
use Rattle.pb_norm.specs.Propagation.{room}
use Rattle.pb_norm.specs.PropagationLaws.{AreAmong}
use Rattle.pb_norm.proofs.Consistent.{consistent-nil}
use Rattle.pb_norm.proofs.PropagationFixed.{fixed-no_conflict}
use Rattle.pb_unit.specs.Steps.{Advances, IsCalm}
use Rattle.pb_unit.proofs.Visits.{then}
use Rattle.pb_unit.proofs.Answering.{fixed_over}
use Rattle.pb_database.specs.Refutations.{TellsConflict}
use Rattle.pb_database.specs.inner.Showing.{Shows}

nothing_before : (more before : List Lit) → length (more ++ before) ≡ length before → more ++ before ≡ before
nothing_before [] before e = refl
nothing_before (l ∷ more) before e = absurd (omega (arith, e, length-append more before))

-- where no more hold than before, the same do
pub same_lits : (cs : List Constraint) (given before after : List Lit) → Advances cs given before after → length after ≡ length before → after ≡ before
same_lits cs given before after a e = a.extends ∙ nothing_before a.more before (sym (ap length a.extends) ∙ e)

among_itself : (cs : List Constraint) → AreAmong cs cs
among_itself cs c h = h

among_left : (cs ds es : List Constraint) → AreAmong (cs ++ ds) es → AreAmong cs es
among_left cs ds es h c k = h c (Contains-append_left cs ds c k)

among_right : (cs ds es : List Constraint) → AreAmong (cs ++ ds) es → AreAmong ds es
among_right cs ds es h c k = h c (Contains-append_right cs ds c k)

-- ---- one, none and more

pub shows_one : (enough : Bool) (c : Constraint) (before after : List Lit) → ((ds : List Constraint) (given : List Lit) → Contains ds c → Advances ds given before after) → OnTrue enough (IsCalm (room before c.terms) after c) → OnFalse enough (room after c.terms < c.degree) → Shows enough (c ∷ []) before after
shows_one enough c before after advances calm short = record {
  advances = λ ds given h. advances ds given (h c (Contains-here c []));
  calm = when_calm enough calm;
  short = when_short enough short;
}
  where
    when_calm : (b : Bool) → OnTrue b (IsCalm (room before c.terms) after c) → OnTrue b (after ≡ before → (d : Constraint) → Contains (c ∷ []) d → IsCalm (room before d.terms) before d)
    when_calm false h = tt
    when_calm true h = λ e d known. elim (Contains-cons_cases c [] d known) [
      | inl same ↦ subst (λ (x : Constraint). IsCalm (room before x.terms) before x) same (subst (λ (ls : List Lit). IsCalm (room before c.terms) ls c) e h)
      | inr none ↦ absurd (Contains-nil d none)
    ]

    when_short : (b : Bool) → OnFalse b (room after c.terms < c.degree) → OnFalse b ((d : Constraint) × Contains (c ∷ []) d × (room after d.terms < d.degree))
    when_short true h = tt
    when_short false h = (c, Contains-here c [], h)

-- more behind those that had room enough
pub shows_then : (enough : Bool) (cs ds : List Constraint) (a b c : List Lit) → Shows true cs a b → Shows enough ds b c → Shows enough (cs ++ ds) a c
shows_then enough cs ds a b c f g = record {
  advances = λ es given h. then es given a b c (f.advances es given (among_left cs ds es h)) (g.advances es given (among_right cs ds es h));
  calm = when_calm enough g.calm;
  short = when_short enough g.short;
}
  where
    first : Advances (cs ++ ds) [] a b
    first = f.advances (cs ++ ds) [] (among_left cs ds (cs ++ ds) (among_itself (cs ++ ds)))

    second : Advances (cs ++ ds) [] b c
    second = g.advances (cs ++ ds) [] (among_right cs ds (cs ++ ds) (among_itself (cs ++ ds)))

    middle : c ≡ a → b ≡ a
    middle e =
        let one = ap length first.extends ∙ length-append first.more a in
        let two = ap length second.extends ∙ length-append second.more b in
        same_lits (cs ++ ds) [] a b first (omega (arith, one, two, ap length e))

    when_calm : (t : Bool) → OnTrue t (c ≡ b → (d : Constraint) → Contains ds d → IsCalm (room b d.terms) b d) → OnTrue t (c ≡ a → (d : Constraint) → Contains (cs ++ ds) d → IsCalm (room a d.terms) a d)
    when_calm false h = tt
    when_calm true h = λ e d known. elim (Contains-append_cases cs ds d known) [
      | inl old ↦ f.calm (middle e) d old
      | inr new ↦ subst (λ (ls : List Lit). IsCalm (room ls d.terms) ls d) (middle e) (h (e ∙ sym (middle e)) d new)
    ]

    when_short : (t : Bool) → OnFalse t ((d : Constraint) × Contains ds d × (room c d.terms < d.degree)) → OnFalse t ((d : Constraint) × Contains (cs ++ ds) d × (room c d.terms < d.degree))
    when_short true h = tt
    when_short false h = (h.0, Contains-append_right cs ds h.0 h.1, h.2)

-- where one has too little room, those behind it are not shown
pub shows_short : (cs ds : List Constraint) (a b : List Lit) → Shows false cs a b → Shows false (cs ++ ds) a b
shows_short cs ds a b f = record {
  advances = λ es given h. f.advances es given (among_left cs ds es h);
  calm = tt;
  short = (f.short.0, Contains-append_left cs ds f.short.0 f.short.1, f.short.2);
}

-- ---- as the code goes

-- a first one has too little room
pub shows_not_first : (enough : Bool) (c : Constraint) (cs : List Constraint) (before after : List Lit) → enough ≡ false → ((ds : List Constraint) (given : List Lit) → Contains ds c → Advances ds given before after) → OnTrue enough (IsCalm (room before c.terms) after c) → OnFalse enough (room after c.terms < c.degree) → Shows false (c ∷ cs) before after
shows_not_first enough c cs before after e advances calm short =
    shows_short (c ∷ []) cs before after (subst (λ (b : Bool). Shows b (c ∷ []) before after) e (shows_one enough c before after advances calm short))

-- a first one has room enough, and the others follow
pub shows_first : (enough rest : Bool) (c : Constraint) (cs : List Constraint) (before mid after : List Lit) → enough ≡ true → ((ds : List Constraint) (given : List Lit) → Contains ds c → Advances ds given before mid) → OnTrue enough (IsCalm (room before c.terms) mid c) → OnFalse enough (room mid c.terms < c.degree) → Shows rest cs mid after → Shows rest (c ∷ cs) before after
shows_first enough rest c cs before mid after e advances calm short more =
    shows_then rest (c ∷ []) cs before mid after (subst (λ (b : Bool). Shows b (c ∷ []) before mid) e (shows_one enough c before mid advances calm short)) more

one_more : (cs : List Constraint) (i : ℕ) (c : Constraint) → i < length cs → c ≡ get_or cs i c → take (i + 1) cs ≡ take i cs ++ c ∷ []
one_more cs i c below at = take_more cs i c below ∙ ap (λ (d : Constraint). take i cs ++ d ∷ []) (sym at)

shows_next : (enough t : Bool) (cs : List Constraint) (i : ℕ) (c : Constraint) (before mid after : List Lit) → i < length cs → c ≡ get_or cs i c → enough ≡ t → Shows true (take i cs) before mid
    → ((ds : List Constraint) (given : List Lit) → Contains ds c → Advances ds given mid after) → OnTrue enough (IsCalm (room mid c.terms) after c) → OnFalse enough (room after c.terms < c.degree) → Shows t (take (i + 1) cs) before after
shows_next enough t cs i c before mid after below at e f advances calm short =
    subst (λ (ds : List Constraint). Shows t ds before after) (sym (one_more cs i c below at))
    (shows_then t (take i cs) (c ∷ []) before mid after f (subst (λ (x : Bool). Shows x (c ∷ []) mid after) e (shows_one enough c mid after advances calm short)))

-- one more has room enough
pub shows_more : (enough : Bool) (cs : List Constraint) (i : ℕ) (c : Constraint) (before mid after : List Lit) → i < length cs → c ≡ get_or cs i c → enough ≡ true → Shows true (take i cs) before mid
    → ((ds : List Constraint) (given : List Lit) → Contains ds c → Advances ds given mid after) → OnTrue enough (IsCalm (room mid c.terms) after c) → OnFalse enough (room after c.terms < c.degree) → Shows true (take (i + 1) cs) before after
shows_more enough = shows_next enough true

-- one more has too little
pub shows_no_more : (enough : Bool) (cs : List Constraint) (i : ℕ) (c : Constraint) (before mid after : List Lit) → i < length cs → c ≡ get_or cs i c → enough ≡ false → Shows true (take i cs) before mid
    → ((ds : List Constraint) (given : List Lit) → Contains ds c → Advances ds given mid after) → OnTrue enough (IsCalm (room mid c.terms) after c) → OnFalse enough (room after c.terms < c.degree) → Shows false cs before after
shows_no_more enough cs i c before mid after below at e f advances calm short =
    subst (λ (ds : List Constraint). Shows false ds before after) (take-append-drop (i + 1) cs)
    (shows_short (take (i + 1) cs) (drop (i + 1) cs) before after (shows_next enough false cs i c before mid after below at e f advances calm short))

pub shows_all : (cs : List Constraint) (i : ℕ) (before after : List Lit) → length cs ≤ i → Shows true (take i cs) before after → Shows true cs before after
shows_all cs i before after past f = subst (λ (ds : List Constraint). Shows true ds before after) (take_all i cs past) f

-- ---- what that tells

-- a round goes on
pub round_on : (enough : Bool) (cs : List Constraint) (before after : List Lit) → Advances cs [] [] before → Shows enough cs before after → Advances cs [] [] after
round_on enough cs before after a f = then cs [] [] before after a (f.advances cs [] (among_itself cs))

pub tells_short : (enough : Bool) (cs : List Constraint) (before after : List Lit) → enough ≡ false → Advances cs [] [] before → Shows enough cs before after → TellsConflict cs true
tells_short enough cs before after e a f =
    let all = round_on enough cs before after a f in
    let short = subst (λ (b : Bool). OnFalse b ((c : Constraint) × Contains cs c × (room after c.terms < c.degree))) e f.short in
    inr (after, short.0, all.reached tt, short.1, short.2)

pub tells_calm : (enough : Bool) (cs : List Constraint) (before after : List Lit) → enough ≡ true → Advances cs [] [] before → Shows enough cs before after → length after ≡ length before → TellsConflict cs false
tells_calm enough cs before after e a f count =
    let same = same_lits cs [] before after (f.advances cs [] (among_itself cs)) count in
    let calm = subst (λ (b : Bool). OnTrue b (after ≡ before → (c : Constraint) → Contains cs c → IsCalm (room before c.terms) before c)) e f.calm in
    let fixed = fixed_over cs [] before (a.consistent consistent-nil) (calm same) (λ l h. a.kept l h) in
    fixed-no_conflict cs [] before fixed

-- Two texts of one desk, read side by side.
use Rattle.std.proofs.Common.{◌≡◌, ◌≤◌, ◌+◌, ℕ, Bool, true, false, List, [], ◌++◌, length, take, drop, refl, sym, ap, ◌∙◌, subst, T, append_assoc}
use Rattle.std.proofs.lemmas.Bool.{true≢false}
use Rattle.std.proofs.lemmas.List.{drop-drop, take-append-drop}
use mathlib.Core.Path.{fun_ext}
use Rattle.std.specs.Prelude.{◌≢◌, ◌==◌, IfSome}
use Rattle.std.specs.Option.{option_map}
use Rattle.std.specs.declared.option.Option.{Option}
use Rattle.std.specs.declared.option.Option.TheVariants.{Some, None}
use Rattle.pb_desk.specs.View.{Told, View, put, taken}
use Rattle.pb_desk.specs.Desk.{DeskState, Reads, FailsToRead, IfKept, IfTold, same}
use Rattle.pb_desk.specs.LineReading.{TakesAhead, FailsAhead, Knows, MayStand, before_end, beyond, nothing_held, Held}
use Rattle.pb_desk.specs.LineReaders.{Reader}
use Rattle.pb_desk.proofs.Steps.{as_reads, begin, reads_by_then, then_fails_to_read}
use Rattle.pb_desk.proofs.Readings.{put-same, taken-taken, both_told}
use Rattle.pb_desk.proofs.ReadLemmas.{Tells, taken-none, take_twice, always_told, weaker_told, knows_after}
use Rattle.pb_desk.specs.TwoSlots.{both_taken, ReadsBoth, MissesBoth, CouldStand, FailsBoth, TakesBoth}
use Rattle.std.proofs.Math.Dec.{eqb→eq}

same_number : (m n : ℕ) → (m == n) ≡ true → m ≡ n
same_number m n is = eqb→eq m n (subst T (sym is) tt)

pub differs : (m n : ℕ) → m ≢ n → (m == n) ≡ false
differs m n apart = by_test (m == n) refl
  where
    by_test : (b : Bool) → (m == n) ≡ b → (m == n) ≡ false
    by_test true is = absurd (apart (same_number m n is))
    by_test false is = is

put-differs : {X : Type 0} (f : ℕ → X) (m n : ℕ) (x : X) → n ≢ m → put f m x n ≡ f n
put-differs f m n x apart = let is = differs n m apart in simp is

put-swap : {X : Type 0} (f : ℕ → X) (m n : ℕ) (x y : X) → m ≢ n → put (put f m x) n y ≡ put (put f n y) m x
put-swap {X} f m n x y apart = fun_ext (λ k. by_tests k (k == m) (k == n) refl refl)
  where
    by_tests : (k : ℕ) (b c : Bool) → (k == m) ≡ b → (k == n) ≡ c → put (put f m x) n y k ≡ put (put f n y) m x k
    by_tests k true true p q = absurd (apart (sym (same_number k m p) ∙ same_number k n q))
    by_tests k true false p q = simp (p, q)
    by_tests k false true p q = simp (p, q)
    by_tests k false false p q = simp (p, q)

taken-swap : (m n k l : ℕ) (view : View) → m ≢ n → taken n l (taken m k view) ≡ taken m k (taken n l view)
taken-swap m n k l view apart = elim view.told as (λ (o : Option Told). taken n l (taken m k (record view { told = o })) ≡ taken m k (taken n l (record view { told = o }))) [
  | None ↦ refl
  | Some t ↦ ap (λ (left : ℕ → List ℕ). record view { told = Some (record t { left = left }) }) (both t)
]
  where
    both : (t : Told) → put (put t.left m (drop k (t.left m))) n (drop l (put t.left m (drop k (t.left m)) n)) ≡ put (put t.left n (drop l (t.left n))) m (drop k (put t.left n (drop l (t.left n)) m))
    both t =
        ap (λ (xs : List ℕ). put (put t.left m (drop k (t.left m))) n (drop l xs)) (put-differs t.left m n (drop k (t.left m)) (λ e. apart (sym e)))
        ∙ put-swap t.left m n (drop k (t.left m)) (drop l (t.left n)) apart
        ∙ ap (λ (xs : List ℕ). put (put t.left n (drop l (t.left n))) m (drop k xs)) (sym (put-differs t.left n m (drop l (t.left n)) apart))

-- a read of another slot leaves what the desk knows of this one
pub knows_beside : (slot other : ℕ) (x y held : Held) (a b : DeskState) (P : List ℕ → List ℕ → Type 0) → other ≢ slot → TakesAhead slot x y a b P → Knows other held a → Knows other held b
knows_beside slot other x y held a b P apart reads knows = ap (λ (f : ℕ → Bool). f other) reads.ended ∙ (put-differs a.ended slot other y.over apart ∙ knows)

-- bytes of both, twice
both-both : (one two n m n' m' : ℕ) (view : View) → one ≢ two → both_taken one two n' m' (both_taken one two n m view) ≡ both_taken one two (n + n') (m + m') view
both-both one two n m n' m' view apart =
    ap (taken two m') (sym (taken-swap one two n' m (taken one n view) apart))
    ∙ taken-taken two m m' (taken one n' (taken one n view))
    ∙ ap (taken two (m + m')) (taken-taken one n n' view)

-- what is left of both slots once bytes of both were taken
both_after : (one two n m : ℕ) (P : List ℕ → List ℕ → Type 0) (a b : DeskState) → one ≢ two → b.view ≡ both_taken one two n m a.view
    → IfTold b (λ t. P (t.left one) (t.left two)) → IfTold a (λ t. P (drop n (t.left one)) (drop m (t.left two)))
both_after one two n m P a b apart is holds = by_cases a.view.told (subst (λ (v : View). IfSome v.told (λ t. P (t.left one) (t.left two))) is holds)
  where
    by_cases : (told : Option Told) → IfSome (option_map (λ (t : Told). record t { left = put t.left two (drop m (t.left two)) }) (option_map (λ (t : Told). record t { left = put t.left one (drop n (t.left one)) }) told)) (λ t. P (t.left one) (t.left two))
        → IfSome told (λ t. P (drop n (t.left one)) (drop m (t.left two)))
    by_cases None h = tt
    by_cases (Some t) h =
        let at_one : put (put t.left one (drop n (t.left one))) two (drop m (put t.left one (drop n (t.left one)) two)) one ≡ drop n (t.left one) =
        put-differs (put t.left one (drop n (t.left one))) two one (drop m (put t.left one (drop n (t.left one)) two)) apart ∙ put-same t.left one (drop n (t.left one)) in
        let at_two : put (put t.left one (drop n (t.left one))) two (drop m (put t.left one (drop n (t.left one)) two)) two ≡ drop m (t.left two) =
        put-same (put t.left one (drop n (t.left one))) two (drop m (put t.left one (drop n (t.left one)) two)) ∙ ap (drop m) (put-differs t.left one two (drop n (t.left one)) (λ e. apart (sym e))) in
        subst (λ (xs : List ℕ). P xs (drop m (t.left two))) at_one (subst (λ (ys : List ℕ). P (put (put t.left one (drop n (t.left one))) two (drop m (put t.left one (drop n (t.left one)) two)) one) ys) at_two h)

-- What two reads tell of the bytes that were taken, with whatever stands behind them.
abbrev BothTell : Reader → Reader → Reader → Reader → ℕ → ℕ → (List ℕ → List ℕ → List ℕ → List ℕ → Type 0) → List ℕ → List ℕ → Type 0
BothTell one two one' two' n m P left right = (rest other : List ℕ) → MayStand one'.ahead (drop n left) rest → MayStand two'.ahead (drop m right) other
    → P (before_end one.ahead (take n left ++ rest)) (before_end two.ahead (take m right ++ other)) (before_end one'.ahead rest) (before_end two'.ahead other)

-- nothing was read yet
pub both_begin : (one two : Reader) (a : DeskState) (P : List ℕ → List ℕ → List ℕ → List ℕ → Type 0) → one.slot ≢ two.slot → ((c p : List ℕ) → P c p c p) → ReadsBoth one two one two a a P
both_begin one two a P apart h = record {
  apart = apart;
  one_slot = refl;
  two_slot = refl;
  over_one = λ e. e;
  over_two = λ e. e;
  of_one = 0;
  of_two = 0;
  reached = as_reads (both_taken one.slot two.slot 0 0) a a (begin (both_taken one.slot two.slot 0 0) a (λ v. ap (taken two.slot 0) (taken-none one.slot v) ∙ taken-none two.slot v));
  knows = λ k. k;
  told = λ k. always_told a (λ t. BothTell one two one two 0 0 P (t.left one.slot) (t.left two.slot)) (λ t rest other may may'. h (before_end one.ahead rest) (before_end two.ahead other));
}

-- only the one reader went on
pub both_of_one : (one one' two : Reader) (a b : DeskState) (P : List ℕ → List ℕ → Type 0) (Q : List ℕ → List ℕ → List ℕ → List ℕ → Type 0) → one.slot ≢ two.slot → one'.slot ≡ one.slot
    → ((c p c' : List ℕ) → P c c' → Q c p c' p) → TakesAhead one.slot one.ahead one'.ahead a b P → ReadsBoth one two one' two a b Q
both_of_one one one' two a b P Q apart slot gives reads = record {
  apart = apart;
  one_slot = slot;
  two_slot = refl;
  over_one = reads.over;
  over_two = λ e. e;
  of_one = reads.count;
  of_two = 0;
  reached = reads_by_then (taken one.slot reads.count) same (both_taken one.slot two.slot reads.count 0) a b b (λ v. sym (taken-none two.slot (taken one.slot reads.count v))) reads.takes.reached (as_reads same b b (begin same b (λ v. refl)));
  knows = λ k. (subst (λ (s : ℕ). Knows s one'.ahead b) (sym slot) (knows_after one.slot one.ahead one'.ahead a b P reads), knows_beside one.slot two.slot one.ahead one'.ahead two.ahead a b P (λ e. apart (sym e)) reads k.1);
  told = λ k. weaker_told a (Tells one.slot reads.count one.ahead one'.ahead P) (λ t. BothTell one two one' two reads.count 0 Q (t.left one.slot) (t.left two.slot))
      (λ t p rest other may may'. gives (before_end one.ahead (take reads.count (t.left one.slot) ++ rest)) (before_end two.ahead other) (before_end one'.ahead rest) (p rest may)) (reads.told k);
}

-- only the other reader went on
pub both_of_two : (one two two' : Reader) (a b : DeskState) (P : List ℕ → List ℕ → Type 0) (Q : List ℕ → List ℕ → List ℕ → List ℕ → Type 0) → one.slot ≢ two.slot → two'.slot ≡ two.slot
    → ((c p p' : List ℕ) → P p p' → Q c p c p') → TakesAhead two.slot two.ahead two'.ahead a b P → ReadsBoth one two one two' a b Q
both_of_two one two two' a b P Q apart slot gives reads = record {
  apart = apart;
  one_slot = refl;
  two_slot = slot;
  over_one = λ e. e;
  over_two = reads.over;
  of_one = 0;
  of_two = reads.count;
  reached = reads_by_then (taken two.slot reads.count) same (both_taken one.slot two.slot 0 reads.count) a b b (λ v. ap (taken two.slot reads.count) (sym (taken-none one.slot v))) reads.takes.reached (as_reads same b b (begin same b (λ v. refl)));
  knows = λ k. (knows_beside two.slot one.slot two.ahead two'.ahead one.ahead a b P apart reads k.0, subst (λ (s : ℕ). Knows s two'.ahead b) (sym slot) (knows_after two.slot two.ahead two'.ahead a b P reads));
  told = λ k. weaker_told a (Tells two.slot reads.count two.ahead two'.ahead P) (λ t. BothTell one two one two' 0 reads.count Q (t.left one.slot) (t.left two.slot))
      (λ t p rest other may may'. gives (before_end one.ahead rest) (before_end two.ahead (take reads.count (t.left two.slot) ++ other)) (before_end two'.ahead other) (p other may')) (reads.told k);
}

pub both_weaker : (one two one' two' : Reader) (a b : DeskState) (P Q : List ℕ → List ℕ → List ℕ → List ℕ → Type 0) → ((c p c' p' : List ℕ) → P c p c' p' → Q c p c' p') → ReadsBoth one two one' two' a b P → ReadsBoth one two one' two' a b Q
both_weaker one two one' two' a b P Q h reads = record {
  apart = reads.apart;
  one_slot = reads.one_slot;
  two_slot = reads.two_slot;
  over_one = reads.over_one;
  over_two = reads.over_two;
  of_one = reads.of_one;
  of_two = reads.of_two;
  reached = reads.reached;
  knows = reads.knows;
  told = λ k. weaker_told a (λ t. BothTell one two one' two' reads.of_one reads.of_two P (t.left one.slot) (t.left two.slot)) (λ t. BothTell one two one' two' reads.of_one reads.of_two Q (t.left one.slot) (t.left two.slot))
      (λ t p rest other may may'. h (before_end one.ahead (take reads.of_one (t.left one.slot) ++ rest)) (before_end two.ahead (take reads.of_two (t.left two.slot) ++ other)) (before_end one'.ahead rest) (before_end two'.ahead other) (p rest other may may')) (reads.told k);
}

-- what stands behind bytes that are taken later may stand there
stands_later : (held later : Held) (n m : ℕ) (left rest : List ℕ) → (held.over ≡ true → later.over ≡ true) → MayStand later (drop (n + m) left) rest → MayStand held (drop n left) (take m (drop n left) ++ rest)
stands_later held later n m left rest over may e =
    ap (λ (xs : List ℕ). take m (drop n left) ++ xs) (may (over e) ∙ sym (drop-drop m n left)) ∙ take-append-drop m (drop n left)

-- one after another
pub both_then : (one two one' two' one'' two'' : Reader) (a b c : DeskState) (P Q R : List ℕ → List ℕ → List ℕ → List ℕ → Type 0)
    → ((t u t' u' t'' u'' : List ℕ) → P t u t' u' → Q t' u' t'' u'' → R t u t'' u'') → ReadsBoth one two one' two' a b P → ReadsBoth one' two' one'' two'' b c Q → ReadsBoth one two one'' two'' a c R
both_then one two one' two' one'' two'' a b c P Q R gives first second =
    let x = one.slot in
    let y = two.slot in
    let n = first.of_one in
    let m = first.of_two in
    let n' = second.of_one in
    let m' = second.of_two in
    let reached : Reads (both_taken x y n' m') b c = subst (λ (s : ℕ). Reads (both_taken s y n' m') b c) first.one_slot (subst (λ (s : ℕ). Reads (both_taken one'.slot s n' m') b c) first.two_slot second.reached) in
    let told : IfKept b c (λ t. BothTell one' two' one'' two'' n' m' Q (t.left x) (t.left y)) =
    subst (λ (s : ℕ). IfKept b c (λ t. BothTell one' two' one'' two'' n' m' Q (t.left s) (t.left y))) first.one_slot
    (subst (λ (s : ℕ). IfKept b c (λ t. BothTell one' two' one'' two'' n' m' Q (t.left one'.slot) (t.left s))) first.two_slot second.told) in
    let later : IfKept a c (λ t. BothTell one' two' one'' two'' n' m' Q (drop n (t.left x)) (drop m (t.left y))) = λ k. both_after x y n m (BothTell one' two' one'' two'' n' m' Q) a b first.apart first.reached.view (told k) in
    record {
      apart = first.apart;
      one_slot = second.one_slot ∙ first.one_slot;
      two_slot = second.two_slot ∙ first.two_slot;
      over_one = λ e. second.over_one (first.over_one e);
      over_two = λ e. second.over_two (first.over_two e);
      of_one = n + n';
      of_two = m + m';
      reached = reads_by_then (both_taken x y n m) (both_taken x y n' m') (both_taken x y (n + n') (m + m')) a b c (λ v. both-both x y n m n' m' v first.apart) first.reached reached;
      knows = λ k. second.knows (first.knows k);
      told = λ k. both_told (λ t. BothTell one two one' two' n m P (t.left x) (t.left y)) (λ t. BothTell one' two' one'' two'' n' m' Q (drop n (t.left x)) (drop m (t.left y))) (λ t. BothTell one two one'' two'' (n + n') (m + m') R (t.left x) (t.left y)) a
          (λ t p q rest other may may'.
          let left : List ℕ = t.left x in
          let right : List ℕ = t.left y in
          let middle : List ℕ = take n' (drop n left) ++ rest in
          let amid : List ℕ = take m' (drop m right) ++ other in
          subst (λ (us : List ℕ). R (before_end one.ahead us) (before_end two.ahead (take (m + m') right ++ other)) (before_end one''.ahead rest) (before_end two''.ahead other)) (take_twice n n' left rest)
          (subst (λ (vs : List ℕ). R (before_end one.ahead (take n left ++ middle)) (before_end two.ahead vs) (before_end one''.ahead rest) (before_end two''.ahead other)) (take_twice m m' right other)
          (gives (before_end one.ahead (take n left ++ middle)) (before_end two.ahead (take m right ++ amid)) (before_end one'.ahead middle) (before_end two'.ahead amid) (before_end one''.ahead rest) (before_end two''.ahead other)
          (p middle amid (stands_later one'.ahead one''.ahead n n' left rest second.over_one may) (stands_later two'.ahead two''.ahead m m' right other second.over_two may'))
          (q rest other (λ e. may e ∙ sym (drop-drop n' n left)) (λ e. may' e ∙ sym (drop-drop m' m right))))))
          (first.told (reached.kept k)) (later k);
    }

-- ---- a read that fails

-- what could stand before the end, of which some is taken already, may stand there: something is behind it that makes it so
record Behind (held : Held) (m : ℕ) (left behind : List ℕ) : Type 0 where
  rest : List ℕ
  may : MayStand held left (take m left ++ rest)
  is_same : before_end held (take m left ++ rest) ≡ before_end held (take m left ++ behind)

behind_here : (held : Held) (m : ℕ) (left behind : List ℕ) → Behind held m left behind
behind_here held m left behind = by_over held.over refl
  where
    by_over : (over : Bool) → held.over ≡ over → Behind held m left behind
    by_over true is = record {
      rest = drop m left;
      may = λ e. take-append-drop m left;
      is_same = ap (λ (o : Bool). held.bytes ++ beyond o (take m left ++ drop m left)) is ∙ sym (ap (λ (o : Bool). held.bytes ++ beyond o (take m left ++ behind)) is);
    }
    by_over false is = record { rest = behind; may = λ e. absurd (true≢false (sym e ∙ is)); is_same = refl }

-- a read that failed later
pub misses_later : (one two one' two' : Reader) (a b c : DeskState) (P : List ℕ → List ℕ → List ℕ → List ℕ → Type 0) (Q R : (List ℕ → List ℕ → Type 0) → Type 0)
    → ((May May' : List ℕ → List ℕ → Type 0) → ((c' p' : List ℕ) → May' c' p' → (c : List ℕ) × (p : List ℕ) × May c p × P c p c' p') → Q May' → R May)
    → ReadsBoth one two one' two' a b P → MissesBoth one' two' b c Q → MissesBoth one two a c R
misses_later one two one' two' a b c P Q R back first second =
    let x = one.slot in
    let y = two.slot in
    let n = first.of_one in
    let m = first.of_two in
    let n' = second.of_one in
    let m' = second.of_two in
    let Later = λ (left right : List ℕ). Q (CouldStand one'.ahead two'.ahead (take n' left) (take m' right)) in
    let told : IfKept b c (λ t. Later (t.left x) (t.left y)) =
    subst (λ (s : ℕ). IfKept b c (λ t. Later (t.left s) (t.left y))) first.one_slot (subst (λ (s : ℕ). IfKept b c (λ t. Later (t.left one'.slot) (t.left s))) first.two_slot second.told) in
    let later : IfKept a c (λ t. Later (drop n (t.left x)) (drop m (t.left y))) = λ k. both_after x y n m Later a b first.apart first.reached.view (told k) in
    record {
      of_one = n + n';
      of_two = m + m';
      fails = then_fails_to_read (both_taken x y n m) (both_taken x y n' m') (both_taken x y (n + n') (m + m')) a b c (λ v. both-both x y n m n' m' v first.apart) first.reached
          (subst (λ (s : ℕ). FailsToRead (both_taken s y n' m') b c) first.one_slot (subst (λ (s : ℕ). FailsToRead (both_taken one'.slot s n' m') b c) first.two_slot second.fails));
      told = λ k. both_told (λ t. BothTell one two one' two' n m P (t.left x) (t.left y)) (λ t. Later (drop n (t.left x)) (drop m (t.left y))) (λ t. R (CouldStand one.ahead two.ahead (take (n + n') (t.left x)) (take (m + m') (t.left y)))) a
          (λ t p q. back (CouldStand one.ahead two.ahead (take (n + n') (t.left x)) (take (m + m') (t.left y))) (CouldStand one'.ahead two'.ahead (take n' (drop n (t.left x))) (take m' (drop m (t.left y))))
          (λ c' p' could. came n m n' m' (t.left x) (t.left y) p c' p' could) q) (first.told (second.fails.kept k)) (later k);
    }
  where
    came : (n m n' m' : ℕ) (left right : List ℕ) → BothTell one two one' two' n m P left right → (c' p' : List ℕ) → CouldStand one'.ahead two'.ahead (take n' (drop n left)) (take m' (drop m right)) c' p'
        → (c : List ℕ) × (p : List ℕ) × CouldStand one.ahead two.ahead (take (n + n') left) (take (m + m') right) c p × P c p c' p'
    came n m n' m' left right tells c' p' could =
        let at_one = behind_here one'.ahead n' (drop n left) could.behind_one in
        let at_two = behind_here two'.ahead m' (drop m right) could.behind_two in
        let middle : List ℕ = take n' (drop n left) ++ at_one.rest in
        let amid : List ℕ = take m' (drop m right) ++ at_two.rest in (
          before_end one.ahead (take n left ++ middle),
          before_end two.ahead (take m right ++ amid),
          record { behind_one = at_one.rest; behind_two = at_two.rest; at_one = ap (before_end one.ahead) (take_twice n n' left at_one.rest); at_two = ap (before_end two.ahead) (take_twice m m' right at_two.rest) },
          subst (λ (us : List ℕ). P (before_end one.ahead (take n left ++ middle)) (before_end two.ahead (take m right ++ amid)) us p') (at_one.is_same ∙ sym could.at_one)
              (subst (λ (vs : List ℕ). P (before_end one.ahead (take n left ++ middle)) (before_end two.ahead (take m right ++ amid)) (before_end one'.ahead middle) vs) (at_two.is_same ∙ sym could.at_two)
              (tells middle amid at_one.may at_two.may)),
        )

then_same : (f g : View → View) (a b : DeskState) → ((v : View) → g v ≡ f v) → FailsToRead f a b → FailsToRead g a b
then_same f g a b is fails = record {
  view = fails.view ∙ sym (is a.view);
  tells = fails.tells;
  reads = fails.reads;
  writes = fails.writes;
  kept = fails.kept;
}

-- bytes that were ahead, and taken, of a slot whose end was not met
opens : (held : Held) (bytes behind : List ℕ) → held.over ≡ false → (held.bytes ++ bytes) ++ behind ≡ before_end held (bytes ++ behind)
opens held bytes behind is = append_assoc held.bytes bytes behind ∙ sym (ap (λ (o : Bool). held.bytes ++ beyond o (bytes ++ behind)) is)

-- the one reader failed, whatever the other text is
pub misses_one : (one two : Reader) (a b : DeskState) (P : List ℕ → Type 0) (Q : (List ℕ → List ℕ → Type 0) → Type 0)
    → ((May : List ℕ → List ℕ → Type 0) (bytes p : List ℕ) → ((behind : List ℕ) → May (bytes ++ behind) p) → P bytes → Q May) → FailsAhead one.slot one.ahead a b P → MissesBoth one two a b Q
misses_one one two a b P Q gives h = record {
  of_one = h.count;
  of_two = 0;
  fails = then_same (taken one.slot h.count) (both_taken one.slot two.slot h.count 0) a b (λ v. taken-none two.slot (taken one.slot h.count v)) h.fails;
  told = λ k. weaker_told a (λ t. (h.count ≤ length (t.left one.slot)) × P (one.ahead.bytes ++ take h.count (t.left one.slot))) (λ t. Q (CouldStand one.ahead two.ahead (take h.count (t.left one.slot)) (take 0 (t.left two.slot))))
      (λ t p. gives (CouldStand one.ahead two.ahead (take h.count (t.left one.slot)) (take 0 (t.left two.slot))) (one.ahead.bytes ++ take h.count (t.left one.slot)) (before_end two.ahead [])
      (λ behind. record { behind_one = behind; behind_two = []; at_one = opens one.ahead (take h.count (t.left one.slot)) behind h.not_over; at_two = refl }) p.1) (h.told k);
}

-- the other one
pub misses_two : (one two : Reader) (a b : DeskState) (P : List ℕ → Type 0) (Q : (List ℕ → List ℕ → Type 0) → Type 0)
    → ((May : List ℕ → List ℕ → Type 0) (c bytes : List ℕ) → ((behind : List ℕ) → May c (bytes ++ behind)) → P bytes → Q May) → FailsAhead two.slot two.ahead a b P → MissesBoth one two a b Q
misses_two one two a b P Q gives h = record {
  of_one = 0;
  of_two = h.count;
  fails = then_same (taken two.slot h.count) (both_taken one.slot two.slot 0 h.count) a b (λ v. ap (taken two.slot h.count) (taken-none one.slot v)) h.fails;
  told = λ k. weaker_told a (λ t. (h.count ≤ length (t.left two.slot)) × P (two.ahead.bytes ++ take h.count (t.left two.slot))) (λ t. Q (CouldStand one.ahead two.ahead (take 0 (t.left one.slot)) (take h.count (t.left two.slot))))
      (λ t p. gives (CouldStand one.ahead two.ahead (take 0 (t.left one.slot)) (take h.count (t.left two.slot))) (before_end one.ahead []) (two.ahead.bytes ++ take h.count (t.left two.slot))
      (λ behind. record { behind_one = []; behind_two = behind; at_one = refl; at_two = opens two.ahead (take h.count (t.left two.slot)) behind h.not_over }) p.1) (h.told k);
}

-- from the first byte of both texts on
pub misses_new : (one two : Reader) (x y : ℕ) (a b : DeskState) (P : (List ℕ → List ℕ → Type 0) → Type 0) (Q : List ℕ → List ℕ → Type 0) → one.slot ≡ x → two.slot ≡ y → one.ahead ≡ nothing_held → two.ahead ≡ nothing_held
    → ((c p : List ℕ) → P (λ c' p'. (behind : List ℕ) × (other : List ℕ) × (c' ≡ c ++ behind) × (p' ≡ p ++ other)) → Q c p)
    → ((May May' : List ℕ → List ℕ → Type 0) → ((c p : List ℕ) → May c p → May' c p) → P May → P May')
    → MissesBoth one two a b P → FailsBoth x y Q a b
misses_new one two x y a b P Q at_x at_y none_x none_y gives wider h = record {
  of_one = h.of_one;
  of_two = h.of_two;
  fails = subst (λ (s : ℕ). FailsToRead (both_taken s y h.of_one h.of_two) a b) at_x (subst (λ (s : ℕ). FailsToRead (both_taken one.slot s h.of_one h.of_two) a b) at_y h.fails);
  told = λ k. weaker_told a (λ t. P (CouldStand one.ahead two.ahead (take h.of_one (t.left one.slot)) (take h.of_two (t.left two.slot)))) (λ t. Q (take h.of_one (t.left x)) (take h.of_two (t.left y)))
      (λ t p.
      subst (λ (s : ℕ). Q (take h.of_one (t.left s)) (take h.of_two (t.left y))) at_x
      (subst (λ (s : ℕ). Q (take h.of_one (t.left one.slot)) (take h.of_two (t.left s))) at_y
      (gives (take h.of_one (t.left one.slot)) (take h.of_two (t.left two.slot))
      (wider (CouldStand one.ahead two.ahead (take h.of_one (t.left one.slot)) (take h.of_two (t.left two.slot))) (λ c' p'. (behind : List ℕ) × (other : List ℕ) × (c' ≡ take h.of_one (t.left one.slot) ++ behind) × (p' ≡ take h.of_two (t.left two.slot) ++ other))
      (λ c p could. (
        could.behind_one,
        could.behind_two,
        could.at_one ∙ ap (λ (held : Held). before_end held (take h.of_one (t.left one.slot) ++ could.behind_one)) none_x,
        could.at_two ∙ ap (λ (held : Held). before_end held (take h.of_two (t.left two.slot) ++ could.behind_two)) none_y,
      )) p)))) (h.told k);
}

-- from the first byte of both texts on
pub takes_both : (one two one' two' : Reader) (x y : ℕ) (a b : DeskState) (P : List ℕ → List ℕ → List ℕ → List ℕ → Type 0) (Q : List ℕ → List ℕ → Type 0) → one.slot ≡ x → two.slot ≡ y → one.ahead ≡ nothing_held → two.ahead ≡ nothing_held
    → ((c p c' p' : List ℕ) → P c p c' p' → Q c p) → ReadsBoth one two one' two' a b P → TakesBoth x y Q a b
takes_both one two one' two' x y a b P Q at_x at_y none_x none_y gives reads = record {
  of_one = reads.of_one;
  of_two = reads.of_two;
  reached = subst (λ (s : ℕ). Reads (both_taken s y reads.of_one reads.of_two) a b) at_x (subst (λ (s : ℕ). Reads (both_taken one.slot s reads.of_one reads.of_two) a b) at_y reads.reached);
  texts = λ k. weaker_told a (λ t. BothTell one two one' two' reads.of_one reads.of_two P (t.left one.slot) (t.left two.slot)) (λ t. Q (t.left x) (t.left y))
      (λ t p.
      let rest : List ℕ = drop reads.of_one (t.left one.slot) in
      let other : List ℕ = drop reads.of_two (t.left two.slot) in
      let whole : Q (before_end one.ahead (take reads.of_one (t.left one.slot) ++ rest)) (before_end two.ahead (take reads.of_two (t.left two.slot) ++ other)) =
      gives (before_end one.ahead (take reads.of_one (t.left one.slot) ++ rest)) (before_end two.ahead (take reads.of_two (t.left two.slot) ++ other)) (before_end one'.ahead rest) (before_end two'.ahead other) (p rest other (λ e. refl) (λ e. refl)) in
      let at_one : before_end one.ahead (take reads.of_one (t.left one.slot) ++ rest) ≡ t.left x = ap (λ (held : Held). before_end held (take reads.of_one (t.left one.slot) ++ rest)) none_x ∙ (take-append-drop reads.of_one (t.left one.slot) ∙ ap t.left at_x) in
      let at_two : before_end two.ahead (take reads.of_two (t.left two.slot) ++ other) ≡ t.left y = ap (λ (held : Held). before_end held (take reads.of_two (t.left two.slot) ++ other)) none_y ∙ (take-append-drop reads.of_two (t.left two.slot) ∙ ap t.left at_y) in
      subst (λ (xs : List ℕ). Q xs (t.left y)) at_one (subst (λ (ys : List ℕ). Q (before_end one.ahead (take reads.of_one (t.left one.slot) ++ rest)) ys) at_two whole))
      (reads.told k);
}

-- nothing was taken
pub takes_none : (x y : ℕ) (a : DeskState) → TakesBoth x y (λ c p. Unit {0}) a a
takes_none x y a = record {
  of_one = 0;
  of_two = 0;
  reached = as_reads (both_taken x y 0 0) a a (begin (both_taken x y 0 0) a (λ v. ap (taken y 0) (taken-none x v) ∙ taken-none y v));
  texts = λ k. always_told a (λ t. Unit {0}) (λ t. tt);
}

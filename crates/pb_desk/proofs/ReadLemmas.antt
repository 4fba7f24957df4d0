-- Bytes that go from a slot to a line.
use Rattle.std.proofs.Common.{◌≡◌, ◌≤◌, ◌<◌, ◌+◌, ℕ, Bool, true, false, List, [], ◌∷◌, ◌++◌, arith, length, take, drop, refl, ap, sym, ◌∙◌, subst, append_assoc}
use Rattle.std.specs.Prelude.{IfErr, IfSome, IsTrue, Result, ◌==◌}
use Rattle.std.specs.Result.{IsErrAnd}
use Rattle.std.specs.declared.result.Result.TheVariants.{Ok, Err}
use Rattle.std.proofs.lemmas.Bool.{eqb-true, true≢false}
use Rattle.std.specs.declared.option.Option.{Option}
use Rattle.std.specs.declared.option.Option.TheVariants.{Some, None}
use Rattle.std.proofs.lemmas.List.{drop-drop, append-nil, length-drop, take-append-drop}
use Rattle.std.proofs.Math.Seq.{take-add}
use Rattle.pb_desk.specs.View.{Told, View, put, taken}
use Rattle.pb_desk.specs.Desk.{DeskState, Advances, FailsToRead, IfKept, IfTold, same}
use Rattle.pb_desk.proofs.Steps.{as_reads, begin, reads_by_then, then_fails_to_read}
use Rattle.pb_desk.proofs.Readings.{put-same, put-put, taken-taken, told_after, both_told}
use Rattle.pb_desk.proofs.Slots.{put_there}
use Rattle.pb_desk.specs.declared.limits.Remaining.{Remaining}
use Rattle.pb_desk.specs.declared.piece.Stop.{Stop}
use Rattle.pb_desk.specs.declared.piece.Stop.TheVariants as stop
use Rattle.pb_desk.specs.declared.line.Found.TheVariants.{Ended}
use Rattle.pb_desk.proofs.LineLemmas.{begins_break, begins_last}
use Rattle.pb_desk.specs.LineReading.{Held, MayStand, before_end, beyond, limit_in, Knows, TakesAhead, FailsAhead, IsPart}
use Rattle.pb_desk.specs.inner.PieceReading.{InLine, TakesPiece, StopsPiece, Finds, Fits, StopsLine, found_at_end, Refills}

pub taken-none : (slot : ℕ) (view : View) → taken slot 0 view ≡ view
taken-none slot view = elim view.told as (λ (o : Option Told). taken slot 0 (record view { told = o }) ≡ record view { told = o }) [
  | None ↦ refl
  | Some t ↦ ap (λ (left : ℕ → List ℕ). record view { told = Some (record t { left = left }) }) (put_there t.left slot (drop 0 (t.left slot)) refl)
]

pub always_told : (a : DeskState) (P : Told → Type 0) → ((t : Told) → P t) → IfTold a P
always_told a P h = elim a.view.told as (λ (o : Option Told). IfSome o P) [ None ↦ tt | Some t ↦ h t ]

pub weaker_told : (a : DeskState) (P Q : Told → Type 0) → ((t : Told) → P t → Q t) → IfTold a P → IfTold a Q
weaker_told a P Q h p = by_cases a.view.told p
  where
    by_cases : (told : Option Told) → IfSome told P → IfSome told Q
    by_cases None p = tt
    by_cases (Some t) p = h t p

-- what a read tells of the bytes that were taken, with whatever stands behind them
abbrev pub Tells : ℕ → ℕ → Held → Held → (List ℕ → List ℕ → Type 0) → Told → Type 0
Tells slot count x y P t = (rest : List ℕ) → MayStand y (drop count (t.left slot)) rest → P (before_end x (take count (t.left slot) ++ rest)) (before_end y rest)

-- nothing is read
reads_nothing : (slot : ℕ) (ahead : Held) (a : DeskState) (P : List ℕ → List ℕ → Type 0) → Knows slot ahead a → ((left : List ℕ) → P (before_end ahead left) (before_end ahead left)) → TakesAhead slot ahead ahead a a P
reads_nothing slot ahead a P knows h = record {
  count = 0;
  takes = record { reached = as_reads (taken slot 0) a a (begin (taken slot 0) a (taken-none slot)); were_left = λ k. always_told a (λ t. 0 ≤ length (t.left slot)) (λ t. omega arith) };
  over = λ e. e;
  ended = sym (put_there a.ended slot ahead.over knows);
  told = λ k. always_told a (Tells slot 0 ahead ahead P) (λ t rest may. h rest);
}

-- nothing was read yet
pub reads_begin : (slot : ℕ) (ahead : Held) (a : DeskState) (P : List ℕ → List ℕ → Type 0) → Knows slot ahead a → ((text : List ℕ) → P text text) → TakesAhead slot ahead ahead a a P
reads_begin slot ahead a P knows h = reads_nothing slot ahead a P knows (λ left. h (before_end ahead left))

takes_takes : (slot n m : ℕ) (a b c : DeskState) → Advances slot n a b → Advances slot m b c → Advances slot (n + m) a c
takes_takes slot n m a b c first second = record {
  reached = reads_by_then (taken slot n) (taken slot m) (taken slot (n + m)) a b c (taken-taken slot n m) first.reached second.reached;
  were_left = λ k. both_told (λ t. n ≤ length (t.left slot)) (λ t. m ≤ length (drop n (t.left slot))) (λ t. n + m ≤ length (t.left slot)) a
      (λ t le more. omega (arith, le, more, length-drop n (t.left slot))) (first.were_left (second.reached.kept k)) (told_after slot n (λ left. m ≤ length left) a b first.reached.view (second.were_left k));
}

-- bytes that are taken in two reads are those of one
pub take_twice : (n m : ℕ) (left behind : List ℕ) → take n left ++ (take m (drop n left) ++ behind) ≡ take (n + m) left ++ behind
take_twice n m left behind = sym (append_assoc (take n left) (take m (drop n left)) behind) ∙ ap (λ (xs : List ℕ). xs ++ behind) (sym (take-add n m left))

-- one read after another
pub reads_then : (slot : ℕ) (x y z : Held) (a b c : DeskState) (P Q R : List ℕ → List ℕ → Type 0) → ((text middle rest : List ℕ) → P text middle → Q middle rest → R text rest) → TakesAhead slot x y a b P → TakesAhead slot y z b c Q → TakesAhead slot x z a c R
reads_then slot x y z a b c P Q R joins first second =
    let later : IfKept a c (λ t. Later second.count (drop first.count (t.left slot))) = λ k. told_after slot first.count (Later second.count) a b first.takes.reached.view (second.told k) in
    record {
      count = first.count + second.count;
      takes = takes_takes slot first.count second.count a b c first.takes second.takes;
      over = λ e. second.over (first.over e);
      ended = second.ended ∙ (ap (λ (f : ℕ → Bool). put f slot z.over) first.ended ∙ put-put a.ended slot y.over z.over);
      told = λ k. both_told (Tells slot first.count x y P) (λ t. Later second.count (drop first.count (t.left slot))) (Tells slot (first.count + second.count) x z R) a
          (λ t p q rest may. join first.count second.count (t.left slot) rest may p q) (first.told (second.takes.reached.kept k)) (later k);
    }
  where
    Later : ℕ → List ℕ → Type 0
    Later m left = (rest : List ℕ) → MayStand z (drop m left) rest → Q (before_end y (take m left ++ rest)) (before_end z rest)

    join : (n m : ℕ) (left rest : List ℕ) → MayStand z (drop (n + m) left) rest → ((rest : List ℕ) → MayStand y (drop n left) rest → P (before_end x (take n left ++ rest)) (before_end y rest)) → Later m (drop n left)
        → R (before_end x (take (n + m) left ++ rest)) (before_end z rest)
    join n m left rest may p q =
        let may' : MayStand z (drop m (drop n left)) rest = λ e. may e ∙ sym (drop-drop m n left) in
        let middle : List ℕ = take m (drop n left) ++ rest in
        let here : MayStand y (drop n left) middle = λ e. ap (λ (xs : List ℕ). take m (drop n left) ++ xs) (may' (second.over e)) ∙ take-append-drop m (drop n left) in
        subst (λ (xs : List ℕ). R (before_end x xs) (before_end z rest)) (take_twice n m left rest)
        (joins (before_end x (take n left ++ middle)) (before_end y middle) (before_end z rest) (p middle here) (q rest may'))

-- bytes that were ahead are used
pub reads_ahead : (slot : ℕ) (x y z : Held) (a b : DeskState) (P Q : List ℕ → List ℕ → Type 0) → z.over ≡ y.over → ((text left : List ℕ) → P text (y.bytes ++ left) → Q text (z.bytes ++ left)) → TakesAhead slot x y a b P → TakesAhead slot x z a b Q
reads_ahead slot x y z a b P Q same_end h first = record {
  count = first.count;
  takes = first.takes;
  over = λ e. same_end ∙ first.over e;
  ended = first.ended ∙ ap (λ (over : Bool). put a.ended slot over) (sym same_end);
  told = λ k. weaker_told a (Tells slot first.count x y P) (Tells slot first.count x z Q)
      (λ t p rest may. subst (λ (over : Bool). Q (before_end x (take first.count (t.left slot) ++ rest)) (z.bytes ++ beyond over rest)) (sym same_end)
      (h (before_end x (take first.count (t.left slot) ++ rest)) (beyond y.over rest) (p rest (λ e. may (same_end ∙ e))))) (first.told k);
}

-- the same read, of which less is said
pub reads_weaker : (slot : ℕ) (x y : Held) (a b : DeskState) (P Q : List ℕ → List ℕ → Type 0) → ((text rest : List ℕ) → P text rest → Q text rest) → TakesAhead slot x y a b P → TakesAhead slot x y a b Q
reads_weaker slot x y a b P Q h first = reads_ahead slot x y y a b P Q refl (λ text left p. h text (y.bytes ++ left) p) first

pub still_open : (slot : ℕ) (x y : Held) (a b : DeskState) (P : List ℕ → List ℕ → Type 0) → TakesAhead slot x y a b P → IsTrue (a.view.reading slot) → IsTrue (b.view.reading slot)
still_open slot x y a b P first is_open = ap (λ (v : View). v.reading slot) first.takes.reached.view ∙ is_open

-- where a read ended, the desk knows of the slot what the reader does
pub knows_after : (slot : ℕ) (x y : Held) (a b : DeskState) (P : List ℕ → List ℕ → Type 0) → TakesAhead slot x y a b P → Knows slot y b
knows_after slot x y a b P first = ap (λ (f : ℕ → Bool). f slot) first.ended ∙ put-same a.ended slot y.over

some_bytes : (xs : List ℕ) → (length xs == 0) ≡ false → 0 < length xs
some_bytes [] e = absurd (true≢false e)
some_bytes (x ∷ xs) e = omega arith

no_bytes : (xs : List ℕ) → (length xs == 0) ≡ true → xs ≡ []
no_bytes [] e = refl
no_bytes (x ∷ xs) e = absurd (omega (arith, eqb-true (length (x ∷ xs)) 0 e))

-- something is ahead already
pub refilled_before : (slot : ℕ) (ahead : Held) (bytes : List ℕ) (a : DeskState) → Knows slot ahead a → bytes ≡ ahead.bytes → (length bytes == 0) ≡ false → Refills slot true ahead ahead a a
refilled_before slot ahead bytes a knows same' some = record {
  reads = reads_begin slot ahead a (λ text rest. (text ≡ rest) × (true ≡ false → rest ≡ [])) knows (λ text. (refl, λ e. absurd (true≢false e)));
  some_ahead = λ _. some_bytes ahead.bytes (ap (λ (xs : List ℕ). length xs == 0) (sym same') ∙ some);
}

-- the end was met before
pub refilled_over : (slot : ℕ) (ahead : Held) (bytes : List ℕ) (a : DeskState) → Knows slot ahead a → bytes ≡ ahead.bytes → (length bytes == 0) ≡ true → ahead.over ≡ true → Refills slot false ahead ahead a a
refilled_over slot ahead bytes a knows same' none is_over =
    let empty : (left : List ℕ) → before_end ahead left ≡ [] = λ left. ap (λ (over : Bool). ahead.bytes ++ beyond over left) is_over ∙ (append-nil ahead.bytes ∙ (sym same' ∙ no_bytes bytes none)) in
    record {
      reads = reads_nothing slot ahead a (λ text rest. (text ≡ rest) × (false ≡ false → rest ≡ [])) knows (λ left. (refl, λ e. empty left));
      some_ahead = λ e. absurd (true≢false (sym e));
    }

-- ---- a line

abbrev pub Behind : List ℕ → List ℕ → List ℕ → Type 0
Behind line text rest = text ≡ line ++ rest

pub refilled_line : (slot : ℕ) (some : Bool) (line : List ℕ) (x y z : Held) (a b c : DeskState) → TakesAhead slot x y a b (Behind line) → Refills slot some y z b c → TakesAhead slot x z a c (Behind line)
refilled_line slot some line x y z a b c first more =
    reads_then slot x y z a b c (Behind line) (λ text rest. (text ≡ rest) × (some ≡ false → rest ≡ [])) (Behind line) (λ text middle rest p q. p ∙ ap (λ (xs : List ℕ). line ++ xs) q.0) first more.reads

end_finds : (left : Remaining) (line text middle rest : List ℕ) → InLine left line → text ≡ line ++ middle → middle ≡ rest → rest ≡ [] → Finds left (found_at_end line) line text rest
end_finds left [] text middle rest h p q r = (p ∙ (q ∙ r), r)
end_finds left (b ∷ bytes) text middle rest h p q r =
    let whole : text ≡ b ∷ bytes = p ∙ (ap (λ (xs : List ℕ). b ∷ bytes ++ xs) (q ∙ r) ∙ append-nil (b ∷ bytes)) in
    (whole, r, begins_last b bytes text rest h.unbroken whole r, ap (limit_in left) (p ∙ ap (λ (xs : List ℕ). b ∷ bytes ++ xs) (q ∙ r)) ∙ h.limit [])

-- the text ends
pub end_found : (left : Remaining) (slot : ℕ) (some : Bool) (line : List ℕ) (x y z : Held) (a b c : DeskState) → some ≡ false → InLine left line → TakesAhead slot x y a b (Behind line) → Refills slot some y z b c → TakesAhead slot x z a c (Finds left (found_at_end line) line)
end_found left slot some line x y z a b c none h first more =
    reads_then slot x y z a b c (Behind line) (λ text rest. (text ≡ rest) × (some ≡ false → rest ≡ [])) (Finds left (found_at_end line) line) (λ text middle rest p q. end_finds left line text middle rest h p q.0 (q.1 none)) first more.reads

pub end_fits : (left : Remaining) (line : List ℕ) → InLine left line → Fits left (found_at_end line) line
end_fits left [] h = refl
end_fits left (b ∷ bytes) h = (h.in_text, h.is_line (omega arith))

-- the line ends
pub line_found : (left : Remaining) (slot : ℕ) (line grown : List ℕ) (x z w : Held) (a c : DeskState) → w.over ≡ z.over → TakesPiece left true z.bytes w.bytes line grown → TakesAhead slot x z a c (Behind line) → TakesAhead slot x w a c (Finds left Ended grown)
line_found left slot line grown x z w a c same_end takes first =
    reads_ahead slot x z w a c (Behind line) (Finds left Ended grown) same_end
    (λ text more p.
    let whole : text ≡ grown ++ 10 ∷ (w.bytes ++ more) = p ∙ (sym (append_assoc line z.bytes more) ∙ (ap (λ (xs : List ℕ). xs ++ more) takes.1 ∙ append_assoc grown (10 ∷ w.bytes) more)) in
    (whole, begins_break grown text (w.bytes ++ more) takes.0.unbroken whole, ap (limit_in left) whole ∙ takes.0.limit (w.bytes ++ more)))
    first

-- the line goes on
pub line_grows : (left : Remaining) (slot : ℕ) (line grown : List ℕ) (x z w : Held) (a c : DeskState) → w.over ≡ z.over → TakesPiece left false z.bytes w.bytes line grown → TakesAhead slot x z a c (Behind line) → TakesAhead slot x w a c (Behind grown)
line_grows left slot line grown x z w a c same_end takes first =
    reads_ahead slot x z w a c (Behind line) (Behind grown) same_end
    (λ text more p.
    p ∙ (sym (append_assoc line z.bytes more) ∙ (ap (λ (xs : List ℕ). xs ++ more) (sym takes.1) ∙ ap (λ (xs : List ℕ). grown ++ (xs ++ more)) (sym takes.2))))
    first

pub line_stops : (left : Remaining) (slot : ℕ) (s : Stop) (line : List ℕ) (x z w : Held) (a c : DeskState) → w.over ≡ z.over → StopsPiece left z.bytes line s → TakesAhead slot x z a c (Behind line) → StopsLine left slot x w a c s
line_stops left slot stop.Failed line x z w a c same_end stops first = absurd stops
line_stops left slot (stop.Limit which) line x z w a c same_end stops first =
    reads_ahead slot x z w a c (Behind line) (λ text rest. limit_in left text ≡ Some which) same_end
    (λ text more p. ap (limit_in left) (p ∙ sym (append_assoc line z.bytes more)) ∙ stops more) first
line_stops left slot stop.NoMemory line x z w a c same_end stops first =
    reads_ahead slot x z w a c (Behind line) (λ text rest. Unit {0}) same_end (λ text more p. tt) first

-- ---- a read that fails

-- the first read fails
pub fails_at_once : (slot : ℕ) (ahead : Held) (a b : DeskState) (P : List ℕ → Type 0) → P ahead.bytes → ahead.over ≡ false → FailsToRead same a b → FailsAhead slot ahead a b P
fails_at_once slot ahead a b P h not_over fails = record {
  count = 0;
  fails = record { view = fails.view ∙ sym (taken-none slot a.view); tells = fails.tells; reads = fails.reads; writes = fails.writes; kept = fails.kept };
  not_over = not_over;
  told = λ k. always_told a (λ t. (0 ≤ length (t.left slot)) × P (ahead.bytes ++ take 0 (t.left slot))) (λ t. (omega arith, subst P (sym (append-nil ahead.bytes)) h));
}

-- a read fails later
pub fails_then : (slot : ℕ) (x y : Held) (a b c : DeskState) (P : List ℕ → List ℕ → Type 0) (Q R : List ℕ → Type 0) → ((bytes part : List ℕ) → ((behind : List ℕ) → P (bytes ++ behind) (part ++ behind)) → Q part → R bytes)
    → TakesAhead slot x y a b P → FailsAhead slot y b c Q → FailsAhead slot x a c R
fails_then slot x y a b c P Q R joins first second =
    let later : IfKept a c (λ t. (second.count ≤ length (drop first.count (t.left slot))) × Q (y.bytes ++ take second.count (drop first.count (t.left slot)))) =
    λ k. told_after slot first.count (λ left. (second.count ≤ length left) × Q (y.bytes ++ take second.count left)) a b first.takes.reached.view (second.told k) in
    let both : IfKept a b (λ t. (first.count ≤ length (t.left slot)) × Tells slot first.count x y P t) =
    λ k. both_told (λ t. first.count ≤ length (t.left slot)) (Tells slot first.count x y P) (λ t. (first.count ≤ length (t.left slot)) × Tells slot first.count x y P t) a (λ t le p. (le, p)) (first.takes.were_left k) (first.told k) in
    record {
      count = first.count + second.count;
      fails = then_fails_to_read (taken slot first.count) (taken slot second.count) (taken slot (first.count + second.count)) a b c (taken-taken slot first.count second.count) first.takes.reached second.fails;
      not_over = open_before x.over refl;
      told = λ k. both_told (λ t. (first.count ≤ length (t.left slot)) × Tells slot first.count x y P t)
          (λ t. (second.count ≤ length (drop first.count (t.left slot))) × Q (y.bytes ++ take second.count (drop first.count (t.left slot))))
          (λ t. (first.count + second.count ≤ length (t.left slot)) × R (x.bytes ++ take (first.count + second.count) (t.left slot))) a
          (λ t p q. (omega (arith, p.0, q.0, length-drop first.count (t.left slot)), join first.count second.count (t.left slot) p.1 q.1)) (both (second.fails.kept k)) (later k);
    }
  where
    open_before : (over : Bool) → x.over ≡ over → x.over ≡ false
    open_before true e = absurd (true≢false (sym (first.over e) ∙ second.not_over))
    open_before false e = e

    join : (n m : ℕ) (left : List ℕ) → ((rest : List ℕ) → MayStand y (drop n left) rest → P (before_end x (take n left ++ rest)) (before_end y rest)) → Q (y.bytes ++ take m (drop n left)) → R (x.bytes ++ take (n + m) left)
    join n m left p q = joins (x.bytes ++ take (n + m) left) (y.bytes ++ take m (drop n left)) stands q
      where
        stands : (behind : List ℕ) → P ((x.bytes ++ take (n + m) left) ++ behind) ((y.bytes ++ take m (drop n left)) ++ behind)
        stands behind =
            let rest : List ℕ = take m (drop n left) ++ behind in
            let text : before_end x (take n left ++ rest) ≡ (x.bytes ++ take (n + m) left) ++ behind =
            ap (λ (o : Bool). x.bytes ++ beyond o (take n left ++ rest)) (open_before x.over refl) ∙ (ap (λ (xs : List ℕ). x.bytes ++ xs) (take_twice n m left behind) ∙ sym (append_assoc x.bytes (take (n + m) left) behind)) in
            let more : before_end y rest ≡ (y.bytes ++ take m (drop n left)) ++ behind =
            ap (λ (o : Bool). y.bytes ++ beyond o rest) second.not_over ∙ sym (append_assoc y.bytes (take m (drop n left)) behind) in
            subst (λ (xs : List ℕ). P xs ((y.bytes ++ take m (drop n left)) ++ behind)) text
            (subst (λ (ys : List ℕ). P (before_end x (take n left ++ rest)) ys) more (p rest (λ e. absurd (true≢false (sym e ∙ second.not_over)))))

-- less is said of what was taken before it
pub fails_weaker : (slot : ℕ) (ahead : Held) (a b : DeskState) (P Q : List ℕ → Type 0) → ((bytes : List ℕ) → P bytes → Q bytes) → FailsAhead slot ahead a b P → FailsAhead slot ahead a b Q
fails_weaker slot ahead a b P Q weaker h = record {
  count = h.count;
  fails = h.fails;
  not_over = h.not_over;
  told = λ k. weaker_told a (λ t. (h.count ≤ length (t.left slot)) × P (ahead.bytes ++ take h.count (t.left slot))) (λ t. (h.count ≤ length (t.left slot)) × Q (ahead.bytes ++ take h.count (t.left slot)))
      (λ t p. (p.0, weaker (ahead.bytes ++ take h.count (t.left slot)) p.1)) (h.told k);
}

-- a line's end is not there yet
pub line_fails : (left : Remaining) (slot : ℕ) (line : List ℕ) (x y : Held) (a b c : DeskState) → InLine left line → y.bytes ≡ [] → y.over ≡ false → TakesAhead slot x y a b (Behind line) → FailsToRead same b c → FailsAhead slot x a c (IsPart left)
line_fails left slot line x y a b c h none not_over first fails =
    fails_then slot x y a b c (Behind line) (λ part. part ≡ []) (IsPart left)
    (λ bytes part p q.
    let whole : bytes ≡ line = sym (append-nil bytes) ∙ (p [] ∙ (ap (λ (xs : List ℕ). line ++ (xs ++ [])) q ∙ append-nil line)) in
    subst (IsPart left) (sym whole) (h.unbroken, ap (limit_in left) (sym (append-nil line)) ∙ h.limit [])) first
    (fails_at_once slot y b c (λ part. part ≡ []) none not_over fails)

-- what is so of a failed read is so of that answer
pub of_failed : {A : Type 0} (r : Result A Stop) (P : Stop → Type 0) → IsErrAnd r (λ why. why ≡ stop.Failed) → P stop.Failed → IfErr r P
of_failed (Ok x) P is h = tt
of_failed (Err why) P is h = subst P (sym is) h

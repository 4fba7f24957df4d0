-- Slots against the list of what stands.
use Rattle.std.proofs.Common.{◌≡◌, ◌<◌, ◌+◌, ℕ, zero, suc, Bool, true, false, not, cond, ◌||◌, List, [], ◌∷◌, ◌++◌, arith, refl, ap, sym, ◌∙◌, eqb, length, get_or, set, subst, Option, Some, None, ◌&&◌, length-append, append_assoc, take}
use Rattle.std.specs.Prelude.{All, map, filter_map, is_some}
use Rattle.std.specs.List.{cons_option}
use Rattle.std.specs.Option.{option_to_list}
use Rattle.std.proofs.lemmas.List.{take_more, length-set, length-take-le}
use Rattle.std.proofs.lemmas.Bool.{eq-eqb, ne_eqb}
use Rattle.std.proofs.lemmas.List.Elements.{All-nil, All-cons, All-head, All-tail, All-push, All-filter, All-map, All-weaker, filter_map-append}
use Rattle.pb_norm.specs.Constraints.{Constraint}
use Rattle.pb_steps.specs.Database.{Entry, constraint_at, is_out, without, is_listed, entry, mark, numbered_from, live_constraints, grown, loaded_database, reduced, Database}
use Rattle.pb_norm.specs.Constraints.{HasVarsWithin, AreVarsWithin}
use Rattle.pb_steps.specs.Operations.{IsNarrow}
use Rattle.pb_database.specs.Sound.{IsSound}
use Rattle.pb_database.proofs.Without.{without-push, without-none}
use Rattle.pb_database.specs.declared.slots.Slot.{Slot}
use Rattle.pb_database.specs.inner.Slots.{with_entry, entries_from, hole, whole, slot_of, slot_is_out, slots_without, marked_slots, database_of, placed_from, listed_slots}

-- ---- what is found under a number

abbrev found : {B : Type 0} → B → (Entry → B) → List Entry → ℕ → B
found b f [] id = b
found b f (e ∷ es) id = cond (eqb e.id id) (f e) (found b f es id)

constraint_at-found : (es : List Entry) (id : ℕ) → constraint_at es id ≡ found None (λ e. Some e.constraint) es id
constraint_at-found [] id = refl
constraint_at-found (e ∷ es) id = ap (λ (o : Option Constraint). cond (eqb e.id id) (Some e.constraint) o) (constraint_at-found es id)

is_out-found : (es : List Entry) (id : ℕ) → is_out es id ≡ found false (λ e. e.out) es id
is_out-found [] id = refl
is_out-found (e ∷ es) id = ap (λ (b : Bool). cond (eqb e.id id) e.out b) (is_out-found es id)

abbrev of_slot : {B : Type 0} → B → (Entry → B) → ℕ → Option Constraint → Bool → B
of_slot b f id None out = b
of_slot b f id (Some c) out = f (record { id = id; constraint = c; out = out })

found-slot : {B : Type 0} (b : B) (f : Entry → B) (n id : ℕ) (o : Option Constraint) (out : Bool) (es : List Entry) →
    found b f (with_entry n o out es) id ≡ cond (eqb n id) (of_slot (found b f es id) f n o out) (found b f es id)
found-slot b f n id None out es = kept (eqb n id) where
  kept : (t : Bool) → found b f es id ≡ cond t (found b f es id) (found b f es id)
  kept true = refl
  kept false = refl
found-slot b f n id (Some c) out es = refl

-- nothing stands under an earlier number
found-before : {B : Type 0} (b : B) (f : Entry → B) (n id : ℕ) (ss : List Slot) → id < n → found b f (entries_from n ss) id ≡ b
found-before b f n id [] h = refl
found-before b f n id (s ∷ ss) h =
    found-slot b f n id s.constraint s.out (entries_from (n + 1) ss) ∙
    rw (ne_eqb n id (λ e. omega arith)) (found-before b f (n + 1) id ss (omega arith))

-- what is found is what the slot has
found-at : {B : Type 0} (b : B) (f : Entry → B) (n k : ℕ) (ss : List Slot) → found b f (entries_from n ss) (n + k) ≡ of_slot b f (n + k) (get_or ss k hole).constraint (get_or ss k hole).out
found-at b f n k [] = refl
found-at b f n zero (s ∷ ss) =
    let here : n + 0 ≡ n = omega arith in
    found-slot b f n (n + 0) s.constraint s.out (entries_from (n + 1) ss) ∙
    rw (eq-eqb n (n + 0) (omega arith), found-before b f (n + 1) (n + 0) ss (omega arith)) (ap (λ (m : ℕ). of_slot b f m s.constraint s.out) (sym here))
found-at b f n (suc k) (s ∷ ss) =
    let next : n + suc k ≡ n + 1 + k = omega arith in
    found-slot b f n (n + suc k) s.constraint s.out (entries_from (n + 1) ss) ∙
    rw (ne_eqb n (n + suc k) (λ e. omega arith))
    (ap (λ (m : ℕ). found b f (entries_from (n + 1) ss) m) next ∙ (found-at b f (n + 1) k ss ∙ ap (λ (m : ℕ). of_slot b f m (get_or ss k hole).constraint (get_or ss k hole).out) (sym next)))

-- of ids from 1 on
found-id : {B : Type 0} (b : B) (f : Entry → B) (id : ℕ) (ss : List Slot) → found b f (entries_from 1 ss) id ≡ of_slot b f id (slot_of ss id).constraint (slot_of ss id).out
found-id b f zero ss = found-before b f 1 0 ss (omega arith)
found-id b f (suc k) ss =
    let same : 1 + k ≡ suc k = omega arith in
    ap (λ (m : ℕ). found b f (entries_from 1 ss) m) (sym same) ∙ (found-at b f 1 k ss ∙ ap (λ (m : ℕ). of_slot b f m (get_or ss k hole).constraint (get_or ss k hole).out) same)

pub constraint_at-slot : (id : ℕ) (ss : List Slot) → constraint_at (entries_from 1 ss) id ≡ (slot_of ss id).constraint
constraint_at-slot id ss = constraint_at-found (entries_from 1 ss) id ∙ (found-id None (λ e. Some e.constraint) id ss ∙ same (slot_of ss id).constraint) where
  same : (o : Option Constraint) → of_slot None (λ e. Some e.constraint) id o (slot_of ss id).out ≡ o
  same None = refl
  same (Some c) = refl

pub is_out-slot : (id : ℕ) (ss : List Slot) → is_out (entries_from 1 ss) id ≡ slot_is_out (slot_of ss id)
is_out-slot id ss = is_out-found (entries_from 1 ss) id ∙ (found-id false (λ e. e.out) id ss ∙ same (slot_of ss id).constraint) where
  same : (o : Option Constraint) → of_slot false (λ e. e.out) id o (slot_of ss id).out ≡ (is_some o && (slot_of ss id).out)
  same None = refl
  same (Some c) = refl

-- ---- all that stand

live_constraints-slot : (n : ℕ) (o : Option Constraint) (out : Bool) (es : List Entry) → live_constraints (with_entry n o out es) ≡ option_to_list o ++ live_constraints es
live_constraints-slot n None out es = refl
live_constraints-slot n (Some c) out es = refl

filter_map-cons : (s : Slot) (ss : List Slot) → filter_map (λ (s : Slot). s.constraint) (s ∷ ss) ≡ option_to_list s.constraint ++ filter_map (λ (s : Slot). s.constraint) ss
filter_map-cons s ss = same s.constraint where
  same : (o : Option Constraint) → cons_option o (filter_map (λ (s : Slot). s.constraint) ss) ≡ option_to_list o ++ filter_map (λ (s : Slot). s.constraint) ss
  same None = refl
  same (Some c) = refl

pub live_constraints-slots : (n : ℕ) (ss : List Slot) → live_constraints (entries_from n ss) ≡ filter_map (λ (s : Slot). s.constraint) ss
live_constraints-slots n [] = refl
live_constraints-slots n (s ∷ ss) =
    live_constraints-slot n s.constraint s.out (entries_from (n + 1) ss) ∙
    (ap (λ (cs : List Constraint). option_to_list s.constraint ++ cs) (live_constraints-slots (n + 1) ss) ∙ sym (filter_map-cons s ss))

-- ---- one more

with_entry-append : (n : ℕ) (o : Option Constraint) (out : Bool) (es fs : List Entry) → with_entry n o out (es ++ fs) ≡ with_entry n o out es ++ fs
with_entry-append n None out es fs = refl
with_entry-append n (Some c) out es fs = refl

pub entries_from-push : (n : ℕ) (ss : List Slot) (c : Constraint) (p : ℕ) → entries_from n (ss ++ whole c p ∷ []) ≡ entries_from n ss ++ entry (n + length ss) c ∷ []
entries_from-push n [] c p = let here : n ≡ n + 0 = omega arith in ap (λ (m : ℕ). entry m c ∷ []) here
entries_from-push n (s ∷ ss) c p =
    let last : n + 1 + length ss ≡ n + length (s ∷ ss) = omega arith in
    ap (with_entry n s.constraint s.out) (entries_from-push (n + 1) ss c p) ∙
    (with_entry-append n s.constraint s.out (entries_from (n + 1) ss) (entry (n + 1 + length ss) c ∷ []) ∙
    ap (λ (m : ℕ). with_entry n s.constraint s.out (entries_from (n + 1) ss) ++ entry m c ∷ []) last)

-- the database with one more
pub grown-slots : (original vars : ℕ) (ss : List Slot) (c : Constraint) (p : ℕ) → database_of original vars (ss ++ whole c p ∷ []) ≡ grown (database_of original vars ss) c
grown-slots original vars ss c p =
    let next : 1 + length ss ≡ length ss + 1 = omega arith in
    let live = entries_from-push 1 ss c p ∙ ap (λ (m : ℕ). entries_from 1 ss ++ entry m c ∷ []) next in
    let count : length (ss ++ whole c p ∷ []) + 1 ≡ length ss + 1 + 1 = omega (arith, length-append ss (whole c p ∷ [])) in
    λ i. record { original = original; vars = vars; live = live i; next = count i }

-- ---- fewer

without-slot : (id n : ℕ) (o : Option Constraint) (out : Bool) (es : List Entry) →
    without (id ∷ []) (with_entry n o out es) ≡ cond (eqb id n) (without (id ∷ []) es) (with_entry n o out (without (id ∷ []) es))
without-slot id n None out es = kept (eqb id n) where
  kept : (t : Bool) → without (id ∷ []) es ≡ cond t (without (id ∷ []) es) (without (id ∷ []) es)
  kept true = refl
  kept false = refl
without-slot id n (Some c) out es = kept (eqb id n) where
  kept : (t : Bool) → cond {A = List Entry} (not (t || false)) (record { id = n; constraint = c; out = out } ∷ without (id ∷ []) es) (without (id ∷ []) es)
      ≡ cond {A = List Entry} t (without (id ∷ []) es) (record { id = n; constraint = c; out = out } ∷ without (id ∷ []) es)
  kept true = refl
  kept false = refl

without-before : (id n : ℕ) (ss : List Slot) → id < n → without (id ∷ []) (entries_from n ss) ≡ entries_from n ss
without-before id n [] h = refl
without-before id n (s ∷ ss) h =
    without-slot id n s.constraint s.out (entries_from (n + 1) ss) ∙
    rw (ne_eqb id n (λ e. omega arith)) (ap (with_entry n s.constraint s.out) (without-before id (n + 1) ss (omega arith)))

without-at : (n k : ℕ) (ss : List Slot) → entries_from n (set ss k hole) ≡ without ((n + k) ∷ []) (entries_from n ss)
without-at n k [] = refl
without-at n zero (s ∷ ss) =
    sym (without-slot (n + 0) n s.constraint s.out (entries_from (n + 1) ss) ∙
    rw (eq-eqb (n + 0) n (omega arith)) (without-before (n + 0) (n + 1) ss (omega arith)))
without-at n (suc k) (s ∷ ss) =
    let next : n + 1 + k ≡ n + suc k = omega arith in
    ap (with_entry n s.constraint s.out) (without-at (n + 1) k ss ∙ ap (λ (m : ℕ). without (m ∷ []) (entries_from (n + 1) ss)) next) ∙
    sym (without-slot (n + suc k) n s.constraint s.out (entries_from (n + 1) ss) ∙ rw (ne_eqb (n + suc k) n (λ e. omega arith)) refl)

pub slots_without-entries : (id : ℕ) (ss : List Slot) → entries_from 1 (slots_without ss id) ≡ without (id ∷ []) (entries_from 1 ss)
slots_without-entries zero ss = sym (without-before 0 1 ss (omega arith))
slots_without-entries (suc k) ss = let same : 1 + k ≡ suc k = omega arith in without-at 1 k ss ∙ ap (λ (m : ℕ). without (m ∷ []) (entries_from 1 ss)) same

-- ---- marks

mark-slot : (id n : ℕ) (o : Option Constraint) (out : Bool) (es : List Entry) → map (mark id) (with_entry n o out es) ≡ with_entry n o (eqb n id || out) (map (mark id) es)
mark-slot id n None out es = refl
mark-slot id n (Some c) out es = refl

mark-before : (id n : ℕ) (ss : List Slot) → id < n → map (mark id) (entries_from n ss) ≡ entries_from n ss
mark-before id n [] h = refl
mark-before id n (s ∷ ss) h =
    mark-slot id n s.constraint s.out (entries_from (n + 1) ss) ∙
    rw (ne_eqb n id (λ e. omega arith)) (ap (with_entry n s.constraint s.out) (mark-before id (n + 1) ss (omega arith)))

mark-at : (n k : ℕ) (ss : List Slot) → entries_from n (set ss k (record (get_or ss k hole) { out = true })) ≡ map (mark (n + k)) (entries_from n ss)
mark-at n k [] = refl
mark-at n zero (s ∷ ss) =
    sym (mark-slot (n + 0) n s.constraint s.out (entries_from (n + 1) ss) ∙
    rw (eq-eqb n (n + 0) (omega arith)) (ap (with_entry n s.constraint true) (mark-before (n + 0) (n + 1) ss (omega arith))))
mark-at n (suc k) (s ∷ ss) =
    let next : n + 1 + k ≡ n + suc k = omega arith in
    ap (with_entry n s.constraint s.out) (mark-at (n + 1) k ss ∙ ap (λ (m : ℕ). map (mark m) (entries_from (n + 1) ss)) next) ∙
    sym (mark-slot (n + suc k) n s.constraint s.out (entries_from (n + 1) ss) ∙ rw (ne_eqb n (n + suc k) (λ e. omega arith)) refl)

pub marked-slots : (id : ℕ) (ss : List Slot) → entries_from 1 (marked_slots ss id) ≡ map (mark id) (entries_from 1 ss)
marked-slots zero ss = sym (mark-before 0 1 ss (omega arith))
marked-slots (suc k) ss = let same : 1 + k ≡ suc k = omega arith in mark-at 1 k ss ∙ ap (λ (m : ℕ). map (mark m) (entries_from 1 ss)) same

-- ---- the start

pub numbered_from-slots : (n p : ℕ) (cs : List Constraint) → entries_from n (placed_from p cs) ≡ numbered_from n cs
numbered_from-slots n p [] = refl
numbered_from-slots n p (c ∷ cs) = ap (λ (es : List Entry). entry n c ∷ es) (numbered_from-slots (n + 1) (p + 1) cs)

pub length-placed_from : (p : ℕ) (cs : List Constraint) → length (placed_from p cs) ≡ length cs
length-placed_from p [] = refl
length-placed_from p (c ∷ cs) = ap suc (length-placed_from (p + 1) cs)

pub placed_from-push : (p : ℕ) (cs : List Constraint) (c : Constraint) → placed_from p (cs ++ c ∷ []) ≡ placed_from p cs ++ whole c (p + length cs) ∷ []
placed_from-push p [] c = let here : p ≡ p + 0 = omega arith in ap (λ (n : ℕ). whole c n ∷ []) here
placed_from-push p (d ∷ cs) c =
    let last : p + 1 + length cs ≡ p + length (d ∷ cs) = omega arith in
    ap (λ (ss : List Slot). whole d p ∷ ss) (placed_from-push (p + 1) cs c ∙ ap (λ (n : ℕ). placed_from (p + 1) cs ++ whole c n ∷ []) last)

pub placed_more : (loaded : List Constraint) (i : ℕ) (x y : Constraint) (before after : List Slot) → i < length loaded → x ≡ get_or loaded i x → y ≡ x → before ≡ placed_from 0 (take i loaded) →
    after ≡ before ++ whole y i ∷ [] → after ≡ placed_from 0 (take (i + 1) loaded)
placed_more loaded i x y before after below at same e g =
    let place : i ≡ 0 + length (take i loaded) = omega (arith, length-take-le i loaded (omega (arith, below))) in
    let last : whole y i ≡ whole (get_or loaded i x) (0 + length (take i loaded)) = ap (λ (c : Constraint). whole c i) (same ∙ at) ∙ ap (whole (get_or loaded i x)) place in
    g ∙ (ap (λ (ss : List Slot). ss ++ whole y i ∷ []) e ∙ (ap (λ (s : Slot). placed_from 0 (take i loaded) ++ s ∷ []) last ∙
    (sym (placed_from-push 0 (take i loaded) (get_or loaded i x)) ∙ ap (placed_from 0) (sym (take_more loaded i x below)))))

pub loaded_database-slots : (original vars : ℕ) (ss : List Slot) (cs : List Constraint) → ss ≡ placed_from 0 cs → database_of original vars ss ≡ loaded_database original vars cs
loaded_database-slots original vars ss cs e =
    let live = ap (entries_from 1) e ∙ numbered_from-slots 1 0 cs in
    let count : length ss + 1 ≡ length cs + 1 = omega (arith, ap length e, length-placed_from 0 cs) in
    λ i. record { original = original; vars = vars; live = live i; next = count i }

-- ---- what is true of all that stand

pub sound-push : (vars : ℕ) (ss all : List Slot) (c : Constraint) (p : ℕ) → all ≡ ss ++ whole c p ∷ [] → All (IsSound vars) (entries_from 1 ss) → IsNarrow c → HasVarsWithin vars c.terms → All (IsSound vars) (entries_from 1 all)
sound-push vars ss all c p e h narrow within =
    subst (All (IsSound vars)) (sym (ap (entries_from 1) e ∙ entries_from-push 1 ss c p))
    (All-push (IsSound vars) (entries_from 1 ss) (entry (1 + length ss) c) h (record { narrow = narrow; within = within }))

sound-numbered_from : (vars n : ℕ) (cs : List Constraint) → All (λ c. HasVarsWithin vars c.terms) cs → All IsNarrow cs → All (IsSound vars) (numbered_from n cs)
sound-numbered_from vars n [] h k = All-nil (IsSound vars)
sound-numbered_from vars n (c ∷ cs) h k =
    All-cons (IsSound vars) (entry n c) (numbered_from (n + 1) cs)
    (record { narrow = All-head IsNarrow c cs k; within = All-head {X = Constraint} (λ c. HasVarsWithin vars c.terms) c cs h })
    (sound-numbered_from vars (n + 1) cs (All-tail {X = Constraint} (λ c. HasVarsWithin vars c.terms) c cs h) (All-tail IsNarrow c cs k))

pub sound-loaded_database : (vars : ℕ) (ss : List Slot) (cs : List Constraint) → ss ≡ placed_from 0 cs → AreVarsWithin vars cs → All IsNarrow cs → All (IsSound vars) (entries_from 1 ss)
sound-loaded_database vars ss cs e h k = subst (All (IsSound vars)) (sym (ap (entries_from 1) e ∙ numbered_from-slots 1 0 cs)) (sound-numbered_from vars 1 cs h k)

pub sound-without : (vars : ℕ) (ids : List ℕ) (es fs : List Entry) → fs ≡ without ids es → All (IsSound vars) es → All (IsSound vars) fs
sound-without vars ids es fs e h = subst (All (IsSound vars)) (sym e) (All-filter (λ (x : Entry). not (is_listed ids x.id)) (IsSound vars) es h)

pub sound-marked : (vars id : ℕ) (es fs : List Entry) → fs ≡ map (mark id) es → All (IsSound vars) es → All (IsSound vars) fs
sound-marked vars id es fs e h =
    subst (All (IsSound vars)) (sym e) (All-map (IsSound vars) (mark id) es (All-weaker (IsSound vars) (λ x. IsSound vars (mark id x)) (λ x sound. record { narrow = sound.narrow; within = sound.within }) es h))

-- ---- lists that grow

pub pushed_more : {X Y : Type 0} (f : X → Option Y) (base made next : List Y) (xs : List X) (i : ℕ) (x d : X) → i < length xs → x ≡ get_or xs i d →
    made ≡ base ++ filter_map f (take i xs) → next ≡ made ++ option_to_list (f x) → next ≡ base ++ filter_map f (take (i + 1) xs)
pushed_more {X} {Y} f base made next xs i x d below at e g =
    let front = ap (filter_map f) (take_more xs i d below) ∙ filter_map-append f (take i xs) (get_or xs i d ∷ []) in
    let last : filter_map f (get_or xs i d ∷ []) ≡ option_to_list (f x) = ap (λ (y : X). filter_map f (y ∷ [])) (sym at) ∙ one (f x) in
    g ∙ (ap (λ (ys : List Y). ys ++ option_to_list (f x)) e ∙ (append_assoc base (filter_map f (take i xs)) (option_to_list (f x)) ∙
    ap (λ (ys : List Y). base ++ ys) (ap (λ (ys : List Y). filter_map f (take i xs) ++ ys) (sym last) ∙ sym front)))
  where
    one : (o : Option Y) → cons_option o [] ≡ option_to_list o
    one None = refl
    one (Some y) = refl

pub length-slots_without : (ss : List Slot) (id : ℕ) → length (slots_without ss id) ≡ length ss
length-slots_without ss zero = refl
length-slots_without ss (suc k) = simp length-set

pub length-marked : (ss : List Slot) (id : ℕ) → length (marked_slots ss id) ≡ length ss
length-marked ss zero = refl
length-marked ss (suc k) = simp length-set

pub same_database : (original vars : ℕ) (ss : List Slot) (live : List Entry) (n : ℕ) → entries_from 1 ss ≡ live → length ss ≡ n → database_of original vars ss ≡ record { original = original; vars = vars; live = live; next = n + 1 }
same_database original vars ss live n e f = λ i. record { original = original; vars = vars; live = e i; next = f i + 1 }

-- ---- by ids and by slots

filter_map-same : {X Y : Type 0} (f g : X → Option Y) (xs : List X) → ((x : X) → f x ≡ g x) → filter_map f xs ≡ filter_map g xs
filter_map-same {X} {Y} f g [] h = refl
filter_map-same {X} {Y} f g (x ∷ xs) h = ap (λ (o : Option Y). cons_option o (filter_map f xs)) (h x) ∙ ap (cons_option (g x)) (filter_map-same f g xs h)

pub listed-slots : (ss : List Slot) (ids : List ℕ) → listed_slots ss ids ≡ filter_map (constraint_at (entries_from 1 ss)) ids
listed-slots ss ids = filter_map-same (λ id. (slot_of ss id).constraint) (constraint_at (entries_from 1 ss)) ids (λ id. sym (constraint_at-slot id ss))

-- ids that go one after the other
pub reduced_more : (db : Database) (ids : List ℕ) (i : ℕ) → i < length ids → reduced (reduced db (take i ids)) (get_or ids i 0 ∷ []) ≡ reduced db (take (i + 1) ids)
reduced_more db ids i below =
    let live = sym (without-push (take i ids) (get_or ids i 0) db.live) ∙ ap (λ (js : List ℕ). without js db.live) (sym (take_more ids i 0 below)) in
    λ j. record db { live = live j }

pub reduced_none : (db : Database) → reduced db [] ≡ db
reduced_none db = λ j. record db { live = without-none db.live j }

-- How propagation begins and ends.
use Rattle.std.proofs.Common.{◌≡◌, ◌≤◌, ◌+◌, ◌-◌, inl, inr, ℕ, Bool, true, false, cond, List, [], ◌∷◌, ◌++◌, Option, Some, arith, length, drop, take, map, refl, ap, sym, ◌∙◌, subst, length-append}
use Rattle.std.proofs.Math.Seq.{take-append_seam}
use Rattle.std.specs.Prelude.{All, Contains}
use Rattle.std.proofs.lemmas.List.Elements.{All-contains}
use Rattle.std.proofs.lemmas.List.{drop_all}
use Rattle.std.proofs.lemmas.List.Sums.{sum_by-cons}
use Rattle.pb_base.specs.Literals.{negated, is_among, is_same}
use Rattle.pb_base.specs.declared.literal.Lit.{Lit}
use Rattle.pb_norm.specs.Constraints.{Weighted, Constraint, weight, HasVarsWithin, AreVarsWithin}
use Rattle.pb_norm.specs.Propagation.{room}
use Rattle.pb_norm.proofs.Rooms.{IsPart}
use Rattle.pb_unit.specs.declared.kept.Counters.{Counters}
use Rattle.pb_unit.specs.declared.queue.Phase.{Phase}
use Rattle.pb_unit.specs.declared.queue.Phase.TheVariants as phases
use Rattle.pb_unit.specs.States.{EngineState, IsEngine, Stands, StandWithin, standing, with_lit}
use Rattle.pb_unit.proofs.Standing.{standing_all, stands_contains}
use Rattle.pb_unit.specs.Counters.{IsQueue, IsAtNow, IsKept}
use Rattle.pb_unit.proofs.Answering.{started_reached}
use Rattle.std.proofs.lemmas.Bool.{or_right}
use Rattle.pb_unit.specs.Trails.{oldest}
use Rattle.pb_unit.specs.Steps.{IsCalm, Advances}
use Rattle.pb_unit.specs.Index.{Lists, terms_at, room_at, alert_at, AreCalm, AreAlerts, AreListed, IsCounted, IsStore}
use Rattle.pb_unit.proofs.Visits.{calm_alert, calm_more}
use Rattle.pb_unit.proofs.Telling.{oldest-more, short_more}

-- nothing is made false by no literals
pub room-nil : (ts : List Weighted) → room [] ts ≡ weight ts
room-nil [] = refl
room-nil (t ∷ ts) =
    let f : Weighted → ℕ = λ t. cond (is_among [] (negated t.lit)) 0 t.coef in
    let g : Weighted → ℕ = λ t. t.coef in
    sum_by-cons f t ts ∙ (ap (λ (n : ℕ). t.coef + n) (room-nil ts) ∙ sym (sum_by-cons g t ts))

-- constraints with room enough at the start are calm, and the others were looked at
pub all_calm : (ps : List (Option Constraint)) (kept : List Counters) (tight : List ℕ) (held : List Lit) → AreAlerts ps kept → AreListed ps kept tight → ((p : ℕ) (c : Constraint) → Stands ps p c → room_at kept p ≡ weight c.terms) → All (λ (p : ℕ). (c : Constraint) → Stands ps p c → IsCalm (room_at kept p) held c) tight → AreCalm ps kept held
all_calm ps kept tight held alerts listed full looked p c at = elim (listed p c at) [
  | inl enough ↦ calm_alert (alert_at kept p) (room_at kept p) c held (alerts p c at) (omega (arith, enough, full p c at))
  | inr there ↦ All-contains (λ (p : ℕ). (c : Constraint) → Stands ps p c → IsCalm (room_at kept p) held c) tight p looked there c at
]

-- before anything is told, each room is all that the terms weigh
pub full_rooms : (vars : ℕ) (ps : List (Option Constraint)) (lists : Lists) (kept : List Counters) (counted : List Lit) → IsCounted vars ps lists kept counted → counted ≡ [] → (p : ℕ) (c : Constraint) → Stands ps p c → room_at kept p ≡ weight c.terms
full_rooms vars ps lists kept counted h none p c at =
    h.rooms p ∙ (ap (λ (ls : List Lit). room ls (terms_at h.inner p)) none ∙ (room-nil (terms_at h.inner p) ∙ ap weight (h.same p c at)))

pub oldest-none : (k : ℕ) (ls : List Lit) → k ≡ 0 → oldest k ls ≡ []
oldest-none k ls e = ap (λ (n : ℕ). oldest n ls) e ∙ drop_length ls
  where
    drop_length : (ls : List Lit) → drop (length ls - 0) ls ≡ []
    drop_length ls = drop_all (length ls - 0) ls (omega arith)

pub oldest-all : (k : ℕ) (ls : List Lit) → length ls ≤ k → oldest k ls ≡ ls
oldest-all k ls all = ap (λ (n : ℕ). drop n ls) (let none : length ls - k ≡ 0 = omega (arith, all) in none)

-- the same literals are the oldest of the longer list
pub oldest-advanced : (cs : List Constraint) (given before after : List Lit) (k : ℕ) → Advances cs given before after → k ≤ length before → oldest k before ≡ oldest k after
oldest-advanced cs given before after k f within = sym (oldest-more k f.more before within) ∙ ap (oldest k) (sym f.extends)

pub longer : (cs : List Constraint) (given before after : List Lit) → Advances cs given before after → length before ≤ length after
longer cs given before after f = omega (arith, ap (λ (xs : List Lit). length xs) f.extends, length-append f.more before)

pub calm_ends : (vars : ℕ) (ps : List (Option Constraint)) (lists : Lists) (kept : List Counters) (held : List Lit) (counted : ℕ) → IsCounted vars ps lists kept (oldest counted held) → length held ≤ counted → AreCalm ps kept held → (p : ℕ) (c : Constraint) → Stands ps p c → IsCalm (room held c.terms) held c
calm_ends vars ps lists kept held counted h all calm p c at =
    let same : room_at kept p ≡ room held c.terms =
    h.rooms p ∙ (ap (λ (ls : List Lit). room ls (terms_at h.inner p)) (oldest-all counted held all) ∙ ap (room held) (h.same p c at)) in
    subst (λ (r : ℕ). IsCalm r held c) same (calm p c at)

pub counted_grown : (vars vars' : ℕ) (ps : List (Option Constraint)) (lists : Lists) (kept : List Counters) (before after : List Lit) (k : ℕ) → vars' ≡ vars → Advances (standing ps) [] before after → k ≤ length before → IsCounted vars ps lists kept (oldest k before) → IsCounted vars' ps lists kept (oldest k after)
counted_grown vars vars' ps lists kept before after k e f within h =
    subst (λ (n : ℕ). IsCounted n ps lists kept (oldest k after)) (sym e)
    (subst (IsCounted vars ps lists kept) (oldest-advanced (standing ps) [] before after k f within) h)

-- one more literal is assumed, and holds
pub queue_assumed : (vars : ℕ) (ps : List (Option Constraint)) (lists : Lists) (kept : List Counters) (tight : List ℕ) (held : List Lit) (counted : ℕ) (phase : Phase) (l : Lit) → IsQueue vars ps lists kept tight held counted phase → IsQueue vars ps lists kept tight (with_lit l held) counted phase
queue_assumed vars ps lists kept tight held counted phase l q = by_cases (is_among held l)
  where
    part : IsPart held (l ∷ held)
    part k h = or_right (is_same l k) (is_among held k) h

    at : (p : Phase) → IsAtNow p ps kept held → IsAtNow p ps kept (l ∷ held)
    at phases.Unpropagated h = tt
    at phases.Fixpoint h = λ p c here. calm_more (room_at kept p) c held (l ∷ held) part (h p c here)
    at (phases.Conflicting place) h = short_more ps held (l ∷ held) place part h

    by_cases : (b : Bool) → IsQueue vars ps lists kept tight (cond b held (l ∷ held)) counted phase
    by_cases true = q
    by_cases false = record {
      in_held = omega (arith, q.in_held);
      counts = subst (IsCounted vars ps lists kept) (sym (oldest-more counted (l ∷ []) held q.in_held)) q.counts;
      listed = q.listed;
      even = q.even;
      fresh = q.fresh;
      at = at phase q.at;
    }

-- what a vector holds after its slice was written
pub written : {X : Type 0} (n : ℕ) (new old : List X) → length new ≡ n → take n (new ++ drop (length new) old) ≡ new
written {X} n new old same = ap (λ (k : ℕ). take k (new ++ drop (length new) old)) (sym same) ∙ take-append_seam new (drop (length new) old)

-- a store whose constraints wait to be looked at
pub queue_fresh : (vars : ℕ) (ps : List (Option Constraint)) (lists : Lists) (kept : List Counters) (tight : List ℕ) (held : List Lit) → IsStore vars ps lists kept tight → IsQueue vars ps lists kept tight held 0 phases.Unpropagated
queue_fresh vars ps lists kept tight held s = record {
  in_held = omega arith;
  counts = subst (IsCounted vars ps lists kept) (sym (oldest-none 0 held refl)) s.counts;
  listed = s.listed;
  even = s.even;
  fresh = λ _. refl;
  at = tt;
}

pub kept_fresh : (given_vars vars : ℕ) (ps : List (Option Constraint)) (lists : Lists) (kept : List Counters) (tight : List ℕ) → given_vars ≡ vars → StandWithin vars ps → IsStore vars ps lists kept tight → IsKept given_vars lists kept tight 0 phases.Unpropagated (record { vars = vars; places = ps; given = []; held = [] })
kept_fresh given_vars vars ps lists kept tight same within store =
    let r = started_reached vars ps in
    record {
      same_vars = same;
      engine = record { within = within; holds = record { reached = r.reached; assumed = r.assumed; consistent = r.consistent } };
      queue = queue_fresh vars ps lists kept tight [] store;
    }

-- the engine with a store whose constraints wait to be looked at
pub kept_store : (given_vars : ℕ) (s : EngineState) (lists : Lists) (kept : List Counters) (tight : List ℕ) → given_vars ≡ s.vars → IsEngine s → IsStore s.vars s.places lists kept tight → IsKept given_vars lists kept tight 0 phases.Unpropagated s
kept_store given_vars s lists kept tight same engine store = record {
  same_vars = same;
  engine = engine;
  queue = queue_fresh s.vars s.places lists kept tight s.held store;
}

pub store_read : (vars vars' : ℕ) {ps ps' : List (Option Constraint)} {lists lists' : Lists} {kept kept' : List Counters} {tight tight' : List ℕ} → vars ≡ vars' → ps ≡ ps' → lists ≡ lists' → kept ≡ kept' → tight ≡ tight' → IsStore vars ps lists kept tight → IsStore vars' ps' lists' kept' tight'
store_read vars vars' {ps} {ps'} {lists} {lists'} {kept} {kept'} {tight} {tight'} e a b c d q =
    subst (λ (n : ℕ). IsStore n ps' lists' kept' tight') e
    (subst (λ (x : List (Option Constraint)). IsStore vars x lists' kept' tight') a
    (subst (λ (x : Lists). IsStore vars ps x kept' tight') b
    (subst (λ (x : List Counters). IsStore vars ps lists x tight') c
    (subst (λ (x : List ℕ). IsStore vars ps lists kept x) d q))))

pub within_all : (vars : ℕ) (cs : List Constraint) → AreVarsWithin vars cs → StandWithin vars (map Some cs)
within_all vars cs all p c at =
    All-contains (λ (c : Constraint). HasVarsWithin vars c.terms) cs c all (subst (λ (ds : List Constraint). Contains ds c) (standing_all cs) (stands_contains (map Some cs) p c at))

pub within_read : {vars vars' : ℕ} {ps ps' : List (Option Constraint)} → vars ≡ vars' → ps ≡ ps' → StandWithin vars ps → StandWithin vars' ps'
within_read {vars} {vars'} {ps} {ps'} a b h = subst (λ (n : ℕ). StandWithin n ps') a (subst (StandWithin vars) b h)

-- once all is told, the kept room is the room
pub room_told : (vars : ℕ) (ps : List (Option Constraint)) (lists : Lists) (kept : List Counters) (tight : List ℕ) (held : List Lit) (counted : ℕ) (phase : Phase) → IsQueue vars ps lists kept tight held counted phase → counted ≡ length held → (p : ℕ) (c : Constraint) → Stands ps p c → room_at kept p ≡ room held c.terms
room_told vars ps lists kept tight held counted phase q e p c at =
    q.counts.rooms p ∙ (ap (λ (ls : List Lit). room ls (terms_at q.counts.inner p)) (oldest-all counted held (omega (arith, e))) ∙ ap (room held) (q.counts.same p c at))

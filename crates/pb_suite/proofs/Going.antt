-- What a step of a run adds to a desk, and one step after another.
use Rattle.std.proofs.Common.{◌≡◌, ◌∙◌, ℕ, List, [], ◌++◌, Option, Some, None, inl, inr, refl, sym, ap, subst, ◌≤◌, ◌<◌, Bool, true, false, arith}
use Rattle.std.specs.Prelude.{◌⊎◌, ◌==◌, is_some, IfSome, IsSomeAnd}
use Rattle.std.proofs.lemmas.Bool.{eqb-true}
use Rattle.std.proofs.lemmas.List.{append-nil}
use Rattle.pb_desk.specs.View.{Made, Told, View, opened, put, spoke, taken}
use Rattle.pb_desk.specs.Desk.{DeskState, FailsToRead, HasSlot, IfTold, IsTold, Reads, Reaches, same}
use Rattle.pb_desk.proofs.Steps.{as_reads, begin}
use Rattle.pb_desk.proofs.Tells.{told_by}
use Rattle.pb_desk.specs.TwoSlots.{both_taken}
use Rattle.pb_suite.specs.Outputs.{nothing, Adds, IsMore, Output}
use Rattle.pb_suite.specs.CommandSpec.{Shelf}
use Rattle.pb_suite.specs.inner.Opening.{opened_both}
use Rattle.pb_suite.specs.inner.Runs.{fetched, Fetches, KeepsReading}

-- ---- what a change of the view adds

-- and it opens reading slots below a number alone
pub record AddsBy (few : ℕ) (out : Output) (f : View → View) : Type 0 where
  pub reading : (v : View) (slot : ℕ) → few ≤ slot → (f v).reading slot ≡ v.reading slot
  pub told : (v : View) (t : Told) → IsSomeAnd (f (record v { told = Some t })).told (IsMore out t)
  pub slots : (v : View) (slot : ℕ) → HasSlot slot out.made ⊎ ((f v).writing slot ≡ v.writing slot)
  pub room : (v : View) → (f v).room ≡ v.room
  pub steady : (v : View) → (f v).steady ≡ v.steady

pub adds_by : {few : ℕ} (out : Output) (f : View → View) (a b : DeskState) → AddsBy few out f → b.view ≡ f a.view → Adds out a b
adds_by out f a b by is = record {
  told = by_told a.view.told refl;
  slots = λ slot. elim (by.slots a.view slot) as (λ _. HasSlot slot out.made ⊎ (b.view.writing slot ≡ a.view.writing slot)) [ inl of_file ↦ inl of_file | inr stays ↦ inr (ap (λ (v : View). v.writing slot) is ∙ stays) ];
  room = ap (λ (v : View). v.room) is ∙ by.room a.view;
  steady = ap (λ (v : View). v.steady) is ∙ by.steady a.view;
}
  where
    by_told : (o : Option Told) → a.view.told ≡ o → IfSome o (λ t. IsTold b (IsMore out t))
    by_told None e = tt
    by_told (Some t) e = told_by f a b t (IsMore out t) is e (by.told a.view t)

more_of : (t u : Told) → u.shelf ≡ t.shelf → u.made ≡ t.made → u.said ≡ t.said → IsMore nothing t u
more_of t u shelf files words = record { shelf = shelf; made = files; said = words ∙ sym (append-nil t.said) }

-- the slots from a number on stay as they were
pub keeps_by : (few : ℕ) (f : View → View) (a b : DeskState) → AddsBy few nothing f → b.view ≡ f a.view → KeepsReading few a b
keeps_by few f a b by is slot le = ap (λ (v : View). v.reading slot) is ∙ by.reading a.view slot le

pub by_same : (few : ℕ) → AddsBy few nothing same
by_same few = record { reading = λ v slot le. refl; told = λ v t. more_of t t refl refl refl; slots = λ v slot. inr refl; room = λ v. refl; steady = λ v. refl }

pub put_below : (few place : ℕ) (f : ℕ → Bool) (slot : ℕ) → place < few → few ≤ slot → put f place true slot ≡ f slot
put_below few place f slot less le = by_test (slot == place) refl
  where
    by_test : (found : Bool) → (slot == place) ≡ found → put f place true slot ≡ f slot
    by_test true is = absurd (omega (arith, less, le, eqb-true slot place is))
    by_test false is = simp is

pub by_reading : (few slot : ℕ) (name : List ℕ) (count : ℕ) → slot < few → AddsBy few nothing (fetched slot name count)
by_reading few slot name count less = record { reading = λ v other le. put_below few slot v.reading other less le; told = λ v t. more_of t _ refl refl refl; slots = λ v slot. inr refl; room = λ v. refl; steady = λ v. refl }

pub by_opened : (few slot : ℕ) (name : List ℕ) → slot < few → AddsBy few nothing (opened slot name)
by_opened few slot name less = record { reading = λ v other le. put_below few slot v.reading other less le; told = λ v t. more_of t _ refl refl refl; slots = λ v slot. inr refl; room = λ v. refl; steady = λ v. refl }

pub by_both_opened : (few : ℕ) (cnf proof : List ℕ) → 2 < few → AddsBy few nothing (opened_both cnf proof)
by_both_opened few cnf proof less = record { reading = λ v other le. put_below few 2 (put v.reading 1 true) other less le ∙ put_below few 1 v.reading other (omega (arith, less)) le; told = λ v t. more_of t _ refl refl refl; slots = λ v slot. inr refl; room = λ v. refl; steady = λ v. refl }

pub by_taken : (few slot count : ℕ) → AddsBy few nothing (taken slot count)
by_taken few slot count = record { reading = λ v slot le. refl; told = λ v t. more_of t _ refl refl refl; slots = λ v slot. inr refl; room = λ v. refl; steady = λ v. refl }

pub by_both_taken : (few slot other n m : ℕ) → AddsBy few nothing (both_taken slot other n m)
by_both_taken few slot other n m = record { reading = λ v slot le. refl; told = λ v t. more_of t _ refl refl refl; slots = λ v slot. inr refl; room = λ v. refl; steady = λ v. refl }

pub by_words : (few : ℕ) (bytes : List ℕ) → AddsBy few (record { made = []; said = bytes }) (spoke bytes)
by_words few bytes = record { reading = λ v slot le. refl; told = λ v t. record { shelf = refl; made = refl; said = refl }; slots = λ v slot. inr refl; room = λ v. refl; steady = λ v. refl }

-- ---- a step that went well

pub record Goes (few : ℕ) (out : Output) (a b : DeskState) : Type 0 where
  pub reading : KeepsReading few a b
  pub adds : Adds out a b
  pub tells : is_some b.view.told ≡ is_some a.view.told
  pub reads : b.read_faults ≡ a.read_faults
  pub writes : b.write_faults ≡ a.write_faults

pub goes_reading : (few : ℕ) (out : Output) (f : View → View) (a b : DeskState) → AddsBy few out f → Reads f a b → Goes few out a b
goes_reading few out f a b by reached = record {
  reading = λ slot le. ap (λ (v : View). v.reading slot) reached.view ∙ by.reading a.view slot le;
  adds = adds_by out f a b by reached.view;
  tells = reached.tells;
  reads = reached.reads;
  writes = reached.writes;
}

pub goes_by : (few : ℕ) (out : Output) (f : View → View) (a b : DeskState) → AddsBy few out f → Reaches f a b → Goes few out a b
goes_by few out f a b by reached = goes_reading few out f a b by (as_reads f a b reached)

-- a text was opened and read
pub goes_fetched : (few slot : ℕ) (name : List ℕ) (count : ℕ) (a b : DeskState) → slot < few → Fetches slot name count a b → Goes few nothing a b
goes_fetched few slot name count a b less fetches = goes_reading few nothing (fetched slot name count) a b (by_reading few slot name count less) fetches

pub stays : (few : ℕ) (a : DeskState) → Goes few nothing a a
stays few a = goes_by few nothing same a a (by_same few) (begin same a (λ v. refl))

-- ---- what is told before and after a step that adds nothing

module _ (P Q : Told → Type 0) where
  was : (x y : Option Told) → is_some y ≡ is_some x → IfSome x (λ t. IsSomeAnd y (IsMore nothing t)) → ((t u : Told) → IsMore nothing t u → P u → Q t) → IsSomeAnd y P → IsSomeAnd x Q
  was None None tells more gives holds = absurd holds
  was None (Some u) tells more gives holds = cc
  was (Some t) None tells more gives holds = absurd holds
  was (Some t) (Some u) tells more gives holds = gives t u more holds

  was_if : (x y : Option Told) → IfSome x (λ t. IsSomeAnd y (IsMore nothing t)) → ((t u : Told) → IsMore nothing t u → P u → Q t) → IfSome y P → IfSome x Q
  was_if None y more gives holds = tt
  was_if (Some t) None more gives holds = absurd more
  was_if (Some t) (Some u) more gives holds = gives t u more holds

  is_if : (x y : Option Told) → is_some y ≡ is_some x → IfSome x (λ t. IsSomeAnd y (IsMore nothing t)) → ((t u : Told) → IsMore nothing t u → P t → Q u) → IfSome x P → IfSome y Q
  is_if None None tells more gives holds = tt
  is_if None (Some u) tells more gives holds = cc
  is_if (Some t) None tells more gives holds = tt
  is_if (Some t) (Some u) tells more gives holds = gives t u more holds

  pub was_told : {few : ℕ} (a b : DeskState) → Goes few nothing a b → ((t u : Told) → IsMore nothing t u → P u → Q t) → IsTold b P → IsTold a Q
  was_told a b goes gives holds = was a.view.told b.view.told goes.tells goes.adds.told gives holds

  pub was_if_told : {few : ℕ} (a b : DeskState) → Goes few nothing a b → ((t u : Told) → IsMore nothing t u → P u → Q t) → IfTold b P → IfTold a Q
  was_if_told a b goes gives holds = was_if a.view.told b.view.told goes.adds.told gives holds

  pub is_if_told : {few : ℕ} (a b : DeskState) → Goes few nothing a b → ((t u : Told) → IsMore nothing t u → P t → Q u) → IfTold a P → IfTold b Q
  is_if_told a b goes gives holds = is_if a.view.told b.view.told goes.tells goes.adds.told gives holds

more_after : (out : Output) (t u v : Told) → IsMore nothing t u → IsMore out u v → IsMore out t v
more_after out t u v first second = record {
  shelf = second.shelf ∙ first.shelf;
  made = second.made ∙ ap (λ (files : List Made). out.made ++ files) first.made;
  said = second.said ∙ ap (λ (xs : List ℕ). xs ++ out.said) (first.said ∙ append-nil t.said);
}

pub keeps : {few : ℕ} (a b : DeskState) → Goes few nothing a b → (slot : ℕ) → b.view.writing slot ≡ a.view.writing slot
keeps a b goes slot = elim (goes.adds.slots slot) as (λ _. b.view.writing slot ≡ a.view.writing slot) [ inl none ↦ absurd none | inr stays ↦ stays ]

pub adds_after : {few : ℕ} (out : Output) (a b d : DeskState) → Goes few nothing a b → Adds out b d → Adds out a d
adds_after out a b d goes adds = record {
  told = was_if_told (λ u. IsTold d (IsMore out u)) (λ t. IsTold d (IsMore out t)) a b goes (λ t u first second. at_last d.view.told t u first second) adds.told;
  slots = λ slot. elim (adds.slots slot) as (λ _. HasSlot slot out.made ⊎ (d.view.writing slot ≡ a.view.writing slot)) [ inl of_file ↦ inl of_file | inr stays ↦ inr (stays ∙ keeps a b goes slot) ];
  room = adds.room ∙ goes.adds.room;
  steady = adds.steady ∙ goes.adds.steady;
}
  where
    at_last : (z : Option Told) (t u : Told) → IsMore nothing t u → IsSomeAnd z (IsMore out u) → IsSomeAnd z (IsMore out t)
    at_last None t u first second = second
    at_last (Some v) t u first second = more_after out t u v first second

pub goes_then : {few : ℕ} {out : Output} (a b d : DeskState) → Goes few nothing a b → Goes few out b d → Goes few out a d
goes_then a b d first second = record {
  reading = λ slot le. second.reading slot le ∙ first.reading slot le;
  adds = adds_after _ a b d first second.adds;
  tells = second.tells ∙ first.tells;
  reads = second.reads ∙ first.reads;
  writes = second.writes ∙ first.writes;
}

-- what holds of the shelf
pub shelf_is_if : {few : ℕ} (a b : DeskState) → Goes few nothing a b → (P : Shelf → Type 0) → IfTold a (λ t. P t.shelf) → IfTold b (λ t. P t.shelf)
shelf_is_if a b goes P holds = is_if_told (λ t. P t.shelf) (λ t. P t.shelf) a b goes (λ t u more has. subst P (sym more.shelf) has) holds

-- what holds of the shelf holds of it later
abbrev pub KeepsShelf : DeskState → DeskState → Type 1
KeepsShelf a b = (P : Shelf → Type 0) → IfTold a (λ t. P t.shelf) → IfTold b (λ t. P t.shelf)

-- so it is behind a read that failed
pub shelf_stays : {few : ℕ} (f : View → View) (a b : DeskState) → AddsBy few nothing f → FailsToRead f a b → KeepsShelf a b
shelf_stays f a b by fails P holds = is_if (λ t. P t.shelf) (λ t. P t.shelf) a.view.told b.view.told fails.tells (adds_by nothing f a b by fails.view).told (λ t u more has. subst P (sym more.shelf) has) holds

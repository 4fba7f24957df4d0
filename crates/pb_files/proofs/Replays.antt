-- What one more call shows.
use Rattle.std.proofs.Common.{◌≡◌, ◌≤◌, ◌<◌, ℕ, Bool, true, false, List, [], ◌∷◌, length, take, refl, sym, ap, ◌∙◌, subst, arith}
use Rattle.std.proofs.lemmas.Bool.{and_parts}
use Rattle.std.proofs.lemmas.List.{length-take, length-take-le}
use Rattle.std.specs.Prelude.{◌==◌, ◌&&◌, ◌||◌, nat_lt, IfSome}
use Rattle.std.specs.Option.{option_map, option_map_or, ForSome}
use Rattle.std.specs.declared.option.Option.{Option}
use Rattle.std.specs.declared.option.Option.TheVariants.{Some, None}
use Rattle.std.proofs.lemmas.Slice.Eq.{bytes_eq-Decides}
use Rattle.pb_base.specs.FaultCounts.{Rose}
use Rattle.pb_desk.specs.View.{Made, appended, wrote}
use Rattle.pb_desk.specs.Desk.{FailsToWrite, Gives, Reaches, same}
use Rattle.pb_desk.proofs.BothSlots.{differs}
use Rattle.pb_desk.proofs.Views.{wrote-nil}
use Rattle.pb_files.specs.Asked.{replayed}
use Rattle.pb_files.specs.Calls.{Call, with_call}
use Rattle.pb_files.specs.Calls.Call.{read, write}
use Rattle.pb_files.specs.Replay.{Shelf, answers_as, has_slot, is_nil, is_next, left_of, made_of, told_of}

has_slot-appended : (place slot : ℕ) (bytes : List ℕ) (files : List Made) → has_slot place (appended slot bytes files) ≡ has_slot place files
has_slot-appended place slot bytes [] = refl
has_slot-appended place slot bytes (file ∷ files) = by_test (file.slot == slot) refl (has_slot-appended place slot bytes files)
  where
    by_test : (found : Bool) → (file.slot == slot) ≡ found → has_slot place (appended slot bytes files) ≡ has_slot place files → has_slot place (appended slot bytes (file ∷ files)) ≡ has_slot place (file ∷ files)
    by_test true is further = simp is
    by_test false is further = simp is (ap (λ (b : Bool). file.slot == place || b) further)

has_slot-write : (place slot : ℕ) (piece : List ℕ) (answer : Option ℕ) (calls : List Call) → has_slot place (made_of (write slot piece answer ∷ calls)) ≡ has_slot place (made_of calls)
has_slot-write place slot piece None calls = refl
has_slot-write place slot piece (Some count) calls = has_slot-appended place slot (take count piece) (made_of calls)

-- a write takes no file away
pub still_has : (place slot : ℕ) (piece : List ℕ) (answer : Option ℕ) (calls calls' : Option (List Call)) → calls' ≡ with_call (write slot piece answer) calls
    → ForSome calls (λ cs. has_slot place (made_of cs) ≡ true) → ForSome calls' (λ cs. has_slot place (made_of cs) ≡ true)
still_has place slot piece answer calls calls' is has = subst (λ (o : Option (List Call)). ForSome o (λ cs. has_slot place (made_of cs) ≡ true)) (sym is) (by_cases calls has)
  where
    by_cases : (kept : Option (List Call)) → ForSome kept (λ cs. has_slot place (made_of cs) ≡ true) → ForSome (with_call (write slot piece answer) kept) (λ cs. has_slot place (made_of cs) ≡ true)
    by_cases None h = λ cs e. cc
    by_cases (Some cs) h = λ more e. subst (λ (o : List Call). has_slot place (made_of o) ≡ true) (option_same (write slot piece answer ∷ cs) more e) (has_slot-write place slot piece answer cs ∙ h cs refl)
      where
        option_same : (x y : List Call) → Some x ≡ Some y → x ≡ y
        option_same x y e = cc

module _ (files : Shelf) (reading writing : List Bool) (reads writes : ℕ) (over finished later_finished : List Bool) where
  -- some bytes were taken
  wrote_some : (slot count : ℕ) (piece : List ℕ) (calls : Option (List Call)) → Reaches (wrote slot (take count piece)) (replayed files calls reading writing reads writes over finished) (replayed files (with_call (write slot piece (Some count)) calls) reading writing reads writes over later_finished)
  wrote_some slot count piece None = record { view = refl; tells = refl; reads = refl; writes = refl; ended = refl; keeps = refl }
  wrote_some slot count piece (Some cs) = record { view = refl; tells = refl; reads = refl; writes = refl; ended = refl; keeps = refl }

  -- none were, and that is a fault
  wrote_none : (slot later : ℕ) (piece : List ℕ) (calls : Option (List Call)) → Rose writes later → FailsToWrite same (replayed files calls reading writing reads writes over finished) (replayed files (with_call (write slot piece (Some 0)) calls) reading writing reads later over later_finished)
  wrote_none slot later piece calls rose =
      let far = wrote_some slot 0 piece calls in
      record { view = far.view ∙ wrote-nil slot (replayed files calls reading writing reads writes over finished).view; tells = far.tells; reads = refl; writes = rose; ended = refl; keeps = far.keeps }

  module _ (files' : Shelf) (stay : files' ≡ files) (slot : ℕ) (piece : List ℕ) (calls calls' : Option (List Call)) where
    pub write_reaches : (count : ℕ) → calls' ≡ with_call (write slot piece (Some count)) calls → Reaches (wrote slot (take count piece)) (replayed files calls reading writing reads writes over finished) (replayed files' calls' reading writing reads writes over later_finished)
    write_reaches count is = subst (λ (f : Shelf). Reaches (wrote slot (take count piece)) (replayed files calls reading writing reads writes over finished) (replayed f calls' reading writing reads writes over later_finished)) (sym stay)
        (subst (λ (cs : Option (List Call)). Reaches (wrote slot (take count piece)) (replayed files calls reading writing reads writes over finished) (replayed files cs reading writing reads writes over later_finished)) (sym is) (wrote_some slot count piece calls))

    pub write_fails : (count later : ℕ) → count ≡ 0 → calls' ≡ with_call (write slot piece (Some count)) calls → Rose writes later → FailsToWrite same (replayed files calls reading writing reads writes over finished) (replayed files' calls' reading writing reads later over later_finished)
    write_fails count later none is rose = subst (λ (f : Shelf). FailsToWrite same (replayed files calls reading writing reads writes over finished) (replayed f calls' reading writing reads later over later_finished)) (sym stay)
        (subst (λ (cs : Option (List Call)). FailsToWrite same (replayed files calls reading writing reads writes over finished) (replayed files cs reading writing reads later over later_finished)) (sym (is ∙ ap (λ (n : ℕ). with_call (write slot piece (Some n)) calls) none)) (wrote_none slot later piece calls rose))

-- ---- a read

or_right : (a b : Bool) → (a || b) ≡ true → a ≡ false → b ≡ true
or_right true b e is = cc
or_right false b e is = e

is_empty : (xs : List ℕ) → is_nil xs ≡ true → xs ≡ []
is_empty [] e = refl
is_empty (x ∷ xs) e = cc

-- the next bytes, as one says it of a room
next_given : (left room : List ℕ) (size count : ℕ) → size ≡ length room → count ≤ length room → is_next size left (take count room) ≡ true → Gives left count room
next_given left room size count is_size within e =
    let so_many : length (take count room) ≡ count = length-take-le count room within in
    let are : take count room ≡ take (length (take count room)) left = (bytes_eq-Decides (take count room) (take (length (take count room)) left)).0 (and_parts _ _ e).0 in
    let bytes : take count room ≡ take count left = are ∙ ap (λ (n : ℕ). take n left) so_many in
    record {
      enough = omega (arith, so_many, ap length bytes, length-take count left);
      bytes = bytes;
      end = λ none some. is_empty left (or_right (size == 0) (is_nil left) (or_right (nat_lt 0 (length (take count room))) (size == 0 || is_nil left) (and_parts _ _ e).1 (none_less (length (take count room)) (so_many ∙ none))) (not_none size (omega (arith, is_size, some))));
    }
  where
    none_less : (n : ℕ) → n ≡ 0 → nat_lt 0 n ≡ false
    none_less n is = ap (λ (k : ℕ). nat_lt 0 k) is

    not_none : (n : ℕ) → 0 < n → (n == 0) ≡ false
    not_none n some = differs n 0 (λ e. omega (arith, e, some))

-- a read that was answered as the files give
pub read_gives : (files : Shelf) (slot size count : ℕ) (room : List ℕ) (calls calls' : Option (List Call)) → calls' ≡ with_call (read slot size (Some (take count room))) calls → size ≡ length room → count ≤ length room
    → option_map_or (answers_as files) calls' true ≡ true → IfSome (option_map (told_of files) calls) (λ t. Gives (t.left slot) count room)
read_gives files slot size count room calls calls' is is_size within keeps = by_cases calls (ap (λ (o : Option (List Call)). option_map_or (answers_as files) o true) (sym is) ∙ keeps)
  where
    by_cases : (kept : Option (List Call)) → option_map_or (answers_as files) (with_call (read slot size (Some (take count room))) kept) true ≡ true → IfSome (option_map (told_of files) kept) (λ t. Gives (t.left slot) count room)
    by_cases None e = tt
    by_cases (Some cs) e = next_given (left_of files cs slot) room size count is_size within (and_parts _ _ e).0

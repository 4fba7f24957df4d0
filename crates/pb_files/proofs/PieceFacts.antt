-- What one more call leaves of the marks of slots, and of the record's pieces.
use Rattle.std.proofs.Common.{◌≡◌, ◌≤◌, ◌<◌, ℕ, zero, suc, Bool, true, false, List, [], ◌∷◌, length, take, get_or, set, cond, refl, sym, ap, ◌∙◌, subst, arith, eq-eqb, le-leb}
use Rattle.std.specs.Prelude.{◌==◌, ◌&&◌, not, nat_le}
use Rattle.std.specs.Cmp.Derive.{both_true}
use Rattle.std.specs.Option.{ForSome}
use Rattle.std.specs.declared.option.Option.{Option}
use Rattle.std.specs.declared.option.Option.TheVariants.{Some, None}
use Rattle.std.specs.Bool.{Decides}
use Rattle.std.proofs.lemmas.Bool.{eqb-true, false≢true, not_from_false}
use Rattle.std.proofs.lemmas.Bool.Decides.{not_from_Decides}
use Rattle.std.proofs.lemmas.List.{get_or-set_same, get_or-set_other}
use Rattle.pb_desk.specs.Desk.{is_last}
use Rattle.pb_desk.proofs.BothSlots.{differs}
use Rattle.pb_desk.proofs.LastPieces.{some_left}
use Rattle.pb_files.specs.declared.file_id.FileId.{FileId}
use Rattle.pb_files.specs.Asked.{marked}
use Rattle.pb_files.specs.Calls.{Call, with_call}
use Rattle.pb_files.specs.Calls.Call.{create, truncate, read, write}
use Rattle.pb_files.specs.Pieces.{is_finished, is_over, moves_pieces}
use Rattle.pb_files.specs.Replay.{has_slot, is_nil, made_of}

-- what holds of the calls with one more, where that follows of each list of calls
pub with_one : (P Q : List Call → Type 0) (call : Call) (calls calls' : Option (List Call)) → calls' ≡ with_call call calls → ((cs : List Call) → P cs → Q (call ∷ cs)) → ForSome calls P → ForSome calls' Q
with_one P Q call calls calls' is more has = subst (λ (o : Option (List Call)). ForSome o Q) (sym is) (by_cases calls has)
  where
    by_cases : (kept : Option (List Call)) → ForSome kept P → ForSome (with_call call kept) Q
    by_cases None h = λ cs e. cc
    by_cases (Some cs) h = λ xs e. subst Q (option_same (call ∷ cs) xs e) (more cs (h cs refl))
      where
        option_same : (x y : List Call) → Some x ≡ Some y → x ≡ y
        option_same x y e = cc

-- two facts at once
pub both_of : (P Q : List Call → Type 0) (calls : Option (List Call)) → ForSome calls P → ForSome calls Q → ForSome calls (λ cs. P cs × Q cs)
both_of P Q calls p q = λ cs is. (p cs is, q cs is)

-- the mark of a place after one was set, by any test that tells whether it is the one
pub mark_set : (marks : List Bool) (slot place : ℕ) (b old same : Bool) → Decides same (place ≡ slot) → slot < length marks → old ≡ marked marks place → cond same b old ≡ marked (set marks slot b) place
mark_set marks slot place b old true is_same low is = sym (ap (λ (n : ℕ). get_or (set marks slot b) n false) (is_same.0 refl) ∙ get_or-set_same marks slot b false low)
mark_set marks slot place b old false is_same low is = is ∙ sym (get_or-set_other marks slot place b false (not_from_Decides false is_same refl))

pub nil_if_none : (count : ℕ) (room : List ℕ) → count ≤ length room → is_nil (take count room) ≡ (count == 0)
nil_if_none zero room low = refl
nil_if_none (suc n) [] low = absurd (omega (arith, low))
nil_if_none (suc n) (x ∷ xs) low = sym (differs (suc n) 0 (λ e. omega (arith, e)))

-- a read by a whole piece, before the end
pub reads_piece : (slot room : ℕ) (answer : Option (List ℕ)) (cs : List Call) → 65536 ≤ room → is_over slot cs ≡ false → moves_pieces cs ≡ true → moves_pieces (read slot room answer ∷ cs) ≡ true
reads_piece slot room answer cs wide before moves = both_true (both_true (le-leb 65536 room wide) (not_from_false (is_over slot cs) before)) moves

-- a write before the last piece
pub writes_piece : (slot : ℕ) (piece : List ℕ) (answer : Option ℕ) (cs : List Call) → has_slot slot (made_of cs) ≡ true → is_finished slot cs ≡ false → moves_pieces cs ≡ true → moves_pieces (write slot piece answer ∷ cs) ≡ true
writes_piece slot piece answer cs has before moves = both_true (both_true has (not_from_false (is_finished slot cs) before)) moves

-- a slot that is open after one was closed was open before
pub open_before : (marks : List Bool) (slot place : ℕ) → slot < length marks → marked (set marks slot false) place ≡ true → marked marks place ≡ true
open_before marks slot place low is_open = by_test (place == slot) refl
  where
    by_test : (same : Bool) → (place == slot) ≡ same → marked marks place ≡ true
    by_test true e = absurd (false≢true (sym (get_or-set_same marks slot false false low) ∙ (ap (λ (n : ℕ). get_or (set marks slot false) n false) (sym (eqb-true place slot e)) ∙ is_open)))
    by_test false e = sym (get_or-set_other marks slot place false false (λ at. cc (eq-eqb place slot at))) ∙ is_open

-- a mark that is as it was
pub mark_stays : (marks : List Bool) (slot place : ℕ) (b : Bool) (old : Bool) → b ≡ marked marks slot → old ≡ marked marks place → cond (slot == place) b old ≡ marked marks place
mark_stays marks slot place b old here is = by_test (slot == place) refl
  where
    by_test : (same : Bool) → (slot == place) ≡ same → cond (slot == place) b old ≡ marked marks place
    by_test true e = simp e (here ∙ ap (λ (n : ℕ). marked marks n) (eqb-true slot place e))
    by_test false e = simp e is

module _ (slot : ℕ) (piece : List ℕ) (answer : Option ℕ) (old new : Option (List Call)) (is : new ≡ with_call (write slot piece answer) old) where
  pub write_moves : (finished : List Bool) → marked finished slot ≡ false → ForSome old (λ cs. has_slot slot (made_of cs) ≡ true) → ForSome old (λ cs. is_finished slot cs ≡ marked finished slot)
      → ForSome old (λ cs. moves_pieces cs ≡ true) → ForSome new (λ cs. moves_pieces cs ≡ true)
  write_moves finished before has last moves = with_one (λ cs. (has_slot slot (made_of cs) ≡ true) × ((is_finished slot cs ≡ marked finished slot) × (moves_pieces cs ≡ true))) (λ cs. moves_pieces cs ≡ true) (write slot piece answer) old new is
      (λ cs all. writes_piece slot piece answer cs all.0 (all.1.0 ∙ before) all.1.1) (λ cs e. (has cs e, (last cs e, moves cs e)))

  pub write_ends : (over : List Bool) (place : ℕ) → ForSome old (λ cs. is_over place cs ≡ marked over place) → ForSome new (λ cs. is_over place cs ≡ marked over place)
  write_ends over place = with_one (λ cs. is_over place cs ≡ marked over place) (λ cs. is_over place cs ≡ marked over place) (write slot piece answer) old new is (λ cs e. e)

  pub write_lasts : (before after : List Bool) (place : ℕ) → ((cs : List Call) → is_finished place cs ≡ marked before place → is_finished place (write slot piece answer ∷ cs) ≡ marked after place)
      → ForSome old (λ cs. is_finished place cs ≡ marked before place) → ForSome new (λ cs. is_finished place cs ≡ marked after place)
  write_lasts before after place = with_one (λ cs. is_finished place cs ≡ marked before place) (λ cs. is_finished place cs ≡ marked after place) (write slot piece answer) old new is

-- after two calls
pub with_two : (P Q : List Call → Type 0) (call later : Call) (calls mid calls' : Option (List Call)) → mid ≡ with_call call calls → calls' ≡ with_call later mid → ((cs : List Call) → P cs → Q (later ∷ call ∷ cs)) → ForSome calls P → ForSome calls' Q
with_two P Q call later calls mid calls' first next more has =
    with_one (λ cs. Q (later ∷ cs)) Q later mid calls' next (λ cs q. q) (with_one P (λ cs. Q (later ∷ cs)) call calls mid first more has)

-- after a file was made in a slot
module _ (marks finished : List Bool) (slot place : ℕ) (name : List ℕ) (id : Option FileId) (old mid new : Option (List Call)) (made : mid ≡ with_call (create slot name (Some id)) old)
    (emptied : new ≡ with_call (truncate slot (Some tt)) mid) (low : slot < length marks) (is_open : marked (set marks slot true) place ≡ true) where
  was_open : (slot == place) ≡ false → marked marks place ≡ true
  was_open e = sym (get_or-set_other marks slot place true false (λ at. cc (eq-eqb slot place (sym at)))) ∙ is_open

  pub has_later : (marked marks place ≡ true → ForSome old (λ cs. has_slot place (made_of cs) ≡ true)) → ForSome new (λ cs. has_slot place (made_of cs) ≡ true)
  has_later before = by_test (slot == place) refl
    where
      by_test : (same : Bool) → (slot == place) ≡ same → ForSome new (λ cs. has_slot place (made_of cs) ≡ true)
      by_test true e = with_two (λ cs. Unit {0}) (λ cs. has_slot place (made_of cs) ≡ true) (create slot name (Some id)) (truncate slot (Some tt)) old mid new made emptied (λ cs u. simp e refl) (λ cs u. tt)
      by_test false e = with_two (λ cs. has_slot place (made_of cs) ≡ true) (λ cs. has_slot place (made_of cs) ≡ true) (create slot name (Some id)) (truncate slot (Some tt)) old mid new made emptied (λ cs h. simp e h) (before (was_open e))

  pub last_later : slot < length finished → (marked marks place ≡ true → ForSome old (λ cs. is_finished place cs ≡ marked finished place)) → ForSome new (λ cs. is_finished place cs ≡ marked (set finished slot false) place)
  last_later few before = by_test (slot == place) refl
    where
      by_test : (same : Bool) → (slot == place) ≡ same → ForSome new (λ cs. is_finished place cs ≡ marked (set finished slot false) place)
      by_test true e = with_two (λ cs. Unit {0}) (λ cs. is_finished place cs ≡ marked (set finished slot false) place) (create slot name (Some id)) (truncate slot (Some tt)) old mid new made emptied
          (λ cs u. simp e (sym (ap (λ (n : ℕ). get_or (set finished slot false) n false) (sym (eqb-true slot place e)) ∙ get_or-set_same finished slot false false few))) (λ cs u. tt)
      by_test false e = with_two (λ cs. is_finished place cs ≡ marked finished place) (λ cs. is_finished place cs ≡ marked (set finished slot false) place) (create slot name (Some id)) (truncate slot (Some tt)) old mid new made emptied
          (λ cs h. simp e (h ∙ sym (get_or-set_other finished slot place false false (λ at. cc (eq-eqb slot place (sym at)))))) (before (was_open e))

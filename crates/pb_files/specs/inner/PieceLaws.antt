-- The law of calls by pieces, proved.
use Rattle.std.proofs.Common.{◌≡◌, ◌≤◌, ◌<◌, ◌+◌, ◌*◌, ◌-◌, ◌++◌, ℕ, zero, suc, Bool, true, false, List, [], ◌∷◌, length, take, drop, min, refl, sym, ap, ◌∙◌, subst, arith, eq-eqb}
use Rattle.std.specs.Prelude.{◌==◌, ◌&&◌, ◌||◌, not, nat_le}
use Rattle.std.specs.Cmp.Derive.{both_true}
use Rattle.std.specs.Option.{ForSome}
use Rattle.std.specs.declared.option.Option.{Option}
use Rattle.std.specs.declared.option.Option.TheVariants.{Some, None}
use Rattle.std.proofs.lemmas.Bool.{and_parts, eqb-true, false≢true, leb-true, leb-false, not-true}
use Rattle.std.proofs.lemmas.List.{length-drop, length-take}
use Rattle.std.proofs.Common.{length-append}
use Rattle.pb_desk.specs.View.{Made, appended, bytes_in}
use Rattle.pb_desk.specs.Desk.{is_last}
use Rattle.pb_files.specs.Calls.{Call}
use Rattle.pb_files.specs.Calls.Call.{open_file, create, truncate, read, write, sync, say}
use Rattle.pb_files.specs.Pieces.{reads_of, bytes_read, is_over, writes_of, is_finished, moves_pieces, gives_all, takes_all, IsByPieces}
use Rattle.pb_files.specs.Replay.{Shelf, has_slot, is_nil, left_of, made_of}

min_same : (n : ℕ) → min n n ≡ n
min_same n = omega arith

-- how many reads more than one a piece there may have been
abbrev spare : Bool → List ℕ → ℕ
spare true left = 2
spare false [] = 1
spare false (x ∷ xs) = 0

few_spare : (over : Bool) (left : List ℕ) → spare over left ≤ 2
few_spare true left = omega arith
few_spare false [] = omega arith
few_spare false (x ∷ xs) = omega arith

-- one read more
one_more : (reads bytes room : ℕ) (left given : List ℕ) → 65536 ≤ room → length given ≡ min room (length left) → 65536 * reads ≤ bytes + spare false left * 65536
    → 65536 * suc reads ≤ (bytes + length given) + spare (is_nil given) (drop (length given) left) * 65536
one_more reads bytes room [] [] wide all few =
    let before : 65536 * reads ≤ bytes + 1 * 65536 = few in
    let after : 65536 * suc reads ≤ (bytes + 0) + 2 * 65536 = omega (arith, before) in
    after
one_more reads bytes room [] (y ∷ ys) wide all few = let given : suc (length ys) ≡ min room 0 = all in absurd (omega (arith, given))
one_more reads bytes room (x ∷ xs) [] wide all few = let given : 0 ≡ min room (suc (length xs)) = all in absurd (omega (arith, wide, given))
one_more reads bytes room (x ∷ xs) (y ∷ ys) wide all few = by_rest (drop (length ys) xs) refl
  where
    before : 65536 * reads ≤ bytes + 0 * 65536
    before = few

    given : suc (length ys) ≡ min room (suc (length xs))
    given = all

    by_rest : (rest : List ℕ) → drop (length ys) xs ≡ rest → 65536 * suc reads ≤ (bytes + suc (length ys)) + spare false (drop (length ys) xs) * 65536
    by_rest [] is =
        let after : 65536 * suc reads ≤ (bytes + suc (length ys)) + 1 * 65536 = omega (arith, before) in
        subst (λ (r : List ℕ). 65536 * suc reads ≤ (bytes + suc (length ys)) + spare false r * 65536) (sym is) after
    by_rest (z ∷ zs) is =
        let left : suc (length zs) ≡ length xs - length ys = sym (ap length is) ∙ length-drop (length ys) xs in
        let after : 65536 * suc reads ≤ (bytes + suc (length ys)) + 0 * 65536 = omega (arith, before, wide, given, left) in
        subst (λ (r : List ℕ). 65536 * suc reads ≤ (bytes + suc (length ys)) + spare false r * 65536) (sym is) after

few_reads : (files : Shelf) (slot : ℕ) (calls : List Call) → moves_pieces calls ≡ true → gives_all files calls ≡ true
    → 65536 * reads_of slot calls ≤ bytes_read slot calls + spare (is_over slot calls) (left_of files calls slot) * 65536
few_reads files slot [] moves gives = let none : 65536 * 0 ≤ 0 + 1 * 65536 = omega arith in none
few_reads files slot (open_file place name (Some id) ∷ calls) moves gives = by_test (slot == place) refl (few_reads files slot calls moves gives)
  where
    by_test : (same : Bool) → (slot == place) ≡ same → 65536 * reads_of slot calls ≤ bytes_read slot calls + spare (is_over slot calls) (left_of files calls slot) * 65536 → 65536 * reads_of slot (open_file place name (Some id) ∷ calls) ≤ bytes_read slot (open_file place name (Some id) ∷ calls)
        + spare (is_over slot (open_file place name (Some id) ∷ calls)) (left_of files (open_file place name (Some id) ∷ calls) slot) * 65536
    by_test true is further = simp is (omega arith)
    by_test false is further = simp is further
few_reads files slot (open_file place name None ∷ calls) moves gives = few_reads files slot calls moves gives
few_reads files slot (create place name answer ∷ calls) moves gives = few_reads files slot calls moves gives
few_reads files slot (truncate place answer ∷ calls) moves gives = few_reads files slot calls moves gives
few_reads files slot (read place room None ∷ calls) moves gives = absurd (false≢true gives)
few_reads files slot (read place room (Some bytes) ∷ calls) moves gives =
    by_test (slot == place) refl (few_reads files slot calls (and_parts (nat_le 65536 room && not (is_over place calls)) (moves_pieces calls) moves).1
    (and_parts (length bytes == min room (length (left_of files calls place))) (gives_all files calls) gives).1)
  where
    asked : (nat_le 65536 room ≡ true) × (not (is_over place calls) ≡ true)
    asked = and_parts (nat_le 65536 room) (not (is_over place calls)) (and_parts (nat_le 65536 room && not (is_over place calls)) (moves_pieces calls) moves).0

    all : length bytes ≡ min room (length (left_of files calls place))
    all = eqb-true (length bytes) (min room (length (left_of files calls place))) (and_parts (length bytes == min room (length (left_of files calls place))) (gives_all files calls) gives).0

    here : slot ≡ place → 65536 * reads_of slot calls ≤ bytes_read slot calls + spare (is_over slot calls) (left_of files calls slot) * 65536
        → 65536 * suc (reads_of slot calls) ≤ (bytes_read slot calls + length bytes) + spare (is_nil bytes) (drop (length bytes) (left_of files calls place)) * 65536
    here is further = one_more (reads_of slot calls) (bytes_read slot calls) room (left_of files calls place) bytes (leb-true 65536 room asked.0) all
        (subst (λ (n : ℕ). 65536 * reads_of slot calls ≤ bytes_read slot calls + spare false (left_of files calls n) * 65536) is
        (subst (λ (b : Bool). 65536 * reads_of slot calls ≤ bytes_read slot calls + spare b (left_of files calls slot) * 65536) (ap (λ (n : ℕ). is_over n calls) is ∙ not-true (is_over place calls) asked.1) further))

    by_test : (same : Bool) → (slot == place) ≡ same → 65536 * reads_of slot calls ≤ bytes_read slot calls + spare (is_over slot calls) (left_of files calls slot) * 65536
        → 65536 * reads_of slot (read place room (Some bytes) ∷ calls) ≤ bytes_read slot (read place room (Some bytes) ∷ calls)
        + spare (is_over slot (read place room (Some bytes) ∷ calls)) (left_of files (read place room (Some bytes) ∷ calls) slot) * 65536
    by_test true is further = simp is (here (eqb-true slot place is) further)
    by_test false is further = simp is further
few_reads files slot (write place piece answer ∷ calls) moves gives = few_reads files slot calls (and_parts _ (moves_pieces calls) moves).1 gives
few_reads files slot (sync place answer ∷ calls) moves gives = few_reads files slot calls moves gives
few_reads files slot (say piece answer ∷ calls) moves gives = few_reads files slot calls moves gives

-- ---- writes

-- how many writes more than one a piece there may have been
abbrev last_one : Bool → ℕ
last_one true = 1
last_one false = 0

few_last : (finished : Bool) → last_one finished ≤ 1
few_last true = omega arith
few_last false = omega arith

bytes_there : (slot : ℕ) (xs : List ℕ) (files : List Made) → has_slot slot files ≡ true → bytes_in slot (appended slot xs files) ≡ bytes_in slot files ++ xs
bytes_there slot xs [] has = absurd (false≢true has)
bytes_there slot xs (file ∷ files) has = by_test (file.slot == slot) refl has (bytes_there slot xs files)
  where
    by_test : (found : Bool) → (file.slot == slot) ≡ found → (found || has_slot slot files) ≡ true → (has_slot slot files ≡ true → bytes_in slot (appended slot xs files) ≡ bytes_in slot files ++ xs)
        → bytes_in slot (appended slot xs (file ∷ files)) ≡ bytes_in slot (file ∷ files) ++ xs
    by_test true is has further = simp is refl
    by_test false is has further = simp is (further has)

bytes_elsewhere : (place slot : ℕ) (xs : List ℕ) (files : List Made) → (place == slot) ≡ false → bytes_in slot (appended place xs files) ≡ bytes_in slot files
bytes_elsewhere place slot xs [] other = refl
bytes_elsewhere place slot xs (file ∷ files) other = by_test (file.slot == place) refl (file.slot == slot) refl (bytes_elsewhere place slot xs files other)
  where
    by_test : (found : Bool) → (file.slot == place) ≡ found → (wanted : Bool) → (file.slot == slot) ≡ wanted → bytes_in slot (appended place xs files) ≡ bytes_in slot files
        → bytes_in slot (appended place xs (file ∷ files)) ≡ bytes_in slot (file ∷ files)
    by_test true is true wants further = absurd (false≢true (sym other ∙ (ap (λ (n : ℕ). n == slot) (sym (eqb-true file.slot place is)) ∙ wants)))
    by_test true is false wants further = simp (is, wants) refl
    by_test false is true wants further = simp (is, wants) refl
    by_test false is false wants further = simp (is, wants) further

-- one write more
write_more : (writes count : ℕ) (piece : List ℕ) (bytes : List ℕ) → count ≡ length piece → 65473 * writes ≤ length bytes
    → 65473 * suc writes ≤ length (bytes ++ take count piece) + last_one (is_last piece count) * 65473
write_more writes count piece bytes all few = by_test (nat_le (length piece) 65472) refl
  where
    more : length (bytes ++ take count piece) ≡ length bytes + length piece
    more = length-append bytes (take count piece) ∙ ap (λ (n : ℕ). length bytes + n) (length-take count piece ∙ ap (λ (n : ℕ). min n (length piece)) all ∙ min_same (length piece))

    by_test : (short : Bool) → nat_le (length piece) 65472 ≡ short → 65473 * suc writes ≤ length (bytes ++ take count piece) + last_one (is_last piece count) * 65473
    by_test true is =
        let after : 65473 * suc writes ≤ length (bytes ++ take count piece) + 1 * 65473 = omega (arith, few, more) in
        subst (λ (b : Bool). 65473 * suc writes ≤ length (bytes ++ take count piece) + last_one b * 65473) (sym (both_true is (eq-eqb count (length piece) all))) after
    by_test false is = omega (arith, few, more, leb-false (length piece) 65472 is)

few_writes : (slot : ℕ) (calls : List Call) → moves_pieces calls ≡ true → takes_all calls ≡ true
    → 65473 * writes_of slot calls ≤ length (bytes_in slot (made_of calls)) + last_one (is_finished slot calls) * 65473
few_writes slot [] moves takes = let none : 65473 * 0 ≤ 0 + 0 * 65473 = omega arith in none
few_writes slot (open_file place name answer ∷ calls) moves takes = few_writes slot calls moves takes
few_writes slot (create place name answer ∷ calls) moves takes = few_writes slot calls moves takes
few_writes slot (truncate place None ∷ calls) moves takes = few_writes slot calls moves takes
few_writes slot (truncate place (Some e) ∷ []) moves takes = let none : 65473 * 0 ≤ 0 + 0 * 65473 = omega arith in none
few_writes slot (truncate place (Some e) ∷ open_file made name answer ∷ calls) moves takes = few_writes slot (open_file made name answer ∷ calls) moves takes
few_writes slot (truncate place (Some e) ∷ create made name None ∷ calls) moves takes = few_writes slot (create made name None ∷ calls) moves takes
few_writes slot (truncate place (Some e) ∷ truncate made answer ∷ calls) moves takes = few_writes slot (truncate made answer ∷ calls) moves takes
few_writes slot (truncate place (Some e) ∷ read made room answer ∷ calls) moves takes = few_writes slot (read made room answer ∷ calls) moves takes
few_writes slot (truncate place (Some e) ∷ write made piece answer ∷ calls) moves takes = few_writes slot (write made piece answer ∷ calls) moves takes
few_writes slot (truncate place (Some e) ∷ sync made answer ∷ calls) moves takes = few_writes slot (sync made answer ∷ calls) moves takes
few_writes slot (truncate place (Some e) ∷ say piece answer ∷ calls) moves takes = few_writes slot (say piece answer ∷ calls) moves takes
few_writes slot (truncate place (Some e) ∷ create made name (Some id) ∷ calls) moves takes = by_test (made == slot) refl (few_writes slot calls moves takes)
  where
    by_test : (same : Bool) → (made == slot) ≡ same → 65473 * writes_of slot calls ≤ length (bytes_in slot (made_of calls)) + last_one (is_finished slot calls) * 65473
        → 65473 * writes_of slot (truncate place (Some e) ∷ create made name (Some id) ∷ calls) ≤ length (bytes_in slot (made_of (truncate place (Some e) ∷ create made name (Some id) ∷ calls)))
        + last_one (is_finished slot (truncate place (Some e) ∷ create made name (Some id) ∷ calls)) * 65473
    by_test true is further = simp is (omega arith)
    by_test false is further = simp is further
few_writes slot (read place room answer ∷ calls) moves takes = few_writes slot calls (and_parts _ (moves_pieces calls) moves).1 takes
few_writes slot (write place piece None ∷ calls) moves takes = absurd (false≢true takes)
few_writes slot (write place piece (Some count) ∷ calls) moves takes =
    by_test (place == slot) refl (few_writes slot calls (and_parts (has_slot place (made_of calls) && not (is_finished place calls)) (moves_pieces calls) moves).1 (and_parts (count == length piece) (takes_all calls) takes).1)
  where
    asked : (has_slot place (made_of calls) ≡ true) × (not (is_finished place calls) ≡ true)
    asked = and_parts (has_slot place (made_of calls)) (not (is_finished place calls)) (and_parts (has_slot place (made_of calls) && not (is_finished place calls)) (moves_pieces calls) moves).0

    here : place ≡ slot → 65473 * writes_of slot calls ≤ length (bytes_in slot (made_of calls)) + last_one (is_finished slot calls) * 65473
        → 65473 * suc (writes_of slot calls) ≤ length (bytes_in slot (appended place (take count piece) (made_of calls))) + last_one (is_last piece count) * 65473
    here is further =
        let before : 65473 * writes_of slot calls ≤ length (bytes_in slot (made_of calls)) + 0 * 65473 =
        subst (λ (b : Bool). 65473 * writes_of slot calls ≤ length (bytes_in slot (made_of calls)) + last_one b * 65473) (ap (λ (n : ℕ). is_finished n calls) (sym is) ∙ not-true (is_finished place calls) asked.1) further in
        subst (λ (bs : List ℕ). 65473 * suc (writes_of slot calls) ≤ length bs + last_one (is_last piece count) * 65473)
        (sym (ap (λ (n : ℕ). bytes_in n (appended place (take count piece) (made_of calls))) (sym is) ∙ bytes_there place (take count piece) (made_of calls) asked.0))
        (write_more (writes_of slot calls) count piece (bytes_in place (made_of calls)) (eqb-true count (length piece) (and_parts (count == length piece) (takes_all calls) takes).0)
        (omega (arith, before, ap (λ (n : ℕ). length (bytes_in n (made_of calls))) is)))

    by_test : (same : Bool) → (place == slot) ≡ same → 65473 * writes_of slot calls ≤ length (bytes_in slot (made_of calls)) + last_one (is_finished slot calls) * 65473
        → 65473 * writes_of slot (write place piece (Some count) ∷ calls) ≤ length (bytes_in slot (made_of (write place piece (Some count) ∷ calls)))
        + last_one (is_finished slot (write place piece (Some count) ∷ calls)) * 65473
    by_test true is further = simp is (here (eqb-true place slot is) further)
    by_test false is further = simp is (subst (λ (bs : List ℕ). 65473 * writes_of slot calls ≤ length bs + last_one (is_finished slot calls) * 65473) (sym (bytes_elsewhere place slot (take count piece) (made_of calls) is)) further)
few_writes slot (sync place answer ∷ calls) moves takes = few_writes slot calls moves takes
few_writes slot (say piece answer ∷ calls) moves takes = few_writes slot calls moves takes

pub by_pieces : (files : Shelf) (calls : List Call) → moves_pieces calls ≡ true → IsByPieces files calls
by_pieces files calls moves = record {
  reads = λ slot gives. omega (arith, few_reads files slot calls moves gives, few_spare (is_over slot calls) (left_of files calls slot));
  writes = λ slot takes. omega (arith, few_writes slot calls moves takes, few_last (is_finished slot calls));
}

pub all_by_pieces : (files : Shelf) (calls : Option (List Call)) → ForSome calls (λ cs. moves_pieces cs ≡ true) → ForSome calls (IsByPieces files)
all_by_pieces files calls moves = λ cs is. by_pieces files cs (moves cs is)

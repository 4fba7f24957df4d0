-- What stops one of two readers, and what is open then.
use Rattle.std.proofs.Common.{◌≡◌, ◌++◌, ℕ, List, take, Err}
use Rattle.std.specs.Prelude.{◌≢◌}
use Rattle.pb_desk.specs.Desk.{DeskState}
use Rattle.pb_desk.specs.LineReaders.{Reader}
use Rattle.pb_check.specs.declared.verdict.CheckFault.{CheckFault}
use Rattle.pb_check.specs.declared.verdict.CheckFault.TheVariants.{Refused, Limit, ReadFault, NoMemory}
use Rattle.pb_desk.specs.TwoSlots.{CouldStand, ReadsBoth}
use Rattle.pb_check.specs.Turns.{Answer}
use Rattle.pb_check.specs.inner.Phases.{Answered, IsOpen, BothAnswered, AreOpen, StopsOne, StopsBoth}
use Rattle.pb_desk.proofs.ReadLemmas.{weaker_told}
use Rattle.pb_desk.proofs.BothSlots.{both_of_one, both_of_two, both_then, both_weaker, misses_later, misses_one, misses_two}

-- ---- what is open

-- what is open of a part is open of all
pub open_weaker : (T U : List ℕ → Answer → Type 0) (bytes part : List ℕ) → ((behind : List ℕ) (answer : Answer) → T (part ++ behind) answer → U (bytes ++ behind) answer) → IsOpen T part → IsOpen U bytes
open_weaker T U bytes part h is = record { one = by is.one; two = by is.two; apart = is.apart }
  where
    by : Answered T part → Answered U bytes
    by t = record { behind = t.behind; answer = t.answer; comes = h t.behind t.answer t.comes }

-- what is open of one text is open of both, whatever the other is
open_one : (May : List ℕ → List ℕ → Type 0) (T : List ℕ → Answer → Type 0) (U : List ℕ → List ℕ → Answer → Type 0) (bytes p : List ℕ) → ((behind : List ℕ) → May (bytes ++ behind) p) → ((c : List ℕ) (answer : Answer) → T c answer → U c p answer) → IsOpen T bytes → AreOpen May U
open_one May T U bytes p may h is = record { one = by is.one; two = by is.two; apart = is.apart }
  where
    by : Answered T bytes → BothAnswered May U
    by t = record { cnf = bytes ++ t.behind; proof = p; may = may t.behind; answer = t.answer; comes = h (bytes ++ t.behind) t.answer t.comes }

open_two : (May : List ℕ → List ℕ → Type 0) (T : List ℕ → Answer → Type 0) (U : List ℕ → List ℕ → Answer → Type 0) (c bytes : List ℕ) → ((behind : List ℕ) → May c (bytes ++ behind)) → ((p : List ℕ) (answer : Answer) → T p answer → U c p answer) → IsOpen T bytes → AreOpen May U
open_two May T U c bytes may h is = record { one = by is.one; two = by is.two; apart = is.apart }
  where
    by : Answered T bytes → BothAnswered May U
    by t = record { cnf = c; proof = bytes ++ t.behind; may = may t.behind; answer = t.answer; comes = h (bytes ++ t.behind) t.answer t.comes }

-- what is open of what is left is open of all
open_back : (May May' : List ℕ → List ℕ → Type 0) (P : List ℕ → List ℕ → List ℕ → List ℕ → Type 0) (T U : List ℕ → List ℕ → Answer → Type 0)
    → ((c' p' : List ℕ) → May' c' p' → (c : List ℕ) × (p : List ℕ) × May c p × P c p c' p') → ((t u t' u' : List ℕ) (answer : Answer) → P t u t' u' → T t' u' answer → U t u answer) → AreOpen May' T → AreOpen May U
open_back May May' P T U came h is = record { one = by is.one; two = by is.two; apart = is.apart }
  where
    by : BothAnswered May' T → BothAnswered May U
    by t =
        let from = came t.cnf t.proof t.may in
        record { cnf = from.0; proof = from.1; may = from.2; answer = t.answer; comes = h from.0 from.1 t.cnf t.proof t.answer from.3 t.comes }

pub open_wider : (May May' : List ℕ → List ℕ → Type 0) (T : List ℕ → List ℕ → Answer → Type 0) → ((c p : List ℕ) → May c p → May' c p) → AreOpen May T → AreOpen May' T
open_wider May May' T h is = record { one = by is.one; two = by is.two; apart = is.apart }
  where
    by : BothAnswered May T → BothAnswered May' T
    by t = record { cnf = t.cnf; proof = t.proof; may = h t.cnf t.proof t.may; answer = t.answer; comes = t.comes }

-- ---- stops

pub stops_of_cnf : (X Y : Type 0) (f : CheckFault) (cnf cnf' proof : Reader) (a b : DeskState) (T : X → List ℕ → Answer → Type 0) (U : Y → List ℕ → List ℕ → Answer → Type 0) → cnf.slot ≢ proof.slot → cnf'.slot ≡ cnf.slot
    → ((y : Y) (p : List ℕ) → (x : X) × ((c : List ℕ) (answer : Answer) → T x c answer → U y c p answer)) → StopsOne X f cnf cnf' a b T → StopsBoth Y f cnf proof cnf' proof a b U
stops_of_cnf X Y ReadFault cnf cnf' proof a b T U apart slot h stops =
    misses_one cnf proof a b (λ bytes. (x : X) → IsOpen (T x) bytes) (λ May. (y : Y) → AreOpen May (U y))
    (λ May bytes p may is y. let by = h y p in open_one May (T by.0) (U y) bytes p may by.1 (is by.0)) stops
stops_of_cnf X Y NoMemory cnf cnf' proof a b T U apart slot h stops = both_of_one cnf cnf' proof a b (λ text rest. Unit {0}) (λ c p c' p'. Unit {0}) apart slot (λ c p c' t. tt) stops
stops_of_cnf X Y (Refused file place e) cnf cnf' proof a b T U apart slot h stops =
    both_of_one cnf cnf' proof a b (λ text rest. (x : X) → T x text (Err (Refused file place e))) (λ c p c' p'. (y : Y) → U y c p (Err (Refused file place e))) apart slot
    (λ c p c' t y. let by = h y p in by.1 c (Err (Refused file place e)) (t by.0)) stops
stops_of_cnf X Y (Limit file place which) cnf cnf' proof a b T U apart slot h stops =
    both_of_one cnf cnf' proof a b (λ text rest. (x : X) → T x text (Err (Limit file place which))) (λ c p c' p'. (y : Y) → U y c p (Err (Limit file place which))) apart slot
    (λ c p c' t y. let by = h y p in by.1 c (Err (Limit file place which)) (t by.0)) stops

pub stops_of_proof : (X Y : Type 0) (f : CheckFault) (cnf proof proof' : Reader) (a b : DeskState) (T : X → List ℕ → Answer → Type 0) (U : Y → List ℕ → List ℕ → Answer → Type 0) → cnf.slot ≢ proof.slot → proof'.slot ≡ proof.slot
    → ((y : Y) (c : List ℕ) → (x : X) × ((p : List ℕ) (answer : Answer) → T x p answer → U y c p answer)) → StopsOne X f proof proof' a b T → StopsBoth Y f cnf proof cnf proof' a b U
stops_of_proof X Y ReadFault cnf proof proof' a b T U apart slot h stops =
    misses_two cnf proof a b (λ bytes. (x : X) → IsOpen (T x) bytes) (λ May. (y : Y) → AreOpen May (U y))
    (λ May c bytes may is y. let by = h y c in open_two May (T by.0) (U y) c bytes may by.1 (is by.0)) stops
stops_of_proof X Y NoMemory cnf proof proof' a b T U apart slot h stops = both_of_two cnf proof proof' a b (λ text rest. Unit {0}) (λ c p c' p'. Unit {0}) apart slot (λ c p p' t. tt) stops
stops_of_proof X Y (Refused file place e) cnf proof proof' a b T U apart slot h stops =
    both_of_two cnf proof proof' a b (λ text rest. (x : X) → T x text (Err (Refused file place e))) (λ c p c' p'. (y : Y) → U y c p (Err (Refused file place e))) apart slot
    (λ c p p' t y. let by = h y c in by.1 p (Err (Refused file place e)) (t by.0)) stops
stops_of_proof X Y (Limit file place which) cnf proof proof' a b T U apart slot h stops =
    both_of_two cnf proof proof' a b (λ text rest. (x : X) → T x text (Err (Limit file place which))) (λ c p c' p'. (y : Y) → U y c p (Err (Limit file place which))) apart slot
    (λ c p p' t y. let by = h y c in by.1 p (Err (Limit file place which)) (t by.0)) stops

-- what stops what is left stops all
pub both_stops : (X Y : Type 0) (f : CheckFault) (cnf proof cnf' proof' cnf'' proof'' : Reader) (a b c : DeskState) (P : List ℕ → List ℕ → List ℕ → List ℕ → Type 0) (T : X → List ℕ → List ℕ → Answer → Type 0) (U : Y → List ℕ → List ℕ → Answer → Type 0)
    → ((y : Y) → (x : X) × ((t u t' u' : List ℕ) (answer : Answer) → P t u t' u' → T x t' u' answer → U y t u answer)) → ReadsBoth cnf proof cnf' proof' a b P → StopsBoth X f cnf' proof' cnf'' proof'' b c T → StopsBoth Y f cnf proof cnf'' proof'' a c U
both_stops X Y ReadFault cnf proof cnf' proof' cnf'' proof'' a b c P T U h first stops =
    misses_later cnf proof cnf' proof' a b c P (λ May. (x : X) → AreOpen May (T x)) (λ May. (y : Y) → AreOpen May (U y))
    (λ May May' came is y. let by = h y in open_back May May' P (T by.0) (U y) came by.1 (is by.0)) first stops
both_stops X Y NoMemory cnf proof cnf' proof' cnf'' proof'' a b c P T U h first stops =
    both_then cnf proof cnf' proof' cnf'' proof'' a b c P (λ t u t' u'. Unit {0}) (λ t u t' u'. Unit {0}) (λ t u t' u' t'' u'' p q. tt) first stops
both_stops X Y (Refused file place e) cnf proof cnf' proof' cnf'' proof'' a b c P T U h first stops =
    both_then cnf proof cnf' proof' cnf'' proof'' a b c P (λ t u t' u'. (x : X) → T x t u (Err (Refused file place e))) (λ t u t' u'. (y : Y) → U y t u (Err (Refused file place e)))
    (λ t u t' u' t'' u'' p q y. let by = h y in by.1 t u t' u' (Err (Refused file place e)) p (q by.0)) first stops
both_stops X Y (Limit file place which) cnf proof cnf' proof' cnf'' proof'' a b c P T U h first stops =
    both_then cnf proof cnf' proof' cnf'' proof'' a b c P (λ t u t' u'. (x : X) → T x t u (Err (Limit file place which))) (λ t u t' u'. (y : Y) → U y t u (Err (Limit file place which)))
    (λ t u t' u' t'' u'' p q y. let by = h y in by.1 t u t' u' (Err (Limit file place which)) p (q by.0)) first stops

-- what stops two readers is said in other words
pub stops_both_weaker : (X Y : Type 0) (f : CheckFault) (cnf proof cnf' proof' : Reader) (a b : DeskState) (T : X → List ℕ → List ℕ → Answer → Type 0) (U : Y → List ℕ → List ℕ → Answer → Type 0)
    → ((y : Y) → (x : X) × ((t u : List ℕ) (answer : Answer) → T x t u answer → U y t u answer)) → StopsBoth X f cnf proof cnf' proof' a b T → StopsBoth Y f cnf proof cnf' proof' a b U
stops_both_weaker X Y f cnf proof cnf' proof' a b T U h stops = by_fault f stops
  where
    by_fault : (f : CheckFault) → StopsBoth X f cnf proof cnf' proof' a b T → StopsBoth Y f cnf proof cnf' proof' a b U
    by_fault ReadFault stops = record {
      of_one = stops.of_one;
      of_two = stops.of_two;
      fails = stops.fails;
      told = λ k. weaker_told a (λ t. (x : X) → AreOpen (CouldStand cnf.ahead proof.ahead (take stops.of_one (t.left cnf.slot)) (take stops.of_two (t.left proof.slot))) (T x))
          (λ t. (y : Y) → AreOpen (CouldStand cnf.ahead proof.ahead (take stops.of_one (t.left cnf.slot)) (take stops.of_two (t.left proof.slot))) (U y))
          (λ t is y. let by = h y in open_said (CouldStand cnf.ahead proof.ahead (take stops.of_one (t.left cnf.slot)) (take stops.of_two (t.left proof.slot))) (T by.0) (U y) by.1 (is by.0)) (stops.told k);
    }
      where
        open_said : (May : List ℕ → List ℕ → Type 0) (T U : List ℕ → List ℕ → Answer → Type 0) → ((t u : List ℕ) (answer : Answer) → T t u answer → U t u answer) → AreOpen May T → AreOpen May U
        open_said May T U h is = record { one = by is.one; two = by is.two; apart = is.apart }
          where
            by : BothAnswered May T → BothAnswered May U
            by t = record { cnf = t.cnf; proof = t.proof; may = t.may; answer = t.answer; comes = h t.cnf t.proof t.answer t.comes }
    by_fault NoMemory stops = stops
    by_fault (Refused file place e) stops =
        both_weaker cnf proof cnf' proof' a b (λ t u t' u'. (x : X) → T x t u (Err (Refused file place e))) (λ t u t' u'. (y : Y) → U y t u (Err (Refused file place e)))
        (λ t u t' u' p y. let by = h y in by.1 t u (Err (Refused file place e)) (p by.0)) stops
    by_fault (Limit file place which) stops =
        both_weaker cnf proof cnf' proof' a b (λ t u t' u'. (x : X) → T x t u (Err (Limit file place which))) (λ t u t' u'. (y : Y) → U y t u (Err (Limit file place which)))
        (λ t u t' u' p y. let by = h y in by.1 t u (Err (Limit file place which)) (p by.0)) stops

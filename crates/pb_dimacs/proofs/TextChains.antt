-- Texts that are handed over piece by piece.
use Rattle.std.proofs.Common.{◌≡◌, ◌++◌, ℕ, List}
use Rattle.std.specs.Prelude.{Result, IsErrAnd}
use Rattle.pb_base.specs.declared.fault.Failed.{Failed}
use Rattle.pb_family.specs.Sinks.{SinkState, Takes, FailsToTake}
use Rattle.pb_family.specs.Handing.{HandsText}
use Rattle.pb_family.proofs.Taking.{fails_front, then_fails}
use Rattle.pb_dimacs.proofs.Holding.{text_fault, text_last}

-- the fault of the first of two pieces is handed on
pub first_stops : {R T : Type 0} (r : Result T Failed) (g : Failed) (xs ys : List ℕ) (a b : SinkState R) → IsErrAnd r (λ f. f ≡ g) → FailsToTake xs a b → HandsText (xs ++ ys) r a b
first_stops r g xs ys a b is h = text_fault r g (xs ++ ys) a b is (fails_front xs ys a b h)

-- and of the second of three
pub second_stops : {R T : Type 0} (r : Result T Failed) (g : Failed) (xs ys zs : List ℕ) (a b c : SinkState R) → IsErrAnd r (λ f. f ≡ g) → Takes xs a b → FailsToTake ys b c → HandsText (xs ++ (ys ++ zs)) r a c
second_stops r g xs ys zs a b c is first h = text_fault r g (xs ++ (ys ++ zs)) a c is (then_fails xs (ys ++ zs) a b c first (fails_front ys zs b c h))

-- the last of three is handed over
pub third_last : {R T : Type 0} (r : Result T Failed) (xs ys zs : List ℕ) (a b c d : SinkState R) → Takes xs a b → Takes ys b c → HandsText zs r c d → HandsText (xs ++ (ys ++ zs)) r a d
third_last r xs ys zs a b c d first second h = text_last r xs (ys ++ zs) a b d first (text_last r ys zs b c d second h)

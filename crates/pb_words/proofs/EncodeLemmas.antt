-- What the words of `encode` keep.
use Rattle.std.proofs.Common.{◌≡◌, ◌≢◌, ◌||◌, ◌&&◌, not, ℤ, Bool, true, false, List, ◌∷◌, Option, Some, None, cond, codes, refl, subst}
use Rattle.std.specs.Option.{option_to_list, ForSome}
use Rattle.std.specs.Bool.{Decides}
use Rattle.std.specs.Str.{bytes_eq}
use Rattle.std.proofs.lemmas.Slice.Eq.{bytes_eq-Decides}
use Rattle.clap.specs.Words.{Row, Text, first_of}
use Rattle.pb_base.specs.declared.options.Options.{Options}
use Rattle.pb_words.specs.BoundWords.{bound_in}
use Rattle.pb_words.specs.EncodeWords.{EncodeWords, encode_from, encode_in}
use Rattle.pb_words.specs.inner.Fit.{IsFitEncode}
use Rattle.pb_words.specs.Names.{are_different}
use Rattle.pb_words.specs.TableWords.{tabled_in}

-- two names are different where the test says so
differ : (t : Bool) (a b : Text) → Decides t (a ≡ b) → t ≡ false → a ≢ b
differ true a b same e equal = cc
differ false a b other e equal = let bad : false ≡ true = other.1 equal in cc

-- what the test of three names is made of
three_differ : (x y z : Bool) → (not (x || (y || false)) && (not (z || false) && (not false && true))) ≡ true → (x ≡ false) × (y ≡ false) × (z ≡ false)
three_differ false false false e = (refl, refl, refl)
three_differ false false true e = cc
three_differ false true z e = cc
three_differ true y z e = cc

two_differ : (x : Bool) → (not (x || false) && (not false && true)) ≡ true → x ≡ false
two_differ false e = refl
two_differ true e = cc

AreOthers : Text → Text → Option Text → Type 0
AreOthers opb cnf proof = (opb ≢ cnf) × ForSome proof (λ name. (opb ≢ name) × (cnf ≢ name))

all_differ : (opb cnf : Text) (proof : Option Text) → are_different (opb ∷ cnf ∷ option_to_list proof) ≡ true → AreOthers opb cnf proof
unfolding AreOthers
all_differ opb cnf None e = (differ (bytes_eq opb cnf) opb cnf (bytes_eq-Decides opb cnf) (two_differ (bytes_eq opb cnf) e), λ name named. cc)
all_differ opb cnf (Some proof) e =
    let apart = three_differ (bytes_eq opb cnf) (bytes_eq opb proof) (bytes_eq cnf proof) e in (
      differ (bytes_eq opb cnf) opb cnf (bytes_eq-Decides opb cnf) apart.0,
      λ name named.
          let same : proof ≡ name = cc in
          subst (λ (x : Text). (opb ≢ x) × (cnf ≢ x)) same (differ (bytes_eq opb proof) opb proof (bytes_eq-Decides opb proof) apart.1, differ (bytes_eq cnf proof) cnf proof (bytes_eq-Decides cnf proof) apart.2),
    )

fit_if : (opb cnf : Text) (proof : Option Text) (options : Options) (bound : Option ℤ) (b : Bool) (w : EncodeWords) → are_different (opb ∷ cnf ∷ option_to_list proof) ≡ b
    → cond b (Some (record { opb = opb; cnf = cnf; proof = proof; options = options; bound = bound })) None ≡ Some w → IsFitEncode w
unfolding AreOthers
fit_if opb cnf proof options bound true w test e =
    let same : w ≡ record { opb = opb; cnf = cnf; proof = proof; options = options; bound = bound } = cc in
    let others = all_differ opb cnf proof test in
    rw same (record { different = others.0; other = others.1 })
fit_if opb cnf proof options bound false w test e = cc

fit_from : (opb cnf proof : Option Text) (o : Option Options) (bound : Option (Option ℤ)) (w : EncodeWords) → encode_from opb cnf proof o bound ≡ Some w → IsFitEncode w
fit_from (Some opb) (Some cnf) proof (Some options) (Some bound) w e = fit_if opb cnf proof options bound (are_different (opb ∷ cnf ∷ option_to_list proof)) w refl e
fit_from None cnf proof o bound w e = cc
fit_from (Some opb) None proof o bound w e = cc
fit_from (Some opb) (Some cnf) proof None bound w e = cc
fit_from (Some opb) (Some cnf) proof (Some options) None w e = cc

pub encode_fit : (given : List Row) (w : EncodeWords) → encode_in given ≡ Some w → IsFitEncode w
encode_fit given w = fit_from _ _ (first_of (codes "proof") given) (tabled_in given) (bound_in given) w

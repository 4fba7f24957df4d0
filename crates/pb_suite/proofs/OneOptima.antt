-- One thing at most is due of an optimum.
use Rattle.std.proofs.Common.{◌≡◌, ◌∙◌, List, Option, Some, None, refl, subst, sym, ap}
use Rattle.std.specs.Prelude.{IsSome}
use Rattle.pb_base.specs.declared.literal.Term.{Term}
use Rattle.pb_base.specs.declared.problem.Problem.{Problem}
use Rattle.pb_model.specs.declared.decoding.Decoded.TheVariants as decoded
use Rattle.pb_model.specs.declared.model.Model.{Model}
use Rattle.pb_model.specs.SolutionText.{optimum_text}
use Rattle.pb_words.specs.OptimumWords.{OptimumWords}
use Rattle.pb_suite.specs.declared.outcome.Outcome.{Outcome}
use Rattle.pb_suite.specs.CommandSpec.{Shelf}
use Rattle.pb_suite.specs.DecodeSpec.{StopsDecode}
use Rattle.pb_suite.specs.DecodeSpec.StopsDecode.{unread as no_problem}
use Rattle.pb_suite.specs.Denoted.{IsDenoted}
use Rattle.pb_suite.specs.OneDue.{SpecifiesOne}
use Rattle.pb_suite.specs.OptimumSpec.{decoding_of, next_below, optimum_spec, refuting_of, HasAim, IsProved, IsReached, StopsOptimum}
use Rattle.pb_suite.specs.OptimumSpec.StopsOptimum.{unread, aimless, undecoded, unproved}
use Rattle.pb_suite.specs.Outputs.{only_words}
use Rattle.pb_suite.specs.RefuteSpec.{StopsRefute}
use Rattle.pb_suite.proofs.Decodes.{same_posed}
use Rattle.pb_suite.proofs.OneDues.{comes_same, one_decode, one_refute}
use Rattle.pb_suite.proofs.Unread.{unread_posed}

module _ (w : OptimumWords) (shelf : Shelf) where
  none_aims : (o : Option (List Term)) → IsSome o → o ≡ None → ⊥
  none_aims None some none = cc
  none_aims (Some x) some none = cc

  aims_not : (p q : Problem) → IsDenoted shelf w.opb None p → p.objective ≡ None → HasAim shelf w q → ⊥
  aims_not p q denoted none aim = none_aims q.objective aim.aims (subst (λ (r : Problem). r.objective ≡ None) (same_posed shelf w.opb None p q denoted aim.denoted) none)

  reached_same : (p q : Problem) (m n : Model) → IsReached shelf w p m → IsReached shelf w q n → (p ≡ q) × (m ≡ n)
  reached_same p q m n one other =
      let same = comes_same (decoding_of w) shelf p q m n decoded.Solution decoded.Solution one.comes other.comes in
      (same.0, same.1)

  -- a solution is no way to stop decoding
  reached_not : (p : Problem) (m : Model) (answer : Outcome) → IsReached shelf w p m → StopsDecode shelf (decoding_of w) answer → ⊥
  reached_not p m answer reached stops = (one_decode (decoding_of w) shelf).not_both _ answer (p, m, reached.comes, refl) stops

  moved : (p q : Problem) (m n : Model) (P : Problem → Model → Type 0) → IsReached shelf w p m → IsReached shelf w q n → P q n → P p m
  moved p q m n P one other holds =
      let same = reached_same p q m n one other in
      subst (P p) (sym same.1) (subst (λ (r : Problem). P r n) (sym same.0) holds)

  ways : (a b : Outcome) → StopsOptimum shelf w a → StopsOptimum shelf w b → a ≡ b
  ways _ _ (aimless p denoted none) (aimless q denoted' none') = refl
  ways _ b (aimless p denoted none) (unread _ h) = absurd (unread_posed shelf w.opb None p b h denoted)
  ways _ b (aimless p denoted none) (undecoded q _ aim h) = absurd (aims_not p q denoted none aim)
  ways _ b (aimless p denoted none) (unproved q n _ reached h) = absurd (aims_not p q denoted none reached.aim)
  ways a _ (unread _ h) (aimless q denoted none) = absurd (unread_posed shelf w.opb None q a h denoted)
  ways a b (unread _ h) (unread _ k) = (one_decode (decoding_of w) shelf).one_stop a b (no_problem a h) (no_problem b k)
  ways a b (unread _ h) (undecoded q _ aim k) = absurd (unread_posed shelf w.opb None q a h aim.denoted)
  ways a b (unread _ h) (unproved q n _ reached k) = absurd (unread_posed shelf w.opb None q a h reached.aim.denoted)
  ways a _ (undecoded p _ aim h) (aimless q denoted none) = absurd (aims_not q p denoted none aim)
  ways a b (undecoded p _ aim h) (unread _ k) = absurd (unread_posed shelf w.opb None p b k aim.denoted)
  ways a b (undecoded p _ aim h) (undecoded q _ aim' k) = (one_decode (decoding_of w) shelf).one_stop a b h k
  ways a b (undecoded p _ aim h) (unproved q n _ reached k) = absurd (reached_not q n a reached h)
  ways a _ (unproved p m _ reached h) (aimless q denoted none) = absurd (aims_not q p denoted none reached.aim)
  ways a b (unproved p m _ reached h) (unread _ k) = absurd (unread_posed shelf w.opb None p b k reached.aim.denoted)
  ways a b (unproved p m _ reached h) (undecoded q _ aim k) = absurd (reached_not p m b reached k)
  ways a b (unproved p m _ reached h) (unproved q n _ reached' k) =
      (one_refute (refuting_of w (next_below p m)) shelf).one_stop a b h (moved p q m n (λ r l. StopsRefute shelf (refuting_of w (next_below r l)) b) reached reached' k)

  both : (p : Problem) (m : Model) (answer : Outcome) → IsProved shelf w p m → StopsOptimum shelf w answer → ⊥
  both p m _ proved (aimless q denoted none) = aims_not q p denoted none proved.reached.aim
  both p m answer proved (unread _ h) = unread_posed shelf w.opb None p answer h proved.reached.aim.denoted
  both p m answer proved (undecoded q _ aim h) = reached_not p m answer proved.reached h
  both p m answer proved (unproved q n _ reached h) =
      (one_refute (refuting_of w (next_below p m)) shelf).not_both _ answer (proved.followed, refl) (moved p q m n (λ r l. StopsRefute shelf (refuting_of w (next_below r l)) answer) proved.reached reached h)

  pub one_optimum : SpecifiesOne (optimum_spec w) shelf
  one_optimum = record {
    one_output = λ out other (p, m, found, is) (q, n, found', is').
        let same = reached_same p q m n found.reached found'.reached in
        is ∙ ap (λ (r : Problem). only_words (optimum_text r m.values)) same.0 ∙ ap (λ (l : Model). only_words (optimum_text q l.values)) same.1 ∙ sym is';
    one_stop = ways;
    not_both = λ out answer (p, m, found, is) h. both p m answer found h;
  }

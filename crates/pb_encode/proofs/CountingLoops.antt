-- Groups of constraints that are counted one after another, with what is noted of them.
use Rattle.std.proofs.Common.{◌≡◌, ◌<◌, ◌^◌, ◌+◌, ℕ, List, All, [], ◌∷◌, ◌++◌, ap, sym, ◌∙◌, subst, append_assoc, length}
use Rattle.std.proofs.lemmas.List.Elements.{All-head, All-tail}
use Rattle.pb_base.specs.declared.options.Options.{Options}
use Rattle.pb_encode.specs.declared.groups.Group.{Group}
use Rattle.pb_encode.specs.declared.hints.Hints.{Hints}
use Rattle.pb_encode.specs.declared.tally.Tally.{Tally}
use Rattle.pb_encode.specs.inner.GroupPlans.{IsLightGroup, IsSound}
use Rattle.pb_encode.specs.inner.Hints.{AreHintsOf, IsBlank}
use Rattle.pb_encode.specs.inner.Tallies.{Counts, IsTally}
use Rattle.pb_encode.proofs.Hinting.{Gone, gone_begin, gone_few, gone_more, hints_none}

-- of all these groups a front was counted, and some are left
pub record Counting (o : Options) (first : ℕ) (all left : List Group) (t : Tally) (hints : Hints) : Type 0 where
  pub front : List Group
  pub whole : all ≡ front ++ left
  pub tally : IsTally o front t
  pub sound : All (IsSound first) left
  pub gone : Gone all left hints.noted
  pub told : AreHintsOf o all hints.list.items

pub counting_begin : (o : Options) (first : ℕ) (all left : List Group) (t : Tally) (hints : Hints) → left ≡ all → IsTally o [] t → All (IsSound first) all → length all < 2 ^ 63 → IsBlank hints → Counting o first all left t hints
counting_begin o first all left t hints all_are new sound few blank =
    record {
      front = [];
      whole = sym all_are;
      tally = new;
      sound = subst (All (IsSound first)) (sym all_are) sound;
      gone = gone_begin all left hints.noted all_are blank.first few;
      told = subst (AreHintsOf o all) (sym blank.none) (hints_none o all);
    }

-- one that is left comes next
module _ {o : Options} {first : ℕ} {all left : List Group} {t : Tally} {hints : Hints} (g : Group) (rest : List Group) (parts : left ≡ g ∷ rest) (so_far : Counting o first all left t hints) where
  pub counting_light : IsLightGroup g
  counting_light = (All-head (IsSound first) g rest (subst (All (IsSound first)) parts so_far.sound)).light

  pub counting_few : hints.noted < 2 ^ 63
  counting_few = gone_few g rest parts so_far.gone

  pub counting_more : (new : Tally) (more : Hints) → Counts o t new (g ∷ []) → more.noted ≡ hints.noted + 1 → AreHintsOf o all more.list.items → Counting o first all rest new more
  counting_more new more counted next told =
      record {
        front = so_far.front ++ g ∷ [];
        whole = so_far.whole ∙ ap (λ (gs : List Group). so_far.front ++ gs) parts ∙ sym (append_assoc so_far.front (g ∷ []) rest);
        tally = counted so_far.front so_far.tally;
        sound = All-tail (IsSound first) g rest (subst (All (IsSound first)) parts so_far.sound);
        gone = gone_more g rest parts so_far.gone more.noted next;
        told = told;
      }

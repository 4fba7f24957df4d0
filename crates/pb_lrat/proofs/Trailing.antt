-- A trail with one more literal, and with one less.
use Rattle.std.proofs.Common.{◌≡◌, ◌≢◌, ℕ, Bool, false, List, ◌∷◌, Option, Some, None, ap, sym, ◌∙◌}
use Rattle.pb_base.specs.declared.literal.Lit.{Lit}
use Rattle.pb_base.specs.Literals.{negated, is_among}
use Rattle.pb_unit.specs.Trails.{is_value}
use Rattle.pb_unit.proofs.TrailValues.{told_more, told_less}
use Rattle.pb_lrat.specs.inner.Trails.{IsTrail}

pub pushed : (values more : ℕ → Option Bool) (ls : List Lit) (l : Lit) → IsTrail values ls → more l.var ≡ Some l.positive → ((v : ℕ) → v ≢ l.var → more v ≡ values v) → is_among ls l ≡ false → is_among ls (negated l) ≡ false → IsTrail more (l ∷ ls)
pushed values more ls l h new old absent undecided = record { told = told_more values more ls l new old h.told absent undecided; different = (absent, h.different) }

-- values that tell the same make the same trail
pub same_values : (values more : ℕ → Option Bool) (ls : List Lit) → IsTrail values ls → ((v : ℕ) → more v ≡ values v) → IsTrail more ls
same_values values more ls h same = record { told = λ m. h.told m ∙ ap (λ (o : Option Bool). is_value o m.positive) (sym (same m.var)); different = h.different }

pub popped : (values less : ℕ → Option Bool) (ls : List Lit) (l : Lit) → IsTrail values (l ∷ ls) → less l.var ≡ None → ((v : ℕ) → v ≢ l.var → less v ≡ values v) → IsTrail less ls
popped values less ls l h none old = record { told = told_less values less ls l none old h.told h.different.0; different = h.different.1 }

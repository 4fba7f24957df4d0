use Rattle.std.proofs.Common.{◌≡◌, ◌⊎◌, inl, inr, subst, true, false, get_or-set_other}
use Rattle.std.specs.Prelude.{IsTrue}
use Rattle.std.proofs.lemmas.Bool.{cases_eq}
use Rattle.pb_gentot.specs.inner.Marks.{HasMark}
use Rattle.pb_gentot.proofs.seen.Seen.insert.Goals as goal

pub returns-clause-marks : goal.returns-clause-marks
returns-clause-marks c = λ n h. elim (cases_eq n c.args.value) as (λ _. (n ≡ c.args.value) ⊎ HasMark c.args.self.now n) [
  | inl same ↦ inl same
  | inr other ↦ inr (subst IsTrue (get_or-set_other c.args.self.now.marks.items c.args.value n true false other) h)
]

-- Stages whose steps lines can say, and how long these are.
use Rattle.std.proofs.Common.{◌≡◌, ◌≢◌, ◌≤◌, ◌<◌, ◌+◌, ◌*◌, ℕ, zero, suc, List, [], ◌∷◌, ◌++◌, length, map, arith}
use Rattle.std.specs.Prelude.{All}
use Rattle.std.specs.List.{range_with_len}
use Rattle.std.proofs.lemmas.List.Elements.{All-nil, All-head, All-tail, recursion_from_All}
use Rattle.pb_steps.specs.declared.step.Step.{Step}
use Rattle.pb_steps.specs.declared.step.Step.TheVariants.{Del, Out}
use Rattle.pb_steps.specs.Sayable.{IsId, IsSayable}
use Rattle.pb_steps.specs.StepSizes.{step_size}
use Rattle.pb_derive.specs.Outputs.{Output, output_steps}
use Rattle.pb_derive.specs.Stages.{stage_steps}
use Rattle.pb_derive.proofs.Fine.{AreFine, fine_within, fine_cons, fine_append}

-- a line can say the step, with no more bytes
abbrev pub IsFine : ℕ → Step → Type 0
IsFine one s = IsSayable s × (step_size s ≤ one)

no_element : (ids : List ℕ) → 1 ≤ length ids → ids ≢ []
no_element [] some = absurd (omega (arith, some))
no_element (id ∷ ids) some = λ e. cc

module _ (most : ℕ) where
  pub fine_none : AreFine most 0 []
  fine_none = record { sayable = All-nil IsSayable; each = All-nil (λ (s : Step). step_size s ≤ most); all_sized = omega arith }

  pub fine_step : (one all : ℕ) (s : Step) (ss : List Step) → IsFine one s → one ≤ most → AreFine most all ss → AreFine most (one + all) (s ∷ ss)
  fine_step one all s ss fine room h =
      let small = fine.1 in
      fine_within most most (step_size s + all) (one + all) (s ∷ ss) (omega arith) (omega (arith, small)) (fine_cons most all s ss fine.0 (omega (arith, small, room)) h)

  pub fine_one : (one : ℕ) (s : Step) → IsFine one s → one ≤ most → AreFine most one (s ∷ [])
  fine_one one s fine room = fine_within most most (one + 0) one (s ∷ []) (omega arith) (omega arith) (fine_step one 0 s [] fine room fine_none)

  fine_from : (one : ℕ) (f : ℕ → Step) (a n : ℕ) → one ≤ most → ((j : ℕ) → a ≤ j → j < a + n → IsFine one (f j)) → AreFine most (one * n) (map f (range_with_len a n))
  fine_from one f a zero room each = fine_within most most 0 (one * 0) [] (omega arith) (omega arith) fine_none
  fine_from one f a (suc n) room each =
      fine_within most most (one + one * n) (one * suc n) (map f (range_with_len a (suc n))) (omega arith) (let more : one + one * n ≡ one * suc n = omega arith in omega (arith, more))
      (fine_step one (one * n) (f a) (map f (range_with_len (a + 1) n)) (each a (omega arith) (omega arith)) room (fine_from one f (a + 1) n room (λ j from to. each j (omega (arith, from)) (omega (arith, to)))))

  -- lines by their places
  pub fine_lines : (one : ℕ) (f : ℕ → Step) (n : ℕ) → one ≤ most → ((j : ℕ) → j < n → IsFine one (f j)) → AreFine most (one * n) (map f (range_with_len 0 n))
  fine_lines one f n room each = fine_from one f 0 n room (λ j from to. each j (omega (arith, to)))

  pub fine_outputs : (us : List Output) → 24 ≤ most → All (λ u. IsId u.id) us → AreFine most (24 * length us) (output_steps us)
  fine_outputs [] room h = fine_none
  fine_outputs (u ∷ us) room h =
      let here : IsFine 24 (Out u.id) = (All-head (λ (u : Output). IsId u.id) u us h, omega arith) in
      fine_within most most (24 + 24 * length us) (24 * length (u ∷ us)) (output_steps (u ∷ us)) (omega arith) (omega arith) (fine_step 24 (24 * length us) (Out u.id) (output_steps us) here room (fine_outputs us room (All-tail (λ (u : Output). IsId u.id) u us h)))

  pub fine_deleted : (ids : List ℕ) → 1 ≤ length ids → 4 + 20 * length ids ≤ most → All IsId ids → AreFine most (4 + 20 * length ids) (Del ids ∷ [])
  fine_deleted ids some room h = fine_one (4 + 20 * length ids) (Del ids) ((recursion_from_All IsId ids h, no_element ids some), omega arith) room

  pub fine_stage : (a : ℕ) (ss : List Step) (us : List Output) (ids : List ℕ) → AreFine most a ss → All (λ u. IsId u.id) us → 1 ≤ length ids → 24 + 20 * length ids ≤ most → All IsId ids → AreFine most (a + (24 * length us + (4 + 20 * length ids))) (stage_steps ss us ids)
  fine_stage a ss us ids h outs some room known =
      fine_append most a (24 * length us + (4 + 20 * length ids)) ss (output_steps us ++ Del ids ∷ []) h
      (fine_append most (24 * length us) (4 + 20 * length ids) (output_steps us) (Del ids ∷ []) (fine_outputs us (omega (arith, room)) outs) (fine_deleted ids some (omega (arith, room)) known))

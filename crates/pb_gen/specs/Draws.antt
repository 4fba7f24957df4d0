-- Draws of pseudo-random numbers: the linear congruential generator modulo 2^32 of Press et al. (Numerical Recipes in C, 1992), of whose states the upper half is drawn.
use Rattle.std.specs.Prelude.{ℕ, zero, suc, ◌+◌, ◌*◌, ◌/◌, ◌%◌, ◌^◌}

abbrev pub next_state : ℕ → ℕ
next_state s = (1664525 * s + 1013904223) % 2 ^ 32

-- the state after so many draws; each state is a seed of the draws that follow
abbrev pub state_after : ℕ → ℕ → ℕ
state_after zero seed = seed
state_after (suc k) seed = next_state (state_after k seed)

-- the draw at a place, from 0 on
abbrev pub draw : ℕ → ℕ → ℕ
draw seed place = state_after (suc place) seed / 65536

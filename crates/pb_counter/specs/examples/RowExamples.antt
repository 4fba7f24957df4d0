-- Worked examples of a counter's derivation by rows, which the check computes.
use Rattle.std.specs.Prelude.{◌≡◌, [], ◌∷◌, map, codes, refl}
use Rattle.std.specs.Fmt.{digits}
use Rattle.pb_steps.specs.StepText.{step_line}
use Rattle.pb_family.specs.Fresh.{positive_of}
use Rattle.pb_counter.specs.CounterHalves.{rows_end, rows_steps, counter_row_steps}

-- at most one of x1, x2
pub one_of_two :
    map step_line (counter_row_steps (positive_of 1 ∷ positive_of 2 ∷ []) 1 3 1 2)
    ≡ (codes "red +1 ~x3 +1 x1 >= 1 ; x3 -> 0"
    ∷ codes "red +1 x3 +1 ~x1 >= 1 ; x3 -> 1"
    ∷ codes "pol 3"
    ∷ codes "pol x3 x3 w"
    ∷ codes "pol 1 2 +"
    ∷ codes "out 4"
    ∷ codes "del 2 3"
    ∷ codes "pol 6 5 + 1 d"
    ∷ codes "out 7"
    ∷ codes "del 5 6"
    ∷ [])
unfolding digits rows_end rows_steps
one_of_two = refl

-- at most one of x1, x2, x3
pub one_of_three :
    map step_line (counter_row_steps (positive_of 1 ∷ positive_of 2 ∷ positive_of 3 ∷ []) 1 4 1 2)
    ≡ (codes "red +1 ~x4 +1 x1 >= 1 ; x4 -> 0"
    ∷ codes "red +1 x4 +1 ~x1 >= 1 ; x4 -> 1"
    ∷ codes "pol 3"
    ∷ codes "pol x4 x4 w"
    ∷ codes "pol 1 2 +"
    ∷ codes "out 4"
    ∷ codes "del 2 3"
    ∷ codes "pol 6 x3 w"
    ∷ codes "red +1 ~x5 +1 x2 +1 x4 >= 1 ; x5 -> 0"
    ∷ codes "red +2 x5 +1 ~x2 +1 ~x4 >= 2 ; x5 -> 1"
    ∷ codes "pol 8"
    ∷ codes "pol 9 x4 w 3 d"
    ∷ codes "pol 9 x2 w 3 d"
    ∷ codes "pol 7 5 + 1 d"
    ∷ codes "pol x5 x5 w"
    ∷ codes "out 11"
    ∷ codes "out 12"
    ∷ codes "out 13"
    ∷ codes "del 5 8 9"
    ∷ codes "pol 6 10 +"
    ∷ codes "pol 15 14 + 1 d"
    ∷ codes "out 16"
    ∷ codes "del 14 6 7 10 15"
    ∷ [])
unfolding digits rows_end rows_steps
one_of_three = refl

-- at most two of x1, x2, x3
pub two_of_three :
    map step_line (counter_row_steps (positive_of 1 ∷ positive_of 2 ∷ positive_of 3 ∷ []) 2 4 1 2)
    ≡ (codes "red +1 ~x4 +1 x1 >= 1 ; x4 -> 0"
    ∷ codes "red +1 x4 +1 ~x1 >= 1 ; x4 -> 1"
    ∷ codes "red +1 ~x5 >= 1 ; x5 -> 0"
    ∷ codes "rup >= 0 ; 4"
    ∷ codes "pol 3"
    ∷ codes "pol 4"
    ∷ codes "pol 4 x4 +"
    ∷ codes "pol x4 x4 w"
    ∷ codes "pol 9 8 1 * +"
    ∷ codes "pol 1 2 + 4 +"
    ∷ codes "out 6"
    ∷ codes "out 7"
    ∷ codes "del 2 3 4 5"
    ∷ codes "pol 11 x3 w"
    ∷ codes "red +1 ~x6 +1 x2 +1 x4 >= 1 ; x6 -> 0"
    ∷ codes "red +2 x6 +1 ~x2 +1 ~x4 >= 2 ; x6 -> 1"
    ∷ codes "red +2 ~x7 +1 x2 +1 x4 +2 x5 >= 2 ; x7 -> 0"
    ∷ codes "red +3 x7 +1 ~x2 +1 ~x4 +2 ~x5 >= 3 ; x7 -> 1"
    ∷ codes "pol 15 8 2 * + x2 w 3 d"
    ∷ codes "pol 13"
    ∷ codes "pol 18 1 * 9 + 17 1 * + 15 x4 w 2 d + 2 d"
    ∷ codes "pol 14 x4 w 3 d"
    ∷ codes "pol 16 x5 w 3 d"
    ∷ codes "pol 14 x2 w 3 d"
    ∷ codes "pol 16 x2 w x4 w 3 d"
    ∷ codes "pol 12 10 + 2 d"
    ∷ codes "pol 17 22 +"
    ∷ codes "pol x6 x6 w"
    ∷ codes "pol 26 25 1 * +"
    ∷ codes "out 20"
    ∷ codes "out 22"
    ∷ codes "out 21"
    ∷ codes "out 23"
    ∷ codes "out 24"
    ∷ codes "del 8 9 10 13 14 15 16 17 18"
    ∷ codes "pol 11 19 +"
    ∷ codes "pol 28 27 + 2 d"
    ∷ codes "out 29"
    ∷ codes "del 25 26 27 11 12 19 28"
    ∷ [])
unfolding digits rows_end rows_steps
two_of_three = refl

-- at most two of x1, x2, x3, x4
pub two_of_four :
    map step_line (counter_row_steps (positive_of 1 ∷ positive_of 2 ∷ positive_of 3 ∷ positive_of 4 ∷ []) 2 5 1 2)
    ≡ (codes "red +1 ~x5 +1 x1 >= 1 ; x5 -> 0"
    ∷ codes "red +1 x5 +1 ~x1 >= 1 ; x5 -> 1"
    ∷ codes "red +1 ~x6 >= 1 ; x6 -> 0"
    ∷ codes "rup >= 0 ; 4"
    ∷ codes "pol 3"
    ∷ codes "pol 4"
    ∷ codes "pol 4 x5 +"
    ∷ codes "pol x5 x5 w"
    ∷ codes "pol 9 8 1 * +"
    ∷ codes "pol 1 2 + 4 +"
    ∷ codes "out 6"
    ∷ codes "out 7"
    ∷ codes "del 2 3 4 5"
    ∷ codes "pol 11 x4 w"
    ∷ codes "pol 12 x3 w"
    ∷ codes "red +1 ~x7 +1 x2 +1 x5 >= 1 ; x7 -> 0"
    ∷ codes "red +2 x7 +1 ~x2 +1 ~x5 >= 2 ; x7 -> 1"
    ∷ codes "red +2 ~x8 +1 x2 +1 x5 +2 x6 >= 2 ; x8 -> 0"
    ∷ codes "red +3 x8 +1 ~x2 +1 ~x5 +2 ~x6 >= 3 ; x8 -> 1"
    ∷ codes "pol 16 8 2 * + x2 w 3 d"
    ∷ codes "pol 14"
    ∷ codes "pol 19 1 * 9 + 18 1 * + 16 x5 w 2 d + 2 d"
    ∷ codes "pol 15 x5 w 3 d"
    ∷ codes "pol 17 x6 w 3 d"
    ∷ codes "pol 15 x2 w 3 d"
    ∷ codes "pol 17 x2 w x5 w 3 d"
    ∷ codes "pol 13 10 + 2 d"
    ∷ codes "pol 18 23 +"
    ∷ codes "pol x7 x7 w"
    ∷ codes "pol 27 26 1 * +"
    ∷ codes "out 21"
    ∷ codes "out 23"
    ∷ codes "out 22"
    ∷ codes "out 24"
    ∷ codes "out 25"
    ∷ codes "del 8 9 10 14 15 16 17 18 19"
    ∷ codes "pol 12 20 +"
    ∷ codes "red +1 ~x9 +1 x3 +1 x7 >= 1 ; x9 -> 0"
    ∷ codes "red +2 x9 +1 ~x3 +1 ~x7 >= 2 ; x9 -> 1"
    ∷ codes "red +2 ~x10 +1 x3 +1 x7 +2 x8 >= 2 ; x10 -> 0"
    ∷ codes "red +3 x10 +1 ~x3 +1 ~x7 +2 ~x8 >= 3 ; x10 -> 1"
    ∷ codes "pol 32 26 2 * + x3 w 3 d"
    ∷ codes "pol 30"
    ∷ codes "pol 35 1 * 27 + 34 1 * + 32 x7 w 2 d + 2 d"
    ∷ codes "pol 31 x7 w 3 d"
    ∷ codes "pol 33 x8 w 3 d"
    ∷ codes "pol 31 x3 w 3 d"
    ∷ codes "pol 33 x3 w x7 w 3 d"
    ∷ codes "pol 29 28 + 2 d"
    ∷ codes "pol 34 39 +"
    ∷ codes "pol x9 x9 w"
    ∷ codes "pol 43 42 1 * +"
    ∷ codes "out 37"
    ∷ codes "out 39"
    ∷ codes "out 38"
    ∷ codes "out 40"
    ∷ codes "out 41"
    ∷ codes "del 26 27 28 30 31 32 33 34 35"
    ∷ codes "pol 20 36 +"
    ∷ codes "del 13 20 29 36"
    ∷ codes "pol 11 45 +"
    ∷ codes "pol 46 44 + 2 d"
    ∷ codes "out 47"
    ∷ codes "del 42 43 44 11 12 45 46"
    ∷ [])
unfolding digits rows_end rows_steps
two_of_four = refl

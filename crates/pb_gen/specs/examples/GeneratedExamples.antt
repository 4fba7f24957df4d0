-- Worked examples, which the check computes.
use Rattle.std.specs.Prelude.{◌≡◌, refl, codes}
use Rattle.std.specs.Fmt.{digits}
use Rattle.pb_gen.specs.Draws.{draw}
use Rattle.pb_gen.specs.Generated.{generated}

pub the_first_draw : draw 0 0 ≡ 15470
the_first_draw = refl

pub the_second_draw : draw 0 1 ≡ 18256
the_second_draw = refl

pub no_statement : generated 0 5 ≡ codes "* #variable= 10 #constraint= 0\n"
unfolding digits
no_statement = refl

-- all literals but one
pub all_but_one : generated 1 0 ≡ codes "* #variable= 11 #constraint= 1\n+1 ~x7 +1 x3 >= 1 ;\n"
unfolding digits
all_but_one = refl

-- half of the literals
pub half : generated 1 4 ≡ codes "* #variable= 11 #constraint= 1\n+1 x8 +1 x7 +1 ~x5 +1 x11 >= 2 ;\n"
unfolding digits
half = refl

pub a_weight : generated 1 6 ≡ codes "* #variable= 11 #constraint= 1\n+4 x3 +3 ~x6 +5 x10 +13 x11 +9 x9 >= 12 ;\n"
unfolding digits
a_weight = refl

pub no_more_than_a_weight : generated 1 10 ≡ codes "* #variable= 11 #constraint= 1\n+8 x7 +3 ~x11 +10 ~x2 +4 x6 +7 ~x9 +8 x7 <= 19 ;\n"
unfolding digits
no_more_than_a_weight = refl

-- the second statement is drawn behind the first
pub two_statements : generated 2 4294967295 ≡ codes "* #variable= 12 #constraint= 2\n+16 ~x4 +5 x6 +15 x8 +18 x9 +15 x9 +10 ~x8 +2 x12 <= 19 ;\n+1 x6 +1 x12 +1 ~x1 +1 x8 +1 x2 +1 ~x3 +1 x10 +1 ~x12 >= 4 ;\n"
unfolding digits
two_statements = refl

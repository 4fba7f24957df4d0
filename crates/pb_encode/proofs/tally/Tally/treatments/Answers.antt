use Rattle.pb_encode.proofs.tally.Tally.treatments.Goals as goal

pub returns : goal.returns
returns c = λ o gs few h i. record {
  nothing = c.treated_at.ensures o gs few h i;
  empty = c.treated_at-2.ensures o gs few h i;
  clause = c.treated_at-3.ensures o gs few h i;
  pairwise = c.treated_at-4.ensures o gs few h i;
  ladder = c.treated_at-5.ensures o gs few h i;
  product = c.treated_at-6.ensures o gs few h i;
  counter = c.treated_at-7.ensures o gs few h i;
  totalizer = c.treated_at-8.ensures o gs few h i;
  diagram = c.treated_at-9.ensures o gs few h i;
  tree = c.treated_at-10.ensures o gs few h i;
  adder = c.treated_at-11.ensures o gs few h i;
  joint = c.treated_at-12.ensures o gs few h i;
}

use Rattle.std.proofs.Common.{refl}
use Rattle.figures.proofs.Small as small
use Rattle.figures.proofs.Plan as plan
use Rattle.figures.proofs.figures.Goals as goal

pub returns : goal.returns
returns c = record {
  down_minus_1 = refl;
  down_4095 = refl;
  down_4096 = refl;
  near_2048 = (refl, refl);
  near_minus_2048 = (refl, refl);
  near_minus_2049 = (refl, refl);
  weighs = small.weighs;
  axis_grows = small.axis_grows;
  spread_grows = small.spread_grows;
  halved = small.halved;
  far_accepted = small.far_accepted;
  far_refused = small.far_refused;
  far_read = refl;
  far_not_read = refl;
  sum_is_7 = λ line. refl;
  minus_nought = λ field. refl;
  nought_seven = λ field. refl;
  no_digit = λ field. refl;
  seventeen_digits = λ field. refl;
  badly_is_4 = λ line field place. refl;
  read = plan.read;
  spelt = plan.spelt;
  zonotope = plan.zonotope;
  reach = plan.reach;
  support = plan.support;
  report = plan.report;
}

use Rattle.trials.proofs.exact.+exact.Given as goal

abbrev pub decreases-exact : goal.decreases-exact
decreases-exact l = l.k

-- The three parts are those of Bound's answer, and fit.
use Rattle.host.proofs.Answers.{bound_fits}
use Rattle.host.proofs.foil_bound.Goals as goal

pub pack_bound-requires-clause-a_bound : goal.pack_bound-requires-clause-a_bound
pack_bound-requires-clause-a_bound c = (bound_fits c.bound.ensures).0

pub pack_bound-requires-clause-a_bound_2 : goal.pack_bound-requires-clause-a_bound_2
pack_bound-requires-clause-a_bound_2 c = (bound_fits c.bound.ensures).1

use Rattle.release.proofs.figures.figures_hold.Goals as goal
use Rattle.release.specs.Actions.{ceil, first_amount_of, first_boundary_of, forecast}
use Rattle.std.proofs.Common.{refl}

pub returns : goal.returns
unfolding ceil first_boundary_of first_amount_of forecast
returns c = record { answer = refl; law = refl }

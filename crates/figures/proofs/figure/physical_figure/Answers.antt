use Rattle.figures.proofs.Names.{refl, physical_figure}
use Rattle.figures.proofs.figure.physical_figure.Goals as goal

pub returns : goal.returns
unfolding physical_figure
returns c = refl

-- The law: by induction along the path, each push being one step of the way (`AugmentingPaths`).
use Rattle.flow_net.proofs.AugmentingPaths.{augmented}
use Rattle.flow_net.proofs.laws.augmenting_path.Goals as goal

pub returns : goal.returns
returns c = augmented

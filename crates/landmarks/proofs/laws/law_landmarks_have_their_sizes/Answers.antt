use Rattle.landmarks.proofs.Sizes.{active_are, size_is}
use Rattle.landmarks.proofs.laws.law_landmarks_have_their_sizes.Goals as goal

pub returns-clause-count : goal.returns-clause-count
returns-clause-count c = active_are

pub returns-clause-size : goal.returns-clause-size
returns-clause-size c = size_is

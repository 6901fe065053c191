-- `sizes::sizes` meets its contract: the list of the one-level heap is computed.
use mathlib.Core.Path.{refl}
use Rattle.sizes.specs.Sizes.{one_level_sizes}
use Rattle.sizes.proofs.sizes.Goals as goal

pub returns-in-One : goal.returns-in-One
unfolding one_level_sizes
returns-in-One c = rw c.in-One.is refl

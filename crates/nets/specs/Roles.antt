-- The weights of a transition in a role. Assumes nothing.
use Rattle.std.specs.Prelude.{ℕ}
use Rattle.places.specs.Bags.{Bag}
use Rattle.nets.specs.Meaning.{Meaning}
use Rattle.nets.specs.declared.role.Role.{Role}
use Rattle.nets.specs.declared.role.Role.TheVariants.{Input, Output}

-- the weights of the inputs of t, or of its outputs
abbrev pub weights_in : Meaning → Role → ℕ → Bag
weights_in n Input t = n.input t
weights_in n Output t = n.output t

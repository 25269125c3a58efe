-- What a net answers to a question. Assumes nothing.
use Rattle.std.specs.Prelude.{ℕ, cond}
use Rattle.nets.specs.Meaning.{Meaning}
use Rattle.demo_nets.specs.declared.kinds.Question.{Question}
use Rattle.demo_nets.specs.declared.kinds.Question.TheVariants.{Places, Transitions, Label, Input, Output, Inhibits}

-- the answer, by the meaning of the net; 1 for yes and 0 for no
abbrev pub answered : Meaning → Question → ℕ
answered n Places = n.places
answered n Transitions = n.transitions
answered n (Label t) = n.label t
answered n (Input t p) = n.input t p
answered n (Output t p) = n.output t p
answered n (Inhibits t p) = cond (n.inhibits t p) 1 0

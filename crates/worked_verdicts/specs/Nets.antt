-- The nets of the worked examples. Assumes nothing.
use Rattle.std.specs.Prelude.{List, [], ◌∷◌, Bool, ℕ, eqb, length, get_or}
use Rattle.std.specs.List.{list_any}
use Rattle.nets.specs.Meaning.{Meaning}
use Rattle.bisimulation.specs.Lists.{tokens_of}

-- a transition: its label, the places that it takes tokens from and gives tokens to, and those that inhibit it
pub record Transition : Type 0 where
  pub label : ℕ
  pub takes : List ℕ
  pub gives : List ℕ
  pub inhibited_by : List ℕ

abbrev pub nothing : Transition
nothing = record { label = 0; takes = []; gives = []; inhibited_by = [] }

-- whether a place is in a list
abbrev pub among : List ℕ → ℕ → Bool
among xs p = list_any (λ x. eqb x p) xs

-- the net of a number of places and a list of transitions
abbrev pub net_of : ℕ → List Transition → Meaning
net_of places ts = record {
  places = places;
  transitions = length ts;
  label = λ t. (get_or ts t nothing).label;
  input = λ t. tokens_of (get_or ts t nothing).takes;
  output = λ t. tokens_of (get_or ts t nothing).gives;
  inhibits = λ t. among (get_or ts t nothing).inhibited_by;
}

-- the labels a, b and x, each packed into a number
abbrev pub label_a : ℕ
label_a = 0x6100000000000000

abbrev pub label_b : ℕ
label_b = 0x6200000000000000

abbrev pub label_x : ℕ
label_x = 0x7800000000000000

abbrev arcs : ℕ → List ℕ → List ℕ → List ℕ → Transition
arcs l ins outs inhs = record { label = l; takes = ins; gives = outs; inhibited_by = inhs }

-- p and q; go: a, from p to q; back: b, from q to p
abbrev pub A : Meaning
A = net_of 2 (arcs label_a (0 ∷ []) (1 ∷ []) [] ∷ arcs label_b (1 ∷ []) (0 ∷ []) [] ∷ [])

-- u, v, w and z; g1: a, from u to v; k1: b, from v to w; g2: a, from w to z; k2: b, from z to u
abbrev pub B : Meaning
B = net_of 4 (arcs label_a (0 ∷ []) (1 ∷ []) [] ∷ arcs label_b (1 ∷ []) (2 ∷ []) [] ∷ arcs label_a (2 ∷ []) (3 ∷ []) [] ∷ arcs label_b (3 ∷ []) (0 ∷ []) [] ∷ [])

-- s and h; t: x, from s to s, not while h
abbrev pub C : Meaning
C = net_of 2 (arcs label_x (0 ∷ []) (0 ∷ []) (1 ∷ []) ∷ [])

-- the same without the inhibitor
abbrev pub D : Meaning
D = net_of 2 (arcs label_x (0 ∷ []) (0 ∷ []) [] ∷ [])

-- s; t: x, from s to s, not while s
abbrev pub E : Meaning
E = net_of 1 (arcs label_x (0 ∷ []) (0 ∷ []) (0 ∷ []) ∷ [])

-- s, and no transition
abbrev pub F : Meaning
F = net_of 1 []

-- i and j; t: x, from i and j to i and j
abbrev pub G : Meaning
G = net_of 2 (arcs label_x (0 ∷ 1 ∷ []) (0 ∷ 1 ∷ []) [] ∷ [])

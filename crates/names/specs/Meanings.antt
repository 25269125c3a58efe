-- What a name of the code means: its number, and its bytes. Assumes nothing.
use Rattle.std.specs.Prelude.{ℕ, List}
use Rattle.names.specs.Numbers.{text_in}
use Rattle.names.specs.declared.name.Name.{Name}

-- the number that the name is packed into
abbrev pub number_of : Name → ℕ
number_of n = n.word

-- the bytes of the name
abbrev pub text_of : Name → List ℕ
text_of n = text_in (number_of n)

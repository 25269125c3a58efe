-- How each side is printed: the bytes of its word. Assumes nothing.
use Rattle.std.specs.Prelude.{ℕ, List, codes}
use Rattle.places.specs.declared.Side.{Side}
use Rattle.places.specs.declared.Side.TheVariants.{Left, Right}

abbrev pub side_text : Side → List ℕ
side_text Left = codes "left"
side_text Right = codes "right"

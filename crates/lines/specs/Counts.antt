-- How far a search for a byte goes. Assumes nothing.
use Rattle.std.specs.Prelude.{ℕ, List, ◌==◌}
use Rattle.std.specs.List.{position_or_len, prefix_len}

-- how many bytes stand before the first b
abbrev pub before : ℕ → List ℕ → ℕ
before b xs = position_or_len (λ x. x == b) xs

-- how many bytes in front are b
abbrev pub leads : ℕ → List ℕ → ℕ
leads b xs = prefix_len (λ x. x == b) xs

-- The way back from a number to the name that is packed into it. Assumes nothing.
use Rattle.std.specs.Prelude.{ℕ, zero, suc, ◌/◌, ◌%◌, ◌^◌, Bool, ◌&&◌, List, [], ◌∷◌, ◌==◌}
use Rattle.std.specs.List.{before_first}
use Rattle.names.specs.Names.{valid_name, packed}

-- the k bytes of a number, the highest first
unfoldable pub bytes_in : ℕ → ℕ → List ℕ
bytes_in zero n = []
bytes_in (suc k) n = (n / 256 ^ k) ∷ bytes_in k (n % 256 ^ k)

-- the bytes in front of the first zero byte
abbrev pub before_zero : List ℕ → List ℕ
before_zero bs = before_first (λ b. b == 0) bs

-- the bytes of the name that is packed into a number
abbrev pub text_in : ℕ → List ℕ
text_in n = before_zero (bytes_in 8 n)

-- whether a name is packed into the number
abbrev pub is_packed : ℕ → Bool
is_packed n = valid_name (text_in n) && packed (text_in n) == n

-- A name that was written to 8 bytes. Assumes nothing.
use Rattle.std.specs.Prelude.{◌≡◌, ℕ, ◌-◌, true, List, length, take, drop, replicate}
use Rattle.names.specs.Names.{valid_name, packed}
use Rattle.names.specs.Numbers.{text_in}

-- the first k bytes are the name that is packed into the number n, and the others are 0
pub record Written (n k : ℕ) (bytes : List ℕ) : Type 0 where
  -- k is the length of the name
  pub count : k ≡ length (text_in n)
  pub text : take k bytes ≡ text_in n
  pub valid : valid_name (take k bytes) ≡ true
  pub packs : packed (take k bytes) ≡ n
  pub rest : drop k bytes ≡ replicate (8 - k) 0
  -- they are the bytes of whatever name was packed into n
  pub same : (bs : List ℕ) → valid_name bs ≡ true → packed bs ≡ n → take k bytes ≡ bs

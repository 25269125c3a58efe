-- The laws of names that the crates above use. Assumes nothing.
use Rattle.std.specs.Prelude.{◌≡◌, ℕ, true, ◌==◌}
use Rattle.std.proofs.lemmas.Bool.{and_parts, eqb-true}
use Rattle.names.specs.Names.{valid_name, packed, IsName}
use Rattle.names.specs.Numbers.{text_in, is_packed}
use Rattle.names.specs.Meanings.{number_of}
use Rattle.names.specs.declared.name.Name.{Name}

-- the number of a name of the code has a name packed into it
pub name_is_packed : (n : Name) → is_packed (number_of n) ≡ true
name_is_packed n = n.named

-- the text in a number that a name is packed into
pub text_name : (n : ℕ) → is_packed n ≡ true → (valid_name (text_in n) ≡ true) × (packed (text_in n) ≡ n)
text_name n e = let p = and_parts (valid_name (text_in n)) (packed (text_in n) == n) e in (p.0, eqb-true _ _ p.1)

pub packed_name : (n : ℕ) → is_packed n ≡ true → IsName n
packed_name n e = (text_in n, text_name n e)

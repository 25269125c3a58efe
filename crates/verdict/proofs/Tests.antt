-- Tests that agree.
use Rattle.std.proofs.Common.{◌≡◌, Bool, true, false, sym, refl}

pub bool_same : (a b : Bool) → (a ≡ true → b ≡ true) → (b ≡ true → a ≡ true) → a ≡ b
bool_same true b f g = sym (f refl)
bool_same false true f g = g refl
bool_same false false f g = refl

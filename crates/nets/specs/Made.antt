-- What holds of each element of an array that a closure made: a law that the crates above use. Assumes nothing.
use Rattle.std.proofs.Common.{ℕ, zero, suc, ◌+◌, ◌<◌, ◌≤◌, List, get_or, sym, subst, inl, inr, arith}
use Rattle.std.proofs.lemmas.Bool.{cases_eq}
use Rattle.std.specs.Array.{IsFromFnResultFrom}
use denote.Param.Members.{Mut, Called}

-- K holds of each state of the closure, and P of what a call gives at an index
module _ {F B : Type 0} (g : Mut F (ℕ × Unit {0}) B) (K : F → Type 0) (P : ℕ → B → Type 0) (step : (p : F) → K p → (i : ℕ) (y : B) (q : F) → Called g p (i, tt) y q → K q × P i y) (ys : List B) (d : B) where
  pub made_at : (f : F) (i n : ℕ) → K f → IsFromFnResultFrom g f ys i n → (k : ℕ) → i ≤ k → k < i + n → P k (get_or ys k d)
  made_at f i zero h made k low high = absurd (omega arith)
  made_at f i (suc n) h made k low high =
      let now = step f h i made.1 made.0 made.3 in
      elim (cases_eq i k) [
        | inl e ↦ subst (λ j. P j (get_or ys j d)) e (subst (P i) (sym (made.2.1 d)) now.1)
        | inr other ↦ made_at made.0 (i + 1) n now.0 made.4 k (omega arith) (omega arith)
      ]

-- What is left behind while facts are taken, one by one.
use Rattle.std.specs.Prelude.{◌≡◌, ℕ, suc, ◌<◌, ◌≤◌, Bool, true, false, ◌⊎◌, IsTrue, List, [], ◌∷◌, length, slice_set, slice_index, if◌then◌else◌}
use Rattle.std.specs.List.{Contains}
use Rattle.closure.specs.Facts.{is_set, Derived}

-- how many facts aren't in
abbrev pub missing : List Bool → ℕ
missing [] = 0
missing (true ∷ flags) = missing flags
missing (false ∷ flags) = suc (missing flags)

-- the flags with one fact more, if it wasn't in
unfoldable pub with_fact : List Bool → ℕ → List Bool
with_fact flags fact = if is_set flags fact then flags else slice_set flags fact true

-- What the flags are after some facts were taken, and whether any fact was new. If none was, what each of those facts
-- brings was in before.
pub record Taken (brings : (ℕ → Bool) → ℕ → ℕ → Type 0) (taken : ℕ → Type 0) (before after : List Bool) (new : Bool) : Type 0 where
  pub one_each : length after ≡ length before
  pub sound : (fact : ℕ) → IsTrue (is_set after fact) → Derived brings (λ known. IsTrue (is_set before known)) fact
  pub stays : (fact : ℕ) → IsTrue (is_set before fact) → IsTrue (is_set after fact)
  pub fewer : missing after ≤ missing before
  pub grows : new ≡ true → missing after < missing before
  pub same : new ≡ false → after ≡ before
  pub closed : new ≡ false → (fact c : ℕ) → taken fact → IsTrue (is_set before fact) → brings (is_set before) fact c → IsTrue (is_set before c)

-- What the flags are after the first n of some facts were put in, and whether any of these was new.
pub record Puts (facts : List ℕ) (n : ℕ) (before after : List Bool) (new : Bool) : Type 0 where
  pub one_each : length after ≡ length before
  pub keeps : (fact : ℕ) → IsTrue (is_set before fact) → IsTrue (is_set after fact)
  pub puts : (k : ℕ) → k < n → IsTrue (is_set after (slice_index facts k))
  pub only : (fact : ℕ) → IsTrue (is_set after fact) → IsTrue (is_set before fact) ⊎ Contains facts fact
  pub fewer : missing after ≤ missing before
  pub grows : new ≡ true → missing after < missing before
  pub same : new ≡ false → after ≡ before

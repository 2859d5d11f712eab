-- Facts that rules bring, and the sets that are closed under rules. A fact is a number below a bound, the universe, and a
-- set of facts is a test. What rules bring is a relation: `brings have fact c` says that where all of the set `have` is
-- known, `fact` brings `c`. A rule with several premises is brought by one of them, which finds the others in `have`.
use Rattle.std.specs.Prelude.{ℕ, ◌<◌, Bool, false, IsTrue, List, slice_get, unwrap_or}
use Rattle.il_base.specs.declared.bits.Bits.{Bits}

-- a flag for each number; past the last none is set
abbrev pub is_set : List Bool → ℕ → Bool
is_set flags fact = unwrap_or (slice_get flags fact) false

-- the set that bits stand for
abbrev pub facts_in : Bits → ℕ → Bool
facts_in bits = is_set bits.flags

-- What follows from the roots: they themselves, and what a fact that follows brings where only facts that follow are known.
pub data Derived (brings : (ℕ → Bool) → ℕ → ℕ → Type 0) (roots : ℕ → Type 0) : ℕ → Type 0 where
  root : {fact : ℕ} → roots fact → Derived brings roots fact
  brought : {fact c : ℕ} (have : ℕ → Bool) → ((known : ℕ) → IsTrue (have known) → Derived brings roots known) → Derived brings roots fact → brings have fact c → Derived brings roots c

-- each root is in the set
abbrev pub HoldsRoots : (ℕ → Type 0) → (ℕ → Bool) → Type 0
HoldsRoots roots set = (fact : ℕ) → roots fact → IsTrue (set fact)

-- what a fact of the set brings, where the set is known, is in the set
abbrev pub IsClosed : ((ℕ → Bool) → ℕ → ℕ → Type 0) → (ℕ → Bool) → Type 0
IsClosed brings set = (fact c : ℕ) → IsTrue (set fact) → brings set fact c → IsTrue (set c)

-- every fact of the first set is in the second
abbrev pub IsWithin : (ℕ → Bool) → (ℕ → Bool) → Type 0
IsWithin few many = (fact : ℕ) → IsTrue (few fact) → IsTrue (many fact)

-- the set is within every closed set that holds the roots
abbrev pub IsLeast : ((ℕ → Bool) → ℕ → ℕ → Type 0) → (ℕ → Type 0) → (ℕ → Bool) → Type 0
IsLeast brings roots set = (other : ℕ → Bool) → HoldsRoots roots other → IsClosed brings other → IsWithin set other

-- every fact of the set is below the universe
abbrev pub IsBelow : ℕ → (ℕ → Bool) → Type 0
IsBelow universe set = (fact : ℕ) → IsTrue (set fact) → fact < universe

-- What the laws of `blob_grammar` say of a grammar, of what its blobs give, and of the spelling that is written.
use Rattle.std.specs.Prelude.{◌≡◌, ◌⊎◌, ℕ, suc, ◌<◌, ◌≤◌, List, [], ◌∷◌, ◌++◌, length, take, drop, slice_index, Result, Ok, Err}

-- The bytes of a list are numbers below 256.
abbrev pub AreBytes : List ℕ → Type 0
AreBytes bytes = (i : ℕ) → slice_index bytes i < 256

-- a value has a spelling
abbrev pub IsSpelled : {A : Type 0} → (A → List ℕ → Type 0) → A → Type 0
IsSpelled grammar x = (bytes : List ℕ) × grammar x bytes

-- The first byte that no value allows, or the blob's end where it ends too early: some value's spelling begins with
-- the bytes before it, and none with these bytes and it.
pub record IsFirstBad {A : Type 0} (grammar : A → List ℕ → Type 0) (bytes : List ℕ) (at : ℕ) : Type 0 where
  pub within : at ≤ length bytes
  pub begun : (x : A) × (more : List ℕ) × grammar x (take at bytes ++ more)
  pub never : (x : A) (other : List ℕ) → grammar x other → take (suc at) other ≡ take (suc at) bytes → ⊥

-- The bytes begin with a float: R4 is 12 and R8 13.
abbrev pub IsFloat : List ℕ → Type 0
IsFloat [] = ⊥
IsFloat (b ∷ _) = (b ≡ 12) ⊎ (b ≡ 13)

-- What the number of a fault says of the bytes from its place on: 1 that a float is there, 5 nothing.
abbrev pub IsKind : ℕ → List ℕ → Type 0
IsKind what bytes = (what ≡ 5) ⊎ ((what ≡ 1) × IsFloat bytes)

-- Blobs give what the grammar relates them to, and else the first byte that no value allows.
pub record Reads {A : Type 0} (grammar : A → List ℕ → Type 0) (read : List ℕ → Result A (ℕ × ℕ)) : Type 0 where
  pub found : (bytes : List ℕ) (x : A) → AreBytes bytes → read bytes ≡ Ok x → grammar x bytes
  pub only : (bytes : List ℕ) (x : A) → grammar x bytes → read bytes ≡ Ok x
  pub refused : (bytes : List ℕ) (at what : ℕ) → AreBytes bytes → read bytes ≡ Err (at, what) → IsFirstBad grammar bytes at
  pub kind : (bytes : List ℕ) (at what : ℕ) → AreBytes bytes → read bytes ≡ Err (at, what) → IsKind what (drop at bytes)

-- Each value that has a spelling is written in one of its spellings, and read again from it.
pub record Writes {A : Type 0} (grammar : A → List ℕ → Type 0) (read : List ℕ → Result A (ℕ × ℕ)) (write : A → List ℕ) : Type 0 where
  pub spelled : (x : A) → IsSpelled grammar x → grammar x (write x)
  pub again : (x : A) → IsSpelled grammar x → read (write x) ≡ Ok x

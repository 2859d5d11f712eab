-- What a call answers, by what its bytes give.
use Rattle.std.specs.Prelude.{◌≡◌, ℕ, ◌<◌, ◌++◌, List, length, All, Result, Ok, Err}
use Rattle.il_base.specs.declared.sig.Sig.{Sig}
use Rattle.il_base.specs.blob_grammar.Laws.{IsSpelled}
use Rattle.il_base.specs.blob_grammar.Signatures.{IsType}
use Rattle.il_base.specs.blob_grammar.Reading.{Fault}
use Rattle.sig_blobs.specs.declared.error.SigError.{SigError}
use Rattle.sig_blobs.specs.declared.error.SigError.TheVariants as sig_error
use Rattle.sig_blobs.specs.declared.error.Unread.{Unread}
use Rattle.sig_blobs.specs.declared.error.Unread.TheVariants as unread

-- A refused part is what reading gives, unless memory ran out.
abbrev pub Fails : {Y : Type 0} → Unread → Result Y Fault → Type 0
Fails unread.Exhausted read = Unit {0}
Fails (unread.Bad left what) read = read ≡ Err (left, what)

-- What a part returned, seen by view, is what reading gives, unless memory ran out.
abbrev pub Gives : {X Y : Type 0} → (X → Y) → Result X Unread → Result Y Fault → Type 0
Gives view (Ok x) read = read ≡ Ok (view x)
Gives view (Err e) read = Fails e read

-- A call answers what its bytes give, unless memory ran out.
abbrev pub Answers : {X : Type 0} → Result X SigError → Result X (ℕ × ℕ) → Type 0
Answers (Ok x) read = read ≡ Ok x
Answers (Err sig_error.NoMemory) read = Unit {0}
Answers (Err (sig_error.Bad at what)) read = read ≡ Err (at, what)

-- a type has a spelling where at most `room` constructs that hold a type may open
abbrev pub HasSpelling : ℕ → Sig → Type 0
HasSpelling room s = IsSpelled (IsType room) s

-- so do types, of which there are few enough for a count
abbrev pub HaveSpellings : ℕ → List Sig → Type 0
HaveSpellings room ss = (length ss < 536870912) × All (HasSpelling room) ss

-- what a write leaves that fails on the way
pub record Extends (old new : List ℕ) : Type 0 where
  pub more : List ℕ
  pub is_behind : new ≡ old ++ more

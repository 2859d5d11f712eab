-- The effects of calls on the known state of a folder: the bytes under each name, and its faults.
use Rattle.std.specs.Prelude.{◌≡◌, ◌≢◌, ℕ, List, take, Option, Some, None, Result, Ok, Err, ⊤, ◌⊎◌}
use Rattle.il_outside.specs.declared.folder.FolderError.{FolderError}
use Rattle.il_outside.specs.declared.folder.FolderError.TheVariants.{Failed, NoMemory}
use Rattle.il_outside.specs.Faults.{Rose}

-- the bytes under each name, as far as there are any
abbrev pub Files : Type 0
Files = List ℕ → Option (List ℕ)

-- The known state of a folder. Names are the bytes of their texts.
pub record FolderState : Type 0 where
  -- None where the folder doesn't tell what it holds
  pub files : Option Files
  -- how many calls of `read` failed, and of `write`
  pub read_faults : ℕ
  pub write_faults : ℕ
  -- the name of the last call that failed
  pub failed : Option (List ℕ)

-- one fact where a call failed, another where it went well or memory was short
abbrev pub OnFailed : {T : Type 0} → Result T FolderError → Type 0 → Type 0 → Type 0
OnFailed (Ok x) P Q = Q
OnFailed (Err Failed) P Q = P
OnFailed (Err NoMemory) P Q = Q

-- two folders hold the same under every name
abbrev pub SameFiles : Files → Files → Type 0
SameFiles old new = (name : List ℕ) → new name ≡ old name

-- two folders hold the same under every other name
abbrev pub SameOthers : Files → Files → List ℕ → Type 0
SameOthers old new name = (other : List ℕ) → other ≢ name → new other ≡ old other

-- under this name stands what was there, or a prefix of the bytes
abbrev pub LeavesPrefix : Files → Files → List ℕ → List ℕ → Type 0
LeavesPrefix old new name bytes = (new name ≡ old name) ⊎ ((n : ℕ) × (new name ≡ Some (take n bytes)))

-- the known files stay as they were
abbrev pub KeepsFiles : Option Files → Option Files → Type 0
KeepsFiles None new = ⊤
KeepsFiles (Some f) None = ⊥
KeepsFiles (Some f) (Some g) = SameFiles f g

-- the known files have these bytes under this name
abbrev pub Tells : Option Files → List ℕ → List ℕ → Type 0
Tells None name bytes = ⊤
Tells (Some f) name bytes = f name ≡ Some bytes

-- what a call of `write` leaves: the bytes under this name where it went well, a prefix of them or what was there where
-- it failed, and what was there where memory was short. Other names stay.
abbrev pub Writes : Files → Files → List ℕ → List ℕ → Result Unit FolderError → Type 0
Writes f g name bytes (Ok x) = (g name ≡ Some bytes) × SameOthers f g name
Writes f g name bytes (Err Failed) = LeavesPrefix f g name bytes × SameOthers f g name
Writes f g name bytes (Err NoMemory) = SameFiles f g

abbrev pub WritesFile : Option Files → Option Files → List ℕ → List ℕ → Result Unit FolderError → Type 0
WritesFile None new name bytes r = ⊤
WritesFile (Some f) None name bytes r = ⊥
WritesFile (Some f) (Some g) name bytes r = Writes f g name bytes r

-- no count and no name changed
abbrev pub NoFault : FolderState → FolderState → Type 0
NoFault old new = (new.read_faults ≡ old.read_faults) × (new.write_faults ≡ old.write_faults) × (new.failed ≡ old.failed)

-- A read fails exactly where the count of reads rises: then the failed name is its own, and the count of writes stays.
abbrev pub ReadFaults : {T : Type 0} → FolderState → FolderState → List ℕ → Result T FolderError → Type 0
ReadFaults old new name r =
    OnFailed r (Rose old.read_faults new.read_faults × (new.write_faults ≡ old.write_faults) × (new.failed ≡ Some name)) (NoFault old new)

-- A write fails exactly where the count of writes rises: then the failed name is its own, and the count of reads stays.
abbrev pub WriteFaults : {T : Type 0} → FolderState → FolderState → List ℕ → Result T FolderError → Type 0
WriteFaults old new name r =
    OnFailed r (Rose old.write_faults new.write_faults × (new.read_faults ≡ old.read_faults) × (new.failed ≡ Some name)) (NoFault old new)

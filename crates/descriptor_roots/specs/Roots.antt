-- What the descriptors of a trim keep, or the first that can't be read: first those that inputs have embedded, then the named files.
use Rattle.std.specs.Prelude.{◌≡◌, ℕ, suc, List, [], ◌∷◌, ◌++◌, length, map, nat_le, Option, Some, None, Result, Ok, Err, if◌then◌else◌}
use Rattle.il_base.specs.declared.world_model.record.AsmRec.{AsmRec}
use Rattle.descriptor_file.specs.declared.root.Root.{Root}
use Rattle.descriptor_file.specs.Reading.{descriptor_of}
use Rattle.descriptor_roots.specs.declared.error.RootsError.{RootsError}
use Rattle.descriptor_roots.specs.declared.error.RootsError.TheVariants.{Bad, NoMemory}

-- the most bytes of a named descriptor
abbrev pub most_bytes : ℕ
most_bytes = 1048576

-- the length of the first named descriptor that is too long
unfoldable pub long_descriptor : List (List ℕ) → Option ℕ
long_descriptor [] = None
long_descriptor (d ∷ ds) = if nat_le (length d) most_bytes then long_descriptor ds else Some (length d)

-- ---- one descriptor, by its number

abbrev pub from_source : ℕ → Root → Root
from_source i root = record root { source = i }

abbrev pub roots_read : ℕ → Result (List Root) ℕ → List Root
roots_read i (Ok roots) = map (from_source i) roots
roots_read i (Err at) = []

abbrev pub fault_read : ℕ → Result (List Root) ℕ → Option RootsError
fault_read i (Ok roots) = None
fault_read i (Err at) = Some (Bad i at)

abbrev pub roots_in : ℕ → Option (List ℕ) → List Root
roots_in i None = []
roots_in i (Some d) = roots_read i (descriptor_of d)

abbrev pub fault_in : ℕ → Option (List ℕ) → Option RootsError
fault_in i None = None
fault_in i (Some d) = fault_read i (descriptor_of d)

-- ---- several, of which the first has the number i; None stands for an input that has none

abbrev pub or_fault : Option RootsError → Option RootsError → Option RootsError
or_fault (Some e) later = Some e
or_fault None later = later

unfoldable pub roots_from : ℕ → List (Option (List ℕ)) → List Root
roots_from i [] = []
roots_from i (d ∷ ds) = roots_in i d ++ roots_from (suc i) ds

unfoldable pub fault_from : ℕ → List (Option (List ℕ)) → Option RootsError
fault_from i [] = None
fault_from i (d ∷ ds) = or_fault (fault_in i d) (fault_from (suc i) ds)

-- ---- those of a trim: input by input, and then the named ones

abbrev pub embedded : List AsmRec → List (Option (List ℕ))
embedded inputs = map (λ (rec : AsmRec). rec.descriptor) inputs

abbrev pub given : List (List ℕ) → List (Option (List ℕ))
given named = map (λ d. Some d) named

-- the elements of all descriptors, where each can be read
abbrev pub roots_of : List AsmRec → List (List ℕ) → List Root
roots_of inputs named = roots_from 0 (embedded inputs) ++ roots_from (length inputs) (given named)

-- why the first that can't be read isn't
abbrev pub descriptor_fault : List AsmRec → List (List ℕ) → Option RootsError
descriptor_fault inputs named = or_fault (fault_from 0 (embedded inputs)) (fault_from (length inputs) (given named))

-- what a read of them answers; want of memory is free
abbrev pub ReadsRoots : List AsmRec → List (List ℕ) → Result (List Root) RootsError → Type 0
ReadsRoots inputs named (Ok roots) = (descriptor_fault inputs named ≡ None) × (roots ≡ roots_of inputs named)
ReadsRoots inputs named (Err NoMemory) = Unit {0}
ReadsRoots inputs named (Err e) = descriptor_fault inputs named ≡ Some e

-- ---- parts of it, as the code goes through them

-- roots are put after others, unless a fault is there
abbrev pub Adds : Option RootsError → List Root → List Root → List Root → Result Unit RootsError → Type 0
Adds fault more old new (Ok tt) = (fault ≡ None) × (new ≡ old ++ more)
Adds fault more old new (Err NoMemory) = Unit {0}
Adds fault more old new (Err e) = fault ≡ Some e

abbrev pub AddsOne : ℕ → Option (List ℕ) → List Root → List Root → Result Unit RootsError → Type 0
AddsOne i d old new r = Adds (fault_in i d) (roots_in i d) old new r

abbrev pub AddsFrom : ℕ → List (Option (List ℕ)) → List Root → List Root → Result Unit RootsError → Type 0
AddsFrom i ds old new r = Adds (fault_from i ds) (roots_from i ds) old new r

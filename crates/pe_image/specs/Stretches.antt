-- Stretches of memory in ascending order: of each, where it begins and the first section that holds it (II.25.3).
use Rattle.std.specs.Prelude.{◌≡◌, ℕ, ◌≤◌, Bool, true, false, nat_le, nat_lt, List, [], ◌∷◌, Option, None, if◌then◌else◌}
use Rattle.std.specs.Option.{option_or}
use Rattle.il_base.specs.declared.cli_format.section.Section.{Section}
use Rattle.il_base.specs.cli_format.Image.{sections_from, section_of}
use Rattle.pe_image.specs.declared.stretches.Stretch.{Stretch}

-- the section at an RVA among stretches, after one whose section is known
unfoldable pub found : Option Section → List Stretch → ℕ → Option Section
found section [] rva = section
found section (x ∷ xs) rva = if nat_lt rva x.from then section else found x.section xs rva

-- each stretch begins at a number or after it, and where the one before begins or after that
unfoldable pub AreAscending : ℕ → List Stretch → Type 0
AreAscending low [] = Unit {0}
AreAscending low (x ∷ xs) = (low ≤ x.from) × AreAscending x.from xs

-- ---- two lists of stretches, one laid over the other: what the upper one holds counts

-- a stretch from a number on, with its sections in both
abbrev pub both : ℕ → Option Section → Option Section → Stretch
both from upper lower = record { from = from; section = option_or upper lower }

-- whether the next stretch of both is the upper list's
unfoldable pub is_upper_next : List Stretch → List Stretch → Bool
is_upper_next [] ys = false
is_upper_next (x ∷ xs) [] = true
is_upper_next (x ∷ xs) (y ∷ ys) = nat_le x.from y.from

-- the lower list alone, where one section of the upper list holds all of it
unfoldable pub under : Option Section → List Stretch → List Stretch
under upper [] = []
under upper (y ∷ ys) = both y.from upper y.section ∷ under upper ys

-- the lower list up to the next stretch of the upper one, and then what `rest` says of what is left of it
unfoldable pub until : Stretch → (Option Section → List Stretch → List Stretch) → Option Section → Option Section → List Stretch → List Stretch
until x rest upper lower [] = both x.from x.section lower ∷ rest lower []
until x rest upper lower (y ∷ ys) =
    if nat_le x.from y.from then both x.from x.section lower ∷ rest lower (y ∷ ys)
    else both y.from upper y.section ∷ until x rest upper y.section ys

-- both lists, each after a stretch whose section is known
unfoldable pub overlay : Option Section → List Stretch → Option Section → List Stretch → List Stretch
overlay upper [] lower ys = under upper ys
overlay upper (x ∷ xs) lower ys = until x (overlay x.section xs) upper lower ys

-- ---- the stretches of sections

-- Stretches show at each RVA the first of the n sections from number i on that holds it.
abbrev pub Show : List ℕ → ℕ → ℕ → List Stretch → Type 0
Show bs n i stretches = (rva : ℕ) → found None stretches rva ≡ section_of (sections_from bs n i) rva

-- And they ascend.
pub record AreOf (bs : List ℕ) (n i : ℕ) (stretches : List Stretch) : Type 0 where
  pub shown : Show bs n i stretches
  pub order : AreAscending 0 stretches

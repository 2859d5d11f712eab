-- Kinds of members, the values of System.Diagnostics.CodeAnalysis.DynamicallyAccessedMemberTypes: a bit each, but that the
-- public constructors hold the one without parameters. All is every bit.
use Rattle.std.specs.Prelude.{ℕ, ◌==◌, ◌||◌, List, [], ◌∷◌, Option, Some, None, codes, nat_le, if◌then◌else◌}

abbrev pub kinds : List (List ℕ × ℕ)
kinds =
    (codes "PUBLIC_PARAMETERLESS_CONSTRUCTOR", 0x1)
    ∷ (codes "PUBLIC_CONSTRUCTORS", 0x3)
    ∷ (codes "NON_PUBLIC_CONSTRUCTORS", 0x4)
    ∷ (codes "PUBLIC_METHODS", 0x8)
    ∷ (codes "NON_PUBLIC_METHODS", 0x10)
    ∷ (codes "PUBLIC_FIELDS", 0x20)
    ∷ (codes "NON_PUBLIC_FIELDS", 0x40)
    ∷ (codes "PUBLIC_NESTED_TYPES", 0x80)
    ∷ (codes "NON_PUBLIC_NESTED_TYPES", 0x100)
    ∷ (codes "PUBLIC_PROPERTIES", 0x200)
    ∷ (codes "NON_PUBLIC_PROPERTIES", 0x400)
    ∷ (codes "PUBLIC_EVENTS", 0x800)
    ∷ (codes "NON_PUBLIC_EVENTS", 0x1000)
    ∷ (codes "INTERFACES", 0x2000)
    ∷ (codes "ALL", 0xffffffff)
    ∷ []

-- the bits of a number that stands for a set: those of the kinds, or all
abbrev pub set_of_number : ℕ → Option ℕ
set_of_number n = if nat_le n 0x3fff || n == 0xffffffff then Some n else None

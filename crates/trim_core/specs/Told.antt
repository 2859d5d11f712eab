-- The refusals of files and descriptors that make no program to be trimmed.
use Rattle.std.specs.Prelude.{◌≡◌, ℕ, List, [], ◌∷◌, Option, Some, None}
use Rattle.std.specs.Option.{option_map}
use Rattle.il_base.specs.declared.limit.TheConstants as limit
use Rattle.il_base.specs.declared.table.TheConstants.{METHOD_DEF}
use Rattle.il_base.specs.declared.world_model.record.AsmRec.{AsmRec}
use Rattle.il_base.specs.world_model.Tokens.{index_in}
use Rattle.rules.specs.declared.link_rules.row_at.RowAt.{RowAt}
use Rattle.rules.specs.link_rules.Types.{at_row}
use Rattle.inputs.specs.declared.error.InputError.{InputError}
use Rattle.inputs.specs.declared.error.InputError.TheVariants as input
use Rattle.inputs.specs.Files.{limit_fault, input_fault, records}
use Rattle.descriptor_roots.specs.declared.error.RootsError.{RootsError}
use Rattle.descriptor_roots.specs.declared.error.RootsError.TheVariants as roots
use Rattle.descriptor_roots.specs.Roots.{long_descriptor, descriptor_fault}
use Rattle.trim_core.specs.declared.answers.Refusal.{Refusal}
use Rattle.trim_core.specs.declared.answers.Refusal.TheVariants.{BadFile, BadDescriptor, Limit, NoEntry, NoMemory}

-- ---- refusals of the parts, as they are answered

abbrev pub input_refusal : InputError → Refusal
input_refusal (input.Limit which found) = Limit which found
input_refusal (input.BadFile file at) = BadFile file at
input_refusal (input.NoEntry token) = NoEntry token
input_refusal input.NoMemory = NoMemory

abbrev pub too_long : ℕ → Refusal
too_long found = Limit limit.DESCRIPTOR_LENGTH found

abbrev pub roots_refusal : RootsError → Refusal
roots_refusal (roots.Bad source offset) = BadDescriptor source offset
roots_refusal roots.NoMemory = NoMemory

-- ---- the first refusal

abbrev pub or_refusal : Option Refusal → Option Refusal → Option Refusal
or_refusal (Some due) later = Some due
or_refusal None later = later

-- the first refusal of files whose number and lengths are within the limits
abbrev pub short_fault : List (List ℕ) → List (List ℕ) → Option Refusal
short_fault files descriptors =
    or_refusal (option_map too_long (long_descriptor descriptors))
    (or_refusal (option_map input_refusal (input_fault files))
    (option_map roots_refusal (descriptor_fault (records files) descriptors)))

-- The first refusal, in this order: the limits on files, the limit on the length of a named descriptor, the demands on each file,
-- those of linking, the entry point, the descriptors. Embedded descriptors come before named ones. (`input_fault` checks limits
-- again, of which none is passed.)
unfoldable pub trim_fault : List (List ℕ) → List (List ℕ) → Option Refusal
trim_fault files descriptors = or_refusal (option_map input_refusal (limit_fault files)) (short_fault files descriptors)

-- ---- the entry

-- the entry method: that of the first file (II.25.3.3.2)
abbrev pub entry_row : List AsmRec → Option RowAt
entry_row [] = None
entry_row (rec ∷ recs) = option_map (at_row 0) (index_in METHOD_DEF rec.entry)

-- ---- answers

-- the refusal of a call is the one that is due, or want of memory
abbrev pub RefusedBy : Refusal → Refusal → Type 0
RefusedBy due NoMemory = Unit {0}
RefusedBy due answer = due ≡ answer

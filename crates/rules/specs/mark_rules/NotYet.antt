-- Marked methods that name members of reflection of whose use a trim says nothing yet: those that search for types or members, and
-- those that call, read or set what was found. A member that only looks at types isn't among them.
use Rattle.std.specs.Prelude.{◌≡◌, ◌≤◌, ℕ, List, Option, Some, None, Bool, true, false, not, ◌&&◌}
use Rattle.std.specs.List.{list_any}
use Rattle.std.specs.Option.{option_and_then}
use Rattle.il_base.specs.declared.ids.MethodId.{MethodId}
use Rattle.il_base.specs.declared.world_model.known.Known.{Known}
use Rattle.il_base.specs.declared.world_model.known.Known.TheVariants.{Good, Bad}
use Rattle.il_base.specs.declared.world_model.record.AsmRec.{AsmRec}
use Rattle.il_base.specs.declared.core_table.kinds.OwnedMethod.{OwnedMethod}
use Rattle.il_base.specs.core_table.Kinds.{kind_at, core_row, member_of, is_reflective, looks_at_types}
use Rattle.rules.specs.declared.link_rules.row_at.RowAt.{RowAt}
use Rattle.rules.specs.link_rules.Types.{at_row}
use Rattle.rules.specs.link_rules.Cycles.{listed}
use Rattle.rules.specs.mark_rules.Facts.{Fact}
use Rattle.rules.specs.mark_rules.Places.{marks_method}
use Rattle.rules.specs.mark_rules.Naming.{Named, Part}
use Rattle.rules.specs.mark_rules.Naming.Named.{type, method, field}
use Rattle.rules.specs.mark_rules.Calls.{parts_of_method}

-- ---- the members

-- a member of reflection that does more than look at types
abbrev pub does_more : OwnedMethod → Bool
does_more m = is_reflective m && not (looks_at_types m)

-- the member of the core library that a method is; None for a method of an input
abbrev pub core_member : List AsmRec → MethodId → Option OwnedMethod
core_member recs m = option_and_then member_of (kind_at (core_row recs m.0))

unfoldable pub is_reflection : List AsmRec → MethodId → Bool
is_reflection recs m = list_any does_more (listed (core_member recs m))

-- ---- operands: of a method's parts its operands alone name methods

abbrev pub names_reflection : List AsmRec → Named → Bool
names_reflection recs (type e) = false
names_reflection recs (method u) = is_reflection recs u.method
names_reflection recs (field u) = false

abbrev pub is_operand : List AsmRec → Part → Bool
is_operand recs p = by_known p.named
  where
    by_known : Known Named → Bool
    by_known (Good n) = names_reflection recs n
    by_known (Bad why) = false

-- whether the method in a row has such an operand
unfoldable pub has_operand : List AsmRec → RowAt → Bool
has_operand recs at = list_any (is_operand recs) (parts_of_method recs at)

-- ---- the first

-- a marked method of an assembly has such an operand, where `holds` says which facts hold
pub record IsNotYet (recs : List AsmRec) (holds : Fact → Type 0) (asm : ℕ) : Type 0 where
  pub row : ℕ
  pub is_marked : holds (marks_method recs (at_row asm row))
  pub has : has_operand recs (at_row asm row) ≡ true

-- The assembly of the first of these operands, by assembly, token and offset: the first assembly that has one. None where none has.
abbrev pub IsFirstNotYet : List AsmRec → (Fact → Type 0) → Option ℕ → Type 0
IsFirstNotYet recs holds None = (asm : ℕ) → IsNotYet recs holds asm → ⊥
IsFirstNotYet recs holds (Some asm) = IsNotYet recs holds asm × ((other : ℕ) → IsNotYet recs holds other → asm ≤ other)

-- The output has the name of the first input, which is none of the core library's, and one row for each kept type.
use Rattle.std.proofs.Common.{◌≡◌, ◌<◌, List, [], ◌∷◌, ◌++◌, length, map, Bool, true, false, Option, Some, None, refl, sym, ap, ◌∙◌, arith}
use Rattle.std.specs.Prelude.{slice_get, if◌then◌else◌}
use Rattle.std.specs.List.{list_any}
use Rattle.std.proofs.lemmas.Bool.{or_parts}
use Rattle.il_base.specs.declared.world_model.assemblies.AssemblyRow.{AssemblyRow}
use Rattle.il_base.specs.declared.world_model.record.AsmRec.{AsmRec}
use Rattle.il_base.specs.world_model.Core.{same_name, is_core_name}
use Rattle.il_base.specs.world_model.Worlds.{types_in}
use Rattle.rules.specs.declared.link_rules.row_at.RowAt.{RowAt}
use Rattle.rules.specs.link_rules.Types.{or_else}
use Rattle.rules.specs.link_rules.Faults.{name_in, own_name, is_taken, taken_from, duplicate_assembly, cyclic_types, cyclic_nesting, duplicate_member, link_fault}
use Rattle.rules.specs.mark_rules.Places.{type_item}
use Rattle.base_laws.proofs.lemmas.type_laws.Within.{In}
use Rattle.rules.specs.merge_rules.Numbers.{Kept, kept_types}
use Rattle.rules.specs.merge_rules.Refs.{Output}
use Rattle.rules.specs.merge_rules.Moved.{moved_type_row}
use Rattle.rules.specs.merge_rules.Restricted.{moved_assembly}
use Rattle.merge_laws.proofs.lemmas.merged_references.Left.{IsLeft, left_own, left_types}
use Rattle.merge_laws.proofs.lemmas.merged_references.Kept.{IsRow, kept_is, each_length}

-- ---- the name

first_none : {A : Type 0} (x y : Option A) → or_else x y ≡ None → x ≡ None
first_none None y e = refl
first_none (Some x) y e = cc

not_taken_by : {A : Type 0} (x : A) (o : Option A) (b : Bool) → (if b then Some x else o) ≡ None → b ≡ false
not_taken_by x o true e = cc
not_taken_by x o false e = refl

free_name : (recs : List AsmRec) (first : AsmRec) → duplicate_assembly recs ≡ None → slice_get recs 0 ≡ Some first → is_core_name (own_name first) ≡ false
unfolding duplicate_assembly
free_name [] first e f = cc
free_name (rec ∷ recs) first e f =
    let same : rec ≡ first = cc in
    let taken : is_taken [] (own_name rec) ≡ false = not_taken_by _ (taken_from (own_name rec ∷ []) 1 recs) (is_taken [] (own_name rec)) e in
    ap (λ (r : AsmRec). is_core_name (own_name r)) (sym same) ∙ (or_parts (is_core_name (own_name rec)) (list_any (same_name (own_name rec)) []) taken).0

pub first_free : (all inputs : List AsmRec) (first : AsmRec) → link_fault all inputs ≡ None → slice_get inputs 0 ≡ Some first → is_core_name (own_name first) ≡ false
unfolding link_fault
first_free all inputs first e f = free_name inputs first (first_none (duplicate_assembly inputs) (or_else (cyclic_types all inputs) (or_else (cyclic_nesting inputs) (duplicate_member all inputs))) e) f

name_moved : (rows : List AssemblyRow) → name_in (map moved_assembly rows) ≡ name_in rows
name_moved [] = refl
name_moved (row ∷ rows) = refl

first_of : (inputs : List AsmRec) (core : AsmRec) → 0 < length inputs → slice_get (inputs ++ core ∷ []) 0 ≡ slice_get inputs 0
first_of [] core lt = absurd (omega arith)
first_of (rec ∷ recs) core lt = refl

module _ (internal : Bool) (inputs : List AsmRec) (core : AsmRec) (kept : Kept) (o : Output) (left : AsmRec) (of : o.recs ≡ inputs ++ core ∷ []) (l : IsLeft internal o left) where
  pub own_free : 0 < length inputs → link_fault (inputs ++ core ∷ []) inputs ≡ None → is_core_name (own_name left) ≡ false
  own_free some links =
      ap (λ (rows : List AssemblyRow). is_core_name (name_in rows)) (left_own internal o left l)
      ∙ ap is_core_name (name_moved l.primary.assembly)
      ∙ first_free (inputs ++ core ∷ []) inputs l.primary links (sym (first_of inputs core some) ∙ ap (λ (rs : List AsmRec). slice_get rs 0) (sym of) ∙ l.first)

-- ---- the types

pub types_stand : (recs : List AsmRec) (kept : Kept) (at : RowAt) → In at (kept_types recs kept) → IsRow types_in recs at
unfolding kept_types
types_stand recs kept at h = kept_is types_in recs (type_item recs) kept at h

pub types_count : (internal : Bool) (o : Output) (left : AsmRec) → IsLeft internal o left → length left.type_def ≡ length (kept_types o.recs o.kept)
types_count internal o left l =
    ap length (left_types internal o left l) ∙ each_length o.recs (λ rec. rec.type_def) (moved_type_row internal o) (kept_types o.recs o.kept) (types_stand o.recs o.kept)

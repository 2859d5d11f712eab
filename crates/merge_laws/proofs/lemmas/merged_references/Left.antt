-- The tables of a restricted record that references are looked up in.
use Rattle.std.proofs.Common.{◌≡◌, List, map, Option, Some, None, Bool, refl, ap}
use Rattle.std.specs.Prelude.{slice_get}
use Rattle.std.specs.Option.{option_map}
use Rattle.il_base.specs.declared.world_model.record.AsmRec.{AsmRec}
use Rattle.rules.specs.merge_rules.Numbers.{Kept, kept_types, kept_fields}
use Rattle.rules.specs.merge_rules.Refs.{Output, type_ref_rows, type_spec_rows, member_ref_rows, method_spec_rows, locals_rows, assembly_refs}
use Rattle.rules.specs.merge_rules.Moved.{moved_type_row, moved_field_row}
use Rattle.rules.specs.merge_rules.Restricted.{each_at, moved_assembly, moved_methods, placed_methods, restricted_by, output_of, restricted}

pub record IsLeft (internal : Bool) (o : Output) (left : AsmRec) : Type 0 where
  pub primary : AsmRec
  pub first : slice_get o.recs 0 ≡ Some primary
  pub is : left ≡ restricted_by internal o (placed_methods (moved_methods o)) primary

left_by : (internal : Bool) (o : Output) (left : AsmRec) (first : Option AsmRec) → slice_get o.recs 0 ≡ first
    → option_map (restricted_by internal o (placed_methods (moved_methods o))) first ≡ Some left → IsLeft internal o left
left_by internal o left None e f = cc
left_by internal o left (Some primary) e f = record { primary = primary; first = e; is = cc }

pub is_left : (internal : Bool) (recs : List AsmRec) (kept : Kept) (left : AsmRec) → restricted internal recs kept ≡ Some left → IsLeft internal (output_of recs kept) left
unfolding restricted output_of
is_left internal recs kept left e = left_by internal (output_of recs kept) left (slice_get recs 0) refl e

module _ (internal : Bool) (o : Output) (left : AsmRec) (l : IsLeft internal o left) where
  pub left_refs : left.type_ref ≡ type_ref_rows o
  left_refs = ap (λ (r : AsmRec). r.type_ref) l.is

  pub left_assemblies : left.assembly_ref ≡ assembly_refs o.recs o.mets
  left_assemblies = ap (λ (r : AsmRec). r.assembly_ref) l.is

  pub left_types : left.type_def ≡ each_at o.recs (λ rec. rec.type_def) (moved_type_row internal o) (kept_types o.recs o.kept)
  left_types = ap (λ (r : AsmRec). r.type_def) l.is

  pub left_specs : left.type_spec ≡ type_spec_rows o
  left_specs = ap (λ (r : AsmRec). r.type_spec) l.is

  pub left_members : left.member_ref ≡ member_ref_rows o
  left_members = ap (λ (r : AsmRec). r.member_ref) l.is

  pub left_instances : left.method_spec ≡ method_spec_rows o
  left_instances = ap (λ (r : AsmRec). r.method_spec) l.is

  pub left_locals : left.stand_alone_sig ≡ locals_rows o
  left_locals = ap (λ (r : AsmRec). r.stand_alone_sig) l.is

  pub left_methods : left.method_def ≡ placed_methods (moved_methods o)
  left_methods = ap (λ (r : AsmRec). r.method_def) l.is

  pub left_fields : left.field ≡ each_at o.recs (λ rec. rec.field) (moved_field_row o) (kept_fields o.recs o.kept)
  left_fields = ap (λ (r : AsmRec). r.field) l.is

  pub left_own : left.assembly ≡ map moved_assembly l.primary.assembly
  left_own = ap (λ (r : AsmRec). r.assembly) l.is

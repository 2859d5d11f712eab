-- Rows of references to members that a merge writes, and what they name.
use Rattle.std.proofs.Common.{◌≡◌, ◌<◌, ℕ, suc, Bool, true, nat_eq, List, [], ◌∷◌, length, Option, Some, refl, sym, ap, ◌∙◌, ◌&&◌, arith}
use Rattle.std.specs.Prelude.{slice_get, ◌==◌, if◌then◌else◌}
use Rattle.std.specs.List.{flat_map}
use Rattle.std.specs.Option.{option_and_then}
use Rattle.std.specs.Cmp.{first_so, second_so}
use Rattle.std.proofs.lemmas.Bool.{eq-eqb, eqb-true, and_from}
use Rattle.il_base.specs.declared.ids.MethodId.{MethodId}
use Rattle.il_base.specs.declared.ids.FieldId.{FieldId}
use Rattle.il_base.specs.declared.sig.Sig.{Sig}
use Rattle.il_base.specs.declared.sig.MethodSig.{MethodSig}
use Rattle.il_base.specs.declared.table.TheConstants.{FIELD, METHOD_DEF, MEMBER_REF}
use Rattle.il_base.specs.declared.world_model.known.Known.TheVariants.{Good}
use Rattle.il_base.specs.declared.world_model.expr.TypeExpr.{TypeExpr}
use Rattle.il_base.specs.declared.world_model.expr.MemberSig.TheVariants as member
use Rattle.il_base.specs.declared.world_model.members.MemberRefRow.{MemberRefRow}
use Rattle.il_base.specs.declared.world_model.record.AsmRec.{AsmRec}
use Rattle.il_base.specs.world_model.Records.{table_sizes}
use Rattle.il_base.specs.world_model.Tokens.{index_in}
use Rattle.il_base.specs.world_model.Worlds.{known_then, row_below, sig_expr}
use Rattle.il_base.specs.world_model.Exprs.{same_expr}
use Rattle.il_base.proofs.lemmas.world_model.SameExpr.{same_only, same_self}
use Rattle.rules.specs.declared.link_rules.member_type.MethodType.{MethodType}
use Rattle.rules.specs.link_rules.Signatures.{names_at, token_type, method_type}
use Rattle.rules.specs.link_rules.Members.{methods_in, fields_in, find_method, find_field, method_use, field_use, method_in_parent, field_in_parent, method_ref_use, field_ref_use, ref_use_at, def_use_at, generic_method}
use Rattle.rules.specs.mark_rules.Naming.{field_def_at, field_ref_at, field_named}
use Rattle.rules.specs.merge_rules.Refs.{MemberKey, a_method, a_field, an_absent, same_member, members_of_met, member_refs, member_ref_row, member_ref_rows, row_token, member_token}
use Rattle.rules.specs.merge_rules.Restricted.{output_of}
use Rattle.base_laws.proofs.lemmas.type_laws.Within.{In}
use Rattle.rules.specs.merged_world_rules.Merge.{Merge, IsMerge, after, output}
use Rattle.merge_laws.specs.merged_references.Written.{HasReferenceRows}
use Rattle.merge_laws.proofs.lemmas.merged_references.Lists.{Placed, has_place, single_at, contains}
use Rattle.merge_laws.proofs.lemmas.merged_references.Tokens.{token_table, token_index}
use Rattle.merge_laws.proofs.lemmas.merged_places.Rows.{place_within}
use Rattle.merge_laws.proofs.lemmas.merged_places.Worlds.{left_is}

-- ---- equality of members

own_member : (n : ℕ) (e : TypeExpr) → (nat_eq n n && same_expr e e) ≡ true
own_member n e = and_from (nat_eq n n) (same_expr e e) (eq-eqb n n refl) (same_self e)

method_only : (mid : MethodId) (e : TypeExpr) (y : MemberKey) → same_member (a_method mid e) y ≡ true → a_method mid e ≡ y
method_only mid e (a_method n f) h =
    let a : Bool = nat_eq mid.0 n.0 in
    let b : Bool = same_expr e f in
    λ i. a_method (record { 0 = eqb-true mid.0 n.0 (first_so a b h) i }) (same_only e f (second_so a b h) i)
method_only mid e (a_field n f) h = cc
method_only mid e (an_absent q y r) h = cc

field_only : (fid : FieldId) (e : TypeExpr) (y : MemberKey) → same_member (a_field fid e) y ≡ true → a_field fid e ≡ y
field_only fid e (a_method n f) h = cc
field_only fid e (a_field n f) h =
    let a : Bool = nat_eq fid.0 n.0 in
    let b : Bool = same_expr e f in
    λ i. a_field (record { 0 = eqb-true fid.0 n.0 (first_so a b h) i }) (same_only e f (second_so a b h) i)
field_only fid e (an_absent q y r) h = cc

-- ---- a row

module _ (m : Merge) (is : IsMerge m) (rows : HasReferenceRows m) where
  left_members : m.left.member_ref ≡ member_ref_rows (output m)
  left_members = ap (λ (x : AsmRec). x.member_ref) (left_is m is).is

  -- the token of a member that is met, and its row
  pub record HasRow (x : MemberKey) (row : MemberRefRow) : Type 0 where
    pub index : ℕ
    pub token : member_token (output m) x ≡ row_token MEMBER_REF (Some index)
    pub few : suc index < 16777216
    pub there : slice_get m.left.member_ref index ≡ Some row

  module _ (x : MemberKey) (own : same_member x x ≡ true) (only : (y : MemberKey) → same_member x y ≡ true → x ≡ y) (met : In x (flat_map members_of_met (output m).mets)) (row : MemberRefRow) (has : member_ref_row (output m) x ≡ row ∷ []) where
    place : Placed (same_member x) (member_refs (output m).mets)
    unfolding member_refs
    place = has_place same_member (flat_map members_of_met (output m).mets) x own met

    item_is : place.item ≡ x
    item_is = sym (only place.item place.passes)

    row_there : slice_get m.left.member_ref place.index ≡ Some row
    unfolding member_ref_rows
    row_there =
        ap (λ (rs : List MemberRefRow). slice_get rs place.index) left_members
        ∙ single_at (member_ref_row (output m)) (member_refs (output m).mets) place.index x row (λ z i. rows.members z (contains (member_refs (output m).mets) z i)) (place.there ∙ ap Some item_is) has

    below : place.index < length m.left.member_ref
    below = place_within m.left.member_ref place.index row row_there

    few_rows : suc place.index < 16777216
    unfolding table_sizes
    few_rows = let few : length m.left.member_ref < 16777216 = is.few 0x0a in let lt = below in omega (arith, few, lt)

    has_row : HasRow x row
    unfolding output_of
    has_row = record { index = place.index; token = ap (row_token MEMBER_REF) place.is; few = few_rows; there = row_there }

  pub method_row : (mid : MethodId) (e : TypeExpr) → In (a_method mid e) (flat_map members_of_met (output m).mets) → (row : MemberRefRow) → member_ref_row (output m) (a_method mid e) ≡ row ∷ [] → HasRow (a_method mid e) row
  method_row mid e met row has = has_row (a_method mid e) (own_member mid.0 e) (method_only mid e) met row has

  pub field_row : (fid : FieldId) (e : TypeExpr) → In (a_field fid e) (flat_map members_of_met (output m).mets) → (row : MemberRefRow) → member_ref_row (output m) (a_field fid e) ≡ row ∷ [] → HasRow (a_field fid e) row
  field_row fid e met row has = has_row (a_field fid e) (own_member fid.0 e) (field_only fid e) met row has

  -- ---- what it names

  pub method_reads : (x : MemberKey) (class : ℕ) (name : List ℕ) (s : MethodSig) (parent : TypeExpr) (wanted : MethodType) → HasRow x (record { class = class; name = name; signature = Good (member.Method s) })
      → token_type (after m) 0 m.left class ≡ Good parent → method_type (names_at (after m) 0 m.left) s ≡ Good wanted
      → generic_method (after m) 0 m.left (member_token (output m) x) ≡ method_use (after m) (find_method (after m) parent name wanted)
  unfolding generic_method method_ref_use
  method_reads x class name s parent wanted h reads typed =
      let row : MemberRefRow = record { class = class; name = name; signature = Good (member.Method s) } in
      let token : ℕ = row_token MEMBER_REF (Some h.index) in
      ap (generic_method (after m) 0 m.left) h.token
      ∙ ap (λ (n : ℕ). if n == METHOD_DEF then def_use_at (after m) 0 m.left (row_below (methods_in m.left) (index_in METHOD_DEF token)) else ref_use_at (after m) 0 m.left (option_and_then (slice_get m.left.member_ref) (index_in MEMBER_REF token)))
      (token_table MEMBER_REF h.index (omega arith) h.few)
      ∙ ap (λ (o : Option ℕ). ref_use_at (after m) 0 m.left (option_and_then (slice_get m.left.member_ref) o)) (token_index MEMBER_REF h.index (omega arith) h.few)
      ∙ ap (ref_use_at (after m) 0 m.left) h.there
      ∙ ap (known_then (λ (p : TypeExpr). known_then (method_in_parent (after m) 0 m.left row p) row.signature)) reads
      ∙ ap (known_then (λ (w : MethodType). method_use (after m) (find_method (after m) parent name w))) typed

  pub field_reads : (x : MemberKey) (class : ℕ) (name : List ℕ) (s : Sig) (parent wanted : TypeExpr) → HasRow x (record { class = class; name = name; signature = Good (member.Field s) })
      → token_type (after m) 0 m.left class ≡ Good parent → sig_expr (names_at (after m) 0 m.left) s ≡ Good wanted
      → field_named (after m) 0 m.left (member_token (output m) x) ≡ field_use (after m) (find_field (after m) parent name wanted)
  unfolding field_named field_ref_use
  field_reads x class name s parent wanted h reads typed =
      let row : MemberRefRow = record { class = class; name = name; signature = Good (member.Field s) } in
      let token : ℕ = row_token MEMBER_REF (Some h.index) in
      ap (field_named (after m) 0 m.left) h.token
      ∙ ap (λ (n : ℕ). if n == FIELD then field_def_at (after m) 0 m.left (row_below (fields_in m.left) (index_in FIELD token)) else field_ref_at (after m) 0 m.left (option_and_then (slice_get m.left.member_ref) (index_in MEMBER_REF token)))
      (token_table MEMBER_REF h.index (omega arith) h.few)
      ∙ ap (λ (o : Option ℕ). field_ref_at (after m) 0 m.left (option_and_then (slice_get m.left.member_ref) o)) (token_index MEMBER_REF h.index (omega arith) h.few)
      ∙ ap (field_ref_at (after m) 0 m.left) h.there
      ∙ ap (known_then (λ (p : TypeExpr). known_then (field_in_parent (after m) 0 m.left row p) row.signature)) reads
      ∙ ap (known_then (λ (w : TypeExpr). field_use (after m) (find_field (after m) parent name w))) typed

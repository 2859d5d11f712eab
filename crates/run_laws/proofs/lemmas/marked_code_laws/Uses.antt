-- What the token of a method or a field names is a row of the table, in the run of its owner's definition.
use Rattle.std.proofs.Common.{◌≡◌, ℕ, ◌+◌, ◌<◌, Bool, true, false, nat_lt, List, [], length, Option, Some, None, refl, sym, ap, subst, ◌∙◌}
use Rattle.std.specs.Prelude.{slice_get, ◌==◌, if◌then◌else◌}
use Rattle.std.specs.Option.{option_and_then}
use Rattle.std.proofs.lemmas.Bool.{ltb-true}
use Rattle.il_base.specs.declared.table.TheConstants.{METHOD_DEF, MEMBER_REF, METHOD_SPEC, FIELD}
use Rattle.il_base.specs.declared.world_model.known.Known.{Known}
use Rattle.il_base.specs.declared.world_model.known.Known.TheVariants.{Good, Bad}
use Rattle.il_base.specs.declared.world_model.known.BadKind.{BadKind}
use Rattle.il_base.specs.declared.world_model.known.BadKind.TheVariants.{Unresolved, Outside}
use Rattle.il_base.specs.declared.world_model.expr.TypeExpr.{TypeExpr}
use Rattle.il_base.specs.declared.world_model.expr.MethodUse.{MethodUse}
use Rattle.il_base.specs.declared.world_model.expr.FieldUse.{FieldUse}
use Rattle.il_base.specs.declared.world_model.expr.MemberSig.{MemberSig}
use Rattle.il_base.specs.declared.world_model.expr.MemberSig.TheVariants as member
use Rattle.il_base.specs.declared.world_model.types.TypeDefRow.{TypeDefRow}
use Rattle.il_base.specs.declared.world_model.members.MethodDefRow.{MethodDefRow}
use Rattle.il_base.specs.declared.world_model.members.FieldRow.{FieldRow}
use Rattle.il_base.specs.declared.world_model.members.MemberRefRow.{MemberRefRow}
use Rattle.il_base.specs.declared.world_model.members.MethodSpecRow.{MethodSpecRow}
use Rattle.il_base.specs.declared.world_model.record.AsmRec.{AsmRec}
use Rattle.il_base.specs.world_model.Tokens.{table_of, index_in}
use Rattle.il_base.specs.world_model.Exprs.{levels}
use Rattle.il_base.specs.world_model.Worlds.{rows_before, row_below, known_map, known_then, sig_expr}
use Rattle.rules.specs.declared.link_rules.row_at.RowAt.{RowAt}
use Rattle.rules.specs.declared.link_rules.member_type.MethodType.{MethodType}
use Rattle.rules.specs.link_rules.Signatures.{names_at, method_type}
use Rattle.rules.specs.link_rules.Members.{Found, args_of, is_method, method_of_type, is_field, field_of_type, open_parent, with_bases, find_method, find_field, most_levels, methods_in, fields_in, method_use, field_use, own_member, owns_method, owns_field, method_def_use, field_def_use, parent_of, method_in_parent, field_in_parent, is_field_sig, is_method_sig, method_ref_use, field_ref_use, ref_use_at, def_use_at, generic_method, arguments_of, instantiated, method_spec_use}
use Rattle.rules.specs.mark_rules.Naming.{spec_use_at, method_named, field_def_at, field_ref_at, field_named}
use Rattle.run_laws.specs.marked_code_laws.Laws.{MethodsApart, FieldsApart}
use Rattle.run_laws.proofs.lemmas.marked_code_laws.Owners.{OwnedBy, InOwner, FoundIn, LookedUp, looked_up, found_in_bases, own_found}

module _ (recs : List AsmRec) where
  -- a good use has no bad step
  method_levels : (x : Found) (u : MethodUse) (why : BadKind) (b : Bool) → (if b then Bad why else Good (record { method = record { 0 = rows_before methods_in recs x.at.asm + x.at.row }; owner = x.owner; args = [] })) ≡ Good u
      → (u.method ≡ record { 0 = rows_before methods_in recs x.at.asm + x.at.row }) × (u.owner ≡ x.owner)
  method_levels x u why true h = absurd (cc)
  method_levels x u why false h =
      let made : MethodUse = record { method = record { 0 = rows_before methods_in recs x.at.asm + x.at.row }; owner = x.owner; args = [] } in
      let same : u ≡ made = cc in
      (ap (λ (v : MethodUse). v.method) same, ap (λ (v : MethodUse). v.owner) same)

  field_levels : (x : Found) (u : FieldUse) (why : BadKind) (b : Bool) → (if b then Bad why else Good (record { field = record { 0 = rows_before fields_in recs x.at.asm + x.at.row }; owner = x.owner })) ≡ Good u
      → (u.field ≡ record { 0 = rows_before fields_in recs x.at.asm + x.at.row }) × (u.owner ≡ x.owner)
  field_levels x u why true h = absurd (cc)
  field_levels x u why false h =
      let made : FieldUse = record { field = record { 0 = rows_before fields_in recs x.at.asm + x.at.row }; owner = x.owner } in
      let same : u ≡ made = cc in
      (ap (λ (v : FieldUse). v.field) same, ap (λ (v : FieldUse). v.owner) same)

  spec_sig : (u v : MethodUse) (k : Known (List TypeExpr)) → known_map (instantiated v) k ≡ Good u → (u.method ≡ v.method) × (u.owner ≡ v.owner)
  spec_sig u v (Bad why) h = absurd (cc)
  spec_sig u v (Good args) h = let same : u ≡ instantiated v args = cc in (ap (λ (w : MethodUse). w.method) same, ap (λ (w : MethodUse). w.owner) same)

-- ---- methods

module _ (recs : List AsmRec) (right : MethodsApart recs) where
  abbrev method_rows : AsmRec → List MethodDefRow
  method_rows rec = rec.method_def

  abbrev MethodFound : Found → Type 0
  MethodFound x = FoundIn recs (λ (t : TypeDefRow). t.method_list_first) (λ (t : TypeDefRow). t.method_list_end) method_rows right x

  pub record MethodIn (u : MethodUse) : Type 0 where
    pub at : RowAt
    pub method : u.method ≡ record { 0 = rows_before methods_in recs at.asm + at.row }
    pub owner : RowAt
    pub owned : OwnedBy recs owner u.owner
    pub row : InOwner recs owns_method method_rows owner at

  m_of_found : (o : Option Found) (u : MethodUse) → ((x : Found) → o ≡ Some x → MethodFound x) → method_use recs o ≡ Good u → MethodIn u
  m_of_found None u r h = absurd (cc)
  m_of_found (Some x) u r h =
      let s = method_levels recs x u (Outside 5) (nat_lt most_levels (levels x.owner)) h in
      let f = r x refl in
      record { at = x.at; method = s.0; owner = f.owner; owned = subst (OwnedBy recs f.owner) (sym s.1) f.owned; row = f.row }

  m_looks : (name : List ℕ) (wanted : MethodType) (e : TypeExpr) (at : RowAt) → method_of_type recs name wanted e ≡ Some at
      → LookedUp recs (λ (t : TypeDefRow). t.method_list_first) (λ (t : TypeDefRow). t.method_list_end) method_rows right e at
  unfolding method_of_type
  m_looks name wanted e at h =
      looked_up recs (λ (t : TypeDefRow). t.method_list_first) (λ (t : TypeDefRow). t.method_list_end) method_rows right (λ (home : RowAt) (rec : AsmRec). is_method recs home.asm rec (args_of e) name wanted) e at h

  m_finds : (parent : TypeExpr) (name : List ℕ) (wanted : MethodType) (x : Found) → find_method recs parent name wanted ≡ Some x → MethodFound x
  unfolding find_method
  m_finds parent name wanted x h =
      found_in_bases recs (λ (t : TypeDefRow). t.method_list_first) (λ (t : TypeDefRow). t.method_list_end) method_rows right (method_of_type recs name wanted) (λ e at is. m_looks name wanted e at is)
      parent (with_bases recs (open_parent recs parent)) x h

  m_def : (a k : ℕ) (rec : AsmRec) (u : MethodUse) → slice_get recs a ≡ Some rec → k < length rec.method_def → method_def_use recs a rec k ≡ Good u → MethodIn u
  unfolding method_def_use
  m_def a k rec u s lt h =
      m_of_found (own_member recs a rec owns_method k) u
      (λ x e. own_found recs (λ (t : TypeDefRow). t.method_list_first) (λ (t : TypeDefRow). t.method_list_end) method_rows right a k rec x s lt e) h

  m_below : (a k : ℕ) (rec : AsmRec) (u : MethodUse) (b : Bool) → nat_lt k (length rec.method_def) ≡ b → slice_get recs a ≡ Some rec → def_use_at recs a rec (if b then Some k else None) ≡ Good u → MethodIn u
  m_below a k rec u true t s h = m_def a k rec u s (ltb-true k (length rec.method_def) t) h
  m_below a k rec u false t s h = absurd (cc)

  m_def_at : (a : ℕ) (rec : AsmRec) (u : MethodUse) (o : Option ℕ) → slice_get recs a ≡ Some rec → def_use_at recs a rec (row_below (methods_in rec) o) ≡ Good u → MethodIn u
  m_def_at a rec u None s h = absurd (cc)
  m_def_at a rec u (Some k) s h = m_below a k rec u (nat_lt k (length rec.method_def)) refl s h

  m_wanted : (parent : TypeExpr) (name : List ℕ) (u : MethodUse) (t : Known MethodType) → known_then (λ (wanted : MethodType). method_use recs (find_method recs parent name wanted)) t ≡ Good u → MethodIn u
  m_wanted parent name u (Bad why) h = absurd (cc)
  m_wanted parent name u (Good wanted) h = m_of_found (find_method recs parent name wanted) u (λ x e. m_finds parent name wanted x e) h

  m_parent : (a : ℕ) (rec : AsmRec) (row : MemberRefRow) (parent : TypeExpr) (u : MethodUse) (s : MemberSig) → method_in_parent recs a rec row parent s ≡ Good u → MethodIn u
  m_parent a rec row parent u (member.Method s) h = m_wanted parent row.name u (method_type (names_at recs a rec) s) h
  m_parent a rec row parent u (member.Field s) h = absurd (cc)

  m_sig : (a : ℕ) (rec : AsmRec) (row : MemberRefRow) (parent : TypeExpr) (u : MethodUse) (s : Known MemberSig) → known_then (method_in_parent recs a rec row parent) s ≡ Good u → MethodIn u
  m_sig a rec row parent u (Bad why) h = absurd (cc)
  m_sig a rec row parent u (Good s) h = m_parent a rec row parent u s h

  m_known : (a : ℕ) (rec : AsmRec) (row : MemberRefRow) (u : MethodUse) (p : Known TypeExpr) → known_then (λ (parent : TypeExpr). known_then (method_in_parent recs a rec row parent) row.signature) p ≡ Good u → MethodIn u
  m_known a rec row u (Bad why) h = absurd (cc)
  m_known a rec row u (Good parent) h = m_sig a rec row parent u row.signature h

  m_ref_by : (a : ℕ) (rec : AsmRec) (row : MemberRefRow) (u : MethodUse) (b : Bool)
      → (if b then Bad Unresolved else known_then (λ (parent : TypeExpr). known_then (method_in_parent recs a rec row parent) row.signature) (parent_of recs a rec row)) ≡ Good u → MethodIn u
  m_ref_by a rec row u true h = absurd (cc)
  m_ref_by a rec row u false h = m_known a rec row u (parent_of recs a rec row) h

  m_ref : (a : ℕ) (rec : AsmRec) (row : MemberRefRow) (u : MethodUse) → method_ref_use recs a rec row ≡ Good u → MethodIn u
  unfolding method_ref_use
  m_ref a rec row u h = m_ref_by a rec row u (is_field_sig row.signature) h

  m_ref_at : (a : ℕ) (rec : AsmRec) (u : MethodUse) (o : Option MemberRefRow) → ref_use_at recs a rec o ≡ Good u → MethodIn u
  m_ref_at a rec u None h = absurd (cc)
  m_ref_at a rec u (Some row) h = m_ref a rec row u h

  m_table : (a : ℕ) (rec : AsmRec) (token : ℕ) (u : MethodUse) (b : Bool) → slice_get recs a ≡ Some rec
      → (if b then def_use_at recs a rec (row_below (methods_in rec) (index_in METHOD_DEF token)) else ref_use_at recs a rec (option_and_then (slice_get rec.member_ref) (index_in MEMBER_REF token))) ≡ Good u → MethodIn u
  m_table a rec token u true s h = m_def_at a rec u (index_in METHOD_DEF token) s h
  m_table a rec token u false s h = m_ref_at a rec u (option_and_then (slice_get rec.member_ref) (index_in MEMBER_REF token)) h

  m_generic : (a : ℕ) (rec : AsmRec) (token : ℕ) (u : MethodUse) → slice_get recs a ≡ Some rec → generic_method recs a rec token ≡ Good u → MethodIn u
  unfolding generic_method
  m_generic a rec token u s h = m_table a rec token u (table_of token == METHOD_DEF) s h

  m_spec_by : (a : ℕ) (rec : AsmRec) (row : MethodSpecRow) (u : MethodUse) (g : Known MethodUse) → ((v : MethodUse) → g ≡ Good v → MethodIn v)
      → known_then (λ (v : MethodUse). known_map (instantiated v) (known_then (arguments_of (names_at recs a rec)) row.instantiation)) g ≡ Good u → MethodIn u
  m_spec_by a rec row u (Bad why) r h = absurd (cc)
  m_spec_by a rec row u (Good v) r h =
      let m = r v refl in
      let s = spec_sig recs u v (known_then (arguments_of (names_at recs a rec)) row.instantiation) h in
      record { at = m.at; method = s.0 ∙ m.method; owner = m.owner; owned = subst (OwnedBy recs m.owner) (sym s.1) m.owned; row = m.row }

  m_spec : (a : ℕ) (rec : AsmRec) (row : MethodSpecRow) (u : MethodUse) → slice_get recs a ≡ Some rec → method_spec_use recs a rec row ≡ Good u → MethodIn u
  unfolding method_spec_use
  m_spec a rec row u s h = m_spec_by a rec row u (generic_method recs a rec row.method) (λ v e. m_generic a rec row.method v s e) h

  m_spec_at : (a : ℕ) (rec : AsmRec) (u : MethodUse) (o : Option MethodSpecRow) → slice_get recs a ≡ Some rec → spec_use_at recs a rec o ≡ Good u → MethodIn u
  m_spec_at a rec u None s h = absurd (cc)
  m_spec_at a rec u (Some row) s h = m_spec a rec row u s h

  m_named_by : (a : ℕ) (rec : AsmRec) (token : ℕ) (u : MethodUse) (b : Bool) → slice_get recs a ≡ Some rec
      → (if b then spec_use_at recs a rec (option_and_then (slice_get rec.method_spec) (index_in METHOD_SPEC token)) else generic_method recs a rec token) ≡ Good u → MethodIn u
  m_named_by a rec token u true s h = m_spec_at a rec u (option_and_then (slice_get rec.method_spec) (index_in METHOD_SPEC token)) s h
  m_named_by a rec token u false s h = m_generic a rec token u s h

  pub method_in_owner : (a : ℕ) (rec : AsmRec) (token : ℕ) (u : MethodUse) → slice_get recs a ≡ Some rec → method_named recs a rec token ≡ Good u → MethodIn u
  unfolding method_named
  method_in_owner a rec token u s h = m_named_by a rec token u (table_of token == METHOD_SPEC) s h

-- ---- fields

module _ (recs : List AsmRec) (right : FieldsApart recs) where
  abbrev field_rows : AsmRec → List FieldRow
  field_rows rec = rec.field

  abbrev FieldFound : Found → Type 0
  FieldFound x = FoundIn recs (λ (t : TypeDefRow). t.field_list_first) (λ (t : TypeDefRow). t.field_list_end) field_rows right x

  pub record FieldIn (u : FieldUse) : Type 0 where
    pub at : RowAt
    pub field : u.field ≡ record { 0 = rows_before fields_in recs at.asm + at.row }
    pub owner : RowAt
    pub owned : OwnedBy recs owner u.owner
    pub row : InOwner recs owns_field field_rows owner at

  f_of_found : (o : Option Found) (u : FieldUse) → ((x : Found) → o ≡ Some x → FieldFound x) → field_use recs o ≡ Good u → FieldIn u
  f_of_found None u r h = absurd (cc)
  f_of_found (Some x) u r h =
      let s = field_levels recs x u (Outside 5) (nat_lt most_levels (levels x.owner)) h in
      let f = r x refl in
      record { at = x.at; field = s.0; owner = f.owner; owned = subst (OwnedBy recs f.owner) (sym s.1) f.owned; row = f.row }

  f_looks : (name : List ℕ) (wanted : TypeExpr) (e : TypeExpr) (at : RowAt) → field_of_type recs name wanted e ≡ Some at
      → LookedUp recs (λ (t : TypeDefRow). t.field_list_first) (λ (t : TypeDefRow). t.field_list_end) field_rows right e at
  unfolding field_of_type
  f_looks name wanted e at h =
      looked_up recs (λ (t : TypeDefRow). t.field_list_first) (λ (t : TypeDefRow). t.field_list_end) field_rows right (λ (home : RowAt) (rec : AsmRec). is_field recs home.asm rec (args_of e) name wanted) e at h

  f_finds : (parent : TypeExpr) (name : List ℕ) (wanted : TypeExpr) (x : Found) → find_field recs parent name wanted ≡ Some x → FieldFound x
  unfolding find_field
  f_finds parent name wanted x h =
      found_in_bases recs (λ (t : TypeDefRow). t.field_list_first) (λ (t : TypeDefRow). t.field_list_end) field_rows right (field_of_type recs name wanted) (λ e at is. f_looks name wanted e at is)
      parent (with_bases recs (open_parent recs parent)) x h

  f_def : (a k : ℕ) (rec : AsmRec) (u : FieldUse) → slice_get recs a ≡ Some rec → k < length rec.field → field_def_use recs a rec k ≡ Good u → FieldIn u
  unfolding field_def_use
  f_def a k rec u s lt h =
      f_of_found (own_member recs a rec owns_field k) u
      (λ x e. own_found recs (λ (t : TypeDefRow). t.field_list_first) (λ (t : TypeDefRow). t.field_list_end) field_rows right a k rec x s lt e) h

  f_below : (a k : ℕ) (rec : AsmRec) (u : FieldUse) (b : Bool) → nat_lt k (length rec.field) ≡ b → slice_get recs a ≡ Some rec → field_def_at recs a rec (if b then Some k else None) ≡ Good u → FieldIn u
  f_below a k rec u true t s h = f_def a k rec u s (ltb-true k (length rec.field) t) h
  f_below a k rec u false t s h = absurd (cc)

  f_def_at : (a : ℕ) (rec : AsmRec) (u : FieldUse) (o : Option ℕ) → slice_get recs a ≡ Some rec → field_def_at recs a rec (row_below (fields_in rec) o) ≡ Good u → FieldIn u
  f_def_at a rec u None s h = absurd (cc)
  f_def_at a rec u (Some k) s h = f_below a k rec u (nat_lt k (length rec.field)) refl s h

  f_wanted : (parent : TypeExpr) (name : List ℕ) (u : FieldUse) (t : Known TypeExpr) → known_then (λ (wanted : TypeExpr). field_use recs (find_field recs parent name wanted)) t ≡ Good u → FieldIn u
  f_wanted parent name u (Bad why) h = absurd (cc)
  f_wanted parent name u (Good wanted) h = f_of_found (find_field recs parent name wanted) u (λ x e. f_finds parent name wanted x e) h

  f_parent : (a : ℕ) (rec : AsmRec) (row : MemberRefRow) (parent : TypeExpr) (u : FieldUse) (s : MemberSig) → field_in_parent recs a rec row parent s ≡ Good u → FieldIn u
  f_parent a rec row parent u (member.Field s) h = f_wanted parent row.name u (sig_expr (names_at recs a rec) s) h
  f_parent a rec row parent u (member.Method s) h = absurd (cc)

  f_sig : (a : ℕ) (rec : AsmRec) (row : MemberRefRow) (parent : TypeExpr) (u : FieldUse) (s : Known MemberSig) → known_then (field_in_parent recs a rec row parent) s ≡ Good u → FieldIn u
  f_sig a rec row parent u (Bad why) h = absurd (cc)
  f_sig a rec row parent u (Good s) h = f_parent a rec row parent u s h

  f_known : (a : ℕ) (rec : AsmRec) (row : MemberRefRow) (u : FieldUse) (p : Known TypeExpr) → known_then (λ (parent : TypeExpr). known_then (field_in_parent recs a rec row parent) row.signature) p ≡ Good u → FieldIn u
  f_known a rec row u (Bad why) h = absurd (cc)
  f_known a rec row u (Good parent) h = f_sig a rec row parent u row.signature h

  f_ref_by : (a : ℕ) (rec : AsmRec) (row : MemberRefRow) (u : FieldUse) (b : Bool)
      → (if b then Bad Unresolved else known_then (λ (parent : TypeExpr). known_then (field_in_parent recs a rec row parent) row.signature) (parent_of recs a rec row)) ≡ Good u → FieldIn u
  f_ref_by a rec row u true h = absurd (cc)
  f_ref_by a rec row u false h = f_known a rec row u (parent_of recs a rec row) h

  f_ref : (a : ℕ) (rec : AsmRec) (row : MemberRefRow) (u : FieldUse) → field_ref_use recs a rec row ≡ Good u → FieldIn u
  unfolding field_ref_use
  f_ref a rec row u h = f_ref_by a rec row u (is_method_sig row.signature) h

  f_ref_at : (a : ℕ) (rec : AsmRec) (u : FieldUse) (o : Option MemberRefRow) → field_ref_at recs a rec o ≡ Good u → FieldIn u
  f_ref_at a rec u None h = absurd (cc)
  f_ref_at a rec u (Some row) h = f_ref a rec row u h

  f_named_by : (a : ℕ) (rec : AsmRec) (token : ℕ) (u : FieldUse) (b : Bool) → slice_get recs a ≡ Some rec
      → (if b then field_def_at recs a rec (row_below (fields_in rec) (index_in FIELD token)) else field_ref_at recs a rec (option_and_then (slice_get rec.member_ref) (index_in MEMBER_REF token))) ≡ Good u → FieldIn u
  f_named_by a rec token u true s h = f_def_at a rec u (index_in FIELD token) s h
  f_named_by a rec token u false s h = f_ref_at a rec u (option_and_then (slice_get rec.member_ref) (index_in MEMBER_REF token)) h

  pub field_in_owner : (a : ℕ) (rec : AsmRec) (token : ℕ) (u : FieldUse) → slice_get recs a ≡ Some rec → field_named recs a rec token ≡ Good u → FieldIn u
  unfolding field_named
  field_in_owner a rec token u s h = f_named_by a rec token u (table_of token == FIELD) s h

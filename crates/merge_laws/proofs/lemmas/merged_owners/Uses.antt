-- Members that tokens name are in a run.
use Rattle.std.proofs.Common.{◌≡◌, ℕ, suc, ◌+◌, List, [], ◌∷◌, ◌++◌, Bool, true, false, nat_lt, Option, Some, None, refl, subst}
use Rattle.std.specs.Prelude.{slice_get, if◌then◌else◌, ◌==◌}
use Rattle.std.specs.List.{position_from}
use Rattle.std.specs.Option.{option_and_then, option_map}
use Rattle.il_base.specs.declared.ids.TypeId.{TypeId}
use Rattle.il_base.specs.declared.ids.Item.TheVariants as item
use Rattle.il_base.specs.declared.table.TheConstants as table
use Rattle.il_base.specs.declared.world_model.known.Known.{Known}
use Rattle.il_base.specs.declared.world_model.known.Known.TheVariants.{Good, Bad}
use Rattle.il_base.specs.declared.world_model.known.BadKind.TheVariants.{Unresolved, Outside}
use Rattle.il_base.specs.declared.world_model.expr.TypeExpr.{TypeExpr}
use Rattle.il_base.specs.declared.world_model.expr.MethodUse.{MethodUse}
use Rattle.il_base.specs.declared.world_model.expr.FieldUse.{FieldUse}
use Rattle.il_base.specs.declared.world_model.expr.MemberSig.{MemberSig}
use Rattle.il_base.specs.declared.world_model.expr.MemberSig.TheVariants as member
use Rattle.il_base.specs.declared.world_model.types.TypeDefRow.{TypeDefRow}
use Rattle.il_base.specs.declared.world_model.members.MemberRefRow.{MemberRefRow}
use Rattle.il_base.specs.declared.world_model.members.MethodSpecRow.{MethodSpecRow}
use Rattle.il_base.specs.declared.world_model.record.AsmRec.{AsmRec}
use Rattle.il_base.specs.world_model.Tokens.{table_of, index_in}
use Rattle.il_base.specs.world_model.Exprs.{levels}
use Rattle.il_base.specs.world_model.Worlds.{known_map, known_then, rows_before, row_below, sig_expr}
use Rattle.rules.specs.declared.link_rules.row_at.RowAt.{RowAt}
use Rattle.rules.specs.declared.link_rules.member_type.MethodType.{MethodType}
use Rattle.rules.specs.link_rules.Types.{at_row}
use Rattle.rules.specs.link_rules.Signatures.{names_at, method_type}
use Rattle.rules.specs.link_rules.Members.{args_of, Found, found_in, or_next, search, closed, with_bases, open_parent, is_method, is_field, method_of_type, field_of_type, find_method, find_field, methods_in, fields_in, most_levels, method_use, field_use, owns_method, owns_field, own_type, own_member, method_def_use, field_def_use, is_field_sig, is_method_sig, parent_of, method_in_parent, field_in_parent, method_ref_use, field_ref_use, ref_use_at, def_use_at, generic_method, instantiated, arguments_of, method_spec_use}
use Rattle.base_laws.proofs.lemmas.known_laws.Lists.{map_some}
use Rattle.rules.specs.mark_rules.Facts.Fact.{marked}
use Rattle.rules.specs.mark_rules.Naming.{types_in, mark_types, of_expr, of_exprs, of_method_use, of_field_use, spec_use_at, method_named, field_def_at, field_ref_at, field_named}
use Rattle.merge_laws.specs.merged_record.Laws.{InputsAreRecords}
use Rattle.merge_laws.specs.merged_owners.Laws.{has_method, has_field}
use Rattle.merge_laws.proofs.lemmas.merged_owners.Every.{all_more, all_join, all_flat, all_map}
use Rattle.merge_laws.proofs.lemmas.merged_owners.Runs.{OfItem, OfFact, Fine, Has, of_first, method_fine, field_fine, method_looked, field_looked}

known_good : {A B : Type 0} (f : A → Known B) (x : Known A) (y : B) → known_then f x ≡ Good y → (a : A) × (x ≡ Good a) × (f a ≡ Good y)
known_good f (Good a) y e = (a, refl, e)
known_good f (Bad why) y e = absurd (cc)

mapped_good : {A B : Type 0} (f : A → B) (x : Known A) (y : B) → known_map f x ≡ Good y → (a : A) × (x ≡ Good a) × (f a ≡ y)
mapped_good f (Good a) y e = (a, refl, cc)
mapped_good f (Bad why) y e = absurd (cc)

module _ (recs : List AsmRec) (records : InputsAreRecords recs) where
  -- ---- the search from a parent

  module _ (has : AsmRec → ℕ → Bool) (look : TypeExpr → Option RowAt) (looks : (e : TypeExpr) (at : RowAt) → look e ≡ Some at → Has recs has at) where
    next_has : (e : TypeExpr) (x : Found) (later : Option Found) (o : Option RowAt) → look e ≡ o → (later ≡ Some x → Has recs has x.at) → or_next (option_map (found_in e) o) later ≡ Some x → Has recs has x.at
    next_has e x later None f more h = more h
    next_has e x later (Some at) f more h = let same : found_in e at ≡ x = cc in subst (λ (y : Found). Has recs has y.at) same (looks e at f)

    search_has : (es : List TypeExpr) (x : Found) → search look es ≡ Some x → Has recs has x.at
    unfolding search
    search_has [] x h = absurd (cc)
    search_has (e ∷ es) x h = next_has e x (search look es) (look e) refl (search_has es x) h

    closed_has : (parent : TypeExpr) (es : List TypeExpr) (x : Found) → option_map (closed parent) (search look es) ≡ Some x → Has recs has x.at
    closed_has parent es x h =
        let m = map_some (closed parent) (search look es) x h in
        subst (λ (y : Found). Has recs has y.at) m.2 (search_has es m.0 m.1)

  -- ---- methods

  abbrev MethodFine : MethodUse → Type 0
  MethodFine u = OfItem recs (item.Method u.method)

  method_by : (x : Found) (u : MethodUse) → Has recs has_method x.at → (b : Bool)
      → (if b then Bad (Outside 5) else Good (record { method = record { 0 = rows_before methods_in recs x.at.asm + x.at.row }; owner = x.owner; args = [] })) ≡ Good u → MethodFine u
  method_by x u h true e = absurd (cc)
  method_by x u h false e =
      let same : record { method = record { 0 = rows_before methods_in recs x.at.asm + x.at.row }; owner = x.owner; args = [] } ≡ u = cc in
      subst (λ (v : MethodUse). MethodFine v) same (method_fine recs records x.at h)

  method_used : (o : Option Found) (u : MethodUse) → ((x : Found) → o ≡ Some x → Has recs has_method x.at) → method_use recs o ≡ Good u → MethodFine u
  method_used None u h e = absurd (cc)
  method_used (Some x) u h e = method_by x u (h x refl) (nat_lt most_levels (levels x.owner)) e

  own_method_has : (a k : ℕ) (rec : AsmRec) → slice_get recs a ≡ Some rec → (x : Found) → own_member recs a rec owns_method k ≡ Some x → Has recs has_method x.at
  own_method_has a k rec there x h =
      let m = map_some (λ t. record { at = at_row a k; owner = own_type recs rec (at_row a t) }) (position_from (owns_method (suc k)) 0 rec.type_def) x h in
      subst (λ (y : Found). Has recs has_method y.at) m.2
      (of_first recs (λ (r : AsmRec). r.type_def) (λ (t : TypeDefRow). t.method_list_first) (λ (t : TypeDefRow). t.method_list_end) a k m.0 rec there m.1)

  found_method : (parent : TypeExpr) (name : List ℕ) (wanted : MethodType) (x : Found) → find_method recs parent name wanted ≡ Some x → Has recs has_method x.at
  unfolding find_method method_of_type
  found_method parent name wanted x h =
      closed_has has_method (method_of_type recs name wanted)
      (λ e at g. method_looked recs records (λ home rec. is_method recs home.asm rec (args_of e) name wanted) (λ rec. rec.method_def) e at g) parent (with_bases recs (open_parent recs parent)) x h

  module _ (a : ℕ) (rec : AsmRec) (there : slice_get recs a ≡ Some rec) where
    def_method : (o : Option ℕ) (u : MethodUse) → def_use_at recs a rec o ≡ Good u → MethodFine u
    unfolding method_def_use
    def_method None u e = absurd (cc)
    def_method (Some k) u e = method_used (own_member recs a rec owns_method k) u (own_method_has a k rec there) e

    method_in : (row : MemberRefRow) (parent : TypeExpr) (s : MemberSig) (u : MethodUse) → method_in_parent recs a rec row parent s ≡ Good u → MethodFine u
    method_in row parent (member.Method s) u h =
        let k = known_good (λ (wanted : MethodType). method_use recs (find_method recs parent row.name wanted)) (method_type (names_at recs a rec) s) u h in
        method_used (find_method recs parent row.name k.0) u (found_method parent row.name k.0) k.2
    method_in row parent (member.Field s) u h = absurd (cc)

    method_kind : (row : MemberRefRow) (u : MethodUse) (b : Bool)
        → (if b then Bad Unresolved else known_then (λ (parent : TypeExpr). known_then (method_in_parent recs a rec row parent) row.signature) (parent_of recs a rec row)) ≡ Good u → MethodFine u
    method_kind row u true h = absurd (cc)
    method_kind row u false h =
        let p = known_good (λ (parent : TypeExpr). known_then (method_in_parent recs a rec row parent) row.signature) (parent_of recs a rec row) u h in
        let s = known_good (method_in_parent recs a rec row p.0) row.signature u p.2 in
        method_in row p.0 s.0 u s.2

    ref_method : (o : Option MemberRefRow) (u : MethodUse) → ref_use_at recs a rec o ≡ Good u → MethodFine u
    unfolding method_ref_use
    ref_method None u h = absurd (cc)
    ref_method (Some row) u h = method_kind row u (is_field_sig row.signature) h

    generic_by : (token : ℕ) (u : MethodUse) (b : Bool)
        → (if b then def_use_at recs a rec (row_below (methods_in rec) (index_in table.METHOD_DEF token)) else ref_use_at recs a rec (option_and_then (slice_get rec.member_ref) (index_in table.MEMBER_REF token))) ≡ Good u → MethodFine u
    generic_by token u true h = def_method (row_below (methods_in rec) (index_in table.METHOD_DEF token)) u h
    generic_by token u false h = ref_method (option_and_then (slice_get rec.member_ref) (index_in table.MEMBER_REF token)) u h

    pub generic_fine : (token : ℕ) (u : MethodUse) → generic_method recs a rec token ≡ Good u → MethodFine u
    unfolding generic_method
    generic_fine token u h = generic_by token u (table_of token == table.METHOD_DEF) h

    spec_method : (o : Option MethodSpecRow) (u : MethodUse) → spec_use_at recs a rec o ≡ Good u → MethodFine u
    unfolding method_spec_use
    spec_method None u h = absurd (cc)
    spec_method (Some row) u h =
        let g = known_good (λ (v : MethodUse). known_map (instantiated v) (known_then (arguments_of (names_at recs a rec)) row.instantiation)) (generic_method recs a rec row.method) u h in
        let m = mapped_good (instantiated g.0) (known_then (arguments_of (names_at recs a rec)) row.instantiation) u g.2 in
        subst (λ (v : MethodUse). MethodFine v) m.2 (generic_fine row.method g.0 g.1)

    named_by : (token : ℕ) (u : MethodUse) (b : Bool)
        → (if b then spec_use_at recs a rec (option_and_then (slice_get rec.method_spec) (index_in table.METHOD_SPEC token)) else generic_method recs a rec token) ≡ Good u → MethodFine u
    named_by token u true h = spec_method (option_and_then (slice_get rec.method_spec) (index_in table.METHOD_SPEC token)) u h
    named_by token u false h = generic_fine token u h

    pub method_named_fine : (token : ℕ) (u : MethodUse) → method_named recs a rec token ≡ Good u → MethodFine u
    unfolding method_named
    method_named_fine token u h = named_by token u (table_of token == table.METHOD_SPEC) h

  -- ---- fields

  abbrev FieldFine : FieldUse → Type 0
  FieldFine u = OfItem recs (item.Field u.field)

  field_by : (x : Found) (u : FieldUse) → Has recs has_field x.at → (b : Bool)
      → (if b then Bad (Outside 5) else Good (record { field = record { 0 = rows_before fields_in recs x.at.asm + x.at.row }; owner = x.owner })) ≡ Good u → FieldFine u
  field_by x u h true e = absurd (cc)
  field_by x u h false e =
      let same : record { field = record { 0 = rows_before fields_in recs x.at.asm + x.at.row }; owner = x.owner } ≡ u = cc in
      subst (λ (v : FieldUse). FieldFine v) same (field_fine recs records x.at h)

  field_used : (o : Option Found) (u : FieldUse) → ((x : Found) → o ≡ Some x → Has recs has_field x.at) → field_use recs o ≡ Good u → FieldFine u
  field_used None u h e = absurd (cc)
  field_used (Some x) u h e = field_by x u (h x refl) (nat_lt most_levels (levels x.owner)) e

  own_field_has : (a k : ℕ) (rec : AsmRec) → slice_get recs a ≡ Some rec → (x : Found) → own_member recs a rec owns_field k ≡ Some x → Has recs has_field x.at
  own_field_has a k rec there x h =
      let m = map_some (λ t. record { at = at_row a k; owner = own_type recs rec (at_row a t) }) (position_from (owns_field (suc k)) 0 rec.type_def) x h in
      subst (λ (y : Found). Has recs has_field y.at) m.2
      (of_first recs (λ (r : AsmRec). r.type_def) (λ (t : TypeDefRow). t.field_list_first) (λ (t : TypeDefRow). t.field_list_end) a k m.0 rec there m.1)

  found_field : (parent : TypeExpr) (name : List ℕ) (wanted : TypeExpr) (x : Found) → find_field recs parent name wanted ≡ Some x → Has recs has_field x.at
  unfolding find_field field_of_type
  found_field parent name wanted x h =
      closed_has has_field (field_of_type recs name wanted)
      (λ e at g. field_looked recs records (λ home rec. is_field recs home.asm rec (args_of e) name wanted) (λ rec. rec.field) e at g) parent (with_bases recs (open_parent recs parent)) x h

  module _ (a : ℕ) (rec : AsmRec) (there : slice_get recs a ≡ Some rec) where
    def_field : (o : Option ℕ) (u : FieldUse) → field_def_at recs a rec o ≡ Good u → FieldFine u
    unfolding field_def_use
    def_field None u e = absurd (cc)
    def_field (Some k) u e = field_used (own_member recs a rec owns_field k) u (own_field_has a k rec there) e

    field_in : (row : MemberRefRow) (parent : TypeExpr) (s : MemberSig) (u : FieldUse) → field_in_parent recs a rec row parent s ≡ Good u → FieldFine u
    field_in row parent (member.Field s) u h =
        let k = known_good (λ (wanted : TypeExpr). field_use recs (find_field recs parent row.name wanted)) (sig_expr (names_at recs a rec) s) u h in
        field_used (find_field recs parent row.name k.0) u (found_field parent row.name k.0) k.2
    field_in row parent (member.Method s) u h = absurd (cc)

    field_kind : (row : MemberRefRow) (u : FieldUse) (b : Bool)
        → (if b then Bad Unresolved else known_then (λ (parent : TypeExpr). known_then (field_in_parent recs a rec row parent) row.signature) (parent_of recs a rec row)) ≡ Good u → FieldFine u
    field_kind row u true h = absurd (cc)
    field_kind row u false h =
        let p = known_good (λ (parent : TypeExpr). known_then (field_in_parent recs a rec row parent) row.signature) (parent_of recs a rec row) u h in
        let s = known_good (field_in_parent recs a rec row p.0) row.signature u p.2 in
        field_in row p.0 s.0 u s.2

    ref_field : (o : Option MemberRefRow) (u : FieldUse) → field_ref_at recs a rec o ≡ Good u → FieldFine u
    unfolding field_ref_use
    ref_field None u h = absurd (cc)
    ref_field (Some row) u h = field_kind row u (is_method_sig row.signature) h

    field_named_by : (token : ℕ) (u : FieldUse) (b : Bool)
        → (if b then field_def_at recs a rec (row_below (fields_in rec) (index_in table.FIELD token)) else field_ref_at recs a rec (option_and_then (slice_get rec.member_ref) (index_in table.MEMBER_REF token))) ≡ Good u → FieldFine u
    field_named_by token u true h = def_field (row_below (fields_in rec) (index_in table.FIELD token)) u h
    field_named_by token u false h = ref_field (option_and_then (slice_get rec.member_ref) (index_in table.MEMBER_REF token)) u h

    pub field_named_fine : (token : ℕ) (u : FieldUse) → field_named recs a rec token ≡ Good u → FieldFine u
    unfolding field_named
    field_named_fine token u h = field_named_by token u (table_of token == table.FIELD) h

-- ---- what uses mark

module _ (recs : List AsmRec) where
  pub types_fine : (ts : List TypeId) → Fine recs (mark_types ts)
  types_fine ts = all_map (OfFact recs) (λ t. marked (item.Typ t)) ts (λ t c. tt)

  pub expr_fine : (e : TypeExpr) → Fine recs (of_expr e)
  expr_fine e = types_fine (types_in e)

  exprs_fine : (es : List TypeExpr) → Fine recs (of_exprs es)
  exprs_fine es = all_flat (OfFact recs) of_expr es (λ e c. expr_fine e)

  pub method_use_fine : (u : MethodUse) → OfItem recs (item.Method u.method) → Fine recs (of_method_use u)
  method_use_fine u h = all_more (OfFact recs) (marked (item.Method u.method)) (of_expr u.owner ++ of_exprs u.args) h (all_join (OfFact recs) (of_expr u.owner) (of_exprs u.args) (expr_fine u.owner) (exprs_fine u.args))

  pub field_use_fine : (u : FieldUse) → OfItem recs (item.Field u.field) → Fine recs (of_field_use u)
  field_use_fine u h = all_more (OfFact recs) (marked (item.Field u.field)) (of_expr u.owner) h (expr_fine u.owner)

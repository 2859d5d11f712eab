-- The signature of a member that a reference names has a reading, so it and its owner name types of the world.
use Rattle.std.proofs.Common.{◌≡◌, ◌<◌, ℕ, suc, ◌+◌, List, [], ◌∷◌, map, Bool, true, false, nat_lt, not, Option, Some, None, refl, ap, subst}
use Rattle.std.specs.Prelude.{slice_get, ◌==◌, ◌&&◌, if◌then◌else◌}
use Rattle.std.specs.List.{flat_map}
use Rattle.std.specs.Option.{option_and_then, option_map}
use Rattle.il_base.specs.declared.ids.TypeId.{TypeId}
use Rattle.il_base.specs.declared.ids.MethodId.{MethodId}
use Rattle.il_base.specs.declared.ids.FieldId.{FieldId}
use Rattle.il_base.specs.declared.sig.Sig.{Sig}
use Rattle.il_base.specs.declared.sig.MethodSig.{MethodSig}
use Rattle.il_base.specs.declared.table.TheConstants as table
use Rattle.il_base.specs.declared.world_model.known.Known.{Known}
use Rattle.il_base.specs.declared.world_model.known.Known.TheVariants.{Good, Bad}
use Rattle.il_base.specs.declared.world_model.known.BadKind.TheVariants.{Unresolved, Outside}
use Rattle.il_base.specs.declared.world_model.expr.TypeExpr.{TypeExpr}
use Rattle.il_base.specs.declared.world_model.expr.MethodUse.{MethodUse}
use Rattle.il_base.specs.declared.world_model.expr.FieldUse.{FieldUse}
use Rattle.il_base.specs.declared.world_model.expr.MemberSig.{MemberSig}
use Rattle.il_base.specs.declared.world_model.expr.MemberSig.TheVariants as member
use Rattle.il_base.specs.declared.world_model.types.TypeDefRow.{TypeDefRow}
use Rattle.il_base.specs.declared.world_model.members.FieldRow.{FieldRow}
use Rattle.il_base.specs.declared.world_model.members.MethodDefRow.{MethodDefRow}
use Rattle.il_base.specs.declared.world_model.members.MemberRefRow.{MemberRefRow}
use Rattle.il_base.specs.declared.world_model.record.AsmRec.{AsmRec}
use Rattle.il_base.specs.world_model.Tokens.{table_of, index_in}
use Rattle.il_base.specs.world_model.Core.{same_name}
use Rattle.il_base.specs.world_model.Exprs.{levels}
use Rattle.il_base.specs.world_model.Worlds.{known_then, rows_before, row_below, sig_expr}
use Rattle.rules.specs.declared.link_rules.row_at.RowAt.{RowAt}
use Rattle.rules.specs.declared.link_rules.member_type.MethodType.{MethodType}
use Rattle.rules.specs.link_rules.Types.{at_row}
use Rattle.rules.specs.link_rules.Signatures.{names_at, method_type}
use Rattle.rules.specs.link_rules.Members.{args_of, find_in_run, is_compiler_controlled, is_method_type, is_field_type, Found, found_in, or_next, search, closed, with_bases, open_parent, is_method, is_field, method_of_type, field_of_type, find_method, find_field, methods_in, fields_in, most_levels, method_use, field_use, is_field_sig, is_method_sig, parent_of, method_in_parent, field_in_parent, method_ref_use, field_ref_use, ref_use_at, def_use_at, generic_method, array_type}
use Rattle.rules.specs.link_rules.Cycles.{listed}
use Rattle.rules.specs.type_rules.Rows.{rec_at}
use Rattle.base_laws.proofs.lemmas.type_laws.Places.{place_within}
use Rattle.base_laws.proofs.lemmas.walk_laws.Finds as finds
use Rattle.base_laws.proofs.lemmas.known_laws.Lists.{map_some}
use Rattle.rules.specs.mark_rules.Naming.{spec_use_at, method_named, field_def_at, field_ref_at, field_named}
use Rattle.rules.specs.merge_rules.Keys.{MethodKey, own_method, found_method, FieldKey, own_field, found_field, good, is_plain_owner, method_key_of, field_key_of, method_key, field_key, world_sig, world_method_sig}
use Rattle.rules.specs.merge_rules.Refs.{numbers_in, known_list, own_method_sig, own_field_sig, method_at, field_at}
use Rattle.trim_laws.specs.merged_scopes.Numbers.{numbers_of_sigs, numbers_of_method_sig, numbers_of_owner, numbers_of_method, numbers_of_field}
use Rattle.merge_laws.proofs.lemmas.merged_owners.Homes.{own_home}
use Rattle.merge_laws.proofs.lemmas.merged_owners.Every.{Every, all_none, all_one, all_join, all_flat, all_option}
use Rattle.merge_laws.proofs.lemmas.merged_tokens.Keys.{known_good}
use Rattle.merge_laws.proofs.lemmas.merged_standing.Found.{run_has}
use Rattle.merge_laws.proofs.lemmas.merged_standing.Low.{bound, Low, IsLow}
use Rattle.merge_laws.proofs.lemmas.merged_standing.Owners.{method_owner_low, field_owner_low}
use Rattle.trim_laws.proofs.lemmas.merged_scopes.Chains.{one_of}
use Rattle.trim_laws.proofs.lemmas.merged_scopes.Numbers.{sig_reads, method_sig_reads, owner_reads}

last_true : (b c : Bool) → (b && c) ≡ true → c ≡ true
last_true true c h = h
last_true false c h = absurd (cc)

method_good : (targs : List TypeExpr) (wanted : MethodType) (k : Known MethodType) → is_method_type targs wanted k ≡ true → (t : MethodType) × (k ≡ Good t)
method_good targs wanted (Good t) h = (t, refl)
method_good targs wanted (Bad why) h = absurd (cc)

field_good : (targs : List TypeExpr) (wanted : TypeExpr) (k : Known TypeExpr) → is_field_type targs wanted k ≡ true → (e : TypeExpr) × (k ≡ Good e)
field_good targs wanted (Good e) h = (e, refl)
field_good targs wanted (Bad why) h = absurd (cc)

good_is : {A : Type 0} (x : Known A) (y : A) → good x ≡ Some y → x ≡ Good y
good_is (Good z) y e = let same : z ≡ y = cc in ap Good same
good_is (Bad why) y e = absurd (cc)

module _ (recs : List AsmRec) where
  -- ---- the search from a parent

  module _ (Q : RowAt → Type 0) (look : TypeExpr → Option RowAt) (looks : (e : TypeExpr) (at : RowAt) → look e ≡ Some at → Q at) where
    next_has : (e : TypeExpr) (x : Found) (later : Option Found) (o : Option RowAt) → look e ≡ o → (later ≡ Some x → Q x.at) → or_next (option_map (found_in e) o) later ≡ Some x → Q x.at
    next_has e x later None f more h = more h
    next_has e x later (Some at) f more h = let same : found_in e at ≡ x = cc in subst (λ (y : Found). Q y.at) same (looks e at f)

    search_has : (es : List TypeExpr) (x : Found) → search look es ≡ Some x → Q x.at
    unfolding search
    search_has [] x h = absurd (cc)
    search_has (e ∷ es) x h = next_has e x (search look es) (look e) refl (search_has es x) h

    closed_has : (parent : TypeExpr) (es : List TypeExpr) (x : Found) → option_map (closed parent) (search look es) ≡ Some x → Q x.at
    closed_has parent es x h =
        let m = map_some (closed parent) (search look es) x h in
        subst (λ (y : Found). Q y.at) m.2 (search_has es m.0 m.1)

  module _ (P : ℕ → Type 0) (there_so : (t : TypeId) → t.0 < bound recs → P (suc t.0)) where
    abbrev All : List ℕ → Type 0
    All ns = Every P ns

    -- ---- methods

    abbrev OfSig : MethodSig → Type 0
    OfSig s = All (numbers_of_method_sig s)

    -- a method's row, whose signature names types of the world
    pub record MethodRead (at : RowAt) : Type 0 where
      pub rec : AsmRec
      pub there : slice_get recs at.asm ≡ Some rec
      pub row : MethodDefRow
      pub is : slice_get rec.method_def at.row ≡ Some row
      pub own : Every OfSig (own_method_sig recs at)

    known_read : (a : ℕ) (rec : AsmRec) (s : Known MethodSig) (t : MethodType) → slice_get recs a ≡ Some rec → known_then (method_type (names_at recs a rec)) s ≡ Good t → Every OfSig (map (world_method_sig recs a rec) (known_list s))
    known_read a rec (Good s) t there h = all_one OfSig (world_method_sig recs a rec s) (method_sig_reads recs P there_so a rec there s t h)
    known_read a rec (Bad why) t there h = absurd (cc)

    own_read : (at : RowAt) (rec : AsmRec) (row : MethodDefRow) (t : MethodType) → slice_get recs at.asm ≡ Some rec → slice_get rec.method_def at.row ≡ Some row
        → known_then (method_type (names_at recs at.asm rec)) row.signature ≡ Good t → Every OfSig (own_method_sig recs at)
    own_read at rec row t there is h =
        all_option OfSig (λ (r : AsmRec). flat_map (λ (m : MethodDefRow). map (world_method_sig recs at.asm r) (known_list m.signature)) (listed (slice_get r.method_def at.row))) (rec_at recs at)
        (λ r e.
        let same : rec ≡ r = one_of (slice_get recs at.asm) rec r there e in
        subst (λ (x : AsmRec). Every OfSig (flat_map (λ (m : MethodDefRow). map (world_method_sig recs at.asm x) (known_list m.signature)) (listed (slice_get x.method_def at.row)))) same
        (all_option OfSig (λ (m : MethodDefRow). map (world_method_sig recs at.asm rec) (known_list m.signature)) (slice_get rec.method_def at.row)
        (λ m f.
        let one : row ≡ m = one_of (slice_get rec.method_def at.row) row m is f in
        subst (λ (y : MethodDefRow). Every OfSig (map (world_method_sig recs at.asm rec) (known_list y.signature))) one (known_read at.asm rec row.signature t there h))))

    method_looked : (name : List ℕ) (wanted : MethodType) (e : TypeExpr) (at : RowAt) → method_of_type recs name wanted e ≡ Some at → MethodRead at
    unfolding method_of_type
    method_looked name wanted e at h =
        let look : RowAt → AsmRec → TypeDefRow → Option RowAt =
        λ home rec t. option_map (at_row home.asm) (find_in_run (is_method recs home.asm rec (args_of e) name wanted) t.method_list_first t.method_list_end rec.method_def) in
        let d = finds.defined recs look e at h in
        let k = map_some (at_row d.home.asm) (find_in_run (is_method recs d.home.asm d.rec (args_of e) name wanted) d.row.method_list_first d.row.method_list_end d.rec.method_def) at d.found in
        let r = run_has (is_method recs d.home.asm d.rec (args_of e) name wanted) d.row.method_list_first d.row.method_list_end d.rec.method_def k.0 k.1 in
        let type : Known MethodType = known_then (method_type (names_at recs d.home.asm d.rec)) r.0.signature in
        let g = method_good (args_of e) wanted type (last_true (same_name r.0.name name && not (is_compiler_controlled r.0.flags)) (is_method_type (args_of e) wanted type) r.2) in
        subst MethodRead k.2 (record { rec = d.rec; there = d.there; row = r.0; is = r.1; own = own_read (at_row d.home.asm k.0) d.rec r.0 g.0 d.there r.1 g.1 })

    pub record MethodHome (m : MethodId) : Type 0 where
      pub at : RowAt
      pub home : method_at recs m ≡ Some at
      pub read : MethodRead at

    method_home : (at : RowAt) (m : MethodId) → MethodRead at → record { 0 = rows_before methods_in recs at.asm + at.row } ≡ m → MethodHome m
    method_home at m r e = subst MethodHome e (record { at = at; home = own_home methods_in recs at r.rec r.there (place_within r.rec.method_def at.row r.row r.is); read = r })

    method_by : (x : Found) (u : MethodUse) → MethodRead x.at → (b : Bool)
        → (if b then Bad (Outside 5) else Good (record { method = record { 0 = rows_before methods_in recs x.at.asm + x.at.row }; owner = x.owner; args = [] })) ≡ Good u → MethodHome u.method
    method_by x u h true e = absurd (cc)
    method_by x u h false e =
        let same : record { method = record { 0 = rows_before methods_in recs x.at.asm + x.at.row }; owner = x.owner; args = [] } ≡ u = cc in
        method_home x.at u.method h (ap (λ (v : MethodUse). v.method) same)

    method_used : (o : Option Found) (u : MethodUse) → ((x : Found) → o ≡ Some x → MethodRead x.at) → method_use recs o ≡ Good u → MethodHome u.method
    method_used None u h e = absurd (cc)
    method_used (Some x) u h e = method_by x u (h x refl) (nat_lt most_levels (levels x.owner)) e

    method_found : (parent : TypeExpr) (name : List ℕ) (wanted : MethodType) (x : Found) → find_method recs parent name wanted ≡ Some x → MethodRead x.at
    unfolding find_method
    method_found parent name wanted x h = closed_has MethodRead (method_of_type recs name wanted) (method_looked name wanted) parent (with_bases recs (open_parent recs parent)) x h

    -- ---- fields

    abbrev OfField : Sig → Type 0
    OfField s = All (numbers_in s)

    pub record FieldRead (at : RowAt) : Type 0 where
      pub rec : AsmRec
      pub there : slice_get recs at.asm ≡ Some rec
      pub row : FieldRow
      pub is : slice_get rec.field at.row ≡ Some row
      pub own : Every OfField (own_field_sig recs at)

    known_field : (a : ℕ) (rec : AsmRec) (s : Known Sig) (e : TypeExpr) → slice_get recs a ≡ Some rec → known_then (sig_expr (names_at recs a rec)) s ≡ Good e → Every OfField (map (world_sig recs a rec) (known_list s))
    known_field a rec (Good s) e there h = all_one OfField (world_sig recs a rec s) (sig_reads recs P there_so a rec there s e h)
    known_field a rec (Bad why) e there h = absurd (cc)

    own_field_read : (at : RowAt) (rec : AsmRec) (row : FieldRow) (e : TypeExpr) → slice_get recs at.asm ≡ Some rec → slice_get rec.field at.row ≡ Some row
        → known_then (sig_expr (names_at recs at.asm rec)) row.signature ≡ Good e → Every OfField (own_field_sig recs at)
    own_field_read at rec row e there is h =
        all_option OfField (λ (r : AsmRec). flat_map (λ (f : FieldRow). map (world_sig recs at.asm r) (known_list f.signature)) (listed (slice_get r.field at.row))) (rec_at recs at)
        (λ r g.
        let same : rec ≡ r = one_of (slice_get recs at.asm) rec r there g in
        subst (λ (x : AsmRec). Every OfField (flat_map (λ (f : FieldRow). map (world_sig recs at.asm x) (known_list f.signature)) (listed (slice_get x.field at.row)))) same
        (all_option OfField (λ (f : FieldRow). map (world_sig recs at.asm rec) (known_list f.signature)) (slice_get rec.field at.row)
        (λ f i.
        let one : row ≡ f = one_of (slice_get rec.field at.row) row f is i in
        subst (λ (y : FieldRow). Every OfField (map (world_sig recs at.asm rec) (known_list y.signature))) one (known_field at.asm rec row.signature e there h))))

    field_looked : (name : List ℕ) (wanted : TypeExpr) (e : TypeExpr) (at : RowAt) → field_of_type recs name wanted e ≡ Some at → FieldRead at
    unfolding field_of_type
    field_looked name wanted e at h =
        let look : RowAt → AsmRec → TypeDefRow → Option RowAt =
        λ home rec t. option_map (at_row home.asm) (find_in_run (is_field recs home.asm rec (args_of e) name wanted) t.field_list_first t.field_list_end rec.field) in
        let d = finds.defined recs look e at h in
        let k = map_some (at_row d.home.asm) (find_in_run (is_field recs d.home.asm d.rec (args_of e) name wanted) d.row.field_list_first d.row.field_list_end d.rec.field) at d.found in
        let r = run_has (is_field recs d.home.asm d.rec (args_of e) name wanted) d.row.field_list_first d.row.field_list_end d.rec.field k.0 k.1 in
        let type : Known TypeExpr = known_then (sig_expr (names_at recs d.home.asm d.rec)) r.0.signature in
        let g = field_good (args_of e) wanted type (last_true (same_name r.0.name name && not (is_compiler_controlled r.0.flags)) (is_field_type (args_of e) wanted type) r.2) in
        subst FieldRead k.2 (record { rec = d.rec; there = d.there; row = r.0; is = r.1; own = own_field_read (at_row d.home.asm k.0) d.rec r.0 g.0 d.there r.1 g.1 })

    pub record FieldHome (f : FieldId) : Type 0 where
      pub at : RowAt
      pub home : field_at recs f ≡ Some at
      pub read : FieldRead at

    field_home : (at : RowAt) (f : FieldId) → FieldRead at → record { 0 = rows_before fields_in recs at.asm + at.row } ≡ f → FieldHome f
    field_home at f r e = subst FieldHome e (record { at = at; home = own_home fields_in recs at r.rec r.there (place_within r.rec.field at.row r.row r.is); read = r })

    field_by : (x : Found) (u : FieldUse) → FieldRead x.at → (b : Bool)
        → (if b then Bad (Outside 5) else Good (record { field = record { 0 = rows_before fields_in recs x.at.asm + x.at.row }; owner = x.owner })) ≡ Good u → FieldHome u.field
    field_by x u h true e = absurd (cc)
    field_by x u h false e =
        let same : record { field = record { 0 = rows_before fields_in recs x.at.asm + x.at.row }; owner = x.owner } ≡ u = cc in
        field_home x.at u.field h (ap (λ (v : FieldUse). v.field) same)

    field_used : (o : Option Found) (u : FieldUse) → ((x : Found) → o ≡ Some x → FieldRead x.at) → field_use recs o ≡ Good u → FieldHome u.field
    field_used None u h e = absurd (cc)
    field_used (Some x) u h e = field_by x u (h x refl) (nat_lt most_levels (levels x.owner)) e

    field_found : (parent : TypeExpr) (name : List ℕ) (wanted : TypeExpr) (x : Found) → find_field recs parent name wanted ≡ Some x → FieldRead x.at
    unfolding find_field
    field_found parent name wanted x h = closed_has FieldRead (field_of_type recs name wanted) (field_looked name wanted) parent (with_bases recs (open_parent recs parent)) x h

    module _ (a : ℕ) (rec : AsmRec) (there : slice_get recs a ≡ Some rec) (array : (t : TypeId) → array_type recs ≡ Some t → IsLow recs t) where
      -- ---- what a token of a method names

      method_in : (row : MemberRefRow) (parent : TypeExpr) (s : MemberSig) (u : MethodUse) → method_in_parent recs a rec row parent s ≡ Good u → MethodHome u.method
      method_in row parent (member.Method s) u h =
          let k = known_good (λ (wanted : MethodType). method_use recs (find_method recs parent row.name wanted)) (method_type (names_at recs a rec) s) u h in
          method_used (find_method recs parent row.name k.0) u (method_found parent row.name k.0) k.2
      method_in row parent (member.Field s) u h = absurd (cc)

      method_kind : (row : MemberRefRow) (u : MethodUse) (b : Bool)
          → (if b then Bad Unresolved else known_then (λ (parent : TypeExpr). known_then (method_in_parent recs a rec row parent) row.signature) (parent_of recs a rec row)) ≡ Good u → MethodHome u.method
      method_kind row u true h = absurd (cc)
      method_kind row u false h =
          let p = known_good (λ (parent : TypeExpr). known_then (method_in_parent recs a rec row parent) row.signature) (parent_of recs a rec row) u h in
          let s = known_good (method_in_parent recs a rec row p.0) row.signature u p.2 in
          method_in row p.0 s.0 u s.2

      ref_method : (o : Option MemberRefRow) (u : MethodUse) → ref_use_at recs a rec o ≡ Good u → MethodHome u.method
      unfolding method_ref_use
      ref_method None u h = absurd (cc)
      ref_method (Some row) u h = method_kind row u (is_field_sig row.signature) h

      named_by : (token : ℕ) (u : MethodUse) (b c : Bool)
          → (if b then spec_use_at recs a rec (option_and_then (slice_get rec.method_spec) (index_in table.METHOD_SPEC token))
          else if c then def_use_at recs a rec (row_below (methods_in rec) (index_in table.METHOD_DEF token))
          else ref_use_at recs a rec (option_and_then (slice_get rec.member_ref) (index_in table.MEMBER_REF token))) ≡ Good u
          → b ≡ false → c ≡ false → MethodHome u.method
      named_by token u true c h e f = absurd (cc)
      named_by token u false true h e f = absurd (cc)
      named_by token u false false h e f = ref_method (option_and_then (slice_get rec.member_ref) (index_in table.MEMBER_REF token)) u h

      named_home : (token : ℕ) (u : MethodUse) → method_named recs a rec token ≡ Good u → (table_of token == table.METHOD_SPEC) ≡ false → (table_of token == table.METHOD_DEF) ≡ false → MethodHome u.method
      unfolding method_named generic_method
      named_home token u h = named_by token u (table_of token == table.METHOD_SPEC) (table_of token == table.METHOD_DEF) h

      sigs_of : (m : MethodId) → MethodHome m → Every OfSig (flat_map (own_method_sig recs) (listed (method_at recs m)))
      sigs_of m h = all_option OfSig (own_method_sig recs) (method_at recs m) (λ at e. let same : h.at ≡ at = one_of (method_at recs m) h.at at h.home e in subst (λ (x : RowAt). Every OfSig (own_method_sig recs x)) same h.read.own)

      method_if : (b : Bool) (u : MethodUse) → Low recs u.owner → MethodHome u.method → All (numbers_of_method recs (if b then own_method u.method else found_method u.method u.owner))
      method_if true u low h = all_none P
      method_if false u low h =
          let sigs : List MethodSig = flat_map (own_method_sig recs) (listed (method_at recs u.method)) in
          all_join P (numbers_of_owner recs u.owner) (flat_map numbers_of_method_sig sigs) (owner_reads recs P there_so u.owner low) (all_flat P numbers_of_method_sig sigs (sigs_of u.method h).each)

      method_key_by : (own : Bool) (u : MethodUse) → (own ≡ false → Low recs u.owner × MethodHome u.method) → All (numbers_of_method recs (method_key_of recs own u))
      method_key_by true u h = all_none P
      method_key_by false u h = let g = h refl in method_if (is_plain_owner recs u.owner) u g.0 g.1

      pub method_reads : (token : ℕ) (m : MethodKey) → (table_of token == table.METHOD_SPEC) ≡ false → method_key recs a rec token ≡ Some m → All (numbers_of_method recs m)
      unfolding method_key
      method_reads token m s h =
          let k = map_some (method_key_of recs (table_of token == table.METHOD_DEF)) (good (method_named recs a rec token)) m h in
          let n = good_is (method_named recs a rec token) k.0 k.1 in
          subst (λ (x : MethodKey). All (numbers_of_method recs x)) k.2 (method_key_by (table_of token == table.METHOD_DEF) k.0 (λ f. (method_owner_low recs array a rec there token k.0 n s f, named_home token k.0 n s f)))

      -- ---- of a field

      field_in : (row : MemberRefRow) (parent : TypeExpr) (s : MemberSig) (u : FieldUse) → field_in_parent recs a rec row parent s ≡ Good u → FieldHome u.field
      field_in row parent (member.Field s) u h =
          let k = known_good (λ (wanted : TypeExpr). field_use recs (find_field recs parent row.name wanted)) (sig_expr (names_at recs a rec) s) u h in
          field_used (find_field recs parent row.name k.0) u (field_found parent row.name k.0) k.2
      field_in row parent (member.Method s) u h = absurd (cc)

      field_kind : (row : MemberRefRow) (u : FieldUse) (b : Bool)
          → (if b then Bad Unresolved else known_then (λ (parent : TypeExpr). known_then (field_in_parent recs a rec row parent) row.signature) (parent_of recs a rec row)) ≡ Good u → FieldHome u.field
      field_kind row u true h = absurd (cc)
      field_kind row u false h =
          let p = known_good (λ (parent : TypeExpr). known_then (field_in_parent recs a rec row parent) row.signature) (parent_of recs a rec row) u h in
          let s = known_good (field_in_parent recs a rec row p.0) row.signature u p.2 in
          field_in row p.0 s.0 u s.2

      ref_field : (o : Option MemberRefRow) (u : FieldUse) → field_ref_at recs a rec o ≡ Good u → FieldHome u.field
      unfolding field_ref_use
      ref_field None u h = absurd (cc)
      ref_field (Some row) u h = field_kind row u (is_method_sig row.signature) h

      field_named_by : (token : ℕ) (u : FieldUse) (b : Bool)
          → (if b then field_def_at recs a rec (row_below (fields_in rec) (index_in table.FIELD token)) else field_ref_at recs a rec (option_and_then (slice_get rec.member_ref) (index_in table.MEMBER_REF token))) ≡ Good u
          → b ≡ false → FieldHome u.field
      field_named_by token u true h e = absurd (cc)
      field_named_by token u false h e = ref_field (option_and_then (slice_get rec.member_ref) (index_in table.MEMBER_REF token)) u h

      field_named_home : (token : ℕ) (u : FieldUse) → field_named recs a rec token ≡ Good u → (table_of token == table.FIELD) ≡ false → FieldHome u.field
      unfolding field_named
      field_named_home token u h = field_named_by token u (table_of token == table.FIELD) h

      field_sigs_of : (f : FieldId) → FieldHome f → Every OfField (flat_map (own_field_sig recs) (listed (field_at recs f)))
      field_sigs_of f h = all_option OfField (own_field_sig recs) (field_at recs f) (λ at e. let same : h.at ≡ at = one_of (field_at recs f) h.at at h.home e in subst (λ (x : RowAt). Every OfField (own_field_sig recs x)) same h.read.own)

      field_if : (b : Bool) (u : FieldUse) → Low recs u.owner → FieldHome u.field → All (numbers_of_field recs (if b then own_field u.field else found_field u.field u.owner))
      field_if true u low h = all_none P
      field_if false u low h =
          let sigs : List Sig = flat_map (own_field_sig recs) (listed (field_at recs u.field)) in
          all_join P (numbers_of_owner recs u.owner) (numbers_of_sigs sigs) (owner_reads recs P there_so u.owner low) (all_flat P numbers_in sigs (field_sigs_of u.field h).each)

      field_key_by : (own : Bool) (u : FieldUse) → (own ≡ false → Low recs u.owner × FieldHome u.field) → All (numbers_of_field recs (field_key_of recs own u))
      field_key_by true u h = all_none P
      field_key_by false u h = let g = h refl in field_if (is_plain_owner recs u.owner) u g.0 g.1

      pub field_reads : (token : ℕ) (f : FieldKey) → field_key recs a rec token ≡ Some f → All (numbers_of_field recs f)
      unfolding field_key
      field_reads token f h =
          let k = map_some (field_key_of recs (table_of token == table.FIELD)) (good (field_named recs a rec token)) f h in
          let n = good_is (field_named recs a rec token) k.0 k.1 in
          subst (λ (x : FieldKey). All (numbers_of_field recs x)) k.2 (field_key_by (table_of token == table.FIELD) k.0 (λ g. (field_owner_low recs array a rec there token k.0 n g, field_named_home token k.0 n g)))

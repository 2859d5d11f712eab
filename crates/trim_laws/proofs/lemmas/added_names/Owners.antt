-- The type in which a reference of an input finds a member has names that only modifiers use (II.7.1.1) in modifiers alone.
use Rattle.std.proofs.Common.{◌≡◌, ◌<◌, ℕ, zero, suc, ◌+◌, List, [], ◌∷◌, ◌++◌, length, map, Bool, true, false, nat_lt, not, Option, Some, None, ◌⊎◌, inl, inr, refl, sym, ap, subst, ◌∙◌, ◌||◌, arith}
use Rattle.std.specs.Prelude.{slice_get, ◌==◌, if◌then◌else◌}
use Rattle.std.specs.List.{Contains, list_all, range_with_len}
use Rattle.std.specs.Option.{option_map, option_and_then}
use Rattle.std.specs.Cmp.{first_so}
use Rattle.std.proofs.lemmas.Bool.{and_from, cases_order}
use Rattle.std.proofs.lemmas.List.{length-append}
use Rattle.il_base.specs.declared.ids.TypeId.{TypeId}
use Rattle.il_base.specs.declared.table.TheConstants as table
use Rattle.il_base.specs.declared.world_model.known.Known.{Known}
use Rattle.il_base.specs.declared.world_model.known.Known.TheVariants.{Good, Bad}
use Rattle.il_base.specs.declared.world_model.known.BadKind.TheVariants.{Unresolved, Outside}
use Rattle.il_base.specs.declared.world_model.expr.TypeExpr.{TypeExpr, out-TypeExpr}
use Rattle.il_base.specs.declared.world_model.expr.TypeExpr.TheFolds.{map-TypeExpr}
use Rattle.il_base.specs.declared.world_model.expr.TypeExpr.TheOpen.{TypeExpr-F}
use Rattle.il_base.specs.declared.world_model.expr.TypeExpr.TheVariants as expr
use Rattle.il_base.specs.declared.world_model.expr.MethodUse.{MethodUse}
use Rattle.il_base.specs.declared.world_model.expr.FieldUse.{FieldUse}
use Rattle.il_base.specs.declared.world_model.expr.MemberSig.{MemberSig}
use Rattle.il_base.specs.declared.world_model.expr.MemberSig.TheVariants as member
use Rattle.il_base.specs.declared.world_model.types.TypeDefRow.{TypeDefRow}
use Rattle.il_base.specs.declared.world_model.members.MemberRefRow.{MemberRefRow}
use Rattle.il_base.specs.declared.world_model.record.AsmRec.{AsmRec}
use Rattle.il_base.specs.world_model.Tokens.{table_of, index_in}
use Rattle.il_base.specs.world_model.Exprs as exprs
use Rattle.il_base.specs.world_model.Exprs.{levels}
use Rattle.il_base.specs.world_model.Worlds.{known_then, rows_before, row_below, sig_expr}
use Rattle.il_base.specs.core_table.Record.{core_record}
use Rattle.rules.specs.declared.link_rules.row_at.RowAt.{RowAt}
use Rattle.rules.specs.link_rules.CoreNames.{missing_names, core_with}
use Rattle.base_laws.proofs.lemmas.type_laws.Places.{place_within}
use Rattle.rules.specs.declared.link_rules.member_type.MethodType.{MethodType}
use Rattle.rules.specs.link_rules.Signatures.{names_at, token_type, method_type}
use Rattle.rules.specs.link_rules.Members.{type_home, array_type, owner_of, args_of, good_type, is_named, only_named, is_interface_row, base_in, base_at, base_of, bases_from, type_count, with_bases, Found, found_in, or_next, search, own_args, open_in, open_parent, closed, method_of_type, field_of_type, find_method, find_field, methods_in, fields_in, most_levels, method_use, field_use, is_field_sig, is_method_sig, parent_of, method_in_parent, field_in_parent, method_ref_use, field_ref_use, ref_use_at, def_use_at, generic_method}
use Rattle.base_laws.proofs.lemmas.known_laws.Lists.{first_in, later_in, and_then_some, map_some}
use Rattle.rules.specs.mark_rules.Naming.{spec_use_at, method_named, field_def_at, field_ref_at, field_named}
use Rattle.merge_laws.proofs.lemmas.merged_owners.Every.{Every, all_none, all_more}
use Rattle.rules.specs.link_rules.Linked.{assemblies}
use Rattle.run_laws.proofs.lemmas.marked_laws.Members.{array_not_added}
use Rattle.trim_laws.proofs.lemmas.added_names.Modifiers.{is_listed}
use Rattle.trim_laws.proofs.lemmas.added_names.Plain.{itself, plain_layer, is_plain, Plain, ArePlain, plain_out, plain_def, plain_var, inst_plain, put_plain}
use Rattle.trim_laws.proofs.lemmas.added_names.Listed.{is_low_token}
use Rattle.trim_laws.proofs.lemmas.added_names.Tokens.{known_good, token_plain}
use Rattle.trim_laws.proofs.lemmas.added_names.Core.{has_low_base, base_low, base_plain}

-- the last of a list
last_rec : {A : Type 0} (xs : List A) (c : A) (a : ℕ) (rec : A) → slice_get (xs ++ c ∷ []) a ≡ Some rec → suc a ≡ length (xs ++ c ∷ []) → rec ≡ c
last_rec [] c zero rec e l = cc
last_rec [] c (suc a) rec e l = absurd (cc)
last_rec (x ∷ xs) c zero rec e l = let n = length-append xs (c ∷ []) in absurd (omega (arith, l, n))
last_rec (x ∷ xs) c (suc a) rec e l = last_rec xs c a rec e (omega (arith, l))

module _ (inputs : List AsmRec) where
  abbrev recs : List AsmRec
  recs = assemblies inputs

  -- ---- bases

  only_by : (e b : TypeExpr) (c : Bool) → (if c then Some e else None) ≡ Some b → e ≡ b
  only_by e b true h = cc
  only_by e b false h = absurd (cc)

  named_base : (k : Known TypeExpr) (b : TypeExpr) → only_named (good_type k) ≡ Some b → k ≡ Good b
  named_base (Good e) b h = ap Good (only_by e b (is_named e) h)
  named_base (Bad why) b h = absurd (cc)

  row_base : (a : ℕ) (rec : AsmRec) (row : TypeDefRow) (b : TypeExpr) (c : Bool) → ((e : TypeExpr) → token_type recs a rec row.extends ≡ Good e → c ≡ false → Plain recs e)
      → (if c then None else only_named (good_type (token_type recs a rec row.extends))) ≡ Some b → Plain recs b
  row_base a rec row b true plain h = absurd (cc)
  row_base a rec row b false plain h = plain b (named_base (token_type recs a rec row.extends) b h) refl

  -- the base of a type of the core library
  low_extends : (token : ℕ) (z i : Bool) → (token == 0) ≡ z → (z || is_low_token token) ≡ true → (z || i) ≡ false → is_low_token token ≡ true
  low_extends token true i e low f = absurd (cc)
  low_extends token false i e low f = low

  pub core_here : (a : ℕ) (rec : AsmRec) → slice_get recs a ≡ Some rec → suc a ≡ length recs → rec ≡ core_with core_record (missing_names (inputs ++ core_record ∷ []))
  unfolding assemblies
  core_here a rec there last = last_rec inputs (core_with core_record (missing_names (inputs ++ core_record ∷ []))) a rec there last

  core_row_base : (a : ℕ) (rec : AsmRec) (k : ℕ) (row : TypeDefRow) (e : TypeExpr) → slice_get recs a ≡ Some rec → suc a ≡ length recs → slice_get rec.type_def k ≡ Some row → token_type recs a rec row.extends ≡ Good e
      → (row.extends == 0 || is_interface_row row) ≡ false → Plain recs e
  core_row_base a rec k row e there last row_there h c =
      let same = core_here a rec there last in
      let low : has_low_base row ≡ true = base_low (missing_names (inputs ++ core_record ∷ [])) k row (subst (λ (r : AsmRec). slice_get r.type_def k ≡ Some row) same row_there) in
      base_plain inputs a rec there row.extends e (low_extends row.extends (row.extends == 0) (is_interface_row row) refl low c) h

  row_base_by : (a : ℕ) (rec : AsmRec) (k : ℕ) (row : TypeDefRow) → slice_get recs a ≡ Some rec → slice_get rec.type_def k ≡ Some row → (suc a ≡ length recs) ⊎ ((suc a < length recs) ⊎ (length recs < suc a))
      → (e : TypeExpr) → token_type recs a rec row.extends ≡ Good e → (row.extends == 0 || is_interface_row row) ≡ false → Plain recs e
  row_base_by a rec k row there row_there (inl last) e h c = core_row_base a rec k row e there last row_there h c
  row_base_by a rec k row there row_there (inr (inl lt)) e h c = token_plain inputs a rec there lt row.extends e h
  row_base_by a rec k row there row_there (inr (inr gt)) e h c = let lt = place_within recs a rec there in absurd (omega (arith, lt, gt))

  base_at_plain : (at : RowAt) (b : TypeExpr) → base_at recs at ≡ Some b → Plain recs b
  base_at_plain at b h =
      let r = and_then_some (λ (rec : AsmRec). option_and_then (base_in recs at.asm rec) (slice_get rec.type_def at.row)) (slice_get recs at.asm) b h in
      let t = and_then_some (base_in recs at.asm r.0) (slice_get r.0.type_def at.row) b r.2 in
      row_base at.asm r.0 t.0 b (t.0.extends == 0 || is_interface_row t.0) (row_base_by at.asm r.0 at.row t.0 r.1 t.1 (cases_order (suc at.asm) (length recs))) t.2

  base_stays : (e b : TypeExpr) → Plain recs e → base_of recs e ≡ Some b → Plain recs b
  unfolding base_of
  base_stays e b low h =
      let m = map_some (exprs.subst (args_of e) []) (option_and_then (base_at recs) (option_and_then (type_home recs) (owner_of recs e))) b h in
      let at = and_then_some (base_at recs) (option_and_then (type_home recs) (owner_of recs e)) m.0 m.1 in
      subst (Plain recs) m.2 (put_plain recs e m.0 low (base_at_plain at.0 m.0 at.2))

  next_plain : (n : ℕ) (o : Option TypeExpr) → ((b : TypeExpr) → o ≡ Some b → Every (Plain recs) (bases_from recs n b)) → Every (Plain recs) (elim o [ None ↦ [] | Some b ↦ bases_from recs n b ])
  next_plain n None h = all_none (Plain recs)
  next_plain n (Some b) h = h b refl

  bases_plain : (n : ℕ) (e : TypeExpr) → Plain recs e → Every (Plain recs) (bases_from recs n e)
  unfolding bases_from
  bases_plain zero e h = all_none (Plain recs)
  bases_plain (suc n) e h =
      all_more (Plain recs) e (elim (base_of recs e) [ None ↦ [] | Some b ↦ bases_from recs n b ]) h (next_plain n (base_of recs e) (λ b is. bases_plain n b (base_stays e b h is)))

  -- ---- a parent with its own parameters

  vars_plain : (ns : List ℕ) → ArePlain recs (map (λ k. expr.Var k) ns)
  vars_plain [] = refl
  vars_plain (n ∷ ns) = and_from (is_plain recs (expr.Var n)) (list_all (itself recs) (map (is_plain recs) (map (λ k. expr.Var k) ns))) (plain_var recs n) (vars_plain ns)

  array_by : (e : TypeExpr) (o : Option TypeId) → array_type recs ≡ o → Plain recs e → Plain recs (elim o [ Some t ↦ expr.Def t | None ↦ e ])
  array_by e None f h = h
  array_by e (Some t) f h = plain_def recs t ∙ ap not (array_not_added inputs t f)

  open_by : (e : TypeExpr) (x : TypeExpr-F TypeExpr) → plain_layer recs (map-TypeExpr TypeExpr Bool (is_plain recs) x) ≡ true → Plain recs e → Plain recs (open_in recs e x)
  open_by e (TypeExpr-F.Inst t args) g h =
      inst_plain recs t (own_args (length args)) (first_so (is_listed recs (suc t.0)) (list_all (itself recs) (map (is_plain recs) args)) g) (vars_plain (range_with_len 0 (length args)))
  open_by e (TypeExpr-F.Array x) g h = array_by e (array_type recs) refl h
  open_by e (TypeExpr-F.Prim n) g h = h
  open_by e (TypeExpr-F.Def t) g h = h
  open_by e (TypeExpr-F.ByRef x) g h = h
  open_by e (TypeExpr-F.Var n) g h = h
  open_by e (TypeExpr-F.MVar n) g h = h
  open_by e (TypeExpr-F.Mod required by x) g h = h

  open_plain : (e : TypeExpr) → Plain recs e → Plain recs (open_parent recs e)
  unfolding open_parent
  open_plain e h = open_by e (out-TypeExpr e) (sym (plain_out recs e) ∙ h) h

  -- ---- what is found

  module _ (look : TypeExpr → Option RowAt) where
    next_owner : (e : TypeExpr) (x : Found) (later : Option Found) (o : Option RowAt) → Plain recs e → (later ≡ Some x → Plain recs x.owner) → or_next (option_map (found_in e) o) later ≡ Some x → Plain recs x.owner
    next_owner e x later None low more h = more h
    next_owner e x later (Some at) low more h = let same : found_in e at ≡ x = cc in subst (λ (y : Found). Plain recs y.owner) same low

    search_owner : (es : List TypeExpr) (x : Found) → ((e : TypeExpr) → Contains es e → Plain recs e) → search look es ≡ Some x → Plain recs x.owner
    unfolding search
    search_owner [] x low h = absurd (cc)
    search_owner (e ∷ es) x low h = next_owner e x (search look es) (look e) (low e (first_in e es)) (search_owner es x (λ y c. low y (later_in e es y c))) h

    closed_owner : (parent : TypeExpr) (x : Found) → Plain recs parent → option_map (closed parent) (search look (with_bases recs (open_parent recs parent))) ≡ Some x → Plain recs x.owner
    closed_owner parent x low h =
        let m = map_some (closed parent) (search look (with_bases recs (open_parent recs parent))) x h in
        let all = bases_plain (type_count recs) (open_parent recs parent) (open_plain parent low) in
        subst (λ (y : Found). Plain recs y.owner) m.2 (put_plain recs parent m.0.owner low (search_owner (with_bases recs (open_parent recs parent)) m.0 all.each m.1))

  -- ---- methods

  method_by : (x : Found) (u : MethodUse) → Plain recs x.owner → (b : Bool)
      → (if b then Bad (Outside 5) else Good (record { method = record { 0 = rows_before methods_in recs x.at.asm + x.at.row }; owner = x.owner; args = [] })) ≡ Good u → Plain recs u.owner
  method_by x u h true e = absurd (cc)
  method_by x u h false e =
      let same : record { method = record { 0 = rows_before methods_in recs x.at.asm + x.at.row }; owner = x.owner; args = [] } ≡ u = cc in
      subst (λ (v : MethodUse). Plain recs v.owner) same h

  method_used : (o : Option Found) (u : MethodUse) → ((x : Found) → o ≡ Some x → Plain recs x.owner) → method_use recs o ≡ Good u → Plain recs u.owner
  method_used None u h e = absurd (cc)
  method_used (Some x) u h e = method_by x u (h x refl) (nat_lt most_levels (levels x.owner)) e

  method_found : (parent : TypeExpr) (name : List ℕ) (wanted : MethodType) (x : Found) → Plain recs parent → find_method recs parent name wanted ≡ Some x → Plain recs x.owner
  unfolding find_method
  method_found parent name wanted x low h = closed_owner (method_of_type recs name wanted) parent x low h

  -- ---- fields

  field_by : (x : Found) (u : FieldUse) → Plain recs x.owner → (b : Bool)
      → (if b then Bad (Outside 5) else Good (record { field = record { 0 = rows_before fields_in recs x.at.asm + x.at.row }; owner = x.owner })) ≡ Good u → Plain recs u.owner
  field_by x u h true e = absurd (cc)
  field_by x u h false e =
      let same : record { field = record { 0 = rows_before fields_in recs x.at.asm + x.at.row }; owner = x.owner } ≡ u = cc in
      subst (λ (v : FieldUse). Plain recs v.owner) same h

  field_used : (o : Option Found) (u : FieldUse) → ((x : Found) → o ≡ Some x → Plain recs x.owner) → field_use recs o ≡ Good u → Plain recs u.owner
  field_used None u h e = absurd (cc)
  field_used (Some x) u h e = field_by x u (h x refl) (nat_lt most_levels (levels x.owner)) e

  field_found : (parent : TypeExpr) (name : List ℕ) (wanted : TypeExpr) (x : Found) → Plain recs parent → find_field recs parent name wanted ≡ Some x → Plain recs x.owner
  unfolding find_field
  field_found parent name wanted x low h = closed_owner (field_of_type recs name wanted) parent x low h

  module _ (a : ℕ) (rec : AsmRec) (there : slice_get recs a ≡ Some rec) (input : suc a < length recs) where
    method_in : (row : MemberRefRow) (parent : TypeExpr) (s : MemberSig) (u : MethodUse) → Plain recs parent → method_in_parent recs a rec row parent s ≡ Good u → Plain recs u.owner
    method_in row parent (member.Method s) u low h =
        let k = known_good (λ (wanted : MethodType). method_use recs (find_method recs parent row.name wanted)) (method_type (names_at recs a rec) s) u h in
        method_used (find_method recs parent row.name k.0) u (λ x. method_found parent row.name k.0 x low) k.2
    method_in row parent (member.Field s) u low h = absurd (cc)

    method_kind : (row : MemberRefRow) (u : MethodUse) (b : Bool)
        → (if b then Bad Unresolved else known_then (λ (parent : TypeExpr). known_then (method_in_parent recs a rec row parent) row.signature) (parent_of recs a rec row)) ≡ Good u → Plain recs u.owner
    method_kind row u true h = absurd (cc)
    method_kind row u false h =
        let p = known_good (λ (parent : TypeExpr). known_then (method_in_parent recs a rec row parent) row.signature) (parent_of recs a rec row) u h in
        let s = known_good (method_in_parent recs a rec row p.0) row.signature u p.2 in
        method_in row p.0 s.0 u (token_plain inputs a rec there input row.class p.0 p.1) s.2

    ref_method : (o : Option MemberRefRow) (u : MethodUse) → ref_use_at recs a rec o ≡ Good u → Plain recs u.owner
    unfolding method_ref_use
    ref_method None u h = absurd (cc)
    ref_method (Some row) u h = method_kind row u (is_field_sig row.signature) h

    named_by : (token : ℕ) (u : MethodUse) (b c : Bool)
        → (if b then spec_use_at recs a rec (option_and_then (slice_get rec.method_spec) (index_in table.METHOD_SPEC token))
        else if c then def_use_at recs a rec (row_below (methods_in rec) (index_in table.METHOD_DEF token))
        else ref_use_at recs a rec (option_and_then (slice_get rec.member_ref) (index_in table.MEMBER_REF token))) ≡ Good u
        → b ≡ false → c ≡ false → Plain recs u.owner
    named_by token u true c h e f = absurd (cc)
    named_by token u false true h e f = absurd (cc)
    named_by token u false false h e f = ref_method (option_and_then (slice_get rec.member_ref) (index_in table.MEMBER_REF token)) u h

    pub method_owner_plain : (token : ℕ) (u : MethodUse) → method_named recs a rec token ≡ Good u → (table_of token == table.METHOD_SPEC) ≡ false → (table_of token == table.METHOD_DEF) ≡ false → Plain recs u.owner
    unfolding method_named generic_method
    method_owner_plain token u h = named_by token u (table_of token == table.METHOD_SPEC) (table_of token == table.METHOD_DEF) h

    field_in : (row : MemberRefRow) (parent : TypeExpr) (s : MemberSig) (u : FieldUse) → Plain recs parent → field_in_parent recs a rec row parent s ≡ Good u → Plain recs u.owner
    field_in row parent (member.Field s) u low h =
        let k = known_good (λ (wanted : TypeExpr). field_use recs (find_field recs parent row.name wanted)) (sig_expr (names_at recs a rec) s) u h in
        field_used (find_field recs parent row.name k.0) u (λ x. field_found parent row.name k.0 x low) k.2
    field_in row parent (member.Method s) u low h = absurd (cc)

    field_kind : (row : MemberRefRow) (u : FieldUse) (b : Bool)
        → (if b then Bad Unresolved else known_then (λ (parent : TypeExpr). known_then (field_in_parent recs a rec row parent) row.signature) (parent_of recs a rec row)) ≡ Good u → Plain recs u.owner
    field_kind row u true h = absurd (cc)
    field_kind row u false h =
        let p = known_good (λ (parent : TypeExpr). known_then (field_in_parent recs a rec row parent) row.signature) (parent_of recs a rec row) u h in
        let s = known_good (field_in_parent recs a rec row p.0) row.signature u p.2 in
        field_in row p.0 s.0 u (token_plain inputs a rec there input row.class p.0 p.1) s.2

    ref_field : (o : Option MemberRefRow) (u : FieldUse) → field_ref_at recs a rec o ≡ Good u → Plain recs u.owner
    unfolding field_ref_use
    ref_field None u h = absurd (cc)
    ref_field (Some row) u h = field_kind row u (is_method_sig row.signature) h

    field_named_by : (token : ℕ) (u : FieldUse) (b : Bool)
        → (if b then field_def_at recs a rec (row_below (fields_in rec) (index_in table.FIELD token)) else field_ref_at recs a rec (option_and_then (slice_get rec.member_ref) (index_in table.MEMBER_REF token))) ≡ Good u
        → b ≡ false → Plain recs u.owner
    field_named_by token u true h e = absurd (cc)
    field_named_by token u false h e = ref_field (option_and_then (slice_get rec.member_ref) (index_in table.MEMBER_REF token)) u h

    pub field_owner_plain : (token : ℕ) (u : FieldUse) → field_named recs a rec token ≡ Good u → (table_of token == table.FIELD) ≡ false → Plain recs u.owner
    unfolding field_named
    field_owner_plain token u h = field_named_by token u (table_of token == table.FIELD) h

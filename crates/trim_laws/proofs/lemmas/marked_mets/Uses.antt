-- Members that are needed: they are kept, and so are the types of their own signatures and of the types in which they are found.
use Rattle.std.proofs.Common.{◌≡◌, ◌<◌, ℕ, suc, List, [], ◌++◌, length, map, Bool, true, false, nat_lt, Option, Some, None, refl, sym, ap, subst, ◌∙◌, arith}
use Rattle.std.specs.Prelude.{slice_get, ◌==◌, ◌||◌, if◌then◌else◌}
use Rattle.std.specs.List.{Contains, flat_map}
use Rattle.std.specs.Option.{is_some, option_and_then, option_map}
use Rattle.std.proofs.lemmas.Bool.{ltb-true, ltb-false}
use Rattle.std.proofs.lemmas.List.Elements.{Contains-append_left, Contains-append_right}
use Rattle.il_base.specs.declared.ids.MethodId.{MethodId}
use Rattle.il_base.specs.declared.ids.FieldId.{FieldId}
use Rattle.il_base.specs.declared.ids.Item.{Item}
use Rattle.il_base.specs.declared.ids.Item.TheVariants as item
use Rattle.il_base.specs.declared.sig.Sig.{Sig}
use Rattle.il_base.specs.declared.sig.MethodSig.{MethodSig}
use Rattle.il_base.specs.declared.table.TheConstants as table
use Rattle.descriptor_file.specs.declared.root.Root.{Root}
use Rattle.il_base.specs.declared.world_model.known.Known.{Known}
use Rattle.il_base.specs.declared.world_model.known.Known.TheVariants.{Good, Bad}
use Rattle.il_base.specs.declared.world_model.expr.TypeExpr.{TypeExpr}
use Rattle.il_base.specs.declared.world_model.expr.MethodUse.{MethodUse}
use Rattle.il_base.specs.declared.world_model.expr.FieldUse.{FieldUse}
use Rattle.il_base.specs.declared.world_model.members.FieldRow.{FieldRow}
use Rattle.il_base.specs.declared.world_model.members.MethodDefRow.{MethodDefRow}
use Rattle.il_base.specs.declared.world_model.members.MethodSpecRow.{MethodSpecRow}
use Rattle.il_base.specs.declared.world_model.record.AsmRec.{AsmRec}
use Rattle.il_base.specs.world_model.Tokens.{token_of, table_of, index_in}
use Rattle.il_base.specs.world_model.Worlds.{known_map, known_then}
use Rattle.rules.specs.declared.link_rules.row_at.RowAt.{RowAt}
use Rattle.rules.specs.link_rules.Cycles.{listed}
use Rattle.rules.specs.link_rules.Signatures.{names_at}
use Rattle.rules.specs.link_rules.Members.{generic_method, instantiated, arguments_of, method_spec_use}
use Rattle.rules.specs.type_rules.Rows.{rec_at}
use Rattle.base_laws.proofs.lemmas.type_laws.Places.{place_within}
use Rattle.base_laws.proofs.lemmas.known_laws.Lists.{first_in, later_in, to_option, and_then_some, map_some}
use Rattle.rules.specs.mark_rules.Facts.Fact.{marked}
use Rattle.rules.specs.mark_rules.Places.{row_of, is_core}
use Rattle.rules.specs.mark_rules.Naming.{Part, of_expr, of_exprs, of_method_use, of_field_use, sig_parts, method_sig_parts, spec_use_at, method_named, field_named}
use Rattle.rules.specs.mark_rules.Types.{parts_of_field, constraints_of}
use Rattle.rules.specs.mark_rules.Bodies.{body_of, is_read, body_parts}
use Rattle.rules.specs.mark_rules.Calls.{row_parts, parts_of_method}
use Rattle.rules.specs.mark_rules.Shown.{parts_of_item}
use Rattle.rules.specs.mark_rules.Marking.{Marks}
use Rattle.rules.specs.mark_rules.BadItems.{IsFirstFlaw}
use Rattle.rules.specs.merge_rules.Numbers.{Kept}
use Rattle.rules.specs.merge_rules.Keys.{MethodKey, own_method, found_method, FieldKey, own_field, found_field, InstanceKey, good, is_plain_owner, method_key_of, field_key_of, world_sig, world_sigs, world_method_sig, method_key, field_key, instance_by, instance_key}
use Rattle.rules.specs.merge_rules.Order.{Met, met_method, met_field, met_instance, met_callee, met_field_token}
use Rattle.rules.specs.merge_rules.Refs.{known_list, own_method_sig, own_field_sig, method_at, field_at, types_of_sig, types_of_sigs, types_of_method_sig, types_of_owner, types_of_method, types_of_field, types_of_met}
use Rattle.merge_laws.specs.merged_owners.Laws.{AreMarked, AreKept}
use Rattle.merge_laws.proofs.lemmas.merged_owners.Every.{Every, all_none, all_one, all_join, all_listed, all_flat, all_option, all_map}
use Rattle.merge_laws.specs.merged_record.Laws.{InputsAreRecords}
use Rattle.merge_laws.proofs.lemmas.merged_record.Tokens.{of_coded}
use Rattle.il_base.specs.declared.cli_format.column.CodedIndex.TheVariants.{MethodDefOrRef}
use Rattle.merge_laws.proofs.lemmas.merged_signatures.Reading.{good_map, good_then}
use Rattle.merge_laws.proofs.lemmas.merged_tokens.OwnMethods.{home_named}
use Rattle.merge_laws.proofs.lemmas.merged_tokens.Bodies.{no_spec}
use Rattle.trim_laws.specs.marked_merge_rules.Reads.{method_of_key, field_of_key, members_met}
use Rattle.trim_laws.proofs.lemmas.marked_mets.Stays.{Stays, StayAll, Stay, Needed, expr_stays, exprs_stay}
use Rattle.trim_laws.proofs.lemmas.marked_mets.Tokens.{core_token}
use Rattle.trim_laws.proofs.lemmas.marked_mets.Signatures.{any_stays, any_method_stays, sigs_stay}
use Rattle.trim_laws.proofs.lemmas.marked_mets.Owners.{owner_stays}
use Rattle.trim_laws.proofs.lemmas.marked_mets.Parts.{sig_part, method_sig_part}
use Rattle.trim_laws.proofs.lemmas.marked_mets.Fields.{field_home}

first_or : (b c : Bool) → b ≡ true → (b || c) ≡ true
first_or true c h = refl
first_or false c h = absurd (cc)

-- the core library refers to nothing (II.22.38)
abbrev pub CoreIsBare : List AsmRec → Type 0
CoreIsBare recs = (a : ℕ) (rec : AsmRec) → slice_get recs a ≡ Some rec → suc a ≡ length recs → rec.type_ref ≡ []

-- an item that is kept, or the core library's
abbrev pub Holds : List AsmRec → Kept → Item → Type 0
Holds recs kept i = (kept i || is_core recs i) ≡ true

-- What is met of inputs is kept.
pub record Fine (recs : List AsmRec) (kept : Kept) (x : Met) : Type 0 where
  pub types : StayAll recs kept (types_of_met recs x)
  pub members : Every (Holds recs kept) (members_met x)

module _ (recs : List AsmRec) (kept : Kept) (bare : CoreIsBare recs) (entry : Option RowAt) (roots : List Root) (stays : AreKept recs entry roots kept) (marks : AreMarked recs entry roots kept)
    (good_all : IsFirstFlaw recs entry (Marks recs entry roots) None) where
  -- ---- own signatures of needed members

  module _ (m : MethodId) (needed : Marks recs entry roots (marked (item.Method m))) (at : RowAt) (home : method_at recs m ≡ Some at) (rec : AsmRec) (there : slice_get recs at.asm ≡ Some rec) (d : MethodDefRow)
      (is : slice_get rec.method_def at.row ≡ Some d) (s : MethodSig) (has : d.signature ≡ Good s) where
    abbrev place : ℕ
    place = token_of table.METHOD_DEF (suc at.row)

    in_row : (p : Part) → Contains (method_sig_parts recs at.asm rec place d.signature) p → Contains (parts_of_item recs (item.Method m) at) p
    unfolding parts_of_method
    in_row p c =
        to_option (λ (r : AsmRec). flat_map (row_parts recs at r) (listed (slice_get r.method_def at.row))) (rec_at recs at) rec p there
        (to_option (row_parts recs at rec) (slice_get rec.method_def at.row) d p is
        (Contains-append_left (method_sig_parts recs at.asm rec place d.signature ++ constraints_of recs at.asm rec place) (flat_map (body_parts recs at.asm rec place (is_read d.signature)) (body_of d)) p
        (Contains-append_left (method_sig_parts recs at.asm rec place d.signature) (constraints_of recs at.asm rec place) p c)))

    input_sig : suc at.asm < length recs → StayAll recs kept (types_of_method_sig (world_method_sig recs at.asm rec s))
    unfolding row_of
    input_sig lt =
        method_sig_part recs kept entry roots stays marks good_all (item.Method m) at rec home (stays (item.Method m) (ap (λ (o : Option RowAt). is_some o) home) needed) there lt place d.signature s has in_row

    sig_by : (b : Bool) → nat_lt (suc at.asm) (length recs) ≡ b → StayAll recs kept (types_of_method_sig (world_method_sig recs at.asm rec s))
    sig_by true e = input_sig (ltb-true (suc at.asm) (length recs) e)
    sig_by false e =
        let le = ltb-false (suc at.asm) (length recs) e in
        let lt = place_within recs at.asm rec there in
        let last : suc at.asm ≡ length recs = omega (arith, le, lt) in
        any_method_stays recs kept at.asm rec (core_token recs kept at.asm rec last (bare at.asm rec there last)) s

    own_sig : StayAll recs kept (types_of_method_sig (world_method_sig recs at.asm rec s))
    own_sig = sig_by (nat_lt (suc at.asm) (length recs)) refl

  method_sigs : (m : MethodId) → Marks recs entry roots (marked (item.Method m)) → StayAll recs kept (flat_map types_of_method_sig (flat_map (own_method_sig recs) (listed (method_at recs m))))
  method_sigs m needed =
      all_flat (Stays recs kept) types_of_method_sig (flat_map (own_method_sig recs) (listed (method_at recs m)))
      (λ s c.
      (all_option (λ (x : MethodSig). StayAll recs kept (types_of_method_sig x)) (own_method_sig recs) (method_at recs m)
      (λ at home.
      all_option (λ (x : MethodSig). StayAll recs kept (types_of_method_sig x)) (λ (rec : AsmRec). flat_map (λ (d : MethodDefRow). map (world_method_sig recs at.asm rec) (known_list d.signature)) (listed (slice_get rec.method_def at.row))) (rec_at recs at)
      (λ rec there.
      all_option (λ (x : MethodSig). StayAll recs kept (types_of_method_sig x)) (λ (d : MethodDefRow). map (world_method_sig recs at.asm rec) (known_list d.signature)) (slice_get rec.method_def at.row)
      (λ d is. known_by at home rec there d is d.signature refl)))).each s c)
    where
      known_by : (at : RowAt) → method_at recs m ≡ Some at → (rec : AsmRec) → slice_get recs at.asm ≡ Some rec → (d : MethodDefRow) → slice_get rec.method_def at.row ≡ Some d → (k : Known MethodSig) → d.signature ≡ k
          → Every (λ (x : MethodSig). StayAll recs kept (types_of_method_sig x)) (map (world_method_sig recs at.asm rec) (known_list k))
      known_by at home rec there d is (Good s) has = all_one (λ (x : MethodSig). StayAll recs kept (types_of_method_sig x)) (world_method_sig recs at.asm rec s) (own_sig m needed at home rec there d is s has)
      known_by at home rec there d is (Bad why) has = all_none (λ (x : MethodSig). StayAll recs kept (types_of_method_sig x))

  module _ (f : FieldId) (needed : Marks recs entry roots (marked (item.Field f))) (at : RowAt) (home : field_at recs f ≡ Some at) (rec : AsmRec) (there : slice_get recs at.asm ≡ Some rec) (d : FieldRow)
      (is : slice_get rec.field at.row ≡ Some d) (s : Sig) (has : d.signature ≡ Good s) where
    abbrev field_place : ℕ
    field_place = token_of table.FIELD (suc at.row)

    in_field : (p : Part) → Contains (sig_parts recs at.asm rec field_place d.signature) p → Contains (parts_of_item recs (item.Field f) at) p
    unfolding parts_of_field
    in_field p c =
        to_option (λ (r : AsmRec). flat_map (λ (x : FieldRow). sig_parts recs at.asm r field_place x.signature) (listed (slice_get r.field at.row))) (rec_at recs at) rec p there
        (to_option (λ (x : FieldRow). sig_parts recs at.asm rec field_place x.signature) (slice_get rec.field at.row) d p is c)

    input_field : suc at.asm < length recs → StayAll recs kept (types_of_sig (world_sig recs at.asm rec s))
    unfolding row_of
    input_field lt =
        sig_part recs kept entry roots stays marks good_all (item.Field f) at rec home (stays (item.Field f) (ap (λ (o : Option RowAt). is_some o) home) needed) there lt field_place d.signature s has in_field

    field_by : (b : Bool) → nat_lt (suc at.asm) (length recs) ≡ b → StayAll recs kept (types_of_sig (world_sig recs at.asm rec s))
    field_by true e = input_field (ltb-true (suc at.asm) (length recs) e)
    field_by false e =
        let le = ltb-false (suc at.asm) (length recs) e in
        let lt = place_within recs at.asm rec there in
        let last : suc at.asm ≡ length recs = omega (arith, le, lt) in
        any_stays recs kept at.asm rec (core_token recs kept at.asm rec last (bare at.asm rec there last)) s

    own_field_stays : StayAll recs kept (types_of_sig (world_sig recs at.asm rec s))
    own_field_stays = field_by (nat_lt (suc at.asm) (length recs)) refl

  field_sigs : (f : FieldId) → Marks recs entry roots (marked (item.Field f)) → StayAll recs kept (types_of_sigs (flat_map (own_field_sig recs) (listed (field_at recs f))))
  field_sigs f needed =
      all_flat (Stays recs kept) types_of_sig (flat_map (own_field_sig recs) (listed (field_at recs f)))
      (λ s c.
      (all_option (λ (x : Sig). StayAll recs kept (types_of_sig x)) (own_field_sig recs) (field_at recs f)
      (λ at home.
      all_option (λ (x : Sig). StayAll recs kept (types_of_sig x)) (λ (rec : AsmRec). flat_map (λ (d : FieldRow). map (world_sig recs at.asm rec) (known_list d.signature)) (listed (slice_get rec.field at.row))) (rec_at recs at)
      (λ rec there.
      all_option (λ (x : Sig). StayAll recs kept (types_of_sig x)) (λ (d : FieldRow). map (world_sig recs at.asm rec) (known_list d.signature)) (slice_get rec.field at.row)
      (λ d is. known_by at home rec there d is d.signature refl)))).each s c)
    where
      known_by : (at : RowAt) → field_at recs f ≡ Some at → (rec : AsmRec) → slice_get recs at.asm ≡ Some rec → (d : FieldRow) → slice_get rec.field at.row ≡ Some d → (k : Known Sig) → d.signature ≡ k
          → Every (λ (x : Sig). StayAll recs kept (types_of_sig x)) (map (world_sig recs at.asm rec) (known_list k))
      known_by at home rec there d is (Good s) has = all_one (λ (x : Sig). StayAll recs kept (types_of_sig x)) (world_sig recs at.asm rec s) (own_field_stays f needed at home rec there d is s has)
      known_by at home rec there d is (Bad why) has = all_none (λ (x : Sig). StayAll recs kept (types_of_sig x))

  -- ---- keys

  -- a needed method, by its row or with the type in which it is found
  pub record KeyFine (k : MethodKey) : Type 0 where
    pub types : StayAll recs kept (types_of_method recs k)
    pub members : Every (Holds recs kept) (method_of_key k)

  pub record FieldKeyFine (k : FieldKey) : Type 0 where
    pub types : StayAll recs kept (types_of_field recs k)
    pub members : Every (Holds recs kept) (field_of_key k)

  key_by : (u : MethodUse) → Marks recs entry roots (marked (item.Method u.method)) → Stay recs kept u.owner → Holds recs kept (item.Method u.method) → (b : Bool) → KeyFine (if b then own_method u.method else found_method u.method u.owner)
  key_by u needed owner holds true = record { types = all_none (Stays recs kept); members = all_one (Holds recs kept) (item.Method u.method) holds }
  key_by u needed owner holds false = record {
    types =
        all_join (Stays recs kept) (types_of_owner recs u.owner) (flat_map types_of_method_sig (flat_map (own_method_sig recs) (listed (method_at recs u.method)))) (owner_stays recs kept u.owner owner) (method_sigs u.method needed);
    members = all_one (Holds recs kept) (item.Method u.method) holds;
  }

  pub key_fine : (own : Bool) (u : MethodUse) → Marks recs entry roots (marked (item.Method u.method)) → Stay recs kept u.owner → Holds recs kept (item.Method u.method) → KeyFine (method_key_of recs own u)
  key_fine own u needed owner holds = key_by u needed owner holds (own || is_plain_owner recs u.owner)

  field_key_by : (u : FieldUse) → Marks recs entry roots (marked (item.Field u.field)) → Stay recs kept u.owner → Holds recs kept (item.Field u.field) → (b : Bool) → FieldKeyFine (if b then own_field u.field else found_field u.field u.owner)
  field_key_by u needed owner holds true = record { types = all_none (Stays recs kept); members = all_one (Holds recs kept) (item.Field u.field) holds }
  field_key_by u needed owner holds false = record {
    types = all_join (Stays recs kept) (types_of_owner recs u.owner) (types_of_sigs (flat_map (own_field_sig recs) (listed (field_at recs u.field)))) (owner_stays recs kept u.owner owner) (field_sigs u.field needed);
    members = all_one (Holds recs kept) (item.Field u.field) holds;
  }

  -- ---- tokens of needed members, in an input

  abbrev UseNeeded : MethodUse → Type 0
  UseNeeded u = Needed recs kept entry roots stays (of_method_use u)

  abbrev FieldNeeded : FieldUse → Type 0
  FieldNeeded u = Needed recs kept entry roots stays (of_field_use u)

  method_first : (u : MethodUse) → UseNeeded u → Marks recs entry roots (marked (item.Method u.method))
  method_first u h = h (marked (item.Method u.method)) (first_in (marked (item.Method u.method)) (of_expr u.owner ++ of_exprs u.args))

  method_owner : (u : MethodUse) → UseNeeded u → Stay recs kept u.owner
  method_owner u h =
      expr_stays recs kept entry roots stays u.owner
      (λ f c. h f (later_in (marked (item.Method u.method)) (of_expr u.owner ++ of_exprs u.args) f (Contains-append_left (of_expr u.owner) (of_exprs u.args) f c)))

  method_args : (u : MethodUse) → UseNeeded u → Every (Stay recs kept) u.args
  method_args u h =
      exprs_stay recs kept entry roots stays u.args
      (λ f c. h f (later_in (marked (item.Method u.method)) (of_expr u.owner ++ of_exprs u.args) f (Contains-append_right (of_expr u.owner) (of_exprs u.args) f c)))

  field_first : (u : FieldUse) → FieldNeeded u → Marks recs entry roots (marked (item.Field u.field))
  field_first u h = h (marked (item.Field u.field)) (first_in (marked (item.Field u.field)) (of_expr u.owner))

  field_owner : (u : FieldUse) → FieldNeeded u → Stay recs kept u.owner
  field_owner u h = expr_stays recs kept entry roots stays u.owner (λ f c. h f (later_in (marked (item.Field u.field)) (of_expr u.owner) f c))

  pub kept_holds : (i : Item) (at : RowAt) → row_of recs i ≡ Some at → Marks recs entry roots (marked i) → Holds recs kept i
  kept_holds i at home needed = first_or (kept i) (is_core recs i) (stays i (ap (λ (o : Option RowAt). is_some o) home) needed)

  good_is : {A : Type 0} (x : Known A) (y : A) → good x ≡ Some y → x ≡ Good y
  good_is (Good z) y e = let same : z ≡ y = cc in ap Good same
  good_is (Bad why) y e = absurd (cc)

  one_use : {A : Type 0} (x : Known A) (u v : A) → x ≡ Good u → x ≡ Good v → u ≡ v
  one_use x u v e f = let g : Good u ≡ Good v = sym e ∙ f in cc

  module _ (records : InputsAreRecords recs) (a : ℕ) (rec : AsmRec) (there : slice_get recs a ≡ Some rec) (input : suc a < length recs) where
    method_key_fine : (token : ℕ) (u : MethodUse) (k : MethodKey) → method_named recs a rec token ≡ Good u → UseNeeded u → method_key recs a rec token ≡ Some k → KeyFine k
    unfolding method_key
    method_key_fine token u k named needed h =
        let m = map_some (method_key_of recs (table_of token == table.METHOD_DEF)) (good (method_named recs a rec token)) k h in
        let same : u ≡ m.0 = one_use (method_named recs a rec token) u m.0 named (good_is (method_named recs a rec token) m.0 m.1) in
        let home = home_named recs a rec there input token u named in
        subst KeyFine m.2
        (subst (λ (v : MethodUse). KeyFine (method_key_of recs (table_of token == table.METHOD_DEF) v)) same
        (key_fine (table_of token == table.METHOD_DEF) u (method_first u needed) (method_owner u needed) (kept_holds (item.Method u.method) home.0 home.1 (method_first u needed))))

    -- ---- methods with arguments

    named_spec : (token : ℕ) → (table_of token == table.METHOD_SPEC) ≡ true → method_named recs a rec token ≡ spec_use_at recs a rec (option_and_then (slice_get rec.method_spec) (index_in table.METHOD_SPEC token))
    unfolding method_named
    named_spec token s = ap (λ (b : Bool). if b then spec_use_at recs a rec (option_and_then (slice_get rec.method_spec) (index_in table.METHOD_SPEC token)) else generic_method recs a rec token) s

    named_plain : (token : ℕ) → (table_of token == table.METHOD_SPEC) ≡ false → method_named recs a rec token ≡ generic_method recs a rec token
    unfolding method_named
    named_plain token s = ap (λ (b : Bool). if b then spec_use_at recs a rec (option_and_then (slice_get rec.method_spec) (index_in table.METHOD_SPEC token)) else generic_method recs a rec token) s

    -- what is needed of a method with arguments is needed of the method
    plain_needed : (g : MethodUse) (args : List TypeExpr) → UseNeeded (instantiated g args) → (marks : Marks recs entry roots (marked (item.Method g.method))) × Stay recs kept g.owner × Every (Stay recs kept) args
    plain_needed g args h = (method_first (instantiated g args) h, method_owner (instantiated g args) h, method_args (instantiated g args) h)

    spec_fine : (j : ℕ) (row : MethodSpecRow) (i : InstanceKey) (u : MethodUse) → slice_get rec.method_spec j ≡ Some row → method_spec_use recs a rec row ≡ Good u → UseNeeded u → instance_by recs a rec row ≡ Some i → Fine recs kept (met_instance i)
    unfolding method_spec_use method_key
    spec_fine j row i u is named needed h =
        let s = no_spec (table_of row.method) (of_coded rec MethodDefOrRef row.method ((records a rec input there).tokens.method_specs j row is)).table in
        let g = good_then (λ (v : MethodUse). known_map (instantiated v) (known_then (arguments_of (names_at recs a rec)) row.instantiation)) (generic_method recs a rec row.method) u named in
        let x = good_map (instantiated g.from) (known_then (arguments_of (names_at recs a rec)) row.instantiation) u g.gives in
        let p = plain_needed g.from x.from (subst UseNeeded (sym x.gives) needed) in
        let k = and_then_some (λ m. option_map (λ (args : List Sig). record { method = m; args = world_sigs recs a rec args }) (good row.instantiation)) (method_key recs a rec row.method) i h in
        let n = map_some (λ (args : List Sig). record { method = k.0; args = world_sigs recs a rec args }) (good row.instantiation) i k.2 in
        let m = map_some (method_key_of recs (table_of row.method == table.METHOD_DEF)) (good (method_named recs a rec row.method)) k.0 k.1 in
        let named_is = named_plain row.method s ∙ g.is in
        let same : g.from ≡ m.0 = one_use (method_named recs a rec row.method) g.from m.0 named_is (good_is (method_named recs a rec row.method) m.0 m.1) in
        let home = home_named recs a rec there input row.method g.from named_is in
        let fine : KeyFine k.0 =
        subst KeyFine m.2
        (subst (λ (v : MethodUse). KeyFine (method_key_of recs (table_of row.method == table.METHOD_DEF) v)) same
        (key_fine (table_of row.method == table.METHOD_DEF) g.from p.0 p.1 (kept_holds (item.Method g.from.method) home.0 home.1 p.0))) in
        let read : row.instantiation ≡ Good n.0 = good_is row.instantiation n.0 n.1 in
        let args : arguments_of (names_at recs a rec) n.0 ≡ Good x.from = ap (known_then (arguments_of (names_at recs a rec))) (sym read) ∙ x.is in
        subst (λ (y : InstanceKey). Fine recs kept (met_instance y)) n.2
        (record {
          types = all_join (Stays recs kept) (types_of_method recs k.0) (types_of_sigs (world_sigs recs a rec n.0)) fine.types (sigs_stay recs kept a rec n.0 x.from args p.2);
          members = fine.members;
        })

    spec_at : (token : ℕ) (o : Option MethodSpecRow) (i : InstanceKey) (u : MethodUse) → option_and_then (slice_get rec.method_spec) (index_in table.METHOD_SPEC token) ≡ o → spec_use_at recs a rec o ≡ Good u → UseNeeded u
        → option_and_then (instance_by recs a rec) o ≡ Some i → Fine recs kept (met_instance i)
    spec_at token None i u at named needed h = absurd (cc)
    spec_at token (Some row) i u at named needed h = let k = and_then_some (slice_get rec.method_spec) (index_in table.METHOD_SPEC token) row at in spec_fine k.0 row i u k.2 named needed h

    instance_fine : (token : ℕ) (i : InstanceKey) (u : MethodUse) → (table_of token == table.METHOD_SPEC) ≡ true → method_named recs a rec token ≡ Good u → UseNeeded u → instance_key recs a rec token ≡ Some i → Fine recs kept (met_instance i)
    unfolding instance_key
    instance_fine token i u s named needed h = spec_at token (option_and_then (slice_get rec.method_spec) (index_in table.METHOD_SPEC token)) i u refl (sym (named_spec token s) ∙ named) needed h

    -- ---- what tokens meet

    callee_by : (token : ℕ) (u : MethodUse) (b : Bool) → (table_of token == table.METHOD_SPEC) ≡ b → method_named recs a rec token ≡ Good u → UseNeeded u
        → Every (Fine recs kept) (if b then map met_instance (listed (instance_key recs a rec token)) else map met_method (listed (method_key recs a rec token)))
    callee_by token u true s named needed =
        all_map (Fine recs kept) met_instance (listed (instance_key recs a rec token))
        (λ i c. (all_listed (λ (x : InstanceKey). Fine recs kept (met_instance x)) (instance_key recs a rec token) (λ x h. instance_fine token x u s named needed h)).each i c)
    callee_by token u false s named needed =
        all_map (Fine recs kept) met_method (listed (method_key recs a rec token))
        (λ k c.
        (all_listed (λ (x : MethodKey). Fine recs kept (met_method x)) (method_key recs a rec token)
        (λ x h. let fine = method_key_fine token u x named needed h in record { types = fine.types; members = fine.members })).each k c)

    pub callee_fine : (token : ℕ) (u : MethodUse) → method_named recs a rec token ≡ Good u → UseNeeded u → Every (Fine recs kept) (met_callee recs a rec token)
    callee_fine token u named needed = callee_by token u (table_of token == table.METHOD_SPEC) refl named needed

    field_key_fine : (token : ℕ) (u : FieldUse) (k : FieldKey) → field_named recs a rec token ≡ Good u → FieldNeeded u → field_key recs a rec token ≡ Some k → FieldKeyFine k
    unfolding field_key
    field_key_fine token u k named needed h =
        let m = map_some (field_key_of recs (table_of token == table.FIELD)) (good (field_named recs a rec token)) k h in
        let same : u ≡ m.0 = one_use (field_named recs a rec token) u m.0 named (good_is (field_named recs a rec token) m.0 m.1) in
        let home = field_home recs a rec there token u named in
        subst FieldKeyFine m.2
        (subst (λ (v : FieldUse). FieldKeyFine (field_key_of recs (table_of token == table.FIELD) v)) same
        (field_key_by u (field_first u needed) (field_owner u needed) (kept_holds (item.Field u.field) home.0 home.1 (field_first u needed)) ((table_of token == table.FIELD) || is_plain_owner recs u.owner)))

    pub field_token_fine : (token : ℕ) (u : FieldUse) → field_named recs a rec token ≡ Good u → FieldNeeded u → Every (Fine recs kept) (met_field_token recs a rec token)
    field_token_fine token u named needed =
        all_map (Fine recs kept) met_field (listed (field_key recs a rec token))
        (λ k c.
        (all_listed (λ (x : FieldKey). Fine recs kept (met_field x)) (field_key recs a rec token)
        (λ x h. let fine = field_key_fine token u x named needed h in record { types = fine.types; members = fine.members })).each k c)

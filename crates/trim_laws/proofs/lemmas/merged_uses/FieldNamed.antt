-- A field that a token of an input names is named, moved, by its token in the output.
use Rattle.std.proofs.Common.{◌≡◌, ◌<◌, ℕ, suc, Bool, true, false, nat_lt, List, [], ◌∷◌, length, map, Option, Some, None, inl, inr, refl, sym, ap, subst, ◌∙◌, ◌&&◌, ◌||◌, arith}
use Rattle.std.specs.Prelude.{IsTrue, Contains, slice_get, ◌==◌, if◌then◌else◌}
use Rattle.std.specs.List.{list_any, flat_map, position_from}
use Rattle.std.specs.Option.{option_map, option_and_then}
use Rattle.std.proofs.lemmas.Bool.{eqb-true, ne_eqb, ltb-true, and_parts, cases_lt}
use Rattle.std.proofs.lemmas.List.{append-nil}
use Rattle.il_base.specs.declared.ids.TypeId.{TypeId}
use Rattle.il_base.specs.declared.ids.FieldId.{FieldId}
use Rattle.il_base.specs.declared.ids.Item.TheVariants as item
use Rattle.il_base.specs.declared.sig.Sig.{Sig}
use Rattle.il_base.specs.declared.sig.Sig.TheVariants as signature
use Rattle.il_base.specs.declared.table.TheConstants.{FIELD}
use Rattle.il_base.specs.declared.world_model.known.Known.{Known}
use Rattle.il_base.specs.declared.world_model.known.Known.TheVariants.{Good}
use Rattle.il_base.specs.declared.world_model.expr.TypeExpr.{TypeExpr, out-TypeExpr}
use Rattle.il_base.specs.declared.world_model.expr.TypeExpr.TheVariants as expr
use Rattle.il_base.specs.declared.world_model.expr.FieldUse.{FieldUse}
use Rattle.il_base.specs.declared.world_model.expr.MemberSig.TheVariants as member
use Rattle.il_base.specs.declared.world_model.members.FieldRow.{FieldRow}
use Rattle.il_base.specs.declared.world_model.members.MemberRefRow.{MemberRefRow}
use Rattle.il_base.specs.declared.world_model.record.AsmRec.{AsmRec}
use Rattle.il_base.specs.world_model.Tokens.{table_of}
use Rattle.il_base.specs.world_model.Exprs.{levels}
use Rattle.il_base.specs.world_model.Worlds.{known_map, known_then, types_in, type_id, prim_type, sig_expr}
use Rattle.rules.specs.declared.link_rules.row_at.RowAt.{RowAt}
use Rattle.rules.specs.link_rules.Types.{at_row}
use Rattle.rules.specs.link_rules.Signatures.{definition_expr, names_at}
use Rattle.rules.specs.link_rules.Members.{type_home, owner_of, fields_in, most_levels, param_count, own_type, with_own_args, owns_field}
use Rattle.rules.specs.link_rules.Cycles.{listed}
use Rattle.rules.specs.type_rules.Rows.{rec_at, field_row_at}
use Rattle.rules.specs.mark_rules.Naming.{field_named}
use Rattle.rules.specs.merge_rules.Keys.{FieldKey, own_field, found_field, is_bare_in, is_plain_input, is_plain_owner, good, field_key_of, field_key, world_sig}
use Rattle.rules.specs.merge_rules.Order.{Met, met_field, met_field_token}
use Rattle.rules.specs.merge_rules.Moved.{token_or_none, moved_sig, moved_field}
use Rattle.rules.specs.merge_rules.Refs.{a_field, known_list, own_field_sig, types_of_owner, types_of_sig, types_of_sigs, types_of_field, types_of_met, spec_of_field, specs_of_met, member_of_field, members_of_met, field_at, member_ref_row, field_token, new_sig, parent_token, field_name}
use Rattle.rules.specs.merge_rules.Restricted.{output_of}
use Rattle.rules.specs.change_rules.Change.{Keep}
use Rattle.rules.specs.change_rules.Moves.{move_expr, move_field_use}
use Rattle.base_laws.proofs.lemmas.type_laws.Within.{In, in_front, in_behind, flat_in}
use Rattle.rules.specs.world_change_rules.Places.{keeps_type_row, keeps_field_row}
use Rattle.rules.specs.view_rules.Layouts.{field_number}
use Rattle.rules.specs.merged_world_rules.Merge.{Merge, IsMerge, before, after, output}
use Rattle.rules.specs.merged_world_rules.Numbering.{number_at}
use Rattle.rules.specs.merged_world_rules.NewNumbers.{rho_of}
use Rattle.merge_laws.proofs.lemmas.merged_places.Rows.{place_within, there_home, home_number}
use Rattle.merge_laws.proofs.lemmas.merged_places.Worlds.{core_of, core_rec, before_fields}
use Rattle.merge_laws.proofs.lemmas.merged_references.Lists.{contains, contained}
use Rattle.merge_laws.proofs.lemmas.merged_references.Merges.{after_is}
use Rattle.merge_laws.proofs.lemmas.merged_signatures.Reading.{good_then}
use Rattle.trim_laws.specs.marked_merge_rules.Reads.{AreMet, field_of_key, members_met}
use Rattle.trim_laws.specs.merged_uses.Laws.{Reads}
use Rattle.trim_laws.proofs.lemmas.merged_uses.Owners.{a_prim, a_definition, an_instance, Shape, prim_owner, def_owner, inst_out}
use Rattle.trim_laws.proofs.lemmas.merged_uses.Facts.{prim_there}
use Rattle.trim_laws.proofs.lemmas.merged_uses.Parents.{OwnerMet, owner_type, parent_names}
use Rattle.trim_laws.proofs.lemmas.merged_uses.FieldSearches.{used_again}
use Rattle.trim_laws.proofs.lemmas.merged_uses.FieldOwn.{own_reads}
use Rattle.trim_laws.proofs.lemmas.merged_uses.Own.{plain_def}
use Rattle.trim_laws.proofs.lemmas.merged_uses.FieldUses.{ByReference, ByRow, ByToken, own_row, reference, by_token}
use Rattle.trim_laws.proofs.lemmas.merged_uses.CoreSigs.{prim_moves, prim_types}
use Rattle.trim_laws.proofs.lemmas.merged_uses.FieldSigs.{core_prim}
use Rattle.trim_laws.proofs.lemmas.merged_uses.FieldMatches.{type_of_field}
use Rattle.trim_laws.proofs.lemmas.merged_uses.Callees.{then_from, keeps_there, keeps_number}
use Rattle.trim_laws.proofs.lemmas.merged_uses.FieldCallees.{keeps_field, Searched, searched}
use Rattle.trim_laws.proofs.lemmas.merged_uses.References.{field_row, field_reads}
use Rattle.trim_laws.proofs.lemmas.merged_uses.Named.{one_of}

-- what is met of a key
pub record KeyMet (m : Merge) (key : FieldKey) : Type 0 where
  pub x : Met
  pub met : In x (output m).mets
  pub types : (t : TypeId) → In t (types_of_field (before m) key) → In t (types_of_met (before m) x)
  pub specs : (s : Sig) → In s (spec_of_field (before m) key) → In s (specs_of_met (before m) x)
  pub members : members_of_met x ≡ member_of_field key
  pub items : members_met x ≡ field_of_key key

module _ (m : Merge) (k : Keep) (kept : RowAt → Bool) (r : Reads m k kept) where
  abbrev is : IsMerge m
  is = r.merge

  abbrev mv : TypeExpr → TypeExpr
  mv = move_expr (rho_of m)

  abbrev mid : RowAt → FieldId
  mid at = record { 0 = number_at fields_in (before m) at }

  module _ (a : ℕ) (rec : AsmRec) (there : slice_get (before m) a ≡ Some rec) (input : suc a < length (before m)) where
    -- ---- where a field is

    pub record Stands (at : RowAt) (row : FieldRow) : Type 0 where
      pub asm_rec : AsmRec
      pub is_there : slice_get (before m) at.asm ≡ Some asm_rec
      pub row_there : slice_get asm_rec.field at.row ≡ Some row
      pub below : at.row < fields_in asm_rec

    pub stands : (at : RowAt) (row : FieldRow) → field_row_at (before m) at ≡ Some row → Stands at row
    stands at row e =
        let s = then_from (λ (x : AsmRec). slice_get x.field at.row) (slice_get (before m) at.asm) row e in
        record { asm_rec = s.0; is_there = s.1; row_there = s.2; below = place_within s.0.field at.row row s.2 }

    -- ---- its own signature

    module _ (e : TypeExpr) (at : RowAt) (s : Searched m k kept r a rec there input e at) (w : Stands at s.row) where
      signed : known_then (sig_expr (names_at (before m) at.asm w.asm_rec)) s.row.signature ≡ Good s.type
      signed =
          let f : type_of_field (before m) at ≡ Some (known_then (sig_expr (names_at (before m) at.asm w.asm_rec)) s.row.signature) =
          ap (option_and_then (λ (x : AsmRec). option_map (λ (y : FieldRow). known_then (sig_expr (names_at (before m) at.asm x)) y.signature) (slice_get x.field at.row))) w.is_there
          ∙ ap (option_map (λ (y : FieldRow). known_then (sig_expr (names_at (before m) at.asm w.asm_rec)) y.signature)) w.row_there in
          let g : Some (known_then (sig_expr (names_at (before m) at.asm w.asm_rec)) s.row.signature) ≡ Some (Good s.type) = sym f ∙ s.type_reads in
          cc

      abbrev sig : Sig
      sig = (good_then (sig_expr (names_at (before m) at.asm w.asm_rec)) s.row.signature s.type signed).from

      sig_is : s.row.signature ≡ Good sig
      sig_is = (good_then (sig_expr (names_at (before m) at.asm w.asm_rec)) s.row.signature s.type signed).is

      sig_reads : sig_expr (names_at (before m) at.asm w.asm_rec) sig ≡ Good s.type
      sig_reads = (good_then (sig_expr (names_at (before m) at.asm w.asm_rec)) s.row.signature s.type signed).gives

      abbrev world : Sig
      world = world_sig (before m) at.asm w.asm_rec sig

      own_sig : own_field_sig (before m) at ≡ world_sig (before m) at.asm w.asm_rec sig ∷ []
      own_sig =
          one_of (λ (x : AsmRec). flat_map (λ (y : FieldRow). map (world_sig (before m) at.asm x) (known_list y.signature)) (listed (slice_get x.field at.row))) (rec_at (before m) at) w.asm_rec w.is_there
          ∙ one_of (λ (y : FieldRow). map (world_sig (before m) at.asm w.asm_rec) (known_list y.signature)) (slice_get w.asm_rec.field at.row) s.row w.row_there
          ∙ ap (λ (x : Known Sig). map (world_sig (before m) at.asm w.asm_rec) (known_list x)) sig_is

      own_name : field_name (before m) at ≡ s.row.name
      own_name =
          one_of (λ (x : AsmRec). flat_map (λ (y : FieldRow). y.name) (listed (slice_get x.field at.row))) (rec_at (before m) at) w.asm_rec w.is_there
          ∙ one_of (λ (y : FieldRow). y.name) (slice_get w.asm_rec.field at.row) s.row w.row_there

      home : field_at (before m) (mid at) ≡ Some at
      home = there_home fields_in (before m) at (record { rec = w.asm_rec; here = w.is_there; below = w.below })

      row_is : member_ref_row (output m) (a_field (mid at) e) ≡ record { class = parent_token (output m) e; name = s.row.name; signature = Good (member.Field (new_sig (output m) (world_sig (before m) at.asm w.asm_rec sig))) } ∷ []
      unfolding output_of
      row_is =
          one_of (λ x. map (λ z. record { class = parent_token (output m) e; name = field_name (before m) x; signature = Good (member.Field (new_sig (output m) z)) }) (own_field_sig (before m) x)) (field_at (before m) (mid at)) at home
          ∙ (λ j. map (λ z. record { class = parent_token (output m) e; name = own_name j; signature = Good (member.Field (new_sig (output m) z)) }) (own_sig j))

      -- ---- a reference to it

      module _ (met : KeyMet m (found_field (mid at) e)) where
        met_owner : OwnerMet m is r.rows r.there met.x met.met e
        met_owner = record {
          types = λ t i. met.types t (in_front t (types_of_owner (before m) e) (types_of_sigs (flat_map (own_field_sig (before m)) (listed (field_at (before m) (mid at))))) i);
          specs = met.specs;
        }

        keeps_home : IsTrue (keeps_type_row k (before m) s.home)
        keeps_home =
            keeps_there m k kept r s.t s.home s.is_home
            (r.there met.x s.t s.home (contains (output m).mets met.x met.met) (contains (types_of_met (before m) met.x) s.t (met_owner.types s.t (owner_type m is r.rows r.there met.x met.met e s.t s.shape s.owner))) s.is_home)

        keeps_at : IsTrue (keeps_field_row k (before m) at)
        keeps_at =
            keeps_field m k kept r at w.asm_rec w.is_there w.below
            (r.members met.x (item.Field (mid at)) (contains (output m).mets met.x met.met) (contains (members_met met.x) (item.Field (mid at)) (subst (In (item.Field (mid at))) (sym met.items) (inl refl))))

        sig_types : (t : TypeId) → In t (types_of_sig (world_sig (before m) at.asm w.asm_rec sig)) → In t (types_of_met (before m) met.x)
        sig_types t i =
            met.types t (in_behind t (types_of_owner (before m) e) (types_of_sigs (flat_map (own_field_sig (before m)) (listed (field_at (before m) (mid at)))))
            (subst (λ (o : Option RowAt). In t (types_of_sigs (flat_map (own_field_sig (before m)) (listed o)))) (sym home)
            (subst (λ (ss : List Sig). In t (types_of_sigs ss)) (sym (append-nil (own_field_sig (before m) at) ∙ own_sig))
            (in_front t (types_of_sig world) [] i))))

        -- its signature in the output
        input_sig : suc at.asm < length (before m) → sig_expr (names_at (after m) 0 m.left) (new_sig (output m) (world_sig (before m) at.asm w.asm_rec sig)) ≡ Good (move_expr (rho_of m) s.type)
        unfolding output_of
        input_sig lt =
            let e : m.kept (item.Field (mid at)) ≡ true = sym (r.flags.fields at s.row s.row_there) ∙ keeps_at in
            let f = r.fields at w.asm_rec s.row w.is_there w.row_there lt e in
            ap (λ (x : Known Sig). known_then (sig_expr (names_at (after m) 0 m.left)) (moved_sig (output m) at.asm w.asm_rec x)) (sym sig_is)
            ∙ f ∙ ap (known_map (move_expr (rho_of m))) signed

        core_sig : suc at.asm ≡ length (before m) → sig_expr (names_at (after m) 0 m.left) (new_sig (output m) (world_sig (before m) at.asm w.asm_rec sig)) ≡ Good (move_expr (rho_of m) s.type)
        core_sig last =
            let same : w.asm_rec ≡ core_of m = core_rec m at w.asm_rec w.is_there last in
            let row : slice_get (core_of m).field at.row ≡ Some s.row = ap (λ (x : AsmRec). slice_get x.field at.row) (sym same) ∙ w.row_there in
            let p = core_prim at.row s.row (ap (λ (fs : List FieldRow). slice_get fs at.row) (sym (before_fields m)) ∙ row) in
            let one : sig ≡ signature.Prim p.code = let g : Good sig ≡ Good (signature.Prim p.code) = sym sig_is ∙ p.signature in cc in
            let x = prim_moves m is r.rows at.asm last p.code in
            let old : Good x.old ≡ Good s.type = sym x.reads ∙ (λ q. sig_expr (names_at (before m) at.asm (sym same q)) (sym one q)) ∙ sig_reads in
            let type : x.old ≡ s.type = cc in
            (λ q. sig_expr (names_at (after_is m is r.rows q) 0 m.left) (new_sig (output m) (world_sig (before m) at.asm (same q) (one q))))
            ∙ x.again (λ t at' i home_is. absurd (subst (In t) (prim_types m is r.rows at.asm last p.code) i)) ∙ ap (λ (y : TypeExpr). Good (move_expr (rho_of m) y)) type

        new_sig_reads : sig_expr (names_at (after m) 0 m.left) (new_sig (output m) (world_sig (before m) at.asm w.asm_rec sig)) ≡ Good (move_expr (rho_of m) s.type)
        new_sig_reads = elim (cases_lt (suc at.asm) (length (before m))) [
          | inl lt ↦ input_sig lt
          | inr ge ↦ (let within = place_within (before m) at.asm w.asm_rec w.is_there in core_sig (omega (arith, ge, within)))
        ]

        found_reads : nat_lt most_levels (levels e) ≡ false
            → field_named (after m) 0 m.left (field_token (output m) (found_field (mid at) e)) ≡ Good (record { field = record { 0 = (rho_of m).field (field_number (before m) at) }; owner = mv e })
        unfolding field_token
        found_reads low =
            let row : MemberRefRow = record { class = parent_token (output m) e; name = s.row.name; signature = Good (member.Field (new_sig (output m) (world_sig (before m) at.asm w.asm_rec sig))) } in
            let member_met = flat_in members_of_met (a_field (mid at) e) met.x (output m).mets met.met (subst (In (a_field (mid at) e)) (sym met.members) (inl refl)) in
            let h = field_row m is r.rows (mid at) e member_met row row_is in
            let parent = parent_names m is r.rows r.there met.x met.met e s.shape s.t s.owner s.all met_owner in
            field_reads m is r.rows (a_field (mid at) e) (parent_token (output m) e) s.row.name (new_sig (output m) (world_sig (before m) at.asm w.asm_rec sig)) (mv e) (move_expr (rho_of m) s.type) h parent new_sig_reads
            ∙ used_again m k kept r e s.t s.home at s.row.name s.type s.shape s.owner s.is_home (keeps_number m k kept r s.t s.home s.is_home keeps_home) keeps_home keeps_at s.first s.row s.row_there low

      -- ---- a reference to a field of a plain type of an input

      module _ (met : KeyMet m (own_field (mid at))) (plain : is_plain_owner (before m) e ≡ true) where
        home_is : option_and_then (type_home (before m)) (owner_of (before m) e) ≡ Some s.home
        home_is = ap (option_and_then (type_home (before m))) s.owner ∙ s.is_home

        plain_parts : (is_bare_in (out-TypeExpr e) ≡ true) × (is_plain_input (before m) (Some s.home) ≡ true)
        plain_parts =
            let p = and_parts (is_bare_in (out-TypeExpr e)) (is_plain_input (before m) (option_and_then (type_home (before m)) (owner_of (before m) e))) plain in
            (p.0, ap (is_plain_input (before m)) (sym home_is) ∙ p.1)

        or_last : (b : Bool) → (b || false) ≡ true → b ≡ true
        or_last true h = refl
        or_last false h = h

        test_parts : (nat_lt (suc s.home.asm) (length (before m)) ≡ true) × (list_any (λ (x : AsmRec). param_count x s.home.row == 0) (listed (rec_at (before m) s.home)) ≡ true)
        test_parts =
            let a : Bool = nat_lt (suc s.home.asm) (length (before m)) in
            let b : Bool = list_any (λ (x : AsmRec). param_count x s.home.row == 0) (listed (rec_at (before m) s.home)) in
            and_parts a b (or_last (a && b) plain_parts.1)

        home_input : suc s.home.asm < length (before m)
        home_input = ltb-true (suc s.home.asm) (length (before m)) test_parts.0

        same_asm : s.home.asm ≡ at.asm
        same_asm =
            let f = then_from (λ (x : AsmRec). option_map (at_row at.asm) (position_from (owns_field (suc at.row)) 0 x.type_def)) (slice_get (before m) at.asm) s.home s.has in
            by_some (position_from (owns_field (suc at.row)) 0 f.0.type_def) f.2
          where
            by_some : (o : Option ℕ) → option_map (at_row at.asm) o ≡ Some s.home → s.home.asm ≡ at.asm
            by_some None e = absurd (cc)
            by_some (Some i) e = let same : at_row at.asm i ≡ s.home = cc in ap (λ (x : RowAt). x.asm) (sym same)

        place_is : position_from (owns_field (suc at.row)) 0 w.asm_rec.type_def ≡ Some s.home.row
        place_is =
            by_some (position_from (owns_field (suc at.row)) 0 w.asm_rec.type_def) (sym (ap (option_and_then (λ (x : AsmRec). option_map (at_row at.asm) (position_from (owns_field (suc at.row)) 0 x.type_def))) w.is_there) ∙ s.has)
          where
            by_some : (o : Option ℕ) → option_map (at_row at.asm) o ≡ Some s.home → o ≡ Some s.home.row
            by_some None e = absurd (cc)
            by_some (Some i) e = let same : at_row at.asm i ≡ s.home = cc in ap (λ (x : RowAt). Some x.row) same

        no_params : param_count w.asm_rec s.home.row ≡ 0
        no_params =
            let e : rec_at (before m) s.home ≡ Some w.asm_rec = ap (slice_get (before m)) same_asm ∙ w.is_there in
            let f : list_any (λ (x : AsmRec). param_count x s.home.row == 0) (w.asm_rec ∷ []) ≡ true = ap (λ (o : Option AsmRec). list_any (λ (x : AsmRec). param_count x s.home.row == 0) (listed o)) (sym e) ∙ test_parts.1 in
            eqb-true (param_count w.asm_rec s.home.row) 0 (or_last (param_count w.asm_rec s.home.row == 0) f)

        own_is : own_type (before m) w.asm_rec s.home ≡ definition_expr (before m) s.home
        unfolding own_type
        own_is = ap (with_own_args (before m) s.home) no_params

        number_is : type_id (before m) s.home.asm s.home.row ≡ s.t
        number_is = ap (λ (n : ℕ). record { 0 = n }) (home_number types_in (before m) s.t.0 s.home s.is_home)

        by_shape : Shape e → definition_expr (before m) s.home ≡ e
        by_shape (a_prim n same) =
            let prim : prim_type (before m) n ≡ Some s.t = sym (prim_owner (before m) n) ∙ ap (owner_of (before m)) (sym same) ∙ s.owner in
            let p = prim_there m is n s.t prim in
            let g : Some s.home ≡ Some p.at = sym s.is_home ∙ p.home in
            let one : s.home ≡ p.at = cc in
            ap (definition_expr (before m)) one ∙ p.says ∙ sym same
        by_shape (a_definition t same) =
            let g : Some t ≡ Some s.t = sym (def_owner (before m) t) ∙ ap (owner_of (before m)) (sym same) ∙ s.owner in
            let one : t ≡ s.t = cc in
            plain_def (before m) s.home (ne_eqb (suc s.home.asm) (length (before m)) (λ f. let lt = home_input in absurd (omega (arith, f, lt)))) ∙ ap (λ (u : TypeId). expr.Def u) (number_is ∙ sym one) ∙ sym same
        by_shape (an_instance t args same) =
            let bad : false ≡ true = sym (ap is_bare_in (ap out-TypeExpr same ∙ inst_out t args)) ∙ plain_parts.0 in absurd (cc)

        own_found : nat_lt most_levels (levels e) ≡ false
            → field_named (after m) 0 m.left (field_token (output m) (own_field (mid at))) ≡ Good (record { field = record { 0 = (rho_of m).field (field_number (before m) at) }; owner = mv e })
        own_found low =
            let owner : own_type (before m) w.asm_rec s.home ≡ e = own_is ∙ by_shape s.shape in
            let keeps_it =
            keeps_field m k kept r at w.asm_rec w.is_there w.below
            (r.members met.x (item.Field (mid at)) (contains (output m).mets met.x met.met) (contains (members_met met.x) (item.Field (mid at)) (subst (In (item.Field (mid at))) (sym met.items) (inl refl)))) in
            let again : own_type (before m) w.asm_rec (at_row at.asm s.home.row) ≡ e = (λ q. own_type (before m) w.asm_rec (at_row (sym same_asm q) s.home.row)) ∙ owner in
            own_reads m k kept r at w.asm_rec w.is_there (subst (λ (n : ℕ). suc n < length (before m)) same_asm home_input) w.below keeps_it s.home.row place_is (ap (λ (x : TypeExpr). nat_lt most_levels (levels x)) again ∙ low)
            ∙ ap (λ (x : TypeExpr). Good (record { field = record { 0 = (rho_of m).field (field_number (before m) at) }; owner = mv x })) again

    -- ---- of a token

    abbrev Reads_as : FieldKey → FieldUse → Type 0
    Reads_as key u = field_named (after m) 0 m.left (field_token (output m) key) ≡ Good (move_field_use (rho_of m) u)

    ref_by : (at : RowAt) (e : TypeExpr) → Searched m k kept r a rec there input e at → nat_lt most_levels (levels e) ≡ false → (b : Bool) → is_plain_owner (before m) e ≡ b
        → KeyMet m (if b then own_field (mid at) else found_field (mid at) e) → Reads_as (if b then own_field (mid at) else found_field (mid at) e) (record { field = mid at; owner = e })
    ref_by at e s low true plain met = own_found e at s (stands at s.row s.row_there) met plain low
    ref_by at e s low false plain met = found_reads e at s (stands at s.row s.row_there) met low

    by_reference : (u : FieldUse) (b : ByReference (before m) a rec u) → KeyMet m (field_key_of (before m) false u) → Reads_as (field_key_of (before m) false u) u
    by_reference u b met =
        subst (λ (v : FieldUse). KeyMet m (field_key_of (before m) false v) → Reads_as (field_key_of (before m) false v) v) b.used.same
        (λ h. ref_by b.found.at b.found.owner (searched m k kept r a rec there input u b) b.used.low (is_plain_owner (before m) b.found.owner) refl h) met

    by_own : (u : FieldUse) (b : ByRow (before m) a rec u) → KeyMet m (own_field u.field) → Reads_as (own_field u.field) u
    by_own u b met =
        let at : RowAt = at_row a b.at in
        subst (λ (v : FieldUse). KeyMet m (own_field v.field) → Reads_as (own_field v.field) v) b.used.same
        (λ h. own_reads m k kept r at rec there input b.below
        (keeps_field m k kept r at rec there b.below (r.members h.x (item.Field (mid at)) (contains (output m).mets h.x h.met) (contains (members_met h.x) (item.Field (mid at)) (subst (In (item.Field (mid at))) (sym h.items) (inl refl)))))
        b.owner b.has b.used.low) met

    token_by : (token : ℕ) (u : FieldUse) → ByToken (before m) a rec token u → KeyMet m (field_key_of (before m) (table_of token == FIELD) u) → Reads_as (field_key_of (before m) (table_of token == FIELD) u) u
    token_by token u (own_row e b) met =
        subst (λ (c : Bool). KeyMet m (field_key_of (before m) c u) → Reads_as (field_key_of (before m) c u) u) (sym e) (by_own u b) met
    token_by token u (reference e b) met =
        subst (λ (c : Bool). KeyMet m (field_key_of (before m) c u) → Reads_as (field_key_of (before m) c u) u) (sym e) (by_reference u b) met

    pub key_reads : (token : ℕ) (u : FieldUse) → field_named (before m) a rec token ≡ Good u → KeyMet m (field_key_of (before m) (table_of token == FIELD) u)
        → field_named (after m) 0 m.left (field_token (output m) (field_key_of (before m) (table_of token == FIELD) u)) ≡ Good (move_field_use (rho_of m) u)
    key_reads token u h met = token_by token u (by_token (before m) a rec token u h) met

    -- ---- what the output refers to

    key_is : (token : ℕ) (u : FieldUse) → field_named (before m) a rec token ≡ Good u → field_key (before m) a rec token ≡ Some (field_key_of (before m) (table_of token == FIELD) u)
    unfolding field_key
    key_is token u h = ap (λ (n : Known FieldUse). option_map (field_key_of (before m) (table_of token == FIELD)) (good n)) h

    moved_is : (token : ℕ) (key : FieldKey) → field_key (before m) a rec token ≡ Some key → moved_field (output m) a rec token ≡ field_token (output m) key
    unfolding moved_field output_of
    moved_is token key e = ap (token_or_none (field_token (output m))) e

    met_one : (token : ℕ) (key : FieldKey) → field_key (before m) a rec token ≡ Some key → Contains (met_field_token (before m) a rec token) (met_field key)
    met_one token key e = subst (λ (o : Option FieldKey). Contains (map met_field (listed o)) (met_field key)) (sym e) (0, omega arith, refl)

    key_met : (key : FieldKey) → Contains (output m).mets (met_field key) → KeyMet m key
    key_met key c = record { x = met_field key; met = contained (output m).mets (met_field key) c; types = λ t i. i; specs = λ s i. i; members = refl; items = refl }

    pub field_token_reads : (token : ℕ) (u : FieldUse) → AreMet m (met_field_token (before m) a rec token) → field_named (before m) a rec token ≡ Good u
        → field_named (after m) 0 m.left (moved_field (output m) a rec token) ≡ Good (move_field_use (rho_of m) u)
    field_token_reads token u met h =
        let key : FieldKey = field_key_of (before m) (table_of token == FIELD) u in
        let f = key_is token u h in
        ap (field_named (after m) 0 m.left) (moved_is token key f) ∙ key_reads token u h (key_met key (met (met_field key) (met_one token key f)))

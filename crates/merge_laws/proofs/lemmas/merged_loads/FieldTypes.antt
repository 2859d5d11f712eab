-- The type of a kept field is kept, where what is needed is kept and nothing of it has a flaw.
use Rattle.std.proofs.Common.{◌≡◌, ◌<◌, ℕ, suc, List, [], ◌∷◌, length, map, Bool, true, false, Option, Some, None, refl, sym, ap, subst, ◌∙◌, ltb-true, eq-eqb}
use Rattle.std.specs.Prelude.{slice_get, nat_lt, ◌==◌, if◌then◌else◌}
use Rattle.std.specs.List.{Contains, flat_map}
use Rattle.std.specs.Option.{option_map, option_and_then, is_some}
use Rattle.std.proofs.lemmas.List.Elements.{Contains-append_left, Contains-append_right}
use Rattle.il_base.specs.declared.ids.TypeId.{TypeId}
use Rattle.il_base.specs.declared.ids.Item.TheVariants as item
use Rattle.il_base.specs.declared.table.TheConstants as table
use Rattle.il_base.specs.declared.sig.Sig.TheVariants as sig
use Rattle.descriptor_file.specs.declared.root.Root.{Root}
use Rattle.il_base.specs.declared.world_model.known.Known.{Known}
use Rattle.il_base.specs.declared.world_model.known.Known.TheVariants.{Good, Bad}
use Rattle.il_base.specs.declared.world_model.known.BadKind.TheVariants.{Unresolved}
use Rattle.il_base.specs.declared.world_model.expr.TypeExpr.{TypeExpr, fold-TypeExpr, fold-roll-TypeExpr}
use Rattle.il_base.specs.declared.world_model.expr.TypeExpr.TheOpen.{TypeExpr-F}
use Rattle.il_base.specs.declared.world_model.expr.TypeExpr.TheVariants as expr
use Rattle.il_base.specs.declared.world_model.members.FieldRow.{FieldRow}
use Rattle.il_base.specs.declared.world_model.record.AsmRec.{AsmRec}
use Rattle.il_base.specs.world_model.Tokens.{token_of, table_of, index_in}
use Rattle.il_base.specs.world_model.Worlds.{types_in as types_of_rec, type_id, row_below, named_in, sig_layer, sig_expr}
use Rattle.rules.specs.declared.link_rules.row_at.RowAt.{RowAt}
use Rattle.rules.specs.link_rules.Types.{at_row, definition_at, ref_definition}
use Rattle.rules.specs.link_rules.Members.{fields_in}
use Rattle.rules.specs.link_rules.Cycles.{listed}
use Rattle.rules.specs.link_rules.Signatures.{names_at, known_expr, named_type}
use Rattle.rules.specs.type_rules.Rows.{rec_at, owner_of_field}
use Rattle.rules.specs.mark_rules.Facts.{by_one}
use Rattle.rules.specs.mark_rules.Facts.Fact.{marked}
use Rattle.rules.specs.mark_rules.Places.{row_of, marks_type, type_item, field_item}
use Rattle.rules.specs.mark_rules.Naming.{Part, type, types_layer, types_in, mark_types, of_named, of_known, of_parts, good_part, bad_part, type_parts, parts_of, sig_parts}
use Rattle.rules.specs.mark_rules.Types.{parts_of_field, field_needs}
use Rattle.rules.specs.mark_rules.Calls.{field_starts}
use Rattle.rules.specs.mark_rules.Attributes.{attribute_needs}
use Rattle.rules.specs.mark_rules.Dependencies.{dependency_needs}
use Rattle.rules.specs.mark_rules.Shown.{item_shows}
use Rattle.rules.specs.mark_rules.FlowMarks.{flow_marks}
use Rattle.rules.specs.mark_rules.Roots.{waiting_facts}
use Rattle.rules.specs.mark_rules.Marking.{row_needs, item_needs, one, marking, Marks}
use Rattle.rules.specs.mark_rules.BadItems.{flaw, part_flaw, IsFirstFlaw}
use Rattle.rules.specs.merge_rules.Numbers.{kept_fields}
use Rattle.rules.specs.merge_rules.Refs.{Output}
use Rattle.rules.specs.merge_rules.Restricted.{output_of}
use Rattle.merge_laws.specs.merged_record.Laws.{InputsAreRecords}
use Rattle.merge_laws.proofs.lemmas.merged_record.Lists.{first_in, to_flat, OfInput}
use Rattle.merge_laws.proofs.lemmas.merged_record.Tokens.{index_row}
use Rattle.merge_laws.proofs.lemmas.merged_record.Rows.{IsKept, from_kept}
use Rattle.merge_laws.specs.merged_loads.Marked.{AreMarked, AreKept, FieldTypesKept}
use Rattle.merge_laws.specs.merged_loads.Laws.{FieldTypesAreKept}
use Rattle.merge_laws.proofs.lemmas.merged_loads.Flawless.{to_option, no_flaw_in}
use Rattle.merge_laws.proofs.lemmas.merged_loads.FieldData.{fold_named, own_home as own_type_home, own_named, own_expr}
use Rattle.merge_laws.proofs.lemmas.merged_loads.Read.{free, field_at}

fold_def : (A : Type 0) (f : TypeExpr-F A → A) (t : TypeId) → fold-TypeExpr A f (expr.Def t) ≡ f (TypeExpr-F.Def t)
fold_def A f t = ap (fold-TypeExpr A f) (sym (expr.rolls-Def t)) ∙ fold-roll-TypeExpr A f (TypeExpr-F.Def t)

types_of_def : (t : TypeId) → types_in (expr.Def t) ≡ t ∷ []
unfolding types_in
types_of_def t = fold_def (List TypeId) types_layer t

module _ (recs : List AsmRec) (a : ℕ) (rec : AsmRec) where
  -- a class by a token of the own types
  class_expr : (value : Bool) (token j : ℕ) → index_in table.TYPE_DEF token ≡ Some j → sig_expr (names_at recs a rec) (sig.Named value token) ≡ named_type recs a rec token
  unfolding sig_expr named_in
  class_expr value token j e =
      let t = (index_row table.TYPE_DEF token j e).0 in
      fold_named (Known TypeExpr) (sig_layer (names_at recs a rec)) value token ∙ ap (λ (n : ℕ). if n == table.TYPE_SPEC then Bad Unresolved else named_type recs a rec token) t

  missing : (token j : ℕ) → index_in table.TYPE_DEF token ≡ Some j → nat_lt j (length rec.type_def) ≡ false → named_type recs a rec token ≡ Bad Unresolved
  unfolding named_type definition_at
  missing token j e none =
      let t = (index_row table.TYPE_DEF token j e).0 in
      ap (λ (c : Bool). known_expr recs (if c then option_map (at_row a) (row_below (types_of_rec rec) (index_in table.TYPE_DEF token)) else option_and_then (ref_definition recs a rec) (index_in table.TYPE_REF token))) (eq-eqb (table_of token) table.TYPE_DEF t)
      ∙ ap (λ (x : Option ℕ). known_expr recs (option_map (at_row a) (row_below (types_of_rec rec) x))) e
      ∙ ap (λ (c : Bool). known_expr recs (option_map (at_row a) (if c then Some j else None))) none

module _ (o : Output) (entry : Option RowAt) (roots : List Root) (records : InputsAreRecords o.recs) (marks : AreMarked o.recs entry roots o.kept) (keeps : AreKept o.recs entry roots o.kept) (good : IsFirstFlaw o.recs entry (Marks o.recs entry roots) None) where
  module _ (at : RowAt) (rec : AsmRec) (f : FieldRow) (value : Bool) (token j : ℕ) (inside : Contains (kept_fields o.recs o.kept) at) (there : slice_get o.recs at.asm ≡ Some rec) (is : slice_get rec.field at.row ≡ Some f)
      (class : f.signature ≡ Good (sig.Named value token)) (named : index_in table.TYPE_DEF token ≡ Some j) where
    place : ℕ
    place = token_of table.FIELD (suc at.row)

    kept_is : IsKept fields_in (field_item o.recs) o.recs o.kept at
    unfolding kept_fields
    kept_is = from_kept fields_in (field_item o.recs) o.recs o.kept at inside

    home : row_of o.recs (field_item o.recs at) ≡ Some at
    home = field_at o entry roots records marks good at kept_is.rec kept_is.input.there kept_is.below

    parts_are : (x : Known TypeExpr) → sig_expr (names_at o.recs at.asm rec) (sig.Named value token) ≡ x → sig_parts o.recs at.asm rec place f.signature ≡ parts_of place (λ e. type_parts place (e ∷ [])) x
    parts_are x e = ap (sig_parts o.recs at.asm rec place) class ∙ ap (parts_of place (λ e. type_parts place (e ∷ []))) e

    in_parts : (p : Part) → Contains (sig_parts o.recs at.asm rec place f.signature) p → Contains (parts_of_field o.recs at) p
    unfolding parts_of_field place
    in_parts p c =
        to_option (λ (r : AsmRec). flat_map (λ (x : FieldRow). sig_parts o.recs at.asm r (token_of table.FIELD (suc at.row)) x.signature) (listed (slice_get r.field at.row))) (rec_at o.recs at) rec p there
        (to_option (λ (x : FieldRow). sig_parts o.recs at.asm rec (token_of table.FIELD (suc at.row)) x.signature) (slice_get rec.field at.row) f p is c)

    -- the type is there
    below : j < length rec.type_def
    below = by_test (nat_lt j (length rec.type_def)) refl
      where
        by_test : (b : Bool) → nat_lt j (length rec.type_def) ≡ b → j < length rec.type_def
        by_test true e = ltb-true j (length rec.type_def) e
        by_test false e =
            let bad : sig_parts o.recs at.asm rec place f.signature ≡ bad_part place Unresolved ∷ [] = parts_are (Bad Unresolved) (class_expr o.recs at.asm rec value token j named ∙ missing o.recs at.asm rec token j named e) in
            let part : Contains (sig_parts o.recs at.asm rec place f.signature) (bad_part place Unresolved) = subst (λ (ps : List Part). Contains ps (bad_part place Unresolved)) (sym bad) (first_in (bad_part place Unresolved) []) in
            let empty = free o entry roots records marks good (field_item o.recs at) at kept_is.passes home kept_is.input.within in
            absurd
            (no_flaw_in o.recs at rec there (field_item o.recs at) home empty (sig_parts o.recs at.asm rec place f.signature) in_parts (flaw at place 0 Unresolved)
            (to_flat (part_flaw at) (sig_parts o.recs at.asm rec place f.signature) (flaw at place 0 Unresolved) (record { item = bad_part place Unresolved; there = part; inside = first_in (flaw at place 0 Unresolved) [] })))

    abbrev own : TypeId
    own = type_id o.recs at.asm j

    own_input : OfInput o.recs at.asm rec
    own_input = record { there = there; within = kept_is.input.within }

    good_parts : sig_parts o.recs at.asm rec place f.signature ≡ good_part place (type (expr.Def own)) ∷ []
    good_parts =
        parts_are (Good (expr.Def own))
        (class_expr o.recs at.asm rec value token j named ∙ own_named o.recs at.asm j rec own_input below token named ∙ ap (λ (x : TypeExpr). Good x) (own_expr o.recs at.asm j rec own_input below))

    in_field : Contains (of_parts (parts_of_field o.recs at)) (marked (item.Typ own))
    in_field =
        let part : Contains (sig_parts o.recs at.asm rec place f.signature) (good_part place (type (expr.Def own))) =
        subst (λ (ps : List Part). Contains ps (good_part place (type (expr.Def own)))) (sym good_parts) (first_in (good_part place (type (expr.Def own))) []) in
        to_flat (λ (p : Part). of_known of_named p.named) (parts_of_field o.recs at) (marked (item.Typ own))
        (record {
          item = good_part place (type (expr.Def own));
          there = in_parts (good_part place (type (expr.Def own))) part;
          inside = subst (λ (ts : List TypeId). Contains (mark_types ts) (marked (item.Typ own))) (sym (types_of_def own)) (first_in (marked (item.Typ own)) []);
        })

    in_needs : Contains (field_needs o.recs at) (marked (item.Typ own))
    unfolding field_needs
    in_needs =
        Contains-append_right (flat_map (λ (r : AsmRec). map (λ t. marks_type o.recs (at_row at.asm t)) (listed (owner_of_field r at.row))) (listed (rec_at o.recs at))) (of_parts (parts_of_field o.recs at)) (marked (item.Typ own)) in_field

    in_item : Contains (item_needs o.recs roots (field_item o.recs at)) (marked (item.Typ own))
    in_item =
        Contains-append_left _ (item_shows o.recs (field_item o.recs at)) (marked (item.Typ own))
        (Contains-append_left _ (waiting_facts o.recs roots (field_item o.recs at)) (marked (item.Typ own))
        (Contains-append_left _ (dependency_needs o.recs (field_item o.recs at)) (marked (item.Typ own))
        (Contains-append_left (flat_map (row_needs o.recs (field_item o.recs at)) (listed (row_of o.recs (field_item o.recs at)))) (attribute_needs o.recs (field_item o.recs at)) (marked (item.Typ own))
        (to_option (row_needs o.recs (field_item o.recs at)) (row_of o.recs (field_item o.recs at)) at (marked (item.Typ own)) home
        (Contains-append_left (field_needs o.recs at) (field_starts o.recs at) (marked (item.Typ own)) in_needs)))))

    type_marked : Marks o.recs entry roots (marked (item.Typ own))
    unfolding marking one
    type_marked =
        by_one (marked (field_item o.recs at)) (marked (item.Typ own)) (marks (field_item o.recs at) kept_is.passes)
        (Contains-append_left (item_needs o.recs roots (field_item o.recs at)) (flow_marks o.recs (field_item o.recs at)) (marked (item.Typ own)) in_item)

    type_there : row_of o.recs (item.Typ own) ≡ Some (at_row at.asm j)
    unfolding row_of
    type_there = own_type_home o.recs at.asm j rec own_input below

    pub type_kept : o.kept (type_item o.recs (at_row at.asm j)) ≡ true
    type_kept = keeps (item.Typ own) (ap (λ (x : Option RowAt). is_some x) type_there) type_marked

  pub types_kept : FieldTypesAreKept o.recs o.kept
  types_kept at rec f value token j inside there is class named = type_kept at rec f value token j inside there is class named

pub field_types : FieldTypesKept
unfolding output_of
field_types recs entry roots kept records marks keeps good = types_kept (output_of recs kept) entry roots records marks keeps good

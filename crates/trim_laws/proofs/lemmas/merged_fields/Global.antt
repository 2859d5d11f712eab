-- A kept field of an input is no global one (II.15.1.2): a marked global field is a flaw.
use Rattle.std.proofs.Common.{◌≡◌, ◌<◌, ℕ, suc, ◌+◌, Bool, true, false, List, [], ◌++◌, length, Option, Some, refl, sym, ap, subst, ◌∙◌}
use Rattle.std.specs.Prelude.{◌||◌}
use Rattle.std.specs.List.{Contains, flat_map}
use Rattle.std.proofs.lemmas.List.Elements.{Contains-append_left, Contains-append_right}
use Rattle.il_base.specs.declared.ids.Item.{Item}
use Rattle.il_base.specs.declared.outside.TheConstants.{GLOBAL_MEMBER}
use Rattle.il_base.specs.declared.table.TheConstants.{FIELD}
use Rattle.descriptor_file.specs.declared.root.Root.{Root}
use Rattle.il_base.specs.declared.world_model.known.BadKind.TheVariants.{Outside}
use Rattle.il_base.specs.declared.world_model.record.AsmRec.{AsmRec}
use Rattle.il_base.specs.world_model.Tokens.{token_of}
use Rattle.rules.specs.declared.link_rules.row_at.RowAt.{RowAt}
use Rattle.rules.specs.link_rules.Types.{at_row}
use Rattle.rules.specs.link_rules.Members.{fields_in}
use Rattle.rules.specs.link_rules.Cycles.{listed}
use Rattle.rules.specs.type_rules.Rows.{rec_at, owner_of_field, each_row}
use Rattle.rules.specs.mark_rules.Facts.Fact.{marked}
use Rattle.rules.specs.mark_rules.Places.{row_of, field_item}
use Rattle.rules.specs.mark_rules.BadItems.{Flaw, flaw, flaw_if, part_flaws, is_global, is_module_of, data_flaw, own_flaws, attribute_flaws, flaws_of, of_item}
use Rattle.merge_laws.proofs.lemmas.merged_loads.Flawless.{to_option, not_core}
use Rattle.merge_laws.proofs.lemmas.merged_record.Lists.{first_in}
use Rattle.rules.specs.merged_world_rules.Merge.{Merge, before}
use Rattle.merge_laws.proofs.lemmas.merged_places.Rows.{IsThere, there_home}
use Rattle.trim_laws.specs.marked_merge_rules.Merges.{IsMarkedMerge}

or_none : (b : Bool) → (b || false) ≡ b
or_none true = refl
or_none false = refl

module _ (m : Merge) (entry : Option RowAt) (roots : List Root) (merge : IsMarkedMerge m entry roots) where
  abbrev recs : List AsmRec
  recs = before m

  module _ (at : RowAt) (is : IsThere fields_in recs at) (lt : suc at.asm < length recs) (kept : m.kept (field_item recs at) ≡ true) where
    abbrev self : Item
    self = field_item recs at

    abbrev wrong : Flaw
    wrong = flaw at (token_of FIELD (suc at.row)) 0 (Outside GLOBAL_MEMBER)

    home : row_of recs self ≡ Some at
    unfolding row_of
    home = there_home fields_in recs at is

    in_own : is_module_of recs at.asm (owner_of_field is.rec at.row) ≡ true → Contains (own_flaws recs self at is.rec) wrong
    in_own e =
        Contains-append_left (flaw_if (is_module_of recs at.asm (owner_of_field is.rec at.row)) at (token_of FIELD (suc at.row)) GLOBAL_MEMBER) (each_row (data_flaw at) is.rec.field_rva) wrong
        (subst (λ (b : Bool). Contains (flaw_if b at (token_of FIELD (suc at.row)) GLOBAL_MEMBER) wrong) (sym e) (first_in wrong []))

    in_flaws : Contains (own_flaws recs self at is.rec) wrong → Contains (flaws_of recs self) wrong
    unfolding flaws_of
    in_flaws c =
        to_option (λ (x : RowAt). flat_map (λ (r : AsmRec). part_flaws recs self x ++ own_flaws recs self x r ++ attribute_flaws recs self x r) (listed (rec_at recs x))) (row_of recs self) at wrong home
        (to_option (λ (r : AsmRec). part_flaws recs self at ++ own_flaws recs self at r ++ attribute_flaws recs self at r) (rec_at recs at) is.rec wrong is.here
        (Contains-append_left (part_flaws recs self at ++ own_flaws recs self at is.rec) (attribute_flaws recs self at is.rec) wrong (Contains-append_right (part_flaws recs self at) (own_flaws recs self at is.rec) wrong c)))

    not_module : (b : Bool) → is_module_of recs at.asm (owner_of_field is.rec at.row) ≡ b → b ≡ false
    not_module true e = absurd (merge.good wrong (of_item self wrong (merge.marked self kept) (not_core recs self at home lt) (in_flaws (in_own e))))
    not_module false e = refl

    pub not_global : (place : ℕ) → owner_of_field is.rec at.row ≡ Some place → is_global recs (Some (at_row at.asm place)) ≡ false
    not_global place e =
        sym (ap (is_module_of recs at.asm) e ∙ or_none (is_global recs (Some (at_row at.asm place)))) ∙ not_module (is_module_of recs at.asm (owner_of_field is.rec at.row)) refl

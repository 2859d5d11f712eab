-- A kept field's signature names in the output what it named, moved: it has a reading, and each of its types is there.
use Rattle.std.proofs.Common.{◌≡◌, ◌<◌, ℕ, suc, List, [], ◌∷◌, length, true, Option, Some, refl, sym, ap, subst, ◌∙◌}
use Rattle.std.specs.Prelude.{slice_get}
use Rattle.std.specs.List.{Contains, flat_map}
use Rattle.il_base.specs.declared.sig.Sig.{Sig}
use Rattle.il_base.specs.declared.table.TheConstants as table
use Rattle.descriptor_file.specs.declared.root.Root.{Root}
use Rattle.il_base.specs.declared.world_model.known.Known.{Known}
use Rattle.il_base.specs.declared.world_model.known.Known.TheVariants.{Good, Bad}
use Rattle.il_base.specs.declared.world_model.expr.TypeExpr.{TypeExpr}
use Rattle.il_base.specs.declared.world_model.members.FieldRow.{FieldRow}
use Rattle.il_base.specs.declared.world_model.record.AsmRec.{AsmRec}
use Rattle.il_base.specs.world_model.Tokens.{token_of}
use Rattle.il_base.specs.world_model.Worlds.{known_map, known_then, sig_expr}
use Rattle.rules.specs.declared.link_rules.row_at.RowAt.{RowAt}
use Rattle.rules.specs.link_rules.Signatures.{names_at}
use Rattle.rules.specs.link_rules.Members.{fields_in}
use Rattle.rules.specs.link_rules.Cycles.{listed}
use Rattle.rules.specs.type_rules.Rows.{rec_at}
use Rattle.rules.specs.mark_rules.Places.{row_of, field_item}
use Rattle.rules.specs.mark_rules.Naming.{Part, bad_part, type_parts, parts_of, sig_parts}
use Rattle.rules.specs.mark_rules.Types.{parts_of_field}
use Rattle.rules.specs.mark_rules.BadItems.{flaw, part_flaw, of_item, flaws_of}
use Rattle.rules.specs.merge_rules.Keys.{world_sig}
use Rattle.rules.specs.merge_rules.Order.{met_sig}
use Rattle.rules.specs.merge_rules.Refs.{types_of_sig, new_sig}
use Rattle.rules.specs.merge_rules.Moved.{moved_sig}
use Rattle.rules.specs.merge_rules.Restricted.{output_of}
use Rattle.rules.specs.change_rules.Moves.{move_expr}
use Rattle.rules.specs.merged_world_rules.Merge.{Merge, before, after, output}
use Rattle.rules.specs.merged_world_rules.NewNumbers.{rho_of}
use Rattle.merge_laws.specs.merged_record.Laws.{OwnersAreKept}
use Rattle.merge_laws.proofs.lemmas.merged_record.Lists.{first_in, to_flat}
use Rattle.merge_laws.proofs.lemmas.merged_loads.Flawless.{IsEmpty, to_option, own_home, not_core, no_flaw_in}
use Rattle.merge_laws.specs.merged_references.Written.{HasReferenceRows}
use Rattle.merge_laws.proofs.lemmas.merged_links.Cycles.{to_in}
use Rattle.merge_laws.proofs.lemmas.merged_places.Rows.{place_within}
use Rattle.merge_laws.specs.merged_signatures.Laws.{AreThere}
use Rattle.merge_laws.proofs.lemmas.merged_signatures.Reading.{good_then}
use Rattle.merge_laws.proofs.lemmas.merged_signatures.Merges.{sig_moves}
use Rattle.trim_laws.specs.marked_merge_rules.Merges.{IsMarkedMerge}
use Rattle.trim_laws.specs.marked_merge_rules.Reads.{AllThere}
use Rattle.trim_laws.specs.merged_back.Premises.{ReadsFieldSignatures}
use Rattle.trim_laws.proofs.lemmas.merged_back.FieldMets.{sig_met}
use Rattle.trim_laws.proofs.lemmas.merged_back.SignatureHomes.{sig_there}

module _ (m : Merge) (entry : Option RowAt) (roots : List Root) (is : IsMarkedMerge m entry roots) (rows : HasReferenceRows m) (owners : OwnersAreKept (before m) m.kept) (there : AllThere m) where
  abbrev recs : List AsmRec
  recs = before m

  module _ (at : RowAt) (rec : AsmRec) (f : FieldRow) (here : slice_get recs at.asm ≡ Some rec) (row : slice_get rec.field at.row ≡ Some f) (earlier : suc at.asm < length recs) (keeps : m.kept (field_item recs at) ≡ true) where
    home : row_of recs (field_item recs at) ≡ Some at
    unfolding row_of
    home = own_home fields_in recs at rec here (place_within rec.field at.row f row)

    -- nothing of it is bad
    empty : IsEmpty (flaws_of recs (field_item recs at))
    empty x c = is.good x (of_item (field_item recs at) x (is.marked (field_item recs at) keeps) (not_core recs (field_item recs at) at home earlier) c)

    abbrev place : ℕ
    place = token_of table.FIELD (suc at.row)

    in_parts : (p : Part) → Contains (sig_parts recs at.asm rec place f.signature) p → Contains (parts_of_field recs at) p
    unfolding parts_of_field
    in_parts p c =
        to_option (λ (r : AsmRec). flat_map (λ (x : FieldRow). sig_parts recs at.asm r (token_of table.FIELD (suc at.row)) x.signature) (listed (slice_get r.field at.row))) (rec_at recs at) rec p here
        (to_option (λ (x : FieldRow). sig_parts recs at.asm rec (token_of table.FIELD (suc at.row)) x.signature) (slice_get rec.field at.row) f p row c)

    abbrev read : Known TypeExpr
    read = known_then (sig_expr (names_at recs at.asm rec)) f.signature

    reading : (k : Known TypeExpr) → read ≡ k → (e : TypeExpr) × (read ≡ Good e)
    reading (Good e) h = (e, h)
    reading (Bad why) h =
        let bad : sig_parts recs at.asm rec place f.signature ≡ bad_part place why ∷ [] = ap (parts_of place (λ e. type_parts place (e ∷ []))) h in
        absurd
        (no_flaw_in recs at rec here (field_item recs at) home empty (sig_parts recs at.asm rec place f.signature) in_parts (flaw at place 0 why)
        (to_flat (part_flaw at) (sig_parts recs at.asm rec place f.signature) (flaw at place 0 why)
        (record { item = bad_part place why; there = subst (λ (ps : List Part). Contains ps (bad_part place why)) (sym bad) (first_in (bad_part place why) []); inside = first_in (flaw at place 0 why) [] })))

    moved_is : (s : Sig) → f.signature ≡ Good s → moved_sig (output m) at.asm rec f.signature ≡ Good (new_sig (output m) (world_sig recs at.asm rec s))
    unfolding output_of
    moved_is s e = ap (moved_sig (output m) at.asm rec) e

    pub field_reads : known_then (sig_expr (names_at (after m) 0 m.left)) (moved_sig (output m) at.asm rec f.signature) ≡ known_map (move_expr (rho_of m)) (known_then (sig_expr (names_at recs at.asm rec)) f.signature)
    field_reads =
        let e = reading read refl in
        let g = good_then (sig_expr (names_at recs at.asm rec)) f.signature e.0 e.1 in
        let met = sig_met m is.merge owners at rec f g.from here row earlier keeps g.is in
        let stand : AreThere m (types_of_sig (world_sig recs at.asm rec g.from)) =
        λ t c. let h = sig_there recs at.asm rec here g.from e.0 t g.gives (to_in (types_of_sig (world_sig recs at.asm rec g.from)) t c) in there (met_sig (world_sig recs at.asm rec g.from)) t h.0 met c h.1 in
        ap (known_then (sig_expr (names_at (after m) 0 m.left))) (moved_is g.from g.is)
        ∙ sig_moves m is.merge rows at.asm rec here earlier g.from e.0 g.gives stand
        ∙ sym (ap (known_map (move_expr (rho_of m))) e.1)

  pub fields_read : ReadsFieldSignatures m
  fields_read at rec f here row earlier keeps = field_reads at rec f here row earlier keeps

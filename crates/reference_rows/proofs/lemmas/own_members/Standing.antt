-- The signature of a member, by its row.
use Rattle.std.proofs.Common.{◌≡◌, List, length, get_or, Option, Some, map, sym, ap, ◌∙◌}
use Rattle.std.specs.Prelude.{slice_get}
use Rattle.std.specs.List.{flat_map}
use Rattle.std.proofs.lemmas.List.{append-nil}
use Rattle.std.proofs.lemmas.Option.{slice_get_read, slice_get_within}
use Rattle.il_base.specs.declared.sig.Sig.{Sig}
use Rattle.il_base.specs.declared.sig.MethodSig.{MethodSig}
use Rattle.il_base.specs.declared.world_model.members.FieldRow.{FieldRow}
use Rattle.il_base.specs.declared.world_model.members.MethodDefRow.{MethodDefRow}
use Rattle.il_base.specs.declared.world_model.record.AsmRec.{AsmRec}
use Rattle.rules.specs.declared.link_rules.row_at.RowAt.{RowAt}
use Rattle.rules.specs.link_rules.Cycles.{listed}
use Rattle.rules.specs.merge_rules.Keys.{world_sig, world_method_sig}
use Rattle.rules.specs.merge_rules.Refs.{known_list, own_method_sig, own_field_sig}
use Rattle.merge_plan.specs.declared.moved_parts.tokens.NewTokens.{NewTokens}
use Rattle.token_keys.specs.signature_rows.Laws.{AreWorlds, SignaturesTell}
use Rattle.reference_rows.specs.own_members.Rows.{AreNumbersOfEach, sigs_by, field_sigs_by}

module _ (recs : List AsmRec) (at : RowAt) where
  abbrev sigs_in : AsmRec → List MethodSig
  sigs_in rec = flat_map (λ (m : MethodDefRow). map (world_method_sig recs at.asm rec) (known_list m.signature)) (listed (slice_get rec.method_def at.row))

  abbrev fields_in : AsmRec → List Sig
  fields_in rec = flat_map (λ (f : FieldRow). map (world_sig recs at.asm rec) (known_list f.signature)) (listed (slice_get rec.field at.row))

  module _ (tells : SignaturesTell) (all : List NewTokens) (long : length all ≡ length recs) (each : AreNumbersOfEach recs all) (rec : AsmRec) (t : NewTokens) (there : slice_get recs at.asm ≡ Some rec)
      (here : t ≡ get_or all at.asm t) where
    worlds : AreWorlds recs at.asm rec t
    worlds = tells.worlds recs at.asm rec t (each at.asm rec t there (slice_get_read all (length recs) at.asm t (sym long) (slice_get_within recs at.asm rec there) here))

    pub method_there : (s : Option MethodSig) → listed s ≡ sigs_by t rec at.row → listed s ≡ own_method_sig recs at
    method_there s e =
        e ∙ (λ i. flat_map (λ (m : MethodDefRow). map (λ x. worlds.methods x i) (known_list m.signature)) (listed (slice_get rec.method_def at.row)))
        ∙ sym (append-nil (sigs_in rec)) ∙ ap (λ (o : Option AsmRec). flat_map sigs_in (listed o)) (sym there)

    pub field_there : (s : Option Sig) → listed s ≡ field_sigs_by t rec at.row → listed s ≡ own_field_sig recs at
    field_there s e =
        e ∙ (λ i. flat_map (λ (f : FieldRow). map (λ x. worlds.sigs x i) (known_list f.signature)) (listed (slice_get rec.field at.row)))
        ∙ sym (append-nil (fields_in rec)) ∙ ap (λ (o : Option AsmRec). flat_map fields_in (listed o)) (sym there)

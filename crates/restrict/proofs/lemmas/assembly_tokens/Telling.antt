-- The new tokens of an assembly, and those of an output.
use Rattle.std.proofs.Common.{◌≡◌, ℕ, List, ap, ◌∙◌}
use Rattle.std.specs.Prelude.{slice_get, ◌==◌, if◌then◌else◌}
use Rattle.std.specs.Option.{option_and_then}
use Rattle.il_base.specs.declared.sig.Sig.{Sig}
use Rattle.il_base.specs.declared.table.TheConstants.{METHOD_SPEC, STAND_ALONE_SIG}
use Rattle.il_base.specs.declared.world_model.members.StandAloneSigRow.{StandAloneSigRow}
use Rattle.il_base.specs.world_model.Tokens.{table_of, index_in}
use Rattle.rules.specs.merge_rules.Keys.{TypeKey, MethodKey, FieldKey, InstanceKey, good, class_number, modifier_number, world_sigs, type_key, method_key, field_key, instance_key}
use Rattle.rules.specs.merge_rules.Refs.{Output, number_token}
use Rattle.rules.specs.merge_rules.Moved.{token_or_none, moved_type, moved_callee, moved_field, moved_locals, moved_text}
use Rattle.merge_plan.specs.declared.moved_parts.tokens.NewTokens.{NewTokens}
use Rattle.merge_plan.specs.moved_parts.Moves.{new_token}
use Rattle.merge_plan.specs.moved_parts.Laws.{AreNewTokens}
use Rattle.reference_rows.specs.key_tokens.Laws.{AreTokensOf, KeysTell}
use Rattle.restrict.specs.declared.assembly_tokens.moving.Moving.{Moving}
use Rattle.restrict.specs.assembly_tokens.Tokens.{place_of, rec_of, class_by, modifier_by, type_by, callee_by, field_by, locals_by, AreMovedTokens}
use Rattle.restrict.specs.assembly_tokens.Laws.{AreMovingOf}

module _ (tell : KeysTell) (o : Output) (m : Moving) (are : AreMovingOf o m) where
  of_keys : AreTokensOf o m.tokens
  of_keys = tell o m.tokens are.tokens

  classes_are : (q : ℕ) → class_by m q ≡ number_token o (class_number o.recs (place_of m) (rec_of m) q)
  classes_are q = ap (λ recs. new_token m.numbers.now.classes (class_number recs (place_of m) (rec_of m) q)) are.recs ∙ are.numbers.classes (class_number o.recs (place_of m) (rec_of m) q)

  modifiers_are : (q : ℕ) → modifier_by m q ≡ number_token o (modifier_number o.recs (place_of m) (rec_of m) q)
  modifiers_are q =
      ap (λ recs. new_token m.numbers.now.modifiers (modifier_number recs (place_of m) (rec_of m) q)) are.recs ∙ are.numbers.modifiers (modifier_number o.recs (place_of m) (rec_of m) q)

  types_are : (q : ℕ) → type_by m q ≡ moved_type o (place_of m) (rec_of m) q
  unfolding moved_type
  types_are q = λ i. token_or_none (λ (x : TypeKey). of_keys.of_types x i) (type_key (are.recs i) (place_of m) (rec_of m) q)

  callees_are : (q : ℕ) → callee_by m q ≡ moved_callee o (place_of m) (rec_of m) q
  unfolding moved_callee
  callees_are q =
      λ i. if table_of q == METHOD_SPEC then token_or_none (λ (x : InstanceKey). of_keys.of_instances x i) (instance_key (are.recs i) (place_of m) (rec_of m) q)
      else token_or_none (λ (x : MethodKey). of_keys.of_methods x i) (method_key (are.recs i) (place_of m) (rec_of m) q)

  fields_are : (q : ℕ) → field_by m q ≡ moved_field o (place_of m) (rec_of m) q
  unfolding moved_field
  fields_are q = λ i. token_or_none (λ (x : FieldKey). of_keys.of_fields x i) (field_key (are.recs i) (place_of m) (rec_of m) q)

  locals_are : (q : ℕ) → locals_by m q ≡ moved_locals o (place_of m) (rec_of m) q
  unfolding moved_locals
  locals_are q =
      λ i. token_or_none
      (λ (row : StandAloneSigRow). token_or_none (λ (ss : List Sig). of_keys.of_locals (world_sigs (are.recs i) (place_of m) (rec_of m) ss) i) (good row.signature))
      (option_and_then (slice_get (rec_of m).stand_alone_sig) (index_in STAND_ALONE_SIG q))

  pub all_tell : (t : NewTokens) → AreMovedTokens m t → ((q : ℕ) → new_token t.texts q ≡ moved_text o (rec_of m) q) → AreNewTokens o (place_of m) (rec_of m) t
  all_tell t moved texts = record {
    classes = λ q. moved.classes q ∙ classes_are q;
    modifiers = λ q. moved.modifiers q ∙ modifiers_are q;
    types = λ q. moved.types q ∙ types_are q;
    callees = λ q. moved.callees q ∙ callees_are q;
    fields = λ q. moved.fields q ∙ fields_are q;
    locals = λ q. moved.locals q ∙ locals_are q;
    texts = texts;
  }

-- Tokens of no row become 0.
use Rattle.std.proofs.Common.{◌≡◌, ℕ, List, length, Bool, true, false, Option, Some, None, refl, ap, subst, ◌∙◌}
use Rattle.std.specs.Prelude.{slice_get, nat_lt, ◌==◌, if◌then◌else◌}
use Rattle.std.specs.Option.{is_some, option_map, option_and_then}
use Rattle.std.proofs.lemmas.Bool.{ltb-false}
use Rattle.std.proofs.lemmas.Option.{slice_get_past}
use Rattle.il_base.specs.declared.table.TheConstants.{TYPE_REF, TYPE_DEF, FIELD, METHOD_DEF, MEMBER_REF, STAND_ALONE_SIG, TYPE_SPEC, METHOD_SPEC}
use Rattle.il_base.specs.declared.world_model.record.AsmRec.{AsmRec}
use Rattle.il_base.specs.world_model.Tokens.{table_of, index_in}
use Rattle.il_base.specs.world_model.Worlds.{row_below}
use Rattle.rules.specs.link_rules.Members.{methods_in, fields_in, def_use_at, ref_use_at, generic_method}
use Rattle.rules.specs.mark_rules.Naming.{spec_use_at, method_named, field_def_at, field_ref_at, field_named}
use Rattle.rules.specs.merge_rules.Keys.{good, numbered_key, spec_key, type_key, method_key_of, method_key, field_key_of, field_key, instance_by, instance_key}
use Rattle.rules.specs.merge_rules.Moved.{token_or_none}
use Rattle.merge_plan.specs.moved_parts.Moves.{new_token}
use Rattle.token_keys.specs.type_numbers.Filled.{covers}
use Rattle.token_keys.proofs.lemmas.type_numbers.Unnamed.{no_class, no_mark}
use Rattle.reference_rows.specs.key_tokens.Keys.{key_token_by, instance_token_by, method_token_by, field_token_by}
use Rattle.restrict.specs.declared.assembly_tokens.moving.Moving.{Moving}
use Rattle.restrict.specs.assembly_tokens.Tokens.{recs_of, place_of, rec_of, IsMoving, class_by, modifier_by, type_by, callee_by, field_by, locals_row_by, locals_by}

-- ---- rows that aren't there

past : {A : Type 0} (xs : List A) (k : ℕ) (b : Bool) → nat_lt k (length xs) ≡ b → is_some (if b then Some k else None) ≡ false → slice_get xs k ≡ None
past xs k true e h = let no : true ≡ false = h in cc
past xs k false e h = slice_get_past xs k (ltb-false k (length xs) e)

no_row : {A : Type 0} (xs : List A) (o : Option ℕ) → is_some (row_below (length xs) o) ≡ false → option_and_then (slice_get xs) o ≡ None
no_row xs None e = refl
no_row xs (Some k) e = past xs k (nat_lt k (length xs)) refl e

not_some : {A : Type 0} (o : Option A) → is_some o ≡ false → o ≡ None
not_some None e = refl
not_some (Some x) e = let no : true ≡ false = e in cc

-- ---- what such a token names

module _ (recs : List AsmRec) (a : ℕ) (rec : AsmRec) (q : ℕ) where
  type_none : (b : Bool) → (if b then spec_key recs a rec None else numbered_key 0) ≡ None
  type_none true = refl
  type_none false = refl

  no_type : slice_get recs a ≡ Some rec → covers TYPE_REF (length rec.type_ref) q ≡ false → covers TYPE_DEF (length rec.type_def) q ≡ false → covers TYPE_SPEC (length rec.type_spec) q ≡ false
      → type_key recs a rec q ≡ None
  unfolding type_key
  no_type here e f g =
      (λ i. if table_of q == TYPE_SPEC then spec_key recs a rec (no_row rec.type_spec (index_in TYPE_SPEC q) g i) else numbered_key (no_class recs a rec here q e f i))
      ∙ type_none (table_of q == TYPE_SPEC)

  no_instance : covers METHOD_SPEC (length rec.method_spec) q ≡ false → instance_key recs a rec q ≡ None
  unfolding instance_key
  no_instance e = ap (option_and_then (instance_by recs a rec)) (no_row rec.method_spec (index_in METHOD_SPEC q) e)

  use_none : (b d : Bool) → good (if b then spec_use_at recs a rec None else (if d then def_use_at recs a rec None else ref_use_at recs a rec None)) ≡ None
  use_none true d = refl
  use_none false true = refl
  use_none false false = refl

  no_method : covers METHOD_DEF (methods_in rec) q ≡ false → covers MEMBER_REF (length rec.member_ref) q ≡ false → covers METHOD_SPEC (length rec.method_spec) q ≡ false
      → method_key recs a rec q ≡ None
  unfolding method_key method_named generic_method
  no_method e f g =
      ap (option_map (method_key_of recs (table_of q == METHOD_DEF)))
      ((λ i. good
      (if table_of q == METHOD_SPEC then spec_use_at recs a rec (no_row rec.method_spec (index_in METHOD_SPEC q) g i)
      else (if table_of q == METHOD_DEF then def_use_at recs a rec (not_some (row_below (methods_in rec) (index_in METHOD_DEF q)) e i) else ref_use_at recs a rec (no_row rec.member_ref (index_in MEMBER_REF q) f i))))
      ∙ use_none (table_of q == METHOD_SPEC) (table_of q == METHOD_DEF))

  field_none : (b : Bool) → good (if b then field_def_at recs a rec None else field_ref_at recs a rec None) ≡ None
  field_none true = refl
  field_none false = refl

  no_field : covers FIELD (fields_in rec) q ≡ false → covers MEMBER_REF (length rec.member_ref) q ≡ false → field_key recs a rec q ≡ None
  unfolding field_key field_named
  no_field e f =
      ap (option_map (field_key_of recs (table_of q == FIELD)))
      ((λ i. good (if table_of q == FIELD then field_def_at recs a rec (not_some (row_below (fields_in rec) (index_in FIELD q)) e i) else field_ref_at recs a rec (no_row rec.member_ref (index_in MEMBER_REF q) f i)))
      ∙ field_none (table_of q == FIELD))

-- ---- what it becomes

module _ (m : Moving) (are : IsMoving m) where
  here : slice_get (recs_of m) (place_of m) ≡ Some (rec_of m)
  here = subst (λ (rs : List AsmRec). slice_get rs (place_of m) ≡ Some (rec_of m)) are.keys.recs are.keys.asm.scope.here

  pub no_classes : (q : ℕ) → covers TYPE_REF (length (rec_of m).type_ref) q ≡ false → covers TYPE_DEF (length (rec_of m).type_def) q ≡ false → class_by m q ≡ 0
  no_classes q e f = ap (new_token m.numbers.now.classes) (no_class (recs_of m) (place_of m) (rec_of m) here q e f) ∙ are.numbers.classes 0

  pub no_modifiers : (q : ℕ) → covers TYPE_REF (length (rec_of m).type_ref) q ≡ false → covers TYPE_DEF (length (rec_of m).type_def) q ≡ false → modifier_by m q ≡ 0
  no_modifiers q e f = ap (new_token m.numbers.now.modifiers) (no_mark (recs_of m) (place_of m) (rec_of m) here q e f) ∙ are.numbers.modifiers 0

  pub no_types : (q : ℕ) → covers TYPE_REF (length (rec_of m).type_ref) q ≡ false → covers TYPE_DEF (length (rec_of m).type_def) q ≡ false
      → covers TYPE_SPEC (length (rec_of m).type_spec) q ≡ false → type_by m q ≡ 0
  no_types q e f g = ap (token_or_none (key_token_by m.tokens)) (no_type (recs_of m) (place_of m) (rec_of m) q here e f g)

  alike : (n : ℕ) (b : Bool) → (if b then n else n) ≡ n
  alike n true = refl
  alike n false = refl

  pub no_callees : (q : ℕ) → covers METHOD_DEF (length (rec_of m).method_def) q ≡ false → covers MEMBER_REF (length (rec_of m).member_ref) q ≡ false
      → covers METHOD_SPEC (length (rec_of m).method_spec) q ≡ false → callee_by m q ≡ 0
  no_callees q e f g =
      (λ i. if table_of q == METHOD_SPEC then token_or_none (instance_token_by m.tokens) (no_instance (recs_of m) (place_of m) (rec_of m) q g i)
      else token_or_none (method_token_by m.tokens) (no_method (recs_of m) (place_of m) (rec_of m) q e f g i))
      ∙ alike 0 (table_of q == METHOD_SPEC)

  pub no_fields : (q : ℕ) → covers FIELD (length (rec_of m).field) q ≡ false → covers MEMBER_REF (length (rec_of m).member_ref) q ≡ false → field_by m q ≡ 0
  no_fields q e f = ap (token_or_none (field_token_by m.tokens)) (no_field (recs_of m) (place_of m) (rec_of m) q e f)

  pub no_locals : (q : ℕ) → covers STAND_ALONE_SIG (length (rec_of m).stand_alone_sig) q ≡ false → locals_by m q ≡ 0
  no_locals q e = ap (token_or_none (locals_row_by m)) (no_row (rec_of m).stand_alone_sig (index_in STAND_ALONE_SIG q) e)

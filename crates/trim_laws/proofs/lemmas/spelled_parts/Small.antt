-- Tokens of the output have 32 bits.
use Rattle.std.proofs.Common.{◌≡◌, ℕ, ◌%◌, ◌^◌, ◌<◌, Bool, true, false, List, [], ◌∷◌, map, Option, Some, None, refl, arith}
use Rattle.std.specs.Prelude.{◌==◌, slice_get, if◌then◌else◌}
use Rattle.std.specs.Option.{option_and_then}
use Rattle.il_base.specs.declared.ids.TypeId.{TypeId}
use Rattle.il_base.specs.declared.sig.Sig.{Sig}
use Rattle.il_base.specs.declared.body.Form.{Form}
use Rattle.il_base.specs.declared.body.Form.TheVariants as form
use Rattle.il_base.specs.declared.table.TheConstants as table
use Rattle.il_base.specs.declared.world_model.record.AsmRec.{AsmRec}
use Rattle.il_base.specs.world_model.Tokens.{table_of, index_in}
use Rattle.rules.specs.link_rules.Cycles.{listed}
use Rattle.rules.specs.mark_rules.Bodies.{is_field_token, is_method_token}
use Rattle.rules.specs.merge_rules.Keys.{TypeKey, named, spec, MethodKey, own_method, found_method, absent_method, FieldKey, own_field, found_field, InstanceKey, good, world_sigs, type_key, method_key, field_key, instance_key}
use Rattle.rules.specs.merge_rules.Refs.{Output, first_or, is_reference, row_token, type_token, key_token, method_token, field_token, instance_token, locals_token}
use Rattle.rules.specs.merge_rules.Moved.{token_or_none, moved_type, moved_callee, moved_field, moved_any, texts_named, text_token, moved_text, moved_by_form, locals_row_token, moved_locals}

abbrev pub IsSmall : ℕ → Type 0
IsSmall n = n < 2 ^ 32

zero_small : IsSmall 0
zero_small = omega arith

rest_small : (n : ℕ) → IsSmall (n % 4294967296)
rest_small n = omega arith

first_small : {A : Type 0} (f : A → ℕ) (xs : List A) → ((x : A) → IsSmall (f x)) → IsSmall (first_or (map f xs) 0)
first_small f [] h = zero_small
first_small f (x ∷ xs) h = h x

or_small : {A : Type 0} (f : A → ℕ) (o : Option A) → ((x : A) → IsSmall (f x)) → IsSmall (token_or_none f o)
or_small f o h = first_small f (listed o) h

either_small : (b : Bool) (n m : ℕ) → IsSmall n → IsSmall m → IsSmall (if b then n else m)
either_small true n m h k = h
either_small false n m h k = k

row_small : (t : ℕ) (o : Option ℕ) → IsSmall (row_token t o)
row_small t None = zero_small
row_small t (Some k) = rest_small _

module _ (o : Output) where
  pub type_small : (t : TypeId) → IsSmall (type_token o t)
  unfolding type_token
  type_small t = either_small (is_reference o.recs t) _ _ (row_small table.TYPE_REF _) (row_small table.TYPE_DEF _)

  key_small : (k : TypeKey) → IsSmall (key_token o k)
  unfolding key_token
  key_small (named t) = type_small t
  key_small (spec s) = row_small table.TYPE_SPEC _

  method_small : (k : MethodKey) → IsSmall (method_token o k)
  unfolding method_token
  method_small (own_method m) = row_small table.METHOD_DEF _
  method_small (found_method m e) = row_small table.MEMBER_REF _
  method_small (absent_method p name s) = row_small table.MEMBER_REF _

  field_small : (k : FieldKey) → IsSmall (field_token o k)
  unfolding field_token
  field_small (own_field f) = row_small table.FIELD _
  field_small (found_field f e) = row_small table.MEMBER_REF _

  instance_small : (k : InstanceKey) → IsSmall (instance_token o k)
  unfolding instance_token
  instance_small k = row_small table.METHOD_SPEC _

  locals_small : (ss : List Sig) → IsSmall (locals_token o ss)
  unfolding locals_token
  locals_small ss = row_small table.STAND_ALONE_SIG _

  module _ (a : ℕ) (rec : AsmRec) where
    pub moved_type_small : (token : ℕ) → IsSmall (moved_type o a rec token)
    unfolding moved_type
    moved_type_small token = or_small (key_token o) (type_key o.recs a rec token) key_small

    callee_small : (token : ℕ) → IsSmall (moved_callee o a rec token)
    unfolding moved_callee
    callee_small token =
        either_small (table_of token == table.METHOD_SPEC) _ _ (or_small (instance_token o) (instance_key o.recs a rec token) instance_small) (or_small (method_token o) (method_key o.recs a rec token) method_small)

    moved_field_small : (token : ℕ) → IsSmall (moved_field o a rec token)
    unfolding moved_field
    moved_field_small token = or_small (field_token o) (field_key o.recs a rec token) field_small

    any_small : (token : ℕ) → IsSmall (moved_any o a rec token)
    any_small token = either_small (is_field_token rec token) _ _ (moved_field_small token) (either_small (is_method_token token) _ _ (callee_small token) (moved_type_small token))

    text_small : (token : ℕ) → IsSmall (moved_text o rec token)
    text_small token = first_small (text_token o) (texts_named rec token) (λ units. rest_small _)

    pub form_small : (f : Form) (token : ℕ) → IsSmall (moved_by_form o a rec f token)
    form_small form.Call token = callee_small token
    form_small form.NewObj token = callee_small token
    form_small form.Field token = moved_field_small token
    form_small form.LdStr token = text_small token
    form_small form.LdToken token = any_small token
    form_small _ token = moved_type_small token

    pub moved_locals_small : (token : ℕ) → IsSmall (moved_locals o a rec token)
    unfolding moved_locals
    moved_locals_small token =
        or_small (locals_row_token o a rec) (option_and_then (slice_get rec.stand_alone_sig) (index_in table.STAND_ALONE_SIG token))
        (λ row. or_small (λ ss. locals_token o (world_sigs o.recs a rec ss)) (good row.signature) (λ ss. locals_small (world_sigs o.recs a rec ss)))

    pub no_locals : moved_locals o a rec 0 ≡ 0
    unfolding moved_locals
    no_locals = refl

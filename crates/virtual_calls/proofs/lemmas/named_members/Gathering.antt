-- The members of a kind that a search wants are those that the definitions collect type by type.
use Rattle.std.proofs.Common.{◌≡◌, ℕ, List, [], ◌∷◌, ◌++◌, map, Bool, true, false, not, cond, ◌&&◌, Option, Some, None, refl, sym, ap, ◌∙◌}
use Rattle.std.specs.Prelude.{◌||◌, ◌==◌, slice_get}
use Rattle.std.specs.List.{list_any, filter}
use Rattle.std.proofs.Math.Bool.{and_assoc}
use Rattle.il_base.specs.declared.field_flags.TheConstants.{PUBLIC, STATIC}
use Rattle.il_base.specs.Flags.{has_flag, access_of}
use Rattle.il_base.specs.declared.world_model.expr.TypeExpr.{TypeExpr}
use Rattle.il_base.specs.declared.world_model.members.FieldRow.{FieldRow}
use Rattle.il_base.specs.declared.world_model.members.MethodDefRow.{MethodDefRow}
use Rattle.il_base.specs.declared.world_model.record.AsmRec.{AsmRec}
use Rattle.rules.specs.declared.link_rules.row_at.RowAt.{RowAt}
use Rattle.rules.specs.link_rules.Cycles.{listed}
use Rattle.rules.specs.type_rules.Slots.{method_row_at, is_public, is_static}
use Rattle.rules.specs.declared.type_rules.found_member.FoundMember.{FoundMember}
use Rattle.rules.specs.type_rules.Searches.{is_wanted, rows_of, visible, collect, field_test, method_test, is_public_field, is_constructor, is_public_method, is_property_wanted, is_event_wanted, is_public_mapped, fields_found, methods_found, properties_found, events_found}
use Rattle.virtual_calls.specs.declared.named_members.kinds.Kind.{Kind}
use Rattle.virtual_calls.specs.declared.named_members.kinds.Kind.TheVariants.{Field, Method, Property, Event}
use Rattle.virtual_calls.specs.named_members.Kinds.{members_of, is_named, named_rows}
use Rattle.virtual_calls.specs.named_members.Counts.{passes_field, passes_method, counts}
use Rattle.virtual_calls.specs.named_members.Hiding.{hides}
use Rattle.virtual_calls.specs.named_members.Named.{kept, member_of, gather, found}

-- ---- tests

or_false : (b : Bool) → (b || false) ≡ b
or_false true = refl
or_false false = refl

one_and : {A : Type 0} (f g h : A → Bool) → ((x : A) → f x ≡ (g x && h x)) → (o : Option A) → list_any f (listed o) ≡ (list_any g (listed o) && list_any h (listed o))
one_and f g h e None = refl
one_and f g h e (Some x) = rw (or_false (f x), or_false (g x), or_false (h x)) (e x)

module _ (recs : List AsmRec) where
  field_and : (f g h : FieldRow → Bool) → ((x : FieldRow) → f x ≡ (g x && h x)) → (at : RowAt) → field_test recs f at ≡ (field_test recs g at && field_test recs h at)
  field_and f g h e at =
      one_and (λ (rec : AsmRec). list_any f (listed (slice_get rec.field at.row))) (λ (rec : AsmRec). list_any g (listed (slice_get rec.field at.row))) (λ (rec : AsmRec). list_any h (listed (slice_get rec.field at.row)))
      (λ rec. one_and f g h e (slice_get rec.field at.row)) (slice_get recs at.asm)

  method_and : (f g h : MethodDefRow → Bool) → ((x : MethodDefRow) → f x ≡ (g x && h x)) → (at : RowAt) → method_test recs f at ≡ (method_test recs g at && method_test recs h at)
  method_and f g h e at = one_and f g h e (method_row_at recs at)

four : (a b c d : Bool) → (a && b && c && d) ≡ (a && (b && c && d))
four true b c d = refl
four false b c d = refl

-- ---- those of a name first

module _ {A : Type 0} (test p c n : A → Bool) (is : (x : A) → test x ≡ (p x && c x)) where
  in_two : (x : A) (rest passed : List A) (pb tb : Bool) → tb ≡ (pb && c x) → rest ≡ filter (λ y. c y && n y) passed
      → cond (tb && n x) (x ∷ rest) rest ≡ filter (λ y. c y && n y) (cond pb (x ∷ passed) passed)
  in_two x rest passed true tb h e = rw (h, e) refl
  in_two x rest passed false tb h e = rw (h, e) refl

  filter_two : (xs : List A) → filter (λ x. test x && n x) xs ≡ filter (λ x. c x && n x) (filter p xs)
  filter_two [] = refl
  filter_two (x ∷ xs) = in_two x (filter (λ y. test y && n y) xs) (filter p xs) (p x) (test x) (is x) (filter_two xs)

-- ---- type by type

module _ (recs : List AsmRec) (wanted : Option (List ℕ)) (es : List TypeExpr) (kind : Kind) (test : Bool → RowAt → Bool)
    (is : (b : Bool) (x : RowAt) → test b x ≡ (is_named recs wanted kind x && counts recs kind b x)) where
  visible_is : (inherited : Bool) (before : List RowAt) (e : TypeExpr)
      → visible (hides recs es kind) (test inherited) before (rows_of recs (members_of kind) e) ≡ kept recs es kind inherited before (named_rows recs wanted kind e)
  visible_is inherited before e =
      filter_two (test inherited) (is_named recs wanted kind) (counts recs kind inherited) (λ x. not (list_any (λ y. hides recs es kind y x) before)) (is inherited) (rows_of recs (members_of kind) e)

  collect_is : (inherited : Bool) (before : List RowAt) (ts : List TypeExpr)
      → collect (member_of recs kind) (hides recs es kind) (rows_of recs (members_of kind)) test inherited before ts ≡ gather recs wanted es kind inherited before ts
  collect_is inherited before [] = refl
  collect_is inherited before (t ∷ ts) =
      ap (λ (more : List RowAt). map (member_of recs kind t) more ++ collect (member_of recs kind) (hides recs es kind) (rows_of recs (members_of kind)) test true (before ++ more) ts)
      (visible_is inherited before t)
      ∙ ap (λ (rest : List FoundMember). map (member_of recs kind t) (kept recs es kind inherited before (named_rows recs wanted kind t)) ++ rest)
      (collect_is true (before ++ kept recs es kind inherited before (named_rows recs wanted kind t)) ts)

module _ (recs : List AsmRec) (wanted : Option (List ℕ)) (es : List TypeExpr) where
  wants_field : FieldRow → Bool
  wants_field f = is_wanted wanted f.name

  wants_method : MethodDefRow → Bool
  wants_method m = is_wanted wanted m.name

  pub found_is : (kind : Kind) → found recs wanted es kind ≡ gather recs wanted es kind false [] es
  unfolding fields_found methods_found properties_found events_found wants_field wants_method
  found_is Field =
      collect_is recs wanted es Field (λ b. field_test recs (is_public_field wanted b))
      (λ b. field_and recs (is_public_field wanted b) wants_field (passes_field b) (λ f. and_assoc (wants_field f) (access_of f.flags == PUBLIC) (not b || not (has_flag f.flags STATIC)))) false [] es
  found_is Method =
      collect_is recs wanted es Method (λ b. method_test recs (is_public_method wanted b))
      (λ b. method_and recs (is_public_method wanted b) wants_method (passes_method b) (λ m. four (wants_method m) (is_public m) (not (is_constructor m)) (not b || not (is_static m)))) false [] es
  found_is Property =
      collect_is recs wanted es Property (λ b at. is_property_wanted recs wanted at && is_public_mapped recs 0x17 b at) (λ b at. refl) false [] es
  found_is Event =
      collect_is recs wanted es Event (λ b at. is_event_wanted recs wanted at && is_public_mapped recs 0x14 b at) (λ b at. refl) false [] es

-- Texts of methods and fields, compared.
use Rattle.std.proofs.Common.{◌≡◌, ℕ, suc, List, [], ◌∷◌, ◌++◌, Bool, true, false, Option, Some, None, refl, sym, ap, ◌∙◌, subst}
use Rattle.std.specs.Prelude.{◌||◌, slice_get, codes}
use Rattle.std.specs.List.{list_any}
use Rattle.il_base.specs.declared.table.TheConstants.{TYPE_DEF}
use Rattle.il_base.specs.declared.world_model.expr.TypeExpr.{TypeExpr}
use Rattle.il_base.specs.declared.world_model.members.FieldRow.{FieldRow}
use Rattle.il_base.specs.declared.world_model.members.MethodDefRow.{MethodDefRow}
use Rattle.il_base.specs.declared.world_model.record.AsmRec.{AsmRec}
use Rattle.il_base.specs.world_model.Core.{same_name}
use Rattle.il_base.specs.world_model.Tokens.{token_of}
use Rattle.il_base.specs.world_model.Worlds.{known_then, sig_expr}
use Rattle.descriptor_file.specs.declared.root.RootMember.{RootMember}
use Rattle.rules.specs.declared.link_rules.row_at.RowAt.{RowAt}
use Rattle.rules.specs.declared.link_rules.member_type.MethodType.{MethodType}
use Rattle.rules.specs.link_rules.Cycles.{listed}
use Rattle.rules.specs.link_rules.Signatures.{names_at}
use Rattle.rules.specs.type_rules.Rows.{rec_at}
use Rattle.rules.specs.type_rules.Slots.{type_of_row}
use Rattle.rules.specs.mark_rules.Dependencies.{good_signatures}
use Rattle.rules.specs.mark_rules.Annotations.{good_expr}
use Rattle.rules.specs.mark_rules.Roots.{method_owners, method_text, has_method_text, sig_text, field_text, field_fits, fits_field}
use Rattle.descriptor_texts.specs.declared.slashed_names.names.SlashedNames.{SlashedNames}
use Rattle.descriptor_texts.specs.slashed_names.Names.{AreNames}
use Rattle.mark_roots.specs.Lookups.{fields_fit_by, field_fits_in}

or_false : (b : Bool) → b ≡ (b || false)
or_false true = refl
or_false false = refl

pub any_one : {A : Type 0} (p : A → Bool) (xs : List A) (x : A) → xs ≡ x ∷ [] → p x ≡ list_any p xs
any_one p xs x e = or_false (p x) ∙ ap (list_any p) (sym e)

pub any_none : {A : Type 0} (p : A → Bool) (xs : List A) → xs ≡ [] → false ≡ list_any p xs
any_none p xs e = ap (list_any p) (sym e)

pub listed_one : {A : Type 0} (o : Option A) (x : A) → o ≡ Some x → listed o ≡ x ∷ []
listed_one o x e = ap listed e

pub listed_none : {A : Type 0} (o : Option A) → o ≡ None → listed o ≡ []
listed_none o e = ap listed e

pub no_text : (recs : List AsmRec) (r : RootMember) (t at : RowAt) (m : MethodDefRow) (o : Option AsmRec) → [] ≡ good_signatures (type_of_row recs at) → false ≡ list_any (has_method_text recs r t at m) (listed o)
no_text recs r t at m None e = refl
no_text recs r t at m (Some rec) e =
    any_none (λ (s : MethodType). same_name (method_text recs rec (method_owners t at) m.name s) r.text) (good_signatures (type_of_row recs at)) (sym e)
    ∙ or_false (has_method_text recs r t at m rec)

-- a comparison of two texts, which other names say
pub compared : (is : Bool) (text other a b : List ℕ) → is ≡ same_name text other → text ≡ a → other ≡ b → is ≡ same_name a b
compared is text other a b e p q = e ∙ ap (λ (x : List ℕ). same_name x other) p ∙ ap (same_name a) q

pub text_is : (recs : List AsmRec) (r : RootMember) (t at : RowAt) (m : MethodDefRow) (rec : AsmRec) (s : MethodType) (text : List ℕ) → slice_get recs at.asm ≡ Some rec → good_signatures (type_of_row recs at) ≡ s ∷ []
    → text ≡ method_text recs rec (method_owners t at) m.name s → same_name text r.text ≡ list_any (has_method_text recs r t at m) (listed (rec_at recs at))
text_is recs r t at m rec s text here good e =
    ap (λ (x : List ℕ). same_name x r.text) e
    ∙ any_one (λ (s : MethodType). same_name (method_text recs rec (method_owners t at) m.name s) r.text) (good_signatures (type_of_row recs at)) s good
    ∙ any_one (has_method_text recs r t at m) (listed (rec_at recs at)) rec (listed_one (rec_at recs at) rec here)

-- ---- fields

pub field_is : (recs : List AsmRec) (asm : ℕ) (rec : AsmRec) (r : RootMember) (t : RowAt) (f : FieldRow) (e : TypeExpr) (typ : ℕ) (text : List ℕ) → typ ≡ token_of TYPE_DEF (suc t.row)
    → e ∷ [] ≡ good_expr (known_then (sig_expr (names_at recs asm rec)) f.signature) → text ≡ sig_text recs rec (record { type = typ; method = 0 }) e ++ codes " " ++ f.name
    → same_name text r.text ≡ fields_fit_by recs asm rec r t f
field_is recs asm rec r t f e typ text k good p =
    ap (λ (x : List ℕ). same_name x r.text) (p ∙ ap (λ (n : ℕ). sig_text recs rec (record { type = n; method = 0 }) e ++ codes " " ++ f.name) k)
    ∙ any_one (λ (e : TypeExpr). same_name (field_text recs rec t f.name e) r.text) (good_expr (known_then (sig_expr (names_at recs asm rec)) f.signature)) e (sym good)

pub no_field_text : (recs : List AsmRec) (asm : ℕ) (rec : AsmRec) (r : RootMember) (t : RowAt) (f : FieldRow) → [] ≡ good_expr (known_then (sig_expr (names_at recs asm rec)) f.signature) → false ≡ fields_fit_by recs asm rec r t f
no_field_text recs asm rec r t f none =
    any_none (λ (e : TypeExpr). same_name (field_text recs rec t f.name e) r.text) (good_expr (known_then (sig_expr (names_at recs asm rec)) f.signature)) (sym none)

pub field_fits_one : (recs : List AsmRec) (r : RootMember) (t at : RowAt) (rec : AsmRec) (f : FieldRow) (is : Bool) → Some f ≡ slice_get rec.field at.row → is ≡ field_fits recs r t at rec f → is ≡ field_fits_in recs r t at rec
field_fits_one recs r t at rec f is there h =
    h ∙ any_one (field_fits recs r t at rec) (listed (slice_get rec.field at.row)) f (listed_one (slice_get rec.field at.row) f (sym there))

pub field_fits_none : (recs : List AsmRec) (r : RootMember) (t at : RowAt) (rec : AsmRec) → None ≡ slice_get rec.field at.row → false ≡ field_fits_in recs r t at rec
field_fits_none recs r t at rec there = any_none (field_fits recs r t at rec) (listed (slice_get rec.field at.row)) (listed_none (slice_get rec.field at.row) (sym there))

pub fits_is : (recs own : List AsmRec) (r : RootMember) (t at : RowAt) (rec : AsmRec) (is : Bool) → Some rec ≡ slice_get recs at.asm → own ≡ recs → is ≡ field_fits_in own r t at rec → is ≡ fits_field recs r t at
fits_is recs own r t at rec is here e h =
    h ∙ ap (λ (rs : List AsmRec). field_fits_in rs r t at rec) e
    ∙ any_one (field_fits_in recs r t at) (listed (rec_at recs at)) rec (listed_one (rec_at recs at) rec (sym here))

pub no_rec_fits : (recs : List AsmRec) (r : RootMember) (t at : RowAt) → None ≡ slice_get recs at.asm → false ≡ fits_field recs r t at
no_rec_fits recs r t at here = any_none (field_fits_in recs r t at) (listed (rec_at recs at)) (listed_none (rec_at recs at) (sym here))

-- ---- names

pub names_there : (names : SlashedNames) (own recs : List AsmRec) → own ≡ recs → AreNames recs names → AreNames own names
names_there names own recs e h = subst (λ (rs : List AsmRec). AreNames rs names) (sym e) h

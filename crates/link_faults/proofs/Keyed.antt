-- The lists of numbers of rows are those of their keys.
use Rattle.std.proofs.Common.{◌≡◌, ℕ, suc, Bool, true, false, List, [], ◌∷◌, map, Option, Some, None, refl, sym, ap, ◌∙◌}
use Rattle.std.specs.Prelude.{if◌then◌else◌, slice_get, bytes_eq}
use Rattle.std.specs.Option.{option_map}
use Rattle.il_base.specs.declared.sig.Sig.{Sig}
use Rattle.il_base.specs.declared.sig.MethodSig.{MethodSig}
use Rattle.il_base.specs.declared.world_model.known.Known.{Known}
use Rattle.il_base.specs.declared.world_model.known.Known.TheVariants.{Good, Bad}
use Rattle.il_base.specs.declared.world_model.expr.TypeExpr.{TypeExpr}
use Rattle.il_base.specs.declared.world_model.members.FieldRow.{FieldRow}
use Rattle.il_base.specs.declared.world_model.members.MethodDefRow.{MethodDefRow}
use Rattle.il_base.specs.declared.world_model.record.AsmRec.{AsmRec}
use Rattle.il_base.specs.declared.world_model.world.TypeLink.{TypeLink}
use Rattle.il_base.specs.world_model.Exprs.{same_expr}
use Rattle.il_base.specs.world_model.Worlds.{known_then, sig_expr, names_by}
use Rattle.rules.specs.declared.link_rules.member_type.MethodType.{MethodType}
use Rattle.rules.specs.link_rules.Signatures.{names_at, method_type, same_method_type}
use Rattle.rules.specs.link_rules.Members.{is_compiler_controlled, good_type}
use Rattle.rules.specs.link_rules.Laws.{TellSignatures, TellMethods}
use Rattle.rules.specs.link_rules.Faults.{numbered, same_type_key, type_key, same_member_key, member_key, field_key, method_key, first_repeat, repeated_row, repeated_type, repeated_field, repeated_method}
use Rattle.link_faults.specs.declared.owners.Member.TheVariants as member
use Rattle.link_faults.specs.Codes.{type_code, method_code, member_code, type_key_code}
use Rattle.link_faults.specs.Keys.{good, type_codes, code_of_member, owner_in, code_of_field, field_codes, code_of_method, method_codes}
use Rattle.link_faults.proofs.Distinct.{field_key_by_code, method_key_by_code, type_key_by_code}
use Rattle.link_faults.proofs.FirstMet.{repeat_by_code}

map_numbered : {A B C : Type 0} (g : B → C) (f : ℕ → A → B) (h : ℕ → A → C) → ((k : ℕ) (x : A) → g (f k x) ≡ h k x) → (i : ℕ) (xs : List A) → map g (numbered f i xs) ≡ numbered h i xs
map_numbered g f h e i [] = refl
map_numbered g f h e i (x ∷ xs) = λ j. e i x j ∷ map_numbered g f h e (suc i) xs j

-- ---- types

types_coded : (rec : AsmRec) → map (option_map type_key_code) (numbered (type_key rec) 0 rec.type_def) ≡ type_codes rec
unfolding type_key_code
types_coded rec = map_numbered (option_map type_key_code) (type_key rec) _ (λ k t. refl) 0 rec.type_def

pub type_repeated : (file : ℕ) (rec : AsmRec) → repeated_row file 0x02 (first_repeat bytes_eq (type_codes rec)) ≡ repeated_type file rec
unfolding repeated_type
type_repeated file rec =
    ap (repeated_row file 0x02)
    (ap (first_repeat bytes_eq) (sym (types_coded rec)) ∙ sym (repeat_by_code same_type_key type_key_code type_key_by_code (numbered (type_key rec) 0 rec.type_def)))

-- ---- members

member_coded : {A : Type 0} (code : A → List ℕ) (name : List ℕ) (owner : Option ℕ) (k : Known A) → option_map (member_code code) (member_key name owner k) ≡ code_of_member name owner (option_map code (good k))
unfolding member_code
member_coded code name None k = refl
member_coded code name (Some owner) (Bad why) = refl
member_coded code name (Some owner) (Good x) = refl

good_same : (k : Known TypeExpr) → good k ≡ good_type k
good_same (Good e) = refl
good_same (Bad why) = refl

if_coded : {A : Type 0} (g : A → List ℕ) (b : Bool) (o : Option A) (c : Option (List ℕ)) → option_map g o ≡ c → option_map g (if b then None else o) ≡ (if b then None else c)
if_coded g true o c e = refl
if_coded g false o c e = e

module _ (all : List AsmRec) (links : List TypeLink) (a : ℕ) (rec : AsmRec) (there : slice_get all a ≡ Some rec) where
  module _ (told : TellSignatures all links) where
    type_told : (k : Known Sig) → known_then (sig_expr (names_at all a rec)) k ≡ known_then (sig_expr (names_by all links a)) k
    type_told (Good s) = sym (told a rec there s)
    type_told (Bad why) = refl

    field_coded : (k : ℕ) (f : FieldRow) → option_map (member_code type_code) (field_key all a rec k f) ≡ code_of_field all links a (owner_in member.Field rec k) f
    field_coded k f =
        if_coded (member_code type_code) (is_compiler_controlled f.flags) (member_key f.name (owner_in member.Field rec k) (known_then (sig_expr (names_at all a rec)) f.signature)) _
        (member_coded type_code f.name (owner_in member.Field rec k) (known_then (sig_expr (names_at all a rec)) f.signature)
        ∙ ap (λ (o : Option TypeExpr). code_of_member f.name (owner_in member.Field rec k) (option_map type_code o))
        (ap (λ (x : Known TypeExpr). good x) (type_told f.signature) ∙ good_same (known_then (sig_expr (names_by all links a)) f.signature)))

    pub field_repeated : repeated_row a 0x04 (first_repeat bytes_eq (field_codes all links a rec)) ≡ repeated_field all a rec
    unfolding repeated_field
    field_repeated =
        ap (repeated_row a 0x04)
        (ap (first_repeat bytes_eq) (sym (map_numbered (option_map (member_code type_code)) (field_key all a rec) (λ k f. code_of_field all links a (owner_in member.Field rec k) f) field_coded 0 rec.field))
        ∙ sym (repeat_by_code (same_member_key same_expr) (member_code type_code) field_key_by_code (numbered (field_key all a rec) 0 rec.field)))

  module _ (told : TellMethods all links) where
    method_told : (k : Known MethodSig) → known_then (method_type (names_at all a rec)) k ≡ known_then (method_type (names_by all links a)) k
    method_told (Good s) = sym (told a rec there s)
    method_told (Bad why) = refl

    method_coded : (k : ℕ) (m : MethodDefRow) → option_map (member_code method_code) (method_key all a rec k m) ≡ code_of_method all links a (owner_in member.Method rec k) m
    method_coded k m =
        if_coded (member_code method_code) (is_compiler_controlled m.flags) (member_key m.name (owner_in member.Method rec k) (known_then (method_type (names_at all a rec)) m.signature)) _
        (member_coded method_code m.name (owner_in member.Method rec k) (known_then (method_type (names_at all a rec)) m.signature)
        ∙ ap (λ (x : Known MethodType). code_of_member m.name (owner_in member.Method rec k) (option_map method_code (good x))) (method_told m.signature))

    pub method_repeated : repeated_row a 0x06 (first_repeat bytes_eq (method_codes all links a rec)) ≡ repeated_method all a rec
    unfolding repeated_method
    method_repeated =
        ap (repeated_row a 0x06)
        (ap (first_repeat bytes_eq) (sym (map_numbered (option_map (member_code method_code)) (method_key all a rec) (λ k m. code_of_method all links a (owner_in member.Method rec k) m) method_coded 0 rec.method_def))
        ∙ sym (repeat_by_code (same_member_key same_method_type) (member_code method_code) method_key_by_code (numbered (method_key all a rec) 0 rec.method_def)))

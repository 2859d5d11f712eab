-- The search for an interface slot begins at the type that chooses, with its own parameters for arguments: it finds what it
-- finds from the definition.
use Rattle.std.proofs.Common.{◌≡◌, ℕ, zero, suc, Bool, List, [], Option, Some, None, refl, sym, ap, ◌∙◌}
use Rattle.std.specs.Prelude.{slice_get, ◌&&◌}
use Rattle.std.specs.Option.{option_map, option_and_then}
use Rattle.il_base.specs.declared.world_model.known.Known.{Known}
use Rattle.il_base.specs.declared.world_model.known.Known.TheVariants.{Good, Bad}
use Rattle.il_base.specs.declared.world_model.expr.TypeExpr.{TypeExpr}
use Rattle.il_base.specs.declared.world_model.expr.MethodUse.{MethodUse}
use Rattle.il_base.specs.declared.world_model.types.TypeDefRow.{TypeDefRow}
use Rattle.il_base.specs.declared.world_model.members.MethodDefRow.{MethodDefRow}
use Rattle.il_base.specs.declared.world_model.record.AsmRec.{AsmRec}
use Rattle.il_base.specs.world_model.Core.{same_name}
use Rattle.il_base.specs.world_model.Exprs.{subst, same_expr}
use Rattle.il_base.specs.world_model.Worlds.{known_then}
use Rattle.rules.specs.declared.link_rules.row_at.RowAt.{RowAt}
use Rattle.rules.specs.declared.link_rules.member_type.MethodType.{MethodType}
use Rattle.rules.specs.link_rules.Types.{at_row, or_else}
use Rattle.rules.specs.link_rules.Signatures.{names_at, method_type, subst_method, same_method_type}
use Rattle.rules.specs.link_rules.Members.{args_of, is_method_type, find_in_run, base_at, base_of, bases_from, type_count, open_parent}
use Rattle.rules.specs.link_rules.Linked.{assemblies, link_fault_of}
use Rattle.rules.specs.type_rules.Slots.{match_in, nearest}
use Rattle.rules.specs.type_rules.Dispatch.{impl_in, declares_slot, declares_in, is_public_virtual, public_match_in, interface_method_in, from_choice, good_signature}
use Rattle.rules.specs.mark_rules.Calls.{choice}
use Rattle.run_laws.proofs.lemmas.marked_call_laws.Opened.{IsOpen, put_same, puts_same, parent_open, parent_home, open_base}
use Rattle.run_laws.proofs.lemmas.marked_call_laws.Alike.{OneHome, impl_alike}

-- ---- signatures with the parameters put in for themselves

method_same : (e : TypeExpr) → IsOpen e → (m : MethodType) → subst_method (args_of e) m ≡ m
unfolding subst_method
method_same e own m = λ i. record { this = m.this; generic = m.generic; ret = put_same (args_of e) own m.ret i; params = puts_same (args_of e) own m.params i }

module _ (inputs : List AsmRec) (sound : link_fault_of inputs ≡ None) where
  abbrev recs : List AsmRec
  recs = assemblies inputs

  module _ (x y : TypeExpr) (open_x : IsOpen x) (open_y : IsOpen y) (same : OneHome inputs sound x y) where
    fits_alike : (wanted : MethodType) (o : Known MethodType) → is_method_type (args_of x) wanted o ≡ is_method_type (args_of y) wanted o
    fits_alike wanted (Good m) = ap (λ (t : MethodType). same_method_type t wanted) (method_same x open_x m ∙ sym (method_same y open_y m))
    fits_alike wanted (Bad why) = refl

    match_alike : (test : MethodDefRow → Bool) (name : List ℕ) (wanted : MethodType) → match_in recs test name wanted x ≡ match_in recs test name wanted y
    unfolding match_in
    match_alike test name wanted =
        λ i. option_and_then (λ (at : RowAt). option_and_then (λ (rec : AsmRec). option_and_then (λ (row : TypeDefRow). option_map (at_row at.asm)
        (find_in_run (λ (m : MethodDefRow). same_name m.name name && (test m && fits_alike wanted (known_then (method_type (names_at recs at.asm rec)) m.signature) i)) row.method_list_first row.method_list_end rec.method_def))
        (slice_get rec.type_def at.row)) (slice_get recs at.asm)) (same i)

    public_alike : (name : List ℕ) (wanted : Option MethodType) → public_match_in recs name wanted x ≡ public_match_in recs name wanted y
    public_alike name None = refl
    public_alike name (Some wanted) = match_alike is_public_virtual name wanted

    put_alike : (e : TypeExpr) → subst (args_of x) [] e ≡ subst (args_of y) [] e
    put_alike e = put_same (args_of x) open_x e ∙ sym (put_same (args_of y) open_y e)

    declares_alike : (slot : RowAt) (instance : TypeExpr) → declares_in recs slot instance (args_of x) ≡ declares_in recs slot instance (args_of y)
    declares_alike slot instance = λ i d. declares_slot recs slot d && same_expr (put_alike d.owner i) instance

    method_alike : (slot : RowAt) (instance : TypeExpr) (name : List ℕ) (wanted : Option MethodType)
        → interface_method_in recs slot instance name wanted x ≡ interface_method_in recs slot instance name wanted y
    method_alike slot instance name wanted =
        ap (λ (o : Option RowAt). or_else o (public_match_in recs name wanted x))
        (impl_alike inputs sound (declares_in recs slot instance (args_of x)) x y same ∙ ap (λ (declares : MethodUse → Bool). impl_in recs declares y) (declares_alike slot instance))
        ∙ ap (or_else (impl_in recs (declares_in recs slot instance (args_of y)) y)) (public_alike name wanted)

    base_alike : base_of recs x ≡ base_of recs y
    base_alike = open_base recs x open_x ∙ ap (option_and_then (base_at recs)) same ∙ sym (open_base recs y open_y)

    nearest_from : (slot : RowAt) (instance : TypeExpr) (name : List ℕ) (wanted : Option MethodType) (n : ℕ)
        → nearest (interface_method_in recs slot instance name wanted) (bases_from recs n x) ≡ nearest (interface_method_in recs slot instance name wanted) (bases_from recs n y)
    unfolding bases_from nearest
    nearest_from slot instance name wanted zero = refl
    nearest_from slot instance name wanted (suc n) =
        λ i. or_else (method_alike slot instance name wanted i)
        (nearest (interface_method_in recs slot instance name wanted) (elim (base_alike i) [ None ↦ [] | Some b ↦ bases_from recs n b ]))

  pub choice_alike : (slot : RowAt) (d : MethodDefRow) (signature : Option (Known MethodType)) (x y instance : TypeExpr) → OneHome inputs sound x y
      → from_choice recs slot d signature (choice x instance) ≡ from_choice recs slot d signature (choice y instance)
  choice_alike slot d signature x y instance same =
      nearest_from (open_parent recs x) (open_parent recs y) (parent_open recs x) (parent_open recs y) (parent_home recs x ∙ same ∙ sym (parent_home recs y)) slot instance d.name
      (option_map (subst_method (args_of instance)) (good_signature signature)) (type_count recs)

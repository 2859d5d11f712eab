-- The interfaces that the rows of a type name, by its rows alone and with its arguments put in at once.
use Rattle.std.proofs.Common.{◌≡◌, ℕ, suc, List, [], ◌∷◌, ◌++◌, length, drop, ◌≤◌, Bool, true, false, refl, sym, ap, ◌∙◌}
use Rattle.std.specs.Prelude.{slice_get, ◌==◌, if◌then◌else◌}
use Rattle.std.specs.List.{flat_map}
use Rattle.std.specs.Option.{option_map_or}
use Rattle.std.proofs.lemmas.List.{map-append, append-nil, drop_all}
use Rattle.il_base.specs.declared.world_model.expr.TypeExpr.{TypeExpr}
use Rattle.il_base.specs.declared.world_model.record.AsmRec.{AsmRec}
use Rattle.il_base.specs.declared.world_model.types.InterfaceImplRow.{InterfaceImplRow}
use Rattle.il_base.specs.world_model.Exprs.{subst}
use Rattle.il_base.specs.world_model.Tokens.{token_of}
use Rattle.rules.specs.link_rules.Types.{at_row}
use Rattle.rules.specs.link_rules.Signatures.{token_type}
use Rattle.rules.specs.link_rules.Members.{good_type}
use Rattle.rules.specs.link_rules.Cycles.{only_interface, interface_of, interfaces_in}
use Rattle.type_tables.specs.declared.groups.Groups.{Groups}
use Rattle.type_tables.specs.Groups.{rows_with, AreGroups}
use Rattle.type_tables.specs.Tables.{interface_classes}
use Rattle.type_tables.proofs.Grouped.{flat_grouped}
use Rattle.type_tables.specs.subtypes.Named.{with_args, row_interface}

pub with_both : (args : List TypeExpr) (xs ys : List TypeExpr) → with_args args (xs ++ ys) ≡ with_args args xs ++ with_args args ys
with_both args xs ys = map-append (subst args []) xs ys

pub with_each : {A : Type 0} (args : List TypeExpr) (f : A → List TypeExpr) (xs : List A) → flat_map (λ x. with_args args (f x)) xs ≡ with_args args (flat_map f xs)
with_each args f [] = refl
with_each args f (x ∷ xs) = ap (λ (es : List TypeExpr). with_args args (f x) ++ es) (with_each args f xs) ∙ sym (with_both args (f x) (flat_map f xs))

with_if : (args : List TypeExpr) (b : Bool) (es : List TypeExpr) → with_args args (if b then es else []) ≡ (if b then with_args args es else [])
with_if args true es = refl
with_if args false es = refl

pub rows_interfaces : (recs : List AsmRec) (a : ℕ) (rec : AsmRec) (args : List TypeExpr) (row : ℕ) (groups : Groups) → AreGroups (interface_classes rec) groups
    → flat_map (λ k. option_map_or (row_interface recs a rec args) (slice_get rec.interface_impl k) []) (rows_with groups (token_of 0x02 (suc row)))
    ≡ with_args args (interfaces_in recs (at_row a row) rec)
rows_interfaces recs a rec args row groups are =
    let token : ℕ = token_of 0x02 (suc row) in
    flat_grouped (λ (r : InterfaceImplRow). r.class) token rec.interface_impl groups are (row_interface recs a rec args) (λ r. with_args args (interface_of recs a rec token r))
    (λ r. with_if args (r.class == token) (only_interface recs (good_type (token_type recs a rec r.interface))))
    ∙ with_each args (interface_of recs a rec token) rec.interface_impl

-- what a loop has put after what was there, at its end
pub all_put : {A B : Type 0} (f : A → List B) (old found all : List B) (xs : List A) (i : ℕ) → length xs ≤ i → found ++ flat_map f (drop i xs) ≡ old ++ flat_map f xs → flat_map f xs ≡ all
    → found ≡ old ++ all
all_put {A = A} {B = B} f old found all xs i le e h =
    sym (append-nil found) ∙ sym (ap (λ (ys : List A). found ++ flat_map f ys) (drop_all i xs le)) ∙ e ∙ ap (λ (ys : List B). old ++ ys) h

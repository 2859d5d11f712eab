-- What the type in a row gives, by the names of its assembly.
use Rattle.std.proofs.Common.{◌≡◌, ℕ, List, [], ◌∷◌, ◌++◌, map, Bool, true, false, refl, sym, ap, ◌∙◌}
use Rattle.std.specs.Prelude.{Some, None, Option, if◌then◌else◌}
use Rattle.std.specs.List.{flat_map}
use Rattle.il_base.specs.declared.world_model.types.TypeDefRow.{TypeDefRow}
use Rattle.il_base.specs.declared.world_model.record.AsmRec.{AsmRec}
use Rattle.attr_blobs.specs.declared.value.EnumSize.{EnumSize}
use Rattle.rules.specs.link_rules.Types.{at_row}
use Rattle.rules.specs.type_rules.Rows.{is_enum}
use Rattle.rules.specs.mark_rules.Attributes.{enum_names, names_of_assembly}
use Rattle.mark_parts.specs.mark_tables.Assemblies.{place_of}
use Rattle.attribute_values.specs.declared.enum_names.named.EnumType.{EnumType}
use Rattle.attribute_values.specs.declared.enum_names.enums.Source.{Source}
use Rattle.attribute_values.specs.enum_names.Names.{sized_under, names_under}
use Rattle.attribute_values.specs.enum_names.Enums.{all_recs, own_rec, enum_of, enum_names_at, IsSource}

over_map : {A B C : Type 0} (f : B → List C) (g : A → B) (xs : List A) → flat_map f (map g xs) ≡ flat_map (λ x. f (g x)) xs
over_map f g [] = refl
over_map f g (x ∷ xs) = ap (λ (ys : List _). f (g x) ++ ys) (over_map f g xs)

under_all : (recs : List AsmRec) (from : ℕ) (e : EnumType) (own : List (List ℕ)) → names_under recs from e own ≡ flat_map (sized_under recs from e) (None ∷ map (λ n. Some n) own)
under_all recs from e own = ap (λ (ys : List EnumSize). sized_under recs from e None ++ ys) (sym (over_map (sized_under recs from e) (λ (n : List ℕ). Some n) own))

pub named_here : (s : Source) → IsSource s → (k : ℕ) (t : TypeDefRow) → enum_names_at s k ≡ enum_names (all_recs s) s.from (place_of s.asm.now) (own_rec s) k t
named_here s is k t =
    let e = enum_of (all_recs s) (place_of s.asm.now) (own_rec s) k in
    let b = is_enum (all_recs s) (at_row (place_of s.asm.now) k) in
    ap (λ (own : List (List ℕ)). if b then names_under (all_recs s) s.from e own else []) is.own
    ∙ ap (λ (xs : List EnumSize). if b then xs else []) (under_all (all_recs s) s.from e (names_of_assembly (all_recs s) (place_of s.asm.now) (own_rec s)))

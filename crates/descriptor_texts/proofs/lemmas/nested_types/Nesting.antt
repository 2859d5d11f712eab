-- The types that are nested in a type, by the rows of a group.
use Rattle.std.proofs.Common.{◌≡◌, ℕ, suc, ◌+◌, List, [], ◌∷◌, ◌++◌, length, map, Bool, true, false, Option, Some, None, nat_eq, refl, sym, ap, ◌∙◌, subst, arith}
use Rattle.std.specs.Prelude.{slice_get, unwrap_or, if◌then◌else◌}
use Rattle.std.specs.List.{flat_map, range_with_len}
use Rattle.std.proofs.lemmas.List.{append-nil}
use Rattle.std.proofs.lemmas.List.Concat.{flat_map-cons}
use Rattle.il_base.specs.declared.world_model.types.TypeDefRow.{TypeDefRow}
use Rattle.il_base.specs.declared.world_model.record.AsmRec.{AsmRec}
use Rattle.rules.specs.declared.link_rules.row_at.RowAt.{RowAt}
use Rattle.rules.specs.link_rules.Types.{at_row, encloser, same_place}
use Rattle.rules.specs.link_rules.Cycles.{listed}
use Rattle.rules.specs.type_rules.Rows.{each_from, each_row}
use Rattle.type_tables.specs.member_search.Names.{places}
use Rattle.type_tables.specs.declared.groups.Groups.{Groups}
use Rattle.type_tables.specs.Groups.{is_key, rows_with}
use Rattle.rules.specs.mark_rules.Members.{nested_in}
use Rattle.descriptor_texts.specs.nested_types.Nested.{key_of, nested_at, AreNestedIn}

by_key : {B : Type 0} (f : ℕ → List B) (b : Bool) (i : ℕ) (ks : List ℕ) (rest : List B) → (b ≡ false → f i ≡ []) → flat_map f ks ≡ rest → flat_map f (if b then i ∷ ks else ks) ≡ f i ++ rest
by_key f true i ks rest none e = flat_map-cons f i ks ∙ ap (λ (r : List _). f i ++ r) e
by_key f false i ks rest none e = e ∙ ap (λ (h : List _). h ++ rest) (sym (none refl))

-- what each row of a group gives is what each of all gives, where those of other groups give nothing
grouped : {A B : Type 0} (key : ℕ → ℕ) (wanted : ℕ) (f : ℕ → List B) → ((k : ℕ) → is_key wanted (key k) ≡ false → f k ≡ []) → (xs : List A) (s : ℕ)
    → flat_map f (places (is_key wanted) s (map key (range_with_len s (length xs)))) ≡ each_from (λ k x. f k) s xs
grouped key wanted f none [] s = refl
grouped key wanted f none (x ∷ xs) s =
    let n : s + 1 ≡ suc s = omega arith in
    by_key f (is_key wanted (key s)) s (places (is_key wanted) (s + 1) (map key (range_with_len (s + 1) (length xs)))) (each_from (λ k x. f k) (suc s) xs) (none s)
    (grouped key wanted f none xs (s + 1) ∙ ap (λ (m : ℕ). each_from (λ k x. f k) m xs) n)

other_key : (e : Option ℕ) (row : ℕ) (asm k : ℕ) → nat_eq (unwrap_or e 4294967295) row ≡ false → (if same_place e (Some row) then at_row asm k ∷ [] else []) ≡ []
other_key None row asm k h = refl
other_key (Some around) row asm k h = ap (λ (b : Bool). if b then at_row asm k ∷ [] else []) h

pub nested_grouped : (recs : List AsmRec) (at : RowAt) (rec : AsmRec) → slice_get recs at.asm ≡ Some rec → (groups : Groups) → AreNestedIn rec groups → (ks : List ℕ) → ks ≡ rows_with groups at.row
    → flat_map (nested_at rec at) ks ≡ nested_in recs at
nested_grouped recs at rec here groups are ks e =
    ap (flat_map (nested_at rec at)) (e ∙ are at.row)
    ∙ grouped (key_of rec) at.row (nested_at rec at) (λ k h. other_key (encloser rec k) at.row at.asm k h) rec.type_def 0
    ∙ sym (append-nil (each_row (λ k (row : TypeDefRow). nested_at rec at k) rec.type_def))
    ∙ ap (λ (o : Option AsmRec). flat_map (λ (rec : AsmRec). each_row (λ k (row : TypeDefRow). nested_at rec at k) rec.type_def) (listed o)) (sym here)

pub none_nested : (recs : List AsmRec) (at : RowAt) → slice_get recs at.asm ≡ None → nested_in recs at ≡ []
none_nested recs at e = ap (λ (o : Option AsmRec). flat_map (λ (rec : AsmRec). each_row (λ k (row : TypeDefRow). nested_at rec at k) rec.type_def) (listed o)) e

pub no_assembly : (recs : List AsmRec) (asm : ℕ) (groups : Groups) → None ≡ slice_get recs asm → (rec : AsmRec) → slice_get recs asm ≡ Some rec → AreNestedIn rec groups
no_assembly recs asm groups none rec here = absurd (cc)

pub assembly_there : (recs : List AsmRec) (asm : ℕ) (groups : Groups) (own : AsmRec) → Some own ≡ slice_get recs asm → AreNestedIn own groups → (rec : AsmRec) → slice_get recs asm ≡ Some rec → AreNestedIn rec groups
assembly_there recs asm groups own there are rec here = let same : own ≡ rec = cc in subst (λ (r : AsmRec). AreNestedIn r groups) same are

-- A type that is found is among those of its assembly, and its id among those of the world.
use Rattle.std.proofs.Common.{◌≡◌, ℕ, zero, suc, ◌+◌, ◌<◌, ◌≤◌, List, [], ◌∷◌, length, codes, Bool, true, false, if◌then◌else◌, ◌&&◌, Option, Some, None, MatchOption, slice_get, refl, sym, ap, ◌∙◌, arith}
use Rattle.il_base.specs.declared.ids.TypeId.{TypeId}
use Rattle.il_base.specs.world_model.Core.{same_name}
use Rattle.il_base.specs.world_model.Worlds.{rows_before, types_in, type_id}
use Rattle.il_base.specs.declared.world_model.types.TypeDefRow.{TypeDefRow}
use Rattle.il_base.specs.declared.world_model.record.AsmRec.{AsmRec}
use Rattle.std.specs.Option.{option_map}
use Rattle.rules.specs.declared.link_rules.row_at.RowAt.{RowAt}
use Rattle.rules.specs.link_rules.Types.{same_place, encloser, at_row, is_added, listed_at}
use Rattle.rules.specs.type_rules.Texts.{part_name}
use Rattle.rules.specs.type_rules.Searches.{named_from, named_within, nested_along, type_along, type_along_at}

named_below : (rec : AsmRec) (around : Option ℕ) (name : List ℕ) (ts : List TypeDefRow) (k j : ℕ) → named_from rec around name k ts ≡ Some j → j < k + length ts
named_below rec around name [] k j h = absurd (cc)
named_below rec around name (t ∷ ts) k j h =
    let f : (b : Bool) → (if b then Some k else named_from rec around name (suc k) ts) ≡ Some j → j < k + suc (length ts)
    = λ b. elim b as (λ (b : Bool). (if b then Some k else named_from rec around name (suc k) ts) ≡ Some j → j < k + suc (length ts)) [
      | true ↦ λ e. let s : k ≡ j = cc in omega arith
      | false ↦ λ e. let r = named_below rec around name ts (suc k) j e in omega arith
    ] in
    f (same_name (part_name (encloser rec k) t) name && same_place (encloser rec k) around) h

nested_below : (rec : AsmRec) (path : List (List ℕ)) (found : Option ℕ) (j : ℕ) → ((k : ℕ) → found ≡ Some k → k < length rec.type_def) → nested_along rec path found ≡ Some j → j < length rec.type_def
unfolding nested_along
nested_below rec [] None j b h = absurd (cc)
nested_below rec [] (Some k) j b h = b j h
nested_below rec (name ∷ path) None j b h = absurd (cc)
nested_below rec (name ∷ path) (Some k) j b h =
    nested_below rec path (named_within rec (Some k) name) j (λ m e. let r = named_below rec (Some k) name rec.type_def 0 m e in omega arith) h

along_below : (rec : AsmRec) (path : List (List ℕ)) (j : ℕ) → type_along rec path ≡ Some j → j < length rec.type_def
unfolding type_along
along_below rec [] j h = absurd (cc)
along_below rec (name ∷ path) j h =
    let f : (b : Bool) → (if b then None else nested_along rec path (named_within rec None name)) ≡ Some j → j < length rec.type_def
    = λ b. elim b as (λ (b : Bool). (if b then None else nested_along rec path (named_within rec None name)) ≡ Some j → j < length rec.type_def) [
      | true ↦ λ e. absurd (cc)
      | false ↦ λ e. nested_below rec path (named_within rec None name) j (λ m n. let r = named_below rec None name rec.type_def 0 m n in omega arith) e
    ] in
    f (same_name name (codes "<Module>")) h

id_below : (recs : List AsmRec) (a k : ℕ) (rec : AsmRec) → slice_get recs a ≡ Some rec → k < types_in rec → rows_before types_in recs a + k < rows_before types_in recs (length recs)
unfolding rows_before
id_below [] a k rec h l = absurd (cc)
id_below (r ∷ recs) zero k rec h l = let e : r ≡ rec = cc in let t : types_in r ≡ types_in rec = ap types_in e in omega arith
id_below (r ∷ recs) (suc a) k rec h l = let b = id_below recs a k rec h l in omega arith

id_is : (recs : List AsmRec) (a k : ℕ) (found : Option TypeId) → rows_before types_in recs a + k < 4294967296 → MatchOption found (4294967296 ≤ (type_id recs a k).0) (λ t. t ≡ type_id recs a k) → found ≡ Some (type_id recs a k)
id_is recs a k None b h = absurd (omega arith)
id_is recs a k (Some t) b h = ap Some h

along_is : (recs : List AsmRec) (path : List (List ℕ)) (a k : ℕ) (rec : AsmRec) → slice_get recs a ≡ Some rec → Some k ≡ type_along rec path
    → type_along_at recs path a ≡ option_map (λ (at : RowAt). type_id recs at.asm at.row) (listed_at recs (at_row a k))
along_is recs path a k rec h e = rw (h, ← e) refl

by_added : (recs : List AsmRec) (path : List (List ℕ)) (a k : ℕ) (rec : AsmRec) (b : Bool) → slice_get recs a ≡ Some rec → Some k ≡ type_along rec path → is_added recs (at_row a k) ≡ b
    → type_along_at recs path a ≡ (if b then None else Some (type_id recs a k))
by_added recs path a k rec b h e is =
    along_is recs path a k rec h e ∙ ap (λ (c : Bool). option_map (λ (at : RowAt). type_id recs at.asm at.row) (if c then None else Some (at_row a k))) is ∙ two_ways b
  where
    two_ways : (b : Bool) → option_map (λ (at : RowAt). type_id recs at.asm at.row) (if b then None else Some (at_row a k)) ≡ (if b then None else Some (type_id recs a k))
    two_ways true = refl
    two_ways false = refl

pub none_added : (recs : List AsmRec) (path : List (List ℕ)) (a k : ℕ) (rec : AsmRec) → slice_get recs a ≡ Some rec → Some k ≡ type_along rec path → is_added recs (at_row a k) ≡ true
    → None ≡ type_along_at recs path a
none_added recs path a k rec h e is = sym (by_added recs path a k rec true h e is)

pub id_found : (recs : List AsmRec) (path : List (List ℕ)) (a k : ℕ) (rec : AsmRec) (found : Option TypeId) → rows_before types_in recs (length recs) < 4294967296 → slice_get recs a ≡ Some rec → Some k ≡ type_along rec path
    → is_added recs (at_row a k) ≡ false → MatchOption found (4294967296 ≤ (type_id recs a k).0) (λ t. t ≡ type_id recs a k) → found ≡ type_along_at recs path a
id_found recs path a k rec found few h e is m =
    let b = id_below recs a k rec h (along_below rec path k (sym e)) in
    id_is recs a k found (omega arith) m ∙ sym (by_added recs path a k rec false h e is)

-- The new names of types are texts, as there are fewer types than a number of 64 bits counts.
use Rattle.std.proofs.Common.{◌≡◌, ℕ, zero, suc, ◌+◌, ◌<◌, ◌≤◌, ◌^◌, List, [], ◌∷◌, ◌++◌, length, map, Bool, true, false, Option, Some, None, find, refl, subst, arith, length-append}
use Rattle.std.specs.Prelude.{codes, if◌then◌else◌}
use Rattle.std.specs.List.{Contains}
use Rattle.std.specs.Option.{option_map}
use Rattle.std.specs.Fmt.{decimal}
use Rattle.il_base.specs.declared.world_model.types.TypeDefRow.{TypeDefRow}
use Rattle.il_base.specs.declared.world_model.assemblies.AssemblyRow.{AssemblyRow}
use Rattle.il_base.specs.declared.world_model.record.AsmRec.{AsmRec}
use Rattle.rules.specs.declared.link_rules.row_at.RowAt.{RowAt}
use Rattle.rules.specs.link_rules.Cycles.{listed}
use Rattle.rules.specs.link_rules.Faults.{name_in, own_name}
use Rattle.rules.specs.type_rules.Rows.{rec_at, type_row_at}
use Rattle.rules.specs.type_rules.Texts.{full_name_of}
use Rattle.rules.specs.merge_rules.Names.{flat, assembly_name, NewName, namespace_of, name_of, renamed, numbered_name, free_from, has_name, fresh_name, named_by, rival, names_from, new_names}
use Rattle.rules.specs.merge_rules.Numbers.{kept_types}
use Rattle.rules.specs.merge_rules.Refs.{Output}
use Rattle.rules.specs.merge_rules.Moved.{is_renamed, written_name}
use Rattle.file_laws.specs.written_tables.Written.{IsText}
use Rattle.merge_laws.proofs.lemmas.merged_record.Lists.{first_in, later_in, place_in}
use Rattle.merge_laws.proofs.lemmas.merged_loads.Lists.{Every, every_none, every_one, every_join, every_map, every_listed, first_holds}
use Rattle.merge_laws.proofs.lemmas.merged_loads.Texts.{is_text, empty_text, joined_text, decimal_text}
use Rattle.merge_laws.proofs.lemmas.merged_loads.Names.{Named, type_named}

abbrev NewText : NewName → Type 0
NewText n = IsText n.name

opens : IsText (codes "<")
opens = is_text (codes "<") refl refl

closes : IsText (codes ">")
closes = is_text (codes ">") refl refl

flat_text : {A : Type 0} (f : A → List ℕ) (o : Option A) → ((x : A) → o ≡ Some x → IsText (f x)) → IsText (flat (option_map f o))
flat_text f None h = empty_text
flat_text f (Some x) h = h x refl

name_in_text : (rows : List AssemblyRow) → Every (λ (row : AssemblyRow). IsText row.name) rows → IsText (name_in rows)
name_in_text [] h = empty_text
name_in_text (row ∷ rows) h = h row (first_in row rows)

module _ (recs : List AsmRec) (named : Every Named recs) where
  assembly_text : (at : RowAt) → IsText (assembly_name recs at)
  assembly_text at = flat_text own_name (rec_at recs at) (λ rec e. name_in_text rec.assembly (named rec (place_in recs at.asm rec e)).assemblies)

  type_text : (at : RowAt) → IsText (name_of recs at)
  type_text at = flat_text (λ (t : TypeDefRow). t.name) (type_row_at recs at) (λ t e. (type_named recs at t named e).0)

  renamed_text : (at : RowAt) → IsText (renamed recs at)
  renamed_text at =
      joined_text (codes "<" ++ assembly_name recs at ++ codes ">") (name_of recs at)
      (joined_text (codes "<" ++ assembly_name recs at) (codes ">") (joined_text (codes "<") (assembly_name recs at) opens (assembly_text at)) closes) (type_text at)

  numbered_text : (name : List ℕ) (k : ℕ) → IsText name → k < 2 ^ 64 → IsText (numbered_name name k)
  numbered_text name zero h lt = h
  numbered_text name (suc n) h lt = joined_text name (decimal (suc n)) h (decimal_text (suc n) lt)

  free_by : (b : Bool) (x y : List ℕ) → IsText x → IsText y → IsText (if b then x else y)
  free_by true x y g h = g
  free_by false x y g h = h

  free_text : (taken : List ℕ → Bool) (name : List ℕ) (k n : ℕ) → IsText name → k + n < 2 ^ 64 → IsText (free_from taken name k n)
  free_text taken name k zero h lt = numbered_text name k h (omega arith)
  free_text taken name k (suc n) h lt =
      free_by (taken (numbered_name name k)) (free_from taken name (suc k) n) (numbered_name name k) (free_text taken name (suc k) n h (omega arith)) (numbered_text name k h (omega arith))

  module _ (kept : List RowAt) (few : length kept ≤ 16777216) where
    fresh_text : (names : List NewName) (at : RowAt) → length names ≤ length kept → IsText (fresh_name recs kept names at)
    fresh_text names at le =
        free_text (λ name. has_name recs kept names (full_name_of (namespace_of recs at) name)) (renamed recs at) 0 (length kept + length names) (renamed_text at) (omega arith)

    by_text : (names : List NewName) (at : RowAt) (o : Option RowAt) → length names ≤ length kept → Every NewText names → Every NewText (named_by recs kept names at o)
    by_text names at None le h = h
    by_text names at (Some r) le h =
        every_join NewText names (record { typ = at; name = fresh_name recs kept names at } ∷ []) h (every_one NewText (record { typ = at; name = fresh_name recs kept names at }) (fresh_text names at le))

    by_length : (names : List NewName) (at : RowAt) (o : Option RowAt) → length (named_by recs kept names at o) ≤ suc (length names)
    by_length names at None = omega arith
    by_length names at (Some r) = let n = length-append names (record { typ = at; name = fresh_name recs kept names at } ∷ []) in omega arith

    names_text : (earlier : List RowAt) (names : List NewName) (rest : List RowAt) → length names + length rest ≤ length kept → Every NewText names → Every NewText (names_from recs kept earlier names rest)
    names_text earlier names [] le h = h
    names_text earlier names (at ∷ rest) le h =
        let o : Option RowAt = rival recs earlier at in
        let n = by_length names at o in
        names_text (earlier ++ at ∷ []) (named_by recs kept names at o) rest (omega arith) (by_text names at o (omega arith) h)

    new_text : Every NewText (new_names recs kept)
    unfolding new_names
    new_text = names_text [] [] kept (omega arith) (every_none NewText)

-- what a search finds is there
pub found_by : {A : Type 0} (p : A → Bool) (b : Bool) (x : A) (xs : List A) (n : A) → (if b then Some x else find p xs) ≡ Some n → (find p xs ≡ Some n → Contains xs n) → Contains (x ∷ xs) n
found_by {A} p true x xs n e next = let same : x ≡ n = cc in subst (λ (y : A). Contains (x ∷ xs) y) same (first_in x xs)
found_by p false x xs n e next = later_in x xs n (next e)

pub found : {A : Type 0} (p : A → Bool) (xs : List A) (n : A) → find p xs ≡ Some n → Contains xs n
found p [] n e = absurd (cc)
found p (x ∷ xs) n e = found_by p (p x) x xs n e (found p xs n)

pub written_text : (o : Output) (at : RowAt) (name : List ℕ) → Every Named o.recs → length (kept_types o.recs o.kept) ≤ 16777216 → IsText name → IsText (written_name o at name)
written_text o at name named few h =
    let all : List NewName = new_names o.recs (kept_types o.recs o.kept) in
    first_holds IsText (map (λ (n : NewName). n.name) (listed (find (is_renamed at) all))) name
    (every_map IsText (λ (n : NewName). n.name) (listed (find (is_renamed at) all)) (every_listed NewText (find (is_renamed at) all) (λ n e. new_text o.recs named (kept_types o.recs o.kept) few n (found (is_renamed at) all n e)))) h

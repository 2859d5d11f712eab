-- A name that is added to the core library isn't one of its table's, and a reference of the output to such a name is one that the output's
-- world adds again.
use Rattle.std.proofs.Common.{◌≡◌, ◌<◌, ◌≤◌, ◌+◌, ◌-◌, ℕ, zero, suc, List, [], ◌∷◌, ◌++◌, length, map, Bool, true, false, Option, Some, None, ◌⊎◌, inl, inr, refl, sym, ap, subst, ◌∙◌, ◌&&◌, arith, eqb-true, le-ltb}
use Rattle.std.specs.Prelude.{slice_get, position, nat_lt, ◌==◌, if◌then◌else◌}
use Rattle.std.specs.Bool.{Decides}
use Rattle.std.specs.List.{flat_map}
use Rattle.std.specs.Option.{option_map, option_and_then}
use Rattle.std.proofs.lemmas.Bool.{and_parts, and_from}
use Rattle.std.proofs.lemmas.List.{length-append}
use Rattle.il_base.specs.declared.world_model.types.TypeRefRow.{TypeRefRow}
use Rattle.il_base.specs.declared.world_model.types.TypeDefRow.{TypeDefRow}
use Rattle.il_base.specs.declared.world_model.assemblies.AssemblyRefRow.{AssemblyRefRow}
use Rattle.il_base.specs.declared.world_model.record.AsmRec.{AsmRec}
use Rattle.il_base.specs.world_model.Tokens.{table_of, index_in}
use Rattle.il_base.specs.world_model.Core.{same_name, is_core_name}
use Rattle.il_base.specs.core_table.Record.{core_record, record_with}
use Rattle.rules.specs.declared.link_rules.core_type_name.CoreTypeName.{CoreTypeName}
use Rattle.rules.specs.link_rules.Types.{assembly_named, assembly_at, scope_assembly, type_in, forwarder_in, forwarded_to, ends_from, ends_at}
use Rattle.rules.specs.link_rules.CoreNames.{all_modifiers, same_core_name, is_last, is_missing, missing_name, missing_at, missing_in, missing_from, missing_names, added_row, core_with}
use Rattle.rules.specs.link_rules.Cycles.{listed, add_all}
use Rattle.rules.specs.link_rules.Faults.{own_name}
use Rattle.base_laws.proofs.lemmas.type_laws.Within.{In, in_front, in_parts, in_flat, flat_in, in_listed, listed_in, any_in, in_added, added_from}
use Rattle.merge_laws.proofs.lemmas.merged_references.Lists.{Placed, placed}
use Rattle.merge_laws.proofs.lemmas.merged_references.Names.{RefersToCore, core_named}
use Rattle.merge_laws.proofs.lemmas.merged_references.Scopes.{names_decide}

-- ---- names

names_same : (x y : CoreTypeName) → x.name ≡ y.name → x.namespace ≡ y.namespace → x ≡ y
names_same x y e f = λ i. record { namespace = f i; name = e i }

pub core_names_decide : (x y : CoreTypeName) → Decides (same_core_name x y) (x ≡ y)
core_names_decide x y = (
  λ h. let p = and_parts (same_name x.name y.name) (same_name x.namespace y.namespace) h in names_same x y ((names_decide x.name y.name).0 p.0) ((names_decide x.namespace y.namespace).0 p.1),
  λ e. and_from (same_name x.name y.name) (same_name x.namespace y.namespace) ((names_decide x.name y.name).1 (ap (λ (n : CoreTypeName). n.name) e)) ((names_decide x.namespace y.namespace).1 (ap (λ (n : CoreTypeName). n.namespace) e)),
)

-- ---- where the search for a name ends

-- an assembly that neither has the name nor forwards it
record Ends (recs : List AsmRec) (namespace name : List ℕ) (b : ℕ) : Type 0 where
  rec : AsmRec
  there : slice_get recs b ≡ Some rec
  none : type_in rec None namespace name ≡ None

module _ (recs : List AsmRec) (namespace name : List ℕ) where
  from_by : (a b : ℕ) (rec : AsmRec) (next : ℕ → Option ℕ) (x to : Option ℕ) → slice_get recs a ≡ Some rec → type_in rec None namespace name ≡ x → ((c : ℕ) → next c ≡ Some b → Ends recs namespace name b)
      → ends_from a next x to ≡ Some b → Ends recs namespace name b
  from_by a b rec next (Some k) to there e more h = absurd (cc)
  from_by a b rec next None None there e more h = let same : a ≡ b = cc in subst (Ends recs namespace name) same (record { rec = rec; there = there; none = e })
  from_by a b rec next None (Some c) there e more h = more c h

  rec_by : (a b : ℕ) (next : ℕ → Option ℕ) (o : Option AsmRec) → slice_get recs a ≡ o → ((c : ℕ) → next c ≡ Some b → Ends recs namespace name b)
      → option_and_then (λ (rec : AsmRec). ends_from a next (type_in rec None namespace name) (forwarded_to recs rec namespace name)) o ≡ Some b → Ends recs namespace name b
  rec_by a b next None e more g = absurd (cc)
  rec_by a b next (Some rec) e more g = from_by a b rec next (type_in rec None namespace name) (forwarded_to recs rec namespace name) e refl more g

  ends_is : (n a b : ℕ) → ends_at recs n namespace name a ≡ Some b → Ends recs namespace name b
  unfolding ends_at
  ends_is zero a b h = absurd (cc)
  ends_is (suc n) a b h = rec_by a b (ends_at recs n namespace name) (slice_get recs a) refl (λ c i. ends_is n c b i) h

  -- a missing name isn't in the last assembly
  last_by : (o : Option ℕ) → is_last recs o ≡ true → (b : ℕ) × (o ≡ Some b) × (suc b ≡ length recs)
  last_by None h = absurd (cc)
  last_by (Some b) h = (b, refl, eqb-true (suc b) (length recs) h)

  scope_by : (scope : Option ℕ) (b : ℕ) → option_and_then (ends_at recs (length recs) namespace name) scope ≡ Some b → Ends recs namespace name b
  scope_by None b h = absurd (cc)
  scope_by (Some a) b h = ends_is (length recs) a b h

  missing_ends : (scope : Option ℕ) → is_missing recs scope namespace name ≡ true → (b : ℕ) × (suc b ≡ length recs) × Ends recs namespace name b
  unfolding is_missing
  missing_ends scope h =
      let m = last_by (option_and_then (ends_at recs (length recs) namespace name) scope) h in
      (m.0, m.2, scope_by scope m.0 m.1)

-- ---- a name that is added isn't in the table

last_is : {A : Type 0} (xs : List A) (c : A) (a : ℕ) (rec : A) → slice_get (xs ++ c ∷ []) a ≡ Some rec → suc a ≡ length (xs ++ c ∷ []) → rec ≡ c
last_is [] c zero rec e l = cc
last_is [] c (suc a) rec e l = absurd (cc)
last_is (x ∷ xs) c zero rec e l = let n = length-append xs (c ∷ []) in absurd (omega (arith, l, n))
last_is (x ∷ xs) c (suc a) rec e l = last_is xs c a rec e (omega (arith, l))

module _ (inputs : List AsmRec) (core : AsmRec) where
  abbrev all : List AsmRec
  all = inputs ++ core ∷ []

  abbrev Lacks : CoreTypeName → Type 0
  Lacks x = type_in core None x.namespace x.name ≡ None

  row_lacks : (x : CoreTypeName) (row : TypeRefRow) (scope : Option ℕ) (b : Bool) → is_missing all scope row.namespace row.name ≡ b
      → In x (if b then record { namespace = row.namespace; name = row.name } ∷ [] else []) → Lacks x
  row_lacks x row scope true e (inl f) =
      let m = missing_ends all row.namespace row.name scope e in
      let same : m.2.rec ≡ core = last_is inputs core m.0 m.2.rec m.2.there m.1 in
      subst (λ (y : CoreTypeName). type_in core None y.namespace y.name ≡ None) (sym f) (subst (λ (r : AsmRec). type_in r None row.namespace row.name ≡ None) same m.2.none)
  row_lacks x row scope true e (inr h) = absurd h
  row_lacks x row scope false e h = absurd h

  in_lacks : (a : ℕ) (rec : AsmRec) (x : CoreTypeName) → In x (missing_in all a rec) → Lacks x
  in_lacks a rec x h =
      let m = in_flat (missing_at all a rec) x (all_modifiers rec) h in
      let r = in_flat (missing_name all a rec) x (listed (option_and_then (slice_get rec.type_ref) (index_in 0x01 m.0))) m.2 in
      row_lacks x r.0 (scope_assembly all a rec r.0) (is_missing all (scope_assembly all a rec r.0) r.0.namespace r.0.name) refl r.2

  part_lacks : (a : ℕ) (rec : AsmRec) (recs : List AsmRec) (x : CoreTypeName) → (In x (missing_from all (suc a) recs) → Lacks x) → In x (missing_in all a rec) ⊎ In x (missing_from all (suc a) recs) → Lacks x
  part_lacks a rec recs x more (inl i) = in_lacks a rec x i
  part_lacks a rec recs x more (inr i) = more i

  from_lacks : (a : ℕ) (recs : List AsmRec) (x : CoreTypeName) → In x (missing_from all a recs) → Lacks x
  from_lacks a [] x h = absurd h
  from_lacks a (rec ∷ recs) x h = part_lacks a rec recs x (from_lacks (suc a) recs x) (in_parts x (missing_in all a rec) (missing_from all (suc a) recs) h)

  names_by : (x : CoreTypeName) → In x [] ⊎ In x (missing_from all 0 all) → Lacks x
  names_by x (inl h) = absurd h
  names_by x (inr h) = from_lacks 0 all x h

  pub names_lack : (x : CoreTypeName) → In x (missing_names all) → type_in core None x.namespace x.name ≡ None
  unfolding missing_names
  names_lack x h = names_by x (added_from same_core_name core_names_decide x [] (missing_from all 0 all) h)

-- ---- the output's world adds the name

-- the core library forwards nothing
none_forwarded : (recs : List AsmRec) (namespace name : List ℕ) → forwarded_to recs core_record namespace name ≡ None
unfolding forwarded_to core_record record_with
none_forwarded recs namespace name = refl

module _ (left : AsmRec) (own : is_core_name (own_name left) ≡ false) where
  abbrev world : List AsmRec
  world = left ∷ core_record ∷ []

  module _ (row : TypeRefRow) (s : RefersToCore left row) (none : type_in core_record None row.namespace row.name ≡ None) where
    scope_is : scope_assembly world 0 left row ≡ Some 1
    scope_is =
        ap (λ (t : ℕ). if t == 0x00 then Some 0 else option_and_then (assembly_at world left) (index_in 0x23 row.resolution_scope)) s.table
        ∙ ap (option_and_then (assembly_at world left)) s.is_index
        ∙ ap (option_and_then (λ (r : AssemblyRefRow). assembly_named world r.name)) s.there ∙ core_named s.assembly.name s.is_core left core_record own

    ends_there : ends_at world 2 row.namespace row.name 1 ≡ Some 1
    unfolding ends_at
    ends_there =
        ap (λ (o : Option ℕ). ends_from 1 (λ a. option_and_then (λ (rec : AsmRec). ends_from a (λ c. None) (type_in rec None row.namespace row.name) (forwarded_to world rec row.namespace row.name)) (slice_get world a)) o (forwarded_to world core_record row.namespace row.name)) none
        ∙ ap (ends_from 1 (λ a. option_and_then (λ (rec : AsmRec). ends_from a (λ c. None) (type_in rec None row.namespace row.name) (forwarded_to world rec row.namespace row.name)) (slice_get world a)) None) (none_forwarded world row.namespace row.name)

    is_added_again : is_missing world (scope_assembly world 0 left row) row.namespace row.name ≡ true
    unfolding is_missing
    is_added_again = ap (λ (o : Option ℕ). is_last world (option_and_then (ends_at world 2 row.namespace row.name) o)) scope_is ∙ ap (is_last world) ends_there

    abbrev called : CoreTypeName
    called = record { namespace = row.namespace; name = row.name }

    row_gives : In called (missing_name world 0 left row)
    row_gives = subst (λ (b : Bool). In called (if b then called ∷ [] else [])) (sym is_added_again) (inl refl)

    module _ (token k : ℕ) (index : index_in 0x01 token ≡ Some k) (there : slice_get left.type_ref k ≡ Some row) (used : In token (all_modifiers left)) where
      token_gives : In called (missing_at world 0 left token)
      token_gives =
          flat_in (missing_name world 0 left) called row (listed (option_and_then (slice_get left.type_ref) (index_in 0x01 token)))
          (listed_in row (option_and_then (slice_get left.type_ref) (index_in 0x01 token)) (ap (option_and_then (slice_get left.type_ref)) index ∙ there)) row_gives

      pub name_added : In called (missing_names world)
      unfolding missing_names
      name_added =
          in_added same_core_name core_names_decide called [] (missing_from world 0 world)
          (in_front called (missing_in world 0 left) (missing_from world 1 (core_record ∷ [])) (flat_in (missing_at world 0 left) called token (all_modifiers left) used token_gives))

-- a name of a list has a place
pub name_placed : (x : CoreTypeName) (names : List CoreTypeName) → In x names → (k : ℕ) × (position (same_core_name x) names ≡ Some k)
name_placed x names h = let p = placed (same_core_name x) names (any_in same_core_name core_names_decide x names h) in (p.index, p.is)

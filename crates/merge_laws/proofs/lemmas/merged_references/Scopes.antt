-- A type of the core library is written with a scope that has one of the names of the core library.
use Rattle.std.proofs.Common.{◌≡◌, ℕ, List, [], ◌∷◌, Bool, true, false, nat_eq, Option, Some, None, inl, inr, refl, ap, ◌∙◌, ◌&&◌, eq-eqb, eqb-true}
use Rattle.std.specs.Prelude.{slice_get, ◌==◌, if◌then◌else◌}
use Rattle.std.specs.Bool.{Decides}
use Rattle.std.specs.List.{list_any, flat_map}
use Rattle.std.specs.Option.{option_and_then}
use Rattle.std.specs.Cmp.Lexicographic.{pointwise_decides}
use Rattle.std.proofs.lemmas.Bool.{and_parts}
use Rattle.il_base.specs.declared.ids.TypeId.{TypeId}
use Rattle.il_base.specs.declared.world_model.types.TypeRefRow.{TypeRefRow}
use Rattle.il_base.specs.declared.world_model.assemblies.AssemblyRefRow.{AssemblyRefRow}
use Rattle.il_base.specs.declared.world_model.record.AsmRec.{AsmRec}
use Rattle.il_base.specs.world_model.Tokens.{index_in}
use Rattle.il_base.specs.world_model.Core.{same_name, is_core_name, is_core_row, is_core_at, is_core_scope}
use Rattle.rules.specs.declared.link_rules.row_at.RowAt.{RowAt}
use Rattle.rules.specs.link_rules.Types.{ref_at}
use Rattle.rules.specs.link_rules.Members.{type_home}
use Rattle.rules.specs.link_rules.Cycles.{listed, same_row}
use Rattle.rules.specs.type_rules.Rows.{each_row}
use Rattle.base_laws.proofs.lemmas.type_laws.Within.{In, in_flat}
use Rattle.rules.specs.merge_rules.Absent.{same_assembly, bare}
use Rattle.rules.specs.merge_rules.Numbers.{inputs}
use Rattle.rules.specs.merge_rules.Refs.{names_core_type, system_runtime, first_or, scope_of}
use Rattle.merge_laws.proofs.lemmas.merged_references.Lists.{in_each}

-- ---- names

numbers_decide : (a b : ℕ) → Decides (nat_eq a b) (a ≡ b)
numbers_decide a b = (eqb-true a b, eq-eqb a b)

pub names_decide : (a b : List ℕ) → Decides (same_name a b) (a ≡ b)
names_decide = pointwise_decides numbers_decide

pub name_itself : (a : List ℕ) → same_name a a ≡ true
name_itself a = (names_decide a a).1 refl

-- ---- assemblies

all_eight : (a b c d e f g h : Bool) → a ≡ true → b ≡ true → c ≡ true → d ≡ true → e ≡ true → f ≡ true → g ≡ true → h ≡ true → (a && b && c && d && e && f && g && h) ≡ true
all_eight a b c d e f g h a' b' c' d' e' f' g' h' = rw (a', b', c', d', e', f', g', h') refl

number_itself : (n : ℕ) → (n == n) ≡ true
number_itself n = eq-eqb n n refl

pub assembly_itself : (a : AssemblyRefRow) → same_assembly a a ≡ true
assembly_itself a = all_eight (a.major_version == a.major_version) (a.minor_version == a.minor_version) (a.build_number == a.build_number) (a.revision_number == a.revision_number)
    (a.flags == a.flags) (same_name a.public_key_or_token a.public_key_or_token) (same_name a.name a.name) (same_name a.culture a.culture)
    (number_itself a.major_version) (number_itself a.minor_version) (number_itself a.build_number) (number_itself a.revision_number)
    (number_itself a.flags) (name_itself a.public_key_or_token) (name_itself a.name) (name_itself a.culture)

last_but_one : (a b c : Bool) → (a && b && c) ≡ true → b ≡ true
last_but_one a b c e = (and_parts a b (and_parts (a && b) c e).0).1

pub assembly_name : (a b : AssemblyRefRow) → same_assembly a b ≡ true → a.name ≡ b.name
assembly_name a b e = (names_decide a.name b.name).0 (last_but_one _ (same_name a.name b.name) (same_name a.culture b.culture) e)

-- ---- the scope of a type

module _ (recs : List AsmRec) (t : TypeId) where
  row_named : (o : Option AssemblyRefRow) (found : AssemblyRefRow) → is_core_row o ≡ true → In found (listed o) → is_core_name found.name ≡ true
  row_named None found e h = absurd h
  row_named (Some x) found e (inl f) = ap (λ (r : AssemblyRefRow). is_core_name r.name) f ∙ e
  row_named (Some x) found e (inr h) = absurd h

  at_named : (rec : AsmRec) (o : Option ℕ) (found : AssemblyRefRow) → is_core_at rec o ≡ true → In found (listed (option_and_then (slice_get rec.assembly_ref) o)) → is_core_name found.name ≡ true
  at_named rec None found e h = absurd h
  at_named rec (Some k) found e h = row_named (slice_get rec.assembly_ref k) found e h

  scope_by : (rec : AsmRec) (row : TypeRefRow) (b c : Bool) (found : AssemblyRefRow) → is_core_scope rec row.resolution_scope ≡ b
      → In found (if b && c then listed (option_and_then (slice_get rec.assembly_ref) (index_in 0x23 row.resolution_scope)) else []) → is_core_name found.name ≡ true
  scope_by rec row false c found e h = absurd h
  scope_by rec row true false found e h = absurd h
  scope_by rec row true true found e h = at_named rec (index_in 0x23 row.resolution_scope) found e h

  each_named : (found : AssemblyRefRow) → In found (flat_map (λ (x : ℕ × AsmRec). each_row (names_core_type recs t x.0 x.1) x.1.type_ref) (inputs recs)) → is_core_name found.name ≡ true
  each_named found h =
      let m = in_flat (λ (x : ℕ × AsmRec). each_row (names_core_type recs t x.0 x.1) x.1.type_ref) found (inputs recs) h in
      let n = in_each (names_core_type recs t m.0.0 m.0.1) found 0 m.0.1.type_ref m.2 in
      scope_by m.0.1 n.1 (is_core_scope m.0.1 n.1.resolution_scope) (list_any (λ (at : RowAt). list_any (same_row at) (listed (type_home recs t))) (listed (ref_at recs m.0.0 m.0.1 n.0)))
      found refl n.3

  first_named : (xs : List AssemblyRefRow) → ((x : AssemblyRefRow) → In x xs → is_core_name x.name ≡ true) → is_core_name (bare (first_or xs system_runtime)).name ≡ true
  unfolding is_core_name
  first_named [] h = refl
  first_named (x ∷ xs) h = h x (inl refl)

  pub scope_named : is_core_name (scope_of recs t).name ≡ true
  unfolding scope_of
  scope_named = first_named (flat_map (λ (x : ℕ × AsmRec). each_row (names_core_type recs t x.0 x.1) x.1.type_ref) (inputs recs)) each_named

-- What the output of a marked merge refers to stands in what is left.
use Rattle.std.proofs.Common.{◌≡◌, ◌<◌, ◌≤◌, ℕ, zero, suc, ◌-◌, List, [], ◌∷◌, ◌++◌, length, Bool, true, false, Option, Some, None, inl, inr, ◌⊎◌, refl, sym, ap, subst, ◌∙◌, arith, eqb-true}
use Rattle.std.specs.Prelude.{slice_get, nat_le, ◌==◌, ◌&&◌, ◌||◌, if◌then◌else◌}
use Rattle.std.specs.List.{Contains, flat_map, filter, list_any}
use Rattle.std.specs.Option.{option_map, option_and_then}
use Rattle.std.proofs.lemmas.Bool.{leb-true}
use Rattle.std.proofs.lemmas.List.{length-append}
use Rattle.il_base.specs.declared.ids.TypeId.{TypeId}
use Rattle.il_base.specs.declared.ids.Item.TheVariants as item
use Rattle.il_base.specs.declared.table.TheConstants.{MODULE, TYPE_DEF}
use Rattle.il_base.specs.declared.cli_format.column.Column.TheVariants.{CodedOrNone}
use Rattle.il_base.specs.declared.cli_format.column.CodedIndex.TheVariants.{ResolutionScope}
use Rattle.il_base.specs.cli_format.Coded.{targets_of}
use Rattle.descriptor_file.specs.declared.root.Root.{Root}
use Rattle.il_base.specs.declared.world_model.types.TypeRefRow.{TypeRefRow}
use Rattle.il_base.specs.declared.world_model.record.AsmRec.{AsmRec}
use Rattle.il_base.specs.world_model.Tokens.{table_of, row_of as row_number, index_in}
use Rattle.il_base.specs.world_model.Records.{table_sizes, rows_in, names_row, names, Names, IsRecord}
use Rattle.il_base.specs.world_model.Worlds.{types_in, type_id}
use Rattle.il_base.specs.core_table.Record.{core_record}
use Rattle.il_base.specs.declared.core_table.tokens.TheConstants.{ARRAY}
use Rattle.rules.specs.declared.link_rules.row_at.RowAt.{RowAt}
use Rattle.rules.specs.declared.link_rules.core_type_name.CoreTypeName.{CoreTypeName}
use Rattle.rules.specs.link_rules.CoreNames.{missing_names, core_with}
use Rattle.rules.specs.link_rules.Types.{at_row, encloser, ref_definition}
use Rattle.rules.specs.link_rules.Members.{type_home, array_type}
use Rattle.rules.specs.link_rules.Cycles.{listed}
use Rattle.rules.specs.link_rules.Linked.{assemblies}
use Rattle.rules.specs.type_rules.Rows.{rec_at}
use Rattle.base_laws.proofs.lemmas.type_laws.CoreRows.{array_row}
use Rattle.base_laws.proofs.lemmas.type_laws.Places.{place_within}
use Rattle.base_laws.proofs.lemmas.known_laws.Lists.{map_some}
use Rattle.rules.specs.mark_rules.Marking.{Marks}
use Rattle.rules.specs.mark_rules.BadItems.{IsFirstFlaw}
use Rattle.rules.specs.mark_rules.Places.{row_of, is_core}
use Rattle.rules.specs.merge_rules.Absent.{reference_rows, type_count, absent_type, absent_row}
use Rattle.rules.specs.merge_rules.Attributes.{may_refer}
use Rattle.rules.specs.merge_rules.Keys.{number_or}
use Rattle.rules.specs.merge_rules.Numbers.{Kept}
use Rattle.rules.specs.merge_rules.Order.{Met, met_by_types}
use Rattle.rules.specs.merge_rules.Refs.{types_of_met, same_id, is_reference, enclosing_type, scope_type_by, scope_type, scope_of, assemblies_of, own_scope, with_scopes, most_scopes, type_refs, member_refs}
use Rattle.rules.specs.merge_rules.Restricted.{placed_methods, moved_methods, restricted_by, output_of, restricted}
use Rattle.rules.specs.merge_rules.Attributes.{met_by_attributes}
use Rattle.merge_laws.specs.merged_record.Laws.{InputsAreRecords, ReferencesStand}
use Rattle.merge_laws.proofs.lemmas.merged_record.Lists.{from_filter}
use Rattle.run_laws.proofs.lemmas.marked_laws.Places.{last_is_core}
use Rattle.merge_laws.proofs.lemmas.merged_loads.FileRows.{file_fits}
use Rattle.rules.specs.merged_world_rules.Merge.{Merge, before}
use Rattle.merge_laws.proofs.lemmas.merged_references.Core.{top_level}
use Rattle.merge_laws.proofs.lemmas.merged_references.Rows.{is_core_type, there_is, own_assembly}
use Rattle.merge_laws.specs.merged_owners.Laws.{AreMarked}
use Rattle.merge_laws.proofs.lemmas.merged_owners.Every.{Every, all_one, all_join, all_flat, all_option, some_of}
use Rattle.merge_laws.proofs.lemmas.merged_tokens.Once.{from_once, below_home}
use Rattle.trim_laws.specs.marked_merge_rules.Merges.{IsMarkedMerge}
use Rattle.merge_laws.specs.merged_standing.Laws.{TypesStand, MembersStand}
use Rattle.merge_laws.proofs.lemmas.merged_standing.Low.{bound, IsLow, stands_low}
use Rattle.trim_laws.specs.merged_scopes.Laws.{MetTypesThere, MetNumbersThere, MarkedReferencesStand}
use Rattle.trim_laws.specs.merged_scopes.Numbers.{numbers_of_met}
use Rattle.trim_laws.proofs.lemmas.merged_scopes.Types.{Number, of_number, no_number, met_types}
use Rattle.trim_laws.proofs.lemmas.merged_scopes.Chains.{refers_stays, refers_alike, refers_row}
use Rattle.trim_laws.proofs.lemmas.merged_scopes.Absents.{StaysAbsent, OfCore, IsFine, of_core, of_absent, absent_stays, scope_fine, own_fine, there_absent}
use Rattle.trim_laws.proofs.lemmas.merged_scopes.Kept.{types_met_fine}
use Rattle.trim_laws.proofs.lemmas.merged_scopes.Attributes.{attributes_met_fine}

last_is : {A : Type 0} (xs : List A) (x : A) → slice_get (xs ++ x ∷ []) (length xs) ≡ Some x
last_is [] x = refl
last_is (y ∷ xs) x = last_is xs x

front : {A : Type 0} (xs : List A) (x : A) (a : ℕ) (y : A) → suc a < length (xs ++ x ∷ []) → slice_get (xs ++ x ∷ []) a ≡ Some y → slice_get xs a ≡ Some y
front [] x a y lt e = absurd (omega (arith, lt))
front (z ∷ xs) x zero y lt e = e
front (z ∷ xs) x (suc a) y lt e = front xs x a y (omega (arith, lt)) e

-- ---- the world of inputs

input_of : (inputs : List AsmRec) (a : ℕ) (rec : AsmRec) → suc a < length (assemblies inputs) → slice_get (assemblies inputs) a ≡ Some rec → slice_get inputs a ≡ Some rec
unfolding assemblies
input_of inputs a rec lt e = front inputs (core_with core_record (missing_names (inputs ++ core_record ∷ []))) a rec lt e

records_of : (inputs : List AsmRec) → ((a : ℕ) (rec : AsmRec) → slice_get inputs a ≡ Some rec → IsRecord rec) → InputsAreRecords (assemblies inputs)
records_of inputs h a rec lt e = h a rec (input_of inputs a rec lt e)

module _ (inputs : List AsmRec) (names : List CoreTypeName) where
  abbrev core : AsmRec
  core = core_with core_record names

  abbrev all : List AsmRec
  all = inputs ++ core ∷ []

  array_in : (t : TypeId) → array_type all ≡ Some t → IsLow all t
  array_in t e =
      let m = map_some (type_id all (length all - 1)) (index_in TYPE_DEF ARRAY) t e in
      let k : 21 ≡ m.0 = cc in
      let row = array_row names in
      let n = length-append inputs (core ∷ []) in
      let last : length inputs ≡ length all - 1 = omega (arith, n) in
      let there : slice_get all (length all - 1) ≡ Some core = subst (λ (a : ℕ). slice_get all a ≡ Some core) last (last_is inputs core) in
      let lt : 21 < length core.type_def = place_within core.type_def 21 row.row row.there in
      subst (IsLow all) m.2 (stands_low all (at_row (length all - 1) m.0) (record { rec = core; there = there; below = subst (λ (j : ℕ). j < length core.type_def) k lt }))

  module _ (t : TypeId) (at : RowAt) (home : type_home all t ≡ Some at) (last : suc at.asm ≡ length all) where
    core_here : rec_at all at ≡ Some core
    core_here =
        let n = length-append inputs (core ∷ []) in
        let same : length inputs ≡ at.asm = omega (arith, last, n) in
        subst (λ (a : ℕ). slice_get all a ≡ Some core) same (last_is inputs core)

    core_scope : scope_type all t ≡ None
    unfolding scope_type
    core_scope =
        ap (scope_type_by all t) (there_is inputs names t at home) ∙ ap (option_and_then (enclosing_type all)) home
        ∙ ap (option_and_then (λ (rec : AsmRec). option_map (type_id all at.asm) (encloser rec at.row))) core_here ∙ ap (option_map (type_id all at.asm)) (top_level names at.row)

    core_assembly : assemblies_of all t ≡ scope_of all t ∷ []
    core_assembly = own_assembly inputs names t at (is_core_type inputs names t at home last)

array_there : (inputs : List AsmRec) (t : TypeId) → array_type (assemblies inputs) ≡ Some t → IsLow (assemblies inputs) t
unfolding assemblies
array_there inputs t e = array_in inputs (missing_names (inputs ++ core_record ∷ [])) t e

no_core_scope : (inputs : List AsmRec) (t : TypeId) (at : RowAt) → type_home (assemblies inputs) t ≡ Some at → suc at.asm ≡ length (assemblies inputs) → scope_type (assemblies inputs) t ≡ None
unfolding assemblies
no_core_scope inputs t at home last = core_scope inputs (missing_names (inputs ++ core_record ∷ [])) t at home last

one_core_assembly : (inputs : List AsmRec) (t : TypeId) (at : RowAt) → type_home (assemblies inputs) t ≡ Some at → suc at.asm ≡ length (assemblies inputs)
    → assemblies_of (assemblies inputs) t ≡ scope_of (assemblies inputs) t ∷ []
unfolding assemblies
one_core_assembly inputs t at home last = core_assembly inputs (missing_names (inputs ++ core_record ∷ [])) t at home last

every_more : {A : Type 0} (P Q : A → Type 0) → ((x : A) → P x → Q x) → (xs : List A) → Every P xs → Every Q xs
every_more P Q more xs h = record { each = λ x c. more x (h.each x c) }

-- ---- the module

module_rows : (rec : AsmRec) → rows_in rec MODULE ≡ length rec.«module»
unfolding table_sizes
module_rows rec = refl

names_same : (x y : AsmRec) (token : ℕ) → rows_in x (table_of token) ≡ rows_in y (table_of token) → names x (CodedOrNone ResolutionScope) token ≡ names y (CodedOrNone ResolutionScope) token
unfolding names names_row
names_same x y token e =
    ap (λ (n : ℕ). (token == 0) || (list_any (λ t. t == table_of token) (targets_of ResolutionScope) && nat_le 1 (row_number token) && nat_le (row_number token) n)) e

-- a Module token of an input names the output's module
module_named : (left rec : AsmRec) (token : ℕ) → length left.«module» ≡ 1 → length rec.«module» ≡ 1 → Names rec (CodedOrNone ResolutionScope) token → (table_of token == MODULE) ≡ true → Names left (CodedOrNone ResolutionScope) token
module_named left rec token l r h e =
    let t : table_of token ≡ MODULE = eqb-true (table_of token) MODULE e in
    let rows : rows_in left (table_of token) ≡ rows_in rec (table_of token) = ap (rows_in left) t ∙ module_rows left ∙ l ∙ sym r ∙ sym (module_rows rec) ∙ ap (rows_in rec) (sym t) in
    names_same left rec token rows ∙ h

or_left_false : (b c : Bool) → b ≡ false → (b || c) ≡ true → c ≡ true
or_left_false true c e h = absurd (cc)
or_left_false false c e h = h

or_first : (b c : Bool) → b ≡ true → (b || c) ≡ true
or_first true c e = refl
or_first false c e = absurd (cc)

or_second : (b c : Bool) → c ≡ true → (b || c) ≡ true
or_second true c e = refl
or_second false c e = e

module _ (inputs : List AsmRec) (left : AsmRec) (kept : Kept) (entry : Option RowAt) (roots : List Root) (records : InputsAreRecords (assemblies inputs)) (marks : AreMarked (assemblies inputs) entry roots kept)
    (flawless : IsFirstFlaw (assemblies inputs) entry (Marks (assemblies inputs) entry roots) None) where
  abbrev recs : List AsmRec
  recs = assemblies inputs

  pub met_low : Every (λ x. Every (λ (t : TypeId). t.0 < bound recs) (types_of_met recs x)) (met_by_types recs kept)
  met_low =
      let low : TypeId → Type 0 = λ t. t.0 < bound recs in
      every_more (λ x. Every (Number low) (numbers_of_met recs x)) (λ x. Every low (types_of_met recs x)) (met_types low recs) (met_by_types recs kept)
      (types_met_fine recs records (Number low) (λ t h. of_number low t h) (array_there inputs) kept entry roots marks flawless)

  module _ (one : (a : ℕ) (rec : AsmRec) → suc a < length recs → slice_get recs a ≡ Some rec → length rec.«module» ≡ 1) (own : length left.«module» ≡ 1) where
    abbrev Q : ℕ → Type 0
    Q token = Names left (CodedOrNone ResolutionScope) token

    owns : (a : ℕ) (rec : AsmRec) → slice_get recs a ≡ Some rec → suc a < length recs → (k : ℕ) (row : TypeRefRow) → slice_get rec.type_ref k ≡ Some row → (table_of row.resolution_scope == MODULE) ≡ true → Q row.resolution_scope
    owns a rec there input k row is e = module_named left rec row.resolution_scope own (one a rec input there) ((records a rec input there).tokens.type_refs k row is) e

    abbrev P : TypeId → Type 0
    P t = (t.0 < bound recs) ⊎ StaysAbsent recs Q t

    number_by : (o : Option TypeId) → ((t : TypeId) → o ≡ Some t → P t) → Number P (number_or o 0)
    number_by None g = no_number P
    number_by (Some u) g = of_number P u (g u refl)

    refers : (a : ℕ) (rec : AsmRec) → slice_get recs a ≡ Some rec → suc a < length recs → (k : ℕ) → may_refer recs a rec (length rec.type_ref) k ≡ true → ref_definition recs a rec k ≡ None → Number P (number_or (absent_type recs (at_row a k)) 0)
    refers a rec there input k h none =
        number_by (absent_type recs (at_row a k)) (λ t e. inr (absent_stays recs Q (at_row a k) t e (λ n. refers_stays recs Q a rec there (owns a rec there input) (length rec.type_ref) k n h none)))

    abbrev MetFine : Met → Type 0
    MetFine x = Every P (types_of_met recs x)

    mets_fine : Every MetFine (output_of recs kept).mets
    unfolding output_of
    mets_fine =
        every_more (λ x. Every (Number P) (numbers_of_met recs x)) MetFine (met_types P recs) (met_by_types recs kept ++ met_by_attributes recs kept)
        (all_join (λ x. Every (Number P) (numbers_of_met recs x)) (met_by_types recs kept) (met_by_attributes recs kept)
        (types_met_fine recs records (Number P) (λ t h. of_number P t (inl h)) (array_there inputs) kept entry roots marks flawless)
        (attributes_met_fine recs (Number P) (λ t h. of_number P t (inl h)) (array_there inputs) records refers kept))

    -- ---- references

    core_of : (t : TypeId) → is_core recs (item.Typ t) ≡ true → OfCore recs Q t
    unfolding is_core row_of
    core_of t h =
        let at = some_of (λ (r : RowAt). suc r.asm == length recs) (type_home recs t) h in
        record { at = at.0; home = at.1; last = eqb-true (suc at.0.asm) (length recs) at.2 }

    reference_fine : (t : TypeId) → P t → is_reference recs t ≡ true → IsFine recs Q t
    reference_fine t (inr a) h = of_absent a
    reference_fine t (inl lt) h = of_core (core_of t (or_left_false (nat_le (type_count recs) t.0) (is_core recs (item.Typ t)) (not_behind (nat_le (type_count recs) t.0) refl) h))
      where
        not_behind : (b : Bool) → nat_le (type_count recs) t.0 ≡ b → b ≡ false
        not_behind false e = refl
        not_behind true e = let le = leb-true (type_count recs) t.0 e in absurd (omega (arith, le, lt))

    scope_of_fine : (t u : TypeId) → IsFine recs Q t → scope_type recs t ≡ Some u → IsFine recs Q u
    scope_of_fine t u (of_core c) e = let g : None ≡ Some u = sym (no_core_scope inputs t c.at c.home c.last) ∙ e in absurd (cc)
    scope_of_fine t u (of_absent a) e = scope_fine recs Q t a u e

    scopes_fine : (n : ℕ) (t : TypeId) → IsFine recs Q t → Every (IsFine recs Q) (with_scopes recs n t)
    unfolding with_scopes
    scopes_fine zero t h = all_one (IsFine recs Q) t h
    scopes_fine (suc n) t h =
        all_join (IsFine recs Q) (flat_map (with_scopes recs n) (listed (scope_type recs t))) (t ∷ [])
        (all_option (IsFine recs Q) (with_scopes recs n) (scope_type recs t) (λ u e. scopes_fine n u (scope_of_fine t u h e))) (all_one (IsFine recs Q) t h)

    refs_fine : (mets : List Met) → Every MetFine mets → (t : TypeId) → Contains (type_refs recs mets) t → IsFine recs Q t
    unfolding type_refs
    refs_fine mets h t c =
        let met : List TypeId = flat_map (types_of_met recs) mets in
        let here : Every P met = all_flat P (types_of_met recs) mets h.each in
        let some : Every (IsFine recs Q) (filter (is_reference recs) met) = record { each = λ u d. let f = from_filter (is_reference recs) met u d in reference_fine u (here.each u f.0) f.1 } in
        (all_flat (IsFine recs Q) (with_scopes recs (most_scopes recs)) (filter (is_reference recs) met) (λ u d. scopes_fine (most_scopes recs) u (some.each u d))).each t
        (from_once same_id (flat_map (with_scopes recs (most_scopes recs)) (filter (is_reference recs) met)) t c)

    fine_reference : (t : TypeId) → IsFine recs Q t → is_reference recs t ≡ true
    unfolding row_of absent_row
    fine_reference t (of_core c) = or_second (nat_le (type_count recs) t.0) (is_core recs (item.Typ t)) (last_is_core recs (item.Typ t) c.at c.home c.last)
    fine_reference t (of_absent a) = or_first (nat_le (type_count recs) t.0) (is_core recs (item.Typ t)) (behind (nat_le (type_count recs) t.0) a.is)
      where
        behind : (b : Bool) → (if b then slice_get (reference_rows recs) (t.0 - type_count recs) else None) ≡ Some a.at → b ≡ true
        behind true e = refl
        behind false e = absurd (cc)

    own_of_fine : (t : TypeId) → IsFine recs Q t → scope_type recs t ≡ None → assemblies_of recs t ≡ [] → Q (own_scope recs t)
    own_of_fine t (of_core c) e f = let g : scope_of recs t ∷ [] ≡ [] = sym (one_core_assembly inputs t c.at c.home c.last) ∙ f in absurd (cc)
    own_of_fine t (of_absent a) e f = own_fine recs Q t a e f

    pub stand : length left.type_ref ≡ length (type_refs (output_of recs kept).recs (output_of recs kept).mets) → length left.member_ref ≡ length (member_refs (output_of recs kept).mets) → ReferencesStand (output_of recs kept) left
    unfolding output_of
    stand types members = record {
      types = types;
      members = members;
      around = λ t u c e. fine_reference u (scope_of_fine t u (refs_fine (output_of recs kept).mets mets_fine t c) e);
      own = λ t c e f. own_of_fine t (refs_fine (output_of recs kept).mets mets_fine t c) e f;
    }

-- each number of a type in what is met names one
module _ (inputs : List AsmRec) (kept : Kept) (entry : Option RowAt) (roots : List Root) (records : InputsAreRecords (assemblies inputs)) (marks : AreMarked (assemblies inputs) entry roots kept)
    (flawless : IsFirstFlaw (assemblies inputs) entry (Marks (assemblies inputs) entry roots) None) where
  abbrev world : List AsmRec
  world = assemblies inputs

  abbrev Named : ℕ → Type 0
  Named n = 1 ≤ n

  alike : (a : ℕ) (rec : AsmRec) → slice_get world a ≡ Some rec → suc a < length world → (k : ℕ) → may_refer world a rec (length rec.type_ref) k ≡ true → ref_definition world a rec k ≡ None
      → Named (number_or (absent_type world (at_row a k)) 0)
  alike a rec there input k h none =
      there_absent world (λ n. Unit {0}) a rec k there input (refers_row world (λ n. Unit {0}) a rec there (λ j row is e. tt) (length rec.type_ref) k h none)
      (refers_alike world (λ n. Unit {0}) a rec there (λ j row is e. tt) (length rec.type_ref) k h none)

  pub numbers_met : Every (λ x. Every Named (numbers_of_met world x)) (output_of world kept).mets
  unfolding output_of
  numbers_met =
      all_join (λ x. Every Named (numbers_of_met world x)) (met_by_types world kept) (met_by_attributes world kept)
      (types_met_fine world records Named (λ t h. omega arith) (array_there inputs) kept entry roots marks flawless) (attributes_met_fine world Named (λ t h. omega arith) (array_there inputs) records alike kept)

-- ---- of a marked merge

left_module : (internal : Bool) (inputs : List AsmRec) (kept : Kept) (left : AsmRec) → restricted internal (assemblies inputs) kept ≡ Some left → ((rec : AsmRec) → slice_get (assemblies inputs) 0 ≡ Some rec → length rec.«module» ≡ 1)
    → length left.«module» ≡ 1
unfolding restricted
left_module internal inputs kept left e first =
    let recs : List AsmRec = assemblies inputs in
    let m = map_some (restricted_by internal (output_of recs kept) (placed_methods (moved_methods (output_of recs kept)))) (slice_get recs 0) left e in
    ap (λ (r : AsmRec). length r.«module») (sym m.2) ∙ first m.0 m.1

long : (inputs : List AsmRec) → length (assemblies inputs) ≡ suc (length inputs)
unfolding assemblies
long inputs = let n = length-append inputs (core_with core_record (missing_names (inputs ++ core_record ∷ [])) ∷ []) in omega (arith, n)

module _ (m : Merge) (entry : Option RowAt) (roots : List Root) (is : IsMarkedMerge m entry roots) where
  input_records : InputsAreRecords (assemblies m.inputs)
  input_records = records_of m.inputs is.merge.records

  one_module : (a : ℕ) (rec : AsmRec) → suc a < length (assemblies m.inputs) → slice_get (assemblies m.inputs) a ≡ Some rec → length rec.«module» ≡ 1
  one_module a rec lt e = (file_fits rec (is.files a rec (input_of m.inputs a rec lt e))).one_module

  of_left : length m.left.«module» ≡ 1
  of_left = left_module m.internal m.inputs m.kept m.left is.merge.restricts (λ rec e. one_module 0 rec (let n = long m.inputs in let some = is.merge.some in omega (arith, n, some)) e)

pub met_types_there : MetTypesThere
met_types_there m entry roots is x t c d =
    below_home types_in (before m) 0 t.0 (((met_low m.inputs m.left m.kept entry roots (input_records m entry roots is) is.marked is.good).each x c).each t d)

pub met_numbers_there : MetNumbersThere
met_numbers_there inputs kept entry roots records marks flawless x n c d = ((numbers_met inputs kept entry roots records marks flawless).each x c).each n d

pub marked_references_stand : TypesStand → MembersStand → MarkedReferencesStand
marked_references_stand types members m entry roots is =
    let records = input_records m entry roots is in
    stand m.inputs m.left m.kept entry roots records is.marked is.good (one_module m entry roots is) (of_left m entry roots is) (types m.internal m.inputs m.kept m.left is.merge.restricts records)
    (members m.internal (assemblies m.inputs) m.kept m.left is.merge.restricts records)

-- What a MethodDef or MemberRef token names by the links of all methods is what it names.
use Rattle.std.proofs.Common.{◌≡◌, ◌<◌, ◌≤◌, ℕ, ◌+◌, Bool, true, false, nat_lt, List, ◌++◌, length, map, Option, Some, None, refl, sym, ap, subst, ◌∙◌, arith, rules, append_assoc}
use Rattle.std.specs.Prelude.{slice_get, ◌==◌, ◌||◌, if◌then◌else◌, IsTrue}
use Rattle.std.specs.List.{range_with_len}
use Rattle.std.specs.Option.{option_map, option_and_then}
use Rattle.std.proofs.lemmas.List.{length-append}
use Rattle.std.proofs.lemmas.Option.{slice_get_past}
use Rattle.il_base.specs.declared.world_model.known.Known.{Known}
use Rattle.il_base.specs.declared.world_model.expr.MethodUse.{MethodUse}
use Rattle.il_base.specs.declared.world_model.members.MemberRefRow.{MemberRefRow}
use Rattle.il_base.specs.declared.world_model.members.MethodSpecRow.{MethodSpecRow}
use Rattle.il_base.specs.declared.world_model.record.AsmRec.{AsmRec}
use Rattle.il_base.specs.declared.world_model.world.MethodLink.{MethodLink}
use Rattle.il_base.specs.world_model.Tokens.{table_of, index_in}
use Rattle.il_base.specs.world_model.Worlds.{known_or, row_below, behind, rows_before, method_rows, method_row, link_place, method_at}
use Rattle.rules.specs.link_rules.Members.{method_def_use, method_ref_use, method_spec_use, def_use_at, ref_use_at, generic_method}
use Rattle.rules.specs.link_rules.Faults.{numbered}
use Rattle.rules.specs.link_rules.Linked.{assemblies, methods_of, method_link, links_from, world_in}
use Rattle.base_laws.proofs.lemmas.link_laws.Lists.{get_front, get_behind, get_range, length_range, get_numbered, length_numbered}
use Rattle.base_laws.proofs.lemmas.link_laws.Places.{link_in}
use Rattle.base_laws.specs.type_laws.Uses.{is_method_token, TellsUses, UsesTold}

-- ---- the links of one assembly: those of its definitions, of its references, of its instances

abbrev def_link : List AsmRec → ℕ → AsmRec → ℕ → MethodLink
def_link all a rec k = method_link a 0x06 k (method_def_use all a rec k)

abbrev ref_link : List AsmRec → ℕ → AsmRec → ℕ → MemberRefRow → MethodLink
ref_link all a rec k row = method_link a 0x0a k (method_ref_use all a rec row)

abbrev spec_link : List AsmRec → ℕ → AsmRec → ℕ → MethodSpecRow → MethodLink
spec_link all a rec k row = method_link a 0x2b k (method_spec_use all a rec row)

abbrev defs_of : List AsmRec → ℕ → AsmRec → List MethodLink
defs_of all a rec = map (def_link all a rec) (range_with_len 0 (length rec.method_def))

abbrev refs_of : List AsmRec → ℕ → AsmRec → List MethodLink
refs_of all a rec = numbered (ref_link all a rec) 0 rec.member_ref

abbrev specs_of : List AsmRec → ℕ → AsmRec → List MethodLink
specs_of all a rec = numbered (spec_link all a rec) 0 rec.method_spec

module _ (all : List AsmRec) (a : ℕ) (rec : AsmRec) where
  three_parts : methods_of all a rec ≡ defs_of all a rec ++ (refs_of all a rec ++ specs_of all a rec)
  unfolding methods_of
  three_parts = append_assoc (defs_of all a rec) (refs_of all a rec) (specs_of all a rec)

  long_defs : length (defs_of all a rec) ≡ length rec.method_def
  long_defs = length_range (def_link all a rec) (length rec.method_def) 0

  long_refs : length (refs_of all a rec) ≡ length rec.member_ref
  long_refs = length_numbered (ref_link all a rec) rec.member_ref 0

  long_specs : length (specs_of all a rec) ≡ length rec.method_spec
  long_specs = length_numbered (spec_link all a rec) rec.method_spec 0

  long_methods : length (methods_of all a rec) ≡ method_rows rec
  long_methods =
      ap length three_parts ∙ length-append (defs_of all a rec) (refs_of all a rec ++ specs_of all a rec)
      ∙ ap (λ (n : ℕ). length (defs_of all a rec) + n) (length-append (refs_of all a rec) (specs_of all a rec))
      ∙ rw (long_defs, long_refs, long_specs) refl

  def_at_place : (k : ℕ) → k < length rec.method_def → slice_get (methods_of all a rec) k ≡ Some (def_link all a rec k)
  def_at_place k below =
      let within : k < length (defs_of all a rec) = rw long_defs below in
      ap (λ (xs : List MethodLink). slice_get xs k) three_parts ∙ get_front (defs_of all a rec) (refs_of all a rec ++ specs_of all a rec) k within
      ∙ get_range (def_link all a rec) (length rec.method_def) 0 k k (omega arith) below

  ref_at_place : (k : ℕ) → k < length rec.member_ref
      → slice_get (methods_of all a rec) (length rec.method_def + k) ≡ option_map (ref_link all a rec k) (slice_get rec.member_ref k)
  ref_at_place k below =
      let within : k < length (refs_of all a rec) = rw long_refs below in
      let from : length rec.method_def + k ≡ length (defs_of all a rec) + k = rw long_defs refl in
      ap (λ (xs : List MethodLink). slice_get xs (length rec.method_def + k)) three_parts
      ∙ ap (slice_get (defs_of all a rec ++ (refs_of all a rec ++ specs_of all a rec))) from
      ∙ get_behind (defs_of all a rec) (refs_of all a rec ++ specs_of all a rec) k
      ∙ get_front (refs_of all a rec) (specs_of all a rec) k within
      ∙ get_numbered (ref_link all a rec) rec.member_ref 0 k k (omega arith)

-- ---- a link at a place of an assembly's, among all

abbrev to_of : MethodLink → Known MethodUse
to_of l = l.to

-- what the link at a place of an assembly's tells; None for a place that isn't there
abbrev told : List MethodLink → ℕ → Option ℕ → Known MethodUse
told links before at = known_or (option_map to_of (option_and_then (slice_get links) (behind before at)))

-- the links of an assembly stand where the links of its rows begin
record Stands (all : List AsmRec) (links : List MethodLink) (before a : ℕ) (rec : AsmRec) : Type 0 where
  at : (k : ℕ) → k < method_rows rec → slice_get links (before + k) ≡ slice_get (methods_of all a rec) k

module _ (all : List AsmRec) (links : List MethodLink) (before a : ℕ) (rec : AsmRec) (stands : Stands all links before a rec) where
  told_def : (k : ℕ) (below : Bool) → nat_lt k (length rec.method_def) ≡ below
      → told links before (if below then Some k else None) ≡ def_use_at all a rec (if below then Some k else None)
  told_def k true is =
      let lt : k < length rec.method_def = search rules in
      let e : slice_get links (before + k) ≡ Some (def_link all a rec k) = stands.at k (omega arith) ∙ def_at_place all a rec k lt in
      rw e refl
  told_def k false is = refl

  told_defs : (i : Option ℕ) → told links before (row_below (length rec.method_def) i) ≡ def_use_at all a rec (row_below (length rec.method_def) i)
  told_defs None = refl
  told_defs (Some k) = told_def k (nat_lt k (length rec.method_def)) refl

  told_ref : (k : ℕ) (below : Bool) → nat_lt k (length rec.member_ref) ≡ below
      → told links before (behind (length rec.method_def) (if below then Some k else None)) ≡ ref_use_at all a rec (slice_get rec.member_ref k)
  told_ref k true is =
      let lt : k < length rec.member_ref = search rules in
      let e : slice_get links (before + (length rec.method_def + k)) ≡ option_map (ref_link all a rec k) (slice_get rec.member_ref k) =
      stands.at (length rec.method_def + k) (omega arith) ∙ ref_at_place all a rec k lt in
      rw e (by_row (slice_get rec.member_ref k))
    where
      by_row : (o : Option MemberRefRow) → known_or (option_map to_of (option_map (ref_link all a rec k) o)) ≡ ref_use_at all a rec o
      by_row None = refl
      by_row (Some row) = refl
  told_ref k false is =
      let ge : length rec.member_ref ≤ k = search rules in
      let e : slice_get rec.member_ref k ≡ None = slice_get_past rec.member_ref k ge in
      rw e refl

  told_refs : (i : Option ℕ) → told links before (behind (length rec.method_def) (row_below (length rec.member_ref) i)) ≡ ref_use_at all a rec (option_and_then (slice_get rec.member_ref) i)
  told_refs None = refl
  told_refs (Some k) = told_ref k (nat_lt k (length rec.member_ref)) refl

  -- ---- by the token's table

  by_table : (defs refs specs : Option ℕ) (six ten : Bool) → IsTrue (six || ten)
      → told links before
      (if six then row_below (length rec.method_def) defs
      else if ten then behind (length rec.method_def) (row_below (length rec.member_ref) refs)
      else behind (length rec.method_def + length rec.member_ref) (row_below (length rec.method_spec) specs))
      ≡ (if six then def_use_at all a rec (row_below (length rec.method_def) defs) else ref_use_at all a rec (option_and_then (slice_get rec.member_ref) refs))
  by_table defs refs specs true ten is = told_defs defs
  by_table defs refs specs false true is = told_refs refs
  by_table defs refs specs false false is = cc

  told_row : (token : ℕ) → IsTrue (is_method_token token) → told links before (method_row rec token) ≡ generic_method all a rec token
  unfolding method_row generic_method
  told_row token is =
      by_table (index_in 0x06 token) (index_in 0x0a token) (index_in 0x2b token) (table_of token == 0x06) (table_of token == 0x0a) is

-- ---- among all

module _ (all : List AsmRec) (a : ℕ) (rec : AsmRec) (is : slice_get all a ≡ Some rec) where
  all_stand : Stands all (links_from (methods_of all) 0 all) (rows_before method_rows all a) a rec
  all_stand = record { at = λ k below. link_in (methods_of all) method_rows (long_methods all) all 0 a a rec is (omega arith) k below }

  tell_by : (token : ℕ) → IsTrue (is_method_token token) → known_or (method_at (world_in all) a token) ≡ generic_method all a rec token
  unfolding method_at link_place world_in
  tell_by token t = rw is (told_row all (links_from (methods_of all) 0 all) (rows_before method_rows all a) a rec all_stand token t)

world_tells : (all : List AsmRec) → TellsUses (world_in all)
unfolding world_in
world_tells all a rec is token t = tell_by all a rec is token t

pub all_told : UsesTold
all_told w is = subst TellsUses (sym is.linked) (world_tells (assemblies is.inputs))

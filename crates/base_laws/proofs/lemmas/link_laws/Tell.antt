-- What a token names by the links of all types is what it names.
use Rattle.std.proofs.Common.{◌≡◌, ◌<◌, ◌≤◌, ℕ, zero, suc, ◌+◌, Bool, true, false, nat_lt, List, ◌++◌, length, Option, Some, None, refl, sym, ap, ◌∙◌, arith, rules, append_assoc}
use Rattle.std.specs.Prelude.{slice_get, ◌==◌, if◌then◌else◌}
use Rattle.std.specs.Option.{option_map, option_and_then}
use Rattle.std.proofs.lemmas.List.{length-append}
use Rattle.std.proofs.lemmas.Option.{slice_get_past}
use Rattle.il_base.specs.declared.world_model.known.Known.{Known}
use Rattle.il_base.specs.declared.world_model.known.Known.TheVariants.{Bad}
use Rattle.il_base.specs.declared.world_model.known.BadKind.TheVariants.{Unresolved}
use Rattle.il_base.specs.declared.world_model.expr.TypeExpr.{TypeExpr}
use Rattle.il_base.specs.declared.world_model.types.TypeSpecRow.{TypeSpecRow}
use Rattle.il_base.specs.declared.world_model.record.AsmRec.{AsmRec}
use Rattle.il_base.specs.declared.world_model.world.TypeLink.{TypeLink}
use Rattle.il_base.specs.world_model.Tokens.{table_of, row_index, index_in}
use Rattle.il_base.specs.world_model.Worlds.{known_or, row_below, behind, rows_before, type_rows, type_row, link_place, type_link_at, added_link_at, type_id, named_in, names_by}
use Rattle.il_base.specs.declared.ids.TypeId.{TypeId}
use Rattle.rules.specs.declared.link_rules.row_at.RowAt.{RowAt}
use Rattle.rules.specs.link_rules.Types.{at_row, ref_type, ref_at, listed_at, added_at, ref_definition, added_type, definition_at, added_by}
use Rattle.rules.specs.link_rules.Signatures.{known_expr, named_type, names_at, spec_type_at, token_type}
use Rattle.rules.specs.link_rules.Linked.{types_of}
use Rattle.rules.specs.link_rules.Laws.{AreTypeLinks, LinksTell}
use Rattle.base_laws.specs.link_laws.Parts.{ref_link, def_link, spec_link, refs_of, defs_of, specs_of}
use Rattle.std.proofs.lemmas.Bool.{false≢true}
use Rattle.base_laws.proofs.lemmas.link_laws.Lists.{get_front, get_behind, get_range, length_range, get_numbered, length_numbered}
use Rattle.base_laws.proofs.lemmas.link_laws.SignatureNames.{SameNames, same_signature, same_method}
use Rattle.base_laws.proofs.lemmas.link_laws.Places.{link_in}

-- ---- the links of one assembly: those of its references, of its definitions, of its specifications

pub three_parts : (all : List AsmRec) (a : ℕ) (rec : AsmRec) → types_of all a rec ≡ refs_of all a rec ++ (defs_of all a rec ++ specs_of all a rec)
unfolding types_of
three_parts all a rec = append_assoc (refs_of all a rec) (defs_of all a rec) (specs_of all a rec)

pub long_refs : (all : List AsmRec) (a : ℕ) (rec : AsmRec) → length (refs_of all a rec) ≡ length rec.type_ref
long_refs all a rec = length_range (ref_link all a rec) (length rec.type_ref) 0

pub long_defs : (all : List AsmRec) (a : ℕ) (rec : AsmRec) → length (defs_of all a rec) ≡ length rec.type_def
long_defs all a rec = length_range (def_link all a) (length rec.type_def) 0

long_specs : (all : List AsmRec) (a : ℕ) (rec : AsmRec) → length (specs_of all a rec) ≡ length rec.type_spec
long_specs all a rec = length_numbered (spec_link all a rec) rec.type_spec 0

pub long_types : (all : List AsmRec) (a : ℕ) (rec : AsmRec) → length (types_of all a rec) ≡ type_rows rec
long_types all a rec =
    ap length (three_parts all a rec) ∙ length-append (refs_of all a rec) (defs_of all a rec ++ specs_of all a rec)
    ∙ ap (λ (n : ℕ). length (refs_of all a rec) + n) (length-append (defs_of all a rec) (specs_of all a rec))
    ∙ rw (long_refs all a rec, long_defs all a rec, long_specs all a rec) refl

ref_at_place : (all : List AsmRec) (a : ℕ) (rec : AsmRec) (k : ℕ) → k < length rec.type_ref
    → slice_get (types_of all a rec) k ≡ Some (ref_link all a rec k)
ref_at_place all a rec k below =
    let within : k < length (refs_of all a rec) = rw (long_refs all a rec) below in
    ap (λ (xs : List TypeLink). slice_get xs k) (three_parts all a rec) ∙ get_front (refs_of all a rec) (defs_of all a rec ++ specs_of all a rec) k within
    ∙ get_range (ref_link all a rec) (length rec.type_ref) 0 k k (omega arith) below

def_at_place : (all : List AsmRec) (a : ℕ) (rec : AsmRec) (k : ℕ) → k < length rec.type_def
    → slice_get (types_of all a rec) (length rec.type_ref + k) ≡ Some (def_link all a k)
def_at_place all a rec k below =
    let within : k < length (defs_of all a rec) = rw (long_defs all a rec) below in
    let from : length rec.type_ref + k ≡ length (refs_of all a rec) + k = rw (long_refs all a rec) refl in
    ap (λ (xs : List TypeLink). slice_get xs (length rec.type_ref + k)) (three_parts all a rec)
    ∙ ap (slice_get (refs_of all a rec ++ (defs_of all a rec ++ specs_of all a rec))) from
    ∙ get_behind (refs_of all a rec) (defs_of all a rec ++ specs_of all a rec) k
    ∙ get_front (defs_of all a rec) (specs_of all a rec) k within
    ∙ get_range (def_link all a) (length rec.type_def) 0 k k (omega arith) below

spec_at_place : (all : List AsmRec) (a : ℕ) (rec : AsmRec) (k : ℕ)
    → slice_get (types_of all a rec) (length rec.type_ref + length rec.type_def + k)
    ≡ option_map (spec_link all a rec k) (slice_get rec.type_spec k)
spec_at_place all a rec k =
    let from : length rec.type_ref + length rec.type_def + k ≡ length (refs_of all a rec) + (length (defs_of all a rec) + k) =
    rw (long_refs all a rec, long_defs all a rec) (omega arith) in
    ap (λ (xs : List TypeLink). slice_get xs (length rec.type_ref + length rec.type_def + k)) (three_parts all a rec)
    ∙ ap (slice_get (refs_of all a rec ++ (defs_of all a rec ++ specs_of all a rec))) from
    ∙ get_behind (refs_of all a rec) (defs_of all a rec ++ specs_of all a rec) (length (defs_of all a rec) + k)
    ∙ get_behind (defs_of all a rec) (specs_of all a rec) k
    ∙ get_numbered (spec_link all a rec) rec.type_spec 0 k k (omega arith)

-- ---- a link at a place of an assembly's, among all

abbrev to_of : TypeLink → Known TypeExpr
to_of l = l.to

-- what the link at a place of an assembly's tells; None for a place that isn't there
told : List TypeLink → ℕ → Option ℕ → Known TypeExpr
told links before at = known_or (option_map to_of (option_and_then (slice_get links) (behind before at)))

-- the first n links of an assembly stand where the links of its rows begin
record Stands (all : List AsmRec) (links : List TypeLink) (before a : ℕ) (rec : AsmRec) (n : ℕ) : Type 0 where
  at : (k : ℕ) → k < n → slice_get links (before + k) ≡ slice_get (types_of all a rec) k

none_at : (all : List AsmRec) (a : ℕ) (rec : AsmRec) (n k : ℕ) → slice_get rec.type_ref k ≡ None → ref_type all a rec n k ≡ None
unfolding ref_type
none_at all a rec zero k e = refl
none_at all a rec (suc n) k e = rw e refl

no_ref : (all : List AsmRec) (a : ℕ) (rec : AsmRec) (k : ℕ) → length rec.type_ref ≤ k → ref_at all a rec k ≡ None
no_ref all a rec k ge = none_at all a rec (length rec.type_ref) k (slice_get_past rec.type_ref k ge)

no_definition : (all : List AsmRec) (a : ℕ) (rec : AsmRec) (k : ℕ) → length rec.type_ref ≤ k → ref_definition all a rec k ≡ None
unfolding ref_definition
no_definition all a rec k ge = ap (option_and_then (listed_at all)) (no_ref all a rec k ge)

no_added : (all : List AsmRec) (a : ℕ) (rec : AsmRec) (k : ℕ) → length rec.type_ref ≤ k → added_type all a rec k ≡ None
unfolding added_type
no_added all a rec k ge = ap (λ (o : Option RowAt). option_map (λ (at : RowAt). type_id all at.asm at.row) (option_and_then (added_at all) o)) (no_ref all a rec k ge)

told_ref : (all : List AsmRec) (links : List TypeLink) (before a : ℕ) (rec : AsmRec) (n : ℕ) → Stands all links before a rec n → length rec.type_ref ≤ n → (k : ℕ) (below : Bool) → nat_lt k (length rec.type_ref) ≡ below
    → told links before (if below then Some k else None) ≡ known_expr all (ref_definition all a rec k)
unfolding told
told_ref all links before a rec n stands enough k true is =
    let lt : k < length rec.type_ref = search rules in
    let e : slice_get links (before + k) ≡ Some (ref_link all a rec k) = stands.at k (omega arith) ∙ ref_at_place all a rec k lt in
    rw e refl
told_ref all links before a rec n stands enough k false is = let ge : length rec.type_ref ≤ k = search rules in ap (known_expr all) (sym (no_definition all a rec k ge))

told_def : (all : List AsmRec) (links : List TypeLink) (before a : ℕ) (rec : AsmRec) (n : ℕ) → Stands all links before a rec n → length rec.type_ref + length rec.type_def ≤ n → (k : ℕ) (below : Bool) → nat_lt k (length rec.type_def) ≡ below
    → told links before (behind (length rec.type_ref) (if below then Some k else None)) ≡ known_expr all (option_map (at_row a) (if below then Some k else None))
unfolding told
told_def all links before a rec n stands enough k true is =
    let lt : k < length rec.type_def = search rules in
    let e : slice_get links (before + (length rec.type_ref + k)) ≡ Some (def_link all a k) =
    stands.at (length rec.type_ref + k) (omega arith) ∙ def_at_place all a rec k lt in
    rw e refl
told_def all links before a rec n stands enough k false is = refl

told_spec : (all : List AsmRec) (links : List TypeLink) (before a : ℕ) (rec : AsmRec) (n : ℕ) → Stands all links before a rec n → type_rows rec ≤ n → (k : ℕ) (below : Bool) → nat_lt k (length rec.type_spec) ≡ below
    → told links before (behind (length rec.type_ref + length rec.type_def) (if below then Some k else None)) ≡ spec_type_at all a rec (slice_get rec.type_spec k)
unfolding told
told_spec all links before a rec n stands enough k true is =
    let lt : k < length rec.type_spec = search rules in
    let e : slice_get links (before + (length rec.type_ref + length rec.type_def + k)) ≡ option_map (spec_link all a rec k) (slice_get rec.type_spec k) =
    stands.at (length rec.type_ref + length rec.type_def + k) (omega arith) ∙ spec_at_place all a rec k in
    rw e (by_row (slice_get rec.type_spec k))
  where
    by_row : (o : Option TypeSpecRow) → known_or (option_map to_of (option_map (spec_link all a rec k) o)) ≡ spec_type_at all a rec o
    by_row None = refl
    by_row (Some row) = refl
told_spec all links before a rec n stands enough k false is =
    let ge : length rec.type_spec ≤ k = search rules in
    let e : slice_get rec.type_spec k ≡ None = slice_get_past rec.type_spec k ge in
    rw e refl

-- ---- by the token's table

told_refs : (all : List AsmRec) (links : List TypeLink) (before a : ℕ) (rec : AsmRec) (n : ℕ) → Stands all links before a rec n → length rec.type_ref ≤ n → (i : Option ℕ)
    → told links before (row_below (length rec.type_ref) i) ≡ known_expr all (option_and_then (ref_definition all a rec) i)
unfolding told
told_refs all links before a rec n stands enough None = refl
told_refs all links before a rec n stands enough (Some k) = told_ref all links before a rec n stands enough k (nat_lt k (length rec.type_ref)) refl

told_defs : (all : List AsmRec) (links : List TypeLink) (before a : ℕ) (rec : AsmRec) (n : ℕ) → Stands all links before a rec n → length rec.type_ref + length rec.type_def ≤ n → (i : Option ℕ)
    → told links before (behind (length rec.type_ref) (row_below (length rec.type_def) i)) ≡ known_expr all (option_map (at_row a) (row_below (length rec.type_def) i))
unfolding told
told_defs all links before a rec n stands enough None = refl
told_defs all links before a rec n stands enough (Some k) = told_def all links before a rec n stands enough k (nat_lt k (length rec.type_def)) refl

told_specs : (all : List AsmRec) (links : List TypeLink) (before a : ℕ) (rec : AsmRec) (n : ℕ) → Stands all links before a rec n → type_rows rec ≤ n → (i : Option ℕ)
    → told links before (behind (length rec.type_ref + length rec.type_def) (row_below (length rec.type_spec) i)) ≡ spec_type_at all a rec (option_and_then (slice_get rec.type_spec) i)
unfolding told
told_specs all links before a rec n stands enough None = refl
told_specs all links before a rec n stands enough (Some k) = told_spec all links before a rec n stands enough k (nat_lt k (length rec.type_spec)) refl

by_table : (all : List AsmRec) (links : List TypeLink) (before a : ℕ) (rec : AsmRec) (n : ℕ) → Stands all links before a rec n → length rec.type_ref + length rec.type_def ≤ n
    → (r : Option ℕ) (one two spec : Bool) → (spec ≡ true → type_rows rec ≤ n) → (one ≡ true → two ≡ false) → (one ≡ true → spec ≡ false) → (two ≡ true → spec ≡ false)
    → told links before
    (if one then row_below (length rec.type_ref) (if one then r else None)
    else if two then behind (length rec.type_ref) (row_below (length rec.type_def) (if two then r else None))
    else behind (length rec.type_ref + length rec.type_def) (row_below (length rec.type_spec) (if spec then r else None)))
    ≡ (if spec then spec_type_at all a rec (option_and_then (slice_get rec.type_spec) (if spec then r else None))
    else known_expr all
    (if two then option_map (at_row a) (row_below (length rec.type_def) (if two then r else None))
    else option_and_then (ref_definition all a rec) (if one then r else None)))
unfolding told
by_table all links before a rec n stands enough r true true spec whole d e f = let g : true ≡ false = d refl in cc
by_table all links before a rec n stands enough r true false true whole d e f = let g : true ≡ false = e refl in cc
by_table all links before a rec n stands enough r true false false whole d e f = told_refs all links before a rec n stands (omega arith) r
by_table all links before a rec n stands enough r false true true whole d e f = let g : true ≡ false = f refl in cc
by_table all links before a rec n stands enough r false true false whole d e f = told_defs all links before a rec n stands enough r
by_table all links before a rec n stands enough r false false true whole d e f = told_specs all links before a rec n stands (whole refl) r
by_table all links before a rec n stands enough r false false false whole d e f = refl

differ : (t m n : ℕ) (ne : m ≡ n → ⊥) → (t == m) ≡ true → (t == n) ≡ false
differ t m n ne e = grind arith

told_row : (all : List AsmRec) (links : List TypeLink) (before a : ℕ) (rec : AsmRec) (n : ℕ) → Stands all links before a rec n → length rec.type_ref + length rec.type_def ≤ n
    → (token : ℕ) → ((table_of token == 0x1b) ≡ true → type_rows rec ≤ n) → told links before (type_row rec token) ≡ token_type all a rec token
unfolding type_row token_type named_type definition_at
told_row all links before a rec n stands enough token whole =
    by_table all links before a rec n stands enough (row_index token) (table_of token == 0x01) (table_of token == 0x02) (table_of token == 0x1b) whole
    (differ (table_of token) 0x01 0x02 (omega arith)) (differ (table_of token) 0x01 0x1b (omega arith)) (differ (table_of token) 0x02 0x1b (omega arith))

-- ---- among all

tell_by : (all : List AsmRec) (links : List TypeLink) (a : ℕ) (rec : AsmRec) → slice_get all a ≡ Some rec → (n : ℕ) → Stands all links (rows_before type_rows all a) a rec n
    → length rec.type_ref + length rec.type_def ≤ n → (token : ℕ) → ((table_of token == 0x1b) ≡ true → type_rows rec ≤ n) → known_or (type_link_at all links a token) ≡ token_type all a rec token
unfolding type_link_at link_place told
tell_by all links a rec is n stands enough token whole = rw is (told_row all links (rows_before type_rows all a) a rec n stands enough token whole)

-- a token of TypeSpec names nothing in a signature
same_if : (spec : Bool) (x y z : Known TypeExpr) → (spec ≡ false → x ≡ (if spec then z else y)) → (if spec then Bad Unresolved else x) ≡ (if spec then Bad Unresolved else y)
same_if true x y z e = refl
same_if false x y z e = e refl

-- ---- what modifiers alone find

added_of : TypeLink → Option TypeId
added_of l = l.added

found_added : (all : List AsmRec) (links : List TypeLink) (before a : ℕ) (rec : AsmRec) (n : ℕ) → Stands all links before a rec n → length rec.type_ref ≤ n → (k : ℕ) (below : Bool) → nat_lt k (length rec.type_ref) ≡ below
    → option_and_then added_of (option_and_then (slice_get links) (behind before (if below then Some k else None))) ≡ added_type all a rec k
unfolding added_of
found_added all links before a rec n stands enough k true is =
    let lt : k < length rec.type_ref = search rules in
    let e : slice_get links (before + k) ≡ Some (ref_link all a rec k) = stands.at k (omega arith) ∙ ref_at_place all a rec k lt in
    rw e refl
found_added all links before a rec n stands enough k false is = let ge : length rec.type_ref ≤ k = search rules in sym (no_added all a rec k ge)

found_by : (all : List AsmRec) (links : List TypeLink) (before a : ℕ) (rec : AsmRec) (n : ℕ) → Stands all links before a rec n → length rec.type_ref ≤ n → (i : Option ℕ)
    → option_and_then added_of (option_and_then (slice_get links) (behind before (row_below (length rec.type_ref) i))) ≡ option_and_then (added_type all a rec) i
found_by all links before a rec n stands enough None = refl
found_by all links before a rec n stands enough (Some k) = found_added all links before a rec n stands enough k (nat_lt k (length rec.type_ref)) refl

by_ref : (all : List AsmRec) (links : List TypeLink) (before a : ℕ) (rec : AsmRec) (n : ℕ) → Stands all links before a rec n → length rec.type_ref ≤ n → (r : Option ℕ) (other : Option ℕ) (one : Bool)
    → (if one then option_and_then added_of (option_and_then (slice_get links) (behind before (if one then row_below (length rec.type_ref) (if one then r else None) else other))) else None)
    ≡ option_and_then (added_type all a rec) (if one then r else None)
by_ref all links before a rec n stands enough r other true = found_by all links before a rec n stands enough r
by_ref all links before a rec n stands enough r other false = refl

added_told : (all : List AsmRec) (links : List TypeLink) (a : ℕ) (rec : AsmRec) → slice_get all a ≡ Some rec → (n : ℕ) → Stands all links (rows_before type_rows all a) a rec n
    → length rec.type_ref ≤ n → (token : ℕ) → added_link_at all links a token ≡ added_by all a rec token
unfolding added_link_at link_place type_row added_by added_of
added_told all links a rec is n stands enough token =
    rw is (by_ref all links (rows_before type_rows all a) a rec n stands enough (row_index token)
    (if table_of token == 0x02 then behind (length rec.type_ref) (row_below (length rec.type_def) (index_in 0x02 token))
    else behind (length rec.type_ref + length rec.type_def) (row_below (length rec.type_spec) (index_in 0x1b token)))
    (table_of token == 0x01))

-- The links of TypeRef and TypeDef rows are enough for what signatures name.
pub same_names : (all : List AsmRec) (links : List TypeLink) (a : ℕ) (rec : AsmRec) → slice_get all a ≡ Some rec
    → ((k : ℕ) → k < length rec.type_ref + length rec.type_def → slice_get links (rows_before type_rows all a + k) ≡ slice_get (types_of all a rec) k)
    → SameNames (names_by all links a) (names_at all a rec)
unfolding named_in token_type
same_names all links a rec is at = record {
  types = same_type;
  core = refl;
  added = added_told all links a rec is (length rec.type_ref + length rec.type_def) (record { at = at }) (omega arith);
}
  where
    never : (spec : Bool) → spec ≡ false → spec ≡ true → type_rows rec ≤ length rec.type_ref + length rec.type_def
    never spec e f = let g : true ≡ false = cc in absurd (false≢true (sym g))

    same_type : (token : ℕ) → named_in (type_link_at all links a) token ≡ named_in (λ t. Some (named_type all a rec t)) token
    same_type token =
        same_if (table_of token == 0x1b) (known_or (type_link_at all links a token)) (named_type all a rec token)
        (spec_type_at all a rec (option_and_then (slice_get rec.type_spec) (index_in 0x1b token)))
        (λ e. tell_by all links a rec is (length rec.type_ref + length rec.type_def) (record { at = at }) (omega arith) token (never (table_of token == 0x1b) e))

-- each link stands
all_stand : (all : List AsmRec) (links : List TypeLink) → AreTypeLinks all links → (a : ℕ) (rec : AsmRec) → slice_get all a ≡ Some rec → (k : ℕ) → k < type_rows rec
    → slice_get links (rows_before type_rows all a + k) ≡ slice_get (types_of all a rec) k
all_stand all links are a rec is k below =
    ap (λ (xs : List TypeLink). slice_get xs (rows_before type_rows all a + k)) are ∙ link_in (types_of all) type_rows (long_types all) all 0 a a rec is (omega arith) k below

names_of : (all : List AsmRec) (links : List TypeLink) → AreTypeLinks all links → (a : ℕ) (rec : AsmRec) → slice_get all a ≡ Some rec → SameNames (names_by all links a) (names_at all a rec)
names_of all links are a rec is = same_names all links a rec is (λ k below. all_stand all links are a rec is k (omega arith))

pub all_tell : LinksTell
all_tell all links are = (
  λ a rec is token. tell_by all links a rec is (type_rows rec) (record { at = all_stand all links are a rec is }) (omega arith) token (λ e. omega arith),
  λ a rec is s. same_signature (names_by all links a) (names_at all a rec) (names_of all links are a rec is) s,
  λ a rec is s. same_method (names_by all links a) (names_at all a rec) (names_of all links are a rec is) s,
)

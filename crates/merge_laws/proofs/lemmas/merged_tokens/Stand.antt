-- The token of a type that is met isn't 0, where a type of an input that it names is kept.
use Rattle.std.proofs.Common.{◌≡◌, ◌<◌, ◌≤◌, ℕ, zero, suc, ◌+◌, ◌%◌, List, [], ◌∷◌, length, Bool, true, false, nat_le, nat_lt, Option, Some, None, refl, sym, ap, subst, ◌∙◌, arith}
use Rattle.std.specs.Prelude.{slice_get, position, ◌||◌, if◌then◌else◌}
use Rattle.std.specs.List.{Contains, flat_map, filter, list_any}
use Rattle.std.specs.Option.{is_some}
use Rattle.std.proofs.lemmas.Bool.{eq-eqb, ltb-true, ltb-false, leb-false}
use Rattle.std.proofs.lemmas.List.Elements.{Contains-append_right}
use Rattle.il_base.specs.declared.ids.TypeId.{TypeId}
use Rattle.il_base.specs.declared.ids.Item.{Item}
use Rattle.il_base.specs.declared.ids.Item.TheVariants as item
use Rattle.il_base.specs.declared.sig.Sig.{Sig}
use Rattle.il_base.specs.declared.table.TheConstants as table
use Rattle.descriptor_file.specs.declared.root.Root.{Root}
use Rattle.il_base.specs.declared.world_model.known.Known.TheVariants.{Good}
use Rattle.il_base.specs.declared.world_model.expr.TypeExpr.{TypeExpr}
use Rattle.il_base.specs.declared.world_model.expr.TypeExpr.TheVariants as expr
use Rattle.il_base.specs.declared.world_model.record.AsmRec.{AsmRec}
use Rattle.il_base.specs.world_model.Tokens.{token_of, row_of as row_number}
use Rattle.il_base.specs.world_model.Records.{rows_in}
use Rattle.il_base.specs.world_model.Worlds.{rows_before, types_in}
use Rattle.rules.specs.declared.link_rules.row_at.RowAt.{RowAt}
use Rattle.rules.specs.link_rules.Members.{type_home}
use Rattle.rules.specs.link_rules.Cycles.{listed, same_row}
use Rattle.base_laws.proofs.lemmas.type_laws.Places.{home_is, place_within, rows_decide}
use Rattle.base_laws.proofs.lemmas.known_laws.Lists.{first_in, to_flat}
use Rattle.run_laws.proofs.lemmas.marked_laws.Places.{last_is_core}
use Rattle.rules.specs.mark_rules.Places.{row_of, is_core, type_item}
use Rattle.rules.specs.mark_rules.Naming.{type_token_part}
use Rattle.rules.specs.mark_rules.Shown.{parts_of_item}
use Rattle.rules.specs.mark_rules.Marking.{Marks}
use Rattle.rules.specs.mark_rules.BadItems.{IsFirstFlaw}
use Rattle.rules.specs.merge_rules.Absent.{type_count}
use Rattle.rules.specs.merge_rules.Numbers.{Kept, kept_types}
use Rattle.rules.specs.merge_rules.Keys.{TypeKey, named, spec, same_sig, type_key}
use Rattle.rules.specs.merge_rules.Order.{met_type}
use Rattle.rules.specs.merge_rules.Refs.{Output, types_of_met, same_id, is_reference, scope_type, with_scopes, most_scopes, type_refs, specs_of_met, type_specs, row_token, kept_token, type_token, key_token}
use Rattle.rules.specs.merge_rules.Moved.{token_or_none, moved_type}
use Rattle.rules.specs.merge_rules.Restricted.{placed_methods, moved_methods, restricted_by, output_of, restricted}
use Rattle.token_keys.proofs.lemmas.key_codes.SameSig.{same_self}
use Rattle.merge_laws.specs.merged_record.Laws.{ReferencesStand, RowsFit}
use Rattle.merge_laws.proofs.lemmas.merged_record.Lists.{map_some, OfInput}
use Rattle.merge_laws.proofs.lemmas.merged_record.Tokens.{position_is, stands}
use Rattle.merge_laws.proofs.lemmas.merged_record.Sizes.{left, types, type_ref_rows_are, type_spec_rows_are}
use Rattle.merge_laws.proofs.lemmas.merged_record.Owned.{to_kept}
use Rattle.merge_laws.specs.merged_owners.Laws.{AreMarked, AreKept}
use Rattle.merge_laws.proofs.lemmas.merged_owners.Homes.{position_some}
use Rattle.merge_laws.specs.merged_tokens.Laws.{IsMet, TypeTokensStand}
use Rattle.merge_laws.proofs.lemmas.merged_tokens.Once.{any_once, any_position, to_filter, below_home}
use Rattle.merge_laws.proofs.lemmas.merged_tokens.Keys.{Says, of_core, of_definition, of_signature, token_key}
use Rattle.merge_laws.proofs.lemmas.merged_tokens.Parts.{names_type, type_marked}

not_zero : (n : ℕ) → 1 ≤ row_number n → 1 ≤ n
not_zero zero h = absurd (omega arith)
not_zero (suc n) h = omega arith

or_true : (b c : Bool) → c ≡ true → (b || c) ≡ true
or_true true c h = refl
or_true false c h = h

module _ (internal : Bool) (o : Output) (primary : AsmRec) (refs : ReferencesStand o (left internal o primary)) (fit : RowsFit (left internal o primary)) where
  abbrev out : AsmRec
  out = left internal o primary

  -- ---- a token of a place

  token_by : {A : Type 0} (t : ℕ) (p : A → Bool) (xs : List A) (k : Option ℕ) → position p xs ≡ k → is_some k ≡ true → t < 256 → length xs ≤ rows_in out t → 1 ≤ row_token t k
  token_by t p xs None e h low le = absurd (cc)
  token_by t p xs (Some k) e h low le =
      let lt = (position_is p xs k e).within in
      let f = fit t in
      not_zero (token_of t (suc k) % 4294967296) (stands out t k low (omega arith) (omega arith)).begins

  pub token_there : {A : Type 0} (t : ℕ) (p : A → Bool) (xs : List A) → is_some (position p xs) ≡ true → t < 256 → length xs ≤ rows_in out t → 1 ≤ row_token t (position p xs)
  token_there t p xs h low le = token_by t p xs (position p xs) refl h low le

  -- ---- signatures

  signed : (s : Sig) → Contains o.mets (met_type (spec s)) → list_any (same_sig s) (type_specs o.recs o.mets) ≡ true
  unfolding type_specs
  signed s c = any_once same_sig (flat_map (specs_of_met o.recs) o.mets) s (same_self s) (to_flat (specs_of_met o.recs) o.mets s (record { item = met_type (spec s); there = c; inside = first_in s [] }))

  spec_stands : (s : Sig) → Contains o.mets (met_type (spec s)) → 1 ≤ row_token table.TYPE_SPEC (position (same_sig s) (type_specs o.recs o.mets))
  spec_stands s c =
      let n = type_spec_rows_are internal o primary in
      token_there table.TYPE_SPEC (same_sig s) (type_specs o.recs o.mets) (any_position (same_sig s) (type_specs o.recs o.mets) (signed s c)) (omega arith) (omega arith)

  -- ---- references

  scoped : (n : ℕ) (t : TypeId) → Contains (with_scopes o.recs n t) t
  unfolding with_scopes
  scoped zero t = first_in t []
  scoped (suc n) t = Contains-append_right (flat_map (with_scopes o.recs n) (listed (scope_type o.recs t))) (t ∷ []) t (first_in t [])

  referred : (t : TypeId) → Contains o.mets (met_type (named t)) → is_reference o.recs t ≡ true → list_any (same_id t) (type_refs o.recs o.mets) ≡ true
  unfolding type_refs
  referred t c h =
      any_once same_id (flat_map (with_scopes o.recs (most_scopes o.recs)) (filter (is_reference o.recs) (flat_map (types_of_met o.recs) o.mets))) t (eq-eqb t.0 t.0 refl)
      (to_flat (with_scopes o.recs (most_scopes o.recs)) (filter (is_reference o.recs) (flat_map (types_of_met o.recs) o.mets)) t
      (record {
        item = t;
        there =
            to_filter (is_reference o.recs) (flat_map (types_of_met o.recs) o.mets) t
            (to_flat (types_of_met o.recs) o.mets t (record { item = met_type (named t); there = c; inside = first_in t [] })) h;
        inside = scoped (most_scopes o.recs) t;
      }))

  ref_stands : (t : TypeId) → Contains o.mets (met_type (named t)) → is_reference o.recs t ≡ true → 1 ≤ row_token table.TYPE_REF (position (same_id t) (type_refs o.recs o.mets))
  ref_stands t c h =
      let n = type_ref_rows_are internal o primary in
      let m = refs.types in
      token_there table.TYPE_REF (same_id t) (type_refs o.recs o.mets) (any_position (same_id t) (type_refs o.recs o.mets) (referred t c h)) (omega arith) (omega arith)

  -- ---- kept types

  reference_by : (t : TypeId) (b c : Bool) → nat_le (type_count o.recs) t.0 ≡ b → is_core o.recs (item.Typ t) ≡ c → (b || c) ≡ false → (t.0 < type_count o.recs) × (is_core o.recs (item.Typ t) ≡ false)
  reference_by t true c e f g = absurd (cc)
  reference_by t false true e f g = absurd (cc)
  reference_by t false false e f g = (leb-false (type_count o.recs) t.0 e, f)

  not_reference : (t : TypeId) → is_reference o.recs t ≡ false → (t.0 < type_count o.recs) × (is_core o.recs (item.Typ t) ≡ false)
  not_reference t h = reference_by t (nat_le (type_count o.recs) t.0) (is_core o.recs (item.Typ t)) refl refl h

  of_last : (t : TypeId) (at : RowAt) → type_home o.recs t ≡ Some at → suc at.asm ≡ length o.recs → is_core o.recs (item.Typ t) ≡ true
  unfolding row_of
  of_last t at home e = last_is_core o.recs (item.Typ t) at home e

  within_by : (t : TypeId) (at : RowAt) (b : Bool) → nat_lt (suc at.asm) (length o.recs) ≡ b → type_home o.recs t ≡ Some at → is_core o.recs (item.Typ t) ≡ false → at.asm < length o.recs → suc at.asm < length o.recs
  within_by t at true e home other lt = ltb-true (suc at.asm) (length o.recs) e
  within_by t at false e home other lt =
      let ge : length o.recs ≤ suc at.asm = ltb-false (suc at.asm) (length o.recs) e in
      let core : is_core o.recs (item.Typ t) ≡ true = of_last t at home (omega arith) in
      absurd (cc)

  in_types : (at : RowAt) (rec : AsmRec) → OfInput o.recs at.asm rec → at.row < types_in rec → o.kept (type_item o.recs at) ≡ true → Contains (kept_types o.recs o.kept) at
  unfolding kept_types
  in_types at rec input lt h = to_kept types_in (type_item o.recs) o.recs o.kept at rec input lt h

  home_stands : (t : TypeId) (at : RowAt) → type_home o.recs t ≡ Some at → is_core o.recs (item.Typ t) ≡ false → o.kept (item.Typ t) ≡ true → 1 ≤ kept_token table.TYPE_DEF (kept_types o.recs o.kept) (Some at)
  home_stands t at home other h =
      let s = home_is o.recs 0 t.0 at home in
      let asm : s.asm ≡ at.asm = omega (arith, s.numbered) in
      let there : slice_get o.recs at.asm ≡ Some s.rec = subst (λ (a : ℕ). slice_get o.recs a ≡ Some s.rec) asm s.there in
      let lt = place_within o.recs at.asm s.rec there in
      let number : t.0 ≡ rows_before types_in o.recs at.asm + at.row = subst (λ (a : ℕ). t.0 ≡ rows_before types_in o.recs a + at.row) asm s.id in
      let keeps : o.kept (type_item o.recs at) ≡ true = subst (λ (n : ℕ). o.kept (item.Typ (record { 0 = n })) ≡ true) number h in
      let input : OfInput o.recs at.asm s.rec = record { there = there; within = within_by t at (nat_lt (suc at.asm) (length o.recs)) refl home other lt } in
      let c = in_types at s.rec input s.below keeps in
      let n = types internal o primary in
      token_there table.TYPE_DEF (same_row at) (kept_types o.recs o.kept) (position_some (same_row at) (kept_types o.recs o.kept) at c ((rows_decide at at).1 refl)) (omega arith) (omega arith)

  type_by : (t : TypeId) (b : Bool) → is_reference o.recs t ≡ b → Contains o.mets (met_type (named t)) → (is_reference o.recs t ≡ false → o.kept (item.Typ t) ≡ true)
      → 1 ≤ (if b then row_token table.TYPE_REF (position (same_id t) (type_refs o.recs o.mets)) else kept_token table.TYPE_DEF (kept_types o.recs o.kept) (type_home o.recs t))
  type_by t true e c h = ref_stands t c e
  type_by t false e c h =
      let p = not_reference t e in
      let home = below_home types_in o.recs 0 t.0 p.0 in
      subst (λ (x : Option RowAt). 1 ≤ kept_token table.TYPE_DEF (kept_types o.recs o.kept) x) (sym home.1) (home_stands t home.0 home.1 p.1 (h e))

  named_stands : (t : TypeId) → Contains o.mets (met_type (named t)) → (is_reference o.recs t ≡ false → o.kept (item.Typ t) ≡ true) → 1 ≤ type_token o t
  unfolding type_token
  named_stands t c h = type_by t (is_reference o.recs t) refl c h

  -- ---- keys

  core_refers : (t : TypeId) → is_core o.recs (item.Typ t) ≡ true → is_reference o.recs t ≡ false → ⊥
  core_refers t core f = let g : is_reference o.recs t ≡ true = or_true (nat_le (type_count o.recs) t.0) (is_core o.recs (item.Typ t)) core in cc

  key_stands : (e : TypeExpr) (k : TypeKey) → Says o.recs e k → Contains o.mets (met_type k) → ((t : TypeId) → e ≡ expr.Def t → is_reference o.recs t ≡ false → o.kept (item.Typ t) ≡ true) → 1 ≤ key_token o k
  unfolding key_token
  key_stands e _ (of_core t core) c h = named_stands t c (λ f. absurd (core_refers t core f))
  key_stands e _ (of_definition t is) c h = named_stands t c (h t is)
  key_stands e _ (of_signature s) c h = spec_stands s c

  -- ---- tokens of kept items' parts

  type_there : (t : TypeId) → is_reference o.recs t ≡ false → is_some (row_of o.recs (item.Typ t)) ≡ true
  unfolding row_of
  type_there t h = let home = below_home types_in o.recs 0 t.0 (not_reference t h).0 in ap (λ (x : Option RowAt). is_some x) home.1

  module _ (entry : Option RowAt) (roots : List Root) (marks : AreMarked o.recs entry roots o.kept) (keeps : AreKept o.recs entry roots o.kept) (good : IsFirstFlaw o.recs entry (Marks o.recs entry roots) None) where
    at_home : (i : Item) (at : RowAt) (rec : AsmRec) (token place offset : ℕ) → row_of o.recs i ≡ Some at → o.kept i ≡ true → slice_get o.recs at.asm ≡ Some rec → suc at.asm < length o.recs
        → Contains (parts_of_item o.recs i at) (type_token_part o.recs at.asm rec place offset token) → ((k : TypeKey) → type_key o.recs at.asm rec token ≡ Some k → Contains o.mets (met_type k)) → 1 ≤ moved_type o at.asm rec token
    unfolding moved_type
    at_home i at rec token place offset home kept there input part met =
        let n = names_type o.recs entry roots o.kept marks good i at rec home kept there input place offset token part in
        let k = token_key o.recs at.asm rec token n.0 n.1 in
        subst (λ (x : Option TypeKey). 1 ≤ token_or_none (key_token o) x) (sym k.is)
        (key_stands n.0 k.key k.says (met k.key k.is)
        (λ t e f.
        keeps (item.Typ t) (type_there t f)
        (type_marked o.recs entry roots o.kept marks good i at rec home kept there input place offset token part t (n.1 ∙ ap (λ (x : TypeExpr). Good x) e))))

    token_stands : (a : ℕ) (rec : AsmRec) (token : ℕ) (i : Item) (at : RowAt) → row_of o.recs i ≡ Some at → o.kept i ≡ true → at.asm ≡ a → slice_get o.recs a ≡ Some rec → suc a < length o.recs → (place offset : ℕ)
        → Contains (parts_of_item o.recs i at) (type_token_part o.recs a rec place offset token) → ((k : TypeKey) → type_key o.recs a rec token ≡ Some k → Contains o.mets (met_type k)) → 1 ≤ moved_type o a rec token
    token_stands a rec token i at home keeps asm =
        subst
        (λ (b : ℕ).
        slice_get o.recs b ≡ Some rec → suc b < length o.recs → (place offset : ℕ) → Contains (parts_of_item o.recs i at) (type_token_part o.recs b rec place offset token)
        → ((k : TypeKey) → type_key o.recs b rec token ≡ Some k → Contains o.mets (met_type k)) → 1 ≤ moved_type o b rec token) asm
        (λ there input place offset part met. at_home i at rec token place offset home keeps there input part met)

stands_in : (internal : Bool) (recs : List AsmRec) (entry : Option RowAt) (roots : List Root) (kept : Kept) (primary : AsmRec) → AreMarked recs entry roots kept → AreKept recs entry roots kept
    → IsFirstFlaw recs entry (Marks recs entry roots) None → ReferencesStand (output_of recs kept) (left internal (output_of recs kept) primary) → RowsFit (left internal (output_of recs kept) primary)
    → (a : ℕ) (rec : AsmRec) (token : ℕ) → IsMet recs kept a rec token → 1 ≤ moved_type (output_of recs kept) a rec token
unfolding output_of
stands_in internal recs entry roots kept primary marks keeps good refs fit a rec token m =
    token_stands internal (output_of recs kept) primary refs fit entry roots marks keeps good a rec token m.item m.at m.home m.keeps m.asm m.there m.input m.place m.offset m.part m.met

pub tokens_stand : TypeTokensStand
unfolding restricted
tokens_stand internal recs entry roots kept rec e marks keeps good refs fit a r token m =
    let o : Output = output_of recs kept in
    let p = map_some (restricted_by internal o (placed_methods (moved_methods o))) (slice_get recs 0) rec e in
    stands_in internal recs entry roots kept p.0 marks keeps good (subst (ReferencesStand (output_of recs kept)) (sym p.2) refs) (subst RowsFit (sym p.2) fit) a r token m

-- What tokens and signatures of a merge's output name, where all that is met is there.
use Rattle.std.proofs.Common.{◌≡◌, ◌<◌, ◌≤◌, ◌+◌, ◌-◌, ℕ, zero, suc, List, [], ◌∷◌, ◌++◌, length, map, take, drop, Bool, true, false, Option, Some, None, ◌⊎◌, inl, inr, refl, sym, ap, subst, ◌∙◌, ◌||◌, arith, ne_eqb}
use Rattle.std.specs.Prelude.{slice_get, Contains, ◌==◌, if◌then◌else◌}
use Rattle.std.specs.List.{list_any, flat_map, filter, range_with_len}
use Rattle.il_base.specs.declared.ids.TypeId.{TypeId}
use Rattle.il_base.specs.declared.ids.Item.{Item}
use Rattle.il_base.specs.declared.ids.Item.TheVariants as item
use Rattle.il_base.specs.declared.sig.Sig.{Sig}
use Rattle.il_base.specs.declared.sig.MethodSig.{MethodSig}
use Rattle.il_base.specs.declared.body.Body.{Body}
use Rattle.il_base.specs.declared.table.TheConstants.{TYPE_DEF, METHOD_DEF}
use Rattle.il_base.specs.declared.world_model.known.Known.{Known}
use Rattle.il_base.specs.declared.world_model.known.Known.TheVariants.{Good, Bad}
use Rattle.il_base.specs.declared.world_model.known.BadKind.{BadKind}
use Rattle.il_base.specs.declared.world_model.expr.TypeExpr.{TypeExpr}
use Rattle.il_base.specs.declared.world_model.types.TypeDefRow.{TypeDefRow}
use Rattle.il_base.specs.declared.world_model.members.MethodDefRow.{MethodDefRow}
use Rattle.il_base.specs.declared.world_model.record.AsmRec.{AsmRec}
use Rattle.il_base.specs.world_model.Tokens.{token_of}
use Rattle.il_base.specs.world_model.Worlds.{known_map, known_then, types_in, sig_expr}
use Rattle.descriptor_file.specs.declared.root.Root.{Root}
use Rattle.rules.specs.declared.link_rules.row_at.RowAt.{RowAt}
use Rattle.rules.specs.declared.link_rules.member_type.MethodType.{MethodType}
use Rattle.rules.specs.link_rules.Types.{at_row}
use Rattle.rules.specs.link_rules.Signatures.{names_at, method_type, token_type}
use Rattle.rules.specs.link_rules.Members.{methods_in, type_home, run_of}
use Rattle.rules.specs.link_rules.Cycles.{listed}
use Rattle.rules.specs.type_rules.Rows.{rec_at, methods_of_type, fields_of_type, run_places}
use Rattle.base_laws.proofs.lemmas.type_laws.Within.{In, in_front, in_behind, in_map, in_flat, flat_in, listed_in}
use Rattle.base_laws.proofs.lemmas.type_laws.Places.{place_within}
use Rattle.rules.specs.mark_rules.Facts.Fact.{marked}
use Rattle.rules.specs.mark_rules.Marking.{Marks}
use Rattle.rules.specs.mark_rules.Places.{type_item, method_item, field_item, prop_item, event_item, row_of, is_core}
use Rattle.rules.specs.mark_rules.Naming.{Part, bad_part, method_type_parts, parts_of, method_sig_parts}
use Rattle.rules.specs.mark_rules.Bodies.{is_read, body_parts, body_of}
use Rattle.rules.specs.mark_rules.Types.{constraints_of}
use Rattle.rules.specs.mark_rules.Calls.{row_parts, parts_of_method}
use Rattle.rules.specs.mark_rules.BadItems.{Flaw, flaw, part_flaw, part_flaws, own_flaws, attribute_flaws, flaws_of, IsFlaw, of_item, IsFirstFlaw}
use Rattle.rules.specs.mark_rules.Members.{properties_of_type, events_of_type}
use Rattle.run_laws.proofs.lemmas.marked_laws.Members.{filtered}
use Rattle.run_laws.proofs.lemmas.marked_laws.Places.{method_row_of}
use Rattle.rules.specs.merge_rules.Numbers.{Kept, rows_of_kind, kept_types, kept_methods}
use Rattle.rules.specs.merge_rules.Keys.{TypeKey, good, type_key, world_sig, world_sigs, world_method_sig}
use Rattle.rules.specs.merge_rules.Order.{Met, met_type, met_sig, met_method_sig, met_body, met_field_row, met_method_row, met_property_row, met_event_row, met_constraints, met_extends, met_interfaces, met_impls, those, met_in_type, met_by_types}
use Rattle.rules.specs.merge_rules.Attributes.{met_by_attributes}
use Rattle.rules.specs.merge_rules.Refs.{types_of_sig, types_of_key, types_of_method_sig, new_method_sig}
use Rattle.rules.specs.merge_rules.Moved.{moved_type, moved_method_sig}
use Rattle.rules.specs.merge_rules.Restricted.{output_of}
use Rattle.rules.specs.change_rules.Moves.{move_expr, move_exprs}
use Rattle.rules.specs.world_change_rules.Rows.{move_method_type}
use Rattle.merge_laws.specs.merged_record.Laws.{InputsAreRecords, HasOwner, OwnersAreKept}
use Rattle.merge_laws.specs.merged_owners.Laws.{AreMarked, AreKept}
use Rattle.merge_laws.proofs.lemmas.merged_owners.Belong.{members_belong}
use Rattle.merge_laws.proofs.lemmas.merged_owners.Owners.{owners_stay}
use Rattle.rules.specs.merged_world_rules.Merge.{Merge, IsMerge, before, after, output}
use Rattle.rules.specs.merged_world_rules.NewNumbers.{rho_of}
use Rattle.merge_laws.specs.merged_references.Written.{HasReferenceRows}
use Rattle.merge_laws.proofs.lemmas.merged_references.Lists.{contained, contains}
use Rattle.merge_laws.proofs.lemmas.merged_references.Kept.{row_in}
use Rattle.merge_laws.proofs.lemmas.merged_references.Merges.{met_written}
use Rattle.merge_laws.specs.merged_signatures.Laws.{IsThere, AreThere}
use Rattle.merge_laws.proofs.lemmas.merged_signatures.Merges.{method_moves}
use Rattle.merge_laws.proofs.lemmas.merged_signatures.Tokens.{token_moves}
use Rattle.merge_laws.specs.merged_rows_move.Premises.{IsMet, ReadsTokens, ReadsSignatures}
use Rattle.merge_laws.proofs.lemmas.merged_standing.Whole.{reference_rows_stand}
use Rattle.trim_laws.specs.marked_merge_rules.Merges.{IsMarkedMerge}
use Rattle.trim_laws.specs.marked_merge_rules.Reads.{KeepsAllMet, AllThere}
use Rattle.trim_laws.proofs.lemmas.added_names.Tokens.{known_good}
use Rattle.trim_laws.proofs.lemmas.added_names.Used.{mapped}
use Rattle.trim_laws.proofs.lemmas.added_names.Core.{in_place}
use Rattle.trim_laws.proofs.lemmas.added_names.Homes.{method_there, key_there}
use Rattle.trim_laws.proofs.lemmas.added_names.Together.{records, core_stays}

-- ---- all that is met is there

pub met_there : (m : Merge) → IsMerge m → KeepsAllMet m → AllThere m
met_there m is keeps x t at h g home = record {
  written = met_written m is (reference_rows_stand m is) x t at h g home (keeps x h);
  stays = λ to e last. core_stays m is x t to (contained (output m).mets x h) (contained _ t g) e last;
}

-- ---- tokens

pub tokens_read : (m : Merge) → IsMerge m → AllThere m → ReadsTokens m
tokens_read m is all a rec token e there input met f =
    token_moves m is (reference_rows_stand m is) a rec there input token e
    (λ k g. (met k g, λ t i. let h = key_there (before m) a rec there token e k t f g (contained (types_of_key k) t i) in all (met_type k) t h.0 (met k g) i h.1)) f

-- ---- a place in a run

taken : {A : Type 0} (n : ℕ) (xs : List A) (i : ℕ) (x : A) → i < n → slice_get xs i ≡ Some x → slice_get (take n xs) i ≡ Some x
taken zero xs i x lt e = absurd (omega (arith, lt))
taken (suc n) [] i x lt e = absurd (cc)
taken (suc n) (y ∷ xs) zero x lt e = e
taken (suc n) (y ∷ xs) (suc i) x lt e = taken n xs i x (omega (arith, lt)) e

dropped : {A : Type 0} (d : ℕ) (xs : List A) (k i : ℕ) (x : A) → k ≡ d + i → slice_get xs k ≡ Some x → slice_get (drop d xs) i ≡ Some x
dropped zero xs k i x f e = ap (slice_get xs) (let g : i ≡ k = omega (arith, f) in g) ∙ e
dropped (suc d) [] k i x f e = absurd (cc)
dropped (suc d) (y ∷ xs) zero i x f e = absurd (omega (arith, f))
dropped (suc d) (y ∷ xs) (suc k) i x f e = dropped d xs k i x (omega (arith, f)) e

range_in : (k s n : ℕ) → k < n → In (s + k) (range_with_len s n)
range_in k s zero lt = absurd (omega arith)
range_in zero s (suc n) lt = inl (omega arith)
range_in (suc k) s (suc n) lt =
    let e : s + 1 + k ≡ s + suc k = omega arith in
    inr (subst (λ (m : ℕ). In m (range_with_len (s + 1) n)) e (range_in k (s + 1) n (omega arith)))

pub in_run : {A : Type 0} (first end : ℕ) (rows : List A) (k : ℕ) (x : A) → slice_get rows k ≡ Some x → first ≤ suc k → suc k < end → In k (run_places first end rows)
in_run first end rows k x e le lt =
    let d : ℕ = first - 1 in
    let i : ℕ = k - d in
    let f : k ≡ d + i = omega (arith, le) in
    let at : slice_get (run_of first end rows) i ≡ Some x = taken (end - first) (drop d rows) i x (omega (arith, le, lt)) (dropped d rows k i x f e) in
    subst (λ (n : ℕ). In n (run_places first end rows)) (sym f) (range_in i d (length (run_of first end rows)) (place_within (run_of first end rows) i x at))

module _ (m : Merge) (entry : Option RowAt) (roots : List Root) (is : IsMarkedMerge m entry roots) where
  abbrev recs : List AsmRec
  recs = before m

  owners : OwnersAreKept recs m.kept
  owners = owners_stay members_belong recs entry roots m.kept (records m is.merge) is.marked is.all

  module _ (at : RowAt) (rec : AsmRec) (row : MethodDefRow) (there : slice_get recs at.asm ≡ Some rec) (here : slice_get rec.method_def at.row ≡ Some row) (input : suc at.asm < length recs) (kept : m.kept (method_item recs at) ≡ true) where
    -- ---- its signature is met

    self_kept : In at (kept_methods recs m.kept)
    unfolding kept_methods
    self_kept = filtered (λ x. m.kept (method_item recs x)) at (rows_of_kind methods_in recs) (row_in methods_in recs at rec there (place_within rec.method_def at.row row here) input) kept

    abbrev Owner : Type 0
    Owner = HasOwner recs (λ rec. rec.type_def) (λ (t : TypeDefRow). t.method_list_first) (λ (t : TypeDefRow). t.method_list_end) (λ a k t. m.kept (type_item recs (at_row a k))) at

    owner : Owner
    owner = owners.methods at (contains (kept_methods recs m.kept) at self_kept)

    abbrev around : RowAt
    around = at_row at.asm owner.place

    owner_kept : In around (kept_types recs m.kept)
    unfolding kept_types
    owner_kept =
        filtered (λ x. m.kept (type_item recs x)) around (rows_of_kind types_in recs) (row_in types_in recs around owner.rec owner.there (place_within owner.rec.type_def owner.place owner.row owner.is) input) owner.kept

    same_rec : owner.rec ≡ rec
    same_rec = let e : Some owner.rec ≡ Some rec = sym owner.there ∙ there in cc

    in_type : In at (methods_of_type recs around)
    unfolding methods_of_type
    in_type =
        let t : TypeDefRow = owner.row in
        let e : slice_get owner.rec.method_def at.row ≡ Some row = subst (λ (r : AsmRec). slice_get r.method_def at.row ≡ Some row) (sym same_rec) here in
        flat_in (λ (rec : AsmRec). flat_map (λ (t : TypeDefRow). map (at_row at.asm) (run_places t.method_list_first t.method_list_end rec.method_def)) (listed (slice_get rec.type_def owner.place))) at owner.rec (listed (rec_at recs around))
        (listed_in owner.rec (rec_at recs around) owner.there)
        (flat_in (λ (t : TypeDefRow). map (at_row at.asm) (run_places t.method_list_first t.method_list_end owner.rec.method_def)) at t (listed (slice_get owner.rec.type_def owner.place)) (listed_in t (slice_get owner.rec.type_def owner.place) owner.is)
        (mapped (at_row at.asm) at.row (run_places t.method_list_first t.method_list_end owner.rec.method_def) (in_run t.method_list_first t.method_list_end owner.rec.method_def at.row row e owner.begins owner.ends)))

    in_those : In at (those recs m.kept (method_item recs) (methods_of_type recs around))
    in_those = filtered (λ x. m.kept (method_item recs x)) at (methods_of_type recs around) in_type kept

    module _ (g : MethodSig) (reads : row.signature ≡ Good g) (s : Sig) (part : In s (g.ret ∷ g.params)) where
      abbrev x : Met
      x = met_sig (world_sig recs at.asm rec s)

      sig_met : In x (met_method_sig recs at.asm rec row.signature)
      sig_met =
          subst (λ (k : Known MethodSig). In x (met_method_sig recs at.asm rec k)) (sym reads)
          (in_front x (map met_sig (world_sigs recs at.asm rec (g.ret ∷ g.params))) [] (mapped met_sig (world_sig recs at.asm rec s) (world_sigs recs at.asm rec (g.ret ∷ g.params)) (mapped (world_sig recs at.asm rec) s (g.ret ∷ g.params) part)))

      row_met : In x (met_method_row recs at)
      row_met =
          flat_in (λ (rec : AsmRec). flat_map (λ (m : MethodDefRow). met_method_sig recs at.asm rec m.signature ++ flat_map (met_body recs at.asm rec) (body_of m)) (listed (slice_get rec.method_def at.row))) x rec (listed (rec_at recs at)) (listed_in rec (rec_at recs at) there)
          (flat_in (λ (m : MethodDefRow). met_method_sig recs at.asm rec m.signature ++ flat_map (met_body recs at.asm rec) (body_of m)) x row (listed (slice_get rec.method_def at.row)) (listed_in row (slice_get rec.method_def at.row) here)
          (in_front x (met_method_sig recs at.asm rec row.signature) (flat_map (met_body recs at.asm rec) (body_of row)) sig_met))

      type_met : In x (met_in_type recs m.kept around)
      type_met =
          let methods : List RowAt = those recs m.kept (method_item recs) (methods_of_type recs around) in
          let a : List Met = met_extends recs around ++ met_interfaces recs m.kept around ++ flat_map (met_field_row recs) (those recs m.kept (field_item recs) (fields_of_type recs around)) in
          let b : List Met = flat_map (met_method_row recs) methods in
          let c : List Met = met_constraints recs around (token_of TYPE_DEF (suc around.row)) in
          let d : List Met = flat_map (λ n. met_constraints recs n (token_of METHOD_DEF (suc n.row))) methods in
          let e : List Met = flat_map (met_property_row recs) (those recs m.kept (prop_item recs) (properties_of_type recs around)) in
          let f : List Met = flat_map (met_event_row recs) (those recs m.kept (event_item recs) (events_of_type recs around)) in
          let h : List Met = met_impls recs m.kept around in
          in_front x (a ++ b ++ c ++ d ++ e ++ f) h (in_front x (a ++ b ++ c ++ d ++ e) f (in_front x (a ++ b ++ c ++ d) e (in_front x (a ++ b ++ c) d (in_front x (a ++ b) c
          (in_behind x a b (flat_in (met_method_row recs) x at methods in_those row_met))))))

      pub part_met : In x (output m).mets
      unfolding output_of met_by_types
      part_met = in_front x (met_by_types recs m.kept) (met_by_attributes recs m.kept) (flat_in (met_in_type recs m.kept) x around (kept_types recs m.kept) owner_kept type_met)

    -- ---- it has a reading

    place : ℕ
    place = token_of METHOD_DEF (suc at.row)

    is_row : row_of recs (method_item recs at) ≡ Some at
    is_row = method_row_of recs at rec there row here

    not_core : is_core recs (method_item recs at) ≡ false
    unfolding is_core
    not_core =
        ap (λ (o : Option RowAt). list_any (λ (r : RowAt). suc r.asm == length recs) (listed o)) is_row ∙ ap (λ (b : Bool). b || false) (ne_eqb (suc at.asm) (length recs) (λ e. omega (arith, input, e)))

    part_in : (p : Part) → In p (row_parts recs at rec row) → In p (parts_of_method recs at)
    unfolding parts_of_method
    part_in p i =
        flat_in (λ (rec : AsmRec). flat_map (row_parts recs at rec) (listed (slice_get rec.method_def at.row))) p rec (listed (rec_at recs at)) (listed_in rec (rec_at recs at) there)
        (flat_in (row_parts recs at rec) p row (listed (slice_get rec.method_def at.row)) (listed_in row (slice_get rec.method_def at.row) here) i)

    flaw_in : (n : ℕ) (why : BadKind) → In (bad_part n why) (row_parts recs at rec row) → In (flaw at n 0 why) (flaws_of recs (method_item recs at))
    unfolding flaws_of
    flaw_in n why i =
        let self : Item = method_item recs at in
        let f : Flaw = flaw at n 0 why in
        flat_in (λ (at : RowAt). flat_map (λ (rec : AsmRec). part_flaws recs self at ++ own_flaws recs self at rec ++ attribute_flaws recs self at rec) (listed (rec_at recs at))) f at (listed (row_of recs self)) (listed_in at (row_of recs self) is_row)
        (flat_in (λ (rec : AsmRec). part_flaws recs self at ++ own_flaws recs self at rec ++ attribute_flaws recs self at rec) f rec (listed (rec_at recs at)) (listed_in rec (rec_at recs at) there)
        (in_front f (part_flaws recs self at ++ own_flaws recs self at rec) (attribute_flaws recs self at rec) (in_front f (part_flaws recs self at) (own_flaws recs self at rec)
        (flat_in (part_flaw at) f (bad_part n why) (parts_of_method recs at) (part_in (bad_part n why) i) (inl refl)))))

    none : (n : ℕ) (why : BadKind) → In (bad_part n why) (row_parts recs at rec row) → ⊥
    none n why i =
        is.good (flaw at n 0 why) (of_item (method_item recs at) (flaw at n 0 why) (is.marked (method_item recs at) kept) not_core (contains (flaws_of recs (method_item recs at)) (flaw at n 0 why) (flaw_in n why i)))

    abbrev types : Known MethodType
    types = known_then (method_type (names_at recs at.asm rec)) row.signature

    reading_by : (k : Known MethodType) → ((n : ℕ) (why : BadKind) → In (bad_part n why) (parts_of (token_of METHOD_DEF (suc at.row)) (method_type_parts (token_of METHOD_DEF (suc at.row))) k) → ⊥) → (t : MethodType) × (k ≡ Good t)
    reading_by (Good t) h = (t, refl)
    reading_by (Bad why) h = absurd (h (token_of METHOD_DEF (suc at.row)) why (inl refl))

    reading : (t : MethodType) × (types ≡ Good t)
    reading =
        let n : ℕ = token_of METHOD_DEF (suc at.row) in
        let sig : List Part = method_sig_parts recs at.asm rec n row.signature in
        let constraints : List Part = constraints_of recs at.asm rec n in
        let rest : List Part = flat_map (body_parts recs at.asm rec n (is_read row.signature)) (body_of row) in
        reading_by types (λ k why i. none k why (in_front (bad_part k why) (sig ++ constraints) rest (in_front (bad_part k why) sig constraints i)))

    -- ---- so it is read in the output as it was, moved

    all_there : AllThere m → (g : MethodSig) (t : MethodType) → row.signature ≡ Good g → method_type (names_at recs at.asm rec) g ≡ Good t → AreThere m (types_of_method_sig (world_method_sig recs at.asm rec g))
    all_there all g t f h u i =
        let j : In u (flat_map types_of_sig (map (world_sig recs at.asm rec) (g.ret ∷ g.params))) = contained _ u i in
        let w = in_flat types_of_sig u (map (world_sig recs at.asm rec) (g.ret ∷ g.params)) j in
        let y = in_mapped w.0 w.1 in
        let home = method_there recs at.asm rec there g t u h j in
        all (met_sig (world_sig recs at.asm rec y.0)) u home.0 (contains (output m).mets (met_sig (world_sig recs at.asm rec y.0)) (part_met g f y.0 y.1))
        (contains (types_of_sig (world_sig recs at.asm rec y.0)) u (subst (λ (x : Sig). In u (types_of_sig x)) y.2 w.2)) home.1
      where
        in_mapped : (s : Sig) → In s (map (world_sig recs at.asm rec) (g.ret ∷ g.params)) → (y : Sig) × In y (g.ret ∷ g.params) × (s ≡ world_sig recs at.asm rec y)
        in_mapped s h = in_map (world_sig recs at.asm rec) s (g.ret ∷ g.params) h

    read_by : AllThere m → (t : MethodType) → types ≡ Good t
        → known_then (method_type (names_at (after m) 0 m.left)) (known_map (λ x. new_method_sig (output m) (world_method_sig recs at.asm rec x)) row.signature) ≡ known_map (move_method_type (rho_of m)) types
    read_by all t e =
        let g = known_good (method_type (names_at recs at.asm rec)) row.signature t e in
        ap (λ (k : Known MethodSig). known_then (method_type (names_at (after m) 0 m.left)) (known_map (λ x. new_method_sig (output m) (world_method_sig recs at.asm rec x)) k)) g.1
        ∙ method_moves m is.merge (reference_rows_stand m is.merge) at.asm rec there input g.0 t g.2 (all_there all g.0 t g.1 g.2) ∙ ap (known_map (move_method_type (rho_of m))) (sym e)

    pub signature_read : AllThere m → known_then (method_type (names_at (after m) 0 m.left)) (moved_method_sig (output m) at.asm rec row.signature) ≡ known_map (move_method_type (rho_of m)) types
    unfolding output_of
    signature_read all = let r = reading in read_by all r.0 r.1

pub signatures_read : (m : Merge) (entry : Option RowAt) (roots : List Root) → IsMarkedMerge m entry roots → AllThere m → ReadsSignatures m
signatures_read m entry roots is all at rec row there here input kept = signature_read m entry roots is at rec row there here input kept all

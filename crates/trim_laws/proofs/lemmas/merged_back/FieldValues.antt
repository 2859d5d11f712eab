-- The value types in the fields of the place of a kept type are places of those in its own fields (II.22.37).
use Rattle.std.proofs.Common.{◌≡◌, ◌≤◌, ℕ, Bool, true, false, List, [], Some, inl, inr, refl, sym, ap, subst, ◌∙◌, arith}
use Rattle.std.specs.Prelude.{IsTrue, Contains, slice_get, if◌then◌else◌}
use Rattle.std.specs.List.{flat_map}
use Rattle.il_base.specs.declared.world_model.known.Known.{Known}
use Rattle.il_base.specs.declared.world_model.known.Known.TheVariants.{Good, Bad}
use Rattle.il_base.specs.declared.world_model.expr.TypeExpr.{TypeExpr}
use Rattle.il_base.specs.declared.world_model.types.TypeDefRow.{TypeDefRow}
use Rattle.il_base.specs.declared.world_model.members.FieldRow.{FieldRow}
use Rattle.il_base.specs.declared.world_model.record.AsmRec.{AsmRec}
use Rattle.il_base.specs.world_model.Worlds.{types_in, known_then, known_map, sig_expr}
use Rattle.rules.specs.declared.link_rules.row_at.RowAt.{RowAt}
use Rattle.rules.specs.link_rules.Types.{at_row}
use Rattle.rules.specs.link_rules.Signatures.{names_at}
use Rattle.rules.specs.link_rules.Members.{good_type, run_of, fields_in}
use Rattle.rules.specs.link_rules.Cycles.{listed, is_value_type, is_static_field, values_in, values_in_field, values_in_row, field_values}
use Rattle.base_laws.proofs.lemmas.type_laws.Within.{In, in_listed, listed_in, in_flat, flat_in}
use Rattle.rules.specs.merge_rules.Rows.{run_at}
use Rattle.rules.specs.merge_rules.Refs.{Output}
use Rattle.rules.specs.merge_rules.Moved.{moved_type_row, moved_field_row}
use Rattle.rules.specs.change_rules.Change.{Keep, Undone}
use Rattle.rules.specs.change_rules.Moves.{move_expr}
use Rattle.rules.specs.merged_world_rules.Merge.{Merge, IsMerge, before, after, output}
use Rattle.rules.specs.merged_world_rules.Numbering.{number_at}
use Rattle.rules.specs.merged_world_rules.NewNumbers.{rho_of, back_of, places_of}
use Rattle.rules.specs.merged_world_rules.Kept.{HasFlags}
use Rattle.merge_laws.specs.merged_links.Cycles.{StepsBack}
use Rattle.merge_laws.proofs.lemmas.merged_links.Cycles.{to_in, from_in}
use Rattle.merge_laws.proofs.lemmas.merged_links.CoreValues.{in_if, no_values}
use Rattle.merge_laws.proofs.lemmas.merged_places.Ranks.{rank}
use Rattle.merge_laws.proofs.lemmas.merged_places.Rows.{IsThere, place_within, place_has, same_some}
use Rattle.merge_laws.proofs.lemmas.merged_places.Kept.{keeps}
use Rattle.merge_laws.proofs.lemmas.merged_places.Worlds.{left_core, after_left, after_core, left_fields}
use Rattle.merge_laws.proofs.lemmas.merged_places.Situations.{situation, Input}
use Rattle.merge_laws.proofs.lemmas.merged_places.Tables.{number_type, type_kind, type_left, field_left, those_at}
use Rattle.merge_laws.specs.merged_rows_move.Premises.{ReadsTokens, HasGoodBases}
use Rattle.merge_laws.proofs.lemmas.merged_rows_move.Members.{record_of}
use Rattle.merge_laws.proofs.lemmas.merged_rows_move.RowsOf.{field_like}
use Rattle.merge_laws.proofs.lemmas.merged_signatures.Reading.{good_map}
use Rattle.trim_laws.specs.merged_back.Premises.{ReadsFieldSignatures}
use Rattle.trim_laws.proofs.lemmas.merged_back.Homes.{stands, stands_there, stands_stays, place_is}
use Rattle.trim_laws.proofs.lemmas.merged_back.Rows.{KeptRow, run_item, item_run}
use Rattle.trim_laws.proofs.lemmas.merged_back.Values.{value_back, values_from}
use Rattle.trim_laws.proofs.lemmas.merged_back.MemberKinds.{field_member}

some_run : (internal : Bool) (o : Output) (at : RowAt) (rec : AsmRec) (t : TypeDefRow) → 1 ≤ (moved_type_row internal o at rec t).field_list_first
unfolding run_at
some_run internal o at rec t = omega arith

unless : {A : Type 0} (b : Bool) (xs : List A) (x : A) → In x (if b then [] else xs) → (b ≡ false) × In x xs
unless true xs x i = absurd i
unless false xs x i = (refl, i)

in_unless : {A : Type 0} (b : Bool) (xs : List A) (x : A) → b ≡ false → In x xs → In x (if b then [] else xs)
in_unless true xs x e i = absurd (cc)
in_unless false xs x e i = i

then_if : {A : Type 0} (b : Bool) (xs : List A) (x : A) → b ≡ true → In x xs → In x (if b then xs else [])
then_if true xs x e i = i
then_if false xs x e i = absurd (cc)

good_in : (k : Known TypeExpr) (e : TypeExpr) → good_type k ≡ Some e → k ≡ Good e
good_in (Good x) e h = ap Good (same_some x e h)
good_in (Bad why) e h = absurd (cc)

module _ (m : Merge) (is : IsMerge m) (k : Keep) (kept : RowAt → Bool) (flags : HasFlags m k kept) (undone : Undone (back_of m) (rho_of m)) (reads : ReadsTokens m) (good : HasGoodBases m) (signed : ReadsFieldSignatures m) where
  abbrev Led : RowAt → RowAt → Type 0
  Led x z = (w : RowAt) × Contains (field_values (before m) x) w × IsTrue (stands m k w) × ((places_of m).typ w ≡ z)

  abbrev new : RowAt → ℕ
  new x = rank (keeps types_in (before m) number_type m.kept) (number_at types_in (before m) x)

  -- ---- of a type of an input

  module _ (x : RowAt) (h : IsTrue (stands m k x)) (i : Input m types_in number_type (type_kind m is) x) where
    abbrev rec : AsmRec
    rec = i.there.rec

    abbrev o : KeptRow types_in (before m) number_type m.kept (new x)
    o = record { at = x; there = i.there; earlier = i.earlier; keeps_it = i.keeps_it; rank_is = refl; listed = those_at types_in (before m) number_type m.kept x i.there i.earlier i.keeps_it }

    -- a field of the input
    field_led : (t : TypeDefRow) (f : FieldRow) (z : RowAt) → slice_get rec.type_def x.row ≡ Some t → In f (run_of t.field_list_first t.field_list_end rec.field) → is_value_type (before m) x ≡ true
        → known_then (sig_expr (names_at (after m) 0 m.left)) (moved_field_row (output m) x rec f).signature ≡ known_map (move_expr (rho_of m)) (known_then (sig_expr (names_at (before m) x.asm rec)) f.signature)
        → In z (values_in_field (after m) 0 m.left (moved_field_row (output m) x rec f)) → Led x z
    unfolding field_values
    field_led t f z typ_is inside value sig c =
        let u = unless (is_static_field (moved_field_row (output m) x rec f)) (flat_map (values_in (after m)) (listed (good_type (known_then (sig_expr (names_at (after m) 0 m.left)) (moved_field_row (output m) x rec f).signature)))) z c in
        let e = in_flat (values_in (after m)) z (listed (good_type (known_then (sig_expr (names_at (after m) 0 m.left)) (moved_field_row (output m) x rec f).signature))) u.1 in
        let g = good_map (move_expr (rho_of m)) (known_then (sig_expr (names_at (before m) x.asm rec)) f.signature) e.0
        (sym sig ∙ good_in (known_then (sig_expr (names_at (after m) 0 m.left)) (moved_field_row (output m) x rec f).signature) e.0 (in_listed e.0 _ e.1)) in
        let w = values_from m is k kept flags undone reads good g.from z (subst (λ (y : TypeExpr). In z (values_in (after m) y)) (sym g.gives) e.2) in
        let static : is_static_field f ≡ false = sym (field_like (output m) x rec f).static ∙ u.0 in
        let of_field : In w.at (values_in_field (before m) x.asm rec f) =
        in_unless (is_static_field f) (flat_map (values_in (before m)) (listed (good_type (known_then (sig_expr (names_at (before m) x.asm rec)) f.signature)))) w.at static
        (flat_in (values_in (before m)) w.at g.from (listed (good_type (known_then (sig_expr (names_at (before m) x.asm rec)) f.signature))) (listed_in g.from _ (ap good_type g.is)) w.inside) in
        let of_row : In w.at (values_in_row (before m) x rec t) = flat_in (values_in_field (before m) x.asm rec) w.at f (run_of t.field_list_first t.field_list_end rec.field) inside of_field in
        let of_rec : In w.at (flat_map (values_in_row (before m) x rec) (listed (slice_get rec.type_def x.row))) = flat_in (values_in_row (before m) x rec) w.at t (listed (slice_get rec.type_def x.row)) (listed_in t (slice_get rec.type_def x.row) typ_is) of_row in
        let of_type : In w.at (flat_map (λ (r : AsmRec). flat_map (values_in_row (before m) x r) (listed (slice_get r.type_def x.row))) (listed (slice_get (before m) x.asm))) =
        flat_in (λ (r : AsmRec). flat_map (values_in_row (before m) x r) (listed (slice_get r.type_def x.row))) w.at rec (listed (slice_get (before m) x.asm)) (listed_in rec (slice_get (before m) x.asm) i.there.here) of_rec in
        (w.at, from_in (field_values (before m) x) w.at (then_if (is_value_type (before m) x) _ w.at value of_type), w.stays, w.moved)

    -- a field of what is left
    left_led : (t' : TypeDefRow) (f' : FieldRow) (z : RowAt) → slice_get m.left.type_def (new x) ≡ Some t' → In f' (run_of t'.field_list_first t'.field_list_end m.left.field) → is_value_type (before m) x ≡ true
        → In z (values_in_field (after m) 0 m.left f') → Led x z
    left_led t' f' z e inside value c =
        let t = place_has rec.type_def x.row i.there.below in
        let moved : moved_type_row m.internal (output m) x rec t.0 ≡ t' = same_some (moved_type_row m.internal (output m) x rec t.0) t' (sym (type_left m is x rec t.0 i.there i.earlier i.keeps_it i.there.here t.1) ∙ e) in
        let some : 1 ≤ t'.field_list_first = subst (λ (y : TypeDefRow). 1 ≤ y.field_list_first) moved (some_run m.internal (output m) x rec t.0) in
        let r = run_item t'.field_list_first t'.field_list_end m.left.field f' some inside in
        let mem = field_member m is k kept flags undone (new x) r.place o t' e r.inside (place_within m.left.field r.place f' r.is) in
        let there : IsThere fields_in (before m) (at_row x.asm mem.row) = record { rec = rec; here = i.there.here; below = mem.below } in
        let f = place_has rec.field mem.row mem.below in
        let found = field_left m is (at_row x.asm mem.row) rec f.0 there i.earlier mem.keeps_it i.there.here f.1 in
        let same : moved_field_row (output m) (at_row x.asm mem.row) rec f.0 ≡ f' = same_some (moved_field_row (output m) (at_row x.asm mem.row) rec f.0) f' (sym found ∙ ap (slice_get m.left.field) mem.rank_is ∙ r.is) in
        let whole = (record_of m is x.asm rec i.there.here i.earlier).runs.fields in
        field_led mem.t f.0 z mem.typ_is (item_run mem.t.field_list_first mem.t.field_list_end mem.row rec.field f.0 (whole.begins x.row mem.t mem.typ_is) f.1 mem.owned) value
        (signed (at_row x.asm mem.row) rec f.0 i.there.here f.1 i.earlier mem.keeps_it) (subst (λ (g : FieldRow). In z (values_in_field (after m) 0 m.left g)) (sym same) c)

    one_rec : (r : AsmRec) → slice_get (after m) 0 ≡ Some r → r ≡ m.left
    one_rec r e = same_some r m.left (sym e ∙ after_left m)

    input_led : (z : RowAt) → In z (field_values (after m) (at_row 0 (new x))) → is_value_type (after m) (at_row 0 (new x)) ≡ is_value_type (after m) ((places_of m).typ x) → Led x z
    unfolding field_values
    input_led z c at =
        let b = in_if (is_value_type (after m) (at_row 0 (new x))) _ z c in
        let value = value_back m is k kept flags undone reads good x h (sym at ∙ b.0) in
        let r = in_flat (λ (r : AsmRec). flat_map (values_in_row (after m) (at_row 0 (new x)) r) (listed (slice_get r.type_def (new x)))) z (listed (slice_get (after m) 0)) b.1 in
        let same : r.0 ≡ m.left = one_rec r.0 (in_listed r.0 (slice_get (after m) 0) r.1) in
        let t = in_flat (values_in_row (after m) (at_row 0 (new x)) m.left) z (listed (slice_get m.left.type_def (new x)))
        (subst (λ (rec : AsmRec). In z (flat_map (values_in_row (after m) (at_row 0 (new x)) rec) (listed (slice_get rec.type_def (new x))))) same r.2) in
        let f = in_flat (values_in_field (after m) 0 m.left) z (run_of t.0.field_list_first t.0.field_list_end m.left.field) t.2 in
        left_led t.0 f.0 z (in_listed t.0 (slice_get m.left.type_def (new x)) t.1) f.1 value f.2

  -- ---- of any kept type

  pub values_lead : StepsBack (places_of m).typ (stands m k) (field_values (before m)) (field_values (after m))
  values_lead x z h c =
      let at = place_is m is k kept flags x in
      let i = to_in (field_values (after m) ((places_of m).typ x)) z c in
      elim (situation m types_in number_type (type_kind m is) x (λ there. stands_stays m is k kept flags x h)) [
        | inl g ↦
            let moved : (places_of m).typ x ≡ at_row 0 (new x) = at ∙ g.moved in
            input_led x h g z (subst (λ (y : RowAt). In z (field_values (after m) y)) moved i) (ap (is_value_type (after m)) (sym moved))
        | inr other ↦ elim other [
          | inl g ↦
              let moved : (places_of m).typ x ≡ at_row 1 g.row = at ∙ g.moved in
              absurd (no_values (after m) (at_row 1 g.row) (left_core m) (after_core m) (left_fields m) z (subst (λ (y : RowAt). In z (field_values (after m) y)) moved i))
          | inr g ↦ (let there = stands_there m k x h in let past = g.none_before there.rec there.here in let low = there.below in absurd (omega (arith, past, low)))
        ]
      ]

-- A type token that is written names the moved type: a TypeSpec token by its signature, another by its type.
use Rattle.std.proofs.Common.{◌≡◌, ◌<◌, ℕ, zero, suc, List, [], ◌∷◌, length, map, Bool, true, false, Option, Some, None, inl, refl, sym, ap, subst, ◌∙◌, arith}
use Rattle.std.specs.Prelude.{slice_get, Contains, ◌==◌, if◌then◌else◌}
use Rattle.std.specs.List.{flat_map}
use Rattle.std.specs.Option.{option_and_then}
use Rattle.std.proofs.lemmas.List.{length-map}
use Rattle.il_base.specs.declared.ids.TypeId.{TypeId}
use Rattle.il_base.specs.declared.sig.Sig.{Sig}
use Rattle.il_base.specs.declared.world_model.known.Known.{Known}
use Rattle.il_base.specs.declared.world_model.known.Known.TheVariants.{Good}
use Rattle.il_base.specs.declared.world_model.expr.TypeExpr.{TypeExpr}
use Rattle.il_base.specs.declared.world_model.types.TypeSpecRow.{TypeSpecRow}
use Rattle.il_base.specs.declared.world_model.record.AsmRec.{AsmRec}
use Rattle.il_base.specs.world_model.Records.{table_sizes}
use Rattle.il_base.specs.world_model.Tokens.{table_of, index_in}
use Rattle.il_base.specs.world_model.Worlds.{sig_expr}
use Rattle.rules.specs.link_rules.Linked.{assemblies}
use Rattle.rules.specs.link_rules.Signatures.{definition_expr, named_type, names_at, spec_type_at, token_type}
use Rattle.base_laws.proofs.lemmas.type_laws.Within.{flat_in}
use Rattle.rules.specs.merge_rules.Keys.{TypeKey, named, spec, same_sig, numbered_key, spec_key, type_key, class_number, world_sig}
use Rattle.rules.specs.merge_rules.Order.{met_type}
use Rattle.rules.specs.merge_rules.Refs.{row_token, types_of_key, specs_of_met, type_specs, type_spec_rows, type_token, key_token, new_sig}
use Rattle.rules.specs.merge_rules.Moved.{token_or_none, moved_type}
use Rattle.rules.specs.merge_rules.Restricted.{output_of}
use Rattle.token_keys.proofs.lemmas.key_codes.SameSig.{sig_decides}
use Rattle.rules.specs.change_rules.Moves.{move_expr}
use Rattle.rules.specs.merged_world_rules.Merge.{Merge, IsMerge, before, after, output}
use Rattle.rules.specs.merged_world_rules.NewNumbers.{rho_of}
use Rattle.merge_laws.specs.merged_references.Written.{HasReferenceRows}
use Rattle.merge_laws.specs.merged_signatures.Laws.{AreThere}
use Rattle.merge_laws.proofs.lemmas.merged_references.Lists.{Placed, has_place, contains, contained}
use Rattle.merge_laws.proofs.lemmas.merged_references.Tokens.{token_table, token_index}
use Rattle.merge_laws.proofs.lemmas.merged_references.Left.{left_specs}
use Rattle.merge_laws.proofs.lemmas.merged_references.Merges as merges
use Rattle.merge_laws.proofs.lemmas.merged_references.Merges.{after_is, premises, number_is}
use Rattle.merge_laws.proofs.lemmas.merged_signatures.Reading.{good_then}
use Rattle.merge_laws.proofs.lemmas.merged_signatures.Agreeing as agreeing
use Rattle.merge_laws.proofs.lemmas.merged_signatures.Agreeing.{good_token}
use Rattle.merge_laws.proofs.lemmas.merged_signatures.Merges.{world, has, stand, sig_here}

map_at : {A B : Type 0} (f : A → B) (xs : List A) (k : ℕ) (x : A) → slice_get xs k ≡ Some x → slice_get (map f xs) k ≡ Some (f x)
map_at f [] k x e = cc
map_at f (y ∷ xs) zero x e = let same : y ≡ x = cc in ap (λ z. Some (f z)) same
map_at f (y ∷ xs) (suc k) x e = map_at f xs k x e

-- a row with a good signature
record GoodRow (o : Option TypeSpecRow) (s : Sig) : Type 0 where
  row : TypeSpecRow
  is : o ≡ Some row
  signature : row.signature ≡ Good s

module _ (m : Merge) (is : IsMerge m) (rows : HasReferenceRows m) where
  abbrev here : List AsmRec
  here = world m is rows

  -- ---- a TypeSpec row of the output

  module _ (s : Sig) (met : Contains (output m).mets (met_type (spec s))) where
    place : Placed (same_sig s) (type_specs (before m) (output m).mets)
    unfolding type_specs
    place =
        has_place same_sig (flat_map (specs_of_met (before m)) (output m).mets) s ((sig_decides s s).1 refl)
        (flat_in (specs_of_met (before m)) s (met_type (spec s)) (output m).mets (contained (output m).mets (met_type (spec s)) met) (inl refl))

    item_is : place.item ≡ s
    item_is = sym ((sig_decides s place.item).0 place.passes)

    specs_are : m.left.type_spec ≡ map (λ x. record { signature = Good (new_sig (output m) x) }) (type_specs (before m) (output m).mets)
    unfolding assemblies output_of type_spec_rows
    specs_are = left_specs m.internal (output m) m.left (premises m is rows).is

    low : suc place.index < 16777216
    unfolding table_sizes
    low =
        let few : length m.left.type_spec < 16777216 = is.few 0x1b in
        let n : length m.left.type_spec ≡ length (type_specs (before m) (output m).mets) = ap length specs_are ∙ length-map (type_specs (before m) (output m).mets) _ in
        let lt = place.below in
        omega (arith, few, n, lt)

    row_is : slice_get m.left.type_spec place.index ≡ Some (record { signature = Good (new_sig (output m) s) })
    row_is =
        ap (λ (rs : List TypeSpecRow). slice_get rs place.index) specs_are
        ∙ map_at (λ x. record { signature = Good (new_sig (output m) x) }) (type_specs (before m) (output m).mets) place.index place.item place.there
        ∙ ap (λ (x : Sig). Some (record { signature = Good (new_sig (output m) x) })) item_is

    spec_token : key_token (output m) (spec s) ≡ row_token 0x1b (Some place.index)
    unfolding assemblies output_of key_token
    spec_token = ap (row_token 0x1b) place.is

    pub spec_named : token_type here 0 m.left (key_token (output m) (spec s)) ≡ sig_expr (names_at here 0 m.left) (new_sig (output m) s)
    unfolding token_type
    spec_named =
        ap (token_type here 0 m.left) spec_token
        ∙ ap (λ (n : ℕ). if n == 0x1b then spec_type_at here 0 m.left (option_and_then (slice_get m.left.type_spec) (index_in 0x1b (row_token 0x1b (Some place.index)))) else named_type here 0 m.left (row_token 0x1b (Some place.index)))
        (token_table 0x1b place.index (omega arith) low)
        ∙ ap (λ (o : Option ℕ). spec_type_at here 0 m.left (option_and_then (slice_get m.left.type_spec) o)) (token_index 0x1b place.index (omega arith) low)
        ∙ ap (spec_type_at here 0 m.left) row_is

  module _ (a : ℕ) (rec : AsmRec) (there : slice_get (before m) a ≡ Some rec) (input : suc a < length (before m)) (token : ℕ) (e : TypeExpr)
      (met : (k : TypeKey) → type_key (before m) a rec token ≡ Some k → Contains (output m).mets (met_type k) × AreThere m (types_of_key k)) where
    abbrev Moves : Type 0
    Moves = token_type here 0 m.left (moved_type (output m) a rec token) ≡ Good (move_expr (rho_of m) e)

    by_key : (k : TypeKey) → type_key (before m) a rec token ≡ Some k → moved_type (output m) a rec token ≡ key_token (output m) k
    unfolding assemblies output_of moved_type
    by_key k f = ap (token_or_none (key_token (output m))) f

    -- ---- another token

    other_key : (t : TypeId) → (table_of token == 0x1b) ≡ false → class_number (before m) a rec token ≡ suc t.0 → type_key (before m) a rec token ≡ Some (named t)
    unfolding type_key
    other_key t b f = ap (λ (c : Bool). if c then spec_key (before m) a rec (option_and_then (slice_get rec.type_spec) (index_in 0x1b token)) else numbered_key (class_number (before m) a rec token)) b ∙ ap numbered_key f

    named_token : (t : TypeId) → key_token (output m) (named t) ≡ type_token (output m) t
    unfolding key_token
    named_token t = refl

    other_moves : (table_of token == 0x1b) ≡ false → named_type (before m) a rec token ≡ Good e → Moves
    unfolding assemblies output_of
    other_moves b f =
        let n = agreeing.named m.internal m.inputs (merges.names m is rows) (merges.those m is rows) m.kept (output m).mets m.left (premises m is rows) (rho_of m) (number_is m is rows) a rec (stand m is rows a rec there input) token e f in
        let t : TypeId = n.key.t in
        let k = other_key t b n.class in
        let w = (met (named t) k).1 t (contains (t ∷ []) t (inl refl)) in
        ap (token_type here 0 m.left) (by_key (named t) k ∙ named_token t)
        ∙ good_token here 0 m.left (type_token (output m) t) (move_expr (rho_of m) (definition_expr (before m) n.at)) (n.key.token_names (has m is rows t w))
        ∙ ap (λ (x : TypeExpr). Good (move_expr (rho_of m) x)) n.gives

    -- ---- a TypeSpec token

    spec_key_is : (s : Sig) → (table_of token == 0x1b) ≡ true → GoodRow (option_and_then (slice_get rec.type_spec) (index_in 0x1b token)) s → type_key (before m) a rec token ≡ Some (spec (world_sig (before m) a rec s))
    unfolding type_key
    spec_key_is s b g =
        ap (λ (c : Bool). if c then spec_key (before m) a rec (option_and_then (slice_get rec.type_spec) (index_in 0x1b token)) else numbered_key (class_number (before m) a rec token)) b
        ∙ ap (spec_key (before m) a rec) g.is ∙ ap (λ (k : Known Sig). spec_key (before m) a rec (Some (record { signature = k }))) g.signature

    spec_moves : (table_of token == 0x1b) ≡ true → (o : Option TypeSpecRow) → option_and_then (slice_get rec.type_spec) (index_in 0x1b token) ≡ o → spec_type_at (before m) a rec o ≡ Good e → Moves
    spec_moves b None f g = cc
    spec_moves b (Some row) f g =
        let c = good_then (sig_expr (names_at (before m) a rec)) row.signature e g in
        let k = spec_key_is c.from b (record { row = row; is = f; signature = c.is }) in
        let w = met (spec (world_sig (before m) a rec c.from)) k in
        ap (token_type here 0 m.left) (by_key (spec (world_sig (before m) a rec c.from)) k)
        ∙ spec_named (world_sig (before m) a rec c.from) w.0 ∙ sig_here m is rows a rec there input c.from e c.gives w.1

    moves_by : (b : Bool) → (table_of token == 0x1b) ≡ b
        → (if b then spec_type_at (before m) a rec (option_and_then (slice_get rec.type_spec) (index_in 0x1b token)) else named_type (before m) a rec token) ≡ Good e → Moves
    moves_by true b f = spec_moves b (option_and_then (slice_get rec.type_spec) (index_in 0x1b token)) refl f
    moves_by false b f = other_moves b f

    moves_here : token_type (before m) a rec token ≡ Good e → Moves
    unfolding token_type
    moves_here f = moves_by (table_of token == 0x1b) refl f

    pub token_moves : token_type (before m) a rec token ≡ Good e → token_type (after m) 0 m.left (moved_type (output m) a rec token) ≡ Good (move_expr (rho_of m) e)
    token_moves f =
        subst (λ (ws : List AsmRec). token_type ws 0 m.left (moved_type (output m) a rec token) ≡ Good (move_expr (rho_of m) e)) (sym (after_is m is rows)) (moves_here f)

-- The locals of a kept method (II.23.2.6) are read in the output as they were, moved.
use Rattle.std.proofs.Common.{◌≡◌, ◌<◌, ℕ, zero, suc, Bool, true, false, List, [], ◌∷◌, length, map, Option, Some, None, inl, inr, refl, sym, ap, subst, ◌∙◌, arith, eqb-true}
use Rattle.std.specs.Prelude.{slice_get, Contains, ◌==◌, if◌then◌else◌}
use Rattle.std.specs.List.{flat_map}
use Rattle.std.specs.Option.{option_and_then}
use Rattle.std.proofs.lemmas.Bool.{ne_eqb}
use Rattle.std.proofs.lemmas.List.{length-map}
use Rattle.il_base.specs.declared.sig.Sig.{Sig}
use Rattle.il_base.specs.declared.table.TheConstants as table
use Rattle.il_base.specs.declared.world_model.known.Known.{Known}
use Rattle.il_base.specs.declared.world_model.known.Known.TheVariants.{Good, Bad}
use Rattle.il_base.specs.declared.world_model.known.BadKind.TheVariants.{Unresolved}
use Rattle.il_base.specs.declared.world_model.expr.TypeExpr.{TypeExpr}
use Rattle.il_base.specs.declared.world_model.members.StandAloneSigRow.{StandAloneSigRow}
use Rattle.il_base.specs.declared.world_model.record.AsmRec.{AsmRec}
use Rattle.il_base.specs.world_model.Records.{table_sizes}
use Rattle.il_base.specs.world_model.Tokens.{table_of, index_in}
use Rattle.il_base.specs.world_model.Worlds.{Names, known_map, known_then, all_known, sig_expr}
use Rattle.rules.specs.link_rules.Linked.{assemblies}
use Rattle.rules.specs.link_rules.Cycles.{listed}
use Rattle.rules.specs.link_rules.Signatures.{names_at}
use Rattle.rules.specs.link_rules.Members.{arguments_of}
use Rattle.base_laws.proofs.lemmas.type_laws.Within.{In, flat_in}
use Rattle.base_laws.proofs.lemmas.known_laws.Lists.{first_in, to_option}
use Rattle.token_keys.proofs.lemmas.key_codes.SameSig.{sigs_decide}
use Rattle.rules.specs.mark_rules.Naming.{Part, bad_part, type_parts, parts_of}
use Rattle.rules.specs.mark_rules.Bodies.{locals_row_parts, locals_parts}
use Rattle.rules.specs.view_rules.Code.{locals_row, locals_of}
use Rattle.rules.specs.merge_rules.Keys.{good, same_sigs, world_sig, world_sigs}
use Rattle.rules.specs.merge_rules.Order.{met_locals, met_locals_row, met_locals_token}
use Rattle.rules.specs.merge_rules.Refs.{row_token, types_of_sig, types_of_sigs, locals_of_met, locals_sigs, locals_rows, locals_token, new_sig}
use Rattle.rules.specs.merge_rules.Moved.{token_or_none, locals_row_token, moved_locals}
use Rattle.rules.specs.merge_rules.Restricted.{output_of}
use Rattle.rules.specs.change_rules.Moves.{move_expr, move_exprs}
use Rattle.rules.specs.merged_world_rules.Merge.{Merge, IsMerge, before, after, output}
use Rattle.rules.specs.merged_world_rules.NewNumbers.{rho_of}
use Rattle.merge_laws.specs.merged_references.Written.{HasReferenceRows}
use Rattle.merge_laws.proofs.lemmas.merged_references.Lists.{Placed, has_place, contains, contained}
use Rattle.merge_laws.proofs.lemmas.merged_references.Tokens.{token_table, token_index}
use Rattle.merge_laws.proofs.lemmas.merged_references.Left.{left_locals}
use Rattle.merge_laws.proofs.lemmas.merged_references.Merges.{premises}
use Rattle.merge_laws.specs.merged_signatures.Laws.{AreThere}
use Rattle.merge_laws.proofs.lemmas.merged_signatures.Reading.{good_map, good_then}
use Rattle.merge_laws.proofs.lemmas.merged_signatures.Merges.{sig_moves}
use Rattle.trim_laws.specs.marked_merge_rules.Reads.{AreMet, AllThere}
use Rattle.trim_laws.specs.merged_code.Laws.{HaveHomes}
use Rattle.trim_laws.proofs.lemmas.merged_code.Operands.{AreGood}

map_at : {A B : Type 0} (f : A → B) (xs : List A) (k : ℕ) (x : A) → slice_get xs k ≡ Some x → slice_get (map f xs) k ≡ Some (f x)
map_at f [] k x e = cc
map_at f (y ∷ xs) zero x e = let same : y ≡ x = cc in ap (λ z. Some (f z)) same
map_at f (y ∷ xs) (suc k) x e = map_at f xs k x e

-- the parts of what has no reading are none that name something
pub good_parts : {A : Type 0} (place : ℕ) (f : A → List Part) (x : Known A) → AreGood (parts_of place f x) → (y : A) × (x ≡ Good y)
good_parts place f (Good y) good = (y, refl)
good_parts place f (Bad why) good = absurd (let n = (good (bad_part place why) (first_in (bad_part place why) [])).1 in cc)

mapped_in : {A B : Type 0} (f : A → B) (xs : List A) (x : A) → In x xs → In (f x) (map f xs)
mapped_in f [] x h = absurd h
mapped_in f (y ∷ xs) x (inl e) = inl (ap f e)
mapped_in f (y ∷ xs) x (inr h) = inr (mapped_in f xs x h)

module _ (m : Merge) (is : IsMerge m) (rows : HasReferenceRows m) where
  -- ---- a row of the output

  module _ (ss : List Sig) (met : Contains (output m).mets (met_locals ss)) where
    place : Placed (same_sigs ss) (locals_sigs (output m).mets)
    unfolding locals_sigs
    place =
        has_place same_sigs (flat_map locals_of_met (output m).mets) ss ((sigs_decide ss ss).1 refl)
        (flat_in locals_of_met ss (met_locals ss) (output m).mets (contained (output m).mets (met_locals ss) met) (inl refl))

    item_is : place.item ≡ ss
    item_is = sym ((sigs_decide ss place.item).0 place.passes)

    rows_are : m.left.stand_alone_sig ≡ map (λ xs. record { signature = Good (map (new_sig (output m)) xs) }) (locals_sigs (output m).mets)
    unfolding assemblies output_of locals_rows
    rows_are = left_locals m.internal (output m) m.left (premises m is rows).is

    low : suc place.index < 16777216
    unfolding table_sizes
    low =
        let few : length m.left.stand_alone_sig < 16777216 = is.few table.STAND_ALONE_SIG in
        let n : length m.left.stand_alone_sig ≡ length (locals_sigs (output m).mets) = ap length rows_are ∙ length-map (locals_sigs (output m).mets) _ in
        let lt = place.below in
        omega (arith, few, n, lt)

    row_is : slice_get m.left.stand_alone_sig place.index ≡ Some (record { signature = Good (map (new_sig (output m)) ss) })
    row_is =
        ap (λ (rs : List StandAloneSigRow). slice_get rs place.index) rows_are
        ∙ map_at (λ xs. record { signature = Good (map (new_sig (output m)) xs) }) (locals_sigs (output m).mets) place.index place.item place.there
        ∙ ap (λ (xs : List Sig). Some (record { signature = Good (map (new_sig (output m)) xs) })) item_is

    token_is : locals_token (output m) ss ≡ row_token table.STAND_ALONE_SIG (Some place.index)
    unfolding locals_token
    token_is = ap (row_token table.STAND_ALONE_SIG) place.is

    abbrev new : ℕ
    new = row_token table.STAND_ALONE_SIG (Some place.index)

    new_table : table_of new ≡ table.STAND_ALONE_SIG
    new_table = token_table table.STAND_ALONE_SIG place.index (omega arith) low

    some : (new == 0) ≡ false
    some = let t = new_table in ne_eqb new 0 (λ e. let z : table_of new ≡ 0 = ap table_of e in absurd (omega (arith, t, z)))

    pub locals_named : locals_of (after m) 0 m.left (locals_token (output m) ss) ≡ arguments_of (names_at (after m) 0 m.left) (map (new_sig (output m)) ss)
    locals_named =
        ap (locals_of (after m) 0 m.left) token_is
        ∙ ap (λ (b : Bool). if b then Good [] else locals_row (after m) 0 m.left (option_and_then (slice_get m.left.stand_alone_sig) (index_in table.STAND_ALONE_SIG new))) some
        ∙ ap (λ (o : Option ℕ). locals_row (after m) 0 m.left (option_and_then (slice_get m.left.stand_alone_sig) o)) (token_index table.STAND_ALONE_SIG place.index (omega arith) low)
        ∙ ap (locals_row (after m) 0 m.left) row_is

  -- ---- of a method

  module _ (all : AllThere m) (homes : HaveHomes m) (a : ℕ) (rec : AsmRec) (there : slice_get (before m) a ≡ Some rec) (input : suc a < length (before m)) where
    abbrev old : Names
    old = names_at (before m) a rec

    abbrev now : Names
    now = names_at (after m) 0 m.left

    args_move : (ss : List Sig) (es : List TypeExpr) → all_known (map (sig_expr old) ss) ≡ Good es → ((s : Sig) (e : TypeExpr) → In s ss → sig_expr old s ≡ Good e → AreThere m (types_of_sig (world_sig (before m) a rec s)))
        → all_known (map (sig_expr now) (map (new_sig (output m)) (world_sigs (before m) a rec ss))) ≡ Good (move_exprs (rho_of m) es)
    args_move [] es h w = let same : [] ≡ es = cc in ap (λ (ys : List TypeExpr). Good (move_exprs (rho_of m) ys)) same
    args_move (s ∷ ss) es h w =
        let g = good_then (λ (y : TypeExpr). known_map (λ ys. y ∷ ys) (all_known (map (sig_expr old) ss))) (sig_expr old s) es h in
        let i = good_map (λ (ys : List TypeExpr). g.from ∷ ys) (all_known (map (sig_expr old) ss)) es g.gives in
        let here : sig_expr now (new_sig (output m) (world_sig (before m) a rec s)) ≡ Good (move_expr (rho_of m) g.from) = sig_moves m is rows a rec there input s g.from g.is (w s g.from (inl refl) g.is) in
        let rest : all_known (map (sig_expr now) (map (new_sig (output m)) (world_sigs (before m) a rec ss))) ≡ Good (move_exprs (rho_of m) i.from) = args_move ss i.from i.is (λ x e v. w x e (inr v)) in
        (λ j. known_then (λ (y : TypeExpr). known_map (λ ys. y ∷ ys) (rest j)) (here j)) ∙ ap (λ (ys : List TypeExpr). Good (move_exprs (rho_of m) ys)) i.gives

    sig_there : (ss : List Sig) → Contains (output m).mets (met_locals (world_sigs (before m) a rec ss)) → (s : Sig) (e : TypeExpr) → In s ss → sig_expr old s ≡ Good e → AreThere m (types_of_sig (world_sig (before m) a rec s))
    sig_there ss met s e h g t c =
        let home = homes a rec s e t there input g c in
        all (met_locals (world_sigs (before m) a rec ss)) t home.0 met
        (contains (types_of_sigs (world_sigs (before m) a rec ss)) t
        (flat_in types_of_sig t (world_sig (before m) a rec s) (world_sigs (before m) a rec ss) (mapped_in (world_sig (before m) a rec) ss s h) (contained (types_of_sig (world_sig (before m) a rec s)) t c)))
        home.1

    sigs_read : (ss : List Sig) (es : List TypeExpr) → arguments_of old ss ≡ Good es → Contains (output m).mets (met_locals (world_sigs (before m) a rec ss))
        → locals_of (after m) 0 m.left (locals_token (output m) (world_sigs (before m) a rec ss)) ≡ Good (move_exprs (rho_of m) es)
    sigs_read ss es h met = locals_named (world_sigs (before m) a rec ss) met ∙ args_move ss es h (sig_there ss met)

    module _ (place : ℕ) (token : ℕ) where
      abbrev row_at : Option StandAloneSigRow
      row_at = option_and_then (slice_get rec.stand_alone_sig) (index_in table.STAND_ALONE_SIG token)

      abbrev Moves : Known (List TypeExpr) → Type 0
      Moves k = locals_of (after m) 0 m.left (moved_locals (output m) a rec token) ≡ known_map (move_exprs (rho_of m)) k

      moved_is : (row : StandAloneSigRow) → row_at ≡ Some row → (ss : List Sig) → row.signature ≡ Good ss → moved_locals (output m) a rec token ≡ locals_token (output m) (world_sigs (before m) a rec ss)
      unfolding moved_locals output_of
      moved_is row e ss f =
          ap (token_or_none (locals_row_token (output m) a rec)) e
          ∙ ap (λ (k : Known (List Sig)). token_or_none (λ xs. locals_token (output m) (world_sigs (before m) a rec xs)) (good k)) f

      by_row : (o : Option StandAloneSigRow) → row_at ≡ o → AreGood (locals_row_parts (before m) a rec place o) → AreMet m (flat_map (met_locals_row (before m) a rec) (listed o)) → Moves (locals_row (before m) a rec o)
      by_row None e goods met = absurd (let n = (goods (bad_part place Unresolved) (first_in (bad_part place Unresolved) [])).1 in cc)
      by_row (Some row) e goods met =
          let g = good_parts place (type_parts place) (known_then (arguments_of old) row.signature) goods in
          let s = good_then (arguments_of old) row.signature g.0 g.1 in
          let ws : List Sig = world_sigs (before m) a rec s.from in
          let inside : Contains (flat_map (met_locals_row (before m) a rec) (listed (Some row))) (met_locals ws) =
          to_option (met_locals_row (before m) a rec) (Some row) row (met_locals ws) refl
          (subst (λ (k : Known (List Sig)). Contains (map (λ ss. met_locals (world_sigs (before m) a rec ss)) (listed (good k))) (met_locals ws)) (sym s.is) (first_in (met_locals ws) [])) in
          let moved : moved_locals (output m) a rec token ≡ locals_token (output m) ws = moved_is row e s.from s.is in
          ap (locals_of (after m) 0 m.left) moved ∙ sigs_read s.from g.0 s.gives (met (met_locals ws) inside) ∙ sym (ap (known_map (move_exprs (rho_of m))) g.1)

      none_moved : token ≡ 0 → moved_locals (output m) a rec token ≡ 0
      unfolding moved_locals
      none_moved e = ap (λ (n : ℕ). token_or_none (locals_row_token (output m) a rec) (option_and_then (slice_get rec.stand_alone_sig) (index_in table.STAND_ALONE_SIG n))) e

      by_token : (b : Bool) → (token == 0) ≡ b → AreGood (if b then [] else locals_row_parts (before m) a rec place row_at) → AreMet m (met_locals_token (before m) a rec token)
          → Moves (if b then Good [] else locals_row (before m) a rec row_at)
      by_token true e goods met = ap (locals_of (after m) 0 m.left) (none_moved (eqb-true token 0 e))
      by_token false e goods met = by_row row_at refl goods met

      pub locals_move : AreGood (locals_parts (before m) a rec place token) → AreMet m (met_locals_token (before m) a rec token) → Moves (locals_of (before m) a rec token)
      locals_move goods met = by_token (token == 0) refl goods met

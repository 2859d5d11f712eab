-- The laws, for a merge.
use Rattle.std.proofs.Common.{◌≡◌, ◌<◌, ℕ, suc, List, [], ◌∷◌, length, map, Some, inl, inr, refl, sym, ap, subst}
use Rattle.std.specs.Prelude.{slice_get}
use Rattle.std.specs.List.{flat_map}
use Rattle.il_base.specs.declared.ids.TypeId.{TypeId}
use Rattle.il_base.specs.declared.sig.Sig.{Sig}
use Rattle.il_base.specs.declared.sig.MethodSig.{MethodSig}
use Rattle.il_base.specs.declared.world_model.known.Known.TheVariants.{Good}
use Rattle.il_base.specs.declared.world_model.expr.TypeExpr.{TypeExpr}
use Rattle.il_base.specs.declared.world_model.record.AsmRec.{AsmRec}
use Rattle.il_base.specs.world_model.Worlds.{sig_expr}
use Rattle.rules.specs.declared.link_rules.row_at.RowAt.{RowAt}
use Rattle.rules.specs.declared.link_rules.member_type.MethodType.{MethodType}
use Rattle.rules.specs.link_rules.Linked.{assemblies}
use Rattle.rules.specs.link_rules.Members.{type_home}
use Rattle.rules.specs.link_rules.Types.{definition_at}
use Rattle.rules.specs.link_rules.Signatures.{names_at, method_type}
use Rattle.base_laws.proofs.lemmas.type_laws.Within.{In, flat_in}
use Rattle.rules.specs.merge_rules.Keys.{world_sig, world_method_sig}
use Rattle.rules.specs.merge_rules.Refs.{numbers_in, type_of_number, types_of_sig, types_of_method_sig, type_refs, new_sig, new_method_sig}
use Rattle.rules.specs.merge_rules.Restricted.{output_of}
use Rattle.rules.specs.change_rules.Moves.{move_expr, move_exprs}
use Rattle.rules.specs.merged_world_rules.Merge.{Merge, IsMerge, before, after, output}
use Rattle.rules.specs.merged_world_rules.NewNumbers.{type_core, rho_of}
use Rattle.merge_laws.specs.merged_references.Written.{HasReferenceRows, IsWritten, kept_type, core_type}
use Rattle.merge_laws.proofs.lemmas.merged_references.Lists.{contains, contained}
use Rattle.merge_laws.proofs.lemmas.merged_references.Found.{Names, token_names}
use Rattle.merge_laws.proofs.lemmas.merged_references.Merges as merges
use Rattle.merge_laws.proofs.lemmas.merged_references.Merges.{after_is, premises, number_is}
use Rattle.merge_laws.specs.merged_signatures.Laws.{IsThere, AreThere}
use Rattle.merge_laws.proofs.lemmas.merged_signatures.Reading.{Agrees, sig_reads, method_reads}
use Rattle.merge_laws.proofs.lemmas.merged_signatures.Keys.{HasType, of_input, of_core}
use Rattle.merge_laws.proofs.lemmas.merged_signatures.Agreeing.{HasNumber, agrees}

mapped_in : {A B : Type 0} (f : A → B) (xs : List A) (x : A) → In x xs → In (f x) (map f xs)
mapped_in f [] x h = absurd h
mapped_in f (y ∷ xs) x (inl e) = inl (ap f e)
mapped_in f (y ∷ xs) x (inr h) = inr (mapped_in f xs x h)

module _ (m : Merge) (is : IsMerge m) (rows : HasReferenceRows m) where
  abbrev pub world : List AsmRec
  world = merges.world m is rows

  abbrev pub Has : TypeId → Type 0
  Has t = HasType m.internal m.inputs (merges.names m is rows) (merges.those m is rows) m.kept (output m).mets m.left (premises m is rows) (rho_of m) (number_is m is rows) t

  abbrev Numbered : ℕ → Type 0
  Numbered n = HasNumber m.internal m.inputs (merges.names m is rows) (merges.those m is rows) m.kept (output m).mets m.left (premises m is rows) (rho_of m) (number_is m is rows) n

  has_by : (t : TypeId) → IsWritten m t → ((at : RowAt) → type_home (before m) t ≡ Some at → suc at.asm ≡ length (before m) → (s : ℕ) × ((type_core m).to at.row ≡ Some s)) → Has t
  unfolding assemblies output_of
  has_by t (kept_type at k home lt new) stays = of_input at k home lt new
  has_by t (core_type at home last h) stays = let s = stays at home last in of_core at home last (contained (type_refs (before m) (output m).mets) t h) s.0 s.1

  pub has : (t : TypeId) → IsThere m t → Has t
  has t w = has_by t w.written w.stays

  numbered : (ns : List ℕ) → AreThere m (flat_map type_of_number ns) → (k : ℕ) → In k ns → Numbered k
  numbered ns w k h t e =
      let i : In t (type_of_number k) = subst (λ (n : ℕ). In t (type_of_number n)) (sym e) (inl refl) in
      has t (w t (contains (flat_map type_of_number ns) t (flat_in type_of_number t k ns h i)))

  module _ (a : ℕ) (rec : AsmRec) (there : slice_get (before m) a ≡ Some rec) (input : suc a < length (before m)) where
    pub stand : (token : ℕ) (at : RowAt) → definition_at (before m) a rec token ≡ Some at → Names (before m) at
    stand token at e = token_names (before m) a rec token at there input e

    all_agree : Agrees (output m) (before m) a rec (names_at (before m) a rec) (names_at world 0 m.left) (rho_of m) Numbered
    unfolding assemblies output_of
    all_agree = agrees m.internal m.inputs (merges.names m is rows) (merges.those m is rows) m.kept (output m).mets m.left (premises m is rows) (rho_of m) (number_is m is rows) a rec stand

    pub sig_here : (s : Sig) (e : TypeExpr) → sig_expr (names_at (before m) a rec) s ≡ Good e → AreThere m (types_of_sig (world_sig (before m) a rec s))
        → sig_expr (names_at world 0 m.left) (new_sig (output m) (world_sig (before m) a rec s)) ≡ Good (move_expr (rho_of m) e)
    sig_here s e h w = sig_reads (output m) (before m) a rec (names_at (before m) a rec) (names_at world 0 m.left) (rho_of m) Numbered all_agree s e h (numbered (numbers_in (world_sig (before m) a rec s)) w)

    pub sig_moves : (s : Sig) (e : TypeExpr) → sig_expr (names_at (before m) a rec) s ≡ Good e → AreThere m (types_of_sig (world_sig (before m) a rec s))
        → sig_expr (names_at (after m) 0 m.left) (new_sig (output m) (world_sig (before m) a rec s)) ≡ Good (move_expr (rho_of m) e)
    sig_moves s e h w =
        subst (λ (ws : List AsmRec). sig_expr (names_at ws 0 m.left) (new_sig (output m) (world_sig (before m) a rec s)) ≡ Good (move_expr (rho_of m) e)) (sym (after_is m is rows))
        (sig_here s e h w)

    part_written : (ss : List Sig) → AreThere m (flat_map types_of_sig (map (world_sig (before m) a rec) ss)) → (s : Sig) → In s ss → AreThere m (types_of_sig (world_sig (before m) a rec s))
    part_written ss w s h t c =
        w t (contains (flat_map types_of_sig (map (world_sig (before m) a rec) ss)) t
        (flat_in types_of_sig t (world_sig (before m) a rec s) (map (world_sig (before m) a rec) ss) (mapped_in (world_sig (before m) a rec) ss s h) (contained (types_of_sig (world_sig (before m) a rec s)) t c)))

    pub method_moves : (s : MethodSig) (t : MethodType) → method_type (names_at (before m) a rec) s ≡ Good t → AreThere m (types_of_method_sig (world_method_sig (before m) a rec s))
        → method_type (names_at (after m) 0 m.left) (new_method_sig (output m) (world_method_sig (before m) a rec s)) ≡ Good (record t { ret = move_expr (rho_of m) t.ret; params = move_exprs (rho_of m) t.params })
    method_moves s t h w =
        subst (λ (ws : List AsmRec). method_type (names_at ws 0 m.left) (new_method_sig (output m) (world_method_sig (before m) a rec s)) ≡ Good (record t { ret = move_expr (rho_of m) t.ret; params = move_exprs (rho_of m) t.params })) (sym (after_is m is rows))
        (method_reads (output m) (before m) a rec (names_at (before m) a rec) (names_at world 0 m.left) (rho_of m) Numbered all_agree s t h
        (λ x v. numbered (numbers_in (world_sig (before m) a rec x)) (part_written (s.ret ∷ s.params) w x v)))

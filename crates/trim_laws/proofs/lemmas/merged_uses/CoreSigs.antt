-- The signature of a method of the core library, written with the output's tokens, is read as it was, moved.
use Rattle.std.proofs.Common.{◌≡◌, ℕ, zero, suc, Bool, true, false, List, [], ◌∷◌, ◌++◌, length, map, Some, inl, refl, sym, ap, subst, ◌∙◌, ◌&&◌, arith}
use Rattle.std.specs.Prelude.{slice_get}
use Rattle.std.specs.List.{list_all, flat_map}
use Rattle.std.proofs.lemmas.Bool.{and_parts}
use Rattle.il_base.specs.declared.ids.TypeId.{TypeId}
use Rattle.il_base.specs.declared.sig.Sig.{Sig, roll-Sig, fold-roll-Sig}
use Rattle.il_base.specs.declared.sig.Sig.TheFolds.{map-Sig}
use Rattle.il_base.specs.declared.sig.Sig.TheOpen.{Sig-F}
use Rattle.il_base.specs.declared.sig.Sig.TheVariants as sig
use Rattle.il_base.specs.declared.sig.MethodSig.{MethodSig}
use Rattle.il_base.specs.declared.world_model.known.Known.{Known}
use Rattle.il_base.specs.declared.world_model.known.Known.TheVariants.{Good}
use Rattle.il_base.specs.declared.world_model.expr.TypeExpr.{TypeExpr}
use Rattle.il_base.specs.declared.world_model.expr.TypeExpr.TheVariants as expr
use Rattle.il_base.specs.declared.world_model.members.MethodDefRow.{MethodDefRow}
use Rattle.il_base.specs.declared.world_model.record.AsmRec.{AsmRec}
use Rattle.il_base.specs.world_model.Worlds.{Names, known_map, known_then, all_known, sig_layer, sig_expr}
use Rattle.il_base.specs.declared.core_table.shape.CoreMethod.{CoreMethod}
use Rattle.il_base.specs.declared.core_table.shape.CoreParams.{CoreParams}
use Rattle.il_base.specs.declared.core_table.shape.CoreParams.TheVariants.{Zero, One, Two, Three, Four}
use Rattle.il_base.specs.declared.core_table.shape.CoreSig.{CoreSig}
use Rattle.il_base.specs.declared.core_table.shape.CoreSig.TheVariants as core
use Rattle.il_base.specs.declared.core_table.shape.CoreType.{CoreType}
use Rattle.il_base.specs.declared.core_table.types.TheConstants.{TYPES}
use Rattle.il_base.specs.core_table.Members.{methods_of}
use Rattle.il_base.specs.core_table.Record.{core_record, record_with, sig_of, params_of, signature_of, method_row, method_rows, all_methods}
use Rattle.rules.specs.declared.link_rules.row_at.RowAt.{RowAt}
use Rattle.rules.specs.declared.link_rules.member_type.MethodType.{MethodType}
use Rattle.rules.specs.link_rules.Linked.{assemblies}
use Rattle.rules.specs.link_rules.Types.{at_row}
use Rattle.rules.specs.link_rules.Members.{type_home}
use Rattle.rules.specs.link_rules.Signatures.{definition_expr, named_type, names_at, method_type_of, method_type}
use Rattle.rules.specs.merge_rules.Keys.{number_of, absent_number, found_or, class_number, world_layer, world_sig, world_method_sig}
use Rattle.rules.specs.merge_rules.Refs.{numbers_layer, numbers_in, types_of_sig, type_of_number, type_token, new_sig_layer, new_sig, new_method_sig}
use Rattle.rules.specs.merge_rules.Restricted.{output_of}
use Rattle.rules.specs.change_rules.Moves.{move_expr, move_exprs}
use Rattle.base_laws.proofs.lemmas.change_laws.Exprs.{move_prim, move_array, move_mvar}
use Rattle.rules.specs.world_change_rules.Rows.{move_method_type, is_table_type}
use Rattle.base_laws.proofs.lemmas.type_laws.Within.{In, in_front, in_behind}
use Rattle.rules.specs.merged_world_rules.Merge.{Merge, IsMerge, before, output}
use Rattle.rules.specs.merged_world_rules.NewNumbers.{rho_of}
use Rattle.merge_laws.proofs.lemmas.merged_places.Worlds.{core_of}
use Rattle.merge_laws.proofs.lemmas.merged_rows_move.Core.{types_more}
use Rattle.merge_laws.proofs.lemmas.merged_rows_move.Bases.{own_token, named_own}
use Rattle.merge_laws.specs.merged_references.Written.{HasReferenceRows}
use Rattle.merge_laws.proofs.lemmas.merged_references.Merges as merges
use Rattle.merge_laws.proofs.lemmas.merged_references.Merges.{premises, number_is}
use Rattle.merge_laws.proofs.lemmas.merged_signatures.Agreeing.{good_named}
use Rattle.merge_laws.proofs.lemmas.merged_signatures.Keys as keys
use Rattle.merge_laws.proofs.lemmas.merged_signatures.Merges.{world, Has}
use Rattle.trim_laws.proofs.lemmas.merged_uses.Leaves.{generic}
use Rattle.trim_laws.proofs.lemmas.merged_uses.Based.{own_names}
use Rattle.trim_laws.proofs.lemmas.merged_uses.Facts.{leaf_home}

-- ---- signatures of the core library

abbrev is_plain : CoreSig → Bool
is_plain (core.Prim code) = true
is_plain (core.Class token) = is_table_type token
is_plain (core.Value token) = is_table_type token
is_plain (core.Prims code) = true
is_plain (core.Classes token) = is_table_type token
is_plain (core.MVar n) = true

abbrev are_plain : CoreParams → Bool
are_plain Zero = true
are_plain (One a) = is_plain a
are_plain (Two a b) = is_plain a && is_plain b
are_plain (Three a b c) = is_plain a && is_plain b && is_plain c
are_plain (Four a b c d) = is_plain a && is_plain b && is_plain c && is_plain d

abbrev is_plain_method : CoreMethod → Bool
is_plain_method m = is_plain m.ret && are_plain m.params

abbrev is_plain_type : CoreType → Bool
is_plain_type t = list_all is_plain_method (methods_of t.members)

all_plain : list_all is_plain_type TYPES ≡ true
unfolding methods_of
all_plain = refl

-- a row with such a signature
pub record PlainRow (row : MethodDefRow) : Type 0 where
  pub of : CoreMethod
  pub signature : row.signature ≡ Good (signature_of of)
  pub plain : is_plain_method of ≡ true

in_methods : (ms : List CoreMethod) (rest : List MethodDefRow) → list_all is_plain_method ms ≡ true → ((k : ℕ) (row : MethodDefRow) → slice_get rest k ≡ Some row → PlainRow row)
    → (k : ℕ) (row : MethodDefRow) → slice_get (method_rows ms ++ rest) k ≡ Some row → PlainRow row
unfolding method_row
in_methods [] rest h more k row e = more k row e
in_methods (m ∷ ms) rest h more zero row e =
    let same : method_row m ≡ row = cc in
    record { of = m; signature = ap (λ (x : MethodDefRow). x.signature) (sym same); plain = (and_parts (is_plain_method m) (list_all is_plain_method ms) h).0 }
in_methods (m ∷ ms) rest h more (suc k) row e = in_methods ms rest (and_parts (is_plain_method m) (list_all is_plain_method ms) h).1 more k row e

in_types : (ts : List CoreType) → list_all is_plain_type ts ≡ true → (k : ℕ) (row : MethodDefRow) → slice_get (all_methods ts) k ≡ Some row → PlainRow row
unfolding all_methods
in_types [] h k row e = absurd (cc)
in_types (t ∷ ts) h k row e =
    let p = and_parts (is_plain_type t) (list_all is_plain_type ts) h in
    in_methods (methods_of t.members) (all_methods ts) p.0 (in_types ts p.1) k row e

pub core_plain : (k : ℕ) (row : MethodDefRow) → slice_get core_record.method_def k ≡ Some row → PlainRow row
unfolding core_record record_with
core_plain k row e = in_types TYPES all_plain k row e

-- ---- one level of each

layer : (names : Names) (x : Sig-F Sig) (s : Sig) → roll-Sig x ≡ s → sig_expr names s ≡ sig_layer names (map-Sig Sig (Known TypeExpr) (sig_expr names) x)
unfolding sig_expr
layer names x s e = ap (sig_expr names) (sym e) ∙ fold-roll-Sig (Known TypeExpr) (sig_layer names) x

numbers : (x : Sig-F Sig) (s : Sig) → roll-Sig x ≡ s → numbers_in s ≡ numbers_layer (map-Sig Sig (List ℕ) numbers_in x)
unfolding numbers_in
numbers x s e = ap numbers_in (sym e) ∙ fold-roll-Sig (List ℕ) numbers_layer x

module _ (m : Merge) (is : IsMerge m) (rows : HasReferenceRows m) (a : ℕ) (last : suc a ≡ length (before m)) where
  abbrev here : List AsmRec
  here = world m is rows

  abbrev now : Names
  now = names_at here 0 m.left

  abbrev past : Names
  past = names_at (before m) a (core_of m)

  abbrev ws : Sig → Sig
  ws = world_sig (before m) a (core_of m)

  world_is : (x : Sig-F Sig) (s : Sig) → roll-Sig x ≡ s → world_sig (before m) a (core_of m) s ≡ world_layer (before m) a (core_of m) (map-Sig Sig Sig (world_sig (before m) a (core_of m)) x)
  unfolding world_sig
  world_is x s e = ap (world_sig (before m) a (core_of m)) (sym e) ∙ fold-roll-Sig Sig (world_layer (before m) a (core_of m)) x

  new_is : (x : Sig-F Sig) (s : Sig) → roll-Sig x ≡ s → new_sig (output m) s ≡ new_sig_layer (output m) (map-Sig Sig Sig (new_sig (output m)) x)
  unfolding new_sig
  new_is x s e = ap (new_sig (output m)) (sym e) ∙ fold-roll-Sig Sig (new_sig_layer (output m)) x

  -- it is read before, and after as that, moved, where its types are there
  abbrev AreHere : List TypeId → Type 0
  AreHere ts = (t : TypeId) (at : RowAt) → In t ts → type_home (before m) t ≡ Some at → Has m is rows t

  pub record Moves (s : Sig) : Type 0 where
    pub old : TypeExpr
    pub reads : sig_expr (names_at (before m) a (core_of m)) s ≡ Good old
    pub again : AreHere (types_of_sig (world_sig (before m) a (core_of m) s)) → sig_expr (names_at (world m is rows) 0 m.left) (new_sig (output m) (world_sig (before m) a (core_of m) s)) ≡ Good (move_expr (rho_of m) old)

  -- a primitive has no types
  pub prim_types : (n : ℕ) → types_of_sig (world_sig (before m) a (core_of m) (sig.Prim n)) ≡ []
  prim_types n =
      ap types_of_sig (world_is (Sig-F.Prim n) (sig.Prim n) (sig.rolls-Prim n)) ∙ ap (flat_map type_of_number) (numbers (Sig-F.Prim n) (sig.Prim n) (sig.rolls-Prim n))

  pub prim_moves : (n : ℕ) → Moves (sig.Prim n)
  prim_moves n = record {
    old = expr.Prim n;
    reads = layer past (Sig-F.Prim n) (sig.Prim n) (sig.rolls-Prim n);
    again = λ w.
        ap (λ (s : Sig). sig_expr now (new_sig (output m) s)) (world_is (Sig-F.Prim n) (sig.Prim n) (sig.rolls-Prim n))
        ∙ ap (sig_expr now) (new_is (Sig-F.Prim n) (sig.Prim n) (sig.rolls-Prim n)) ∙ layer now (Sig-F.Prim n) (sig.Prim n) (sig.rolls-Prim n) ∙ ap Good (sym (move_prim (rho_of m) n));
  }

  mvar_moves : (n : ℕ) → Moves (sig.MVar n)
  mvar_moves n = record {
    old = expr.MVar n;
    reads = layer past (Sig-F.MVar n) (sig.MVar n) (sig.rolls-MVar n);
    again = λ w.
        ap (λ (s : Sig). sig_expr now (new_sig (output m) s)) (world_is (Sig-F.MVar n) (sig.MVar n) (sig.rolls-MVar n))
        ∙ ap (sig_expr now) (new_is (Sig-F.MVar n) (sig.MVar n) (sig.rolls-MVar n)) ∙ layer now (Sig-F.MVar n) (sig.MVar n) (sig.rolls-MVar n) ∙ ap Good (sym (move_mvar (rho_of m) n));
  }

  -- a vector has the types of its elements
  array_types : (s : Sig) → types_of_sig (world_sig (before m) a (core_of m) (sig.Array s)) ≡ types_of_sig (world_sig (before m) a (core_of m) s)
  array_types s =
      ap types_of_sig (world_is (Sig-F.Array s) (sig.Array s) (sig.rolls-Array s)) ∙ ap (flat_map type_of_number) (numbers (Sig-F.Array (ws s)) (sig.Array (ws s)) (sig.rolls-Array (ws s)))

  array_moves : (s : Sig) → Moves s → Moves (sig.Array s)
  array_moves s x = record {
    old = expr.Array x.old;
    reads = layer past (Sig-F.Array s) (sig.Array s) (sig.rolls-Array s) ∙ ap (known_map (λ (e : TypeExpr). expr.Array e)) x.reads;
    again = λ w.
        (let new : Sig = new_sig (output m) (ws s) in
        ap (λ (s : Sig). sig_expr now (new_sig (output m) s)) (world_is (Sig-F.Array s) (sig.Array s) (sig.rolls-Array s))
        ∙ ap (sig_expr now) (new_is (Sig-F.Array (ws s)) (sig.Array (ws s)) (sig.rolls-Array (ws s))) ∙ layer now (Sig-F.Array new) (sig.Array new) (sig.rolls-Array new)
        ∙ ap (known_map (λ (e : TypeExpr). expr.Array e)) (x.again (subst (λ (ts : List TypeId). AreHere ts) (array_types s) w)) ∙ ap Good (sym (move_array (rho_of m) x.old)));
  }

  class_is : (w n : ℕ) (e : TypeExpr) → named_type (before m) a (core_of m) w ≡ Good e → number_of (before m) (Good e) ≡ suc n → class_number (before m) a (core_of m) w ≡ suc n
  unfolding class_number
  class_is w n e f g = ap (λ (k : Known TypeExpr). found_or (number_of (before m) k) (absent_number (before m) a w)) f ∙ ap (λ (i : ℕ). found_or i (absent_number (before m) a w)) g

  named_moves : (v : Bool) (w : ℕ) → is_table_type w ≡ true → Moves (sig.Named v w)
  unfolding assemblies output_of
  named_moves v w h =
      let own = own_token w h in
      let low = own.low in
      let more = types_more m is in
      let at : RowAt = at_row a own.row in
      let f : named_type (before m) a (core_of m) w ≡ Good (definition_expr (before m) at) = named_own (before m) a (core_of m) w own (omega (arith, low, more)) in
      let key = keys.key_of m.internal m.inputs (merges.names m is rows) (merges.those m is rows) m.kept (output m).mets m.left (premises m is rows) (rho_of m) (number_is m is rows) at (own_names m is a own.row last own.low) in
      let c : class_number (before m) a (core_of m) w ≡ suc key.t.0 = class_is w key.t.0 (definition_expr (before m) at) f key.numbered in
      let token : ℕ = type_token (output m) key.t in
      let home = leaf_home m is (generic key.t) (record { at = at; names = own_names m is a own.row last own.low; defined = key.defined }) in
      let made : new_sig (output m) (ws (sig.Named v w)) ≡ sig.Named v token =
      ap (new_sig (output m)) (world_is (Sig-F.Named v w) (sig.Named v w) (sig.rolls-Named v w) ∙ ap (λ (i : ℕ). sig.Named v i) c)
      ∙ new_is (Sig-F.Named v (suc key.t.0)) (sig.Named v (suc key.t.0)) (sig.rolls-Named v (suc key.t.0)) in
      let types : types_of_sig (ws (sig.Named v w)) ≡ key.t ∷ [] =
      ap types_of_sig (world_is (Sig-F.Named v w) (sig.Named v w) (sig.rolls-Named v w) ∙ ap (λ (i : ℕ). sig.Named v i) c)
      ∙ ap (flat_map type_of_number) (numbers (Sig-F.Named v (suc key.t.0)) (sig.Named v (suc key.t.0)) (sig.rolls-Named v (suc key.t.0))) in
      record {
        old = definition_expr (before m) at;
        reads = layer past (Sig-F.Named v w) (sig.Named v w) (sig.rolls-Named v w) ∙ good_named (before m) a (core_of m) w (definition_expr (before m) at) f;
        again = λ hs.
            ap (sig_expr now) made ∙ layer now (Sig-F.Named v token) (sig.Named v token) (sig.rolls-Named v token)
            ∙ good_named here 0 m.left token (move_expr (rho_of m) (definition_expr (before m) at)) (key.token_names (hs key.t home.0 (subst (In key.t) (sym types) (inl refl)) home.1));
      }

  plain_moves : (c : CoreSig) → is_plain c ≡ true → Moves (sig_of c)
  plain_moves (core.Prim code) h = prim_moves code
  plain_moves (core.Class token) h = named_moves false token h
  plain_moves (core.Value token) h = named_moves true token h
  plain_moves (core.Prims code) h = array_moves (sig.Prim code) (prim_moves code)
  plain_moves (core.Classes token) h = array_moves (sig.Named false token) (named_moves false token h)
  plain_moves (core.MVar n) h = mvar_moves n

  -- ---- parameters

  abbrev types_of : List Sig → List TypeId
  types_of ss = flat_map types_of_sig (map (world_sig (before m) a (core_of m)) ss)

  pub record AllMove (ss : List Sig) : Type 0 where
    pub olds : List TypeExpr
    pub all_read : all_known (map (sig_expr (names_at (before m) a (core_of m))) ss) ≡ Good olds
    pub all_again : AreHere (flat_map types_of_sig (map (world_sig (before m) a (core_of m)) ss))
        → all_known (map (sig_expr (names_at (world m is rows) 0 m.left)) (map (new_sig (output m)) (map (world_sig (before m) a (core_of m)) ss))) ≡ Good (move_exprs (rho_of m) olds)

  none_move : AllMove []
  none_move = record { olds = []; all_read = refl; all_again = λ w. refl }

  one_more : (s : Sig) (ss : List Sig) → Moves s → AllMove ss → AllMove (s ∷ ss)
  one_more s ss x xs = record {
    olds = x.old ∷ xs.olds;
    all_read = λ j. known_then (λ (y : TypeExpr). known_map (λ ys. y ∷ ys) (xs.all_read j)) (x.reads j);
    all_again = λ w.
        (let f = x.again (λ t at i. w t at (in_front t (types_of_sig (ws s)) (types_of ss) i)) in
        let g = xs.all_again (λ t at i. w t at (in_behind t (types_of_sig (ws s)) (types_of ss) i)) in
        λ j. known_then (λ (y : TypeExpr). known_map (λ ys. y ∷ ys) (g j)) (f j));
  }

  params_move : (ps : CoreParams) → are_plain ps ≡ true → AllMove (params_of ps)
  unfolding params_of
  params_move Zero h = none_move
  params_move (One a) h = one_more (sig_of a) [] (plain_moves a h) none_move
  params_move (Two a b) h =
      let p = and_parts (is_plain a) (is_plain b) h in
      one_more (sig_of a) (sig_of b ∷ []) (plain_moves a p.0) (one_more (sig_of b) [] (plain_moves b p.1) none_move)
  params_move (Three a b c) h =
      let p = and_parts (is_plain a && is_plain b) (is_plain c) h in
      let q = and_parts (is_plain a) (is_plain b) p.0 in
      one_more (sig_of a) (sig_of b ∷ sig_of c ∷ []) (plain_moves a q.0) (one_more (sig_of b) (sig_of c ∷ []) (plain_moves b q.1) (one_more (sig_of c) [] (plain_moves c p.1) none_move))
  params_move (Four a b c d) h =
      let p = and_parts (is_plain a && is_plain b && is_plain c) (is_plain d) h in
      let q = and_parts (is_plain a && is_plain b) (is_plain c) p.0 in
      let r = and_parts (is_plain a) (is_plain b) q.0 in
      one_more (sig_of a) (sig_of b ∷ sig_of c ∷ sig_of d ∷ []) (plain_moves a r.0)
      (one_more (sig_of b) (sig_of c ∷ sig_of d ∷ []) (plain_moves b r.1) (one_more (sig_of c) (sig_of d ∷ []) (plain_moves c q.1) (one_more (sig_of d) [] (plain_moves d p.1) none_move)))

  -- ---- a whole signature

  one_type : (x y : MethodType) (k : Known MethodType) → k ≡ Good x → k ≡ Good y → x ≡ y
  one_type x y k e f = let g : Good x ≡ Good y = sym e ∙ f in cc

  whole_moves : (s : MethodSig) (t : MethodType) → Moves s.ret → AllMove s.params → method_type (names_at (before m) a (core_of m)) s ≡ Good t
      → AreHere (flat_map types_of_sig (map (world_sig (before m) a (core_of m)) (s.ret ∷ s.params)))
      → method_type (names_at (world m is rows) 0 m.left) (new_method_sig (output m) (world_method_sig (before m) a (core_of m) s)) ≡ Good (move_method_type (rho_of m) t)
  unfolding method_type
  whole_moves s t x xs h w =
      let f = x.again (λ u at i. w u at (in_front u (types_of_sig (ws s.ret)) (types_of s.params) i)) in
      let g = xs.all_again (λ u at i. w u at (in_behind u (types_of_sig (ws s.ret)) (types_of s.params) i)) in
      let new : MethodSig = new_method_sig (output m) (world_method_sig (before m) a (core_of m) s) in
      let old : Good (method_type_of s x.old xs.olds) ≡ Good t = sym (λ j. known_then (λ (y : TypeExpr). known_map (λ ys. method_type_of s y ys) (xs.all_read j)) (x.reads j)) ∙ h in
      let same : method_type_of s x.old xs.olds ≡ t = cc in
      (λ j. known_then (λ (y : TypeExpr). known_map (λ ys. method_type_of new y ys) (g j)) (f j)) ∙ ap (λ (y : MethodType). Good (move_method_type (rho_of m) y)) same

  pub core_moves : (c : CoreMethod) (t : MethodType) → is_plain_method c ≡ true → method_type (names_at (before m) a (core_of m)) (signature_of c) ≡ Good t
      → AreHere (flat_map types_of_sig (map (world_sig (before m) a (core_of m)) ((signature_of c).ret ∷ (signature_of c).params)))
      → method_type (names_at (world m is rows) 0 m.left) (new_method_sig (output m) (world_method_sig (before m) a (core_of m) (signature_of c))) ≡ Good (move_method_type (rho_of m) t)
  unfolding signature_of
  core_moves c t h =
      let p = and_parts (is_plain c.ret) (are_plain c.params) h in
      whole_moves (signature_of c) t (plain_moves c.ret p.0) (params_move c.params p.1)

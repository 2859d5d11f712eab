-- A kept method's signature moves with it (II.23.2.1), where the output reads what it wrote; the core library's name its own types.
use Rattle.std.proofs.Common.{◌≡◌, ◌<◌, ℕ, zero, suc, Bool, true, false, List, [], ◌∷◌, ◌++◌, length, map, Option, Some, None, inl, inr, refl, sym, ap, ◌∙◌, arith}
use Rattle.std.specs.Prelude.{slice_get, ◌&&◌, if◌then◌else◌}
use Rattle.std.specs.List.{list_all}
use Rattle.std.specs.Option.{option_map, option_and_then}
use Rattle.std.proofs.lemmas.Bool.{and_parts}
use Rattle.il_base.specs.declared.sig.Sig.{Sig, roll-Sig, fold-roll-Sig}
use Rattle.il_base.specs.declared.sig.Sig.TheFolds.{map-Sig}
use Rattle.il_base.specs.declared.sig.Sig.TheOpen.{Sig-F}
use Rattle.il_base.specs.declared.sig.Sig.TheVariants as sig
use Rattle.il_base.specs.declared.sig.MethodSig.{MethodSig}
use Rattle.il_base.specs.declared.world_model.known.Known.{Known}
use Rattle.il_base.specs.declared.world_model.known.Known.TheVariants.{Good, Bad}
use Rattle.il_base.specs.declared.world_model.known.BadKind.TheVariants.{Unresolved}
use Rattle.il_base.specs.declared.world_model.expr.TypeExpr.{TypeExpr}
use Rattle.il_base.specs.declared.world_model.expr.TypeExpr.TheVariants as expr
use Rattle.il_base.specs.declared.world_model.members.MethodDefRow.{MethodDefRow}
use Rattle.il_base.specs.declared.world_model.record.AsmRec.{AsmRec}
use Rattle.il_base.specs.world_model.Worlds.{types_in, known_map, known_then, all_known, named_in, sig_layer, sig_expr}
use Rattle.il_base.specs.declared.core_table.shape.CoreMethod.{CoreMethod}
use Rattle.il_base.specs.declared.core_table.shape.CoreParams.{CoreParams}
use Rattle.il_base.specs.declared.core_table.shape.CoreParams.TheVariants.{Zero, One, Two, Three, Four}
use Rattle.il_base.specs.declared.core_table.shape.CoreSig.{CoreSig}
use Rattle.il_base.specs.declared.core_table.shape.CoreSig.TheVariants as core
use Rattle.il_base.specs.declared.core_table.shape.CoreType.{CoreType}
use Rattle.il_base.specs.declared.core_table.types.TheConstants.{TYPES}
use Rattle.il_base.specs.core_table.Members.{methods_of}
use Rattle.il_base.specs.core_table.Record.{core_record, record_with, sig_of, params_of, signature_of, method_row, method_rows, all_methods}
use Rattle.rules.specs.declared.link_rules.row_at.RowAt.{RowAt}
use Rattle.rules.specs.link_rules.Types.{at_row}
use Rattle.rules.specs.link_rules.Signatures.{definition_expr, named_type, names_at, method_type_of, method_type}
use Rattle.rules.specs.link_rules.Members.{methods_in}
use Rattle.rules.specs.type_rules.Slots.{type_of_row}
use Rattle.rules.specs.merge_rules.Moved.{moved_method_row}
use Rattle.rules.specs.merge_rules.Restricted.{put_rva}
use Rattle.rules.specs.change_rules.Change.{Rho}
use Rattle.rules.specs.change_rules.Moves.{move_expr, move_exprs}
use Rattle.base_laws.proofs.lemmas.change_laws.Exprs.{move_prim, move_array, move_mvar}
use Rattle.rules.specs.world_change_rules.Rows.{move_method_type, is_table_type}
use Rattle.rules.specs.merged_world_rules.Merge.{Merge, before, after, output, IsMerge}
use Rattle.rules.specs.merged_world_rules.Numbering.{number_at}
use Rattle.rules.specs.merged_world_rules.NewNumbers.{rho_of}
use Rattle.merge_laws.proofs.lemmas.merged_places.Ranks.{rank}
use Rattle.merge_laws.proofs.lemmas.merged_places.Rows.{place_has, place_past}
use Rattle.merge_laws.proofs.lemmas.merged_places.Kept.{keeps}
use Rattle.merge_laws.proofs.lemmas.merged_places.Worlds.{core_of, left_core, after_left, after_core, core_rec, core_at, before_methods}
use Rattle.merge_laws.proofs.lemmas.merged_places.CoreTables.{method_same}
use Rattle.merge_laws.proofs.lemmas.merged_places.Tables.{number_method, method_kind, method_left}
use Rattle.merge_laws.proofs.lemmas.merged_places.Situations.{place, situation, Input, Core, HasNone}
use Rattle.merge_laws.specs.merged_rows_move.Premises.{ReadsSignatures}
use Rattle.merge_laws.proofs.lemmas.merged_rows_move.RowsOf.{MethodStays}
use Rattle.merge_laws.proofs.lemmas.merged_rows_move.Core.{types_more}
use Rattle.merge_laws.proofs.lemmas.merged_rows_move.Bases.{Own, own_token, not_spec, named_own, defined, types_left}

-- ---- parts that move make a whole that moves

module _ (r : Rho) where
  all_moved : (ks : List (Known TypeExpr)) → all_known (map (known_map (move_expr r)) ks) ≡ known_map (move_exprs r) (all_known ks)
  all_moved [] = refl
  all_moved (Bad why ∷ ks) = refl
  all_moved (Good e ∷ ks) = ap (known_map (λ es. move_expr r e ∷ es)) (all_moved ks) ∙ by_rest (all_known ks)
    where
      by_rest : (k : Known (List TypeExpr)) → known_map (λ es. move_expr r e ∷ es) (known_map (move_exprs r) k) ≡ known_map (move_exprs r) (known_map (λ es. e ∷ es) k)
      by_rest (Good es) = refl
      by_rest (Bad why) = refl

  array_moved : (k : Known TypeExpr) → known_map (λ (e : TypeExpr). expr.Array e) (known_map (move_expr r) k) ≡ known_map (move_expr r) (known_map (λ (e : TypeExpr). expr.Array e) k)
  array_moved (Good e) = ap Good (sym (move_array r e))
  array_moved (Bad why) = refl

  made_by : (s : MethodSig) (ret : Known TypeExpr) (params : Known (List TypeExpr))
      → known_then (λ (t : TypeExpr). known_map (λ ts. method_type_of s t ts) (known_map (move_exprs r) params)) (known_map (move_expr r) ret)
      ≡ known_map (move_method_type r) (known_then (λ (t : TypeExpr). known_map (λ ts. method_type_of s t ts) params) ret)
  made_by s (Bad why) params = refl
  made_by s (Good t) (Bad why) = refl
  made_by s (Good t) (Good ts) = refl

-- ---- signatures of the core library

abbrev is_plain : CoreSig → Bool
is_plain (core.Prim code) = true
is_plain (core.Class token) = is_table_type token
is_plain (core.Value token) = is_table_type token
is_plain (core.Prims code) = true
is_plain (core.Classes token) = is_table_type token
is_plain (core.MVar n) = true

abbrev are_plain : CoreParams → Bool
are_plain Zero = true
are_plain (One a) = is_plain a
are_plain (Two a b) = is_plain a && is_plain b
are_plain (Three a b c) = is_plain a && is_plain b && is_plain c
are_plain (Four a b c d) = is_plain a && is_plain b && is_plain c && is_plain d

abbrev is_plain_method : CoreMethod → Bool
is_plain_method m = is_plain m.ret && are_plain m.params

abbrev is_plain_type : CoreType → Bool
is_plain_type t = list_all is_plain_method (methods_of t.members)

all_plain : list_all is_plain_type TYPES ≡ true
unfolding methods_of
all_plain = refl

-- a row with such a signature
record PlainRow (row : MethodDefRow) : Type 0 where
  of : CoreMethod
  signature : row.signature ≡ Good (signature_of of)
  plain : is_plain_method of ≡ true

in_methods : (ms : List CoreMethod) (rest : List MethodDefRow) → list_all is_plain_method ms ≡ true → ((k : ℕ) (row : MethodDefRow) → slice_get rest k ≡ Some row → PlainRow row)
    → (k : ℕ) (row : MethodDefRow) → slice_get (method_rows ms ++ rest) k ≡ Some row → PlainRow row
unfolding method_row
in_methods [] rest h more k row e = more k row e
in_methods (m ∷ ms) rest h more zero row e =
    let same : method_row m ≡ row = cc in
    record { of = m; signature = ap (λ (x : MethodDefRow). x.signature) (sym same); plain = (and_parts (is_plain_method m) (list_all is_plain_method ms) h).0 }
in_methods (m ∷ ms) rest h more (suc k) row e = in_methods ms rest (and_parts (is_plain_method m) (list_all is_plain_method ms) h).1 more k row e

in_types : (ts : List CoreType) → list_all is_plain_type ts ≡ true → (k : ℕ) (row : MethodDefRow) → slice_get (all_methods ts) k ≡ Some row → PlainRow row
unfolding all_methods
in_types [] h k row e = absurd (cc)
in_types (t ∷ ts) h k row e =
    let p = and_parts (is_plain_type t) (list_all is_plain_type ts) h in
    in_methods (methods_of t.members) (all_methods ts) p.0 (in_types ts p.1) k row e

core_plain : (k : ℕ) (row : MethodDefRow) → slice_get core_record.method_def k ≡ Some row → PlainRow row
unfolding core_record record_with
core_plain k row e = in_types TYPES all_plain k row e

-- ---- what such a signature names

module _ (recs : List AsmRec) (a : ℕ) (rec : AsmRec) where
  layer : (x : Sig-F Sig) (s : Sig) → roll-Sig x ≡ s → sig_expr (names_at recs a rec) s ≡ sig_layer (names_at recs a rec) (map-Sig Sig (Known TypeExpr) (sig_expr (names_at recs a rec)) x)
  unfolding sig_expr
  layer x s e = ap (sig_expr (names_at recs a rec)) (sym e) ∙ fold-roll-Sig (Known TypeExpr) (sig_layer (names_at recs a rec)) x

  prim_sig : (n : ℕ) → sig_expr (names_at recs a rec) (sig.Prim n) ≡ Good (expr.Prim n)
  prim_sig n = layer (Sig-F.Prim n) (sig.Prim n) (sig.rolls-Prim n)

  mvar_sig : (n : ℕ) → sig_expr (names_at recs a rec) (sig.MVar n) ≡ Good (expr.MVar n)
  mvar_sig n = layer (Sig-F.MVar n) (sig.MVar n) (sig.rolls-MVar n)

  array_sig : (s : Sig) → sig_expr (names_at recs a rec) (sig.Array s) ≡ known_map (λ (e : TypeExpr). expr.Array e) (sig_expr (names_at recs a rec) s)
  array_sig s = layer (Sig-F.Array s) (sig.Array s) (sig.rolls-Array s)

  named_sig : (value : Bool) (w : ℕ) (own : Own w) → own.row < types_in rec → sig_expr (names_at recs a rec) (sig.Named value w) ≡ Good (definition_expr recs (at_row a own.row))
  unfolding named_in
  named_sig value w own lt =
      layer (Sig-F.Named value w) (sig.Named value w) (sig.rolls-Named value w)
      ∙ ap (λ (b : Bool). if b then Bad Unresolved else named_type recs a rec w) (not_spec recs a rec w own lt) ∙ named_own recs a rec w own lt

module _ (m : Merge) (is : IsMerge m) where
  abbrev mv : TypeExpr → TypeExpr
  mv e = move_expr (rho_of m) e

  abbrev read_after : Sig → Known TypeExpr
  read_after s = sig_expr (names_at (after m) 1 (left_core m)) s

  module _ (a : ℕ) (last : suc a ≡ length (before m)) where
    abbrev read_before : Sig → Known TypeExpr
    read_before s = sig_expr (names_at (before m) a (core_of m)) s

    abbrev SigMoves : Sig → Type 0
    SigMoves s = sig_expr (names_at (after m) 1 (left_core m)) s ≡ known_map (move_expr (rho_of m)) (sig_expr (names_at (before m) a (core_of m)) s)

    prim_moves : (n : ℕ) → SigMoves (sig.Prim n)
    prim_moves n =
        prim_sig (after m) 1 (left_core m) n ∙ ap Good (sym (move_prim (rho_of m) n)) ∙ sym (ap (known_map (move_expr (rho_of m))) (prim_sig (before m) a (core_of m) n))

    mvar_moves : (n : ℕ) → SigMoves (sig.MVar n)
    mvar_moves n =
        mvar_sig (after m) 1 (left_core m) n ∙ ap Good (sym (move_mvar (rho_of m) n)) ∙ sym (ap (known_map (move_expr (rho_of m))) (mvar_sig (before m) a (core_of m) n))

    array_moves : (s : Sig) → SigMoves s → SigMoves (sig.Array s)
    array_moves s here =
        array_sig (after m) 1 (left_core m) s ∙ ap (known_map (λ (e : TypeExpr). expr.Array e)) here
        ∙ array_moved (rho_of m) (sig_expr (names_at (before m) a (core_of m)) s) ∙ sym (ap (known_map (move_expr (rho_of m))) (array_sig (before m) a (core_of m) s))

    named_moves : (value : Bool) (w : ℕ) → is_table_type w ≡ true → SigMoves (sig.Named value w)
    named_moves value w h =
        let own = own_token w h in
        let low = own.low in
        let left = types_left m is in
        let more = types_more m is in
        named_sig (after m) 1 (left_core m) value w own (omega (arith, low, left)) ∙ ap Good (defined m is a own.row last own.low)
        ∙ sym (ap (known_map (move_expr (rho_of m))) (named_sig (before m) a (core_of m) value w own (omega (arith, low, more))))

    plain_moves : (c : CoreSig) → is_plain c ≡ true → SigMoves (sig_of c)
    plain_moves (core.Prim code) h = prim_moves code
    plain_moves (core.Class token) h = named_moves false token h
    plain_moves (core.Value token) h = named_moves true token h
    plain_moves (core.Prims code) h = array_moves (sig.Prim code) (prim_moves code)
    plain_moves (core.Classes token) h = array_moves (sig.Named false token) (named_moves false token h)
    plain_moves (core.MVar n) h = mvar_moves n

    abbrev SigsMove : List Sig → Type 0
    SigsMove ss = map (sig_expr (names_at (after m) 1 (left_core m))) ss ≡ map (known_map (move_expr (rho_of m))) (map (sig_expr (names_at (before m) a (core_of m))) ss)

    none_move : SigsMove []
    none_move = refl

    one_more : (s : Sig) (ss : List Sig) → SigMoves s → SigsMove ss → SigsMove (s ∷ ss)
    one_more s ss here more = λ i. here i ∷ more i

    params_move : (ps : CoreParams) → are_plain ps ≡ true → SigsMove (params_of ps)
    unfolding params_of
    params_move Zero h = none_move
    params_move (One a) h = one_more (sig_of a) [] (plain_moves a h) none_move
    params_move (Two a b) h =
        let p = and_parts (is_plain a) (is_plain b) h in
        one_more (sig_of a) (sig_of b ∷ []) (plain_moves a p.0) (one_more (sig_of b) [] (plain_moves b p.1) none_move)
    params_move (Three a b c) h =
        let p = and_parts (is_plain a && is_plain b) (is_plain c) h in
        let q = and_parts (is_plain a) (is_plain b) p.0 in
        one_more (sig_of a) (sig_of b ∷ sig_of c ∷ []) (plain_moves a q.0) (one_more (sig_of b) (sig_of c ∷ []) (plain_moves b q.1) (one_more (sig_of c) [] (plain_moves c p.1) none_move))
    params_move (Four a b c d) h =
        let p = and_parts (is_plain a && is_plain b && is_plain c) (is_plain d) h in
        let q = and_parts (is_plain a && is_plain b) (is_plain c) p.0 in
        let r = and_parts (is_plain a) (is_plain b) q.0 in
        one_more (sig_of a) (sig_of b ∷ sig_of c ∷ sig_of d ∷ []) (plain_moves a r.0)
        (one_more (sig_of b) (sig_of c ∷ sig_of d ∷ []) (plain_moves b r.1) (one_more (sig_of c) (sig_of d ∷ []) (plain_moves c q.1) (one_more (sig_of d) [] (plain_moves d p.1) none_move)))

    whole_moves : (s : MethodSig) → SigMoves s.ret → SigsMove s.params
        → method_type (names_at (after m) 1 (left_core m)) s ≡ known_map (move_method_type (rho_of m)) (method_type (names_at (before m) a (core_of m)) s)
    unfolding method_type
    whole_moves s ret params =
        (λ i. known_then (λ (t : TypeExpr). known_map (λ ts. method_type_of s t ts) (all_known (params i))) (ret i))
        ∙ ap (λ (k : Known (List TypeExpr)). known_then (λ (t : TypeExpr). known_map (λ ts. method_type_of s t ts) k) (known_map (move_expr (rho_of m)) (sig_expr (names_at (before m) a (core_of m)) s.ret)))
        (all_moved (rho_of m) (map (sig_expr (names_at (before m) a (core_of m))) s.params))
        ∙ made_by (rho_of m) s (sig_expr (names_at (before m) a (core_of m)) s.ret) (all_known (map (sig_expr (names_at (before m) a (core_of m))) s.params))

    method_moves : (c : CoreMethod) → is_plain_method c ≡ true
        → method_type (names_at (after m) 1 (left_core m)) (signature_of c) ≡ known_map (move_method_type (rho_of m)) (method_type (names_at (before m) a (core_of m)) (signature_of c))
    unfolding signature_of
    method_moves c h =
        let p = and_parts (is_plain c.ret) (are_plain c.params) h in
        whole_moves (signature_of c) (plain_moves c.ret p.0) (params_move c.params p.1)

  -- ---- of a method's row

  abbrev meth : RowAt → RowAt
  meth at = place m methods_in number_method (method_kind m is) at

  row_type : (recs : List AsmRec) (at : RowAt) (rec : AsmRec) (row : MethodDefRow) → slice_get recs at.asm ≡ Some rec → slice_get rec.method_def at.row ≡ Some row
      → type_of_row recs at ≡ Some (known_then (method_type (names_at recs at.asm rec)) row.signature)
  row_type recs at rec row e f =
      ap (option_and_then (λ (rec : AsmRec). option_map (λ (x : MethodDefRow). known_then (method_type (names_at recs at.asm rec)) x.signature) (slice_get rec.method_def at.row))) e
      ∙ ap (option_map (λ (x : MethodDefRow). known_then (method_type (names_at recs at.asm rec)) x.signature)) f

  input_signature : ReadsSignatures m → (at : RowAt) → Input m methods_in number_method (method_kind m is) at → type_of_row (after m) (meth at) ≡ option_map (known_map (move_method_type (rho_of m))) (type_of_row (before m) at)
  input_signature reads at h =
      let row = place_has h.there.rec.method_def at.row h.there.below in
      let n : ℕ = rank (keeps methods_in (before m) number_method m.kept) (number_at methods_in (before m) at) in
      let left = method_left m is at h.there.rec row.0 h.there h.earlier h.keeps_it h.there.here row.1 in
      ap (type_of_row (after m)) h.moved
      ∙ row_type (after m) (at_row 0 (rank (keeps methods_in (before m) number_method m.kept) (number_at methods_in (before m) at))) m.left (put_rva left.0 (moved_method_row (output m) at h.there.rec row.0)) (after_left m) left.1
      ∙ ap Some (reads at h.there.rec row.0 h.there.here row.1 h.earlier h.keeps_it)
      ∙ sym (ap (option_map (known_map (move_method_type (rho_of m)))) (row_type (before m) at h.there.rec row.0 h.there.here row.1))

  core_signature : (at : RowAt) → Core m methods_in number_method (method_kind m is) at → type_of_row (after m) (meth at) ≡ option_map (known_map (move_method_type (rho_of m))) (type_of_row (before m) at)
  core_signature at h =
      let row = place_has h.there.rec.method_def at.row h.there.below in
      let e : slice_get (core_of m).method_def at.row ≡ Some row.0 = ap (λ (rec : AsmRec). slice_get rec.method_def at.row) (sym (core_rec m at h.there.rec h.there.here h.last)) ∙ row.1 in
      let p = core_plain at.row row.0 (ap (λ (ms : List MethodDefRow). slice_get ms at.row) (sym (before_methods m)) ∙ e) in
      ap (type_of_row (after m)) h.moved ∙ row_type (after m) (at_row 1 h.row) (left_core m) row.0 (after_core m) (method_same m at.row h.row h.goes ∙ e)
      ∙ ap (λ (s : Known MethodSig). Some (known_then (method_type (names_at (after m) 1 (left_core m))) s)) p.signature
      ∙ ap Some (method_moves at.asm h.last p.of p.plain)
      ∙ sym (ap (λ (s : Known MethodSig). Some (known_map (move_method_type (rho_of m)) (known_then (method_type (names_at (before m) at.asm (core_of m))) s))) p.signature)
      ∙ sym (ap (option_map (known_map (move_method_type (rho_of m)))) (row_type (before m) at (core_of m) row.0 (core_at m at h.last) e))

  gone_by : (recs : List AsmRec) (at : RowAt) → HasNone methods_in recs at → (o : Option AsmRec) → slice_get recs at.asm ≡ o
      → option_and_then (λ (rec : AsmRec). option_map (λ (x : MethodDefRow). known_then (method_type (names_at recs at.asm rec)) x.signature) (slice_get rec.method_def at.row)) o ≡ None
  gone_by recs at none None e = refl
  gone_by recs at none (Some rec) e = ap (option_map (λ (x : MethodDefRow). known_then (method_type (names_at recs at.asm rec)) x.signature)) (place_past rec.method_def at.row (none rec e))

  pub signature_moved : ReadsSignatures m → (at : RowAt) → MethodStays m is at → type_of_row (after m) (meth at) ≡ option_map (known_map (move_method_type (rho_of m))) (type_of_row (before m) at)
  signature_moved reads at there = elim (situation m methods_in number_method (method_kind m is) at there) [
    | inl h ↦ input_signature reads at h
    | inr other ↦ elim other [
      | inl h ↦ core_signature at h
      | inr h ↦ gone_by (after m) (meth at) h.none_after (slice_get (after m) (meth at).asm) refl
          ∙ sym (ap (option_map (known_map (move_method_type (rho_of m)))) (gone_by (before m) at h.none_before (slice_get (before m) at.asm) refl))
    ]
  ]

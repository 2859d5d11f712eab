-- Tokens of methods that a merge writes name the moved methods, a MethodSpec token with its moved arguments.
use Rattle.std.proofs.Common.{◌≡◌, ◌<◌, ℕ, zero, suc, Bool, true, false, nat_eq, List, [], ◌∷◌, length, map, Option, Some, None, inl, refl, sym, ap, subst, ◌∙◌, ◌&&◌, arith}
use Rattle.std.specs.Prelude.{Contains, slice_get, ◌==◌, if◌then◌else◌}
use Rattle.std.specs.List.{flat_map}
use Rattle.std.specs.Option.{option_map, option_and_then}
use Rattle.std.specs.Cmp.{first_so, second_so}
use Rattle.std.proofs.lemmas.Bool.{eq-eqb, eqb-true, and_from}
use Rattle.std.proofs.lemmas.List.{length-map}
use Rattle.il_base.specs.declared.ids.TypeId.{TypeId}
use Rattle.il_base.specs.declared.sig.Sig.{Sig}
use Rattle.il_base.specs.declared.table.TheConstants.{METHOD_DEF, MEMBER_REF, METHOD_SPEC}
use Rattle.il_base.specs.declared.world_model.known.Known.{Known}
use Rattle.il_base.specs.declared.world_model.known.Known.TheVariants.{Good, Bad}
use Rattle.il_base.specs.declared.world_model.known.BadKind.TheVariants.{Unresolved}
use Rattle.il_base.specs.declared.world_model.expr.TypeExpr.{TypeExpr}
use Rattle.il_base.specs.declared.world_model.expr.MethodUse.{MethodUse}
use Rattle.il_base.specs.declared.world_model.members.MethodSpecRow.{MethodSpecRow}
use Rattle.il_base.specs.declared.world_model.record.AsmRec.{AsmRec}
use Rattle.il_base.specs.world_model.Core.{same_name}
use Rattle.il_base.specs.world_model.Exprs.{same_expr}
use Rattle.il_base.specs.world_model.Records.{table_sizes}
use Rattle.il_base.specs.world_model.Tokens.{table_of, row_index, index_in}
use Rattle.il_base.specs.world_model.Worlds.{known_map, known_then, all_known, row_below, sig_expr}
use Rattle.il_base.proofs.lemmas.world_model.SameExpr.{same_only, same_self}
use Rattle.rules.specs.declared.link_rules.row_at.RowAt.{RowAt}
use Rattle.rules.specs.link_rules.Signatures.{names_at}
use Rattle.rules.specs.link_rules.Members.{methods_in, instantiated, arguments_of, method_spec_use, ref_use_at, def_use_at, generic_method}
use Rattle.rules.specs.link_rules.Cycles.{listed}
use Rattle.rules.specs.mark_rules.Naming.{spec_use_at, method_named}
use Rattle.rules.specs.merge_rules.Keys.{TypeKey, named, spec, same_type, MethodKey, own_method, found_method, absent_method, same_method, same_method_sig, InstanceKey, same_instance, same_sigs, good, method_key_of, method_key, instance_by, instance_key, world_sig, world_sigs}
use Rattle.rules.specs.merge_rules.Order.{Met, met_method, met_instance, met_callee}
use Rattle.rules.specs.merge_rules.Refs.{types_of_sig, types_of_sigs, types_of_method, types_of_met, instances_of_met, method_specs, method_spec_rows, row_token, method_token, instance_token, new_sig}
use Rattle.rules.specs.merge_rules.Moved.{token_or_none, moved_callee}
use Rattle.rules.specs.merge_rules.Restricted.{output_of}
use Rattle.rules.specs.change_rules.Change.{Keep}
use Rattle.rules.specs.change_rules.Moves.{move_exprs, move_use}
use Rattle.base_laws.proofs.lemmas.type_laws.Within.{In, in_front, in_behind, flat_in}
use Rattle.token_keys.proofs.lemmas.key_codes.SameSig.{sig_decides, sigs_decide, method_sig_decides}
use Rattle.rules.specs.merged_world_rules.Merge.{Merge, IsMerge, before, after, output}
use Rattle.rules.specs.merged_world_rules.NewNumbers.{rho_of}
use Rattle.merge_laws.proofs.lemmas.merged_places.Worlds.{left_is}
use Rattle.merge_laws.proofs.lemmas.merged_references.Lists.{Placed, has_place, contains, contained}
use Rattle.merge_laws.proofs.lemmas.merged_references.Scopes.{names_decide}
use Rattle.merge_laws.proofs.lemmas.merged_references.Tokens.{token_table, token_index}
use Rattle.merge_laws.specs.merged_signatures.Laws.{AreThere}
use Rattle.merge_laws.proofs.lemmas.merged_signatures.Merges.{sig_moves}
use Rattle.merge_laws.proofs.lemmas.merged_signatures.Reading.{good_map, good_then}
use Rattle.trim_laws.specs.marked_merge_rules.Reads.{AreMet}
use Rattle.trim_laws.specs.merged_uses.Laws.{Reads}
use Rattle.trim_laws.proofs.lemmas.merged_uses.Named.{KeyMet, key_reads}

-- ---- equality of keys

type_only : (x y : TypeKey) → same_type x y ≡ true → x ≡ y
type_only (named t) (named u) h = λ i. named (record { 0 = eqb-true t.0 u.0 h i })
type_only (named t) (spec s) h = cc
type_only (spec s) (named t) h = cc
type_only (spec s) (spec r) h = ap spec ((sig_decides s r).0 h)

type_self : (x : TypeKey) → same_type x x ≡ true
type_self (named t) = eq-eqb t.0 t.0 refl
type_self (spec s) = (sig_decides s s).1 refl

method_only : (x y : MethodKey) → same_method x y ≡ true → x ≡ y
method_only (own_method m) (own_method n) h = λ i. own_method (record { 0 = eqb-true m.0 n.0 h i })
method_only (own_method m) (found_method n f) h = cc
method_only (own_method m) (absent_method q y r) h = cc
method_only (found_method m e) (own_method n) h = cc
method_only (found_method m e) (found_method n f) h =
    let a : Bool = nat_eq m.0 n.0 in
    let b : Bool = same_expr e f in
    λ i. found_method (record { 0 = eqb-true m.0 n.0 (first_so a b h) i }) (same_only e f (second_so a b h) i)
method_only (found_method m e) (absent_method q y r) h = cc
method_only (absent_method p x s) (own_method n) h = cc
method_only (absent_method p x s) (found_method n f) h = cc
method_only (absent_method p x s) (absent_method q y r) h =
    let a : Bool = same_type p q in
    let b : Bool = same_name x y in
    let c : Bool = same_method_sig s r in
    let ab : (a && b) ≡ true = first_so (a && b) c h in
    λ i. absent_method (type_only p q (first_so a b ab) i) ((names_decide x y).0 (second_so a b ab) i) ((method_sig_decides s r).0 (second_so (a && b) c h) i)

method_self : (x : MethodKey) → same_method x x ≡ true
method_self (own_method m) = eq-eqb m.0 m.0 refl
method_self (found_method m e) = and_from (nat_eq m.0 m.0) (same_expr e e) (eq-eqb m.0 m.0 refl) (same_self e)
method_self (absent_method p x s) =
    and_from (same_type p p && same_name x x) (same_method_sig s s) (and_from (same_type p p) (same_name x x) (type_self p) ((names_decide x x).1 refl)) ((method_sig_decides s s).1 refl)

instance_only : (x y : InstanceKey) → same_instance x y ≡ true → x ≡ y
instance_only x y h =
    let a : Bool = same_method x.method y.method in
    let b : Bool = same_sigs x.args y.args in
    λ i. record { method = method_only x.method y.method (first_so a b h) i; args = (sigs_decide x.args y.args).0 (second_so a b h) i }

instance_self : (x : InstanceKey) → same_instance x x ≡ true
instance_self x = and_from (same_method x.method x.method) (same_sigs x.args x.args) (method_self x.method) ((sigs_decide x.args x.args).1 refl)

map_at : {A B : Type 0} (f : A → B) (xs : List A) (k : ℕ) (x : A) → slice_get xs k ≡ Some x → slice_get (map f xs) k ≡ Some (f x)
map_at f [] k x e = absurd (cc)
map_at f (y ∷ xs) zero x e = let same : y ≡ x = cc in ap (λ z. Some (f z)) same
map_at f (y ∷ xs) (suc k) x e = map_at f xs k x e

-- ---- a token that names a method without arguments

module _ (recs : List AsmRec) (a : ℕ) (rec : AsmRec) where
  pub spec_bad : (token : ℕ) → (table_of token == METHOD_SPEC) ≡ true → generic_method recs a rec token ≡ Bad Unresolved
  unfolding generic_method
  spec_bad token e =
      ap (λ (n : ℕ). if n == METHOD_DEF then def_use_at recs a rec (row_below (methods_in rec) (index_in METHOD_DEF token)) else ref_use_at recs a rec (option_and_then (slice_get rec.member_ref) (if n == MEMBER_REF then row_index token else None)))
      (eqb-true (table_of token) METHOD_SPEC e)

  pub none_bad : generic_method recs a rec 0 ≡ Bad Unresolved
  unfolding generic_method
  none_bad = refl

  named_by : (token : ℕ) (u : MethodUse) (b : Bool) → (table_of token == METHOD_SPEC) ≡ b → generic_method recs a rec token ≡ Good u
      → (if b then spec_use_at recs a rec (option_and_then (slice_get rec.method_spec) (index_in METHOD_SPEC token)) else generic_method recs a rec token) ≡ Good u
  named_by token u true e h = let bad : Bad Unresolved ≡ Good u = sym (spec_bad token e) ∙ h in absurd (cc)
  named_by token u false e h = h

  pub generic_good : (token : ℕ) (u : MethodUse) → generic_method recs a rec token ≡ Good u → method_named recs a rec token ≡ Good u
  unfolding method_named
  generic_good token u h = named_by token u (table_of token == METHOD_SPEC) refl h

  pub plain_named : (token : ℕ) → (table_of token == METHOD_SPEC) ≡ false → method_named recs a rec token ≡ generic_method recs a rec token
  unfolding method_named
  plain_named token e = ap (λ (b : Bool). if b then spec_use_at recs a rec (option_and_then (slice_get rec.method_spec) (index_in METHOD_SPEC token)) else generic_method recs a rec token) e

  spec_named : (token : ℕ) → (table_of token == METHOD_SPEC) ≡ true → method_named recs a rec token ≡ spec_use_at recs a rec (option_and_then (slice_get rec.method_spec) (index_in METHOD_SPEC token))
  unfolding method_named
  spec_named token e = ap (λ (b : Bool). if b then spec_use_at recs a rec (option_and_then (slice_get rec.method_spec) (index_in METHOD_SPEC token)) else generic_method recs a rec token) e

  pub key_is : (token : ℕ) (u : MethodUse) → method_named recs a rec token ≡ Good u → method_key recs a rec token ≡ Some (method_key_of recs (table_of token == METHOD_DEF) u)
  unfolding method_key
  key_is token u h = ap (λ (n : Known MethodUse). option_map (method_key_of recs (table_of token == METHOD_DEF)) (good n)) h

module _ (m : Merge) (k : Keep) (kept : RowAt → Bool) (r : Reads m k kept) (a : ℕ) (rec : AsmRec) (there : slice_get (before m) a ≡ Some rec) (input : suc a < length (before m)) where
  abbrev is : IsMerge m
  is = r.merge

  -- ---- MethodDef and MemberRef tokens

  pub callee_is : (token : ℕ) (key : MethodKey) → (table_of token == METHOD_SPEC) ≡ false → method_key (before m) a rec token ≡ Some key → moved_callee (output m) a rec token ≡ method_token (output m) key
  unfolding moved_callee output_of
  callee_is token key e f =
      ap (λ (b : Bool). if b then token_or_none (instance_token (output m)) (instance_key (before m) a rec token) else token_or_none (method_token (output m)) (method_key (before m) a rec token)) e
      ∙ ap (token_or_none (method_token (output m))) f

  met_one : (token : ℕ) (key : MethodKey) → (table_of token == METHOD_SPEC) ≡ false → method_key (before m) a rec token ≡ Some key → Contains (met_callee (before m) a rec token) (met_method key)
  met_one token key e f =
      subst (λ (b : Bool). Contains (if b then map met_instance (listed (instance_key (before m) a rec token)) else map met_method (listed (method_key (before m) a rec token))) (met_method key)) (sym e)
      (subst (λ (o : Option MethodKey). Contains (map met_method (listed o)) (met_method key)) (sym f) (0, omega arith, refl))

  key_met : (key : MethodKey) → Contains (output m).mets (met_method key) → KeyMet m key
  key_met key c = record { x = met_method key; met = contained (output m).mets (met_method key) c; types = λ t i. i; specs = λ s i. i; members = refl; items = refl }

  pub plain_reads : (token : ℕ) (u : MethodUse) → (table_of token == METHOD_SPEC) ≡ false → AreMet m (met_callee (before m) a rec token) → generic_method (before m) a rec token ≡ Good u
      → generic_method (after m) 0 m.left (moved_callee (output m) a rec token) ≡ Good (move_use (rho_of m) u)
  plain_reads token u e met h =
      let key : MethodKey = method_key_of (before m) (table_of token == METHOD_DEF) u in
      let f = key_is (before m) a rec token u (generic_good (before m) a rec token u h) in
      ap (generic_method (after m) 0 m.left) (callee_is token key e f)
      ∙ key_reads m k kept r a rec there input token u h (key_met key (met (met_method key) (met_one token key e f)))

  -- ---- arguments

  module _ (x : Met) (met : In x (output m).mets) where
    sig_there : (s : Sig) (e : TypeExpr) → sig_expr (names_at (before m) a rec) s ≡ Good e → ((t : TypeId) → In t (types_of_sig (world_sig (before m) a rec s)) → In t (types_of_met (before m) x)) → AreThere m (types_of_sig (world_sig (before m) a rec s))
    sig_there s e h types t c =
        let home = r.homes a rec s e there input h t c in
        r.there x t home.0 (contains (output m).mets x met) (contains (types_of_met (before m) x) t (types t (contained (types_of_sig (world_sig (before m) a rec s)) t c))) home.1

    args_read : (ss : List Sig) (es : List TypeExpr) → all_known (map (sig_expr (names_at (before m) a rec)) ss) ≡ Good es
        → ((t : TypeId) → In t (flat_map types_of_sig (map (world_sig (before m) a rec) ss)) → In t (types_of_met (before m) x))
        → all_known (map (sig_expr (names_at (after m) 0 m.left)) (map (new_sig (output m)) (map (world_sig (before m) a rec) ss))) ≡ Good (move_exprs (rho_of m) es)
    args_read [] es h types = let same : [] ≡ es = cc in ap (λ (ys : List TypeExpr). Good (move_exprs (rho_of m) ys)) same
    args_read (s ∷ ss) es h types =
        let g = good_then (λ (y : TypeExpr). known_map (λ ys. y ∷ ys) (all_known (map (sig_expr (names_at (before m) a rec)) ss))) (sig_expr (names_at (before m) a rec) s) es h in
        let i = good_map (λ (ys : List TypeExpr). g.from ∷ ys) (all_known (map (sig_expr (names_at (before m) a rec)) ss)) es g.gives in
        let w : Sig = world_sig (before m) a rec s in
        let rest : List TypeId = flat_map types_of_sig (map (world_sig (before m) a rec) ss) in
        let here = sig_moves m is r.rows a rec there input s g.from g.is (sig_there s g.from g.is (λ t j. types t (in_front t (types_of_sig w) rest j))) in
        let more = args_read ss i.from i.is (λ t j. types t (in_behind t (types_of_sig w) rest j)) in
        (λ j. known_then (λ (y : TypeExpr). known_map (λ ys. y ∷ ys) (more j)) (here j)) ∙ ap (λ (ys : List TypeExpr). Good (move_exprs (rho_of m) ys)) i.gives

  -- ---- MethodSpec rows of the output

  module _ (key : InstanceKey) (met : In (met_instance key) (output m).mets) where
    place : Placed (same_instance key) (method_specs (output m).mets)
    unfolding method_specs
    place = has_place same_instance (flat_map instances_of_met (output m).mets) key (instance_self key) (flat_in instances_of_met key (met_instance key) (output m).mets met (inl refl))

    abbrev row_of : InstanceKey → MethodSpecRow
    row_of i = record { method = method_token (output m) i.method; instantiation = Good (map (new_sig (output m)) i.args) }

    specs_are : m.left.method_spec ≡ map (λ (i : InstanceKey). record { method = method_token (output m) i.method; instantiation = Good (map (new_sig (output m)) i.args) }) (method_specs (output m).mets)
    unfolding method_spec_rows
    specs_are = ap (λ (x : AsmRec). x.method_spec) (left_is m is).is

    few : suc place.index < 16777216
    unfolding table_sizes
    few =
        let most : length m.left.method_spec < 16777216 = is.few 0x2b in
        let n : length m.left.method_spec ≡ length (method_specs (output m).mets) = ap length specs_are ∙ length-map (method_specs (output m).mets) _ in
        let lt = place.below in
        omega (arith, most, n, lt)

    row_is : slice_get m.left.method_spec place.index ≡ Some (row_of key)
    row_is =
        ap (λ (rs : List MethodSpecRow). slice_get rs place.index) specs_are
        ∙ map_at (λ (i : InstanceKey). record { method = method_token (output m) i.method; instantiation = Good (map (new_sig (output m)) i.args) }) (method_specs (output m).mets) place.index place.item place.there
        ∙ ap (λ (i : InstanceKey). Some (row_of i)) (sym (instance_only key place.item place.passes))

    token_is : instance_token (output m) key ≡ row_token METHOD_SPEC (Some place.index)
    unfolding instance_token
    token_is = ap (row_token METHOD_SPEC) place.is

    spec_is : method_named (after m) 0 m.left (instance_token (output m) key) ≡ method_spec_use (after m) 0 m.left (row_of key)
    unfolding method_named
    spec_is =
        ap (method_named (after m) 0 m.left) token_is
        ∙ ap (λ (n : ℕ). if n == METHOD_SPEC then spec_use_at (after m) 0 m.left (option_and_then (slice_get m.left.method_spec) (index_in METHOD_SPEC (row_token METHOD_SPEC (Some place.index)))) else generic_method (after m) 0 m.left (row_token METHOD_SPEC (Some place.index)))
        (token_table METHOD_SPEC place.index (omega arith) few)
        ∙ ap (λ (o : Option ℕ). spec_use_at (after m) 0 m.left (option_and_then (slice_get m.left.method_spec) o)) (token_index METHOD_SPEC place.index (omega arith) few)
        ∙ ap (spec_use_at (after m) 0 m.left) row_is

  -- ---- MethodSpec tokens

  instance_is : (token : ℕ) (row : MethodSpecRow) (key : MethodKey) (ss : List Sig) → option_and_then (slice_get rec.method_spec) (index_in METHOD_SPEC token) ≡ Some row → method_key (before m) a rec row.method ≡ Some key → row.instantiation ≡ Good ss
      → instance_key (before m) a rec token ≡ Some (record { method = key; args = world_sigs (before m) a rec ss })
  unfolding instance_key
  instance_is token row key ss e f g =
      ap (option_and_then (instance_by (before m) a rec)) e
      ∙ ap (option_and_then (λ (x : MethodKey). option_map (λ (args : List Sig). record { method = x; args = world_sigs (before m) a rec args }) (good row.instantiation))) f
      ∙ ap (λ (x : Known (List Sig)). option_map (λ (args : List Sig). record { method = key; args = world_sigs (before m) a rec args }) (good x)) g

  spec_callee : (token : ℕ) (key : InstanceKey) → (table_of token == METHOD_SPEC) ≡ true → instance_key (before m) a rec token ≡ Some key → moved_callee (output m) a rec token ≡ instance_token (output m) key
  unfolding moved_callee output_of
  spec_callee token key e f =
      ap (λ (b : Bool). if b then token_or_none (instance_token (output m)) (instance_key (before m) a rec token) else token_or_none (method_token (output m)) (method_key (before m) a rec token)) e
      ∙ ap (token_or_none (instance_token (output m))) f

  met_spec : (token : ℕ) (key : InstanceKey) → (table_of token == METHOD_SPEC) ≡ true → instance_key (before m) a rec token ≡ Some key → Contains (met_callee (before m) a rec token) (met_instance key)
  met_spec token key e f =
      subst (λ (b : Bool). Contains (if b then map met_instance (listed (instance_key (before m) a rec token)) else map met_method (listed (method_key (before m) a rec token))) (met_instance key)) (sym e)
      (subst (λ (o : Option InstanceKey). Contains (map met_instance (listed o)) (met_instance key)) (sym f) (0, omega arith, refl))

  uses_again : (row : MethodSpecRow) (u : MethodUse) (args : List Sig) (es : List TypeExpr) → generic_method (after m) 0 m.left row.method ≡ Good (move_use (rho_of m) u) → row.instantiation ≡ Good args → all_known (map (sig_expr (names_at (after m) 0 m.left)) args) ≡ Good es
      → method_spec_use (after m) 0 m.left row ≡ Good (instantiated (move_use (rho_of m) u) es)
  unfolding method_spec_use
  uses_again row u args es e f g =
      ap (known_then (λ (x : MethodUse). known_map (instantiated x) (known_then (arguments_of (names_at (after m) 0 m.left)) row.instantiation))) e
      ∙ ap (λ (x : Known (List Sig)). known_map (instantiated (move_use (rho_of m) u)) (known_then (arguments_of (names_at (after m) 0 m.left)) x)) f
      ∙ ap (known_map (instantiated (move_use (rho_of m) u))) g

  row_reads : (token : ℕ) (row : MethodSpecRow) (u : MethodUse) → (table_of token == METHOD_SPEC) ≡ true → AreMet m (met_callee (before m) a rec token) → option_and_then (slice_get rec.method_spec) (index_in METHOD_SPEC token) ≡ Some row
      → method_spec_use (before m) a rec row ≡ Good u → method_named (after m) 0 m.left (moved_callee (output m) a rec token) ≡ Good (move_use (rho_of m) u)
  unfolding method_spec_use
  row_reads token row u e met at h =
      let g = good_then (λ (x : MethodUse). known_map (instantiated x) (known_then (arguments_of (names_at (before m) a rec)) row.instantiation)) (generic_method (before m) a rec row.method) u h in
      let i = good_map (instantiated g.from) (known_then (arguments_of (names_at (before m) a rec)) row.instantiation) u g.gives in
      let s = good_then (arguments_of (names_at (before m) a rec)) row.instantiation i.from i.is in
      let key : MethodKey = method_key_of (before m) (table_of row.method == METHOD_DEF) g.from in
      let inst : InstanceKey = record { method = key; args = world_sigs (before m) a rec s.from } in
      let f = instance_is token row key s.from at (key_is (before m) a rec row.method g.from (generic_good (before m) a rec row.method g.from g.is)) s.is in
      let c = contained (output m).mets (met_instance inst) (met (met_instance inst) (met_spec token inst e f)) in
      let inner = key_reads m k kept r a rec there input row.method g.from g.is
      (record { x = met_instance inst; met = c; types = λ t j. in_front t (types_of_method (before m) key) (types_of_sigs inst.args) j; specs = λ x j. j; members = refl; items = refl }) in
      let args = args_read (met_instance inst) c s.from i.from s.gives (λ t j. in_behind t (types_of_method (before m) key) (types_of_sigs inst.args) j) in
      ap (method_named (after m) 0 m.left) (spec_callee token inst e f) ∙ spec_is inst c
      ∙ uses_again (record { method = method_token (output m) key; instantiation = Good (map (new_sig (output m)) inst.args) }) g.from (map (new_sig (output m)) inst.args) (move_exprs (rho_of m) i.from) inner refl args
      ∙ ap (λ (v : MethodUse). Good (move_use (rho_of m) v)) i.gives

  spec_reads : (token : ℕ) (u : MethodUse) → (table_of token == METHOD_SPEC) ≡ true → AreMet m (met_callee (before m) a rec token) → (o : Option MethodSpecRow) → option_and_then (slice_get rec.method_spec) (index_in METHOD_SPEC token) ≡ o
      → spec_use_at (before m) a rec o ≡ Good u → method_named (after m) 0 m.left (moved_callee (output m) a rec token) ≡ Good (move_use (rho_of m) u)
  spec_reads token u e met None at h = absurd (cc)
  spec_reads token u e met (Some row) at h = row_reads token row u e met at h

  -- ---- any

  by_table : (token : ℕ) (u : MethodUse) (b : Bool) → (table_of token == METHOD_SPEC) ≡ b → AreMet m (met_callee (before m) a rec token) → method_named (before m) a rec token ≡ Good u
      → method_named (after m) 0 m.left (moved_callee (output m) a rec token) ≡ Good (move_use (rho_of m) u)
  by_table token u true e met h = spec_reads token u e met (option_and_then (slice_get rec.method_spec) (index_in METHOD_SPEC token)) refl (sym (spec_named (before m) a rec token e) ∙ h)
  by_table token u false e met h =
      generic_good (after m) 0 m.left (moved_callee (output m) a rec token) (move_use (rho_of m) u) (plain_reads token u e met (sym (plain_named (before m) a rec token e) ∙ h))

  pub callee_reads : (token : ℕ) (u : MethodUse) → AreMet m (met_callee (before m) a rec token) → method_named (before m) a rec token ≡ Good u
      → method_named (after m) 0 m.left (moved_callee (output m) a rec token) ≡ Good (move_use (rho_of m) u)
  callee_reads token u met h = by_table token u (table_of token == METHOD_SPEC) refl met h

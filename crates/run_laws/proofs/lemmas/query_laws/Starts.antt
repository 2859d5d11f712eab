-- The initializer of a type whose initializer an access can begin moves with it, and is kept (II.10.5.3).
use Rattle.std.proofs.Common.{◌≡◌, ℕ, Bool, true, false, List, [], ◌∷◌, map, Option, Some, None, refl, sym, ap, subst, ◌∙◌}
use Rattle.std.specs.Prelude.{IsTrue, codes, slice_get, ◌&&◌, ◌||◌, ◌==◌, not, if◌then◌else◌}
use Rattle.std.specs.List.{list_any, flat_map}
use Rattle.std.specs.Option.{option_map, option_and_then}
use Rattle.std.specs.Cmp.{first_so}
use Rattle.std.proofs.lemmas.List.{append-nil}
use Rattle.il_base.specs.declared.world_model.known.Known.{Known}
use Rattle.il_base.specs.declared.world_model.known.Known.TheVariants.{Good, Bad}
use Rattle.il_base.specs.declared.world_model.expr.TypeExpr.{TypeExpr, fold-roll-TypeExpr, ind-TypeExpr, roll-TypeExpr}
use Rattle.il_base.specs.declared.world_model.expr.TypeExpr.TheFolds.{map-TypeExpr}
use Rattle.il_base.specs.declared.world_model.expr.TypeExpr.TheOpen.{TypeExpr-F}
use Rattle.il_base.specs.declared.world_model.types.TypeDefRow.{TypeDefRow}
use Rattle.il_base.specs.declared.world_model.members.MethodDefRow.{MethodDefRow}
use Rattle.il_base.specs.declared.world_model.record.AsmRec.{AsmRec}
use Rattle.il_base.specs.world_model.Core.{same_name}
use Rattle.il_base.specs.world_model.Worlds.{known_then, known_map}
use Rattle.rules.specs.declared.link_rules.row_at.RowAt.{RowAt}
use Rattle.rules.specs.declared.link_rules.member_type.MethodType.{MethodType}
use Rattle.rules.specs.link_rules.Types.{at_row}
use Rattle.rules.specs.link_rules.Signatures.{names_at, method_type}
use Rattle.rules.specs.link_rules.Cycles.{listed}
use Rattle.rules.specs.type_rules.Rows.{methods_of_type, run_places}
use Rattle.rules.specs.type_rules.Slots.{is_static, method_row_at, type_of_row}
use Rattle.rules.specs.type_rules.Initializers.{void_layer, is_void, are_none, takes_and_gives_nothing, is_initializer, initializer_in, initializer}
use Rattle.rules.specs.link_rules.Members.{type_home}
use Rattle.rules.specs.type_rules.Dispatch.{method_id}
use Rattle.rules.specs.view_rules.Answers.{starts_query}
use Rattle.rules.specs.change_rules.Change.{Rho, Change}
use Rattle.rules.specs.change_rules.Moves.{move_expr, move_exprs}
use Rattle.base_laws.proofs.lemmas.change_laws.Exprs.{With, plain_parts, moved_in, move_rolled}
use Rattle.rules.specs.world_change_rules.Places.{Places, type_numbered, type_number, method_number, keeps_type_row, keeps_method_row}
use Rattle.rules.specs.world_change_rules.Rows.{RowsMove, move_method_type}
use Rattle.rules.specs.world_change_rules.Kept.{KeepsRows}
use Rattle.il_base.specs.world_model.Worlds.{types_in}
use Rattle.run_laws.proofs.lemmas.query_laws.Ids.{has_number}
use Rattle.run_laws.proofs.lemmas.query_laws.Runs.{first_in_run, first_moved}
use Rattle.run_laws.specs.query_laws.Laws.{first_at}

-- whether a method is an initializer, by its row and its signature
abbrev gives_nothing : Option (Known MethodType) → Bool
gives_nothing None = false
gives_nothing (Some m) = takes_and_gives_nothing m

abbrev named_so : MethodDefRow → Bool
named_so m = same_name m.name (codes ".cctor") && is_static m

abbrev pub starts_at : List AsmRec → RowAt → Bool
starts_at recs at = list_any named_so (listed (method_row_at recs at)) && gives_nothing (type_of_row recs at)

or_none : (b : Bool) → (b || false) ≡ b
or_none true = refl
or_none false = refl

-- ---- the first of a type's methods

module _ (recs : List AsmRec) (at : RowAt) where
  is_so : (rec : AsmRec) → slice_get recs at.asm ≡ Some rec → (n : ℕ) (m : MethodDefRow) → slice_get rec.method_def n ≡ Some m → starts_at recs (at_row at.asm n) ≡ is_initializer recs at.asm rec m
  is_so rec s n m e =
      ap (λ (o : Option AsmRec). list_any named_so (listed (option_and_then (λ (r : AsmRec). slice_get r.method_def n) o))
      && gives_nothing (option_and_then (λ (r : AsmRec). option_map (λ (x : MethodDefRow). known_then (method_type (names_at recs at.asm r)) x.signature) (slice_get r.method_def n)) o)) s
      ∙ ap (λ (o : Option MethodDefRow). list_any named_so (listed o) && gives_nothing (option_map (λ (x : MethodDefRow). known_then (method_type (names_at recs at.asm rec)) x.signature) o)) e
      ∙ ap (λ (b : Bool). b && takes_and_gives_nothing (known_then (method_type (names_at recs at.asm rec)) m.signature)) (or_none (named_so m))

  by_type : (rec : AsmRec) → slice_get recs at.asm ≡ Some rec → (o : Option TypeDefRow)
      → option_and_then (initializer_in recs at rec) o
      ≡ first_at (starts_at recs) (flat_map (λ (t : TypeDefRow). map (at_row at.asm) (run_places t.method_list_first t.method_list_end rec.method_def)) (listed o))
  by_type rec s None = refl
  by_type rec s (Some t) =
      first_in_run at.asm (is_initializer recs at.asm rec) (starts_at recs) t.method_list_first t.method_list_end rec.method_def (λ n m e. is_so rec s n m e)
      ∙ ap (first_at (starts_at recs)) (sym (append-nil (map (at_row at.asm) (run_places t.method_list_first t.method_list_end rec.method_def))))

  by_rec : (o : Option AsmRec) → slice_get recs at.asm ≡ o
      → option_and_then (λ (rec : AsmRec). option_and_then (initializer_in recs at rec) (slice_get rec.type_def at.row)) o
      ≡ first_at (starts_at recs)
      (flat_map (λ (rec : AsmRec). flat_map (λ (t : TypeDefRow). map (at_row at.asm) (run_places t.method_list_first t.method_list_end rec.method_def)) (listed (slice_get rec.type_def at.row))) (listed o))
  by_rec None s = refl
  by_rec (Some rec) s =
      by_type rec s (slice_get rec.type_def at.row)
      ∙ ap (first_at (starts_at recs)) (sym (append-nil (flat_map (λ (t : TypeDefRow). map (at_row at.asm) (run_places t.method_list_first t.method_list_end rec.method_def)) (listed (slice_get rec.type_def at.row)))))

  pub initializer_is : initializer recs at ≡ first_at (starts_at recs) (methods_of_type recs at)
  unfolding initializer methods_of_type
  initializer_is = by_rec (slice_get recs at.asm) refl

  -- an initializer is a row
  first_by : (x m : RowAt) (rest : Option RowAt) (b : Bool) → starts_at recs x ≡ b → (rest ≡ Some m → starts_at recs m ≡ true) → (if b then Some x else rest) ≡ Some m → starts_at recs m ≡ true
  first_by x m rest true t more h = let same : x ≡ m = cc in subst (λ (y : RowAt). starts_at recs y ≡ true) same t
  first_by x m rest false t more h = more h

  first_starts : (xs : List RowAt) (m : RowAt) → first_at (starts_at recs) xs ≡ Some m → starts_at recs m ≡ true
  first_starts [] m e = absurd (cc)
  first_starts (x ∷ xs) m e = first_by x m (first_at (starts_at recs) xs) (starts_at recs x) refl (first_starts xs m) e

  row_of_start : (m : RowAt) (o : Option MethodDefRow) → method_row_at recs m ≡ o → (list_any named_so (listed o) && gives_nothing (type_of_row recs m)) ≡ true
      → (d : MethodDefRow) × (method_row_at recs m ≡ Some d) × (same_name d.name (codes ".cctor") ≡ true)
  row_of_start m None e h = absurd (cc)
  row_of_start m (Some d) e h =
      let named : (named_so d || false) ≡ true = first_so (named_so d || false) (gives_nothing (type_of_row recs m)) h in
      (d, e, first_so (same_name d.name (codes ".cctor")) (is_static d) (sym (or_none (named_so d)) ∙ named))

  pub starts_there : (m : RowAt) → initializer recs at ≡ Some m → (d : MethodDefRow) × (method_row_at recs m ≡ Some d) × (same_name d.name (codes ".cctor") ≡ true)
  starts_there m e = row_of_start m (method_row_at recs m) refl (first_starts (methods_of_type recs at) m (sym initializer_is ∙ e))

-- the row of an initializer that a query answers with
module _ (recs : List AsmRec) where
  pub record StartsFrom (m : ℕ) : Type 0 where
    pub typ : RowAt
    pub method : RowAt
    pub is : initializer recs typ ≡ Some method
    pub number : method_number recs method ≡ m

  start_found : (m : ℕ) (at : RowAt) (o : Option RowAt) → initializer recs at ≡ o → option_map (λ x. (method_id recs x).0) o ≡ Some m → StartsFrom m
  start_found m at None e u = absurd (cc)
  start_found m at (Some x) e u = let same : (method_id recs x).0 ≡ m = cc in record { typ = at; method = x; is = e; number = same }

  start_home : (m : ℕ) (o : Option RowAt) → option_map (λ x. (method_id recs x).0) (option_and_then (initializer recs) o) ≡ Some m → StartsFrom m
  start_home m None u = absurd (cc)
  start_home m (Some at) u = start_found m at (initializer recs at) refl u

  pub starts_from : (t m : ℕ) → starts_query recs t ≡ Some m → StartsFrom m
  starts_from t m is = start_home m (type_home recs (type_numbered t)) is

-- ---- void stays void

module _ (r : Rho) where
  void_rolled : (x : TypeExpr-F TypeExpr) → is_void (roll-TypeExpr x) ≡ void_layer (map-TypeExpr TypeExpr Bool is_void x)
  unfolding is_void
  void_rolled x = fold-roll-TypeExpr Bool void_layer x

  abbrev IsAlike : TypeExpr → Type 0
  IsAlike e = is_void (move_expr r e) ≡ is_void e

  void_in : (y : TypeExpr-F (With IsAlike)) → void_layer (map-TypeExpr TypeExpr Bool is_void (moved_in r (plain_parts IsAlike y))) ≡ void_layer (map-TypeExpr TypeExpr Bool is_void (plain_parts IsAlike y))
  void_in (TypeExpr-F.Prim n) = refl
  void_in (TypeExpr-F.Def t) = refl
  void_in (TypeExpr-F.Inst t xs) = refl
  void_in (TypeExpr-F.Array x) = refl
  void_in (TypeExpr-F.ByRef x) = refl
  void_in (TypeExpr-F.Var n) = refl
  void_in (TypeExpr-F.MVar n) = refl
  void_in (TypeExpr-F.Mod required by x) = x.1

  void_by : (y : TypeExpr-F (With IsAlike)) → IsAlike (roll-TypeExpr (plain_parts IsAlike y))
  void_by y =
      let x : TypeExpr-F TypeExpr = plain_parts IsAlike y in
      ap is_void (move_rolled r x) ∙ void_rolled (moved_in r x) ∙ void_in y ∙ sym (void_rolled x)

  void_moved : (e : TypeExpr) → is_void (move_expr r e) ≡ is_void e
  void_moved = ind-TypeExpr IsAlike (λ x y is. subst (λ z. IsAlike (roll-TypeExpr z)) is (void_by y))

  none_moved : (es : List TypeExpr) → are_none (move_exprs r es) ≡ are_none es
  none_moved [] = refl
  none_moved (e ∷ es) = refl

  nothing_moved : (o : Option (Known MethodType)) → gives_nothing (option_map (known_map (move_method_type r)) o) ≡ gives_nothing o
  nothing_moved None = refl
  nothing_moved (Some (Bad why)) = refl
  nothing_moved (Some (Good m)) = λ i. not m.this && m.generic == 0 && none_moved m.params i && void_moved m.ret i

-- ---- the initializer of a kept type

module _ (k : Change) (kept : RowAt → Bool) (p : Places) (after before : List AsmRec) (r : RowsMove k kept p after before) (keeps : KeepsRows k.keep kept before) where
  same_start : (x : RowAt) → IsTrue (keeps_method_row k.keep before x) → starts_at after (p.method x) ≡ starts_at before x
  same_start x h = by_row (method_row_at before x) refl ∙ ap (λ (b : Bool). list_any named_so (listed (method_row_at before x)) && b) (ap gives_nothing ((r.methods x h).signature) ∙ nothing_moved k.rho (type_of_row before x))
    where
      by_row : (o : Option MethodDefRow) → method_row_at before x ≡ o
          → (list_any named_so (listed (method_row_at after (p.method x))) && gives_nothing (type_of_row after (p.method x))) ≡ (list_any named_so (listed (method_row_at before x)) && gives_nothing (type_of_row after (p.method x)))
      by_row None e =
          ap (λ (o : Option MethodDefRow). list_any named_so (listed o) && gives_nothing (type_of_row after (p.method x))) ((r.methods x h).absent e ∙ sym e)
      by_row (Some m) e =
          let same = (r.methods x h).there m e in
          let named : named_so same.0 ≡ named_so m = λ i. same_name (same.2.name i) (codes ".cctor") && same.2.static i in
          ap (λ (o : Option MethodDefRow). list_any named_so (listed o) && gives_nothing (type_of_row after (p.method x))) same.1
          ∙ ap (λ (b : Bool). (b || false) && gives_nothing (type_of_row after (p.method x))) named
          ∙ sym (ap (λ (o : Option MethodDefRow). list_any named_so (listed o) && gives_nothing (type_of_row after (p.method x))) e)

  initializer_moved : (at : RowAt) → IsTrue (k.keep.begun (type_number before at)) → initializer after (p.typ at) ≡ option_map p.method (initializer before at)
  initializer_moved at h =
      let here : IsTrue (keeps_type_row k.keep before at) = keeps.begun (type_number before at) h in
      initializer_is after (p.typ at) ∙ ap (first_at (starts_at after)) ((r.types at here).methods)
      ∙ first_moved p.method (keeps_method_row k.keep before) (starts_at before) (starts_at after) same_start (methods_of_type before at)
      (λ m e. keeps.started at m h (initializer_is before at ∙ e))
      ∙ sym (ap (option_map p.method) (initializer_is before at))

  start_by : (o : Option RowAt) → ((at : RowAt) → o ≡ Some at → IsTrue (k.keep.begun (type_number before at)))
      → option_map (λ at. (method_id after at).0) (option_and_then (initializer after) (option_map p.typ o))
      ≡ option_map k.rho.method (option_map (λ at. (method_id before at).0) (option_and_then (initializer before) o))
  start_by None h = refl
  start_by (Some at) h =
      ap (option_map (λ m. (method_id after m).0)) (initializer_moved at (h at refl)) ∙ by_found (initializer before at) refl (λ m e. keeps.started at m (h at refl) e)
    where
      by_found : (o : Option RowAt) → initializer before at ≡ o → ((m : RowAt) → o ≡ Some m → IsTrue (keeps_method_row k.keep before m))
          → option_map (λ m. (method_id after m).0) (option_map p.method o) ≡ option_map k.rho.method (option_map (λ m. (method_id before m).0) o)
      by_found None is g = refl
      by_found (Some m) is g =
          let there = starts_there before at m is in
          ap (λ (n : ℕ). Some n) (r.places.methods m there.0 there.1 (g m refl))

  pub starts_moved : (t : ℕ) → IsTrue (k.keep.begun t) → starts_query after (k.rho.typ t) ≡ option_map k.rho.method (starts_query before t)
  starts_moved t h =
      ap (λ (o : Option RowAt). option_map (λ at. (method_id after at).0) (option_and_then (initializer after) o)) (r.places.type_homes t (keeps.begun t h))
      ∙ start_by (type_home before (type_numbered t)) (λ at e. subst (λ (n : ℕ). IsTrue (k.keep.begun n)) (sym (has_number types_in before t at e)) h)

  pub starts_kept : (t m : ℕ) → IsTrue (k.keep.begun t) → starts_query before t ≡ Some m → IsTrue (k.keep.method m)
  starts_kept t m h is = by_home (type_home before (type_numbered t)) refl is
    where
      by_found : (at : RowAt) → IsTrue (k.keep.begun (type_number before at)) → (o : Option RowAt) → initializer before at ≡ o → option_map (λ x. (method_id before x).0) o ≡ Some m → IsTrue (k.keep.method m)
      by_found at g None e u = absurd (cc)
      by_found at g (Some x) e u = let same : (method_id before x).0 ≡ m = cc in subst (λ (n : ℕ). IsTrue (k.keep.method n)) same (keeps.started at x g e)

      by_home : (o : Option RowAt) → type_home before (type_numbered t) ≡ o → option_map (λ x. (method_id before x).0) (option_and_then (initializer before) o) ≡ Some m → IsTrue (k.keep.method m)
      by_home None e u = absurd (cc)
      by_home (Some at) e u = by_found at (subst (λ (n : ℕ). IsTrue (k.keep.begun n)) (sym (has_number types_in before t at e)) h) (initializer before at) refl u

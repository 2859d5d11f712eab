-- Methods by name and signature, and the slots of virtual methods, move with those that are kept (II.10.3).
use Rattle.std.proofs.Common.{◌≡◌, ℕ, zero, suc, ◌+◌, Bool, true, false, ◌&&◌, List, [], ◌∷◌, map, Option, Some, None, refl, sym, ap, subst, ◌∙◌, arith}
use Rattle.std.specs.Prelude.{IsTrue, slice_get, nat_eq, not, ◌||◌, if◌then◌else◌}
use Rattle.std.specs.List.{list_any, list_all, flat_map}
use Rattle.std.specs.Option.{option_map, option_and_then}
use Rattle.std.specs.Cmp.{first_so, second_so}
use Rattle.std.proofs.lemmas.List.{append-nil}
use Rattle.il_base.specs.declared.world_model.known.Known.{Known}
use Rattle.il_base.specs.declared.world_model.known.Known.TheVariants.{Good, Bad}
use Rattle.il_base.specs.declared.world_model.expr.TypeExpr.{TypeExpr}
use Rattle.il_base.specs.declared.world_model.types.TypeDefRow.{TypeDefRow}
use Rattle.il_base.specs.declared.world_model.members.MethodDefRow.{MethodDefRow}
use Rattle.il_base.specs.declared.world_model.record.AsmRec.{AsmRec}
use Rattle.il_base.specs.world_model.Core.{same_name}
use Rattle.il_base.specs.world_model.Exprs.{same_bool, same_expr, same_exprs, subst as put_in}
use Rattle.il_base.specs.world_model.Worlds.{known_then, known_map}
use Rattle.rules.specs.declared.link_rules.row_at.RowAt.{RowAt}
use Rattle.rules.specs.declared.link_rules.member_type.MethodType.{MethodType}
use Rattle.rules.specs.link_rules.Types.{at_row, or_else}
use Rattle.rules.specs.link_rules.Signatures.{names_at, method_type, subst_method, same_method_type}
use Rattle.rules.specs.link_rules.Members.{args_of, base_at, with_bases, find_in_run, is_method_type, type_count}
use Rattle.rules.specs.link_rules.Cycles.{listed, home_of}
use Rattle.rules.specs.type_rules.Rows.{methods_of_type, run_places}
use Rattle.rules.specs.type_rules.Slots.{is_virtual, is_new_slot, method_row_at, type_of_method, type_of_row, is_match, match_in_row, match_in, nearest, bases_above, inherited_by, inherited, slot_by, slot_of_row, slot_within, slot_of}
use Rattle.base_laws.specs.walk_laws.Walks.{BasesWhole, SlotsWhole}
use Rattle.rules.specs.change_rules.Change.{Rho, Undone, Change}
use Rattle.rules.specs.change_rules.Moves.{move_expr, move_exprs}
use Rattle.rules.specs.change_rules.Keeps.{keeps_expr}
use Rattle.base_laws.proofs.lemmas.change_laws.Subst.{subst_moves}
use Rattle.base_laws.proofs.lemmas.change_laws.Same.{same_exprs_moved}
use Rattle.rules.specs.world_change_rules.Places.{Places, keeps_type_row, keeps_method_row}
use Rattle.rules.specs.world_change_rules.Rows.{RowsMove, SameMethod, move_method_type}
use Rattle.rules.specs.world_change_rules.Kept.{KeepsRows}
use Rattle.run_laws.specs.query_laws.Laws.{first_at}
use Rattle.run_laws.proofs.lemmas.query_laws.Homes.{args_moved, home_moved, home_kept}
use Rattle.run_laws.proofs.lemmas.query_laws.Wholes.{with_bases_kept, with_bases_moved}
use Rattle.run_laws.proofs.lemmas.query_laws.Runs.{first_in_run, first_moved}

-- ---- the first of a type's methods

module _ (recs : List AsmRec) (at : RowAt) (t : ℕ → AsmRec → MethodDefRow → Bool) (T : RowAt → Bool)
    (so : (rec : AsmRec) → slice_get recs at.asm ≡ Some rec → (n : ℕ) (m : MethodDefRow) → slice_get rec.method_def n ≡ Some m → T (at_row at.asm n) ≡ t at.asm rec m) where
  type_run : (rec : AsmRec) → slice_get recs at.asm ≡ Some rec → (o : Option TypeDefRow)
      → option_and_then (λ (row : TypeDefRow). option_map (at_row at.asm) (find_in_run (t at.asm rec) row.method_list_first row.method_list_end rec.method_def)) o
      ≡ first_at T (flat_map (λ (row : TypeDefRow). map (at_row at.asm) (run_places row.method_list_first row.method_list_end rec.method_def)) (listed o))
  type_run rec s None = refl
  type_run rec s (Some row) =
      first_in_run at.asm (t at.asm rec) T row.method_list_first row.method_list_end rec.method_def (λ n m e. so rec s n m e)
      ∙ ap (first_at T) (sym (append-nil (map (at_row at.asm) (run_places row.method_list_first row.method_list_end rec.method_def))))

  rec_run : (o : Option AsmRec) → slice_get recs at.asm ≡ o
      → option_and_then (λ (rec : AsmRec). option_and_then (λ (row : TypeDefRow). option_map (at_row at.asm) (find_in_run (t at.asm rec) row.method_list_first row.method_list_end rec.method_def)) (slice_get rec.type_def at.row)) o
      ≡ first_at T
      (flat_map (λ (rec : AsmRec). flat_map (λ (row : TypeDefRow). map (at_row at.asm) (run_places row.method_list_first row.method_list_end rec.method_def)) (listed (slice_get rec.type_def at.row))) (listed o))
  rec_run None s = refl
  rec_run (Some rec) s =
      type_run rec s (slice_get rec.type_def at.row)
      ∙ ap (first_at T) (sym (append-nil (flat_map (λ (row : TypeDefRow). map (at_row at.asm) (run_places row.method_list_first row.method_list_end rec.method_def)) (listed (slice_get rec.type_def at.row)))))

  pub run_is : option_and_then (λ (rec : AsmRec). option_and_then (λ (row : TypeDefRow). option_map (at_row at.asm) (find_in_run (t at.asm rec) row.method_list_first row.method_list_end rec.method_def)) (slice_get rec.type_def at.row)) (slice_get recs at.asm)
      ≡ first_at T (methods_of_type recs at)
  unfolding methods_of_type
  run_is = rec_run (slice_get recs at.asm) refl

-- ---- a method of a name and a signature

abbrev of_type : List TypeExpr → MethodType → Option (Known MethodType) → Bool
of_type targs wanted None = false
of_type targs wanted (Some m) = is_method_type targs wanted m

abbrev row_fits : (MethodDefRow → Bool) → List ℕ → Bool → MethodDefRow → Bool
row_fits test name typed m = same_name m.name name && (test m && typed)

abbrev fits_at : List AsmRec → (MethodDefRow → Bool) → List TypeExpr → List ℕ → MethodType → RowAt → Bool
fits_at recs test targs name wanted m = list_any (row_fits test name (of_type targs wanted (type_of_row recs m))) (listed (method_row_at recs m))

or_none : (b : Bool) → (b || false) ≡ b
or_none true = refl
or_none false = refl

module _ (recs : List AsmRec) (test : MethodDefRow → Bool) (name : List ℕ) (wanted : MethodType) where
  fits_so : (targs : List TypeExpr) (at : RowAt) (rec : AsmRec) → slice_get recs at.asm ≡ Some rec → (n : ℕ) (m : MethodDefRow) → slice_get rec.method_def n ≡ Some m
      → fits_at recs test targs name wanted (at_row at.asm n) ≡ is_match recs test at.asm rec targs name wanted m
  fits_so targs at rec s n m e =
      ap (λ (o : Option AsmRec). list_any (row_fits test name (of_type targs wanted (option_and_then (λ (r : AsmRec). option_map (λ (x : MethodDefRow). known_then (method_type (names_at recs at.asm r)) x.signature) (slice_get r.method_def n)) o)))
      (listed (option_and_then (λ (r : AsmRec). slice_get r.method_def n) o))) s
      ∙ ap (λ (o : Option MethodDefRow). list_any (row_fits test name (of_type targs wanted (option_map (λ (x : MethodDefRow). known_then (method_type (names_at recs at.asm rec)) x.signature) o))) (listed o)) e
      ∙ or_none (is_match recs test at.asm rec targs name wanted m)

  match_by : (e : TypeExpr) (o : Option RowAt)
      → option_and_then (λ (at : RowAt). option_and_then (λ (rec : AsmRec). option_and_then (match_in_row recs test (args_of e) name wanted at rec) (slice_get rec.type_def at.row)) (slice_get recs at.asm)) o
      ≡ option_and_then (λ (at : RowAt). first_at (fits_at recs test (args_of e) name wanted) (methods_of_type recs at)) o
  match_by e None = refl
  match_by e (Some at) =
      run_is recs at (λ a rec m. is_match recs test a rec (args_of e) name wanted m) (fits_at recs test (args_of e) name wanted) (λ rec s n m is. fits_so (args_of e) at rec s n m is)

  pub match_is : (e : TypeExpr) → match_in recs test name wanted e ≡ option_and_then (λ (at : RowAt). first_at (fits_at recs test (args_of e) name wanted) (methods_of_type recs at)) (home_of recs e)
  unfolding match_in
  match_is e = match_by e (home_of recs e)

-- ---- signatures are the same after a move exactly where they were before

module _ (back rho : Rho) (u : Undone back rho) where
  exprs_same : (xs ys : List TypeExpr) → same_exprs (move_exprs rho xs) (move_exprs rho ys) ≡ same_exprs xs ys
  unfolding same_exprs
  exprs_same [] [] = refl
  exprs_same [] (y ∷ ys) = refl
  exprs_same (x ∷ xs) [] = refl
  exprs_same (x ∷ xs) (y ∷ ys) = λ i. same_exprs_moved back rho u x y i && exprs_same xs ys i

  puts_moved : (targs es : List TypeExpr) → map (put_in (move_exprs rho targs) []) (move_exprs rho es) ≡ move_exprs rho (map (put_in targs []) es)
  puts_moved targs [] = refl
  puts_moved targs (e ∷ es) = λ i. sym (subst_moves rho targs [] e) i ∷ puts_moved targs es i

  type_same : (targs : List TypeExpr) (m wanted : MethodType)
      → same_method_type (subst_method (move_exprs rho targs) (move_method_type rho m)) (move_method_type rho wanted) ≡ same_method_type (subst_method targs m) wanted
  unfolding same_method_type subst_method
  type_same targs m wanted =
      (λ i. ((same_bool m.this wanted.this && nat_eq m.generic wanted.generic) && same_expr (sym (subst_moves rho targs [] m.ret) i) (move_expr rho wanted.ret)) && same_exprs (puts_moved targs m.params i) (move_exprs rho wanted.params))
      ∙ (λ i. ((same_bool m.this wanted.this && nat_eq m.generic wanted.generic) && same_exprs_moved back rho u (put_in targs [] m.ret) wanted.ret i) && exprs_same (map (put_in targs []) m.params) wanted.params i)

  pub of_type_moved : (targs : List TypeExpr) (wanted : MethodType) (o : Option (Known MethodType))
      → of_type (move_exprs rho targs) (move_method_type rho wanted) (option_map (known_map (move_method_type rho)) o) ≡ of_type targs wanted o
  of_type_moved targs wanted None = refl
  of_type_moved targs wanted (Some (Good m)) = type_same targs m wanted
  of_type_moved targs wanted (Some (Bad why)) = refl

-- ---- kept methods

module _ (k : Change) (kept : RowAt → Bool) (p : Places) (after before : List AsmRec) (r : RowsMove k kept p after before) (keeps : KeepsRows k.keep kept before) where
  -- a test of a row that kept methods pass alike
  abbrev Alike : (MethodDefRow → Bool) → Type 0
  Alike test = (m' m : MethodDefRow) → SameMethod m' m → test m' ≡ test m

  module _ (test : MethodDefRow → Bool) (alike : Alike test) (name : List ℕ) (wanted : MethodType) where
    fits_moved : (targs : List TypeExpr) (x : RowAt) → IsTrue (keeps_method_row k.keep before x)
        → fits_at after test (move_exprs k.rho targs) name (move_method_type k.rho wanted) (p.method x) ≡ fits_at before test targs name wanted x
    fits_moved targs x h =
        ap (λ (o : Option (Known MethodType)). list_any (row_fits test name (of_type (move_exprs k.rho targs) (move_method_type k.rho wanted) o)) (listed (method_row_at after (p.method x)))) ((r.methods x h).signature)
        ∙ ap (λ (b : Bool). list_any (row_fits test name b) (listed (method_row_at after (p.method x)))) (of_type_moved k.back k.rho k.undone targs wanted (type_of_row before x))
        ∙ by_row (of_type targs wanted (type_of_row before x)) (method_row_at before x) refl
      where
        by_row : (typed : Bool) (o : Option MethodDefRow) → method_row_at before x ≡ o
            → list_any (row_fits test name typed) (listed (method_row_at after (p.method x))) ≡ list_any (row_fits test name typed) (listed (method_row_at before x))
        by_row typed None e = ap (λ (o : Option MethodDefRow). list_any (row_fits test name typed) (listed o)) ((r.methods x h).absent e ∙ sym e)
        by_row typed (Some m) e =
            let there = (r.methods x h).there m e in
            ap (λ (o : Option MethodDefRow). list_any (row_fits test name typed) (listed o)) there.1
            ∙ (λ i. (same_name (there.2.name i) name && (alike there.0 m there.2 i && typed)) || false)
            ∙ sym (ap (λ (o : Option MethodDefRow). list_any (row_fits test name typed) (listed o)) e)

    match_at : (e : TypeExpr) (o : Option RowAt) → ((at : RowAt) → o ≡ Some at → IsTrue (keeps_type_row k.keep before at))
        → ((m : RowAt) → option_and_then (λ (at : RowAt). first_at (fits_at before test (args_of e) name wanted) (methods_of_type before at)) o ≡ Some m → IsTrue (keeps_method_row k.keep before m))
        → option_and_then (λ (at : RowAt). first_at (fits_at after test (args_of (move_expr k.rho e)) name (move_method_type k.rho wanted)) (methods_of_type after at)) (option_map p.typ o)
        ≡ option_map p.method (option_and_then (λ (at : RowAt). first_at (fits_at before test (args_of e) name wanted) (methods_of_type before at)) o)
    match_at e None h g = refl
    match_at e (Some at) h g =
        ap (λ (args : List TypeExpr). first_at (fits_at after test args name (move_method_type k.rho wanted)) (methods_of_type after (p.typ at))) (args_moved k e)
        ∙ ap (first_at (fits_at after test (move_exprs k.rho (args_of e)) name (move_method_type k.rho wanted))) ((r.types at (h at refl)).methods)
        ∙ first_moved p.method (keeps_method_row k.keep before) (fits_at before test (args_of e) name wanted) (fits_at after test (move_exprs k.rho (args_of e)) name (move_method_type k.rho wanted))
        (λ x u. fits_moved (args_of e) x u) (methods_of_type before at) g

    pub match_moved : (e : TypeExpr) → IsTrue (keeps_expr k.keep e) → ((m : RowAt) → match_in before test name wanted e ≡ Some m → IsTrue (keeps_method_row k.keep before m))
        → match_in after test name (move_method_type k.rho wanted) (move_expr k.rho e) ≡ option_map p.method (match_in before test name wanted e)
    match_moved e h g =
        match_is after test name (move_method_type k.rho wanted) (move_expr k.rho e)
        ∙ ap (option_and_then (λ (at : RowAt). first_at (fits_at after test (args_of (move_expr k.rho e)) name (move_method_type k.rho wanted)) (methods_of_type after at))) (home_moved k kept p after before r keeps e h)
        ∙ match_at e (home_of before e) (λ at is. home_kept k kept p after before r keeps e at h is) (λ m is. g m (match_is before test name wanted e ∙ is))
        ∙ sym (ap (option_map p.method) (match_is before test name wanted e))

    pub nearest_match : (es : List TypeExpr) → IsTrue (list_all (keeps_expr k.keep) es) → ((m : RowAt) → nearest (match_in before test name wanted) es ≡ Some m → IsTrue (keeps_method_row k.keep before m))
        → nearest (match_in after test name (move_method_type k.rho wanted)) (move_exprs k.rho es) ≡ option_map p.method (nearest (match_in before test name wanted) es)
    unfolding nearest
    nearest_match [] h g = refl
    nearest_match (e ∷ es) h g =
        by_here (match_in before test name wanted e) refl
        (match_moved e (first_so (keeps_expr k.keep e) (list_all (keeps_expr k.keep) es) h) (λ m is. g m (ap (λ o. or_else o (nearest (match_in before test name wanted) es)) is)))
        (λ none. nearest_match es (second_so (keeps_expr k.keep e) (list_all (keeps_expr k.keep) es) h) (λ m is. g m (ap (λ o. or_else o (nearest (match_in before test name wanted) es)) none ∙ is)))
      where
        by_here : (o : Option RowAt) → match_in before test name wanted e ≡ o
            → match_in after test name (move_method_type k.rho wanted) (move_expr k.rho e) ≡ option_map p.method (match_in before test name wanted e)
            → (match_in before test name wanted e ≡ None → nearest (match_in after test name (move_method_type k.rho wanted)) (move_exprs k.rho es) ≡ option_map p.method (nearest (match_in before test name wanted) es))
            → or_else (match_in after test name (move_method_type k.rho wanted) (move_expr k.rho e)) (nearest (match_in after test name (move_method_type k.rho wanted)) (move_exprs k.rho es))
            ≡ option_map p.method (or_else (match_in before test name wanted e) (nearest (match_in before test name wanted) es))
        by_here None is here later =
            ap (λ o. or_else o (nearest (match_in after test name (move_method_type k.rho wanted)) (move_exprs k.rho es))) (here ∙ ap (option_map p.method) is) ∙ later is
            ∙ sym (ap (λ o. option_map p.method (or_else o (nearest (match_in before test name wanted) es))) is)
        by_here (Some m) is here later =
            ap (λ o. or_else o (nearest (match_in after test name (move_method_type k.rho wanted)) (move_exprs k.rho es))) (here ∙ ap (option_map p.method) is)
            ∙ sym (ap (λ o. option_map p.method (or_else o (nearest (match_in before test name wanted) es))) is)

-- ---- what a method overrides

abbrev above_in : List AsmRec → Option TypeExpr → List TypeExpr
above_in recs None = []
above_in recs (Some b) = with_bases recs b

above_by : (recs : List AsmRec) (at : RowAt) (o : Option TypeExpr) → base_at recs at ≡ o → bases_above recs at ≡ above_in recs o
above_by recs at None e = rw (bases_above, e) refl
above_by recs at (Some b) e = rw (bases_above, e) refl

module _ (k : Change) (kept : RowAt → Bool) (p : Places) (after before : List AsmRec) (r : RowsMove k kept p after before) (keeps : KeepsRows k.keep kept before)
    (later : BasesWhole after) (earlier : BasesWhole before) where
  above_moved : (at : RowAt) → IsTrue (keeps_type_row k.keep before at) → bases_above after (p.typ at) ≡ move_exprs k.rho (bases_above before at)
  above_moved at h = by_base (base_at before at) refl
    where
      by_base : (o : Option TypeExpr) → base_at before at ≡ o → bases_above after (p.typ at) ≡ move_exprs k.rho (bases_above before at)
      by_base None e =
          above_by after (p.typ at) None ((r.types at h).base ∙ ap (option_map (move_expr k.rho)) e) ∙ sym (ap (move_exprs k.rho) (above_by before at None e))
      by_base (Some b) e =
          above_by after (p.typ at) (Some (move_expr k.rho b)) ((r.types at h).base ∙ ap (option_map (move_expr k.rho)) e)
          ∙ with_bases_moved k kept p after before r keeps later earlier b (keeps.bases at b h e)
          ∙ sym (ap (move_exprs k.rho) (above_by before at (Some b) e))

  above_kept : (at : RowAt) → IsTrue (keeps_type_row k.keep before at) → IsTrue (list_all (keeps_expr k.keep) (bases_above before at))
  above_kept at h = by_base (base_at before at) refl
    where
      by_base : (o : Option TypeExpr) → base_at before at ≡ o → IsTrue (list_all (keeps_expr k.keep) (bases_above before at))
      by_base None e = subst (λ (es : List TypeExpr). IsTrue (list_all (keeps_expr k.keep) es)) (sym (above_by before at None e)) refl
      by_base (Some b) e =
          subst (λ (es : List TypeExpr). IsTrue (list_all (keeps_expr k.keep) es)) (sym (above_by before at (Some b) e)) (with_bases_kept k kept p after before r keeps b (keeps.bases at b h e))

  found_by : (owner : RowAt) → IsTrue (keeps_type_row k.keep before owner) → (m' m : MethodDefRow) → m'.name ≡ m.name → (o : Option (Known MethodType))
      → ((b : RowAt) → inherited_by before owner m o ≡ Some b → IsTrue (keeps_method_row k.keep before b))
      → inherited_by after (p.typ owner) m' (option_map (known_map (move_method_type k.rho)) o) ≡ option_map p.method (inherited_by before owner m o)
  found_by owner h m' m name None g = refl
  found_by owner h m' m name (Some (Bad why)) g = refl
  found_by owner h m' m name (Some (Good wanted)) g =
      (λ i. nearest (match_in after is_virtual (name i) (move_method_type k.rho wanted)) (above_moved owner h i))
      ∙ nearest_match k kept p after before r keeps is_virtual (λ x y s. s.virtual) m.name wanted (bases_above before owner) (above_kept owner h) g

  owner_by : (at : RowAt) (m' m : MethodDefRow) → m'.name ≡ m.name → (o : Option RowAt) → ((owner : RowAt) → o ≡ Some owner → IsTrue (keeps_type_row k.keep before owner))
      → ((b : RowAt) → option_and_then (λ (owner : RowAt). inherited_by before owner m (type_of_row before at)) o ≡ Some b → IsTrue (keeps_method_row k.keep before b))
      → option_and_then (λ (owner : RowAt). inherited_by after owner m' (option_map (known_map (move_method_type k.rho)) (type_of_row before at))) (option_map p.typ o)
      ≡ option_map p.method (option_and_then (λ (owner : RowAt). inherited_by before owner m (type_of_row before at)) o)
  owner_by at m' m name None h g = refl
  owner_by at m' m name (Some owner) h g = found_by owner (h owner refl) m' m name (type_of_row before at) g

  pub inherited_moved : (at : RowAt) → IsTrue (keeps_method_row k.keep before at) → (m' m : MethodDefRow) → m'.name ≡ m.name
      → ((b : RowAt) → inherited before at m ≡ Some b → IsTrue (keeps_method_row k.keep before b)) → inherited after (p.method at) m' ≡ option_map p.method (inherited before at m)
  unfolding inherited
  inherited_moved at h m' m name g =
      (λ i. option_and_then (λ (owner : RowAt). inherited_by after owner m' ((r.methods at h).signature i)) ((r.methods at h).owner i))
      ∙ owner_by at m' m name (type_of_method before at) (λ owner e. keeps.owners at owner h e) g

  -- ---- slots

  step_by : (laters earliers : RowAt → Option RowAt) → ((x : RowAt) → IsTrue (keeps_method_row k.keep before x) → laters (p.method x) ≡ option_map p.method (earliers x))
      → (at : RowAt) → IsTrue (keeps_method_row k.keep before at) → (m' m : MethodDefRow) → method_row_at before at ≡ Some m → SameMethod m' m → (b c : Bool) → is_virtual m ≡ b → is_new_slot m ≡ c
      → (if not b then None else if c then Some (p.method at) else slot_by laters (p.method at) (inherited after (p.method at) m'))
      ≡ option_map p.method (if not b then None else if c then Some at else slot_by earliers at (inherited before at m))
  step_by laters earliers again at h m' m e s false c v n = refl
  step_by laters earliers again at h m' m e s true true v n = refl
  step_by laters earliers again at h m' m e s true false v n =
      ap (slot_by laters (p.method at)) (inherited_moved at h m' m s.name (λ b is. keeps.overridden at b m h e v n is))
      ∙ by_found (inherited before at m) (λ b is. keeps.overridden at b m h e v n is)
    where
      by_found : (o : Option RowAt) → ((b : RowAt) → o ≡ Some b → IsTrue (keeps_method_row k.keep before b)) → slot_by laters (p.method at) (option_map p.method o) ≡ option_map p.method (slot_by earliers at o)
      by_found None g = refl
      by_found (Some b) g = again b (g b refl)

  row_by : (laters earliers : RowAt → Option RowAt) → ((x : RowAt) → IsTrue (keeps_method_row k.keep before x) → laters (p.method x) ≡ option_map p.method (earliers x))
      → (at : RowAt) → IsTrue (keeps_method_row k.keep before at) → (o : Option MethodDefRow) → method_row_at before at ≡ o
      → option_and_then (slot_of_row after laters (p.method at)) (method_row_at after (p.method at)) ≡ option_map p.method (option_and_then (slot_of_row before earliers at) (method_row_at before at))
  row_by laters earliers again at h None e =
      ap (option_and_then (slot_of_row after laters (p.method at))) ((r.methods at h).absent e) ∙ sym (ap (λ (o : Option MethodDefRow). option_map p.method (option_and_then (slot_of_row before earliers at) o)) e)
  row_by laters earliers again at h (Some m) e =
      let there = (r.methods at h).there m e in
      ap (option_and_then (slot_of_row after laters (p.method at))) there.1
      ∙ (λ i. if not (there.2.virtual i) then None else if there.2.new_slot i then Some (p.method at) else slot_by laters (p.method at) (inherited after (p.method at) there.0))
      ∙ step_by laters earliers again at h there.0 m e there.2 (is_virtual m) (is_new_slot m) refl refl
      ∙ sym (ap (λ (o : Option MethodDefRow). option_map p.method (option_and_then (slot_of_row before earliers at) o)) e)

  within_moved : (n : ℕ) (at : RowAt) → IsTrue (keeps_method_row k.keep before at) → slot_within after n (p.method at) ≡ option_map p.method (slot_within before n at)
  unfolding slot_within
  within_moved zero at h = refl
  within_moved (suc n) at h = row_by (slot_within after n) (slot_within before n) (λ x g. within_moved n x g) at h (method_row_at before at) refl

  pub slot_moved : SlotsWhole after → SlotsWhole before → (at : RowAt) → IsTrue (keeps_method_row k.keep before at) → slot_of after (p.method at) ≡ option_map p.method (slot_of before at)
  slot_moved whole_after whole_before at h =
      let n : ℕ = suc (type_count after + type_count before) in
      sym (whole_after n (p.method at) (omega arith)) ∙ within_moved n at h ∙ ap (option_map p.method) (whole_before n at (omega arith))

-- Methods that dispatch, overriding and initializers give are in a run.
use Rattle.std.proofs.Common.{◌≡◌, ℕ, suc, ◌-◌, List, [], ◌∷◌, ◌++◌, length, map, Bool, true, false, Option, Some, None, inl, inr, refl, subst, ◌∙◌}
use Rattle.std.specs.Prelude.{slice_get, if◌then◌else◌, ◌==◌, ◌&&◌, not}
use Rattle.std.specs.List.{flat_map, list_any, range_with_len}
use Rattle.std.specs.Option.{option_and_then, option_map}
use Rattle.std.proofs.lemmas.Bool.{and_parts}
use Rattle.il_base.specs.declared.table.TheConstants as table
use Rattle.il_base.specs.declared.world_model.known.Known.{Known}
use Rattle.il_base.specs.declared.world_model.known.Known.TheVariants.{Good, Bad}
use Rattle.il_base.specs.declared.world_model.expr.TypeExpr.{TypeExpr}
use Rattle.il_base.specs.declared.world_model.expr.MethodUse.{MethodUse}
use Rattle.il_base.specs.declared.world_model.types.TypeDefRow.{TypeDefRow}
use Rattle.il_base.specs.declared.world_model.members.MethodDefRow.{MethodDefRow}
use Rattle.il_base.specs.declared.world_model.members.MethodImplRow.{MethodImplRow}
use Rattle.il_base.specs.declared.world_model.record.AsmRec.{AsmRec}
use Rattle.il_base.specs.world_model.Tokens.{token_of}
use Rattle.rules.specs.declared.link_rules.row_at.RowAt.{RowAt}
use Rattle.rules.specs.declared.link_rules.member_type.MethodType.{MethodType}
use Rattle.rules.specs.link_rules.Types.{at_row, or_else}
use Rattle.rules.specs.link_rules.Signatures.{subst_method}
use Rattle.rules.specs.link_rules.Members.{args_of, with_bases, run_of, find_in_run, open_parent, generic_method}
use Rattle.rules.specs.link_rules.Cycles.{listed, same_row, home_of, only_interface}
use Rattle.rules.specs.type_rules.Slots.{is_virtual, is_new_slot, method_row_at, method_home, type_of_method, type_of_row, open_type, is_match, match_in, bases_above, inherited_by, inherited, slot_of, has_slot}
use Rattle.rules.specs.type_rules.Dispatch.{Choice, good_use, have_method, is_instance_virtual, is_body, body_at, impl_body, impl_of_row, first_impl, impl_in_row, impl_in, declares_slot, find_row_in_run, slot_in_run, slot_in, class_dispatch, implied, declares_in, is_public_virtual, public_match_in, interface_method_in, good_signature, from_choice, in_interface}
use Rattle.rules.specs.type_rules.Initializers.{is_initializer, initializer_in, initializer}
use Rattle.base_laws.proofs.lemmas.walk_laws.Finds as finds
use Rattle.base_laws.proofs.lemmas.walk_laws.Answering.{all_answered}
use Rattle.base_laws.proofs.lemmas.known_laws.Lists.{and_then_some, map_some}
use Rattle.rules.specs.mark_rules.Places.{marks_method}
use Rattle.rules.specs.mark_rules.Types.{impl_type}
use Rattle.rules.specs.mark_rules.Calls.{overridden, initializer_of, class_answer, is_own_slot, choice, found_first, found_for, is_base_of, row_class, searched, first_found, interface_answer, class_runs, interface_runs, answers_abstract, asked_slot, class_fills, interface_fills}
use Rattle.merge_laws.specs.merged_record.Laws.{InputsAreRecords}
use Rattle.merge_laws.specs.merged_owners.Laws.{has_method}
use Rattle.merge_laws.proofs.lemmas.merged_owners.Homes.{passing}
use Rattle.merge_laws.proofs.lemmas.merged_owners.Every.{Every, all_join, all_listed, all_if, all_flat, all_option, every_map, some_of}
use Rattle.merge_laws.proofs.lemmas.merged_owners.Runs.{OfFact, Fine, Has, place_in, of_run, of_found, method_begins, method_fine, method_looked, typed_has}

module _ (recs : List AsmRec) (records : InputsAreRecords recs) where
  abbrev InRun : RowAt → Type 0
  InRun at = Has recs has_method at

  -- ---- bodies of MethodImpl rows

  have_type : (es : List TypeExpr) (at : RowAt) → have_method recs es at ≡ true → InRun at
  have_type es at h =
      let p = passing (λ e. list_any (λ x. list_any (same_row x) (listed (type_of_method recs at))) (listed (home_of recs e))) es h in
      let q = some_of (λ x. list_any (same_row x) (listed (type_of_method recs at))) (home_of recs p.item) p.passes in
      let r = some_of (same_row q.0) (type_of_method recs at) q.2 in
      typed_has recs records at r.0 r.1

  body_has : (e : TypeExpr) (x y : RowAt) → body_at recs e x ≡ Some y → InRun y
  body_has e x y h = by_test (is_body recs e x) refl h
    where
      by_test : (b : Bool) → is_body recs e x ≡ b → (if b then Some x else None) ≡ Some y → InRun y
      by_test true t f =
          let same : x ≡ y = cc in
          let p = and_parts (is_instance_virtual (method_row_at recs x)) (have_method recs (with_bases recs (open_parent recs e)) x) t in
          subst (λ (z : RowAt). InRun z) same (have_type (with_bases recs (open_parent recs e)) x p.1)
      by_test false t f = absurd (cc)

  named_body : (e : TypeExpr) (declares : MethodUse → Bool) (declaration body : MethodUse) (y : RowAt) → impl_body recs e declares declaration body ≡ Some y → InRun y
  named_body e declares declaration body y h = by_test (declares declaration) h
    where
      by_test : (b : Bool) → (if b then option_and_then (body_at recs e) (method_home recs body.method) else None) ≡ Some y → InRun y
      by_test true f = let m = and_then_some (body_at recs e) (method_home recs body.method) y f in body_has e m.0 y m.2
      by_test false f = absurd (cc)

  impl_row_has : (e : TypeExpr) (declares : MethodUse → Bool) (at : RowAt) (rec : AsmRec) (row : MethodImplRow) (y : RowAt) → impl_of_row recs e declares at rec row ≡ Some y → InRun y
  impl_row_has e declares at rec row y h = by_test (row.class == token_of table.TYPE_DEF (suc at.row)) h
    where
      by_test : (b : Bool)
          → (if b then option_and_then (λ (d : MethodUse). option_and_then (impl_body recs e declares d) (good_use (generic_method recs at.asm rec row.body))) (good_use (generic_method recs at.asm rec row.declaration)) else None)
          ≡ Some y
          → InRun y
      by_test true f =
          let d = and_then_some (λ (d : MethodUse). option_and_then (impl_body recs e declares d) (good_use (generic_method recs at.asm rec row.body))) (good_use (generic_method recs at.asm rec row.declaration)) y f in
          let b = and_then_some (impl_body recs e declares d.0) (good_use (generic_method recs at.asm rec row.body)) y d.2 in
          named_body e declares d.0 b.0 y b.2
      by_test false f = absurd (cc)

  first_by : (look : MethodImplRow → Option RowAt) (row : MethodImplRow) (rows : List MethodImplRow) (y : RowAt) (o : Option RowAt) → look row ≡ o → (look row ≡ Some y → InRun y) → (first_impl look rows ≡ Some y → InRun y)
      → or_else o (first_impl look rows) ≡ Some y → InRun y
  first_by look row rows y None e here more f = more f
  first_by look row rows y (Some x) e here more f = here (e ∙ f)

  first_has : (look : MethodImplRow → Option RowAt) (rows : List MethodImplRow) (y : RowAt) → ((row : MethodImplRow) → look row ≡ Some y → InRun y) → first_impl look rows ≡ Some y → InRun y
  first_has look [] y each h = absurd (cc)
  first_has look (row ∷ rows) y each h = first_by look row rows y (look row) refl (each row) (first_has look rows y each) h

  impl_has : (declares : MethodUse → Bool) (e : TypeExpr) (y : RowAt) → impl_in recs declares e ≡ Some y → InRun y
  unfolding impl_in
  impl_has declares e y h =
      let d = finds.defined recs (impl_in_row recs e declares) e y h in
      first_has (impl_of_row recs e declares d.home d.rec) d.rec.method_impl y (λ row f. impl_row_has e declares d.home d.rec row y f) d.found

  -- ---- class slots

  slot_has : (slot : RowAt) (e : TypeExpr) (m : RowAt) → slot_in recs slot e ≡ Some m → InRun m
  unfolding slot_in
  slot_has slot e m h =
      let d = finds.defined recs (slot_in_run recs slot) e m h in
      let k = map_some (at_row d.home.asm) (find_row_in_run (λ k. has_slot recs slot (at_row d.home.asm k)) d.row.method_list_first d.row.method_list_end d.rec.method_def) m d.found in
      subst (λ (z : RowAt). InRun z) k.2
      (of_run recs (λ (r : AsmRec). r.type_def) (λ (x : TypeDefRow). x.method_list_first) (λ (x : TypeDefRow). x.method_list_end) (method_begins recs records) d.home.asm d.home.row k.0 d.rec d.row d.rec.method_def d.there d.at
      (place_in (λ k. has_slot recs slot (at_row d.home.asm k)) (range_with_len (d.row.method_list_first - 1) (length (run_of d.row.method_list_first d.row.method_list_end d.rec.method_def))) k.0 k.1))

  dispatched : (t : TypeExpr) (slot m : RowAt) → class_dispatch recs t slot ≡ Some m → InRun m
  dispatched t slot m h =
      let a = all_answered recs t slot m h in
      elim a.answers [ inl p ↦ slot_has slot a.of m p.0 | inr q ↦ impl_has (declares_slot recs slot) a.of m q ]

  -- ---- by name and signature

  match_has : (test : MethodDefRow → Bool) (name : List ℕ) (wanted : MethodType) (e : TypeExpr) (x : RowAt) → match_in recs test name wanted e ≡ Some x → InRun x
  unfolding match_in
  match_has test name wanted e x h = method_looked recs records (λ home rec. is_match recs test home.asm rec (args_of e) name wanted) (λ rec. rec.method_def) e x h

  inherited_by_has : (owner : RowAt) (m : MethodDefRow) (s : Option (Known MethodType)) (x : RowAt) → inherited_by recs owner m s ≡ Some x → InRun x
  inherited_by_has owner m None x h = absurd (cc)
  inherited_by_has owner m (Some (Bad why)) x h = absurd (cc)
  inherited_by_has owner m (Some (Good wanted)) x h =
      let n = finds.nearest_is (match_in recs is_virtual m.name wanted) (bases_above recs owner) x h in
      match_has is_virtual m.name wanted n.0 x n.2

  inherited_has : (at : RowAt) (m : MethodDefRow) (x : RowAt) → inherited recs at m ≡ Some x → InRun x
  unfolding inherited
  inherited_has at m x h =
      let o = and_then_some (λ (owner : RowAt). inherited_by recs owner m (type_of_row recs at)) (type_of_method recs at) x h in
      inherited_by_has o.0 m (type_of_row recs at) x o.2

  -- ---- interface slots

  public_has : (name : List ℕ) (wanted : Option MethodType) (e : TypeExpr) (x : RowAt) → public_match_in recs name wanted e ≡ Some x → InRun x
  public_has name None e x h = absurd (cc)
  public_has name (Some wanted) e x h = match_has is_public_virtual name wanted e x h

  interface_has : (slot : RowAt) (instance : TypeExpr) (name : List ℕ) (wanted : Option MethodType) (e : TypeExpr) (x : RowAt) → interface_method_in recs slot instance name wanted e ≡ Some x → InRun x
  interface_has slot instance name wanted e x h = by_look (impl_in recs (declares_in recs slot instance (args_of e)) e) refl h
    where
      by_look : (o : Option RowAt) → impl_in recs (declares_in recs slot instance (args_of e)) e ≡ o → or_else o (public_match_in recs name wanted e) ≡ Some x → InRun x
      by_look None f g = public_has name wanted e x g
      by_look (Some y) f g = impl_has (declares_in recs slot instance (args_of e)) e x (f ∙ g)

  choice_has : (slot : RowAt) (m : MethodDefRow) (s : Option (Known MethodType)) (c : Choice) (x : RowAt) → from_choice recs slot m s c ≡ Some x → InRun x
  choice_has slot m s c x h =
      let n = finds.nearest_is (interface_method_in recs slot c.instance m.name (option_map (subst_method (args_of c.instance)) (good_signature s))) (with_bases recs (open_parent recs c.of)) x h in
      interface_has slot c.instance m.name (option_map (subst_method (args_of c.instance)) (good_signature s)) n.0 x n.2

  -- ---- the rules

  all_found : (t b r : RowAt) → Every InRun (first_found recs t b r)
  unfolding first_found
  all_found t b r =
      all_if InRun (is_own_slot recs b && in_interface recs b) (flat_map (searched recs t b r) (listed (row_class recs r)))
      (λ h.
      all_option InRun (searched recs t b r) (row_class recs r)
      (λ c g.
      all_if InRun (is_base_of recs c t) (flat_map (found_for recs b (open_type recs c)) (only_interface recs (impl_type recs r)))
      (λ k. all_flat InRun (found_for recs b (open_type recs c)) (only_interface recs (impl_type recs r)) (λ e d. in_type c e))))
    where
      in_type : (c : RowAt) (e : TypeExpr) → Every InRun (found_for recs b (open_type recs c) e)
      in_type c e =
          all_option InRun (λ (owner : RowAt). flat_map (λ (m : MethodDefRow). flat_map (found_first recs b (open_type recs c) owner m) (implied recs e)) (listed (method_row_at recs b))) (type_of_method recs b)
          (λ owner f.
          all_option InRun (λ (m : MethodDefRow). flat_map (found_first recs b (open_type recs c) owner m) (implied recs e)) (method_row_at recs b)
          (λ m g.
          all_flat InRun (found_first recs b (open_type recs c) owner m) (implied recs e)
          (λ i d.
          all_if InRun (list_any (same_row owner) (listed (home_of recs i))) (listed (from_choice recs b m (type_of_row recs b) (choice (open_type recs c) i)))
          (λ k. all_listed InRun (from_choice recs b m (type_of_row recs b) (choice (open_type recs c) i)) (λ x h. choice_has b m (type_of_row recs b) (choice (open_type recs c) i) x h)))))

  all_answers : (t b r : RowAt) → Every InRun (interface_answer recs t b r)
  all_answers t b r =
      all_flat InRun (λ m. listed (option_and_then (class_dispatch recs (open_type recs t)) (slot_of recs m))) (first_found recs t b r)
      (λ m c.
      all_listed InRun (option_and_then (class_dispatch recs (open_type recs t)) (slot_of recs m))
      (λ x h. let s = and_then_some (class_dispatch recs (open_type recs t)) (slot_of recs m) x h in dispatched (open_type recs t) s.0 x s.2))

  all_class : (t b : RowAt) → Every InRun (class_answer recs t b)
  unfolding class_answer
  all_class t b =
      all_if InRun (is_own_slot recs b && not (in_interface recs b)) (listed (class_dispatch recs (open_type recs t) b))
      (λ h. all_listed InRun (class_dispatch recs (open_type recs t) b) (λ x e. dispatched (open_type recs t) b x e))

  marks_all : (xs : List RowAt) → Every InRun xs → Fine recs (map (marks_method recs) xs)
  marks_all xs h = every_map InRun (OfFact recs) (marks_method recs) xs (λ x e. method_fine recs records x e) h

  pub class_runs_fine : (t b : RowAt) → Fine recs (class_runs recs t b)
  unfolding class_runs
  class_runs_fine t b = marks_all (class_answer recs t b) (all_class t b)

  pub class_fills_fine : (t b : RowAt) → Fine recs (class_fills recs t b)
  unfolding class_fills
  class_fills_fine t b =
      all_if (OfFact recs) (answers_abstract recs t b) (flat_map (class_runs recs t) (asked_slot recs t b)) (λ e. all_flat (OfFact recs) (class_runs recs t) (asked_slot recs t b) (λ s c. class_runs_fine t s))

  pub interface_runs_fine : (t b r : RowAt) → Fine recs (interface_runs recs t b r)
  unfolding interface_runs
  interface_runs_fine t b r =
      marks_all (first_found recs t b r ++ interface_answer recs t b r) (all_join InRun (first_found recs t b r) (interface_answer recs t b r) (all_found t b r) (all_answers t b r))

  pub interface_fills_fine : (t b r : RowAt) → Fine recs (interface_fills recs t b r)
  unfolding interface_fills
  interface_fills_fine t b r =
      all_if (OfFact recs) (answers_abstract recs t b) (map (marks_method recs) (interface_answer recs t b r)) (λ e. marks_all (interface_answer recs t b r) (all_answers t b r))

  pub overridden_fine : (at : RowAt) (m : MethodDefRow) → Fine recs (overridden recs at m)
  overridden_fine at m =
      all_if (OfFact recs) (is_virtual m && not (is_new_slot m)) (map (marks_method recs) (listed (inherited recs at m)))
      (λ h. marks_all (listed (inherited recs at m)) (all_listed InRun (inherited recs at m) (λ x e. inherited_has at m x e)))

  -- ---- initializers

  initializer_has : (t x : RowAt) → initializer recs t ≡ Some x → InRun x
  unfolding initializer
  initializer_has t x h =
      let r = and_then_some (λ (rec : AsmRec). option_and_then (initializer_in recs t rec) (slice_get rec.type_def t.row)) (slice_get recs t.asm) x h in
      let d = and_then_some (initializer_in recs t r.0) (slice_get r.0.type_def t.row) x r.2 in
      let k = map_some (at_row t.asm) (find_in_run (is_initializer recs t.asm r.0) d.0.method_list_first d.0.method_list_end r.0.method_def) x d.2 in
      subst (λ (z : RowAt). InRun z) k.2
      (of_found recs (λ (r : AsmRec). r.type_def) (λ (x : TypeDefRow). x.method_list_first) (λ (x : TypeDefRow). x.method_list_end) (method_begins recs records) (is_initializer recs t.asm r.0) t.asm t.row k.0 r.0 d.0 r.0.method_def r.1
      d.1 k.1)

  pub initializer_fine : (t : Option RowAt) → Fine recs (initializer_of recs t)
  initializer_fine t =
      marks_all (listed (option_and_then (initializer recs) t))
      (all_listed InRun (option_and_then (initializer recs) t) (λ x h. let r = and_then_some (initializer recs) t x h in initializer_has r.0 x r.2))

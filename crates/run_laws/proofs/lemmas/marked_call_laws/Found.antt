-- What a search finds from a type of the core library is a method of the core library.
use Rattle.std.proofs.Common.{◌≡◌, ℕ, suc, Bool, true, false, List, [], ◌∷◌, map, Option, Some, None, ◌⊎◌, inl, inr, refl, sym, ap, ◌∙◌}
use Rattle.std.specs.Prelude.{IsTrue, slice_get, ◌&&◌, ◌||◌, if◌then◌else◌}
use Rattle.std.specs.List.{list_any, flat_map}
use Rattle.std.specs.Option.{option_map, option_and_then}
use Rattle.std.specs.Cmp.{first_so, second_so}
use Rattle.il_base.specs.declared.world_model.known.Known.{Known}
use Rattle.il_base.specs.declared.world_model.expr.TypeExpr.{TypeExpr}
use Rattle.il_base.specs.declared.world_model.expr.MethodUse.{MethodUse}
use Rattle.il_base.specs.declared.world_model.types.TypeDefRow.{TypeDefRow}
use Rattle.il_base.specs.declared.world_model.members.MethodDefRow.{MethodDefRow}
use Rattle.il_base.specs.declared.world_model.record.AsmRec.{AsmRec}
use Rattle.il_base.specs.world_model.Core.{same_name}
use Rattle.rules.specs.declared.link_rules.row_at.RowAt.{RowAt}
use Rattle.rules.specs.declared.link_rules.member_type.MethodType.{MethodType}
use Rattle.rules.specs.link_rules.Types.{at_row, or_else}
use Rattle.rules.specs.link_rules.Signatures.{subst_method}
use Rattle.rules.specs.link_rules.Members.{args_of, owns_method, is_method_type, type_count, with_bases, open_parent}
use Rattle.rules.specs.link_rules.Cycles.{listed, same_row, home_of}
use Rattle.rules.specs.link_rules.Linked.{assemblies, link_fault_of}
use Rattle.rules.specs.type_rules.Rows.{methods_of_type, run_places}
use Rattle.rules.specs.type_rules.Slots.{method_row_at, method_home, type_of_method, type_of_row, match_in, slot_of_row, slot_within, slot_of, is_slot, has_slot, owner_from}
use Rattle.rules.specs.type_rules.Dispatch.{Choice, have_method, is_instance_virtual, is_body, body_at, impl_in, slot_in, declares_slot, declares_in, class_method_in, class_dispatch, is_public_virtual, public_match_in, interface_method_in, from_choice, good_signature}
use Rattle.rules.specs.world_change_rules.Rows.{Impl, impls_at}
use Rattle.run_laws.specs.query_laws.Laws.{first_at}
use Rattle.run_laws.proofs.lemmas.query_laws.Slots.{match_is}
use Rattle.run_laws.proofs.lemmas.dispatch_laws.There.{IsMethodThere}
use Rattle.run_laws.proofs.lemmas.dispatch_laws.Impls.{first_some, of_impl, impl_is}
use Rattle.run_laws.proofs.lemmas.dispatch_laws.Classes.{slot_is}
use Rattle.base_laws.proofs.lemmas.type_laws.Within.{In, in_map, in_flat, in_listed}
use Rattle.base_laws.proofs.lemmas.type_laws.Places.{rows_decide}
use Rattle.base_laws.proofs.lemmas.walk_laws.Finds.{nearest_is}
use Rattle.run_laws.proofs.lemmas.marked_call_laws.Opened.{parent_home}
use Rattle.run_laws.proofs.lemmas.marked_call_laws.Core.{IsLast, IsCoreType, bases_core}

-- ---- lists

first_by : (T : RowAt → Bool) (x m : RowAt) (xs : List RowAt) (b : Bool) → T x ≡ b → (first_at T xs ≡ Some m → In m xs × (T m ≡ true)) → (if b then Some x else first_at T xs) ≡ Some m
    → In m (x ∷ xs) × (T m ≡ true)
first_by T x m xs true t more e = let same : x ≡ m = cc in (inl (sym same), ap T (sym same) ∙ t)
first_by T x m xs false t more e = let r = more e in (inr r.0, r.1)

first_is : (T : RowAt → Bool) (xs : List RowAt) (m : RowAt) → first_at T xs ≡ Some m → In m xs × (T m ≡ true)
first_is T [] m e = absurd (cc)
first_is T (x ∷ xs) m e = first_by T x m xs (T x) refl (first_is T xs m) e

some_by : (look : Impl → Option RowAt) (m : RowAt) (x : Impl) (xs : List Impl) (o : Option RowAt) → look x ≡ o → (first_some look xs ≡ Some m → (y : Impl) × (look y ≡ Some m))
    → or_else o (first_some look xs) ≡ Some m → (y : Impl) × (look y ≡ Some m)
some_by look m x xs None f more e = more e
some_by look m x xs (Some z) f more e = (x, f ∙ e)

some_is : (look : Impl → Option RowAt) (xs : List Impl) (m : RowAt) → first_some look xs ≡ Some m → (y : Impl) × (look y ≡ Some m)
some_is look [] m e = absurd (cc)
some_is look (x ∷ xs) m e = some_by look m x xs (look x) refl (some_is look xs m) e

any_by : {A : Type 0} (p : A → Bool) (x : A) (xs : List A) (b : Bool) → p x ≡ b → (list_any p xs ≡ true → (y : A) × In y xs × (p y ≡ true)) → (b || list_any p xs) ≡ true → (y : A) × In y (x ∷ xs) × (p y ≡ true)
any_by p x xs true e more h = (x, inl refl, e)
any_by p x xs false e more h = let m = more h in (m.0, inr m.1, m.2)

pub any_is : {A : Type 0} (p : A → Bool) (xs : List A) → list_any p xs ≡ true → (y : A) × In y xs × (p y ≡ true)
any_is p [] h = cc
any_is p (x ∷ xs) h = any_by p x xs (p x) refl (any_is p xs) h

pub or_is : (o p : Option RowAt) (m : RowAt) → or_else o p ≡ Some m → (o ≡ Some m) ⊎ (p ≡ Some m)
or_is None p m e = inr e
or_is (Some x) p m e = inl e

-- ---- methods of types

module _ (recs : List AsmRec) where
  asm_is : (m : RowAt) (a k : ℕ) → m ≡ at_row a k → m.asm ≡ a
  asm_is m a k e = ap (λ (x : RowAt). x.asm) e

  run_asm : (at m : RowAt) → In m (methods_of_type recs at) → m.asm ≡ at.asm
  unfolding methods_of_type
  run_asm at m h =
      let r = in_flat (λ (rec : AsmRec). flat_map (λ (t : TypeDefRow). map (at_row at.asm) (run_places t.method_list_first t.method_list_end rec.method_def)) (listed (slice_get rec.type_def at.row))) m (listed (slice_get recs at.asm)) h in
      let t = in_flat (λ (t : TypeDefRow). map (at_row at.asm) (run_places t.method_list_first t.method_list_end r.0.method_def)) m (listed (slice_get r.0.type_def at.row)) r.2 in
      let k = in_map (at_row at.asm) m (run_places t.0.method_list_first t.0.method_list_end r.0.method_def) t.2 in
      asm_is m at.asm k.0 k.2

  pub first_home : (T : RowAt → Bool) (m : RowAt) (o : Option RowAt) → option_and_then (λ (at : RowAt). first_at T (methods_of_type recs at)) o ≡ Some m
      → (home : RowAt) × (o ≡ Some home) × (m.asm ≡ home.asm) × (T m ≡ true)
  first_home T m None e = absurd (cc)
  first_home T m (Some home) e = let f = first_is T (methods_of_type recs home) m e in (home, refl, run_asm home m f.0, f.1)

  asm_by : (f : AsmRec → Option ℕ) (m o : RowAt) (x : Option AsmRec) → option_and_then (λ (rec : AsmRec). option_map (at_row m.asm) (f rec)) x ≡ Some o → m.asm ≡ o.asm
  asm_by f m o None e = absurd (cc)
  asm_by f m o (Some rec) e = here (f rec) e
    where
      here : (k : Option ℕ) → option_map (at_row m.asm) k ≡ Some o → m.asm ≡ o.asm
      here None e = absurd (cc)
      here (Some k) e = let same : at_row m.asm k ≡ o = cc in ap (λ (x : RowAt). x.asm) same

  owner_asm : (m o : RowAt) → type_of_method recs m ≡ Some o → m.asm ≡ o.asm
  owner_asm m o e = asm_by (λ (rec : AsmRec). owner_from owns_method m.row rec.type_def) m o (slice_get recs m.asm) e

  method_there : (m : RowAt) (o : Option MethodDefRow) → method_row_at recs m ≡ o → is_instance_virtual o ≡ true → IsMethodThere recs m
  method_there m None e h = absurd (cc)
  method_there m (Some d) e h = (d, e)

  row_there : (above : RowAt → Option RowAt) (m s : RowAt) (o : Option MethodDefRow) → method_row_at recs m ≡ o → option_and_then (slot_of_row recs above m) o ≡ Some s → IsMethodThere recs m
  row_there above m s None e h = absurd (cc)
  row_there above m s (Some d) e h = (d, e)

  pub slot_there : (m s : RowAt) → slot_of recs m ≡ Some s → IsMethodThere recs m
  unfolding slot_of slot_within
  slot_there m s h = row_there (slot_within recs (type_count recs)) m s (method_row_at recs m) refl h

  slotted : (slot m : RowAt) (o : Option RowAt) → slot_of recs m ≡ o → is_slot o slot ≡ true → IsMethodThere recs m
  slotted slot m None e h = absurd (cc)
  slotted slot m (Some s) e h = slot_there m s e

  -- ---- bodies of MethodImpl rows

  body_by : (e : TypeExpr) (at m : RowAt) (b : Bool) → is_body recs e at ≡ b → (if b then Some at else None) ≡ Some m → is_body recs e m ≡ true
  body_by e at m true is h = let same : at ≡ m = cc in ap (is_body recs e) (sym same) ∙ is
  body_by e at m false is h = absurd (cc)

  home_body : (e : TypeExpr) (m : RowAt) (o : Option RowAt) → option_and_then (body_at recs e) o ≡ Some m → is_body recs e m ≡ true
  home_body e m None h = absurd (cc)
  home_body e m (Some at) h = body_by e at m (is_body recs e at) refl h

  row_body : (e : TypeExpr) (m : RowAt) (o : Option RowAt) (b : Bool) → (if b then option_and_then (body_at recs e) o else None) ≡ Some m → is_body recs e m ≡ true
  row_body e m o true h = home_body e m o h
  row_body e m o false h = absurd (cc)

  rows_body : (e : TypeExpr) (declares : MethodUse → Bool) (m : RowAt) (o : Option RowAt) → option_and_then (λ (at : RowAt). first_some (of_impl recs e declares) (impls_at recs at)) o ≡ Some m → is_body recs e m ≡ true
  rows_body e declares m None h = absurd (cc)
  rows_body e declares m (Some at) h =
      let r = some_is (of_impl recs e declares) (impls_at recs at) m h in row_body e m (method_home recs r.0.body.method) (declares r.0.declaration) r.1

  pub impl_body : (e : TypeExpr) (declares : MethodUse → Bool) (m : RowAt) → impl_in recs declares e ≡ Some m → is_body recs e m ≡ true
  impl_body e declares m h = rows_body e declares m (home_of recs e) (sym (impl_is recs e declares) ∙ h)

  record Owned (e : TypeExpr) (m : RowAt) : Type 0 where
    of : TypeExpr
    above : In of (with_bases recs (open_parent recs e))
    home : RowAt
    is : home_of recs of ≡ Some home
    asm : m.asm ≡ home.asm

  body_owned : (e : TypeExpr) (m : RowAt) → have_method recs (with_bases recs (open_parent recs e)) m ≡ true → Owned e m
  body_owned e m h =
      let x = any_is (λ e. list_any (λ x. list_any (same_row x) (listed (type_of_method recs m))) (listed (home_of recs e))) (with_bases recs (open_parent recs e)) h in
      let o = any_is (λ x. list_any (same_row x) (listed (type_of_method recs m))) (listed (home_of recs x.0)) x.2 in
      let y = any_is (same_row o.0) (listed (type_of_method recs m)) o.2 in
      let same : o.0 ≡ y.0 = (rows_decide o.0 y.0).0 y.2 in
      record {
        of = x.0;
        above = x.1;
        home = o.0;
        is = in_listed o.0 (home_of recs x.0) o.1;
        asm = owner_asm m y.0 (in_listed y.0 (type_of_method recs m) y.1) ∙ ap (λ (z : RowAt). z.asm) (sym same);
      }

-- ---- from a type of the core library

module _ (inputs : List AsmRec) (sound : link_fault_of inputs ≡ None) where
  abbrev recs : List AsmRec
  recs = assemblies inputs

  abbrev Core : TypeExpr → Type 0
  Core e = IsCoreType inputs sound e

  -- a method that the core library has
  pub record CoreMethod (m : RowAt) : Type 0 where
    pub last : IsLast inputs sound m
    pub there : IsMethodThere recs m

  slot_core : (slot m : RowAt) (e : TypeExpr) → Core e → slot_in recs slot e ≡ Some m → CoreMethod m
  slot_core slot m e core h =
      let f = first_home recs (has_slot recs slot) m (home_of recs e) (sym (slot_is recs slot e) ∙ h) in
      record { last = ap suc f.2 ∙ core f.0 f.1; there = slotted recs slot m (slot_of recs m) refl f.3 }

  open_core : (e : TypeExpr) → Core e → Core (open_parent recs e)
  open_core e core at is = core at (sym (parent_home recs e) ∙ is)

  impl_core : (declares : MethodUse → Bool) (m : RowAt) (e : TypeExpr) → Core e → impl_in recs declares e ≡ Some m → CoreMethod m
  impl_core declares m e core h =
      let b = impl_body recs e declares m h in
      let virtual : IsTrue (is_instance_virtual (method_row_at recs m)) = first_so (is_instance_virtual (method_row_at recs m)) (have_method recs (with_bases recs (open_parent recs e)) m) b in
      let o = body_owned recs e m (second_so (is_instance_virtual (method_row_at recs m)) (have_method recs (with_bases recs (open_parent recs e)) m) b) in
      record {
        last = ap suc o.asm ∙ bases_core inputs sound (type_count recs) (open_parent recs e) o.of (open_core e core) o.above o.home o.is;
        there = method_there recs m (method_row_at recs m) refl virtual;
      }

  class_core : (slot m : RowAt) (e : TypeExpr) → Core e → class_method_in recs slot e ≡ Some m → CoreMethod m
  class_core slot m e core h =
      elim (or_is (impl_in recs (declares_slot recs slot) e) (slot_in recs slot e) m h) [
        | inl i ↦ impl_core (declares_slot recs slot) m e core i
        | inr i ↦ slot_core slot m e core i
      ]

  pub dispatch_core : (slot m : RowAt) (e : TypeExpr) → Core e → class_dispatch recs e slot ≡ Some m → CoreMethod m
  unfolding class_dispatch
  dispatch_core slot m e core h =
      let n = nearest_is (class_method_in recs slot) (with_bases recs e) m h in
      class_core slot m n.0 (bases_core inputs sound (type_count recs) e n.0 core n.1) n.2

  -- ---- an interface slot

  abbrev of_type : List TypeExpr → MethodType → Option (Known MethodType) → Bool
  of_type targs wanted None = false
  of_type targs wanted (Some m) = is_method_type targs wanted m

  abbrev fits_at : (MethodDefRow → Bool) → List TypeExpr → List ℕ → MethodType → RowAt → Bool
  fits_at test targs name wanted m = list_any (λ (d : MethodDefRow). same_name d.name name && (test d && of_type targs wanted (type_of_row recs m))) (listed (method_row_at recs m))

  fits_there : (m : RowAt) (f : MethodDefRow → Bool) (o : Option MethodDefRow) → method_row_at recs m ≡ o → list_any f (listed o) ≡ true → IsMethodThere recs m
  fits_there m f None e h = absurd (cc)
  fits_there m f (Some d) e h = (d, e)

  match_core : (test : MethodDefRow → Bool) (name : List ℕ) (wanted : MethodType) (m : RowAt) (e : TypeExpr) → Core e → match_in recs test name wanted e ≡ Some m → CoreMethod m
  match_core test name wanted m e core h =
      let f = first_home recs (fits_at test (args_of e) name wanted) m (home_of recs e) (sym (match_is recs test name wanted e) ∙ h) in
      record {
        last = ap suc f.2 ∙ core f.0 f.1;
        there = fits_there m (λ (d : MethodDefRow). same_name d.name name && (test d && of_type (args_of e) wanted (type_of_row recs m))) (method_row_at recs m) refl f.3;
      }

  public_core : (name : List ℕ) (wanted : Option MethodType) (m : RowAt) (e : TypeExpr) → Core e → public_match_in recs name wanted e ≡ Some m → CoreMethod m
  public_core name None m e core h = absurd (cc)
  public_core name (Some wanted) m e core h = match_core is_public_virtual name wanted m e core h

  interface_core : (slot : RowAt) (instance : TypeExpr) (name : List ℕ) (wanted : Option MethodType) (m : RowAt) (e : TypeExpr) → Core e → interface_method_in recs slot instance name wanted e ≡ Some m → CoreMethod m
  interface_core slot instance name wanted m e core h =
      elim (or_is (impl_in recs (declares_in recs slot instance (args_of e)) e) (public_match_in recs name wanted e) m h) [
        | inl i ↦ impl_core (declares_in recs slot instance (args_of e)) m e core i
        | inr i ↦ public_core name wanted m e core i
      ]

  pub choice_core : (slot : RowAt) (d : MethodDefRow) (signature : Option (Known MethodType)) (c : Choice) (m : RowAt) → Core c.of → from_choice recs slot d signature c ≡ Some m → CoreMethod m
  choice_core slot d signature c m core h =
      let name : List ℕ = d.name in
      let wanted : Option MethodType = option_map (subst_method (args_of c.instance)) (good_signature signature) in
      let n = nearest_is (interface_method_in recs slot c.instance name wanted) (with_bases recs (open_parent recs c.of)) m h in
      interface_core slot c.instance name wanted m n.0 (bases_core inputs sound (type_count recs) (open_parent recs c.of) n.0 (open_core c.of core) n.1) n.2

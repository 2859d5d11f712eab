-- Types of one definition are answered alike where a search looks at definitions alone.
use Rattle.std.proofs.Common.{◌≡◌, ℕ, zero, suc, Bool, List, [], ◌∷◌, Option, Some, None, refl, sym, ap, ◌∙◌}
use Rattle.std.specs.Prelude.{slice_get, ◌||◌, ◌&&◌, if◌then◌else◌}
use Rattle.std.specs.List.{list_any}
use Rattle.std.specs.Option.{option_map, option_and_then}
use Rattle.il_base.specs.declared.world_model.expr.TypeExpr.{TypeExpr}
use Rattle.il_base.specs.declared.world_model.expr.MethodUse.{MethodUse}
use Rattle.il_base.specs.declared.world_model.record.AsmRec.{AsmRec}
use Rattle.il_base.specs.world_model.Exprs as exprs
use Rattle.rules.specs.declared.link_rules.row_at.RowAt.{RowAt}
use Rattle.rules.specs.link_rules.Types.{or_else}
use Rattle.rules.specs.link_rules.Members.{args_of, base_at, base_of, bases_from, type_count, with_bases, open_parent}
use Rattle.rules.specs.link_rules.Cycles.{listed, same_row, home_of}
use Rattle.rules.specs.link_rules.Linked.{assemblies, link_fault_of}
use Rattle.rules.specs.type_rules.Slots.{method_row_at, method_home, type_of_method, nearest}
use Rattle.rules.specs.type_rules.Dispatch.{have_method, is_instance_virtual, body_at, impl_in, slot_in_run, slot_in, declares_slot, class_method_in, class_dispatch}
use Rattle.rules.specs.world_change_rules.Rows.{Impl, impls_at}
use Rattle.run_laws.proofs.lemmas.dispatch_laws.Impls.{first_some, of_impl, impl_is}
use Rattle.base_laws.proofs.lemmas.type_laws.Upwards.{has_base, kept_home}
use Rattle.base_laws.proofs.lemmas.type_laws.Ways.{top, top_home, top_class, arrays}
use Rattle.run_laws.proofs.lemmas.marked_call_laws.Opened.{parent_home}

module _ (inputs : List AsmRec) (sound : link_fault_of inputs ≡ None) where
  abbrev recs : List AsmRec
  recs = assemblies inputs

  abbrev pub OneHome : TypeExpr → TypeExpr → Type 0
  OneHome x y = home_of recs x ≡ home_of recs y

  -- ---- bases

  abbrev rest : ℕ → Option TypeExpr → List TypeExpr
  rest n o = elim o [ None ↦ [] | Some b ↦ bases_from recs n b ]

  abbrev put : TypeExpr → TypeExpr → TypeExpr
  put x b = exprs.subst (args_of x) [] b

  base_home : (x b : TypeExpr) (home : RowAt) → base_at recs home ≡ Some b → home_of recs (put x b) ≡ home_of recs b
  base_home x b home is = kept_home recs (top inputs sound) (top_home inputs sound) (top_class inputs sound) (arrays inputs sound) (args_of x) b (has_base recs home b is).named

  -- the base of a type, by its definition's
  base_is : (x : TypeExpr) (o : Option RowAt) → home_of recs x ≡ o → base_of recs x ≡ option_map (put x) (option_and_then (base_at recs) o)
  unfolding base_of
  base_is x o is = ap (λ (h : Option RowAt). option_map (put x) (option_and_then (base_at recs) h)) is

  module _ (A : Type 0) (answer : List TypeExpr → A) where
    -- a search that goes on to the base
    record Goes (here : TypeExpr → A → A) : Type 0 where
      next : (x : TypeExpr) (xs : List TypeExpr) → answer (x ∷ xs) ≡ here x (answer xs)
      alike : (x y : TypeExpr) → OneHome x y → here x ≡ here y

    module _ (here : TypeExpr → A → A) (g : Goes here) where
      based_by : (n : ℕ) (x y : TypeExpr) (home : RowAt) (o : Option TypeExpr) → base_at recs home ≡ o → ((a b : TypeExpr) → OneHome a b → answer (bases_from recs n a) ≡ answer (bases_from recs n b))
          → answer (rest n (option_map (put x) o)) ≡ answer (rest n (option_map (put y) o))
      based_by n x y home None at again = refl
      based_by n x y home (Some b) at again = again (put x b) (put y b) (base_home x b home at ∙ sym (base_home y b home at))

      homed_by : (n : ℕ) (x y : TypeExpr) (o : Option RowAt) → ((a b : TypeExpr) → OneHome a b → answer (bases_from recs n a) ≡ answer (bases_from recs n b))
          → answer (rest n (option_map (put x) (option_and_then (base_at recs) o))) ≡ answer (rest n (option_map (put y) (option_and_then (base_at recs) o)))
      homed_by n x y None again = refl
      homed_by n x y (Some home) again = based_by n x y home (base_at recs home) refl again

      step : (n : ℕ) (x y : TypeExpr) → OneHome x y → ((a b : TypeExpr) → OneHome a b → answer (bases_from recs n a) ≡ answer (bases_from recs n b))
          → answer (x ∷ rest n (base_of recs x)) ≡ answer (y ∷ rest n (base_of recs y))
      step n x y same again =
          g.next x (rest n (base_of recs x))
          ∙ (λ i. g.alike x y same i (answer (rest n (base_is x (home_of recs y) same i))))
          ∙ ap (here y) (homed_by n x y (home_of recs y) again)
          ∙ ap (λ (o : Option TypeExpr). here y (answer (rest n o))) (sym (base_is y (home_of recs y) refl))
          ∙ sym (g.next y (rest n (base_of recs y)))

      bases_alike : (n : ℕ) (x y : TypeExpr) → OneHome x y → answer (bases_from recs n x) ≡ answer (bases_from recs n y)
      unfolding bases_from
      bases_alike zero x y same = refl
      bases_alike (suc n) x y same = step n x y same (λ a b h. bases_alike n a b h)

  pub any_alike : (t : TypeExpr → Bool) → ((x y : TypeExpr) → OneHome x y → t x ≡ t y) → (n : ℕ) (x y : TypeExpr) → OneHome x y → list_any t (bases_from recs n x) ≡ list_any t (bases_from recs n y)
  any_alike t alike = bases_alike Bool (list_any t) (λ x b. t x || b) (record { next = λ x xs. refl; alike = λ x y same i b. alike x y same i || b })

  nearest_goes : (look : TypeExpr → Option RowAt) → ((x y : TypeExpr) → OneHome x y → look x ≡ look y) → Goes (Option RowAt) (nearest look) (λ x o. or_else (look x) o)
  unfolding nearest
  nearest_goes look alike = record { next = λ x xs. refl; alike = λ x y same i o. or_else (alike x y same i) o }

  pub nearest_alike : (look : TypeExpr → Option RowAt) → ((x y : TypeExpr) → OneHome x y → look x ≡ look y) → (n : ℕ) (x y : TypeExpr) → OneHome x y
      → nearest look (bases_from recs n x) ≡ nearest look (bases_from recs n y)
  nearest_alike look alike = bases_alike (Option RowAt) (nearest look) (λ x o. or_else (look x) o) (nearest_goes look alike)

  -- ---- MethodImpl rows

  abbrev has_here : RowAt → TypeExpr → Bool
  has_here at e = list_any (λ x. list_any (same_row x) (listed (type_of_method recs at))) (listed (home_of recs e))

  have_alike : (at : RowAt) (x y : TypeExpr) → OneHome x y → have_method recs (with_bases recs (open_parent recs x)) at ≡ have_method recs (with_bases recs (open_parent recs y)) at
  have_alike at x y same =
      any_alike (has_here at) (λ a b h. ap (λ (o : Option RowAt). list_any (λ x. list_any (same_row x) (listed (type_of_method recs at))) (listed o)) h) (type_count recs)
      (open_parent recs x) (open_parent recs y) (parent_home recs x ∙ same ∙ sym (parent_home recs y))

  body_alike : (x y : TypeExpr) → OneHome x y → body_at recs x ≡ body_at recs y
  body_alike x y same = λ i at. if is_instance_virtual (method_row_at recs at) && have_alike at x y same i then Some at else None

  abbrev impl_by : (MethodUse → Bool) → (RowAt → Option RowAt) → Impl → Option RowAt
  impl_by declares body r = if declares r.declaration then option_and_then body (method_home recs r.body.method) else None

  of_alike : (declares : MethodUse → Bool) (x y : TypeExpr) → OneHome x y → of_impl recs x declares ≡ of_impl recs y declares
  of_alike declares x y same = λ i r. impl_by declares (body_alike x y same i) r

  pub impl_alike : (declares : MethodUse → Bool) (x y : TypeExpr) → OneHome x y → impl_in recs declares x ≡ impl_in recs declares y
  impl_alike declares x y same =
      impl_is recs x declares ∙ (λ i. option_and_then (λ (at : RowAt). first_some (of_alike declares x y same i) (impls_at recs at)) (same i)) ∙ sym (impl_is recs y declares)

  -- ---- class slots

  slot_alike : (slot : RowAt) (x y : TypeExpr) → OneHome x y → slot_in recs slot x ≡ slot_in recs slot y
  unfolding slot_in
  slot_alike slot x y same =
      ap (option_and_then (λ (at : RowAt). option_and_then (λ (rec : AsmRec). option_and_then (slot_in_run recs slot at rec) (slice_get rec.type_def at.row)) (slice_get recs at.asm))) same

  class_alike : (slot : RowAt) (x y : TypeExpr) → OneHome x y → class_method_in recs slot x ≡ class_method_in recs slot y
  class_alike slot x y same = λ i. or_else (impl_alike (declares_slot recs slot) x y same i) (slot_alike slot x y same i)

  pub dispatch_alike : (slot : RowAt) (x y : TypeExpr) → OneHome x y → class_dispatch recs x slot ≡ class_dispatch recs y slot
  unfolding class_dispatch
  dispatch_alike slot x y same = nearest_alike (class_method_in recs slot) (class_alike slot) (type_count recs) x y same

-- An interface row that goes names an interface that isn't kept, and implies none that is.
use Rattle.std.proofs.Common.{◌≡◌, ℕ, zero, suc, ◌+◌, ◌<◌, ◌≤◌, Bool, true, false, List, [], ◌∷◌, Option, Some, None, ◌⊎◌, inl, inr, refl, sym, ap, subst, ◌∙◌, arith}
use Rattle.std.specs.Prelude.{IsTrue, slice_get, ◌==◌, if◌then◌else◌}
use Rattle.std.specs.List.{list_any, flat_map}
use Rattle.std.proofs.lemmas.Bool.{true≢false, and_from, or_left, cases_lt}
use Rattle.il_base.specs.declared.table.TheConstants.{TYPE_DEF}
use Rattle.il_base.specs.declared.world_model.expr.TypeExpr.{TypeExpr}
use Rattle.il_base.specs.declared.world_model.types.TypeDefRow.{TypeDefRow}
use Rattle.il_base.specs.declared.world_model.types.InterfaceImplRow.{InterfaceImplRow}
use Rattle.il_base.specs.declared.world_model.record.AsmRec.{AsmRec}
use Rattle.il_base.specs.world_model.Tokens.{token_of}
use Rattle.il_base.specs.world_model.Worlds.{type_id}
use Rattle.rules.specs.declared.link_rules.row_at.RowAt.{RowAt}
use Rattle.rules.specs.link_rules.Types.{at_row}
use Rattle.rules.specs.link_rules.Signatures.{token_type}
use Rattle.rules.specs.link_rules.Members.{good_type, type_count}
use Rattle.rules.specs.link_rules.Cycles.{listed, led_to, same_row, home_of, is_interface, only_interface, interface_of, interface_rows}
use Rattle.rules.specs.link_rules.Linked.{assemblies, link_fault_of}
use Rattle.rules.specs.type_rules.Rows.{rec_at, each_from}
use Rattle.base_laws.proofs.lemmas.type_laws.Within.{In, in_any, any_in, in_front, in_behind, listed_in, flat_in}
use Rattle.base_laws.proofs.lemmas.type_laws.Reaching.{Leads, Walks, walks, found, Led, led}
use Rattle.base_laws.proofs.lemmas.type_laws.Places.{rows_decide, IsType, type_at, place_has}
use Rattle.base_laws.proofs.lemmas.type_laws.Upwards.{ways, to_interface, interface_step}
use Rattle.base_laws.proofs.lemmas.type_laws.Ways.{top, home_of_type, no_long_way}
use Rattle.descriptor_file.specs.declared.root.Root.{Root}
use Rattle.rules.specs.mark_rules.Facts.{Fact}
use Rattle.rules.specs.mark_rules.Facts.Fact.{marked}
use Rattle.rules.specs.mark_rules.Places.{impl_item}
use Rattle.rules.specs.mark_rules.Naming.{of_expr}
use Rattle.rules.specs.mark_rules.Types.{implies, implies_one, row_for, rows_for}
use Rattle.rules.specs.change_rules.Change.{Keep}
use Rattle.rules.specs.world_change_rules.Places.{keeps_type_row}
use Rattle.run_laws.specs.subtype_laws.Gone.{KeepsImplied}
use Rattle.run_laws.specs.marked_laws.Flags.{HasMarks, keep_of, kept_of}
use Rattle.run_laws.proofs.lemmas.marked_laws.Closing.{rows_give}
use Rattle.run_laws.proofs.lemmas.marked_laws.Flags.{typ_has}
use Rattle.run_laws.proofs.lemmas.marked_laws.Places.{type_home_of}
use Rattle.run_laws.proofs.lemmas.marked_laws.Rows.{contained}

-- ---- what rows give, by their numbers

pub each_in : {A B : Type 0} (f : ℕ → A → List B) (i n : ℕ) (rows : List A) (x : A) (y : B) → slice_get rows n ≡ Some x → In y (f (i + n) x) → In y (each_from f i rows)
each_in f i n [] x y e h = absurd (cc)
each_in f i zero (z ∷ rows) x y e h =
    let same : z ≡ x = cc in
    let none : i + 0 ≡ i = omega arith in
    in_front y (f i z) (each_from f (suc i) rows) (subst (λ w. In y (f i w)) (sym same) (subst (λ k. In y (f k x)) none h))
each_in f i (suc n) (z ∷ rows) x y e h =
    let next : i + suc n ≡ suc i + n = omega arith in
    in_behind y (f i z) (each_from f (suc i) rows) (each_in f (suc i) n rows x y e (subst (λ k. In y (f k x)) next h))

module _ (inputs : List AsmRec) (sound : link_fault_of inputs ≡ None) where
  abbrev recs : List AsmRec
  recs = assemblies inputs

  -- ---- interfaces that are led to are implied

  raise : (n : ℕ) (x : RowAt) → Walks (interface_rows recs) n x → Walks (ways recs (top inputs sound)) n x
  raise zero x w = tt
  raise (suc n) x w = (w.0, to_interface recs (top inputs sound) x w.0 w.1, raise n w.0 w.2)

  near_by : (n : ℕ) (h y : RowAt) → IsType recs h → Leads (interface_rows recs) n h y → (type_count recs < n) ⊎ (n ≤ type_count recs) → In y (implies recs h)
  near_by n h y p l (inl lt) = absurd (no_long_way inputs sound h p (raise (type_count recs) h (walks (interface_rows recs) (type_count recs) n h y (omega (arith, lt)) l)))
  near_by n h y p l (inr le) = found same_row rows_decide (interface_rows recs) (type_count recs) n h y (h ∷ []) le (inl refl) l

  led_type : (n : ℕ) (h y : RowAt) → IsType recs h → Leads (interface_rows recs) n h y → IsType recs y
  led_type zero h y p l = subst (IsType recs) l p
  led_type (suc n) h y p l =
      let s = interface_step recs h l.0 l.1 in
      led_type n l.0 y (home_of_type inputs sound s.0 l.0 s.2) l.2

  record Implied (h y : RowAt) : Type 0 where
    within : In y (implies recs h)
    is : IsType recs y

  implied_by : (h y : RowAt) → IsType recs h → (l : Led same_row rows_decide (interface_rows recs) (h ∷ []) y) → In l.from (h ∷ []) → Implied h y
  implied_by h y p l (inl same) =
      let way : Leads (interface_rows recs) l.steps h y = subst (λ (x : RowAt). Leads (interface_rows recs) l.steps x y) same l.leads in
      record { within = near_by l.steps h y p way (cases_lt (type_count recs) l.steps); is = led_type l.steps h y p way }
  implied_by h y p l (inr i) = absurd i

  implied : (n : ℕ) (h y : RowAt) → IsType recs h → IsTrue (list_any (same_row y) (led_to same_row (interface_rows recs) n (h ∷ []))) → Implied h y
  implied n h y p t = let l = led same_row rows_decide (interface_rows recs) n (h ∷ []) y (in_any same_row rows_decide y _ t) in implied_by h y p l l.is

  one_implied : (e : TypeExpr) (h y : RowAt) → is_interface recs e ≡ true → home_of recs e ≡ Some h → In y (implies recs h) → implies_one recs e y ≡ true
  one_implied e h y i is within =
      and_from (is_interface recs e) (list_any (λ (at : RowAt). list_any (same_row y) (implies recs at)) (listed (home_of recs e))) i
      (ap (λ o. list_any (λ (at : RowAt). list_any (same_row y) (implies recs at)) (listed o)) is ∙ or_left (list_any (same_row y) (implies recs h)) false (any_in same_row rows_decide y (implies recs h) within))

  module _ (entry : Option RowAt) (roots : List Root) (has : Fact → Bool) (m : HasMarks recs entry roots has) where
    abbrev k : Keep
    k = keep_of recs has

    -- ---- the row is among those that a marked type and a marked interface give

    only_by : (x e : TypeExpr) (b : Bool) → is_interface recs x ≡ b → In e (if b then x ∷ [] else []) → (x ≡ e) × (is_interface recs e ≡ true)
    only_by x e true is (inl same) = (sym same, ap (is_interface recs) same ∙ is)
    only_by x e true is (inr i) = absurd i
    only_by x e false is i = absurd i

    -- what a row gives: it is of the class, and names the interface
    record Names (row : InterfaceImplRow) (token : ℕ) (o : Option TypeExpr) (e : TypeExpr) : Type 0 where
      of_class : (row.class == token) ≡ true
      names : o ≡ Some e
      interface : is_interface recs e ≡ true

    names_one : (row : InterfaceImplRow) (token : ℕ) (o : Option TypeExpr) (e : TypeExpr) → (row.class == token) ≡ true → In e (only_interface recs o) → Names row token o e
    names_one row token None e c i = absurd i
    names_one row token (Some x) e c i = let p = only_by x e (is_interface recs x) refl i in record { of_class = c; names = ap Some p.0; interface = p.1 }

    names_by : (row : InterfaceImplRow) (token : ℕ) (o : Option TypeExpr) (e : TypeExpr) (b : Bool) → (row.class == token) ≡ b → In e (if b then only_interface recs o else []) → Names row token o e
    names_by row token o e true c i = names_one row token o e c i
    names_by row token o e false c i = absurd i

    row_gives_item : (at y : RowAt) (rec : AsmRec) (n : ℕ) (row : InterfaceImplRow) (e : TypeExpr) → Names row (token_of TYPE_DEF (suc at.row)) (good_type (token_type recs at.asm rec row.interface)) e → implies_one recs e y ≡ true
        → In (marked (impl_item recs (at_row at.asm n))) (row_for recs at y rec n row)
    row_gives_item at y rec n row e names one =
        let item : Fact = marked (impl_item recs (at_row at.asm n)) in
        subst (λ (b : Bool). In item (if b then flat_map (λ e. if implies_one recs e y then item ∷ of_expr e else []) (listed (good_type (token_type recs at.asm rec row.interface))) else [])) (sym names.of_class)
        (flat_in (λ e. if implies_one recs e y then item ∷ of_expr e else []) item e (listed (good_type (token_type recs at.asm rec row.interface))) (listed_in e (good_type (token_type recs at.asm rec row.interface)) names.names)
        (subst (λ (b : Bool). In item (if b then item ∷ of_expr e else [])) (sym one) (inl refl)))

    in_rows_for : (at y : RowAt) (rec : AsmRec) (n : ℕ) (row : InterfaceImplRow) → slice_get recs at.asm ≡ Some rec → slice_get rec.interface_impl n ≡ Some row
        → In (marked (impl_item recs (at_row at.asm n))) (row_for recs at y rec n row) → In (marked (impl_item recs (at_row at.asm n))) (rows_for recs at y)
    unfolding rows_for
    in_rows_for at y rec n row s r i =
        let item : Fact = marked (impl_item recs (at_row at.asm n)) in
        let z : n ≡ 0 + n = omega arith in
        flat_in (λ (rec : AsmRec). each_from (row_for recs at y rec) 0 rec.interface_impl) item rec (listed (rec_at recs at)) (listed_in rec (rec_at recs at) s)
        (each_in (row_for recs at y rec) 0 n rec.interface_impl row item r (subst (λ (j : ℕ). In item (row_for recs at y rec j row)) z i))

    -- so a kept interface, or one that it implies, keeps the row
    row_kept : (at home y : RowAt) (rec : AsmRec) (t : TypeDefRow) (n steps : ℕ) (row : InterfaceImplRow) (e : TypeExpr) → IsTrue (keeps_type_row k recs at) → slice_get recs at.asm ≡ Some rec → slice_get rec.type_def at.row ≡ Some t
        → slice_get rec.interface_impl n ≡ Some row → In e (interface_of recs at.asm rec (token_of TYPE_DEF (suc at.row)) row) → home_of recs e ≡ Some home
        → IsTrue (list_any (same_row y) (led_to same_row (interface_rows recs) steps (home ∷ []))) → IsTrue (keeps_type_row k recs y) → IsTrue (kept_of recs has (at_row at.asm n))
    row_kept at home y rec t n steps row e h s r g i is led kept =
        let names = names_by row (token_of TYPE_DEF (suc at.row)) (good_type (token_type recs at.asm rec row.interface)) e (row.class == token_of TYPE_DEF (suc at.row)) refl i in
        let p = implied steps home y (home_of_type inputs sound e home is) led in
        let there = type_at recs y p.is in
        let other = place_has there.rec.type_def y.row there.below in
        rows_give recs entry roots has m (type_id recs at.asm at.row) (type_id recs y.asm y.row) at y (marked (impl_item recs (at_row at.asm n))) (typ_has recs has (type_id recs at.asm at.row) h) (typ_has recs has (type_id recs y.asm y.row) kept)
        (type_home_of recs at rec s t r) (type_home_of recs y there.rec there.there other.0 other.1)
        (in_rows_for at y rec n row s g (row_gives_item at y rec n row e names (one_implied e home y names.interface is p.within))) refl

    gone_by : (at home y : RowAt) (rec : AsmRec) (t : TypeDefRow) (n steps : ℕ) (row : InterfaceImplRow) (e : TypeExpr) (b : Bool) → IsTrue (keeps_type_row k recs at) → slice_get recs at.asm ≡ Some rec → slice_get rec.type_def at.row ≡ Some t
        → slice_get rec.interface_impl n ≡ Some row → kept_of recs has (at_row at.asm n) ≡ false → In e (interface_of recs at.asm rec (token_of TYPE_DEF (suc at.row)) row) → home_of recs e ≡ Some home
        → IsTrue (list_any (same_row y) (led_to same_row (interface_rows recs) steps (home ∷ []))) → keeps_type_row k recs y ≡ b → b ≡ false
    gone_by at home y rec t n steps row e true h s r g none i is led kept = absurd (true≢false (sym (row_kept at home y rec t n steps row e h s r g i is led kept) ∙ none))
    gone_by at home y rec t n steps row e false h s r g none i is led kept = refl

    pub interfaces_implied : KeepsImplied k (kept_of recs has) recs
    interfaces_implied = record {
      gone = λ at rec t n row e h s r g none c steps home y is led.
          gone_by at home y rec t n steps row e (keeps_type_row k recs y) h s r g none (contained (interface_of recs at.asm rec (token_of TYPE_DEF (suc at.row)) row) e c) is led refl;
    }

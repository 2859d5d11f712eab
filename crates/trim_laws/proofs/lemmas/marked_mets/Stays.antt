-- Types that stay: those of inputs are kept.
use Rattle.std.proofs.Common.{◌≡◌, ◌<◌, ◌≤◌, ℕ, suc, List, length, Bool, true, false, Option, Some, sym, ap, ◌∙◌, arith}
use Rattle.std.specs.Prelude.{◌==◌, ◌||◌}
use Rattle.std.specs.List.{Contains, list_any}
use Rattle.std.specs.Option.{is_some}
use Rattle.std.proofs.lemmas.Bool.{ne_eqb}
use Rattle.il_base.specs.declared.ids.TypeId.{TypeId}
use Rattle.il_base.specs.declared.ids.Item.TheVariants as item
use Rattle.descriptor_file.specs.declared.root.Root.{Root}
use Rattle.il_base.specs.declared.world_model.expr.TypeExpr.{TypeExpr}
use Rattle.il_base.specs.declared.world_model.record.AsmRec.{AsmRec}
use Rattle.il_base.specs.world_model.Worlds.{types_in, type_id}
use Rattle.rules.specs.declared.link_rules.row_at.RowAt.{RowAt}
use Rattle.rules.specs.link_rules.Members.{type_home}
use Rattle.rules.specs.link_rules.Cycles.{listed}
use Rattle.base_laws.proofs.lemmas.type_laws.Places.{home_is}
use Rattle.base_laws.proofs.lemmas.known_laws.Lists.{to_map, to_flat}
use Rattle.rules.specs.mark_rules.Facts.{Fact}
use Rattle.rules.specs.mark_rules.Facts.Fact.{marked}
use Rattle.rules.specs.mark_rules.Marking.{Marks}
use Rattle.rules.specs.mark_rules.Naming as naming
use Rattle.rules.specs.mark_rules.Naming.{mark_types, of_expr, of_exprs}
use Rattle.rules.specs.mark_rules.Places.{row_of, is_core}
use Rattle.rules.specs.merge_rules.Absent.{type_count}
use Rattle.rules.specs.merge_rules.Numbers.{Kept}
use Rattle.merge_laws.specs.merged_owners.Laws.{AreKept}
use Rattle.merge_laws.proofs.lemmas.merged_owners.Every.{Every}
use Rattle.merge_laws.proofs.lemmas.merged_owners.Homes.{not_before}
use Rattle.merge_laws.proofs.lemmas.merged_references.Rows.{under}

or_none : (b : Bool) → b ≡ false → (b || false) ≡ true → ⊥
or_none true e h = absurd (cc)
or_none false e h = absurd (cc)

module _ (recs : List AsmRec) (kept : Kept) where
  abbrev pub Stays : TypeId → Type 0
  Stays t = (at : RowAt) → type_home recs t ≡ Some at → suc at.asm < length recs → kept (item.Typ t) ≡ true

  abbrev pub StayAll : List TypeId → Type 0
  StayAll ts = Every Stays ts

  -- each type that it names
  abbrev pub Stay : TypeExpr → Type 0
  Stay e = StayAll (naming.types_in e)

  -- ---- types that are of no input

  pub core_stays : (t : TypeId) → is_core recs (item.Typ t) ≡ true → Stays t
  unfolding is_core row_of
  core_stays t h at home lt =
      absurd
      (or_none (suc at.asm == length recs) (ne_eqb (suc at.asm) (length recs) (λ e. omega (arith, lt, e)))
      (sym (ap (λ (o : Option RowAt). list_any (λ (r : RowAt). suc r.asm == length recs) (listed o)) home) ∙ h))

  -- a row of the last assembly
  pub last_stays : (a k : ℕ) → suc a ≡ length recs → Stays (type_id recs a k)
  last_stays a k e at home lt = let le = not_before types_in recs 0 a k at home in absurd (omega (arith, le, e, lt))

  -- what is after all types of the world
  pub past_stays : (t : TypeId) → type_count recs ≤ t.0 → Stays t
  past_stays t le at home lt =
      let s = home_is recs 0 t.0 at home in
      let u = under recs s.asm at.row s.rec s.there s.below in
      absurd (omega (arith, le, s.id, u))

  -- ---- what is marked

  module _ (entry : Option RowAt) (roots : List Root) (stays : AreKept recs entry roots kept) where
    abbrev pub Needed : List Fact → Type 0
    Needed fs = (f : Fact) → Contains fs f → Marks recs entry roots f

    pub marked_stays : (t : TypeId) → Marks recs entry roots (marked (item.Typ t)) → Stays t
    unfolding row_of
    marked_stays t h at home lt = stays (item.Typ t) (ap (λ (o : Option RowAt). is_some o) home) h

    pub types_stay : (ts : List TypeId) → Needed (mark_types ts) → StayAll ts
    types_stay ts h = record { each = λ t c. marked_stays t (h (marked (item.Typ t)) (to_map (λ u. marked (item.Typ u)) ts t c)) }

    pub expr_stays : (e : TypeExpr) → Needed (of_expr e) → Stay e
    expr_stays e h = types_stay (naming.types_in e) h

    pub exprs_stay : (es : List TypeExpr) → Needed (of_exprs es) → Every Stay es
    exprs_stay es h = record { each = λ e c. expr_stays e (λ f d. h f (to_flat of_expr es f (record { item = e; there = c; inside = d }))) }
